-- What a note leaves in the keeping memo.
use Rattle.std.proofs.Common.{◌≡◌, ◌≢◌, ℕ, ◌<◌, ◌≤◌, Bool, true, List, [], ◌∷◌, ◌++◌, length, set, is_some, None, Option, sym, refl, ap, ◌∙◌, arith}
use Rattle.std.proofs.lemmas.List.{map-append, length-map, get_or-map}
use Rattle.std.proofs.lemmas.List.Quantifiers.{all_pairs_push}
use Rattle.std.proofs.Math.Seq.{map-set_same}
use Rattle.std.proofs.lemmas.Bool.{both_ways}
use Rattle.arrays.specs.Lists.{items_of}
use Rattle.memos.specs.declared.pair.Pair.{Pair}
use Rattle.memos.specs.declared.keeping.Keeping.{Keeping}
use Rattle.memos.specs.Rows.{verdict_among, numbers_of, Apart}
use Rattle.memos.specs.Keeps.{keeping_held}
use Rattle.memos.specs.Notes.{KeepingNotes}
use Rattle.memos.proofs.Verdicts.{Lacks, Found, verdict_found, verdict_missing, verdict_set, verdict_push}
use Rattle.memos.proofs.Counts.{row_holding}

some_none : {o : Option Bool} → is_some o ≡ true → o ≡ None → ⊥
some_none {o} s e = both_ways (is_some o) (ap is_some e) s

module _ (memo : Keeping) (n : ℕ) (v : Bool) where
  abbrev pairs : List Pair
  pairs = items_of memo.pairs

  abbrev noted : Pair
  noted = record { number = n; verdict = v }

  -- the number's own pair, at the place i, is replaced
  module _ (i : ℕ) (there : Found pairs i n) (after : List Pair) (is : after ≡ set pairs i noted) where
    pub replaced_notes : KeepingNotes (keeping_held memo) n v (verdict_among after)
    replaced_notes = rw is (record {
      count = length pairs;
      holding = row_holding pairs memo.apart;
      replaced = λ _ k. verdict_set pairs i n v k there;
      taken = λ _ _ k. verdict_set pairs i n v k there;
      ignored = λ none _. absurd (some_none (ap is_some (verdict_found pairs n i noted there)) none);
    })

    pub replaced_apart : Apart after
    replaced_apart = rw (is, map-set_same (λ p. p.number) pairs i noted noted (sym (there.1 noted))) memo.apart

  module _ (lacks : Lacks pairs (length pairs) n) where
    -- the pair is ignored
    pub ignored_notes : 1024 ≤ length pairs → KeepingNotes (keeping_held memo) n v (keeping_held memo)
    ignored_notes full = record {
      count = length pairs;
      holding = row_holding pairs memo.apart;
      replaced = λ some. absurd (some_none some (verdict_missing pairs n lacks));
      taken = λ _ few. absurd (omega arith);
      ignored = λ _ _ k. refl;
    }

    -- the pair is taken
    module _ (few : length pairs < 1024) (after : List Pair) (is : after ≡ pairs ++ noted ∷ []) where
      pub taken_notes : KeepingNotes (keeping_held memo) n v (verdict_among after)
      taken_notes = rw is (record {
        count = length pairs;
        holding = row_holding pairs memo.apart;
        replaced = λ _ k. verdict_push pairs n v k lacks;
        taken = λ _ _ k. verdict_push pairs n v k lacks;
        ignored = λ _ full. absurd (omega arith);
      })

      pub taken_apart : Apart after
      taken_apart =
          rw (is, map-append (λ p. p.number) pairs (noted ∷ []))
          (all_pairs_push ◌≢◌ (numbers_of pairs) n memo.apart (λ k d h e.
          let low : k < length pairs = omega (arith, length-map pairs (λ p. p.number)) in
          lacks k noted (omega arith) low (sym (get_or-map (λ p. p.number) pairs k noted d low) ∙ e)))
