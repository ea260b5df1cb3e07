-- The memos as plain lists note as the delivered memos do.
use Rattle.std.proofs.Common.{◌≡◌, ℕ, ◌%◌, Bool, true, false, cond, eqb, ltb, List, [], ◌∷◌, ◌++◌, length, is_some, Some, None, sym, refl, ap, ◌∙◌, subst, inl, inr, arith}
use Rattle.std.proofs.lemmas.List.{length-map, map-append}
use Rattle.std.proofs.lemmas.Bool.Decides.{nat_tests}
use Rattle.std.proofs.lemmas.Bool.{cases_eq}
use Rattle.qbf.specs.Lists.{Distinct}
use Rattle.memos.specs.declared.pair.Pair.{Pair}
use Rattle.memos.specs.Rows.{verdict_among, numbers_of}
use Rattle.memos.specs.Notes.{Holding, Put, KeepingNotes}
use Rattle.memos.proofs.Counts.{some_listed}
use Rattle.sets.proofs.Words.{mem_not}
use Rattle.theory.specs.Models.{replace, other_slots, BlankNoted, SlottedNoted, KeepingNoted}
use Rattle.theory.proofs.Adding.{distinct_push}

pub blank_noted : BlankNoted
blank_noted ps n v k = refl

others : (n : ℕ) (ps : List Pair) (k : ℕ) → verdict_among (other_slots n ps) k ≡ cond (eqb (k % 1024) (n % 1024)) None (verdict_among ps k)
others n [] k = grind (arith, nat_tests)
others n (p ∷ ps) k = let ih = others n ps k in elim (cases_eq k p.number) [
  | inl i ↦ grind (arith, nat_tests)
  | inr i ↦ grind (arith, nat_tests)
]

pub slotted_noted : SlottedNoted
slotted_noted ps n v k = ap (λ o. cond (eqb k n) (Some v) o) (others n ps k)

-- the keeping memo
replaced_put : (ps : List Pair) (n : ℕ) (v : Bool) → is_some (verdict_among ps n) ≡ true → Put (verdict_among ps) n v (verdict_among (replace ps n v))
replaced_put [] n v h k = grind (arith, nat_tests)
replaced_put (p ∷ ps) n v h k = let ih : is_some (verdict_among ps n) ≡ true → _ ≡ _ = λ i. replaced_put ps n v i k in grind (arith, nat_tests)

replaced_numbers : (ps : List Pair) (n : ℕ) (v : Bool) → numbers_of (replace ps n v) ≡ numbers_of ps
replaced_numbers [] n v = refl
replaced_numbers (p ∷ ps) n v = let ih = replaced_numbers ps n v in grind (arith, nat_tests)

pushed_put : (ps : List Pair) (n : ℕ) (v : Bool) → is_some (verdict_among ps n) ≡ false → Put (verdict_among ps) n v (verdict_among (ps ++ (record { number = n; verdict = v } ∷ [])))
pushed_put [] n v h k = refl
pushed_put (p ∷ ps) n v h k = let ih : is_some (verdict_among ps n) ≡ false → _ ≡ _ = λ i. pushed_put ps n v i k in grind (arith, nat_tests)

pub keeping_noted : KeepingNoted
keeping_noted ps d n v = go (is_some (verdict_among ps n)) refl (ltb (length ps) 1024) refl
  where
    holding : Holding (verdict_among ps) (length ps)
    holding = record { numbers = numbers_of ps; long = length-map ps (λ p. p.number); apart = d; listed = some_listed ps }

    go : (h : Bool) → is_some (verdict_among ps n) ≡ h → (c : Bool) → ltb (length ps) 1024 ≡ c →
        KeepingNotes (verdict_among ps) n v (verdict_among (cond h (replace ps n v) (cond c (ps ++ (record { number = n; verdict = v } ∷ [])) ps)))
        × Distinct (numbers_of (cond h (replace ps n v) (cond c (ps ++ (record { number = n; verdict = v } ∷ [])) ps)))
    go true h c l = (
      record { count = length ps; holding = holding; replaced = λ _. replaced_put ps n v h; taken = λ e. absurd (grind (arith, nat_tests)); ignored = λ e. absurd (grind (arith, nat_tests)) },
      subst Distinct (sym (replaced_numbers ps n v)) d,
    )
    go false h true l = (
      record { count = length ps; holding = holding; replaced = λ e. absurd (grind (arith, nat_tests)); taken = λ _ _. pushed_put ps n v h; ignored = λ _ f. absurd (grind (arith, nat_tests)) },
      subst Distinct (sym (map-append (λ p. p.number) ps (record { number = n; verdict = v } ∷ []))) (distinct_push (numbers_of ps) n d (mem_not n (numbers_of ps) (sym (some_listed ps n) ∙ h))),
    )
    go false h false l = (
      record { count = length ps; holding = holding; replaced = λ e. absurd (grind (arith, nat_tests)); taken = λ _ f. absurd (grind (arith, nat_tests)); ignored = λ _ _ k. refl },
      d,
    )
