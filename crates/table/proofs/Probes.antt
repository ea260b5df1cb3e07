-- The search in the index, and a store of one more record.
use Rattle.std.proofs.Common.{◌≡◌, ℕ, zero, suc, ◌+◌, ◌-◌, ◌<◌, ◌≤◌, List, [], ◌∷◌, ◌++◌, length, take, drop, Option, Some, None, IsSome, MatchOption, set, replicate, sym, refl, ap, ◌∙◌, subst, inl, inr, arith}
use Rattle.std.specs.List.{HoldsAt, AllWithin}
use Rattle.std.proofs.lemmas.List.{length-take, length-drop, get_or-take, get_or-drop, get_or-set_same, get_or-set_other}
use Rattle.std.proofs.lemmas.Bool.{cases_lt, cases_eq}
use Rattle.table.specs.declared.node.Node.{Node}
use Rattle.table.specs.declared.index.Slot.{Slot}
use Rattle.table.specs.Places.{node_at}
use Rattle.table.specs.Probing.{nothing, slot_at, home, steps, Numbers, Ends, Sought, used, Idle, Strays, Findable, Indexed}
use Rattle.table.proofs.Stores.{longer, old_at, new_at, each}

-- records in use

pub idle : (n : ℕ) → Idle (replicate n nothing)
unfolding used
idle n = record { free = free n; none = none n }
  where
    free : (n p : ℕ) → (slot_at (replicate n nothing) p).number ≡ 0
    free zero p = refl
    free (suc n) zero = refl
    free (suc n) (suc p) = free n p

    none : (n : ℕ) → used (replicate n nothing) ≡ 0
    none zero = refl
    none (suc n) = omega (arith, none n)

used_all : (rs : List Slot) → ((q : ℕ) → q < length rs → (slot_at rs q).number ≡ 0 → ⊥) → length rs ≤ used rs
unfolding used
used_all [] each = omega arith
used_all (e ∷ rs) each = let here : e.number ≡ 0 → ⊥ = each 0 (omega arith) in let rest = used_all rs (λ q h. each (suc q) (omega arith)) in omega arith

used_set : (rs : List Slot) (p : ℕ) (e : Slot) → used (set rs p e) ≤ used rs + 1
unfolding used
used_set [] p e = omega arith
used_set (r ∷ rs) zero e = omega arith
used_set (r ∷ rs) (suc p) e = omega (arith, used_set rs p e)

-- the two parts of the index that a search goes through, from the place `start` on and up to it

module _ (rs : List Slot) (xs : List Node) (x : Node) (start : ℕ) (long : length rs ≡ 8192) (inside : start < 8192) where
  abbrev ahead : List Slot
  ahead = take (8192 - start) (drop start rs)

  abbrev Stop : Slot → Type 0
  Stop e = Ends xs x e

  length_ahead : length ahead ≡ 8192 - start
  length_ahead = omega (arith, length-take (8192 - start) (drop start rs), length-drop start rs)

  length_round : length (take start rs) ≡ start
  length_round = omega (arith, length-take start rs)

  ahead_at : (i : ℕ) → i < 8192 - start → slot_at ahead i ≡ slot_at rs (start + i)
  ahead_at i h = get_or-take (8192 - start) (drop start rs) i nothing h ∙ get_or-drop start rs i nothing

  round_at : (i : ℕ) → i < start → slot_at (take start rs) i ≡ slot_at rs i
  round_at i h = get_or-take start rs i nothing h

  passed_ahead : (i : ℕ) → AllWithin (λ e. Stop e → ⊥) ahead 0 i → (q : ℕ) → q < 8192 → start ≤ q → q < start + i → Stop (slot_at rs q) → ⊥
  passed_ahead i none q l behind before stop =
      let at : start + (q - start) ≡ q = omega arith in
      none (q - start) nothing (omega arith) (omega arith) (subst Stop (sym (ahead_at (q - start) (omega arith) ∙ ap (slot_at rs) at)) stop)

  passed_round : (i : ℕ) → i ≤ start → AllWithin (λ e. Stop e → ⊥) (take start rs) 0 i → (q : ℕ) → q < i → Stop (slot_at rs q) → ⊥
  passed_round i l none q before stop = none q nothing (omega arith) before (subst Stop (sym (round_at q (omega arith))) stop)

  pub sought_ahead : start ≡ home x → (i : ℕ) → i < length ahead → HoldsAt Stop ahead i → AllWithin (λ e. Stop e → ⊥) ahead 0 i → Sought rs xs x (start + i)
  sought_ahead is i l at none =
      let low : i < 8192 - start = omega (arith, length_ahead) in
      record {
        inside = omega arith;
        ends = subst Stop (ahead_at i low) (at nothing);
        first = λ q h before. passed_ahead i none q h (omega arith) (omega arith);
      }

  pub sought_round : start ≡ home x → AllWithin (λ e. Stop e → ⊥) ahead 0 (length ahead) → (p : ℕ) → p < length (take start rs) → HoldsAt Stop (take start rs) p → AllWithin (λ e. Stop e → ⊥) (take start rs) 0 p → Sought rs xs x p
  sought_round is none_ahead p l at none =
      let low : p < start = omega (arith, length_round) in
      record {
        inside = omega arith;
        ends = subst Stop (round_at p low) (at nothing);
        first = λ q h before. elim (cases_lt q start) [
          | inl short ↦ passed_round p (omega arith) none q (omega arith)
          | inr behind ↦ passed_ahead (length ahead) none_ahead q h behind (omega (arith, length_ahead))
        ];
      }

  -- a search that ends nowhere passes only records in use, and there are fewer
  pub sought_somewhere : used rs < 8192 → AllWithin (λ e. Stop e → ⊥) ahead 0 (length ahead) → (found : Option ℕ)
      → MatchOption found (AllWithin (λ e. Stop e → ⊥) (take start rs) 0 (length (take start rs))) (λ p. (p < length (take start rs)) × HoldsAt Stop (take start rs) p × AllWithin (λ e. Stop e → ⊥) (take start rs) 0 p) → IsSome found
  sought_somewhere room none_ahead (Some p) h = refl
  sought_somewhere room none_ahead None none =
      let full = used_all rs (λ q h free. elim (cases_lt q start) [
        | inl short ↦ passed_round (length (take start rs)) (omega (arith, length_round)) none q (omega (arith, length_round)) (inl free)
        | inr behind ↦ passed_ahead (length ahead) none_ahead q (omega arith) behind (omega (arith, length_ahead)) (inl free)
      ]) in
      absurd (omega arith)

-- the search for a node ends at its record, if it is in the table

module _ (xs : List Node) (rs : List Slot) (i : Indexed xs rs) (x : Node) (p : ℕ) (s : Sought rs xs x p) where
  pub found : 0 < (slot_at rs p).number → Numbers xs (slot_at rs p).number x
  found pos =
      elim s.ends [
        | inl free ↦ absurd (let no : ⊥ = omega arith in no)
        | inr own ↦ own
      ]

  pub lacking : (slot_at rs p).number ≡ 0 → (k : ℕ) → k < length xs → node_at xs k ≡ x → ⊥
  lacking free k h e = i.findable k h p (subst (λ y. Strays xs rs y p) (sym e) (record { inside = s.inside; free = free; passed = λ q l before own. s.first q l before (inr own) }))

-- the record of a new node, where the search for the node ended at a free one

module _ (xs : List Node) (rs : List Slot) (i : Indexed xs rs) (wide : length rs ≡ 8192) (x : Node) (p : ℕ) (s : Sought rs xs x p) (free : (slot_at rs p).number ≡ 0) where
  abbrev record_of : Slot
  record_of = record { number = length xs + 2 }

  abbrev records : List Slot
  records = set rs p record_of

  abbrev nodes : List Node
  nodes = xs ++ x ∷ []

  slot_new : slot_at records p ≡ record_of
  slot_new = get_or-set_same rs p record_of nothing (omega (arith, s.inside))

  slot_old : (q : ℕ) → (q ≡ p → ⊥) → slot_at records q ≡ slot_at rs q
  slot_old q other = get_or-set_other rs p q record_of nothing other

  -- the place of the new record is no longer free
  elsewhere : (q : ℕ) → (slot_at records q).number ≡ 0 → (q ≡ p → ⊥)
  elsewhere q none e = let n : (slot_at records q).number ≡ length xs + 2 = ap (λ r. r.number) (ap (slot_at records) e ∙ slot_new) in omega arith

  was_free : (q : ℕ) → (slot_at records q).number ≡ 0 → (slot_at rs q).number ≡ 0
  was_free q none = subst (λ r. r.number ≡ 0) (slot_old q (elsewhere q none)) none

  -- a number keeps its node
  numbers_kept : (n : ℕ) (y : Node) → Numbers xs n y → Numbers nodes n y
  numbers_kept n y h = (h.0, omega (arith, h.1, longer xs x), old_at xs x (n - 2) (omega (arith, h.0, h.1)) ∙ h.2)

  numbers_new : Numbers nodes (length xs + 2) x
  numbers_new = let at : length xs + 2 - 2 ≡ length xs = omega arith in (omega arith, omega (arith, longer xs x), ap (node_at nodes) at ∙ new_at xs x)

  -- a search that strays now did so before
  strayed : (y : Node) (q : ℕ) → Strays nodes records y q → Strays xs rs y q
  strayed y q t = record {
    inside = t.inside;
    free = was_free q t.free;
    passed = λ j h before own.
        let other : j ≡ p → ⊥ = λ e. let n : (slot_at rs j).number ≡ 0 = ap (λ k. (slot_at rs k).number) e ∙ free in omega (arith, own.0) in
        t.passed j h before (subst (λ r. Numbers nodes r.number y) (sym (slot_old j other)) (numbers_kept (slot_at rs j).number y own));
  }

  -- the search for the new node meets its record before any free one
  met : (q : ℕ) → Strays nodes records x q → ⊥
  met q t =
      elim (cases_lt (steps (home x) q) (steps (home x) p)) [
        | inl before ↦ s.first q t.inside before (inl (was_free q t.free))
        | inr behind ↦ elim (cases_eq (steps (home x) q) (steps (home x) p)) [
          | inl same ↦ elsewhere q t.free (omega (arith, s.inside, t.inside))
          | inr apart ↦ t.passed p s.inside (omega arith) (subst (λ r. Numbers nodes r.number x) (sym slot_new) numbers_new)
        ]
      ]

  stored_findable : Findable nodes records
  stored_findable = each xs x (λ k y. (q : ℕ) → Strays nodes records y q → ⊥) (λ k h q t. i.findable k h q (strayed (node_at xs k) q t)) met

  pub stored_indexed : (ys : List Node) → ys ≡ nodes → (ss : List Slot) → ss ≡ records → Indexed ys ss
  stored_indexed ys e ss e' =
      subst (λ zs. Indexed zs ss) (sym e) (subst (Indexed nodes) (sym e')
      (record { findable = stored_findable; spare = omega (arith, used_set rs p record_of, i.spare, longer xs x) }))
