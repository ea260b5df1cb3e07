-- What a row of pairs holds for a number, from what a search of the row told.
use Rattle.std.proofs.Common.{◌≡◌, ℕ, zero, suc, ◌<◌, Bool, false, cond, eqb, List, [], ◌∷◌, ◌++◌, length, get_or, set, Some, None, sym, refl, arith}
use Rattle.std.specs.List.{HoldsAt, AllWithin}
use Rattle.std.proofs.lemmas.Bool.{eq-eqb, ne_eqb}
use Rattle.std.proofs.lemmas.Bool.Decides.{nat_tests}
use Rattle.std.proofs.lemmas.List.Recursion.{found_at, found_nowhere}
use Rattle.memos.specs.declared.pair.Pair.{Pair}
use Rattle.memos.specs.Rows.{verdict_among}

-- none of the first i pairs has the number n
abbrev pub Lacks : List Pair → ℕ → ℕ → Type 0
Lacks ps i n = AllWithin (λ p. p.number ≡ n → ⊥) ps 0 i

-- the first pair with the number n stands at i
abbrev pub Found : List Pair → ℕ → ℕ → Type 0
Found ps i n = (i < length ps) × HoldsAt (λ p. p.number ≡ n) ps i × Lacks ps i n

later : (p : Pair) (ps : List Pair) (i n : ℕ) → Lacks (p ∷ ps) (suc i) n → Lacks ps i n
later p ps i n lacks k d low h = lacks (suc k) d (omega arith) (omega arith)

found_later : (p : Pair) (ps : List Pair) (i n : ℕ) → Found (p ∷ ps) (suc i) n → Found ps i n
found_later p ps i n f = (omega (arith, f.0), f.1, later p ps i n f.2)

module _ (ps : List Pair) (n : ℕ) where
  lacks_test : (i : ℕ) (d : Pair) → Lacks ps i n → (k : ℕ) → k < i → eqb n (get_or ps k d).number ≡ false
  lacks_test i d lacks k h = ne_eqb n _ (λ e. lacks k d (omega arith) h (sym e))

  pub verdict_found : (i : ℕ) (d : Pair) → Found ps i n → verdict_among ps n ≡ Some (get_or ps i d).verdict
  verdict_found i d f = found_at (λ ps. verdict_among ps n) (λ p. eqb n p.number) (λ p. Some p.verdict) None refl (λ _ _. refl) ps i d f.0 (lacks_test i d f.2) (eq-eqb n _ (sym (f.1 d)))

  pub verdict_missing : Lacks ps (length ps) n → verdict_among ps n ≡ None
  verdict_missing lacks = found_nowhere (λ ps. verdict_among ps n) (λ p. eqb n p.number) (λ p. Some p.verdict) None refl (λ _ _. refl) ps (record { number = n; verdict = false }) (lacks_test _ _ lacks)

pub verdict_set : (ps : List Pair) (i n : ℕ) (v : Bool) (k : ℕ) → Found ps i n → verdict_among (set ps i (record { number = n; verdict = v })) k ≡ cond (eqb k n) (Some v) (verdict_among ps k)
verdict_set [] i n v k f = absurd (omega (arith, f.0))
verdict_set (p ∷ ps) zero n v k f = let e : p.number ≡ n = f.1 p in grind (arith, nat_tests)
verdict_set (p ∷ ps) (suc i) n v k f =
    let ne : p.number ≡ n → ⊥ = f.2 0 p (omega arith) (omega arith) in
    rw (verdict_set ps i n v k (found_later p ps i n f)) (grind (arith, nat_tests))

pub verdict_push : (ps : List Pair) (n : ℕ) (v : Bool) (k : ℕ) → Lacks ps (length ps) n → verdict_among (ps ++ record { number = n; verdict = v } ∷ []) k ≡ cond (eqb k n) (Some v) (verdict_among ps k)
verdict_push [] n v k lacks = refl
verdict_push (p ∷ ps) n v k lacks =
    let ne : p.number ≡ n → ⊥ = lacks 0 p (omega arith) (omega arith) in
    rw (verdict_push ps n v k (later p ps (length ps) n lacks)) (grind (arith, nat_tests))
