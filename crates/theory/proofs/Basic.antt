-- Taking literals out of clauses, and setting them clause by clause.
use Rattle.std.proofs.Common.{◌≡◌, ℕ, false, List, [], ◌∷◌, refl, arith}
use Rattle.std.proofs.lemmas.Bool.Decides.{nat_tests}
use Rattle.qbf.specs.Literals.{complement}
use Rattle.qbf.specs.Lists.{mem, without}
use Rattle.qbf.specs.Value.{assign}
use Rattle.qbf.specs.Reduce.{occurs}
use Rattle.sets.proofs.Words.{without_absent}
use Rattle.theory.proofs.Terms.{Apart}

pub mem_without_same : (l : ℕ) (c : List ℕ) → mem l (without l c) ≡ false
mem_without_same l [] = refl
mem_without_same l (x ∷ c) = let ih = mem_without_same l c in grind (arith, nat_tests)

pub mem_without_other : (m l : ℕ) (c : List ℕ) → (m ≡ l → ⊥) → mem m (without l c) ≡ mem m c
mem_without_other m l [] n = refl
mem_without_other m l (x ∷ c) n = let ih = mem_without_other m l c n in grind (arith, nat_tests)

pub without_comm : (l m : ℕ) (c : List ℕ) → without l (without m c) ≡ without m (without l c)
without_comm l m [] = refl
without_comm l m (x ∷ c) = let ih = without_comm l m c in grind (arith, nat_tests)

pub mem_without_less : (m l : ℕ) (c : List ℕ) → mem m c ≡ false → mem m (without l c) ≡ false
mem_without_less m l [] e = refl
mem_without_less m l (x ∷ c) e = let ih = mem_without_less m l c in grind (arith, nat_tests)

pub assign_comm : (l m : ℕ) (s : List (List ℕ)) → Apart l m → assign l (assign m s) ≡ assign m (assign l s)
assign_comm l m [] n = refl
assign_comm l m (c ∷ s) n =
    let ih = assign_comm l m s n in
    let a : (l ≡ complement m → ⊥) × (m ≡ complement l → ⊥) = omega arith in
    let e1 = mem_without_other l (complement m) c a.0 in
    let e2 = mem_without_other m (complement l) c a.1 in
    let e3 = without_comm (complement l) (complement m) c in
    grind (arith, nat_tests)

pub assign_absent : (l : ℕ) (s : List (List ℕ)) → occurs l s ≡ false → occurs (complement l) s ≡ false → assign l s ≡ s
assign_absent l [] e f = refl
assign_absent l (c ∷ s) e f = let ih = assign_absent l s in let w = without_absent (complement l) c in grind (arith, nat_tests)

pub assign_gone : (l : ℕ) (s : List (List ℕ)) → (occurs l (assign l s) ≡ false) × (occurs (complement l) (assign l s) ≡ false)
assign_gone l [] = (refl, refl)
assign_gone l (c ∷ s) =
    let ih = assign_gone l s in
    let n : l ≡ complement l → ⊥ = omega arith in
    let w = mem_without_same (complement l) c in
    let w2 = mem_without_other l (complement l) c n in
    grind (arith, nat_tests)

-- an assignment makes nothing occur
pub assign_keeps : (m l : ℕ) (s : List (List ℕ)) → occurs m s ≡ false → occurs m (assign l s) ≡ false
assign_keeps m l [] e = refl
assign_keeps m l (c ∷ s) e = let ih = assign_keeps m l s in let w = mem_without_less m (complement l) c in grind (arith, nat_tests)
