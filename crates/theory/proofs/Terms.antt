-- Terms that only the proofs use.
use Rattle.std.proofs.Common.{◌≡◌, ℕ, suc, ◌/◌, false, ◌⊎◌, List, [], ◌∷◌}
use Rattle.qbf.specs.declared.Quantifier.{Quantifier}
use Rattle.qbf.specs.Lists.{In}
use Rattle.qbf.specs.Literals.{positive, negative}
use Rattle.qbf.specs.Reduce.{occurs}

-- what stands in the first list stands in the second
abbrev pub Subset : {A : Type 0} → List A → List A → Type 0
Subset {A} s t = (x : A) → In x s → In x t

-- the literals are of different variables
abbrev pub Apart : ℕ → ℕ → Type 0
Apart l m = l / 2 ≡ m / 2 → ⊥

-- the literal l is of a variable that the prefix, whose first variable is v, binds by q
abbrev pub Bound : Quantifier → List Quantifier → ℕ → ℕ → Type 0
Bound q [] v l = ⊥
Bound q (r ∷ qs) v l = ((l / 2 ≡ v) × (q ≡ r)) ⊎ Bound q qs (suc v) l

-- neither literal of the variable occurs
abbrev pub absent : ℕ → List (List ℕ) → Type 0
absent v s = (occurs (positive v) s ≡ false) × (occurs (negative v) s ≡ false)

-- the variable k is bound by q, and those before it that q does not bind do not occur
abbrev pub Outermost : Quantifier → List Quantifier → ℕ → ℕ → List (List ℕ) → Type 0
Outermost q [] v k s = ⊥
Outermost q (r ∷ qs) v k s = ((k ≡ v) × (q ≡ r)) ⊎ (((q ≡ r) ⊎ absent v s) × Outermost q qs (suc v) k s)
