-- The value of a quantified formula by full expansion. A prefix is the list of its variables' quantifiers, outermost first.
use Rattle.std.specs.Prelude.{ℕ, suc, Bool, true, false, cond, ◌&&◌, ◌||◌, List, [], ◌∷◌}
use Rattle.qbf.specs.declared.Quantifier.{Quantifier}
use Rattle.qbf.specs.declared.Quantifier.TheVariants.{Existential, Universal}
use Rattle.qbf.specs.Literals.{positive, negative, complement}
use Rattle.qbf.specs.Lists.{mem, without}

-- Setting the literal l true, clause by clause: a clause that has l is dropped, and the complement is taken out of the others.
abbrev pub assign : ℕ → List (List ℕ) → List (List ℕ)
assign l [] = []
assign l (c ∷ s) = cond (mem l c) (assign l s) (without (complement l) c ∷ assign l s)

-- an existential variable needs one of its two settings to be true, a universal one both
abbrev pub combine : Quantifier → Bool → Bool → Bool
combine Existential a b = a || b
combine Universal a b = a && b

-- whether the set has no clause
abbrev pub none : List (List ℕ) → Bool
none [] = true
none (c ∷ s) = false

-- The value of a set under a prefix whose first variable is v. The first variable is set false and true, and the two values
-- under the rest of the prefix are combined; with an empty prefix the value is true exactly when there is no clause.
abbrev pub value : List Quantifier → ℕ → List (List ℕ) → Bool
value [] v s = none s
value (q ∷ prefix) v s = combine q (value prefix (suc v) (assign (negative v) s)) (value prefix (suc v) (assign (positive v) s))
