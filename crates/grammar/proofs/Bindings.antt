-- A prefix that binds no variable twice.
use Rattle.std.proofs.Common.{◌≡◌, ℕ, ◌+◌, Bool, true, false, eqb, List, [], ◌∷◌, ◌++◌, is_some, Some, None, Option, sym, refl, ◌∙◌}
use Rattle.std.proofs.lemmas.Bool.{cond-true, cond-false, eqb-false, ne_eqb}
use Rattle.std.specs.List.{AllByRecursion}
use Rattle.qbf.specs.Lists.{Distinct}
use Rattle.formula.specs.declared.prefix.Binding.{Binding}
use Rattle.formula.specs.Positions.{variables_of, position_from, position}

pub none_of : (o : Option ℕ) → is_some o ≡ false → o ≡ None
none_of (Some p) e = cc
none_of None e = refl

-- a variable that is not bound is none of the prefix's
pub not_bound : (k n : ℕ) (bs : List Binding) → position_from k n bs ≡ None → AllByRecursion (λ x. x ≡ n → ⊥) (variables_of bs)
not_bound k n [] e = tt
not_bound k n (b ∷ bs) e = on (not_bound (k + 1) n bs) (eqb b.variable n) refl
  where
    on : (position_from (k + 1) n bs ≡ None → AllByRecursion (λ x. x ≡ n → ⊥) (variables_of bs)) → (t : Bool) → eqb b.variable n ≡ t → AllByRecursion (λ x. x ≡ n → ⊥) (variables_of (b ∷ bs))
    on ih true t = let f = sym (cond-true _ _ _ t) ∙ e in cc
    on ih false t = (eqb-false _ n t, ih (sym (cond-false _ _ _ t) ∙ e))

-- the same, by the test
pub absent : (n : ℕ) (bs : List Binding) → is_some (position n bs) ≡ false → AllByRecursion (λ x. x ≡ n → ⊥) (variables_of bs)
absent n bs e = not_bound 0 n bs (none_of (position n bs) e)

pub is_not_bound : (k n : ℕ) (bs : List Binding) → AllByRecursion (λ x. x ≡ n → ⊥) (variables_of bs) → position_from k n bs ≡ None
is_not_bound k n [] h = refl
is_not_bound k n (b ∷ bs) h = cond-false _ _ _ (ne_eqb b.variable n h.0) ∙ is_not_bound (k + 1) n bs h.1

all_end : (P : ℕ → Type 0) (bs : List Binding) (c : Binding) → AllByRecursion P (variables_of bs) → P c.variable → AllByRecursion P (variables_of (bs ++ c ∷ []))
all_end P [] c h p = (p, tt)
all_end P (b ∷ bs) c h p = (h.0, all_end P bs c h.1 p)

-- one variable more, which is not bound
pub distinct_more : (bs : List Binding) (c : Binding) → Distinct (variables_of bs) → AllByRecursion (λ x. x ≡ c.variable → ⊥) (variables_of bs) → Distinct (variables_of (bs ++ c ∷ []))
distinct_more [] c d h = (tt, tt)
distinct_more (b ∷ bs) c d h = (all_end (λ y. b.variable ≡ y → ⊥) bs c d.0 h.0, distinct_more bs c d.1 h.1)

all_middle : (P : ℕ → Type 0) (bs : List Binding) (c : Binding) (cs : List Binding) → AllByRecursion P (variables_of (bs ++ c ∷ cs)) → P c.variable
all_middle P [] c cs h = h.0
all_middle P (b ∷ bs) c cs h = all_middle P bs c cs h.1

-- in a prefix that binds no variable twice, one is not bound before its place
pub new_here : (bs : List Binding) (c : Binding) (cs : List Binding) → Distinct (variables_of (bs ++ c ∷ cs)) → AllByRecursion (λ x. x ≡ c.variable → ⊥) (variables_of bs)
new_here [] c cs d = tt
new_here (b ∷ bs) c cs d = (all_middle (λ y. b.variable ≡ y → ⊥) bs c cs d.0, new_here bs c cs d.1)
