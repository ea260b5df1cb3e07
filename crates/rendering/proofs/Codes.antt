-- The literal of a code is the one that the code was given for.
use Rattle.std.proofs.Common.{◌≡◌, ℕ, suc, ◌+◌, ◌/◌, ◌%◌, ◌<◌, ◌≤◌, Bool, true, false, eqb, List, [], ◌∷◌, get_or, Some, sym, refl, ap, ◌∙◌, subst, arith}
use Rattle.std.proofs.lemmas.Bool.{cond-true, cond-false, eqb-true, eq-eqb, ne_eqb}
use Rattle.words.specs.declared.literals.Literal.{Literal}
use Rattle.formula.specs.declared.prefix.Binding.{Binding}
use Rattle.formula.specs.Positions.{variables_of, position_from}
use Rattle.grammar.specs.Grammar.{code_at, Coded}
use Rattle.rendering.specs.Render.{literal_of}

-- the variable that is bound at a place stands there
stands_at : (n variable : ℕ) (bs : List Binding) (p : ℕ) → position_from n variable bs ≡ Some p → (j : ℕ) × (p ≡ n + j) × (get_or (variables_of bs) j 0 ≡ variable)
stands_at n variable [] p e = cc
stands_at n variable (b ∷ bs) p e = on (stands_at (n + 1) variable bs p) (eqb b.variable variable) refl
  where
    on : (position_from (n + 1) variable bs ≡ Some p → (j : ℕ) × (p ≡ n + 1 + j) × (get_or (variables_of bs) j 0 ≡ variable)) → (t : Bool) → eqb b.variable variable ≡ t → (j : ℕ) × (p ≡ n + j) × (get_or (variables_of (b ∷ bs)) j 0 ≡ variable)
    on ih true t = let f = sym (cond-true _ _ _ t) ∙ e in let g : n ≡ p = cc in (0, omega arith, eqb-true b.variable variable t)
    on ih false t = let r = ih (sym (cond-false _ _ _ t) ∙ e) in let g = r.1 in (suc r.0, omega arith, r.2)

halves : (minus : Bool) (p : ℕ) → (code_at minus p / 2 ≡ p) × (eqb (code_at minus p % 2) 1 ≡ minus)
halves true p = (omega arith, eq-eqb _ 1 (omega arith))
halves false p = (omega arith, ne_eqb _ 1 (λ e. omega arith))

pub literal_back : (prefix : List Binding) (l : Literal) (k : ℕ) → Coded prefix l k → literal_of prefix k ≡ l
literal_back prefix l k c =
    let p = c.0 in
    let at = stands_at 0 l.variable prefix p c.1 in
    let h = halves l.negative p in
    let g : at.0 ≡ p = let e = at.1 in omega arith in
    let v : get_or (variables_of prefix) (k / 2) 0 ≡ l.variable = ap (λ (m : ℕ). get_or (variables_of prefix) (m / 2) 0) c.2 ∙ ap (λ (j : ℕ). get_or (variables_of prefix) j 0) (h.0 ∙ sym g) ∙ at.2 in
    let s : eqb (k % 2) 1 ≡ l.negative = ap (λ (m : ℕ). eqb (m % 2) 1) c.2 ∙ h.1 in
    ap (literal (eqb (k % 2) 1)) v ∙ ap (λ (b : Bool). literal b l.variable) s
  where
    literal : Bool → ℕ → Literal
    literal b n = record { variable = n; negative = b }

-- the code is one of a variable from 1 to v that the prefix binds
abbrev pub Known : ℕ → List Binding → ℕ → Type 0
Known v prefix k = (0 < (literal_of prefix k).variable) × ((literal_of prefix k).variable ≤ v) × Coded prefix (literal_of prefix k) k

pub known : (v : ℕ) (prefix : List Binding) (l : Literal) (k : ℕ) → 0 < l.variable → l.variable ≤ v → Coded prefix l k → Known v prefix k
known v prefix l k some most c = subst (λ (m : Literal). (0 < m.variable) × (m.variable ≤ v) × Coded prefix m k) (sym (literal_back prefix l k c)) (some, most, c)
