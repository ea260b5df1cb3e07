-- The ledger after one dealing more.
use Rattle.std.proofs.Common.{◌≡◌, ℕ, ◌<◌, true, false, leb, List, [], Some, None, Option, refl, arith}
use Rattle.std.proofs.lemmas.Bool.Decides.{nat_tests}
use Rattle.std.proofs.lemmas.Bool.{cond_both}
use Rattle.qbf.specs.declared.Candidate.{Candidate}
use Rattle.formula.specs.declared.prefix.Binding.{Binding}
use Rattle.ledger.specs.Ledger.{LoadedFormula, Ledger, has_prefix, most_allowed, under, decides}
use Rattle.ledger.proofs.Entering.{prefix_told}

-- a text with the loaded prefix
pub under_same : (l : Ledger) (p : List Binding) → l.prefix ≡ Some p → under l p ≡ l
under_same l p e = let t : has_prefix l.prefix p ≡ true = (prefix_told l.prefix p).1 e in rw t

-- a text with another prefix
pub under_other : (l : Ledger) (p : List Binding) → (l.prefix ≡ Some p → ⊥) → under l p ≡ record { prefix = Some p; formula = None; weighed = [] }
under_other l p ne = cond_both (has_prefix l.prefix p) l _ (λ (u : Ledger). u ≡ record { prefix = Some p; formula = None; weighed = [] }) (λ e. absurd (ne ((prefix_told l.prefix p).0 e))) (λ _. refl)

pub under_prefix : (l : Ledger) (p : List Binding) → (under l p).prefix ≡ Some p
under_prefix l p = cond_both (has_prefix l.prefix p) l _ (λ (u : Ledger). u.prefix ≡ Some p) (λ e. (prefix_told l.prefix p).0 e) (λ _. refl)

-- a decision leaves the loaded prefix and formula
pub decides_loaded : (pick : List Candidate → ℕ) (l : Ledger) (allowance : ℕ) (o : Option LoadedFormula) →
    ((decides pick l allowance o).prefix ≡ l.prefix) × ((decides pick l allowance o).formula ≡ l.formula)
decides_loaded pick l allowance None = (refl, refl)
decides_loaded pick l allowance (Some f) = cond_both (leb allowance most_allowed) _ l (λ (m : Ledger). (m.prefix ≡ l.prefix) × (m.formula ≡ l.formula)) (λ e. (refl, refl)) (λ e. (refl, refl))

-- without a formula, or with too large an allowance, it leaves everything
pub decides_nothing : (pick : List Candidate → ℕ) (l : Ledger) (allowance : ℕ) (o : Option LoadedFormula) → o ≡ None → decides pick l allowance o ≡ l
decides_nothing pick l allowance o e = rw e

pub decides_too_large : (pick : List Candidate → ℕ) (l : Ledger) (allowance : ℕ) (o : Option LoadedFormula) → most_allowed < allowance → decides pick l allowance o ≡ l
decides_too_large pick l allowance None h = refl
decides_too_large pick l allowance (Some f) h = let t : leb allowance most_allowed ≡ false = grind (arith, nat_tests) in rw t
