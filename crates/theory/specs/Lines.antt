-- The first line of reducing that fits, in the words of the rules.
use Rattle.std.specs.Prelude.{◌≡◌, ℕ, ◌*◌, ◌/◌, ◌<◌, true, false, List, [], ◌∷◌, length, ◌≢◌}
use Rattle.qbf.specs.declared.Quantifier.{Quantifier}
use Rattle.qbf.specs.declared.Quantifier.TheVariants.{Existential, Universal}
use Rattle.qbf.specs.Literals.{complement}
use Rattle.qbf.specs.Lists.{In}
use Rattle.qbf.specs.Clauses.{holding}
use Rattle.qbf.specs.Reduce.{binds, occurs, lone, Step, settled, forced, stuck, step}

-- a one-literal clause on a variable that q binds
pub record UnitClause (q : Quantifier) (prefix : List Quantifier) (s : List (List ℕ)) (l : ℕ) : Type 0 where
  pub clause : In (l ∷ []) s
  pub bound : binds q prefix (l / 2) ≡ true

-- what the first line that fits asks for; each line stands only where those before it do not fit
pub data Line (prefix : List Quantifier) (s : List (List ℕ)) : Step → Type 0 where
  line_empty : In [] s → Line prefix s (settled false)
  line_none : s ≡ [] → Line prefix s (settled true)
  line_universal : (l : ℕ) → (In [] s → ⊥) → UnitClause Universal prefix s l → Line prefix s (settled false)
  line_unit : (l : ℕ) →
      (In [] s → ⊥) → ((m : ℕ) → UnitClause Universal prefix s m → ⊥) →
      UnitClause Existential prefix s l → ((m : ℕ) → m < l → UnitClause Existential prefix s m → ⊥) → Line prefix s (forced l)
  line_lone : (l : ℕ) →
      (In [] s → ⊥) → ((m : ℕ) (q : Quantifier) → UnitClause q prefix s m → ⊥) →
      lone l s ≡ true → ((m : ℕ) → m < l → lone m s ≡ false) → binds Existential prefix (l / 2) ≡ true → Line prefix s (forced l)
  line_lone_universal : (l : ℕ) →
      (In [] s → ⊥) → ((m : ℕ) (q : Quantifier) → UnitClause q prefix s m → ⊥) →
      lone l s ≡ true → ((m : ℕ) → m < l → lone m s ≡ false) → binds Universal prefix (l / 2) ≡ true → Line prefix s (forced (complement l))
  line_stuck :
      (In [] s → ⊥) → (s ≢ []) → ((m : ℕ) (q : Quantifier) → UnitClause q prefix s m → ⊥) → ((m : ℕ) → m < 2 * length prefix → lone m s ≡ false) →
      Line prefix s stuck

-- it is what the step asks for, and there is always such a line
abbrev pub LinesTold : Type 0
LinesTold = (prefix : List Quantifier) (s : List (List ℕ)) (st : Step) → Line prefix s st → step prefix s ≡ st

abbrev pub LinesFit : Type 0
LinesFit = (prefix : List Quantifier) (s : List (List ℕ)) → Line prefix s (step prefix s)

-- a literal occurs exactly if some clause holds it
abbrev pub OccursCounted : Type 0
OccursCounted = (l : ℕ) (s : List (List ℕ)) → (occurs l s ≡ true → 0 < length (holding l s)) × (0 < length (holding l s) → occurs l s ≡ true)
