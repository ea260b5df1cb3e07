-- Reducing keeps the value, ends, and leaves a set that no line fits.
use Rattle.std.specs.Prelude.{◌≡◌, ℕ, ◌<◌, Bool, false, List}
use Rattle.qbf.specs.declared.Quantifier.{Quantifier}
use Rattle.qbf.specs.Clauses.{Canonical, assigned}
use Rattle.qbf.specs.Value.{none, value}
use Rattle.qbf.specs.Reduce.{Within, has_empty, has_unit, lone, settled, forced, step, decided, left, resume, reduce, size}

-- each line keeps the value: its verdict is the value, and the set with its literal set true has the value of the set
abbrev pub LinesKeep : Type 0
LinesKeep =
    (prefix : List Quantifier) (s : List (List ℕ)) →
    ((b : Bool) → step prefix s ≡ settled b → value prefix 0 s ≡ b) ×
    ((l : ℕ) → step prefix s ≡ forced l → value prefix 0 s ≡ value prefix 0 (assigned l s))

-- and takes at least one literal out
abbrev pub LinesFall : Type 0
LinesFall = (prefix : List Quantifier) (s : List (List ℕ)) (l : ℕ) → step prefix s ≡ forced l → size (assigned l s) < size s

-- so reducing ends: it is one line carried out, and then reducing what that leaves, with no bound on the lines
abbrev pub ReducingEnds : Type 0
ReducingEnds = (prefix : List Quantifier) (s : List (List ℕ)) → reduce prefix s ≡ resume (reduce prefix) s (step prefix s)

-- and keeps the value
abbrev pub ReducingKeeps : Type 0
ReducingKeeps =
    (prefix : List Quantifier) (s : List (List ℕ)) →
    ((b : Bool) → (reduce prefix s).outcome ≡ decided b → value prefix 0 s ≡ b) ×
    ((t : List (List ℕ)) → (reduce prefix s).outcome ≡ left t → value prefix 0 s ≡ value prefix 0 t)

-- what it leaves of a set over the prefix has a clause, and neither an empty nor a one-literal clause nor a lone literal
pub record Clean (s : List (List ℕ)) : Type 0 where
  pub some_clause : none s ≡ false
  pub no_empty : has_empty s ≡ false
  pub no_unit : (l : ℕ) → has_unit l s ≡ false
  pub no_lone : (l : ℕ) → lone l s ≡ false

abbrev pub ReducingCleans : Type 0
ReducingCleans = (prefix : List Quantifier) (s t : List (List ℕ)) → Within prefix s → (reduce prefix s).outcome ≡ left t → Within prefix t × Clean t

-- and is in the one form of a clause set, if the set was
abbrev pub ReducingCanonical : Type 0
ReducingCanonical = (prefix : List Quantifier) (s t : List (List ℕ)) → Canonical s → (reduce prefix s).outcome ≡ left t → Canonical t
