-- Reducing a set: the first line that fits is carried out, and the lines are tried again from the top.
use Rattle.std.specs.Prelude.{ℕ, zero, suc, ◌+◌, ◌*◌, ◌/◌, ◌<◌, Bool, true, false, cond, not, ◌&&◌, ◌||◌, List, [], ◌∷◌, ◌++◌, length, Some, None, Option, ◌==◌}
use Rattle.std.specs.List.{AllByRecursion}
use Rattle.qbf.specs.declared.Quantifier.{Quantifier}
use Rattle.qbf.specs.declared.Quantifier.TheVariants.{Existential, Universal}
use Rattle.qbf.specs.Literals.{complement}
use Rattle.qbf.specs.Lists.{mem}
use Rattle.qbf.specs.Clauses.{assigned, setting}
use Rattle.qbf.specs.Value.{none}

-- whether two quantifiers are the same
abbrev pub same : Quantifier → Quantifier → Bool
same Existential Existential = true
same Existential Universal = false
same Universal Existential = false
same Universal Universal = true

-- whether the prefix has the variable x and binds it by q
abbrev pub binds : Quantifier → List Quantifier → ℕ → Bool
binds q [] x = false
binds q (r ∷ prefix) zero = same q r
binds q (r ∷ prefix) (suc x) = binds q prefix x

-- every literal of the set is of a variable of the prefix
abbrev pub Within : List Quantifier → List (List ℕ) → Type 0
Within prefix s = AllByRecursion (AllByRecursion (λ l. l < 2 * length prefix)) s

-- whether the clause is empty
abbrev pub is_empty : List ℕ → Bool
is_empty [] = true
is_empty (x ∷ c) = false

-- whether the set has the empty clause
abbrev pub has_empty : List (List ℕ) → Bool
has_empty [] = false
has_empty (c ∷ s) = is_empty c || has_empty s

-- whether the clause is of the one literal l
abbrev pub is_unit : ℕ → List ℕ → Bool
is_unit l [] = false
is_unit l (x ∷ c) = l == x && is_empty c

-- whether the set has the clause of the one literal l
abbrev pub has_unit : ℕ → List (List ℕ) → Bool
has_unit l [] = false
has_unit l (c ∷ s) = is_unit l c || has_unit l s

-- whether the literal l stands in a clause of the set
abbrev pub occurs : ℕ → List (List ℕ) → Bool
occurs l [] = false
occurs l (c ∷ s) = mem l c || occurs l s

-- a literal is lone when it occurs and its complement does not
abbrev pub lone : ℕ → List (List ℕ) → Bool
lone l s = occurs l s && not (occurs (complement l) s)

-- the lowest number that passes the test, of the n numbers from c on
abbrev pub lowest : (ℕ → Bool) → ℕ → ℕ → Option ℕ
lowest test zero c = None
lowest test (suc n) c = cond (test c) (Some c) (lowest test n (suc c))

-- what the first line that fits asks for: a verdict, or a literal to be set true; or no line fits
pub data Step : Type 0 where
  settled : Bool → Step
  forced : ℕ → Step
  stuck : Step

-- a line that fits where a literal was found, and else the lines below it
abbrev pub on_some : Option ℕ → (ℕ → Step) → Step → Step
on_some (Some l) f other = f l
on_some None f other = other

-- The five lines, in order: an empty clause gives false; no clause gives true; a one-literal clause on a universal variable
-- gives false; of the one-literal clauses on existential variables, the literal of lowest code is set true; of the lone
-- literals, the one of lowest code is set true if it is existential, and its complement if it is universal.
unfoldable pub step : List Quantifier → List (List ℕ) → Step
step prefix s =
    let codes : ℕ = 2 * length prefix in
    cond (has_empty s) (settled false)
    (cond (none s) (settled true)
    (on_some (lowest (λ l. has_unit l s && binds Universal prefix (l / 2)) codes 0) (λ l. settled false)
    (on_some (lowest (λ l. has_unit l s && binds Existential prefix (l / 2)) codes 0) (λ l. forced l)
    (on_some (lowest (λ l. lone l s) codes 0) (λ l. forced (cond (binds Existential prefix (l / 2)) l (complement l)))
    stuck))))

-- what reducing comes to: a verdict, or a set that no line fits
pub data Outcome : Type 0 where
  decided : Bool → Outcome
  left : List (List ℕ) → Outcome

-- with all the sets that were made on the way, in order
pub record Reduced : Type 0 where
  pub outcome : Outcome
  pub made : List (List (List ℕ))

-- one line carried out, and what follows it; a setting makes its four sets
abbrev pub resume : (List (List ℕ) → Reduced) → List (List ℕ) → Step → Reduced
resume next s (settled b) = record { outcome = decided b; made = [] }
resume next s (forced l) = record { outcome = (next (assigned l s)).outcome; made = setting l s ++ (next (assigned l s)).made }
resume next s stuck = record { outcome = left s; made = [] }

-- at most n lines are carried out, so that it computes; the bound below is never met
unfoldable pub reduce_within : ℕ → List Quantifier → List (List ℕ) → Reduced
reduce_within zero prefix s = record { outcome = left s; made = [] }
reduce_within (suc n) prefix s = resume (reduce_within n prefix) s (step prefix s)

-- how many literals stand in the clauses of a set
abbrev pub size : List (List ℕ) → ℕ
size [] = 0
size (c ∷ s) = length c + size s

-- Reducing to its end: each setting takes a literal out, so that there are no more lines than literals, and one.
abbrev pub reduce : List Quantifier → List (List ℕ) → Reduced
reduce prefix s = reduce_within (suc (size s)) prefix s
