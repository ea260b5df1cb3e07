-- A prefix and a table as the definitions know them: the list of quantifiers, and the list of the sets that the numbers stand for.
use Rattle.std.specs.Prelude.{◌≡◌, ℕ, zero, suc, ◌≤◌, List, [], ◌∷◌, map, length, Some}
use Rattle.qbf.specs.declared.Quantifier.{Quantifier}
use Rattle.qbf.specs.Reduce.{Within}
use Rattle.qbf.specs.Numbering.{Numbering, stands}
use Rattle.formula.specs.declared.prefix.Binding.{Binding}
use Rattle.formula.specs.declared.prefix.Prefix.{Prefix}
use Rattle.formula.specs.Views.{bindings_of}
use Rattle.table.specs.declared.table.Table.{Table}
use Rattle.table.specs.Tables.{size_of, Number, clauses}

-- the quantifiers of bound variables, outermost first
abbrev pub quantified : List Binding → List Quantifier
quantified bs = map (λ b. b.quantifier) bs

-- those of a prefix
abbrev pub quantifiers_of : Prefix → List Quantifier
quantifiers_of p = quantified (bindings_of p)

-- the sets that k numbers from n on stand for
unfoldable pub sets_from : Table → ℕ → ℕ → Numbering
sets_from t n zero = []
sets_from t n (suc k) = clauses t n ∷ sets_from t (suc n) k

-- the sets that the numbers 2, 3, .. of the table stand for
unfoldable pub sets_of : Table → Numbering
sets_of t = sets_from t 2 (size_of t)

-- n is the number of a set over the prefix, of no more clauses than a text has
pub record Ready (prefix : List Quantifier) (t : Table) (n : ℕ) : Type 0 where
  pub held : Number t n
  pub within : Within prefix (clauses t n)
  pub few : length (clauses t n) ≤ 2048

-- s is a set over the prefix, of no more clauses than a text has
pub record Fitting (prefix : List Quantifier) (s : List (List ℕ)) : Type 0 where
  pub within : Within prefix s
  pub few : length s ≤ 2048

-- the numbers of t are numbers of u, and stand for the same sets
abbrev pub Kept : Table → Table → Type 0
Kept t u = (n : ℕ) → Number t n → Number u n × (clauses u n ≡ clauses t n)

-- in the list of its sets, each number of a table stands for its set
abbrev pub NumbersStand : Type 0
NumbersStand = (t : Table) (n : ℕ) → Number t n → stands (sets_of t) n ≡ Some (clauses t n)
