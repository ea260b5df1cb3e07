-- What the arrays of a formula stand for.
use Rattle.std.specs.Prelude.{◌≡◌, ℕ, List, [], drop}
use Rattle.arrays.specs.Lists.{items_of}
use Rattle.formula.specs.declared.Formula.{Formula}
use Rattle.formula.specs.declared.clauses.ClauseList.{ClauseList}
use Rattle.formula.specs.declared.clauses.iter.Clauses.{Clauses}
use Rattle.formula.specs.declared.prefix.Binding.{Binding}
use Rattle.formula.specs.declared.prefix.Prefix.{Prefix}
use Rattle.formula.specs.Ends.{clauses_from}

-- the bindings, outermost first
abbrev pub bindings_of : Prefix → List Binding
bindings_of p = items_of p.bindings

-- the clauses in the order in which they were stored, each a list of codes
abbrev pub clauses_of : ClauseList → List (List ℕ)
clauses_of c = clauses_from 0 (items_of c.ends) (items_of c.literals)

-- the literals of the clause that is begun, as they were written
abbrev pub begun_of : ClauseList → List ℕ
begun_of c = drop c.used (items_of c.literals)

-- the clauses that an iterator has left
abbrev pub clauses_left : Clauses → List (List ℕ)
clauses_left c = drop c.place (clauses_of c.list.now)

-- a formula as it is read: V and C of the problem line, the prefix, and the clauses that are stored
pub record Reading : Type 0 where
  pub variables : ℕ
  pub declared : ℕ
  pub prefix : List Binding
  pub clauses : List (List ℕ)

abbrev pub reading : Formula → Reading
reading f = record { variables = f.variables; declared = f.declared; prefix = bindings_of f.prefix; clauses = clauses_of f.clauses }

-- a formula that says nothing yet
pub record Blank (f : Formula) : Type 0 where
  pub variables : f.variables ≡ 0
  pub declared : f.declared ≡ 0
  pub finished : f.finished ≡ 0
  pub prefix : bindings_of f.prefix ≡ []
  pub clauses : clauses_of f.clauses ≡ []
  pub begun : begun_of f.clauses ≡ []
