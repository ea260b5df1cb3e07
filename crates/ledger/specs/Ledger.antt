-- The ledger of a history of dealings with a session: which formula is loaded, and which sets count when the table is said to be
-- full. It follows from the calls alone and, of their answers, only from a load's 'table full'.
use Rattle.std.specs.Prelude.{ℕ, Bool, true, false, cond, ◌&&◌, List, [], ◌∷◌, ◌++◌, map, Some, None, Ok, Err, Option, Result, ◌==◌, nat_le}
use Rattle.qbf.specs.declared.Quantifier.{Quantifier}
use Rattle.qbf.specs.declared.Candidate.{Candidate}
use Rattle.qbf.specs.Reduce.{same}
use Rattle.qbf.specs.Walk.{bare}
use Rattle.qbf.specs.NodeList.{equal_by}
use Rattle.formula.specs.declared.prefix.Binding.{Binding}
use Rattle.formula.specs.Views.{Reading}
use Rattle.grammar.specs.declared.fault.ReadFault.{ReadFault}
use Rattle.grammar.specs.Steps.{read_all}
use Rattle.sets.specs.Formed.{formed, forming}
use Rattle.ledger.specs.Answers.{LoadAnswer, loaded, unread, load_full, DecideAnswer, WriteAnswer}

-- a dealing with a session: a call, and how it was answered (a forgetting is never refused)
pub data Dealing : Type 0 where
  load : (text : List ℕ) → LoadAnswer → Dealing
  decide : (allowance : ℕ) → DecideAnswer → Dealing
  write : (space : ℕ) → WriteAnswer → Dealing
  forget : Dealing

-- a loaded formula: the V of its problem line, and its clause set
pub record LoadedFormula : Type 0 where
  pub variables : ℕ
  pub clauses : List (List ℕ)

-- the prefix and the formula that are loaded, if any, and the weighed sets: those whose nodes together, each counted once,
-- have to be more than a table holds before a call may find the table full
pub record Ledger : Type 0 where
  pub prefix : Option (List Binding)
  pub formula : Option LoadedFormula
  pub weighed : List (List (List ℕ))

-- of a new session, and of one that forgot everything
abbrev pub fresh : Ledger
fresh = record { prefix = None; formula = None; weighed = [] }

-- bindings are the same if they agree in variable and quantifier, and prefixes if they agree in their bindings, in order
abbrev pub same_binding : Binding → Binding → Bool
same_binding a b = a.variable == b.variable && same a.quantifier b.quantifier

-- whether this is the prefix that is loaded
abbrev pub has_prefix : Option (List Binding) → List Binding → Bool
has_prefix None p = false
has_prefix (Some q) p = equal_by same_binding q p

-- the quantifiers of the loaded prefix, outermost first
abbrev pub quantifiers : Option (List Binding) → List Quantifier
quantifiers None = []
quantifiers (Some p) = map (λ b. b.quantifier) p

-- the largest allowance
abbrev pub most_allowed : ℕ
most_allowed = 1000000

-- A text with another prefix than the loaded one empties the ledger, and its prefix is then the loaded one.
abbrev pub under : Ledger → List Binding → Ledger
under l p = cond (has_prefix l.prefix p) l (record { prefix = Some p; formula = None; weighed = [] })

-- whether a load found the table full
abbrev pub is_full : LoadAnswer → Bool
is_full (loaded v c) = false
is_full (unread f) = false
is_full load_full = true

-- the formula of a text: the set of the clauses that are stored
abbrev pub formula_of : Reading → LoadedFormula
formula_of r = record { variables = r.variables; clauses = formed [] r.clauses }

-- A load weighs all sets that it makes when it runs to its end: each stored clause alone, and after it the set of those so far.
-- Unless it found the table full, its formula is then the loaded one.
abbrev pub takes_in : Ledger → Reading → LoadAnswer → Ledger
takes_in l r a = record {
  prefix = l.prefix;
  formula = cond (is_full a) l.formula (Some (formula_of r));
  weighed = l.weighed ++ forming [] r.clauses;
}

-- a load that the reader refuses changes nothing
abbrev pub loads : Ledger → Result Reading ReadFault → LoadAnswer → Ledger
loads l (Ok r) a = takes_in (under l r.prefix) r a
loads l (Err f) a = l

-- A decision with a formula and an allowance that is not too large weighs the sets of the formula's whole bare walk, with the
-- session's chooser; any other changes nothing.
abbrev pub decides : (List Candidate → ℕ) → Ledger → ℕ → Option LoadedFormula → Ledger
decides pick l allowance None = l
decides pick l allowance (Some f) =
    cond (nat_le allowance most_allowed)
    (record { prefix = l.prefix; formula = l.formula; weighed = l.weighed ++ (bare pick (quantifiers l.prefix) f.clauses).made })
    l

-- one dealing more, by the chooser's function: a forgetting empties the ledger, and a writing changes nothing
abbrev pub enter : (List Candidate → ℕ) → Ledger → Dealing → Ledger
enter pick l (load text a) = loads l (read_all text) a
enter pick l (decide allowance a) = decides pick l allowance l.formula
enter pick l (write space a) = l
enter pick l forget = fresh

-- the ledger of a history, newest dealing first
abbrev pub ledger : (List Candidate → ℕ) → List Dealing → Ledger
ledger pick [] = fresh
ledger pick (d ∷ history) = enter pick (ledger pick history) d
