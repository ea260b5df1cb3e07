-- What the reader's arrays and answers stand for.
use Rattle.std.specs.Prelude.{Ok, Err, Result}
use Rattle.formula.specs.declared.Formula.{Formula}
use Rattle.formula.specs.Views.{bindings_of, clauses_of, begun_of, reading}
use Rattle.grammar.specs.declared.fault.ReadFault.{ReadFault}
use Rattle.grammar.specs.Places as places
use Rattle.grammar.specs.Steps.{Answer}

-- what the words so far say: a formula under way
abbrev pub draft_of : Formula → places.Draft
draft_of f = record {
  variables = f.variables;
  declared = f.declared;
  prefix = bindings_of f.prefix;
  finished = f.finished;
  stored = clauses_of f.clauses;
  begun = begun_of f.clauses;
}

-- the formula that was read, or the fault
abbrev pub outcome : Result Formula ReadFault → Answer
outcome (Ok f) = Ok (reading f)
outcome (Err e) = Err e

-- the same of a formula that was filled
abbrev pub filled : Result (Unit {0}) ReadFault → Formula → Answer
filled (Ok u) f = Ok (reading f)
filled (Err e) f = Err e
