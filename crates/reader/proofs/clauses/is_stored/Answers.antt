use Rattle.std.proofs.Common.{rules, tests}
use Rattle.std.proofs.ByRecursion.{All-get_or}
use Rattle.std.proofs.lemmas.Iterator.Consumers.{YieldsList-from_first}
use Rattle.std.proofs.lemmas.Iterator.Adapters.{serves_from_places}
use Rattle.std.proofs.lemmas.Iterator.Search.{any_from_yields_List}
use Rattle.clause.specs.Once.{same_set}
use Rattle.clause.specs.Codes.{codes_of}
use Rattle.formula.specs.Views.{clauses_of, clauses_left}
use Rattle.reader.specs.Sound.{Clean}
use Rattle.reader.proofs.clauses.is_stored.Goals as goal

pub any-requires-clause-callable : goal.any-requires-clause-callable
any-requires-clause-callable c =
    serves_from_places (YieldsList-from_first (λ x. x.now) clauses_left (clauses_of c.args.clauses.now) c.iter.ensures) (λ x q e. search rules)
    (λ x k h e. let s = All-get_or Clean (clauses_of c.args.clauses.now) k x.now h c.requires in search rules)

pub returns : goal.returns
returns c =
    any_from_yields_List (same_set (codes_of c.args.clause.now)) c.any.new.self _ _ c.any.ensures.ran (YieldsList-from_first (λ x. x.now) clauses_left (clauses_of c.args.clauses.now) c.iter.ensures) (λ x b q k. search (rules, tests))
