use Rattle.std.proofs.Common.{◌<◌, sym, ◌∙◌, rules, tests}
use Rattle.std.proofs.ByRecursion.{All-get_or}
use Rattle.std.proofs.lemmas.Bool.{ne_eqb}
use Rattle.std.proofs.lemmas.Iterator.{YieldsList-from_slice}
use Rattle.std.proofs.lemmas.Iterator.Adapters.{serves_from_places}
use Rattle.std.proofs.lemmas.Iterator.Search.{all_from_yields_List}
use Rattle.qbf.specs.Lists.{mem}
use Rattle.clause.specs.Codes.{codes_of}
use Rattle.clause.proofs.Codes.{codes_distinct}
use Rattle.clause.proofs.Sets.{within_as_long, other_length}
use Rattle.clause.proofs.Clause.same_literals.Goals as goal

pub all-requires-clause-callable : goal.all-requires-clause-callable
all-requires-clause-callable c = serves_from_places (YieldsList-from_slice c.args.stored.now cc) (λ x q e. search rules) (λ x k h e. let s = All-get_or (λ x. x < 512) c.args.stored.now k x.now h c.requires.small in search rules)

pub returns-then-stored-len : goal.returns-then-stored-len
returns-then-stored-len c =
    let codes = codes_of c.args.self.now in
    all_from_yields_List (λ x. mem x codes) _ _ _ c.all.ensures.ran (YieldsList-from_slice c.args.stored.now cc) (λ x b q k. search (rules, tests))
    ∙ within_as_long codes c.args.stored.now c.requires.distinct (cc)

pub returns-else-stored-len : goal.returns-else-stored-len
returns-else-stored-len c =
    let self = c.args.self.now in
    let apart = other_length (codes_of self) c.args.stored.now (codes_distinct self) c.requires.distinct (λ e. c.if-stored-len.false (cc)) in
    ne_eqb _ _ c.if-stored-len.false ∙ sym apart
