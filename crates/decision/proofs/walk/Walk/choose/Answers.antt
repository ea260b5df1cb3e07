use Rattle.std.proofs.Common.{◌<◌, length, ap, ◌∙◌}
use Rattle.qbf.specs.Walk.{candidates}
use Rattle.reduction.specs.Numbered.{quantifiers_of}
use Rattle.decision.specs.Walks.{set_of}
use Rattle.decision.proofs.Positions.{position_within}
use Rattle.decision.proofs.walk.Walk.choose.Goals as goal

pub overflow_sub-result : goal.overflow_sub-result
overflow_sub-result g c =
    let walk = c.args.self.now in
    let shown = c.as_slice.ensures ∙ c.find_candidates-candidates.ensures.list ∙ ap (candidates (quantifiers_of walk.prefix.now)) c.set.ensures.clauses in
    let some : 0 < length c.as_slice.result.now = rw shown c.requires.shown in
    (position_within (g.C.Chooser.picks walk.chooser.now) (g.met.C.Chooser.listed walk.chooser.now) walk.prefix.now (set_of walk c.args.number) _ _ shown some c.choose-position.ensures).0

pub invariant_of-result : goal.invariant_of-result
invariant_of-result g c =
    let walk = c.args.self.now in
    let shown = c.as_slice.ensures ∙ c.find_candidates-candidates.ensures.list ∙ ap (candidates (quantifiers_of walk.prefix.now)) c.set.ensures.clauses in
    let some : 0 < length c.as_slice.result.now = rw shown c.requires.shown in
    let within = position_within (g.C.Chooser.picks walk.chooser.now) (g.met.C.Chooser.listed walk.chooser.now) walk.prefix.now (set_of walk c.args.number) _ _ shown some c.choose-position.ensures in
    record { bound = within.1 }
