use Rattle.table.specs.Sets.{clauses_of}
use Rattle.survey.proofs.Tallies.{room_none, counted}
use Rattle.survey.proofs.counts.count_literals.Goals as goal

pub tally-requires : goal.tally-requires
tally-requires c = rw c.new-counts.ensures (room_none _ c.requires)

pub returns : goal.returns
returns c = counted (clauses_of c.args.set) _ (rw c.new-counts.ensures at c.tally.ensures.each)
