use Rattle.std.proofs.Common.{◌≡◌, ℕ, ◌+◌, length, get_or, set, ap, ◌∙◌, arith}
use Rattle.std.proofs.lemmas.List.{get_or_read}
use Rattle.table.specs.Sets.{clauses_of}
use Rattle.survey.proofs.Tallies as tallies
use Rattle.survey.proofs.counts.+tally.Goals as goal
use Rattle.survey.proofs.counts.+tally.Goals.{After-set}

pub returns-in_default-clause-total : goal.returns-in_default-clause-total
returns-in_default-clause-total t c = c.number.ensures ∙ tallies.small_total c.args.set c.in_default.ensures

pub returns-in_default-clause-each : goal.returns-in_default-clause-each
returns-in_default-clause-each t c = tallies.small_tallied c.args.set c.in_default.ensures c.args.counts.now.at

pub overflow_add-get : goal.overflow_add-get
overflow_add-get t c =
    let o = c.in-Some.ensures in
    let c1 = c.tally-with.new.counts in
    let got = get_or_read c1.at _ _ (omega (arith, o.coded, c1.long)) c.get.ensures 0 in
    let h = tallies.room_here c.args.set c.in-Some.branches o c.args.counts.now.at c.requires c1.at c.tally-with.ensures.each in
    omega (arith, c.tally-with.ensures.total)

-- what `set` left
added : (t : ℕ) (c : goal.After-set t) →
    let c1 = c.tally-with.new.counts.at in
    let k = c.in-Some.branches.code in
    c.set.new.self.at ≡ set c1 k (get_or c1 k 0 + length (clauses_of c.in-Some.branches.with))
added t c =
    let c1 = c.tally-with.new.counts in
    let got = get_or_read c1.at _ _ (omega (arith, c.in-Some.ensures.coded, c1.long)) c.get.ensures 0 in
    c.set.ensures ∙ ap (set c1.at c.in-Some.branches.code) (omega (arith, c.tally-with.ensures.total))

pub tally-without-requires : goal.tally-without-requires
tally-without-requires t c =
    let o = c.in-Some.ensures in
    let d = (goal.at.tally-without-requires t c).After-set in (
      omega (arith, o.without_less),
      tallies.room_low c.args.set c.in-Some.branches o c.args.counts.now.at c.requires c.tally-with.new.counts.at c.tally-with.ensures.each c.tally-with.new.counts.long c.set.new.self.at (added t d),
    )

pub overflow_add-result : goal.overflow_add-result
overflow_add-result t c =
    let e = tallies.total c.args.set c.in-Some.branches c.in-Some.ensures c.args.counts.now.at c.requires in
    let r = c.requires 0 (omega arith) in
    omega (arith, c.tally-with.ensures.total, c.tally-without.ensures.total)

pub returns-clause-each : goal.returns-clause-each
returns-clause-each t c =
    let d = (goal.at.returns-clause-each t c).After-set in
    tallies.tallied c.args.set c.in-Some.branches c.in-Some.ensures c.args.counts.now.at c.requires c.tally-with.new.counts.at c.tally-with.ensures.each c.tally-with.new.counts.long c.set.new.self.at (added t d) c.tally-without.new.counts.at c.tally-without.ensures.each
