use Rattle.std.proofs.Common.{sym, refl, ◌∙◌, arith}
use Rattle.std.proofs.lemmas.Result.{err_from_is_err_and}
use Rattle.qbf.specs.Decision.{by_reducing, full_reducing, recalled}
use Rattle.decision.specs.Steps.{unmade, walked, first_refused, first_ends, second}
use Rattle.reduction.proofs.Numbers.{numbers_stand_lem}
use Rattle.decision.proofs.Grows.{stay_side}
use Rattle.decision.proofs.Standing.{kept_by_staying}
use Rattle.decision.proofs.Sides.{not_started, side_at, sides_at, sides_decide, later_ready, later_side}
use Rattle.decision.proofs.walk.Walk.+side_sides_split_walk.Goals as goal

pub decide-returns-in_err-verdict-clause-decides : goal.decide-returns-in_err-verdict-clause-decides
decide-returns-in_err-verdict-clause-decides g t c =
    let p = err_from_is_err_and c.from_residual.result c.from_residual.ensures.1 in
    rw (p.1, p.2) (full_reducing c.in_err-verdict.ensures.reduces)

pub decide-returns-in-Decided-clause-decides : goal.decide-returns-in-Decided-clause-decides
decide-returns-in-Decided-clause-decides g t c = by_reducing (rw c.in-Decided.is at c.in_ok-verdict.ensures.reduces)

pub decide-returns-in-Some-clause-decides : goal.decide-returns-in-Some-clause-decides
decide-returns-in-Some-clause-decides g t c =
    let leaves = rw c.in-Left.is at c.in_ok-verdict.ensures.ready in
    recalled
    (rw c.in-Left.is at c.in_ok-verdict.ensures.reduces)
    (numbers_stand_lem c.reduce.new.table c.in-Left.left leaves.ready.held)
    (sym c.recall.ensures ∙ c.in-Some.is)

pub decide-returns-in-None-clause-decides : goal.decide-returns-in-None-clause-decides
decide-returns-in-None-clause-decides g t c =
    let leaves = rw c.in-Left.is at c.in_ok-verdict.ensures.ready in
    c.split.ensures.goes_on _ _
    (record {
      reduced = rw c.in-Left.is at c.in_ok-verdict.ensures.reduces;
      numbered = numbers_stand_lem c.reduce.new.table c.in-Left.left leaves.ready.held;
      absent = sym c.recall.ensures ∙ c.in-None.is;
      shown = leaves.shown;
    })

pub side-returns-in_err-rest-clause-side : goal.side-returns-in_err-rest-clause-side
side-returns-in_err-rest-clause-side g t c =
    let p = err_from_is_err_and c.from_residual.result c.from_residual.ensures.1 in
    rw (p.1, p.2) (unmade c.in_err-rest.ensures.set)

pub side-decide-requires : goal.side-decide-requires
side-decide-requires g t c κs within = (omega (arith, c.decreases), (within.0, (within.1, c.in_ok-rest.ensures.ready _ c.requires)))

pub side-returns-clause-side : goal.side-returns-clause-side
side-returns-clause-side g t c =
    let set = c.in_ok-rest.ensures.set in
    walked set.makes (rw set.means at c.decide.ensures.decides)

pub sides-returns-in_err-first-clause-sides : goal.sides-returns-in_err-first-clause-sides
sides-returns-in_err-first-clause-sides g t c =
    let p = err_from_is_err_and c.from_residual.result c.from_residual.ensures.1 in
    rw (p.1, p.2) (first_refused (side_at refl refl refl refl c.literal.ensures c.in_err-first.ensures.side))

pub sides-returns-then-ends_with-clause-sides : goal.sides-returns-then-ends_with-clause-sides
sides-returns-then-ends_with-clause-sides g t c =
    first_ends (side_at refl refl refl refl c.literal.ensures c.in_ok-first.ensures.side) (sym c.ends_with.ensures ∙ c.if-ends_with.true)

pub sides-side-requires-2 : goal.sides-side-requires-2
sides-side-requires-2 g t c κs within =
    let w = c.args.self.now in
    let v = c.side.new.self in
    let stays = c.in_ok-first.ensures.stays in
    let kept = kept_by_staying w.table.now v.table.now (stay_side c.in_ok-first.ensures.side) in
    (omega (arith, c.decreases, stays.depth), (within.0, (within.1, later_ready g.M.Memo.held g.M.Memo.notes g.C.Chooser.picks w v stays c.args.number kept c.requires)))

pub sides-returns-clause-sides : goal.sides-returns-clause-sides
sides-returns-clause-sides g t c =
    let w = c.args.self.now in
    let v = c.side.new.self in
    let first = c.in_ok-first.ensures.side in
    let kept = kept_by_staying w.table.now v.table.now (stay_side first) in
    second
    (side_at refl refl refl refl c.literal.ensures first)
    (sym c.ends_with.ensures ∙ c.if-ends_with.false)
    (side_at refl refl refl refl c.literal-2.ensures (later_side g.M.Memo.held g.M.Memo.notes g.C.Chooser.picks w v c.in_ok-first.ensures.stays c.args.number c.literal-2.result c.side-2.result c.side-2.new.self (kept c.args.number c.requires.held).1 c.side-2.ensures.side))

pub split-returns-in_err-begin_split-clause-goes_on : goal.split-returns-in_err-begin_split-clause-goes_on
split-returns-in_err-begin_split-clause-goes_on g t c = λ before s unknown.
    let p = err_from_is_err_and c.from_residual.result c.from_residual.ensures.1 in
    rw (p.1, p.2) (not_started c.args.self.now.progress c.begin_split.new.self c.in_err-begin_split.field-0.0 c.in_err-begin_split.ensures unknown)

pub split-returns-clause-goes_on : goal.split-returns-clause-goes_on
split-returns-clause-goes_on g t c = λ before s unknown.
    let started = c.in_ok-begin_split.ensures in
    let chosen = c.choose-choice.ensures in
    rw c.end_split.ensures.splits (sides_decide
    c.choose-choice.result
    (record { unknown = unknown; allowed = started.0; shallow = started.1; chosen = chosen.variable })
    chosen.quantifier
    (sides_at started.2 started.4 started.3 c.sides-answer.ensures.sides)
    c.note_verdict.ensures)
