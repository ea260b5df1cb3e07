use Rattle.std.proofs.Common.{◌≡◌, ℕ, arith}
use Rattle.std.proofs.lemmas.Result.{err_from_is_err_and}
use Rattle.table.specs.Tables.{clauses}
use Rattle.diagram.specs.Parts.{part_of}
use Rattle.diagram.proofs.Steps.{Split, made_as, refused_high, refused_low, ready_high, ready_low, ready_high_over, ready_low_over, made}
use Rattle.diagram.proofs.Parts.{part_side, part_split, part_kept}
use Rattle.diagram.proofs.Cofactors.{opened_from, small_from}
use Rattle.diagram.proofs.literal.+make_part.Goals as goal
use Rattle.diagram.proofs.literal.+make_part.Goals.{Then-node-literal, In_ok-with, then-number-ge2+else-node-literal, else-number-ge2}

pub sides_at-requires-clause-from : goal.sides_at-requires-clause-from
sides_at-requires-clause-from t c = elim c.if-number-ge2.branch [
  | then-number-ge2+else-node-literal w ↦ opened_from c.args.table.now _ _ _ w.node-node.ensures w.if-node-literal.false
  | else-number-ge2 w ↦ small_from c.args.table.now _ _ w.if-number-ge2.false
]

pub returns : goal.returns
returns t c = rw c.of.ensures (part_side c.args.table.now c.args.part c.args.number c.args.literal _ _ c.requires c.sides_at.ensures)

-- below the literal the part is made by those of the two sides
split : (t : ℕ) (c : goal.Then-node-literal t) →
    let x = c.args.table.now in
    let n = c.node-node.result in
    let p = c.args.part in
    let l = c.args.literal in
    Split (part_of p l (clauses x c.args.number)) n.code (part_of p l (clauses x n.with)) (part_of p l (clauses x n.without))
split t c = part_split c.args.table.now c.args.part c.args.number c.args.literal c.node-node.result c.node-node.ensures (let less = c.if-node-literal.true in λ e. omega arith)

-- after the first of them the without-side's is the same
same : (t : ℕ) (c : goal.In_ok-with t) →
    let n = c.node-node.result in
    part_of c.args.part c.args.literal (clauses c.make_part.new.table n.without) ≡ part_of c.args.part c.args.literal (clauses c.args.table.now n.without)
same t c = part_kept c.args.table.now _ c.make_part.new.table c.in_ok-with.ensures.grows c.args.part c.args.literal c.args.number c.node-node.result.without c.requires c.node-node.ensures.without_less

pub returns-in_err-with : goal.returns-in_err-with
returns-in_err-with t c =
    let p = err_from_is_err_and c.from_residual.result c.from_residual.ensures.1 in
    rw p.1 (refused_high (split t (goal.at.returns-in_err-with t c).Then-node-literal) c.in_err-with.ensures)

pub returns-in_err-without : goal.returns-in_err-without
returns-in_err-without t c =
    let at = goal.at.returns-in_err-without t c in
    let p = err_from_is_err_and c.from_residual-in_err-without.result c.from_residual-in_err-without.ensures.1 in
    rw p.1 (refused_low (split t at.Then-node-literal) c.in_ok-with.ensures (made_as (same t at.In_ok-with) c.in_err-without.ensures))

pub make-requires : goal.make-requires
make-requires t c =
    let at = goal.at.make-requires t c in
    let s = split t at.Then-node-literal in
    let f = c.in_ok-with.ensures in
    let g = made_as (same t at.In_ok-with) c.in_ok-without.ensures in
    record { coded = c.node-node.ensures.coded; with_held = ready_high s f g; without_held = ready_low s f g; with_over = ready_high_over s f g; without_over = ready_low_over s f g }

pub returns-then-node-literal : goal.returns-then-node-literal
returns-then-node-literal t c =
    let at = goal.at.returns-then-node-literal t c in
    made (split t at.Then-node-literal) c.in_ok-with.ensures (made_as (same t at.In_ok-with) c.in_ok-without.ensures) c.make.ensures
