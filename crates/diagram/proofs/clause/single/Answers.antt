use Rattle.std.proofs.Common.{◌≡◌, ◌+◌, ◌-◌, ◌<◌, ◌≤◌, false, sym, ◌∙◌, arith}
use Rattle.std.proofs.ByRecursion.{All-weaker}
use Rattle.std.proofs.lemmas.List.{get_or_read}
use Rattle.std.proofs.lemmas.Result.{err_from_is_err_and}
use Rattle.qbf.specs.Lists.{mem}
use Rattle.sets.specs.Ordered.{clause_of}
use Rattle.sets.proofs.Placed.{rising_clause, all_clause, mem_clause}
use Rattle.diagram.proofs.Chains.{Chained, chain_starts, chain_next, chain_skips, link_over, none_over, chain_grows, chain_breaks, chain_ends}
use Rattle.diagram.proofs.clause.single.Goals as goal
use Rattle.diagram.proofs.clause.single.Goals.{After-get}

pub loop-code-init : goal.loop-code-init
loop-code-init c =
    let m = c.mark-marks.result in
    chain_starts c.args.table.now (clause_of c.args.codes.now) m.end (all_clause (λ x. x < m.end) c.args.codes.now (All-weaker (λ x. (m.low ≤ x) × (x < m.end)) (λ x. x < m.end) (λ x w. w.1) c.args.codes.now c.mark-marks.ensures.within))

-- what the marks say of a code
read : (c : After-get) → c.get.result ≡ mem (c.loop-code.code - 1) (clause_of c.args.codes.now)
read c =
    let m = c.mark-marks.result in
    let code = c.loop-code.code - 1 in
    let low : code < 512 = omega (arith, c.mark-marks.ensures.coded, c.loop-code.auto.code, c.loop-code-test.true) in
    get_or_read m.held.at _ _ (omega (arith, m.held.long)) c.get.ensures false ∙ c.mark-marks.ensures.marked code low ∙ sym (mem_clause code c.args.codes.now)

-- the chain so far
chained : (c : After-get) → Chained c.args.table.now (clause_of c.args.codes.now) (c.loop-code.code - 1 + 1) c.loop-code.table c.loop-code.clause
chained c = chain_next _ _ c.loop-code.code _ _ (omega (arith, c.loop-code-test.true)) c.loop-code.invariant

pub make-requires : goal.make-requires
make-requires c =
    let d = (goal.at.make-requires c).After-get in
    record {
      coded = omega (arith, c.mark-marks.ensures.coded, c.loop-code.auto.code, c.loop-code-test.true);
      with_held = c.loop-code.invariant.is.held;
      without_held = omega arith;
      with_over = link_over _ _ _ _ _ (rising_clause c.args.codes.now) (sym (read d) ∙ c.if-get.true) (chained d);
      without_over = none_over _ _ _ _ _ (rising_clause c.args.codes.now) (sym (read d) ∙ c.if-get.true) (chained d);
    }

pub returns-in_err-clause : goal.returns-in_err-clause
returns-in_err-clause c =
    let d = (goal.at.returns-in_err-clause c).After-get in
    let p = err_from_is_err_and c.from_residual.result c.from_residual.ensures.1 in
    rw p.1 (chain_breaks _ _ _ _ _ (rising_clause c.args.codes.now) (sym (read d) ∙ c.if-get.true) (chained d) c.in_err-clause.ensures)

pub loop-code-preserved-then-get : goal.loop-code-preserved-then-get
loop-code-preserved-then-get c =
    let d = (goal.at.loop-code-preserved-then-get c).After-get in
    chain_grows _ _ _ _ _ (rising_clause c.args.codes.now) (sym (read d) ∙ c.if-get.true) (chained d) c.in_ok-clause.ensures

pub loop-code-preserved : goal.loop-code-preserved
loop-code-preserved c =
    let d = (goal.at.loop-code-preserved c).After-get in
    chain_skips _ _ _ _ _ (sym (read d) ∙ c.if-get.false) (chained d)

pub returns : goal.returns
returns c =
    let m = c.mark-marks.result in
    let i = c.loop-code.code in
    let last : i ≤ m.low = omega arith in
    chain_ends _ _ i _ _ (all_clause (λ x. i ≤ x) c.args.codes.now (All-weaker (λ x. (m.low ≤ x) × (x < m.end)) (λ x. i ≤ x) (λ x w. omega (arith, w.0)) c.args.codes.now c.mark-marks.ensures.within)) c.loop-code.invariant
