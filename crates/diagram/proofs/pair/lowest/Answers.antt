use Rattle.std.proofs.Common.{inl, inr, arith}
use Rattle.diagram.proofs.Cofactors.{lowest_both, opened_leads, opened_from, small_from}
use Rattle.diagram.proofs.pair.lowest.Goals as goal

pub returns-then-a-lt2 : goal.returns-then-a-lt2
returns-then-a-lt2 c =
    let t = c.args.table.now in
    let o = c.node.ensures in
    record { a_from = small_from t _ _ c.if-a-lt2.true; b_from = opened_from t _ _ _ o (omega arith); met = inr (opened_leads t _ _ c.requires.b_held o); coded = o.coded }

pub returns-then-b-lt2 : goal.returns-then-b-lt2
returns-then-b-lt2 c =
    let t = c.args.table.now in
    let o = c.node-then-b-lt2.ensures in
    record { a_from = opened_from t _ _ _ o (omega arith); b_from = small_from t _ _ c.if-b-lt2.true; met = inl (opened_leads t _ _ c.requires.a_held o); coded = o.coded }

pub returns : goal.returns
returns c = rw c.min.ensures (lowest_both c.args.table.now _ _ _ _ c.requires.a_held c.requires.b_held c.node-2.ensures c.node-3.ensures)
