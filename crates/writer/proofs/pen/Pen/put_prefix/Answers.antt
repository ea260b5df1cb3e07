use Rattle.std.proofs.Common.{sym}
use Rattle.std.proofs.lemmas.List.Sums.{prefix_len-le-length}
use Rattle.writer.proofs.Blocks.{lines_front, no_lines}
use Rattle.writer.proofs.Puts.{left_next, left_last, puts_none}
use Rattle.writer.proofs.pen.Pen.put_prefix.Goals as goal

pub split_at-requires : goal.split_at-requires
split_at-requires c = rw c.block_len.ensures (prefix_len-le-length _ _)

pub loop-first-preserved : goal.loop-first-preserved
loop-first-preserved c =
    left_next c.loop-first.invariant c.put_block.ensures (lines_front _ _ _ _ _ (sym c.in-Some.ensures.value) c.block_len.ensures c.split_at.ensures.front c.split_at.ensures.back)

pub returns : goal.returns
returns c = left_last c.loop-first.invariant (puts_none _) (no_lines _ (sym c.in_default.ensures.value))
