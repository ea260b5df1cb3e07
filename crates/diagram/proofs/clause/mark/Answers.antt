use Rattle.std.proofs.Common.{ℕ, ◌<◌, List, length, get_or, arith}
use Rattle.std.specs.List.{AllByRecursion}
use Rattle.std.proofs.ByRecursion.{All-get_or}
use Rattle.diagram.proofs.Marks.{marked_none, marked_more, spanned_none, spanned_more}
use Rattle.diagram.proofs.clause.mark.Goals as goal

small : (xs : List ℕ) (i : ℕ) → i < length xs → AllByRecursion (λ x. x < 512) xs → get_or xs i 0 < 512
small xs i lt a = All-get_or (λ x. x < 512) xs i 0 lt a

pub loop-code-init : goal.loop-code-init
loop-code-init c = (rw c.new-held.ensures marked_none, spanned_none)

pub loop-code-preserved : goal.loop-code-preserved
loop-code-preserved c =
    let xs = c.args.codes.now in
    let i = c.loop-code.code-index in
    let code = small xs i (omega arith) c.requires in
    let s = c.loop-code.invariant.1.coded in
    (rw c.set.ensures (marked_more c.loop-code.held.at xs i c.loop-code.held.long (omega arith) code c.loop-code.invariant.0), spanned_more _ _ _ _ xs i (omega arith) (omega arith) (omega arith) (omega arith) (omega arith) (omega arith) c.loop-code.invariant.1)
