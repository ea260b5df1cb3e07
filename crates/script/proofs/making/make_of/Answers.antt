use Rattle.script.proofs.Spelled.{no_memo}
use Rattle.script.proofs.making.make_of.Goals as goal

pub returns-in_err-memo_kind : goal.returns-in_err-memo_kind
returns-in_err-memo_kind c =
    rw c.from_residual-in_err-memo_kind.ensures
    (no_memo c.args.line.now c.in_ok-words.words.now c.in_ok-memo.memo.now c.in_ok-memo.chooser.now c.in_ok-words.ensures c.in_ok-memo.ensures.0 c.in_ok-memo.ensures.1 c.in_err-memo_kind.ensures)
