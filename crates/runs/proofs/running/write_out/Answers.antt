use Rattle.std.proofs.Common.{Ok, vec_items}
use Rattle.runs.proofs.Carrying.{front_length, written_so, none_copied}
use Rattle.runs.proofs.running.write_out.Goals as goal

pub returns-in_ok-extend_from_slice : goal.returns-in_ok-extend_from_slice
returns-in_ok-extend_from_slice g c =
    written_so g.M.Memo.held g.M.Memo.notes g.C.Chooser.picks c.args.session.now (vec_items c.args.texts.now) c.args.space _ c.write-answer.new.buffer _ (Ok c.in-Ok.len)
    (front_length c.bytes.result _ _ c.bytes.ensures.bound c.bytes.ensures.value) c.in-Ok.ensures.dealt c.in-Ok.ensures.buffer c.in_ok-extend_from_slice.ensures.items

pub returns-in_default : goal.returns-in_default
returns-in_default g c =
    written_so g.M.Memo.held g.M.Memo.notes g.C.Chooser.picks c.args.session.now (vec_items c.args.texts.now) c.args.space _ c.write-answer.new.buffer _ c.write-answer.result
    (front_length c.bytes.result _ _ c.bytes.ensures.bound c.bytes.ensures.value) c.write-answer.ensures.dealt c.write-answer.ensures.buffer (none_copied c.write-answer.result (vec_items c.args.texts.now) c.write-answer.new.buffer c.in_default.not-Ok)
