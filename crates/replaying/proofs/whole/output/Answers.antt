use Rattle.std.proofs.Common.{vec_items, ap, ◌∙◌}
use Rattle.replaying.proofs.Scripts.{not_made, made_so}
use Rattle.replaying.proofs.whole.output.Goals as goal

pub returns-in_default : goal.returns-in_default
returns-in_default c =
    not_made c.args.input.now (vec_items c.into_bytes.result) c.in_ok-script.script c.in_ok-script.ensures c.in_default.is
    (ap vec_items c.into_bytes.ensures.value ∙ c.in_ok-stop_line.ensures)

pub returns : goal.returns
returns c =
    made_so c.args.input.now (vec_items c.tell_end.new.out) c.in_ok-script.script c.in_ok-script.ensures
    c.in-Some.make c.in_ok-transcript.transcript c.as_slice.result.now c.as_slice-2.result.now c.as_slice-3.result.now (vec_items c.in_ok-out.out) c.in-Some.is
    c.as_slice.ensures.value c.in_ok-transcript.ensures c.as_slice-2.ensures.value c.as_slice-3.ensures.value c.in_ok-out.ensures c.in_ok-tell_end.ensures
