use Rattle.std.proofs.Common.{[], arith}
use Rattle.memos.specs.Slots.{slotted_held, slotted_notes}
use Rattle.memos.proofs.Slotting.{slotted_retains}
use Rattle.client.proofs.Chains.{decided_again}
use Rattle.client.proofs.again.decide_again.Goals as goal

pub returns : goal.returns
returns g c =
    let led = c.load.ensures.dealt.leads [] c.new-session.ensures.led in
    decided_again slotted_held slotted_notes g.C.Chooser.picks slotted_retains _ c.load.new.self c.decide-first.new.self c.decide-second.new.self led c.args.allowance 0 c.decide-first.result c.decide-second.result c.decide-first.ensures c.decide-second.ensures (omega arith)
