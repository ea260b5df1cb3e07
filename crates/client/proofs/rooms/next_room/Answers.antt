use Rattle.std.proofs.Common.{[]}
use Rattle.client.proofs.Chains.{loaded_value}
use Rattle.client.proofs.rooms.next_room.Goals as goal

pub returns : goal.returns
returns g c =
    let led = c.decide.ensures.dealt.leads _ (c.load.ensures.dealt.leads [] c.new-session.ensures.led) in
    loaded_value g.M.Memo.held g.M.Memo.notes g.C.Chooser.picks _ c.decide.new.self c.load-2.new.self c.decide-2.new.self led c.args.second.now c.in_ok-load.field-0 c.in_ok-load.ensures c.args.allowance c.decide-2.result c.decide-2.ensures
