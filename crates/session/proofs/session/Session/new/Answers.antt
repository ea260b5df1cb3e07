use Rattle.std.proofs.Common.{refl}
use Rattle.histories.specs.Histories.{led_new}
use Rattle.session.proofs.Cores.{fresh_core}
use Rattle.session.proofs.session.Session.new.Goals as goal

pub returns : goal.returns
returns g c =
    let new = c.new.ensures in
    let fresh = fresh_core g.M.Memo.held c.new.result c.clear.new.self new.scope new.table c.clear.ensures in
    record { fresh = fresh; chooser = refl; led = led_new fresh }
