use Rattle.reduction.proofs.Settings.{set_true, stays_ready, set_kept}
use Rattle.reduction.proofs.setting.set_true.Goals as goal

pub returns : goal.returns
returns c =
    let t = c.args.table.now in
    let n = c.args.number in
    let l = c.args.literal in
    let u = c.set_literal.new.table in
    let r = c.set_literal.result in
    let made = c.set_literal.ensures in
    record { set = set_true t n l u r made; ready = stays_ready t n l u r made; keeps = set_kept t n l u r made }
