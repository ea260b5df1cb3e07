use Rattle.std.proofs.Common.{◌≡◌, length, arith, rules}
use Rattle.table.proofs.Probes.{sought_ahead, sought_round, sought_somewhere}
use Rattle.table.proofs.index.Index.seek.Goals as goal

pub returns-in-Some : goal.returns-in-Some
returns-in-Some c =
    let h = c.in-Some.ensures in
    let long : length c.args.self.now.at ≡ 8192 = search rules in
    sought_ahead _ _ _ _ long (omega arith) c.home-start.ensures _ h.0 h.1 h.2

pub unwrap-requires : goal.unwrap-requires
unwrap-requires c =
    let long : length c.args.self.now.at ≡ 8192 = search rules in
    sought_somewhere _ _ _ _ long (omega arith) c.requires c.in_default.ensures c.find-2.result c.find-2.ensures

pub returns : goal.returns
returns c =
    let h = rw c.unwrap.ensures at c.find-2.ensures in
    let long : length c.args.self.now.at ≡ 8192 = search rules in
    sought_round _ _ _ _ long (omega arith) c.home-start.ensures c.in_default.ensures _ h.0 h.1 h.2
