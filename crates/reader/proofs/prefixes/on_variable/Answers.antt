use Rattle.std.proofs.Common.{is_some, sym, ap, ◌∙◌, arith}
use Rattle.reader.proofs.Bound.{prefix_room}
use Rattle.reader.proofs.prefixes.on_variable.Goals as goal

pub push-requires : goal.push-requires
push-requires c =
    let n = c.in_ok-variable.ensures.bound in
    prefix_room _ c.in_ok-variable.variable c.requires.once c.requires.bound (omega arith, omega (arith, c.requires.variables)) (ap is_some (sym c.position.ensures) ∙ sym c.if-is_some.ensures)
