use Rattle.table.proofs.Tables.{opens}
use Rattle.table.proofs.table.Table.node.Goals as goal

pub returns : goal.returns
returns c = rw (c.as_slice.ensures, c.from.ensures) (opens c.args.self.now c.args.number c.requires.held c.requires.filled)
