use Rattle.diagram.proofs.Cofactors.{sided_past, sided_small}
use Rattle.diagram.proofs.sides.sides_at.Goals as goal

pub returns-else-node-code : goal.returns-else-node-code
returns-else-node-code c = sided_past c.args.table.now c.args.number c.args.code _ c.requires.held c.node-node.ensures c.requires.from c.if-node-code.false

pub returns-else-number-ge2 : goal.returns-else-number-ge2
returns-else-number-ge2 c = sided_small c.args.table.now c.args.number c.args.code c.if-number-ge2.false
