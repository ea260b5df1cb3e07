use Rattle.std.proofs.Common.{◌≡◌, take}
use Rattle.clause.specs.Once.{once, both_signs}
use Rattle.clause.specs.Codes.{codes_of}
use Rattle.clause.proofs.Clause.of.Given as goal

abbrev pub invariant-loop-literal : goal.invariant-loop-literal
invariant-loop-literal l =
    (codes_of l.clause ≡ once (take l.literal-index l.literals)) × (l.clause.both_signs ≡ both_signs (take l.literal-index l.literals))
