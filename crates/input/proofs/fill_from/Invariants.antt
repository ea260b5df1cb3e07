use Rattle.std.proofs.Common.{◌≤◌, length, take}
use Rattle.std.specs.Io.KnownBytes.{Consumes}
use Rattle.input.proofs.fill_from.Given as goal

abbrev pub invariant-loop : goal.invariant-loop
invariant-loop g l = (l.len ≤ length l.buffer) × Consumes (g.R.Read.remaining l.fn.source) (g.R.Read.remaining l.source) (take l.len l.buffer)
