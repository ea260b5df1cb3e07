use Rattle.std.proofs.Common.{◌≡◌, ◌-◌, ◌≤◌, ◌++◌, length, drop, vec_items}
use Rattle.std.specs.List.{AllByRecursion}
use Rattle.script.specs.Spelling.{spelled_all}
use Rattle.script.specs.Reading.{InRange}
use Rattle.script.proofs.scripts.read_calls.Given as goal

abbrev pub invariant-loop-call : goal.invariant-loop-call
invariant-loop-call l = (l.at ≤ length l.script) × AllByRecursion InRange (vec_items l.calls) × (drop l.start l.script ≡ spelled_all (vec_items l.calls) ++ drop l.at l.script)

abbrev pub decreases-loop-call : goal.decreases-loop-call
decreases-loop-call l = length l.script - l.at
