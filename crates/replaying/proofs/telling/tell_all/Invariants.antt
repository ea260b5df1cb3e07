use Rattle.std.proofs.Common.{◌≡◌, ◌++◌, drop, vec_items}
use Rattle.replaying.specs.Outputs.{all_told}
use Rattle.replaying.proofs.telling.tell_all.Given as goal

abbrev pub invariant-loop-answer : goal.invariant-loop-answer
invariant-loop-answer l = vec_items l.out ++ all_told (drop l.answer-index l.answers) l.rest ≡ all_told l.answers l.texts
