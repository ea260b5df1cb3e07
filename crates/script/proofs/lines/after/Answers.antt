use Rattle.std.proofs.lemmas.Slice.Eq.{strip_prefix_is}
use Rattle.script.proofs.lines.after.Goals as goal
use Rattle.std.proofs.lemmas.Bool.Decides.{Decides-eqb}

pub returns : goal.returns
returns c = strip_prefix_is Decides-eqb c.args.line.now c.args.word.now _ c.strip_prefix.ensures.cases
