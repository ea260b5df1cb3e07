use Rattle.std.proofs.Common.{subst}
use Rattle.grammar.specs.Theorems.{Answers}
use Rattle.grammar.proofs.Whole.{reading_stands_lem}
use Rattle.reader.proofs.read_into.Goals as goal

pub returns : goal.returns
returns c = subst (Answers c.args.text.now) c.read_words_into.ensures (reading_stands_lem c.args.text.now)
