use Rattle.memos.specs.Rows.{verdict_among}
use Rattle.theory.specs.Models.{note_nothing, note_keeping}
use Rattle.theory.proofs.Running.{runs_decide}
use Rattle.theory.proofs.Counting.{nodes_listed}
use Rattle.examples.proofs.Computed.{examples}
use Rattle.examples.proofs.examples_stand.Goals as goal

pub returns : goal.returns
returns c = record { worked = examples; blank = runs_decide verdict_among note_nothing; keeping = runs_decide verdict_among note_keeping; nodes = nodes_listed }
