use Rattle.memos.specs.Rows.{verdict_among}
use Rattle.theory.specs.Models.{note_nothing, note_keeping, note_slotted}
use Rattle.theory.proofs.Running.{runs_decide}
use Rattle.theory.proofs.Noting.{blank_noted, keeping_noted, slotted_noted}
use Rattle.theory.proofs.runs_stand.Goals as goal

pub returns : goal.returns
returns c = record {
  blank = runs_decide verdict_among note_nothing;
  keeping = runs_decide verdict_among note_keeping;
  slotted = runs_decide verdict_among note_slotted;
  blank_notes = blank_noted;
  keeping_notes = keeping_noted;
  slotted_notes = slotted_noted;
}
