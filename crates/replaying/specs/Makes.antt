-- Runs with the memo and the chooser that a script names.
use Rattle.std.specs.Prelude.{ℕ, List}
use Rattle.qbf.specs.declared.Candidate.{Candidate}
use Rattle.memos.specs.Blanks.{blank_held, blank_notes}
use Rattle.memos.specs.Slots.{slotted_held, slotted_notes}
use Rattle.memos.specs.Keeps.{keeping_held, keeping_notes}
use Rattle.choosers.specs.Preferred.{first_picks, busiest_picks}
use Rattle.script.specs.declared.calls.Call.{Call}
use Rattle.script.specs.declared.calls.ChooserKind.{ChooserKind}
use Rattle.script.specs.declared.calls.ChooserKind.TheVariants.{First, Busiest}
use Rattle.script.specs.declared.calls.Make.{Make}
use Rattle.script.specs.declared.calls.MemoKind.{MemoKind}
use Rattle.script.specs.declared.calls.MemoKind.TheVariants.{Blank, Slotted, Keeping}
use Rattle.runs.specs.declared.transcript.Transcript.{Transcript}
use Rattle.runs.specs.Runs.{Ran}

-- what the chooser picks
abbrev pub picks_of : ChooserKind → List Candidate → ℕ
picks_of First = first_picks
picks_of Busiest = busiest_picks

-- a run with the memo, and any chooser that picks so
abbrev pub RanWith : MemoKind → (List Candidate → ℕ) → List Call → Transcript → Type 0
RanWith Blank pick calls t = Ran blank_held blank_notes pick calls t
RanWith Slotted pick calls t = Ran slotted_held slotted_notes pick calls t
RanWith Keeping pick calls t = Ran keeping_held keeping_notes pick calls t

-- a run with the memo and the chooser
abbrev pub RanAs : Make → List Call → Transcript → Type 0
RanAs m calls t = RanWith m.memo (picks_of m.chooser) calls t
