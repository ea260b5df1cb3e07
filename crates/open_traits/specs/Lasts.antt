-- The chooser of the last candidate.
use Rattle.std.specs.Prelude.{ℕ, ◌-◌, List, length, slice_index_or}
use Rattle.qbf.specs.declared.Candidate.{Candidate}

abbrev pub last_position : List Candidate → ℕ
last_position cs = (slice_index_or cs (length cs - 1) (record { position = 0; positive = 0; negative = 0 })).position
