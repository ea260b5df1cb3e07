-- Every shown candidate is listed, which the law of the chooser of the last one cites.
use Rattle.std.specs.Prelude.{ℕ, zero, suc, ◌-◌, ◌<◌, List, [], ◌∷◌, length, slice_index_or, refl}
use Rattle.std.proofs.Common.{inl, inr, arith}
use Rattle.qbf.specs.Chooser.{Listed, Picks}
use Rattle.qbf.specs.declared.Candidate.{Candidate}
use Rattle.open_traits.specs.Lasts.{last_position}

pub shown_listed : (cs : List Candidate) (i : ℕ) (d : Candidate) → i < length cs → Listed (slice_index_or cs i d).position cs
shown_listed [] i d h = absurd (omega arith)
shown_listed (c ∷ cs) zero d h = inl refl
shown_listed (c ∷ cs) (suc i) d h = inr (shown_listed cs i d (omega arith))

pub last_listed : Picks last_position
last_listed cs h = shown_listed cs (length cs - 1) _ (omega arith)
