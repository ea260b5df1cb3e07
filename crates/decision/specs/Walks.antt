-- A walk before and after one of its steps.
use Rattle.std.specs.Prelude.{◌≡◌, ℕ, Bool, List, Result}
use Rattle.qbf.specs.declared.Candidate.{Candidate}
use Rattle.qbf.specs.Memo.{Pairs}
use Rattle.qbf.specs.Walk.{candidates}
use Rattle.qbf.specs.Decision.{Decides}
use Rattle.table.specs.Tables.{clauses}
use Rattle.reduction.specs.Numbered.{quantifiers_of, sets_of, Ready}
use Rattle.decision.specs.declared.choice.Choice.{Choice}
use Rattle.decision.specs.declared.unfinished.Halt.{Halt}
use Rattle.decision.specs.declared.walk.Walk.{Walk}
use Rattle.decision.specs.Endings.{came_to}
use Rattle.decision.specs.Steps.{Chosen, Side, Sides, GoesOn}

module _ {M C : Type 0} where
  -- the number is that of a set over the prefix
  abbrev pub ReadyAt : Walk M C → ℕ → Type 0
  ReadyAt w number = Ready (quantifiers_of w.prefix.now) w.table.now number

  abbrev pub set_of : Walk M C → ℕ → List (List ℕ)
  set_of w number = clauses w.table.now number

  abbrev pub candidates_at : Walk M C → ℕ → List Candidate
  candidates_at w number = candidates (quantifiers_of w.prefix.now) (set_of w number)

  -- the same table and memo are worked on, with the same chooser, prefix and allowance, and as many splits are open
  pub record Stays (w v : Walk M C) : Type 0 where
    pub table : v.table.ghost_name ≡ w.table.ghost_name
    pub memo : v.memo.ghost_name ≡ w.memo.ghost_name
    pub chooser : v.chooser ≡ w.chooser
    pub prefix : v.prefix ≡ w.prefix
    pub allowance : v.progress.allowance ≡ w.progress.allowance
    pub depth : v.progress.depth ≡ w.progress.depth

  abbrev pub ChosenAt : (C → List Candidate → ℕ) → Walk M C → ℕ → Choice → Type 0
  ChosenAt picks w number choice = Chosen (quantifiers_of w.prefix.now) (picks w.chooser.now) (set_of w number) choice

  module _ (held : M → Pairs) (notes : M → ℕ → Bool → M → Type 0) (picks : C → List Candidate → ℕ) (w : Walk M C) where
    -- the set of the number was decided
    abbrev pub DecidesAt : ℕ → Result Bool Halt → Walk M C → Type 0
    DecidesAt number r v =
        Decides held notes (quantifiers_of w.prefix.now) (picks w.chooser.now) w.progress.allowance w.progress.depth w.progress.splits (sets_of w.table.now) w.memo.now (set_of w number)
        (came_to r) v.progress.splits (sets_of v.table.now) v.memo.now

    -- and so the parts of a split
    abbrev pub GoesOnAt : ℕ → Result Bool Halt → Walk M C → Type 0
    GoesOnAt number r v =
        GoesOn held notes (quantifiers_of w.prefix.now) (picks w.chooser.now) w.progress.allowance w.progress.depth w.progress.splits (sets_of w.table.now) w.memo.now (set_of w number) number
        (came_to r) v.progress.splits (sets_of v.table.now) v.memo.now

    abbrev pub SidesAt : ℕ → Choice → Result Bool Halt → Walk M C → Type 0
    SidesAt number choice r v =
        Sides held notes (quantifiers_of w.prefix.now) (picks w.chooser.now) w.progress.allowance w.progress.depth w.progress.splits (sets_of w.table.now) w.memo.now (set_of w number) choice
        (came_to r) v.progress.splits (sets_of v.table.now) v.memo.now

    abbrev pub SideAt : ℕ → (literal : ℕ) → Result Bool Halt → Walk M C → Type 0
    SideAt number literal r v =
        Side held notes (quantifiers_of w.prefix.now) (picks w.chooser.now) w.progress.allowance w.progress.depth w.progress.splits (sets_of w.table.now) w.memo.now (set_of w number) literal
        (came_to r) v.progress.splits (sets_of v.table.now) v.memo.now
