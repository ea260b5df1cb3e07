-- Decisions by computing, for a memo that is a plain value. Nodes are numbered in the order in which they are made.
use Rattle.std.specs.Prelude.{ℕ, zero, suc, Bool, true, false, cond, List, [], ◌∷◌, ◌++◌, length, Some, None, Option, ◌==◌, nat_lt}
use Rattle.qbf.specs.declared.Quantifier.{Quantifier}
use Rattle.qbf.specs.declared.Candidate.{Candidate}
use Rattle.qbf.specs.Literals.{positive, negative}
use Rattle.qbf.specs.Memo.{Pairs}
use Rattle.qbf.specs.Clauses.{assigned, setting}
use Rattle.qbf.specs.Value.{none}
use Rattle.qbf.specs.Reduce.{Step, settled, forced, stuck, step, Outcome, decided, left, size}
use Rattle.qbf.specs.Walk.{outermost, candidates, picked, ends}
use Rattle.qbf.specs.NodeList.{same_set, listed, nodes}
use Rattle.qbf.specs.Numbering.{Numbering, capacity}
use Rattle.qbf.specs.Decision.{full, spent, too_deep, Ending, verdict, refused, most_open}

-- the table after an attempt to make sets, and whether all of them were made
pub record Attempt : Type 0 where
  pub table : Numbering
  pub done : Bool

-- the nodes that are lacking are added in order
abbrev pub add : Numbering → List (List (List ℕ)) → Attempt
add t [] = record { table = t; done = true }
add t (x ∷ xs) = cond (listed x t) (add t xs) (cond (nat_lt (length t) capacity) (add (t ++ (x ∷ [])) xs) (record { table = t; done = false }))

-- what follows an attempt, if it made all
abbrev pub next_if : Attempt → (Numbering → Attempt) → Attempt
next_if a next = cond a.done (next a.table) a

-- sets are made in order
abbrev pub make : Numbering → List (List (List ℕ)) → Attempt
make t [] = record { table = t; done = true }
make t (s ∷ sets) = next_if (add t (nodes s)) (λ u. make u sets)

-- the place of a set in the table
abbrev pub place : List (List ℕ) → Numbering → ℕ
place s [] = 0
place s (x ∷ t) = cond (same_set s x) 0 (suc (place s t))

-- the number of a reduced set, which is neither the empty set nor the set of only the empty clause
abbrev pub number : Numbering → List (List ℕ) → ℕ
number t s = suc (suc (place s t))

-- what reducing over a table leaves: the table, and the outcome, or none if the table is full
pub record Lowered : Type 0 where
  pub table : Numbering
  pub outcome : Option Outcome

-- one line carried out, and what follows it
abbrev pub lower_by : (Numbering → List (List ℕ) → Lowered) → Numbering → List (List ℕ) → Step → Lowered
lower_by next t s (settled b) = record { table = t; outcome = Some (decided b) }
lower_by next t s (forced l) = cond (make t (setting l s)).done (next (make t (setting l s)).table (assigned l s)) (record { table = (make t (setting l s)).table; outcome = None })
lower_by next t s stuck = record { table = t; outcome = Some (left s) }

-- at most n lines are carried out
unfoldable pub lower : ℕ → List Quantifier → Numbering → List (List ℕ) → Lowered
lower zero prefix t s = record { table = t; outcome = Some (left s) }
lower (suc n) prefix t s = lower_by (lower n prefix) t s (step prefix s)

-- where a decision stands: how it ended, the splits made, the table and the memo
pub record Standing (M : Type 0) : Type 0 where
  pub ending : Ending
  pub splits : ℕ
  pub table : Numbering
  pub memo : M

module _ {M : Type 0} (held : M → Pairs) (note : M → ℕ → Bool → M) (prefix : List Quantifier) (pick : List Candidate → ℕ) (allowance : ℕ) where
  -- the side of a split that sets the literal l
  abbrev pub try : (ℕ → ℕ → Numbering → M → List (List ℕ) → Standing M) → ℕ → ℕ → Numbering → M → List (List ℕ) → ℕ → Standing M
  try next depth splits t m r l =
      cond (make t (setting l r)).done (next depth splits (make t (setting l r)).table m (assigned l r))
      (record { ending = refused full; splits = splits; table = (make t (setting l r)).table; memo = m })

  -- a verdict is noted
  abbrev pub noted : ℕ → Standing M → Ending → Standing M
  noted n a (verdict b) = record { ending = verdict b; splits = a.splits; table = a.table; memo = note a.memo n b }
  noted n a (refused f) = a

  -- the other side follows a verdict that does not end the split
  abbrev pub second : (Standing M → Standing M) → Quantifier → Standing M → Ending → Standing M
  second other q a (verdict b) = cond (ends q b) a (other a)
  second other q a (refused f) = a

  -- the variable x is split: false first, and a verdict is noted
  abbrev pub chosen : (ℕ → ℕ → Numbering → M → List (List ℕ) → Standing M) → ℕ → ℕ → Numbering → M → List (List ℕ) → ℕ → Standing M
  chosen next depth splits t m r x =
      let a : Standing M = try next (suc depth) (suc splits) t m r (negative x) in
      let b : Standing M = second (λ a. try next (suc depth) a.splits a.table a.memo r (positive x)) (outermost prefix r).quantifier a a.ending in
      noted (number t r) b b.ending

  -- a reduced set that the memo does not know: the allowance is looked at, then the open splits
  abbrev pub unknown : (ℕ → ℕ → Numbering → M → List (List ℕ) → Standing M) → ℕ → ℕ → Numbering → M → List (List ℕ) → Standing M
  unknown next depth splits t m r =
      cond (splits == allowance) (record { ending = refused spent; splits = splits; table = t; memo = m })
      (cond (depth == most_open) (record { ending = refused too_deep; splits = splits; table = t; memo = m })
      (chosen next depth splits t m r (picked pick (candidates prefix r))))

  -- a verdict that the memo holds is used
  abbrev pub on_recall : Standing M → ℕ → Numbering → M → Option Bool → Standing M
  on_recall other splits t m (Some b) = record { ending = verdict b; splits = splits; table = t; memo = m }
  on_recall other splits t m None = other

  -- what follows reducing
  abbrev pub on_outcome : (ℕ → ℕ → Numbering → M → List (List ℕ) → Standing M) → ℕ → ℕ → Numbering → M → Option Outcome → Standing M
  on_outcome next depth splits t m None = record { ending = refused full; splits = splits; table = t; memo = m }
  on_outcome next depth splits t m (Some (decided b)) = record { ending = verdict b; splits = splits; table = t; memo = m }
  on_outcome next depth splits t m (Some (left r)) = on_recall (unknown next depth splits t m r) splits t m (held m (number t r))

  -- a decision with fewer than so many splits open below it, so that it computes
  unfoldable pub run_within : ℕ → ℕ → ℕ → Numbering → M → List (List ℕ) → Standing M
  run_within zero depth splits t m s = record { ending = verdict (none s); splits = splits; table = t; memo = m }
  run_within (suc n) depth splits t m s = on_outcome (run_within n) depth splits (lower (suc (size s)) prefix t s).table m (lower (suc (size s)) prefix t s).outcome

  -- a whole decision, of a set whose nodes the table has
  abbrev pub run : Numbering → M → List (List ℕ) → Standing M
  run t m s = run_within (suc (size s)) 0 0 t m s
