-- A decision: the bare walk, which recalls the reduced set before it chooses, may make only so many splits, and notes each
-- verdict of a split. Said as a relation with one case for each way through it, for any memo, any chooser and any table.
use Rattle.std.specs.Prelude.{◌≡◌, ℕ, suc, ◌<◌, Bool, true, false, List, length, Some, None, Option}
use Rattle.qbf.specs.declared.Quantifier.{Quantifier}
use Rattle.qbf.specs.declared.Candidate.{Candidate}
use Rattle.qbf.specs.Literals.{positive, negative}
use Rattle.qbf.specs.Memo.{Pairs}
use Rattle.qbf.specs.Clauses.{assigned, setting}
use Rattle.qbf.specs.Value.{value}
use Rattle.qbf.specs.Reduce.{settled, forced, stuck, step, Outcome, decided, left}
use Rattle.qbf.specs.Walk.{outermost, candidates, picked, ends}
use Rattle.qbf.specs.Numbering.{Numbering, stands, Makes, Stops}

-- why a decision ends without a verdict: the table is full, the allowance is spent, or too many splits are open
pub data Refusal : Type 0 where
  full spent too_deep : Refusal

-- how a decision ends
pub data Ending : Type 0 where
  verdict : Bool → Ending
  refused : Refusal → Ending

-- how many splits may be open at once
abbrev pub most_open : ℕ
most_open = 256

-- Reducing a set over a table: its outcome, or none if the table is full.
pub data ReducesIn (prefix : List Quantifier) : Numbering → List (List ℕ) → Option Outcome → Numbering → Type 0 where
  -- a line gives a verdict
  settles : {t : Numbering} {s : List (List ℕ)} {b : Bool} → step prefix s ≡ settled b → ReducesIn prefix t s (Some (decided b)) t
  -- no line fits
  sticks : {t : Numbering} {s : List (List ℕ)} → step prefix s ≡ stuck → ReducesIn prefix t s (Some (left s)) t
  -- a line sets a literal, which makes four sets, and reducing goes on with the last
  forces : {t u v : Numbering} {s : List (List ℕ)} {l : ℕ} {o : Option Outcome} →
      step prefix s ≡ forced l → Makes t (setting l s) u → ReducesIn prefix u (assigned l s) o v → ReducesIn prefix t s o v
  -- one of the four cannot be made
  fills : {t u : Numbering} {s : List (List ℕ)} {l : ℕ} → step prefix s ≡ forced l → Stops t (setting l s) u → ReducesIn prefix t s None u

-- Reducing s leaves the set r, of number n, which the memo does not know; a variable of it has to be split.
pub record Unknown {M : Type 0} (held : M → Pairs) (prefix : List Quantifier) (before : Numbering) (memo : M) (s r : List (List ℕ)) (n : ℕ) (after : Numbering) : Type 0 where
  pub reduced : ReducesIn prefix before s (Some (left r)) after
  pub numbered : stands after n ≡ Some r
  pub absent : held memo n ≡ None
  pub shown : 0 < length (candidates prefix r)

-- The variable x of such a set is split: there is allowance left, fewer than the most splits are open, and the chooser picked x.
pub record Splits {M : Type 0} (held : M → Pairs) (prefix : List Quantifier) (pick : List Candidate → ℕ) (allowance depth splits : ℕ)
    (before : Numbering) (memo : M) (s r : List (List ℕ)) (n x : ℕ) (after : Numbering) : Type 0 where
  pub unknown : Unknown held prefix before memo s r n after
  pub allowed : splits < allowance
  pub shallow : depth < most_open
  pub chosen : x ≡ picked pick (candidates prefix r)

-- The decision of a set s while `depth` splits are open: from the splits made before it, the table and the memo, by its ending,
-- to the splits, table and memo after it. The memo's type M tells what each value holds, and what a note may leave.
-- A split is counted when its variable is chosen; false is tried first; a verdict is noted for the reduced set.
pub data Decides {M : Type 0} (held : M → Pairs) (notes : M → ℕ → Bool → M → Type 0) (prefix : List Quantifier) (pick : List Candidate → ℕ) (allowance : ℕ) :
    ℕ → ℕ → Numbering → M → List (List ℕ) → Ending → ℕ → Numbering → M → Type 0 where
  -- reducing gives the verdict
  by_reducing : {depth splits : ℕ} {t u : Numbering} {m : M} {s : List (List ℕ)} {b : Bool} →
      ReducesIn prefix t s (Some (decided b)) u → Decides held notes prefix pick allowance depth splits t m s (verdict b) splits u m
  -- the table is full while reducing
  full_reducing : {depth splits : ℕ} {t u : Numbering} {m : M} {s : List (List ℕ)} →
      ReducesIn prefix t s None u → Decides held notes prefix pick allowance depth splits t m s (refused full) splits u m
  -- the memo has the reduced set's verdict
  recalled : {depth splits n : ℕ} {t u : Numbering} {m : M} {s r : List (List ℕ)} {b : Bool} →
      ReducesIn prefix t s (Some (left r)) u → stands u n ≡ Some r → held m n ≡ Some b →
      Decides held notes prefix pick allowance depth splits t m s (verdict b) splits u m
  -- as many splits are made as are allowed
  by_allowance : {depth splits n : ℕ} {t u : Numbering} {m : M} {s r : List (List ℕ)} →
      Unknown held prefix t m s r n u → splits ≡ allowance →
      Decides held notes prefix pick allowance depth splits t m s (refused spent) splits u m
  -- as many splits are open as may be
  by_depth : {depth splits n : ℕ} {t u : Numbering} {m : M} {s r : List (List ℕ)} →
      Unknown held prefix t m s r n u → splits < allowance → depth ≡ most_open →
      Decides held notes prefix pick allowance depth splits t m s (refused too_deep) splits u m
  -- the table is full while the variable is set false
  full_first : {depth splits n x : ℕ} {t u v : Numbering} {m : M} {s r : List (List ℕ)} →
      Splits held prefix pick allowance depth splits t m s r n x u → Stops u (setting (negative x) r) v →
      Decides held notes prefix pick allowance depth splits t m s (refused full) (suc splits) v m
  -- the first side is refused
  refused_first : {depth splits done n x : ℕ} {t u v w : Numbering} {m m1 : M} {s r : List (List ℕ)} {f : Refusal} →
      Splits held prefix pick allowance depth splits t m s r n x u → Makes u (setting (negative x) r) v →
      Decides held notes prefix pick allowance (suc depth) (suc splits) v m (assigned (negative x) r) (refused f) done w m1 →
      Decides held notes prefix pick allowance depth splits t m s (refused f) done w m1
  -- the first side's verdict ends the split
  first_only : {depth splits done n x : ℕ} {t u v w : Numbering} {m m1 m2 : M} {s r : List (List ℕ)} {b : Bool} →
      Splits held prefix pick allowance depth splits t m s r n x u → Makes u (setting (negative x) r) v →
      Decides held notes prefix pick allowance (suc depth) (suc splits) v m (assigned (negative x) r) (verdict b) done w m1 →
      ends (outermost prefix r).quantifier b ≡ true → notes m1 n b m2 →
      Decides held notes prefix pick allowance depth splits t m s (verdict b) done w m2
  -- the table is full while the variable is set true
  full_second : {depth splits done n x : ℕ} {t u v w y : Numbering} {m m1 : M} {s r : List (List ℕ)} {b : Bool} →
      Splits held prefix pick allowance depth splits t m s r n x u → Makes u (setting (negative x) r) v →
      Decides held notes prefix pick allowance (suc depth) (suc splits) v m (assigned (negative x) r) (verdict b) done w m1 →
      ends (outermost prefix r).quantifier b ≡ false → Stops w (setting (positive x) r) y →
      Decides held notes prefix pick allowance depth splits t m s (refused full) done y m1
  -- the second side is refused
  refused_second : {depth splits half done n x : ℕ} {t u v w y z : Numbering} {m m1 m2 : M} {s r : List (List ℕ)} {b : Bool} {f : Refusal} →
      Splits held prefix pick allowance depth splits t m s r n x u → Makes u (setting (negative x) r) v →
      Decides held notes prefix pick allowance (suc depth) (suc splits) v m (assigned (negative x) r) (verdict b) half w m1 →
      ends (outermost prefix r).quantifier b ≡ false → Makes w (setting (positive x) r) y →
      Decides held notes prefix pick allowance (suc depth) half y m1 (assigned (positive x) r) (refused f) done z m2 →
      Decides held notes prefix pick allowance depth splits t m s (refused f) done z m2
  -- the second side gives the verdict
  both_sides : {depth splits half done n x : ℕ} {t u v w y z : Numbering} {m m1 m2 m3 : M} {s r : List (List ℕ)} {b c : Bool} →
      Splits held prefix pick allowance depth splits t m s r n x u → Makes u (setting (negative x) r) v →
      Decides held notes prefix pick allowance (suc depth) (suc splits) v m (assigned (negative x) r) (verdict b) half w m1 →
      ends (outermost prefix r).quantifier b ≡ false → Makes w (setting (positive x) r) y →
      Decides held notes prefix pick allowance (suc depth) half y m1 (assigned (positive x) r) (verdict c) done z m2 →
      notes m2 n c m3 →
      Decides held notes prefix pick allowance depth splits t m s (verdict c) done z m3

-- The pairs are right: each is for a number of the table, with the value of the set that it stands for.
abbrev pub Right : List Quantifier → Numbering → Pairs → Type 0
Right prefix table pairs = (n : ℕ) (b : Bool) → pairs n ≡ Some b → (s : List (List ℕ)) × (stands table n ≡ Some s) × (value prefix 0 s ≡ b)
