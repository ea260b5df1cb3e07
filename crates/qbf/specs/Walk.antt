-- The bare walk: reduce, choose a variable of the outermost block, walk with it false and then, if need be, with it true.
use Rattle.std.specs.Prelude.{ℕ, zero, suc, ◌+◌, ◌-◌, Bool, false, cond, not, ◌||◌, List, [], ◌∷◌, ◌++◌, map, length, filter, nat_lt}
use Rattle.qbf.specs.declared.Quantifier.{Quantifier}
use Rattle.qbf.specs.declared.Quantifier.TheVariants.{Existential, Universal}
use Rattle.qbf.specs.declared.Candidate.{Candidate}
use Rattle.qbf.specs.Literals.{positive, negative}
use Rattle.qbf.specs.Clauses.{holding, assigned, setting}
use Rattle.qbf.specs.Value.{none}
use Rattle.qbf.specs.Reduce.{same, occurs, Outcome, decided, left, reduce, size}

-- a longest run of prefix neighbours with one quantifier, and its variables in prefix order
pub record Block : Type 0 where
  pub quantifier : Quantifier
  pub variables : List ℕ

-- the variable v, bound by q, put ahead of the blocks that follow it: it joins the first if that has its quantifier
abbrev pub ahead : Quantifier → ℕ → List Block → List Block
ahead q v [] = record { quantifier = q; variables = v ∷ [] } ∷ []
ahead q v (b ∷ bs) =
    cond (same q b.quantifier)
    (record { quantifier = q; variables = v ∷ b.variables } ∷ bs)
    (record { quantifier = q; variables = v ∷ [] } ∷ b ∷ bs)

-- the blocks of a prefix whose first variable is v, outermost first
abbrev pub blocks : List Quantifier → ℕ → List Block
blocks [] v = []
blocks (q ∷ prefix) v = ahead q v (blocks prefix (suc v))

-- whether the variable x occurs in the set, by either literal
abbrev pub present : ℕ → List (List ℕ) → Bool
present x s = occurs (positive x) s || occurs (negative x) s

-- whether one of the variables occurs
abbrev pub some_present : List ℕ → List (List ℕ) → Bool
some_present [] s = false
some_present (x ∷ xs) s = present x s || some_present xs s

-- the first block with a variable that occurs (with no variables, if there is none)
abbrev pub first_present : List Block → List (List ℕ) → Block
first_present [] s = record { quantifier = Existential; variables = [] }
first_present (b ∷ bs) s = cond (some_present b.variables s) b (first_present bs s)

-- the outermost block that has a variable that occurs
abbrev pub outermost : List Quantifier → List (List ℕ) → Block
outermost prefix s = first_present (blocks prefix 0) s

-- what is told of a variable: its position, counted from 1, and how many clauses have its positive and its negative literal
abbrev pub candidate : List (List ℕ) → ℕ → Candidate
candidate s x = record { position = x + 1; positive = length (holding (positive x) s); negative = length (holding (negative x) s) }

-- the candidates: the variables of that block that occur, in prefix order
abbrev pub candidates : List Quantifier → List (List ℕ) → List Candidate
candidates prefix s = map (candidate s) (filter (λ x. present x s) (outermost prefix s).variables)

-- the variable at the picked position
abbrev pub picked : (List Candidate → ℕ) → List Candidate → ℕ
picked pick cs = pick cs - 1

-- what a walk comes to: its verdict, how many splits it counts, how many of them are open at once at most,
-- and all the sets that it makes, in order
pub record Walked : Type 0 where
  pub verdict : Bool
  pub splits : ℕ
  pub depth : ℕ
  pub made : List (List (List ℕ))

-- whether the verdict of a first side ends a split: true an existential one, false a universal one
abbrev pub ends : Quantifier → Bool → Bool
ends Existential b = b
ends Universal b = not b

-- the larger of two numbers
abbrev pub larger : ℕ → ℕ → ℕ
larger m n = cond (nat_lt m n) n m

-- a walk that begins with sets that were made before it
abbrev pub after : List (List (List ℕ)) → Walked → Walked
after sets w = record { verdict = w.verdict; splits = w.splits; depth = w.depth; made = sets ++ w.made }

-- a walk without a split
abbrev pub unsplit : Bool → Walked
unsplit b = record { verdict = b; splits = 0; depth = 0; made = [] }

-- one split, by the walks of its two sides: the second counts only if the first does not end the split
abbrev pub split : Quantifier → Walked → Walked → Walked
split q a b =
    cond (ends q a.verdict)
    (record { verdict = a.verdict; splits = suc a.splits; depth = suc a.depth; made = a.made })
    (record { verdict = b.verdict; splits = suc (a.splits + b.splits); depth = suc (larger a.depth b.depth); made = a.made ++ b.made })

-- the side of a split that sets the literal l
abbrev pub side : (List (List ℕ) → Walked) → List (List ℕ) → ℕ → Walked
side next t l = after (setting l t) (next (assigned l t))

-- Choosing and splitting a reduced set: the variable is set false first. (If no variable of the prefix occurs, none is split.)
abbrev pub branch : (List Candidate → ℕ) → (List (List ℕ) → Walked) → Quantifier → List (List ℕ) → List Candidate → Walked
branch pick next q t [] = unsplit (none t)
branch pick next q t (c ∷ cs) = split q (side next t (negative (picked pick (c ∷ cs)))) (side next t (positive (picked pick (c ∷ cs))))

-- what follows reducing
abbrev pub turn : (List Candidate → ℕ) → (List (List ℕ) → Walked) → List Quantifier → Outcome → Walked
turn pick next prefix (decided b) = unsplit b
turn pick next prefix (left t) = branch pick next (outermost prefix t).quantifier t (candidates prefix t)

-- the walk with fewer than n splits open, so that it computes; the bound below is never met
unfoldable pub walk_within : (List Candidate → ℕ) → ℕ → List Quantifier → List (List ℕ) → Walked
walk_within pick zero prefix s = unsplit (none s)
walk_within pick (suc n) prefix s = after (reduce prefix s).made (turn pick (walk_within pick n prefix) prefix (reduce prefix s).outcome)

-- The whole bare walk: each split takes a literal out, so that no more splits are open than there are literals.
abbrev pub bare : (List Candidate → ℕ) → List Quantifier → List (List ℕ) → Walked
bare pick prefix s = walk_within pick (suc (size s)) prefix s
