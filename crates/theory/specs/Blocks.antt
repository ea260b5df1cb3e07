-- Blocks are the longest runs of prefix neighbours with one quantifier, and the candidates are found by one look along the prefix.
use Rattle.std.specs.Prelude.{◌≡◌, ℕ, suc, ◌<◌, cond, List, [], ◌∷◌, ◌++◌, map, length, ◌≢◌}
use Rattle.std.specs.List.{AllByRecursion}
use Rattle.qbf.specs.declared.Quantifier.{Quantifier}
use Rattle.qbf.specs.declared.Quantifier.TheVariants.{Existential}
use Rattle.qbf.specs.Reduce.{same}
use Rattle.qbf.specs.Walk.{Block, blocks, present, outermost, candidate, candidates}

-- the variables of blocks in order, each with its quantifier
abbrev pub unrolled : List Block → List (ℕ × Quantifier)
unrolled [] = []
unrolled (b ∷ bs) = map (λ x. (x, b.quantifier)) b.variables ++ unrolled bs

-- the variables of a prefix whose first is v
abbrev pub numbered : List Quantifier → ℕ → List (ℕ × Quantifier)
numbered [] v = []
numbered (q ∷ prefix) v = (v, q) ∷ numbered prefix (suc v)

-- neighbouring blocks have different quantifiers
abbrev pub Alternate : List Block → Type 0
Alternate [] = Unit {0}
Alternate (b ∷ []) = Unit {0}
Alternate (b ∷ c ∷ bs) = (b.quantifier ≢ c.quantifier) × Alternate (c ∷ bs)

pub record Runs (prefix : List Quantifier) (v : ℕ) : Type 0 where
  pub all : unrolled (blocks prefix v) ≡ numbered prefix v
  pub filled : AllByRecursion (λ b. 0 < length b.variables) (blocks prefix v)
  pub longest : Alternate (blocks prefix v)

abbrev pub BlocksRun : Type 0
BlocksRun = (prefix : List Quantifier) (v : ℕ) → Runs prefix v

-- of the neighbours that q binds, the variables that occur; the first is v
abbrev pub neighbours : Quantifier → List Quantifier → ℕ → List (List ℕ) → List ℕ
neighbours q [] v s = []
neighbours q (r ∷ prefix) v s = cond (same q r) (cond (present v s) (v ∷ neighbours q prefix (suc v) s) (neighbours q prefix (suc v) s)) []

-- from the first variable that occurs
abbrev pub scanned : List Quantifier → ℕ → List (List ℕ) → List ℕ
scanned [] v s = []
scanned (q ∷ prefix) v s = cond (present v s) (v ∷ neighbours q prefix (suc v) s) (scanned prefix (suc v) s)

-- and its quantifier
abbrev pub owner : List Quantifier → ℕ → List (List ℕ) → Quantifier
owner [] v s = Existential
owner (q ∷ prefix) v s = cond (present v s) q (owner prefix (suc v) s)

abbrev pub CandidatesScanned : Type 0
CandidatesScanned =
    (prefix : List Quantifier) (s : List (List ℕ)) →
    (candidates prefix s ≡ map (candidate s) (scanned prefix 0 s)) × ((outermost prefix s).quantifier ≡ owner prefix 0 s)
