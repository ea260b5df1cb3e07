-- Rows of pairs.
use Rattle.std.specs.Prelude.{ℕ, cond, List, [], ◌∷◌, map, Some, None, ◌==◌, ◌≢◌}
use Rattle.std.specs.List.{AllPairs}
use Rattle.qbf.specs.Memo.{Pairs}
use Rattle.memos.specs.declared.pair.Pair.{Pair}

-- the verdict of the first pair with a number
abbrev pub verdict_among : List Pair → Pairs
verdict_among [] n = None
verdict_among (p ∷ ps) n = cond (n == p.number) (Some p.verdict) (verdict_among ps n)

abbrev pub numbers_of : List Pair → List ℕ
numbers_of ps = map (λ p. p.number) ps

-- the numbers at any two places differ
abbrev pub Apart : List Pair → Type 0
Apart ps = AllPairs ◌≢◌ (numbers_of ps)
