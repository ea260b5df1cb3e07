-- How a split starts.
use Rattle.std.specs.Prelude.{◌≡◌, suc, ◌<◌, Ok, Err, Result}
use Rattle.decision.specs.declared.progress.Progress.{Progress}
use Rattle.decision.specs.declared.unfinished.Halt.{Halt}
use Rattle.decision.specs.declared.unfinished.Halt.TheVariants.{Full, Spent, TooDeep}

-- The split is counted and open; or the allowance is spent; or too many are open. Otherwise nothing changes.
abbrev pub Starts : Progress → Result (Unit {0}) Halt → Progress → Type 0
Starts p (Ok u) q = (p.splits < p.allowance) × (p.depth < 256) × (q.allowance ≡ p.allowance) × (q.splits ≡ suc p.splits) × (q.depth ≡ suc p.depth)
Starts p (Err Full) q = ⊥
Starts p (Err Spent) q = (q ≡ p) × (p.splits ≡ p.allowance)
Starts p (Err TooDeep) q = (q ≡ p) × (p.splits < p.allowance) × (p.depth ≡ 256)
