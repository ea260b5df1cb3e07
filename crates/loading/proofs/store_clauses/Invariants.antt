use Rattle.std.proofs.Common.{◌<◌}
use Rattle.std.specs.List.{AllByRecursion}
use Rattle.formula.specs.Views.{clauses_of, clauses_left}
use Rattle.loading.proofs.Storing.{Stored}
use Rattle.loading.proofs.store_clauses.Given as goal

-- the clauses that are left have small codes, and are still to be stored
abbrev pub invariant-loop-codes : goal.invariant-loop-codes
invariant-loop-codes l =
    (goal.iterator-loop-codes).can_next l.codes-iterator × (goal.iterator-loop-codes).is_finite l.codes-iterator
    × AllByRecursion (AllByRecursion (λ x. x < 512)) (clauses_left l.codes-iterator)
    × Stored l.initial.table (clauses_of l.clauses) (clauses_left l.codes-iterator) l.table l.set
