-- The numbers that stay in the list of sets are numbers that the table keeps.
use Rattle.std.proofs.Common.{◌≡◌, ℕ, zero, suc, ◌+◌, ◌<◌, List, Some, arith}
use Rattle.qbf.specs.declared.Quantifier.{Quantifier}
use Rattle.qbf.specs.Numbering.{nth, stands}
use Rattle.table.specs.declared.table.Table.{Table}
use Rattle.table.specs.Tables.{size_of, Number, clauses}
use Rattle.table.proofs.Tables.{ends_stand}
use Rattle.reduction.specs.Numbered.{sets_from, sets_of, Ready, Kept}
use Rattle.reduction.proofs.Numbers.{numbers_stand_lem}
use Rattle.decision.proofs.Grows.{Stay}

nth_inside : (t : Table) (n k i : ℕ) (s : List (List ℕ)) → nth (sets_from t n k) i ≡ Some s → (i < k) × (clauses t (n + i) ≡ s)
unfolding sets_from
nth_inside t n zero i s e = absurd (let z : ◌≡◌ {A = ℕ} 0 1 = cc in omega arith)
nth_inside t n (suc k) zero s e = (omega arith, let a : n + 0 ≡ n = omega arith in rw a (cc))
nth_inside t n (suc k) (suc i) s e =
    let ih = nth_inside t (suc n) k i s e in
    let a : n + suc i ≡ suc n + i = omega arith in
    (omega (arith, ih.0), rw a ih.1)

stands_inside : (t : Table) (n : ℕ) (s : List (List ℕ)) → stands (sets_of t) n ≡ Some s → Number t n × (clauses t n ≡ s)
unfolding sets_of
stands_inside t zero s e = (omega arith, let f = (ends_stand t).0 in cc)
stands_inside t (suc zero) s e = (omega arith, let f = (ends_stand t).1 in cc)
stands_inside t (suc (suc i)) s e =
    let ih = nth_inside t 2 (size_of t) i s e in
    let a : 2 + i ≡ suc (suc i) = omega arith in
    (omega (arith, ih.0), rw (← a) ih.1)

pub kept_by_staying : (t u : Table) → Stay (sets_of t) (sets_of u) → Kept t u
kept_by_staying t u stay n h = stands_inside u n (clauses t n) (stay n (clauses t n) (numbers_stand_lem t n h))

pub ready_later : (prefix : List Quantifier) (t u : Table) (n : ℕ) → Kept t u → Ready prefix t n → Ready prefix u n
ready_later prefix t u n kept r =
    let k = kept n r.held in
    record { held = k.0; within = rw k.1 r.within; few = rw k.1 r.few }
