-- A row whose numbers differ holds as many pairs as it has places.
use Rattle.std.proofs.Common.{◌≡◌, ◌≢◌, ℕ, suc, Bool, true, false, cond, ◌||◌, eqb, List, [], ◌∷◌, length, is_some, Some, Option, refl, arith}
use Rattle.std.specs.List.{AllPairs}
use Rattle.std.proofs.ByRecursion.{All-from_get_or}
use Rattle.std.proofs.lemmas.List.{length-map}
use Rattle.qbf.specs.Lists.{Distinct, mem}
use Rattle.memos.specs.declared.pair.Pair.{Pair}
use Rattle.memos.specs.Rows.{verdict_among, numbers_of, Apart}
use Rattle.memos.specs.Notes.{Holding}

test_some : (b : Bool) (v : Bool) (o : Option Bool) → is_some (cond b (Some v) o) ≡ b || is_some o
test_some true v o = refl
test_some false v o = refl

pub some_listed : (ps : List Pair) (k : ℕ) → is_some (verdict_among ps k) ≡ mem k (numbers_of ps)
some_listed [] k = refl
some_listed (p ∷ ps) k = rw (test_some (eqb k p.number) p.verdict (verdict_among ps k), some_listed ps k)

distinct_from_apart : (xs : List ℕ) → AllPairs ◌≢◌ xs → Distinct xs
distinct_from_apart [] apart = tt
distinct_from_apart (x ∷ xs) apart = (
  All-from_get_or _ xs 0 (λ j h. apart 0 (suc j) 0 (omega arith) (omega arith)),
  distinct_from_apart xs (λ i j d h l. apart (suc i) (suc j) d (omega arith) (omega arith)),
)

pub row_holding : (ps : List Pair) → Apart ps → Holding (verdict_among ps) (length ps)
row_holding ps apart = record {
  numbers = numbers_of ps;
  long = length-map ps (λ p. p.number);
  apart = distinct_from_apart (numbers_of ps) apart;
  listed = some_listed ps;
}
