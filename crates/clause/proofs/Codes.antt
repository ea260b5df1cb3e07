-- What holds of every clause.
use Rattle.std.proofs.Common.{◌≡◌, ℕ, ◌<◌, Bool, false, ◌∷◌, length, get_or, sym, ◌∙◌, subst, ⊎_elim, arith}
use Rattle.std.specs.List.{AllByRecursion}
use Rattle.std.proofs.lemmas.List.{get_or_past, get_or_read}
use Rattle.std.proofs.lemmas.Bool.{both_ways, cases_lt}
use Rattle.qbf.specs.Lists.{In, Distinct, mem}
use Rattle.clause.specs.declared.Clause.{Clause}
use Rattle.clause.specs.Codes.{codes_of}
use Rattle.qbf.proofs.Lists.{in_mem, mem_not_in, all_from_in, apart_from_in}
use Rattle.clause.proofs.Members.{distinct_length}
use Rattle.clause.proofs.Sets.{once_distinct}

-- a code of the clause is marked, and codes from 512 on are not
pub codes_small : (c : Clause) → AllByRecursion (λ x. x < 512) (codes_of c)
codes_small c = all_from_in (λ x. x < 512) (codes_of c) small
  where
    small : (k : ℕ) → In k (codes_of c) → k < 512
    small k i =
        let long = c.marks.long in
        ⊎_elim (λ h. h) (λ h. absurd (both_ways (mem k (codes_of c)) (sym (c.marked k) ∙ get_or_past c.marks.at k false (omega arith)) (in_mem k (codes_of c) i))) (cases_lt k 512)

pub codes_distinct : (c : Clause) → Distinct (codes_of c)
codes_distinct c = subst Distinct c.apart (once_distinct (codes_of c))

-- there is room for a new literal: distinct codes below 512 are at most 512
pub room_for : (c : Clause) (x : ℕ) → x < 512 → mem x (codes_of c) ≡ false → length (codes_of c) < 512
room_for c x h e =
    let most = distinct_length 512 (x ∷ codes_of c) (apart_from_in x (codes_of c) (mem_not_in x (codes_of c) e), codes_distinct c) (h, codes_small c) in
    omega arith

-- what a look at the marks tells
pub looked : (c : Clause) (x : ℕ) (r : Bool) → x < 512 → r ≡ get_or c.marks.at x r → r ≡ mem x (codes_of c)
looked c x r h e = let long = c.marks.long in get_or_read c.marks.at x r (omega arith) e false ∙ c.marked x
