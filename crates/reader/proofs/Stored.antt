-- The literals of the stored clauses.
use Rattle.std.proofs.Common.{◌≡◌, ℕ, ◌+◌, ◌≤◌, true, leb, List, [], ◌∷◌, length, arith}
use Rattle.std.specs.List.{between, sum_by}
use Rattle.std.proofs.lemmas.List.Sums.{sum_by-cons}
use Rattle.std.proofs.lemmas.List.Edits.{length-between}
use Rattle.std.proofs.lemmas.Bool.{and_parts, leb-true, eqb-true}
use Rattle.arrays.specs.Lists.{items_of}
use Rattle.formula.specs.declared.clauses.ClauseList.{ClauseList}
use Rattle.formula.specs.Ends.{climbs, clauses_from}
use Rattle.formula.specs.Views.{clauses_of}
use Rattle.formula.proofs.Ends.{climbs_up}

-- from the start to the top
total_from : (s : ℕ) (es : List ℕ) (top : ℕ) (xs : List ℕ) → climbs s es top ≡ true → top ≤ length xs → s + sum_by length (clauses_from s es xs) ≡ top
total_from s [] top xs c h = let e = eqb-true s top c in omega arith
total_from s (e ∷ es) top xs c h =
    let p = and_parts (leb s e) (climbs e es top) c in
    let a = leb-true s e p.0 in
    let b = climbs_up e es top p.1 in
    let l = length-between xs s e (omega arith) in
    let sum = sum_by-cons length (between s e xs) (clauses_from e es xs) in
    let ih = total_from e es top xs p.1 h in
    omega arith

-- as many literals as are used
pub total_used : (t : ClauseList) → sum_by length (clauses_of t) ≡ t.used
total_used t =
    let e = total_from 0 (items_of t.ends) t.used (items_of t.literals) t.ordered t.stored in
    omega arith
