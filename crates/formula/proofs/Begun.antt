-- The clause that is begun.
use Rattle.std.proofs.Common.{◌≡◌, ◌+◌, ◌≤◌, [], length, ap, arith}
use Rattle.std.proofs.lemmas.List.{length-drop}
use Rattle.arrays.proofs.Fits.{items_fit}
use Rattle.arrays.specs.Lists.{items_of}
use Rattle.formula.specs.declared.clauses.ClauseList.{ClauseList}
use Rattle.formula.specs.Views.{begun_of}

-- where none is begun, the literals end where those of the stored clauses do
pub none_begun : (t : ClauseList) → begun_of t ≡ [] → t.used ≡ length (items_of t.literals)
none_begun t e =
    let none = ap length e in
    let stored = t.stored in
    omega (arith, length-drop t.used (items_of t.literals))

-- there is room for the clause that is begun
pub room_with_begun : (t : ClauseList) → t.used + length (begun_of t) ≤ 30000
room_with_begun t =
    let stored = t.stored in
    omega (arith, items_fit t.literals, length-drop t.used (items_of t.literals))
