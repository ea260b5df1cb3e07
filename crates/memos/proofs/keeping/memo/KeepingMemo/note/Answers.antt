use Rattle.std.proofs.Common.{arith}
use Rattle.std.proofs.lemmas.Bool.Decides.{nat_tests}
use Rattle.arrays.proofs.Fits.{items_fit}
use Rattle.memos.proofs.Noted.{replaced_notes, replaced_apart, taken_notes, taken_apart, ignored_notes}
use Rattle.memos.proofs.keeping.memo.KeepingMemo.note.Goals as goal

pub invariant_of-self : goal.invariant_of-self
invariant_of-self c =
    let there = rw c.as_slice.ensures at c.in-Some.ensures in
    record { apart = replaced_apart c.args.self.now c.args.number c.args.verdict c.in-Some.place there _ c.set.ensures }

pub returns-in-Some : goal.returns-in-Some
returns-in-Some c =
    let there = rw c.as_slice.ensures at c.in-Some.ensures in
    replaced_notes c.args.self.now c.args.number c.args.verdict c.in-Some.place there _ c.set.ensures

pub invariant_of-self-then-not-is_full : goal.invariant_of-self-then-not-is_full
invariant_of-self-then-not-is_full c =
    let lacks = rw c.as_slice.ensures at c.in_default.ensures in
    record { apart = taken_apart c.args.self.now c.args.number c.args.verdict lacks (grind (arith, nat_tests, items_fit c.args.self.now.pairs)) _ c.push.ensures }

pub returns-then-not-is_full : goal.returns-then-not-is_full
returns-then-not-is_full c =
    let lacks = rw c.as_slice.ensures at c.in_default.ensures in
    taken_notes c.args.self.now c.args.number c.args.verdict lacks (grind (arith, nat_tests, items_fit c.args.self.now.pairs)) _ c.push.ensures

pub returns-else-not-is_full : goal.returns-else-not-is_full
returns-else-not-is_full c =
    let lacks = rw c.as_slice.ensures at c.in_default.ensures in
    ignored_notes c.args.self.now c.args.number c.args.verdict lacks (grind (arith, nat_tests, items_fit c.args.self.now.pairs))
