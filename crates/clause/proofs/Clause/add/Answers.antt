use Rattle.std.proofs.Common.{ℕ, List, [], ◌∷◌, ◌++◌, sym, ap, ◌∙◌, arith}
use Rattle.clause.specs.Codes.{codes_of}
use Rattle.qbf.proofs.Lists.{mem_not_in}
use Rattle.clause.proofs.Sets.{once_new}
use Rattle.clause.proofs.Codes.{room_for}
use Rattle.clause.proofs.Marked.{marked_new}
use Rattle.clause.proofs.Clause.add.Goals as goal

pub push-requires : goal.push-requires
push-requires c = omega (arith, room_for c.args.self.now c.args.code c.requires (sym c.has-2.ensures ∙ c.if-not-has.true))

pub invariant_of-self-then-not-has : goal.invariant_of-self-then-not-has
invariant_of-self-then-not-has c =
    let t = c.args.self.now in
    let x = c.args.code in
    let new = mem_not_in x (codes_of t) (sym c.has-2.ensures ∙ c.if-not-has.true) in
    record {
      apart = rw c.push.ensures (once_new (codes_of t) x new ∙ ap (λ (cs : List ℕ). cs ++ x ∷ []) t.apart);
      marked = λ k. rw c.push.ensures (marked_new t.marks.at _ (codes_of t) x t.marks.long c.requires c.set.ensures t.marked k);
    }
