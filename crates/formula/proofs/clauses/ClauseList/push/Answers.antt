use Rattle.std.proofs.Common.{ℕ, ◌+◌, List, [], ◌∷◌, ◌++◌, refl, ap, ◌∙◌, length, arith}
use Rattle.std.proofs.lemmas.List.{length-append, drop_all}
use Rattle.arrays.specs.Lists.{items_of}
use Rattle.formula.proofs.Begun.{none_begun}
use Rattle.formula.proofs.Ends.{as_many, climbs_on, clauses_more}
use Rattle.formula.proofs.clauses.ClauseList.push.Goals as goal

pub extend_from_slice-requires : goal.extend_from_slice-requires
extend_from_slice-requires c = omega (arith, c.requires.room, none_begun c.drop_begun.new.self c.drop_begun.ensures.begun)

pub push-requires : goal.push-requires
push-requires c =
    let t = c.drop_begun.new.self in
    omega (arith, c.requires.few, ap length c.drop_begun.ensures.clauses, as_many 0 (items_of t.ends) (items_of t.literals))

pub invariant_of-self : goal.invariant_of-self
invariant_of-self c =
    let t = c.drop_begun.new.self in
    let n = none_begun t c.drop_begun.ensures.begun in
    record {
      stored = rw (c.extend_from_slice.ensures, length-append) (omega arith);
      ordered = rw c.push.ensures (climbs_on 0 (items_of t.ends) t.used _ t.ordered (omega arith));
    }

pub returns : goal.returns
returns c =
    let t = c.drop_begun.new.self in
    let n = none_begun t c.drop_begun.ensures.begun in
    record {
      clauses = rw (c.push.ensures, c.extend_from_slice.ensures) (clauses_more 0 (items_of t.ends) t.used _ (items_of t.literals) c.args.codes.now t.ordered n refl ∙ ap (λ (cs : List (List ℕ)). cs ++ c.args.codes.now ∷ []) c.drop_begun.ensures.clauses);
      used = omega arith;
      begun = let long = simp length-append at (ap length c.extend_from_slice.ensures) in drop_all (t.used + length c.args.codes.now) (items_of c.extend_from_slice.new.self) (omega arith);
    }
