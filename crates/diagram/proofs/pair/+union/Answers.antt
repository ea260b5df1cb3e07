use Rattle.std.proofs.Common.{◌≡◌, ℕ, [], sym, ap, ◌∙◌, arith}
use Rattle.std.proofs.lemmas.Result.{err_from_is_err_and}
use Rattle.qbf.specs.Clauses.{union}
use Rattle.sets.proofs.Joined.{union_nil, union_self}
use Rattle.table.specs.Tables.{clauses}
use Rattle.table.proofs.Tables.{ends_stand}
use Rattle.diagram.proofs.Steps.{Split, there, made_as, refused_high, refused_low, ready_high, ready_low, ready_high_over, ready_low_over, made}
use Rattle.diagram.proofs.Cofactors.{union_split, union_kept}
use Rattle.diagram.proofs.pair.+union.Goals as goal
use Rattle.diagram.proofs.pair.+union.Goals.{After-sides_at-right, In_ok-with, then-a-b-via-then-a-b, then-a-b-via-else-a-b+then-b-eq0}

pub returns-then-a-b : goal.returns-then-a-b
returns-then-a-b t c =
    let x = c.args.table.now in
    there x _ c.args.a c.requires.a_held (elim c.then-a-b.branch [
      | then-a-b-via-then-a-b w ↦ sym (ap (λ n. union (clauses x c.args.a) (clauses x n)) (sym w.if-a-b.true) ∙ union_self (clauses x c.args.a))
      | then-a-b-via-else-a-b+then-b-eq0 w ↦
          let none : clauses x c.args.b ≡ [] = ap (clauses x) w.if-b-eq0.true ∙ (ends_stand x).0 in
          sym (ap (union (clauses x c.args.a)) none ∙ union_nil (clauses x c.args.a))
    ])

pub returns-then-a-eq0 : goal.returns-then-a-eq0
returns-then-a-eq0 t c =
    let x = c.args.table.now in
    let none : clauses x c.args.a ≡ [] = ap (clauses x) c.if-a-eq0.true ∙ (ends_stand x).0 in
    there x _ c.args.b c.requires.b_held (sym (ap (λ s. union s (clauses x c.args.b)) none))

-- the union is made by those of the sides
split : (t : ℕ) (c : goal.After-sides_at-right t) →
    let x = c.args.table.now in
    let l = c.sides_at-left.result in
    let r = c.sides_at-right.result in
    Split (union (clauses x c.args.a) (clauses x c.args.b)) c.lowest-code.result (union (clauses x l.with) (clauses x r.with)) (union (clauses x l.without) (clauses x r.without))
split t c = union_split c.args.table.now _ _ _ _ _ _ _ c.sides_at-left.ensures c.sides_at-right.ensures

-- after that of the with-sides, that of the without-sides is the same
same : (t : ℕ) (c : goal.In_ok-with t) →
    let x = c.args.table.now in
    let u = c.union.new.table in
    let l = c.sides_at-left.result in
    let r = c.sides_at-right.result in
    union (clauses u l.without) (clauses u r.without) ≡ union (clauses x l.without) (clauses x r.without)
same t c =
    union_kept c.args.table.now _ c.union.new.table c.in_ok-with.ensures.grows c.sides_at-left.result.without c.sides_at-right.result.without
    (omega (arith, c.sides_at-left.ensures.lo_le, c.requires.a_held)) (omega (arith, c.sides_at-right.ensures.lo_le, c.requires.b_held))

pub returns-in_err-with : goal.returns-in_err-with
returns-in_err-with t c =
    let p = err_from_is_err_and c.from_residual.result c.from_residual.ensures.1 in
    rw p.1 (refused_high (split t (goal.at.returns-in_err-with t c).After-sides_at-right) c.in_err-with.ensures)

pub returns-in_err-without : goal.returns-in_err-without
returns-in_err-without t c =
    let at = goal.at.returns-in_err-without t c in
    let p = err_from_is_err_and c.from_residual-in_err-without.result c.from_residual-in_err-without.ensures.1 in
    rw p.1 (refused_low (split t at.After-sides_at-right) c.in_ok-with.ensures (made_as (same t at.In_ok-with) c.in_err-without.ensures))

pub make-requires : goal.make-requires
make-requires t c =
    let at = goal.at.make-requires t c in
    let s = split t at.After-sides_at-right in
    let f = c.in_ok-with.ensures in
    let g = made_as (same t at.In_ok-with) c.in_ok-without.ensures in
    record { coded = c.lowest-code.ensures.coded; with_held = ready_high s f g; without_held = ready_low s f g; with_over = ready_high_over s f g; without_over = ready_low_over s f g }

pub returns : goal.returns
returns t c =
    let at = goal.at.returns t c in
    made (split t at.After-sides_at-right) c.in_ok-with.ensures (made_as (same t at.In_ok-with) c.in_ok-without.ensures) c.make.ensures
