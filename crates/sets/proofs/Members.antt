-- Which clauses stand in the sets that the operations make.
use Rattle.std.proofs.Common.{ℕ, ◌<◌, not, List, [], ◌∷◌, length, sym, refl, subst, inl, inr, arith}
use Rattle.std.proofs.lemmas.Bool.Decides.{nat_tests}
use Rattle.std.proofs.lemmas.Bool.{cases_Bool}
use Rattle.qbf.specs.Literals.{complement}
use Rattle.qbf.specs.Lists.{In, mem, without}
use Rattle.qbf.specs.Clauses.{holding, lacking, taken_out, assigned}
use Rattle.sets.specs.Laws.{UnionMembers, LackingMembers, HoldingMembers, OccursCounted, TakenOutMembers, AssignedMembers}
use Rattle.sets.proofs.Words.{mem_in, in_mem, not_mem, mem_not, without_absent, in_kept, kept_in, in_map, map_in}
use Rattle.sets.proofs.Order.{in_union, union_left, union_right}

pub union_members : UnionMembers
union_members c s t = (in_union c s t, elim [ inl i ↦ union_left c s t i | inr i ↦ union_right c s t i ])

pub lacking_members : LackingMembers
lacking_members l c s = (
  λ i. let r = in_kept (λ c. not (mem l c)) c s i in (r.0, mem_not l c (grind (arith, nat_tests))),
  λ r. kept_in (λ c. not (mem l c)) c s r.0 (rw (not_mem l c r.1)),
)

pub holding_members : HoldingMembers
holding_members l c s = (
  λ i. let r = in_kept (mem l) c s i in (r.0, mem_in l c r.1),
  λ r. kept_in (mem l) c s r.0 (in_mem l c r.1),
)

some_in : {A : Type 0} (xs : List A) → 0 < length xs → (x : A) × In x xs
some_in [] h = absurd (omega arith)
some_in (x ∷ xs) h = (x, inl refl)

in_some : {A : Type 0} (x : A) (xs : List A) → In x xs → 0 < length xs
in_some x [] i = absurd i
in_some x (y ∷ xs) i = omega arith

pub occurs_counted : OccursCounted
occurs_counted l s = (
  λ h. let r = some_in (holding l s) h in let m = (holding_members l r.0 s).0 r.1 in (r.0, m.0, m.1),
  λ r. in_some r.0 (holding l s) ((holding_members l r.0 s).1 (r.1, r.2)),
)

pub taken_out_members : TakenOutMembers
taken_out_members l c s = (
  λ i. let r = in_map (without l) c (holding l s) i in let h = (holding_members l r.0 s).0 r.1 in (r.0, h.0, h.1, r.2),
  λ r. subst (λ d. In d (taken_out l s)) (sym r.3) (map_in (without l) r.0 (holding l s) ((holding_members l r.0 s).1 (r.1, r.2))),
)

pub assigned_members : AssignedMembers
assigned_members l c s =
    let m : ℕ = complement l in
    let t : List (List ℕ) = lacking l s in (
      λ i. elim (in_union c (taken_out m t) (lacking m t) i) [
        | inl j ↦
            let r = (taken_out_members m c t).0 j in
            let h = (lacking_members l r.0 s).0 r.1 in
            (r.0, h.0, h.1, r.3)
        | inr j ↦
            let r = (lacking_members m c t).0 j in
            let h = (lacking_members l c s).0 r.0 in
            (c, h.0, h.1, sym (without_absent m c (not_mem m c r.1)))
      ],
      λ r.
          let d : List ℕ = r.0 in
          let i : In d t = (lacking_members l d s).1 (r.1, r.2) in
          subst (λ e. In e (assigned l s)) (sym r.3) (elim (cases_Bool (mem m d)) [
            | inl e ↦ union_left (without m d) (taken_out m t) (lacking m t) ((taken_out_members m (without m d) t).1 (d, i, mem_in m d e, refl))
            | inr e ↦ subst (λ e. In e (assigned l s)) (sym (without_absent m d e)) (union_right d (taken_out m t) (lacking m t) ((lacking_members m d t).1 (i, mem_not m d e)))
          ]),
    )
