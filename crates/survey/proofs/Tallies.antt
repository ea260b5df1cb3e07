-- The counts of a set by its sides.
use Rattle.std.proofs.Common.{◌≡◌, ℕ, ◌+◌, ◌<◌, ◌≤◌, Bool, List, [], ◌∷◌, length, get_or, set, replicate, filter, sym, ap, ◌∙◌, subst, inl, inr, arith}
use Rattle.std.proofs.lemmas.Bool.Decides.{nat_tests}
use Rattle.std.proofs.lemmas.Bool.{cases_eq}
use Rattle.std.proofs.lemmas.List.{get_or-set_same, get_or-set_other, get_or-replicate}
use Rattle.qbf.specs.Lists.{mem}
use Rattle.qbf.specs.Clauses.{holding}
use Rattle.sets.proofs.Joined.{length_joined, count_here, count_other, holding_over}
use Rattle.table.specs.declared.set.Set.{Set}
use Rattle.table.specs.declared.set.reading.Branches.{Branches}
use Rattle.table.specs.Tables.{clauses}
use Rattle.table.specs.Sets.{clauses_of, Branched}
use Rattle.table.proofs.Tables.{ends_stand, small_over}
use Rattle.survey.specs.Surveyed.{Counted, Tallied, Roomy}

kept_few : (p : List ℕ → Bool) (s : List (List ℕ)) → length (filter p s) ≤ length s
kept_few p [] = omega arith
kept_few p (c ∷ s) = let ih = kept_few p s in grind (arith, nat_tests)

few_held : (l : ℕ) (s : List (List ℕ)) → length (holding l s) ≤ length s
few_held l s = kept_few (mem l) s

-- the set s by its branches x; the counts were c0, and c1 after the with-side
module _ (s : Set) (x : Branches) (o : Branched s x) (c0 : List ℕ) (room : Roomy (length (clauses_of s)) c0) where
  abbrev hi : List (List ℕ)
  hi = clauses_of x.with

  abbrev lo : List (List ℕ)
  lo = clauses_of x.without

  pub total : length (clauses_of s) ≡ length hi + length lo
  total = ap length o.means ∙ length_joined x.code hi lo

  held_here : length (holding x.code (clauses_of s)) ≡ length hi
  held_here = ap (λ r. length (holding x.code r)) o.means ∙ count_here x.code hi lo o.without_over

  held_other : (l : ℕ) → (x.code ≡ l → ⊥) → length (holding l (clauses_of s)) ≡ length (holding l hi) + length (holding l lo)
  held_other l ne = ap (λ r. length (holding l r)) o.means ∙ count_other l x.code hi lo ne

  none_high : length (holding x.code hi) ≡ 0
  none_high = ap length (holding_over x.code x.code hi (omega arith) o.with_over)

  none_low : length (holding x.code lo) ≡ 0
  none_low = ap length (holding_over x.code x.code lo (omega arith) o.without_over)

  pub room_high : Roomy (length hi) c0
  room_high l low = let r = room l low in let e = total in omega arith

  module _ (c1 : List ℕ) (first : Tallied hi c0 c1) where
    here_then : get_or c1 x.code 0 ≡ get_or c0 x.code 0
    here_then = let f = first x.code o.coded in let e = none_high in omega arith

    pub room_here : get_or c1 x.code 0 + length hi < 65536
    room_here = let r = room x.code o.coded in let e = total in let h = here_then in omega arith

    module _ (long : length c1 ≡ 512) (c2 : List ℕ) (added : c2 ≡ set c1 x.code (get_or c1 x.code 0 + length hi)) where
      now_here : get_or c2 x.code 0 ≡ get_or c0 x.code 0 + length hi
      now_here =
          let low = o.coded in
          ap (λ c. get_or c x.code 0) added ∙ get_or-set_same c1 x.code (get_or c1 x.code 0 + length hi) 0 (omega arith) ∙ ap (λ k. k + length hi) here_then

      now_other : (l : ℕ) → (l ≡ x.code → ⊥) → l < 512 → get_or c2 l 0 ≡ get_or c0 l 0 + length (holding l hi)
      now_other l ne low = ap (λ c. get_or c l 0) added ∙ get_or-set_other c1 x.code l (get_or c1 x.code 0 + length hi) 0 ne ∙ first l low

      pub room_low : Roomy (length lo) c2
      room_low l low =
          let r = room l low in
          let e = total in
          elim (cases_eq l x.code) [
            | inl at ↦ (let h : get_or c2 l 0 ≡ get_or c0 l 0 + length hi = subst (λ k. get_or c2 k 0 ≡ get_or c0 k 0 + length hi) (sym at) now_here in omega arith)
            | inr ne ↦ (let h = now_other l ne low in let f = few_held l hi in omega arith)
          ]

      pub tallied : (c3 : List ℕ) → Tallied lo c2 c3 → Tallied (clauses_of s) c0 c3
      tallied c3 second l low =
          let b = second l low in
          elim (cases_eq l x.code) [
            | inl at ↦ (
                let h : get_or c2 l 0 ≡ get_or c0 l 0 + length hi = subst (λ k. get_or c2 k 0 ≡ get_or c0 k 0 + length hi) (sym at) now_here in
                let z : length (holding l lo) ≡ 0 = subst (λ k. length (holding k lo) ≡ 0) (sym at) none_low in
                let w : length (holding l (clauses_of s)) ≡ length hi = subst (λ k. length (holding k (clauses_of s)) ≡ length hi) (sym at) held_here in
                omega arith)
            | inr ne ↦ (let h = now_other l ne low in let w = held_other l (λ e. ne (sym e)) in omega arith)
          ]

-- the two sets without nodes
pub small_total : (s : Set) → s.number < 2 → s.number ≡ length (clauses_of s)
small_total s two =
    let t = s.table.now in
    elim (cases_eq s.number 0) [
      | inl e ↦ e ∙ sym (ap length (ap (clauses t) e ∙ (ends_stand t).0))
      | inr ne ↦ (let e : s.number ≡ 1 = omega arith in e ∙ sym (ap length (ap (clauses t) e ∙ (ends_stand t).1)))
    ]

pub small_tallied : (s : Set) → s.number < 2 → (counts : List ℕ) → Tallied (clauses_of s) counts counts
small_tallied s two counts l low = let z : length (holding l (clauses_of s)) ≡ 0 = ap length (holding_over l l (clauses_of s) (omega arith) (small_over s.table.now s.number l two)) in omega arith

-- from counts of 0

none_yet : (l : ℕ) → l < 512 → ◌≡◌ {A = ℕ} (get_or (replicate 512 0) l 0) 0
none_yet l low = get_or-replicate {A = ℕ} 512 l 0 0 low

pub room_none : (n : ℕ) → n < 65536 → Roomy n (replicate 512 0)
room_none n few l low = omega (arith, none_yet l low)

pub counted : (s : List (List ℕ)) (counts : List ℕ) → Tallied s (replicate 512 0) counts → Counted s counts
counted s counts a l low = omega (arith, none_yet l low, a l low)
