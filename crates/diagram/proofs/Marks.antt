-- The marks of a list of codes.
use Rattle.std.proofs.Common.{◌≡◌, ℕ, ◌+◌, ◌<◌, ◌≤◌, Bool, true, false, ◌||◌, eqb, List, [], ◌∷◌, ◌++◌, length, get_or, take, set, replicate, sym, ap, ◌∙◌, subst, inl, inr, arith}
use Rattle.std.specs.List.{AllByRecursion}
use Rattle.std.proofs.ByRecursion.{All-push, All-weaker}
use Rattle.std.proofs.lemmas.Bool.Decides.{nat_tests}
use Rattle.std.proofs.lemmas.Bool.{cases_eq}
use Rattle.std.proofs.lemmas.List.{get_or-set_same, get_or-set_other, get_or-replicate, take_more}
use Rattle.qbf.specs.Lists.{mem}

-- of the 512 codes, those of the list are marked
abbrev pub Marked : List Bool → List ℕ → Type 0
Marked at codes = (k : ℕ) → k < 512 → get_or at k false ≡ mem k codes

mem_push : (k x : ℕ) (xs : List ℕ) → mem k (xs ++ (x ∷ [])) ≡ (mem k xs || eqb k x)
mem_push k x [] = grind (arith, nat_tests)
mem_push k x (y ∷ xs) = let ih = mem_push k x xs in grind (arith, nat_tests)

pub marked_none : Marked (replicate 512 false) []
marked_none k h = get_or-replicate 512 k false false h

pub marked_more : (at : List Bool) (codes : List ℕ) (i : ℕ) → length at ≡ 512 → i < length codes → get_or codes i 0 < 512 → Marked at (take i codes) → Marked (set at (get_or codes i 0) true) (take (i + 1) codes)
marked_more at codes i long h low m k l =
    let x : ℕ = get_or codes i 0 in
    let e : mem k (take (i + 1) codes) ≡ (mem k (take i codes) || eqb k x) = ap (mem k) (take_more codes i 0 h) ∙ mem_push k x (take i codes) in
    let old = m k l in
    elim (cases_eq k x) [
      | inl s ↦ (let f : get_or (set at x true) k false ≡ true = ap (λ j. get_or (set at x true) j false) s ∙ get_or-set_same at x true false (omega arith) in grind (arith, nat_tests))
      | inr n ↦ (let f : get_or (set at x true) k false ≡ get_or at k false = get_or-set_other at x k true false n in grind (arith, nat_tests))
    ]

-- the codes lie from `low` on, below `end`, which is a code or the first number that is none
pub record Spanned (low end : ℕ) (codes : List ℕ) : Type 0 where
  pub within : AllByRecursion (λ x. (low ≤ x) × (x < end)) codes
  pub coded : end ≤ 512

pub spanned_none : Spanned 512 0 []
spanned_none = record { within = tt; coded = omega arith }

-- one code more, with bounds that may be wider
pub spanned_more : (low end low' end' : ℕ) (codes : List ℕ) (i : ℕ) → i < length codes → low' ≤ low → low' ≤ get_or codes i 0 → end ≤ end' → get_or codes i 0 < end' → end' ≤ 512 → Spanned low end (take i codes) → Spanned low' end' (take (i + 1) codes)
spanned_more low end low' end' codes i h a b c d top s = record {
  within = subst (AllByRecursion (λ x. (low' ≤ x) × (x < end'))) (sym (take_more codes i 0 h)) (All-push (λ x. (low' ≤ x) × (x < end')) (take i codes) (get_or codes i 0) (All-weaker (λ x. (low ≤ x) × (x < end)) (λ x. (low' ≤ x) × (x < end')) (λ x w. (omega (arith, w.0), omega (arith, w.1))) (take i codes) s.within) (b, d));
  coded = top;
}
