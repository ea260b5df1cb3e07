-- How many variables a prefix can bind.
use Rattle.std.proofs.Common.{◌≡◌, ℕ, ◌<◌, ◌≤◌, false, List, ◌∷◌, length, is_some, sym, arith}
use Rattle.std.specs.List.{AllByRecursion}
use Rattle.std.proofs.ByRecursion.{All-weaker}
use Rattle.std.proofs.lemmas.List.{length-map}
use Rattle.qbf.specs.Lists.{Distinct}
use Rattle.clause.proofs.Members.{distinct_length}
use Rattle.formula.specs.declared.prefix.Binding.{Binding}
use Rattle.formula.specs.Positions.{variables_of, position}
use Rattle.grammar.proofs.Bindings.{absent}

-- a variable from 1 to 256
abbrev pub InRange : ℕ → Type 0
InRange n = (0 < n) × (n ≤ 256)

-- distinct variables from 1 to 256 are at most 256
few : (ns : List ℕ) → Distinct ns → AllByRecursion InRange ns → length ns ≤ 256
few ns d a =
    let apart = All-weaker InRange (λ n. 0 ≡ n → ⊥) (λ n r e. omega (arith, r.0)) ns a in
    let small = All-weaker InRange (λ n. n < 257) (λ n r. omega (arith, r.1)) ns a in
    let h : length (0 ∷ ns) ≤ 257 = distinct_length 257 (0 ∷ ns) (apart, d) (omega arith, small) in
    omega arith

pub prefix_few : (bs : List Binding) → Distinct (variables_of bs) → AllByRecursion InRange (variables_of bs) → length bs ≤ 256
prefix_few bs d a = let h = few (variables_of bs) d a in let e = length-map bs (λ (b : Binding). b.variable) in omega arith

-- and fewer where one more is to come
pub prefix_room : (bs : List Binding) (v : ℕ) → Distinct (variables_of bs) → AllByRecursion InRange (variables_of bs) → InRange v → is_some (position v bs) ≡ false → length bs < 256
prefix_room bs v d a r n =
    let h : length (v ∷ variables_of bs) ≤ 256 = few (v ∷ variables_of bs) (All-weaker (λ x. x ≡ v → ⊥) (λ x. v ≡ x → ⊥) (λ x h e. h (sym e)) (variables_of bs) (absent v bs n), d) (r, a) in
    let e = length-map bs (λ (b : Binding). b.variable) in
    omega arith
