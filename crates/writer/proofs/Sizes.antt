-- How long a text can be: a number has at most 64 bytes, a clause 512 literals, a set 2,048 clauses.
use Rattle.std.proofs.Common.{ℕ, zero, suc, ◌+◌, ◌*◌, ◌/◌, ◌%◌, ◌^◌, ◌<◌, ◌≤◌, false, eqb, List, [], ◌∷◌, length, decimal, arith}
use Rattle.std.specs.Fmt.{digits_onto, digits, digit_glyph}
use Rattle.std.specs.List.{AllByRecursion}
use Rattle.std.proofs.ByRecursion.{All-weaker}
use Rattle.std.proofs.lemmas.Bool.{cond_both}
use Rattle.arrays.proofs.Fits.{items_fit}
use Rattle.qbf.specs.Clauses.{Rising}
use Rattle.words.specs.declared.literals.Literal.{Literal}
use Rattle.words.specs.Numbers.{written}
use Rattle.formula.specs.declared.prefix.Binding.{Binding}
use Rattle.formula.specs.declared.prefix.Prefix.{Prefix}
use Rattle.formula.specs.Views.{bindings_of}
use Rattle.rendering.specs.Render.{render, blocks, prefix_lines, literal_of}
use Rattle.rendering.proofs.Facts.{prefix_coded}
use Rattle.rendering.proofs.Sums.{total}
use Rattle.rendering.proofs.Lengths.{length_render, length_problem, length_clauses, literal_cost, clause_cost, front_most}
use Rattle.table.specs.declared.set.Set.{Set}
use Rattle.table.specs.Sets.{clauses_of}
use Rattle.table.proofs.Tables.{sets_formed}

spelled_most : (k n : ℕ) (acc : List ℕ) → length (digits_onto k 10 false n acc) ≤ k + length acc
spelled_most zero n acc = omega arith
spelled_most (suc k) n acc =
    let ih = spelled_most k (n / 10) (digit_glyph false (n % 10) ∷ acc) in
    cond_both (eqb (n / 10) 0) _ _ (λ l. length l ≤ suc k + length acc) (λ _. omega arith) (λ _. omega arith)

decimal_most : (n : ℕ) → length (decimal n) ≤ 64
unfolding digits
decimal_most n = spelled_most 64 n []

written_most : (l : Literal) → length (written l) ≤ 65
written_most l =
    let h = decimal_most l.variable in
    cond_both l.negative _ _ (λ t. length t ≤ 65) (λ _. omega arith) (λ _. omega arith)

-- the lines of the prefix

prefix_most : (bs : List Binding) → length (prefix_lines bs) ≤ 69 * length bs
prefix_most [] = omega arith
prefix_most (b ∷ bs) =
    let h = front_most b (blocks bs) in
    let d = decimal_most b.variable in
    let ih = prefix_most bs in
    omega arith

-- the lines of the clauses

rising_most : (n a : ℕ) (c : List ℕ) → a ≤ n → AllByRecursion (λ k. a ≤ k) c → AllByRecursion (λ k. k < n) c → Rising c → a + length c ≤ n
rising_most n a [] h above under r = omega arith
rising_most n a (x ∷ c) h above under r =
    let p = above.0 in
    let q = under.0 in
    let ih = rising_most n (x + 1) c (omega arith) (All-weaker (λ (k : ℕ). x < k) (λ (k : ℕ). x + 1 ≤ k) (λ k l. omega arith) c r.0) under.1 r.1 in
    omega arith

literals_most : (prefix : List Binding) (c : List ℕ) → total (literal_cost prefix) c ≤ 66 * length c
literals_most prefix [] = omega arith
literals_most prefix (k ∷ c) = let h = written_most (literal_of prefix k) in let ih = literals_most prefix c in omega arith

all_above : (c : List ℕ) → AllByRecursion (λ k. 0 ≤ k) c
all_above [] = tt
all_above (k ∷ c) = (omega arith, all_above c)

clauses_most : (prefix : List Binding) (s : List (List ℕ)) → AllByRecursion Rising s → AllByRecursion (AllByRecursion (λ k. k < 512)) s → total (clause_cost prefix) s ≤ 33794 * length s
clauses_most prefix [] r u = omega arith
clauses_most prefix (c ∷ s) r u =
    let h = literals_most prefix c in
    let l = rising_most 512 0 c (omega arith) (all_above c) u.0 r.0 in
    let ih = clauses_most prefix s r.1 u.1 in
    omega arith

-- so every text that is written can be counted
pub countable : (set : Set) (v : ℕ) (p : Prefix) → AllByRecursion (AllByRecursion (λ k. k < 2 * length (bindings_of p))) (clauses_of set) → length (clauses_of set) ≤ 2048 → length (render v (bindings_of p) (clauses_of set)) < 2 ^ 64
countable set v p bound few =
    let s = clauses_of set in
    let bs = bindings_of p in
    let l = items_fit p.bindings in
    let c = clauses_most bs s (sets_formed set.table.now set.number set.held).0 (prefix_coded p s bound) in
    let q = prefix_most bs in
    let d = decimal_most v in
    let f = decimal_most (length s) in
    omega (arith, length_render v bs s, length_problem v (length s), length_clauses bs s)
