-- What holds of a formula that was read, so that it can be stored and written.
use Rattle.std.proofs.Common.{ℕ, ◌*◌, ◌<◌, ◌≤◌, List, [], length, ap, arith}
use Rattle.std.specs.List.{AllByRecursion}
use Rattle.std.proofs.lemmas.Bool.Decides.{nat_tests}
use Rattle.arrays.proofs.Fits.{items_fit}
use Rattle.formula.specs.declared.prefix.Binding.{Binding}
use Rattle.formula.specs.declared.prefix.Prefix.{Prefix}
use Rattle.formula.specs.declared.Formula.{Formula}
use Rattle.formula.specs.Views.{Reading, reading, bindings_of, clauses_of}
use Rattle.formula.proofs.Positions.{found_within}
use Rattle.grammar.specs.Grammar.{Format}
use Rattle.sets.specs.Formed.{formed}
use Rattle.rendering.proofs.Codes.{Known}
use Rattle.rendering.proofs.Lengths.{problem_cost, clauses_cost}
use Rattle.rendering.proofs.Stores.{codes_weaker, codes_stored, codes_formed, length_stored}

-- the code of a variable that the prefix binds
known_within : (v : ℕ) (prefix : List Binding) (k : ℕ) → Known v prefix k → k < 2 * length prefix
known_within v prefix k known =
    let coded = known.2 in
    let at = found_within 0 _ prefix coded.0 coded.1 in
    let e = coded.2 in
    grind (arith, nat_tests)

module _ {text : List ℕ} {f : Reading} (h : Format text f) where
  within : AllByRecursion (AllByRecursion (λ k. k < 2 * length f.prefix)) h.written_clauses
  within = codes_weaker _ _ (known_within f.variables f.prefix) h.written_clauses (clauses_cost h.clauses_are).1

  -- all codes are those of the prefix
  pub stored_within : AllByRecursion (AllByRecursion (λ k. k < 2 * length f.prefix)) f.clauses
  stored_within = rw h.stored (codes_stored _ h.written_clauses within)

  pub set_within : AllByRecursion (AllByRecursion (λ k. k < 2 * length f.prefix)) (formed [] f.clauses)
  set_within = rw h.stored (codes_formed _ h.written_clauses within)

  -- and there are no more clauses than were declared
  pub set_few : length (formed [] f.clauses) ≤ 2048
  set_few =
      let l = length_stored h.written_clauses in
      let c = (problem_cost h.problem_is).clauses_fit in
      let e = ap (λ (s : List (List ℕ)). length (formed [] s)) h.stored in
      let n = h.counted in
      omega arith

-- a prefix has at most 256 variables, so that all codes of theirs are below 512
pub prefix_coded : (p : Prefix) (s : List (List ℕ)) → AllByRecursion (AllByRecursion (λ k. k < 2 * length (bindings_of p))) s → AllByRecursion (AllByRecursion (λ k. k < 512)) s
prefix_coded p = let l = items_fit p.bindings in codes_weaker _ _ (λ k b. omega arith)

pub stored_coded : {text : List ℕ} (f : Formula) → Format text (reading f) → AllByRecursion (AllByRecursion (λ k. k < 512)) (clauses_of f.clauses)
stored_coded f h = prefix_coded f.prefix (clauses_of f.clauses) (stored_within h)
