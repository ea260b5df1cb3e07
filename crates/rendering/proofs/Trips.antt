-- What is written is read back.
use Rattle.std.proofs.Common.{◌≡◌, ℕ, ◌+◌, ◌≤◌, true, List, [], ◌++◌, length, decimal, sym, refl, ap, ◌∙◌, subst, arith}
use Rattle.std.specs.List.{AllByRecursion}
use Rattle.formula.specs.Views.{Reading}
use Rattle.grammar.specs.Grammar.{PrefixLines, Format}
use Rattle.grammar.specs.Stored.{store_all}
use Rattle.grammar.proofs.Whole.{reading_stands_lem}
use Rattle.sets.specs.Formed.{formed}
use Rattle.sets.proofs.Formed.{canonical_formed, formed_same}
use Rattle.rendering.specs.Render.{problem_line, blocks, prefix_lines, render}
use Rattle.rendering.specs.Trip.{as_set, text_of, RoundTrip}
use Rattle.rendering.proofs.Blocks.{blocks_stand_lem}
use Rattle.rendering.proofs.Built.{problem_words, block_words, clause_words, fitting, words_of_lem, ended, problem_built, prefix_built, clauses_built}
use Rattle.rendering.proofs.Codes.{Known}
use Rattle.rendering.proofs.Costs.{cost, cost_append, text_cost}
use Rattle.rendering.proofs.Lengths.{literal_cost, problem_cost, length_problem, prefix_cost, clauses_cost, length_clauses, length_render}
use Rattle.rendering.proofs.Lines.{no_longer, line_at, lines_at, new_lines}
use Rattle.rendering.proofs.Stores.{stored_same, codes_formed, one_sign_formed, length_stored}
use Rattle.rendering.proofs.Sums.{total_stored}

-- the set that is written, in terms of the clauses as they stand in the text
abbrev set_of : List (List ℕ) → List (List ℕ)
set_of written = formed [] (store_all [] written)

few : {text : List ℕ} {f : Reading} (h : Format text f) → length (set_of h.written_clauses) ≤ f.declared
few h = let l = length_stored h.written_clauses in let e = h.counted in omega arith

-- it is written in no more bytes than the text has: word by word, each with the byte behind it
short : {text : List ℕ} {f : Reading} (h : Format text f) → length (render f.variables f.prefix (set_of h.written_clauses)) ≤ length text
short {text} {f} h =
    let s = set_of h.written_clauses in
    let t = text_cost text h.ended in
    let w = ap cost h.whole ∙ cost_append h.problem (h.lines ++ h.body) in
    let u = cost_append h.lines h.body in
    let p = problem_cost h.problem_is in
    let q = (prefix_cost h.prefix_is).0 in
    let k = (clauses_cost h.clauses_are).0 in
    let r = total_stored (literal_cost f.prefix) 2 h.written_clauses in
    let n = no_longer (length s) f.declared (few h) (let c = p.clauses_fit in omega arith) in
    omega (arith, length_render f.variables f.prefix s, length_problem f.variables (length s), length_clauses f.prefix s)

-- and what is written has the format
format : {text : List ℕ} {f : Reading} (h : Format text f) → let s = set_of h.written_clauses in Format (render f.variables f.prefix s) (record { variables = f.variables; declared = length s; prefix = f.prefix; clauses = s })
format {text} {f} h =
    let v = f.variables in
    let prefix = f.prefix in
    let s = set_of h.written_clauses in
    let p = problem_cost h.problem_is in
    let small : length s ≤ 2048 = let c = p.clauses_fit in let l = few h in omega arith in
    let known : AllByRecursion (AllByRecursion (Known v prefix)) s = codes_formed (Known v prefix) h.written_clauses (clauses_cost h.clauses_are).1 in
    let fits = fitting v prefix (prefix_cost h.prefix_is).1 in
    let bs = blocks_stand_lem prefix in
    let i : ℕ = length (problem_line v (length s)) in
    let j : ℕ = i + length (prefix_lines prefix) in
    record {
      short = let l = short h in let m = h.short in omega arith;
      ended = ended v prefix s;
      problem = line_at 0 true (problem_words v) (decimal (length s));
      lines = lines_at block_words i (blocks prefix);
      body = lines_at (clause_words prefix) j s;
      written_clauses = s;
      whole = words_of_lem v prefix s p.variables_fit small fits known i j refl refl;
      problem_is = problem_built v (length s) p.variables_fit small;
      prefix_is = subst (PrefixLines v (lines_at block_words i (blocks prefix))) bs.whole (prefix_built v i (blocks prefix) bs.filled fits);
      bound_once = h.bound_once;
      body_begins = new_lines (clause_words prefix) j s;
      clauses_are = clauses_built v prefix j s known;
      counted = refl;
      stored = sym (stored_same s (canonical_formed [] (store_all [] h.written_clauses) (tt, tt)) (one_sign_formed h.written_clauses));
    }

pub round_trip : RoundTrip
round_trip text f h =
    let v = f.variables in
    let prefix = f.prefix in
    let s = formed [] f.clauses in
    let e : set_of h.written_clauses ≡ s = ap (formed []) (sym h.stored) in
    let reads : Format (text_of f) (as_set f) = subst (λ (s : List (List ℕ)). Format (render v prefix s) (record { variables = v; declared = length s; prefix = prefix; clauses = s })) e (format h) in
    let same : formed [] s ≡ s = formed_same s (canonical_formed [] f.clauses (tt, tt)) in
    record {
      short = subst (λ (s : List (List ℕ)). length (render v prefix s) ≤ length text) e (short h);
      format = reads;
      read = ((reading_stands_lem (text_of f)).accepted (as_set f)).1 reads;
      same_set = same;
      again = ap (render v prefix) same;
    }
