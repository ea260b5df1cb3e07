-- What is written is no longer than the words that were read, with one byte behind each.
use Rattle.std.proofs.Common.{◌≡◌, ℕ, ◌+◌, ◌<◌, ◌≤◌, true, List, [], ◌∷◌, ◌++◌, map, length, decimal, sym, refl, ap, ◌∙◌, arith, length-append}
use Rattle.std.specs.List.{flat_map, AllByRecursion}
use Rattle.std.proofs.ByRecursion.{All-append, All-map}
use Rattle.std.proofs.lemmas.Bool.{cond-true, cond_both}
use Rattle.qbf.specs.declared.Quantifier.{Quantifier}
use Rattle.qbf.specs.declared.Quantifier.TheVariants.{Existential, Universal}
use Rattle.words.specs.Numbers.{written}
use Rattle.words.specs.Words.{Token}
use Rattle.formula.specs.declared.prefix.Binding.{Binding}
use Rattle.grammar.specs.Grammar.{zero_word, letter, bind, ProblemLine, Variables, PrefixLines, Clause, Clauses}
use Rattle.grammar.specs.Grammar.ProblemLine.{problem_line as problem}
use Rattle.grammar.specs.Grammar.Variables.{end as last_variable, variable}
use Rattle.grammar.specs.Grammar.PrefixLines.{none as no_lines, line as prefix_line}
use Rattle.grammar.specs.Grammar.Clause.{end as last_literal, literal}
use Rattle.grammar.specs.Grammar.Clauses.{none as no_clauses, more}
use Rattle.rendering.specs.Render.{line, problem_line, Block, same_quantifier, in_front, blocks, block_line, literal_of, clause_line, clause_lines, prefix_lines, render}
use Rattle.rendering.proofs.Blocks.{same_itself}
use Rattle.rendering.proofs.Codes.{Known, known, literal_back}
use Rattle.rendering.proofs.Costs.{cost, cost_append}
use Rattle.rendering.proofs.Lines.{length_line, length_line_map}
use Rattle.rendering.proofs.Sums.{total}

-- the bytes of a number or a literal, and the one behind it
abbrev pub number_cost : ℕ → ℕ
number_cost n = length (decimal n) + 1

abbrev pub literal_cost : List Binding → ℕ → ℕ
literal_cost prefix k = length (written (literal_of prefix k)) + 1

-- the problem line

pub record Problem (v c : ℕ) (ws : List Token) : Type 0 where
  pub long : cost ws ≡ 6 + number_cost v + number_cost c
  pub variables_fit : v ≤ 256
  pub clauses_fit : c ≤ 2048

pub problem_cost : {v c : ℕ} {ws : List Token} → ProblemLine v c ws → Problem v c ws
problem_cost {v} {c} (problem one p cnf variables v-fits clauses c-fits) = record {
  long = omega (arith, ap length p, ap length cnf, ap length variables, ap length clauses);
  variables_fit = v-fits;
  clauses_fit = c-fits;
}

pub length_problem : (v n : ℕ) → length (problem_line v n) ≡ 6 + number_cost v + number_cost n
length_problem v n = let h = length_line ((112 ∷ []) ∷ (99 ∷ 110 ∷ 102 ∷ []) ∷ decimal v ∷ []) (decimal n) in omega arith

-- the prefix

length_letter : (q : Quantifier) → length (letter q) ≡ 1
length_letter Existential = refl
length_letter Universal = refl

length_block : (k : Block) → length (block_line k) ≡ total number_cost k.variables + 4
length_block k =
    let h = length_line_map decimal k.variables in
    let l = length_letter k.quantifier in
    omega (arith, length-append (letter k.quantifier) (32 ∷ line (map decimal k.variables) zero_word))

abbrev pub blocks_cost : List Block → ℕ
blocks_cost ks = length (flat_map block_line ks)

cost_more : (k : Block) (ks : List Block) → blocks_cost (k ∷ ks) ≡ total number_cost k.variables + 4 + blocks_cost ks
cost_more k ks = let h = length_block k in omega (arith, length-append (block_line k) (flat_map block_line ks))

-- the first block has the quantifier
abbrev Led : Quantifier → List Block → Type 0
Led q [] = ⊥
Led q (k ∷ ks) = same_quantifier q k.quantifier ≡ true

led : (b : Binding) (ks : List Block) → Led b.quantifier (in_front b ks)
led b [] = same_itself b.quantifier
led b (k ∷ ks) = cond_both (same_quantifier b.quantifier k.quantifier) _ _ (Led b.quantifier) (λ e. e) (λ _. same_itself b.quantifier)

-- a binding in front costs its number if the first block has its quantifier, and at most a line otherwise
front_same : (b : Binding) (ks : List Block) → Led b.quantifier ks → blocks_cost (in_front b ks) ≡ number_cost b.variable + blocks_cost ks
front_same b [] l = absurd l
front_same b (k ∷ ks) l =
    let h = cost_more k ks in
    let g = cost_more (record { quantifier = k.quantifier; variables = b.variable ∷ k.variables }) ks in
    ap blocks_cost (cond-true (same_quantifier b.quantifier k.quantifier) _ _ l) ∙ omega arith

pub front_most : (b : Binding) (ks : List Block) → blocks_cost (in_front b ks) ≤ number_cost b.variable + 4 + blocks_cost ks
front_most b [] = let g = cost_more (record { quantifier = b.quantifier; variables = b.variable ∷ [] }) [] in omega arith
front_most b (k ∷ ks) =
    let h = cost_more k ks in
    let g = cost_more (record { quantifier = k.quantifier; variables = b.variable ∷ k.variables }) ks in
    let f = cost_more (record { quantifier = b.quantifier; variables = b.variable ∷ [] }) (k ∷ ks) in
    cond_both (same_quantifier b.quantifier k.quantifier) _ _ (λ l. blocks_cost l ≤ number_cost b.variable + 4 + blocks_cost (k ∷ ks)) (λ _. omega arith) (λ _. omega arith)

line_most : (q : Quantifier) (n : ℕ) (ns : List ℕ) (bs : List Binding) → blocks_cost (blocks (map (bind q) (n ∷ ns) ++ bs)) ≤ total number_cost (n ∷ ns) + 4 + blocks_cost (blocks bs)
line_most q n [] bs = let h = front_most (bind q n) (blocks bs) in omega arith
line_most q n (m ∷ ns) bs =
    let ih = line_most q m ns bs in
    let h = front_same (bind q n) (blocks (map (bind q) (m ∷ ns) ++ bs)) (led (bind q m) (blocks (map (bind q) ns ++ bs))) in
    omega arith

-- from 1 to v
abbrev pub Fits : ℕ → ℕ → Type 0
Fits v n = (0 < n) × (n ≤ v)

variables_cost : {v : ℕ} {ws : List Token} {ns : List ℕ} → Variables v ws ns → (cost ws ≡ total number_cost ns + 2) × AllByRecursion (Fits v) ns
variables_cost (last_variable z) = (omega (arith, ap length z), tt)
variables_cost (variable e some most rest) = let ih = variables_cost rest in (omega (arith, ap length e), ((some, most), ih.1))

pub prefix_cost : {v : ℕ} {ws : List Token} {bs : List Binding} → PrefixLines v ws bs → (length (prefix_lines bs) ≤ cost ws) × AllByRecursion (λ b. Fits v b.variable) bs
prefix_cost no_lines = (omega arith, tt)
prefix_cost {v} (prefix_line {w} {ws} {us} {q} {n} {ns} {bs} one e variables rest) =
    let ih = prefix_cost rest in
    let h = variables_cost variables in
    let l = line_most q n ns bs in
    let a = cost_append (w ∷ ws) us in
    let o = length_letter q in
    (omega (arith, ap length e), All-append (λ b. Fits v b.variable) (map (bind q) (n ∷ ns)) bs (All-map (λ b. Fits v b.variable) (bind q) (n ∷ ns) h.1) ih.1)

-- the clauses

abbrev pub clause_cost : List Binding → List ℕ → ℕ
clause_cost prefix c = total (literal_cost prefix) c + 2

one_clause : {v : ℕ} {prefix : List Binding} {ws : List Token} {c : List ℕ} → Clause v prefix ws c → (cost ws ≡ clause_cost prefix c) × AllByRecursion (Known v prefix) c
one_clause (last_literal z) = (omega (arith, ap length z), tt)
one_clause {v} {prefix} (literal {w} l {k} e some most coded rest) =
    let ih = one_clause rest in
    let b : w.bytes ≡ written (literal_of prefix k) = e ∙ ap written (sym (literal_back prefix l k coded)) in
    (omega (arith, ap length b), (known v prefix l k some most coded, ih.1))

pub clauses_cost : {v : ℕ} {prefix : List Binding} {ws : List Token} {cs : List (List ℕ)} → Clauses v prefix ws cs → (cost ws ≡ total (clause_cost prefix) cs) × AllByRecursion (AllByRecursion (Known v prefix)) cs
clauses_cost no_clauses = (refl, tt)
clauses_cost (more {ws} {us} c rest) =
    let h = one_clause c in
    let ih = clauses_cost rest in
    (omega (arith, cost_append ws us), (h.1, ih.1))

pub length_clauses : (prefix : List Binding) (s : List (List ℕ)) → length (clause_lines prefix s) ≡ total (clause_cost prefix) s
length_clauses prefix [] = refl
length_clauses prefix (c ∷ s) =
    let ih = length_clauses prefix s in
    let h = length_line_map (λ k. written (literal_of prefix k)) c in
    omega (arith, length-append (clause_line prefix c) (clause_lines prefix s))

-- the whole text
pub length_render : (v : ℕ) (prefix : List Binding) (s : List (List ℕ)) → length (render v prefix s) ≡ length (problem_line v (length s)) + (length (prefix_lines prefix) + length (clause_lines prefix s))
length_render v prefix s = let t = length-append (prefix_lines prefix) (clause_lines prefix s) in omega (arith, length-append (problem_line v (length s)) (prefix_lines prefix ++ clause_lines prefix s))
