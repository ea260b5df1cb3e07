-- The words of what is written are those of the format.
use Rattle.std.proofs.Common.{◌≡◌, ℕ, ◌+◌, ◌<◌, ◌≤◌, Bool, true, false, List, [], ◌∷◌, ◌++◌, map, length, decimal, sym, refl, ap, ◌∙◌, append-nil, arith}
use Rattle.std.specs.List.{AllByRecursion}
use Rattle.std.proofs.ByRecursion.{All-map, All-weaker}
use Rattle.std.proofs.lemmas.Bool.{cond_both}
use Rattle.qbf.specs.declared.Quantifier.{Quantifier}
use Rattle.qbf.specs.declared.Quantifier.TheVariants.{Existential, Universal}
use Rattle.words.specs.Numbers.{written}
use Rattle.words.specs.Words.{Token, scan, words_of}
use Rattle.words.specs.Words.Mode.{gap}
use Rattle.formula.specs.declared.prefix.Binding.{Binding}
use Rattle.grammar.specs.Grammar.{p_word, cnf_word, zero_word, letter, bind, ProblemLine, Variables, PrefixLines, Clause, Clauses, Ended}
use Rattle.grammar.specs.Grammar.ProblemLine.{problem_line as problem}
use Rattle.grammar.specs.Grammar.Variables.{end as last_variable, variable}
use Rattle.grammar.specs.Grammar.PrefixLines.{none as no_lines, line as prefix_line}
use Rattle.grammar.specs.Grammar.Clause.{end as last_literal, literal}
use Rattle.grammar.specs.Grammar.Clauses.{none as no_clauses, more}
use Rattle.rendering.specs.Render.{line, problem_line, Block, same_quantifier, in_front, blocks, literal_of, clause_lines, prefix_lines, render}
use Rattle.rendering.proofs.Blocks.{unblocked, Filled}
use Rattle.rendering.proofs.Codes.{Known}
use Rattle.rendering.proofs.Costs.{last, last_append, last_ended}
use Rattle.rendering.proofs.Lengths.{Fits}
use Rattle.rendering.proofs.Lines.{Spelled, number_spelled, literal_spelled, line_at, scan_line, last_line, one_line, lines_at, scan_lines, last_lines}

-- the words of the problem line, of a block and of a clause, without the last
abbrev pub problem_words : ℕ → List (List ℕ)
problem_words v = p_word ∷ cnf_word ∷ decimal v ∷ []

abbrev pub block_words : Block → List (List ℕ)
block_words k = letter k.quantifier ∷ map decimal k.variables

abbrev pub clause_words : List Binding → List ℕ → List (List ℕ)
clause_words prefix c = map (λ k. written (literal_of prefix k)) c

letter_spelled : (q : Quantifier) → Spelled (letter q)
letter_spelled Existential = (omega arith, (refl, tt))
letter_spelled Universal = (omega arith, (refl, tt))

-- the variables of each block are from 1 to v
abbrev pub Fitting : ℕ → List Block → Type 0
Fitting v ks = AllByRecursion (λ k. AllByRecursion (Fits v) k.variables) ks

fitting_front : (v : ℕ) (b : Binding) (ks : List Block) → Fits v b.variable → Fitting v ks → Fitting v (in_front b ks)
fitting_front v b [] f h = ((f, tt), tt)
fitting_front v b (k ∷ ks) f h = cond_both (same_quantifier b.quantifier k.quantifier) _ _ (Fitting v) (λ _. ((f, h.0), h.1)) (λ _. ((f, tt), h))

pub fitting : (v : ℕ) (bs : List Binding) → AllByRecursion (λ b. Fits v b.variable) bs → Fitting v (blocks bs)
fitting v [] h = tt
fitting v (b ∷ bs) h = fitting_front v b (blocks bs) h.0 (fitting v bs h.1)

-- the words are words

blocks_spelled : (v : ℕ) → v ≤ 256 → (ks : List Block) → Fitting v ks → AllByRecursion (λ k. AllByRecursion Spelled (block_words k)) ks
blocks_spelled v m ks h =
    All-weaker (λ k. AllByRecursion (Fits v) k.variables) (λ k. AllByRecursion Spelled (block_words k))
    (λ k a. (letter_spelled k.quantifier, All-map Spelled decimal k.variables (All-weaker (Fits v) (λ n. Spelled (decimal n)) (λ n f. let l = f.1 in number_spelled n (omega arith)) k.variables a)))
    ks h

clauses_spelled : (v : ℕ) (prefix : List Binding) → v ≤ 256 → (s : List (List ℕ)) → AllByRecursion (AllByRecursion (Known v prefix)) s → AllByRecursion (λ c. AllByRecursion Spelled (clause_words prefix c)) s
clauses_spelled v prefix m s h =
    All-weaker (AllByRecursion (Known v prefix)) (λ c. AllByRecursion Spelled (clause_words prefix c))
    (λ c a. All-map Spelled (λ k. written (literal_of prefix k)) c (All-weaker (Known v prefix) (λ k. Spelled (written (literal_of prefix k))) (λ k f. let l = f.1 in literal_spelled (literal_of prefix k) (omega arith)) c a))
    s h

-- the scan of the whole text
pub words_of_lem : (v : ℕ) (prefix : List Binding) (s : List (List ℕ)) → v ≤ 256 → length s ≤ 2048 → Fitting v (blocks prefix) → AllByRecursion (AllByRecursion (Known v prefix)) s → (i j : ℕ) → i ≡ length (problem_line v (length s)) → j ≡ i + length (prefix_lines prefix) → words_of (render v prefix s) ≡ line_at 0 true (problem_words v) (decimal (length s)) ++ (lines_at block_words i (blocks prefix) ++ lines_at (clause_words prefix) j s)
words_of_lem v prefix s m few fit known i j ei ej =
    scan_line true 0 (problem_words v) (decimal (length s)) (prefix_lines prefix ++ clause_lines prefix s) ((omega arith, (refl, tt)), ((omega arith, (refl, (refl, (refl, tt)))), (number_spelled v (omega arith), tt))) (number_spelled (length s) (omega arith))
    ∙ ap (λ (q : List Token). line_at 0 true (problem_words v) (decimal (length s)) ++ q)
    (ap (λ (o : ℕ). scan (gap true) o (prefix_lines prefix ++ clause_lines prefix s)) (omega arith)
    ∙ scan_lines block_words i (blocks prefix) (clause_lines prefix s) (blocks_spelled v m (blocks prefix) fit)
    ∙ ap (λ (q : List Token). lines_at block_words i (blocks prefix) ++ q)
    (ap (λ (o : ℕ). scan (gap true) o (clause_lines prefix s)) (sym ej)
    ∙ ap (scan (gap true) j) (sym (append-nil (clause_lines prefix s)))
    ∙ scan_lines (clause_words prefix) j s [] (clauses_spelled v prefix m s known)
    ∙ append-nil (lines_at (clause_words prefix) j s)))

pub ended : (v : ℕ) (prefix : List Binding) (s : List (List ℕ)) → Ended (render v prefix s)
ended v prefix s =
    let p = problem_line v (length s) in
    last_ended (render v prefix s)
    (last_append 0 p (prefix_lines prefix ++ clause_lines prefix s)
    ∙ ap (λ (d : ℕ). last d (prefix_lines prefix ++ clause_lines prefix s)) (last_line 0 (problem_words v) (decimal (length s)))
    ∙ last_append 10 (prefix_lines prefix) (clause_lines prefix s)
    ∙ ap (λ (d : ℕ). last d (clause_lines prefix s)) (last_lines block_words (blocks prefix))
    ∙ last_lines (clause_words prefix) s)

-- the parts of the format

pub problem_built : (v n : ℕ) → v ≤ 256 → n ≤ 2048 → ProblemLine v n (line_at 0 true (problem_words v) (decimal n))
problem_built v n m few = problem (one_line 0 (problem_words v) (decimal n)) refl refl refl m refl few

variables_built : (v off : ℕ) (ns : List ℕ) → AllByRecursion (Fits v) ns → Variables v (line_at off false (map decimal ns) zero_word) ns
variables_built v off [] h = last_variable refl
variables_built v off (n ∷ ns) h = variable refl h.0.0 h.0.1 (variables_built v (off + length (decimal n) + 1) ns h.1)

block_built : (v off : ℕ) (q : Quantifier) (ns : List ℕ) {us : List Token} {bs : List Binding} → 0 < length ns → AllByRecursion (Fits v) ns → PrefixLines v us bs → PrefixLines v (line_at off true (letter q ∷ map decimal ns) zero_word ++ us) (map (bind q) ns ++ bs)
block_built v off q [] some h rest = absurd (omega arith)
block_built v off q (n ∷ ns) some h rest = prefix_line {q = q} (one_line off (letter q ∷ map decimal (n ∷ ns)) zero_word) refl (variables_built v (off + length (letter q) + 1) (n ∷ ns) h) rest

pub prefix_built : (v off : ℕ) (ks : List Block) → Filled ks → Fitting v ks → PrefixLines v (lines_at block_words off ks) (unblocked ks)
prefix_built v off [] some h = no_lines
prefix_built v off (k ∷ ks) some h = block_built v off k.quantifier k.variables some.0 h.0 (prefix_built v (off + length (line (block_words k) zero_word)) ks some.1 h.1)

clause_built : (v : ℕ) (prefix : List Binding) (off : ℕ) (f : Bool) (c : List ℕ) → AllByRecursion (Known v prefix) c → Clause v prefix (line_at off f (clause_words prefix c) zero_word) c
clause_built v prefix off f [] h = last_literal refl
clause_built v prefix off f (k ∷ c) h = literal (literal_of prefix k) refl h.0.0 h.0.1 h.0.2 (clause_built v prefix (off + length (written (literal_of prefix k)) + 1) false c h.1)

pub clauses_built : (v : ℕ) (prefix : List Binding) (off : ℕ) (s : List (List ℕ)) → AllByRecursion (AllByRecursion (Known v prefix)) s → Clauses v prefix (lines_at (clause_words prefix) off s) s
clauses_built v prefix off [] h = no_clauses
clauses_built v prefix off (c ∷ s) h = more (clause_built v prefix off true c h.0) (clauses_built v prefix (off + length (line (clause_words prefix c) zero_word)) s h.1)
