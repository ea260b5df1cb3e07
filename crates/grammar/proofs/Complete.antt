-- A text of the format is read.
use Rattle.std.proofs.Common.{◌≡◌, ℕ, ◌+◌, ◌<◌, ◌≤◌, true, false, cond, ltb, List, [], ◌∷◌, ◌++◌, map, length, Some, None, Ok, decimal, sym, refl, ap, ◌∙◌, subst, append_assoc, append-nil, arith}
use Rattle.std.proofs.lemmas.Bool.{false≢true, cond-true, cond-false, le-ltb, eq-eqb, and_from}
use Rattle.std.specs.List.{AllByRecursion}
use Rattle.qbf.specs.declared.Quantifier.{Quantifier}
use Rattle.qbf.specs.Lists.{Distinct}
use Rattle.words.specs.Numbers.{read_number, read_literal}
use Rattle.words.specs.Words.{Token}
use Rattle.words.proofs.Decimal.{stands}
use Rattle.formula.specs.declared.prefix.Binding.{Binding}
use Rattle.formula.specs.Positions.{variables_of, position}
use Rattle.formula.specs.Views.{Reading}
use Rattle.grammar.specs.declared.place.Place.{Place}
use Rattle.grammar.specs.declared.place.Place.TheVariants.{Problem, Line, FirstVariable, NextVariable, Between, Within}
use Rattle.grammar.specs.Grammar.{bind, Coded, OnNewLine, ProblemLine, Variables as VariableWords, PrefixLines, Clause, Clauses, Format as HasFormat}
use Rattle.grammar.specs.Grammar.ProblemLine.{problem_line}
use Rattle.grammar.specs.Grammar.Variables.{end as variables_end, variable}
use Rattle.grammar.specs.Grammar.PrefixLines.{none as no_lines, line}
use Rattle.grammar.specs.Grammar.Clause.{end as clause_end, literal}
use Rattle.grammar.specs.Grammar.Clauses.{none as no_clauses, more}
use Rattle.grammar.specs.Places.{Draft, empty, with_variables, with_declared, with_binding, with_literal, InClauses, begins, Goes, Leads}
use Rattle.grammar.specs.Places.Goes.{goes_problem, goes_format, goes_variables, goes_count, goes_quantifier, goes_first, goes_next, goes_line, goes_literal, goes_clause}
use Rattle.grammar.specs.Places.Leads.{here, on}
use Rattle.grammar.specs.Refusals.{rests, ended}
use Rattle.grammar.specs.Steps.{refuse, reading_of, read_from, read_all}
use Rattle.grammar.specs.declared.fault.Rule.TheVariants.{ClauseCount}
use Rattle.grammar.specs.Stored.{store, store_all}
use Rattle.grammar.proofs.Bindings.{is_not_bound, new_here}
use Rattle.grammar.proofs.Refuse.{through}

leads_on : {p q r : Place} {d e f : Draft} {ws : List Token} → Leads p d ws q e → (us : List Token) → Leads q e us r f → Leads p d (ws ++ us) r f
leads_on here us more-words = more-words
leads_on (on step rest) us more-words = on step (leads_on rest us more-words)

-- the first of the words may belong to a clause in the place
abbrev Begins : Place → List Token → Type 0
Begins p [] = Unit {0}
Begins p (w ∷ ws) = InClauses p w

-- the draft with other clauses
abbrev with_clauses : ℕ → List (List ℕ) → List ℕ → Draft → Draft
with_clauses n stored begun d = record { variables = d.variables; declared = d.declared; prefix = d.prefix; finished = n; stored = stored; begun = begun }

abbrev with_prefix : List Binding → Draft → Draft
with_prefix bs d = record { variables = d.variables; declared = d.declared; prefix = bs; finished = d.finished; stored = d.stored; begun = d.begun }

clause_leads : {v : ℕ} {bs : List Binding} {ws : List Token} {c : List ℕ} → Clause v bs ws c → (p : Place) (d : Draft) → v ≤ 9999 → d.variables ≡ v → d.prefix ≡ bs → Begins p ws → (begins p ≡ true → d.finished < d.declared) → Leads p d ws Between (with_clauses (d.finished + 1) (store d.stored (d.begun ++ c)) [] d)
clause_leads (clause_end {w = w} is) p d small v b i room =
    subst (λ (z : List ℕ). Leads p d (w ∷ []) Between (with_clauses (d.finished + 1) (store d.stored z) [] d)) (sym (append-nil d.begun)) (on (goes_clause i room is) here)
clause_leads {v} {bs} (literal {w = w} l {k = k} {ws = ws} {ks = ks} is pos most c rest) p d small same b i room =
    let read = ((stands v small w.bytes).literal l).1 (is, pos, most) in
    let step = goes_literal {p = p} {d = d} {w = w} i room (subst (λ (n : ℕ). read_literal n w.bytes ≡ Ok (Some l)) (sym same) read) (subst (λ (z : List Binding). Coded z l k) (sym b) c) in
    subst (λ (z : List ℕ). Leads p d (w ∷ ws) Between (with_clauses (d.finished + 1) (store d.stored z) [] d)) (append_assoc d.begun (k ∷ []) ks)
    (on step (clause_leads rest Within (with_literal k d) small same b (inside ws) (λ x. absurd (false≢true x))))
  where
    inside : (us : List Token) → Begins Within us
    inside [] = tt
    inside (u ∷ us) = tt

-- a good end, with the clauses that are finished and stored
record Ends (p : Place) (d : Draft) (ws : List Token) (n : ℕ) (stored : List (List ℕ)) : Type 0 where
  last : Place
  draft : Draft
  leads : Leads p d ws last draft
  rest : rests last ≡ true
  is : draft ≡ with_clauses n stored [] d

clauses_lead : {v : ℕ} {bs : List Binding} {ws : List Token} {cs : List (List ℕ)} → Clauses v bs ws cs → (p : Place) (d : Draft) → v ≤ 9999 → d.variables ≡ v → d.prefix ≡ bs → rests p ≡ true → Begins p ws → d.begun ≡ [] → d.finished + length cs ≤ d.declared → Ends p d ws (d.finished + length cs) (store_all d.stored cs)
clauses_lead no_clauses p d small v b r i clean room = record {
  last = p;
  draft = d;
  leads = here;
  rest = r;
  is = let n : d.finished + 0 ≡ d.finished = omega arith in let m : d ≡ with_clauses d.finished d.stored d.begun d = refl in cc;
}
clauses_lead {v} {bs} (more {ws = ws} {us = us} {c = c} {cs = cs} first others) p d small same b r i clean room =
    let one : Leads p d ws Between (with_clauses (d.finished + 1) (store d.stored c) [] d) =
    subst (λ (z : List ℕ). Leads p d ws Between (with_clauses (d.finished + 1) (store d.stored (z ++ c)) [] d)) clean
    (clause_leads first p d small same b (front first i) (λ x. omega arith)) in
    let next = clauses_lead others Between (with_clauses (d.finished + 1) (store d.stored c) [] d) small same b refl (anywhere us) refl (omega arith) in
    record {
      last = next.last;
      draft = next.draft;
      leads = leads_on one us next.leads;
      rest = next.rest;
      is = next.is ∙ ap (λ (k : ℕ). with_clauses k (store_all (store d.stored c) cs) [] d) (omega arith);
    }
  where
    anywhere : (us : List Token) → Begins Between us
    anywhere [] = tt
    anywhere (u ∷ us) = tt

    front : {ws : List Token} {c : List ℕ} → Clause v bs ws c → Begins p (ws ++ us) → Begins p ws
    front (clause_end is) x = x
    front (literal l is pos most k rest) x = x

-- one variable of a prefix line, ahead of those that follow
one_variable : (p : Place) (q : Quantifier) (d : Draft) (w : Token) (ws : List Token) (n : ℕ) (ns : List ℕ) (more_bindings : List Binding) → d.variables ≤ 9999 → (read_number d.variables w.bytes ≡ Ok n → position n d.prefix ≡ None → Goes p d w (NextVariable q) (with_binding q n d)) → w.bytes ≡ decimal n → n ≤ d.variables → Distinct (variables_of (d.prefix ++ (map (bind q) (n ∷ ns) ++ more_bindings))) → (Distinct (variables_of ((d.prefix ++ bind q n ∷ []) ++ (map (bind q) ns ++ more_bindings))) → Leads (NextVariable q) (with_binding q n d) ws Line (with_prefix ((d.prefix ++ bind q n ∷ []) ++ map (bind q) ns) d)) → Leads p d (w ∷ ws) Line (with_prefix (d.prefix ++ map (bind q) (n ∷ ns)) d)
one_variable p q d w ws n ns ms small goes is most apart others =
    let joins : (z : List Binding) → (d.prefix ++ bind q n ∷ []) ++ z ≡ d.prefix ++ bind q n ∷ z = append_assoc d.prefix (bind q n ∷ []) in
    let step = goes (((stands d.variables small w.bytes).number n).1 (is, most)) (is_not_bound 0 n d.prefix (new_here d.prefix (bind q n) (map (bind q) ns ++ ms) apart)) in
    subst (λ (z : List Binding). Leads p d (w ∷ ws) Line (with_prefix z d)) (joins (map (bind q) ns))
    (on step (others (subst (λ (z : List Binding). Distinct (variables_of z)) (sym (joins (map (bind q) ns ++ ms))) apart)))

next_leads : {v : ℕ} {ws : List Token} {ns : List ℕ} → VariableWords v ws ns → (q : Quantifier) (d : Draft) (more_bindings : List Binding) → v ≤ 9999 → d.variables ≡ v → AllByRecursion (λ u. u.first ≡ false) ws → Distinct (variables_of (d.prefix ++ (map (bind q) ns ++ more_bindings))) → Leads (NextVariable q) d ws Line (with_prefix (d.prefix ++ map (bind q) ns) d)
next_leads (variables_end {w = w} is) q d ms small same f apart =
    subst (λ (z : List Binding). Leads (NextVariable q) d (w ∷ []) Line (with_prefix z d)) (sym (append-nil d.prefix)) (on (goes_line f.0 is) here)
next_leads (variable {w = w} {n = n} {ws = ws} {ns = ns} is pos most rest) q d ms small same f apart =
    one_variable (NextVariable q) q d w ws n ns ms (omega arith) (λ r new. goes_next f.0 r pos new) is (omega arith) apart (next_leads rest q (with_binding q n d) ms small same f.1)

first_leads : {v : ℕ} {ws : List Token} {n : ℕ} {ns : List ℕ} → VariableWords v ws (n ∷ ns) → (q : Quantifier) (d : Draft) (more_bindings : List Binding) → v ≤ 9999 → d.variables ≡ v → AllByRecursion (λ u. u.first ≡ false) ws → Distinct (variables_of (d.prefix ++ (map (bind q) (n ∷ ns) ++ more_bindings))) → Leads (FirstVariable q) d ws Line (with_prefix (d.prefix ++ map (bind q) (n ∷ ns)) d)
first_leads (variable {w = w} {n = n} {ws = ws} {ns = ns} is pos most rest) q d ms small same f apart =
    one_variable (FirstVariable q) q d w ws n ns ms (omega arith) (λ r new. goes_first f.0 r pos new) is (omega arith) apart (next_leads rest q (with_binding q n d) ms small same f.1)

lines_lead : {v : ℕ} {ws : List Token} {bs : List Binding} → PrefixLines v ws bs → (d : Draft) → v ≤ 9999 → d.variables ≡ v → Distinct (variables_of (d.prefix ++ bs)) → Leads Line d ws Line (with_prefix (d.prefix ++ bs) d)
lines_lead no_lines d small same apart = subst (λ (z : List Binding). Leads Line d [] Line (with_prefix z d)) (sym (append-nil d.prefix)) here
lines_lead (line {w = w} {ws = ws} {us = us} {q = q} {n = n} {ns = ns} {bs = bs} f is vs others) d small same apart =
    let mine = map (bind q) (n ∷ ns) in
    let joins = append_assoc d.prefix mine bs in
    let one = on (goes_quantifier {d = d} {w = w} {q = q} f.0 is) (first_leads vs q d bs small same f.1 apart) in
    let next = lines_lead others (with_prefix (d.prefix ++ mine) d) small same (subst (λ (z : List Binding). Distinct (variables_of z)) (sym joins) apart) in
    subst (λ (z : List Binding). Leads Line d ((w ∷ ws) ++ us) Line (with_prefix z d)) joins (leads_on one us next)

problem_leads : {v c : ℕ} {ws : List Token} → ProblemLine v c ws → Leads Problem empty ws Line (with_declared c (with_variables v empty)) × (v ≤ 256)
problem_leads {v} {c} (problem_line {p} {cnf} {variables} {clauses} f is-p is-cnf is-v most-v is_c most-c) =
    let read_v = ((stands 256 (omega arith) variables.bytes).number v).1 (is-v, most-v) in
    let read_c = ((stands 2048 (omega arith) clauses.bytes).number c).1 (is_c, most-c) in
    (on (goes_problem f.0 is-p) (on (goes_format f.1.0 is-cnf) (on (goes_variables f.1.1.0 read_v) (on (goes_count f.1.1.1.0 read_c) here))), most-v)

begins_line : (ws : List Token) → OnNewLine ws → Begins Line ws
begins_line [] h = tt
begins_line (w ∷ ws) h = h

pub format_ok : (text : List ℕ) (f : Reading) → HasFormat text f → read_all text ≡ Ok f
format_ok text f h =
    let head = problem_leads h.problem_is in
    let few = head.1 in
    let counted = h.counted in
    let d : Draft = with_declared f.declared (with_variables f.variables empty) in
    let lines = lines_lead h.prefix_is d (omega arith) refl h.bound_once in
    let e : Draft = with_prefix f.prefix d in
    let body = clauses_lead h.clauses_are Line e (omega arith) refl refl refl (begins_line h.body h.body_begins) refl (omega arith) in
    let n : ℕ = 0 + length h.written_clauses in
    let final : Draft = with_clauses n (store_all [] h.written_clauses) [] e in
    let all = leads_on head.0 (h.lines ++ h.body) (leads_on lines h.body body.leads) in
    let end : ended text ≡ true = eq-eqb _ 10 h.ended in
    cond-false _ _ _ (le-ltb 60000 (length text) h.short)
    ∙ ap (read_from Problem empty text) (h.whole ∙ sym (append-nil _))
    ∙ through all text []
    ∙ cond-true _ _ _ (and_from _ _ body.rest end)
    ∙ ap (λ (x : Draft). cond (ltb x.finished x.declared) (refuse ClauseCount (length text)) (Ok (reading_of x))) body.is
    ∙ cond-false _ _ _ (le-ltb n f.declared (omega arith))
    ∙ ap (λ (cs : List (List ℕ)). Ok (record { variables = f.variables; declared = f.declared; prefix = f.prefix; clauses = cs })) (sym h.stored)
