-- Words that stand right up to a good end are what the grammar says.
use Rattle.std.proofs.Common.{◌≡◌, ℕ, ◌+◌, ◌<◌, ◌≤◌, true, false, List, [], ◌∷◌, ◌++◌, map, length, Some, Ok, sym, refl, ap, ◌∙◌, subst, append_assoc, append-nil, arith}
use Rattle.std.proofs.lemmas.Bool.{false≢true}
use Rattle.std.specs.List.{AllByRecursion}
use Rattle.qbf.specs.declared.Quantifier.{Quantifier}
use Rattle.words.specs.declared.literals.Literal.{Literal}
use Rattle.words.specs.Numbers.{read_number, read_literal}
use Rattle.words.specs.Words.{Token}
use Rattle.words.proofs.Decimal.{stands}
use Rattle.formula.specs.declared.prefix.Binding.{Binding}
use Rattle.grammar.specs.declared.place.Place.{Place}
use Rattle.grammar.specs.declared.place.Place.TheVariants.{Problem, Format, Variables, Count, Line, FirstVariable, NextVariable, Between, Within}
use Rattle.grammar.specs.Grammar.{zero_word, letter, bind, Coded, OnNewLine, Variables as VariableWords, PrefixLines, Clause, Clauses}
use Rattle.grammar.specs.Grammar.Variables.{end as variables_end, variable}
use Rattle.grammar.specs.Grammar.PrefixLines.{none as no_lines, line}
use Rattle.grammar.specs.Grammar.Clause.{end as clause_end, literal}
use Rattle.grammar.specs.Grammar.Clauses.{none as no_clauses, more}
use Rattle.grammar.specs.Places.{Draft, with_binding, with_literal, with_clause, Leads}
use Rattle.grammar.specs.Places.Goes.{goes_problem, goes_format, goes_variables, goes_count, goes_quantifier, goes_first, goes_next, goes_line, goes_literal, goes_clause}
use Rattle.grammar.specs.Places.Leads.{here, on}
use Rattle.grammar.specs.Refusals.{rests}
use Rattle.grammar.specs.Stored.{store, store_all}

-- what is the same from one draft to a later one, and what the clauses between them add
pub record Adds (d e : Draft) (bs : List Binding) (stored : List (List ℕ)) (n : ℕ) : Type 0 where
  pub variables : e.variables ≡ d.variables
  pub declared : e.declared ≡ d.declared
  pub prefix : e.prefix ≡ d.prefix ++ bs
  pub finished : e.finished ≡ d.finished + n
  pub stored_now : e.stored ≡ stored

-- only clauses
pub record BodyRest (d : Draft) (ws : List Token) (e : Draft) : Type 0 where
  pub cs : List (List ℕ)
  pub clauses : Clauses d.variables d.prefix ws cs
  pub adds : Adds d e [] (store_all d.stored cs) (length cs)

-- the rest of a clause, and then clauses
pub record ClauseRest (d : Draft) (ws : List Token) (e : Draft) : Type 0 where
  pub us : List Token
  pub vs : List Token
  pub c : List ℕ
  pub cs : List (List ℕ)
  pub whole : ws ≡ us ++ vs
  pub clause : Clause d.variables d.prefix us c
  pub clauses : Clauses d.variables d.prefix vs cs
  pub adds : Adds d e [] (store_all (store d.stored (d.begun ++ c)) cs) (1 + length cs)

-- prefix lines, and then clauses
pub record LineRest (d : Draft) (ws : List Token) (e : Draft) : Type 0 where
  pub lines : List Token
  pub body : List Token
  pub bs : List Binding
  pub cs : List (List ℕ)
  pub whole : ws ≡ lines ++ body
  pub prefix : PrefixLines d.variables lines bs
  pub fresh : OnNewLine body
  pub clauses : Clauses d.variables (d.prefix ++ bs) body cs
  pub adds : Adds d e bs (store_all d.stored cs) (length cs)

-- the rest of a prefix line, and then lines and clauses
pub record VariableRest (q : Quantifier) (d : Draft) (ws : List Token) (e : Draft) : Type 0 where
  pub us : List Token
  pub lines : List Token
  pub body : List Token
  pub ns : List ℕ
  pub bs : List Binding
  pub cs : List (List ℕ)
  pub whole : ws ≡ us ++ (lines ++ body)
  pub variables : VariableWords d.variables us ns
  pub same_line : AllByRecursion (λ u. u.first ≡ false) us
  pub prefix : PrefixLines d.variables lines bs
  pub fresh : OnNewLine body
  pub clauses : Clauses d.variables (d.prefix ++ (map (bind q) ns ++ bs)) body cs
  pub adds : Adds d e (map (bind q) ns ++ bs) (store_all d.stored cs) (length cs)

-- numbers in range are written as they are read; no clause is begun
pub record Ready (d : Draft) : Type 0 where
  pub small : d.variables ≤ 9999
  pub clean : d.begun ≡ []

abbrev Tail : Place → Draft → List Token → Draft → Type 0
Tail Problem d ws e = Unit {0}
Tail Format d ws e = Unit {0}
Tail Variables d ws e = Unit {0}
Tail Count d ws e = Unit {0}
Tail Line d ws e = Ready d → LineRest d ws e
Tail (FirstVariable q) d ws e = Ready d → (r : VariableRest q d ws e) × (0 < length r.ns)
Tail (NextVariable q) d ws e = Ready d → VariableRest q d ws e
Tail Between d ws e = Ready d → BodyRest d ws e
Tail Within d ws e = d.variables ≤ 9999 → ClauseRest d ws e

-- a literal ahead of the rest of its clause
literal_first : (d : Draft) (w : Token) (ws : List Token) (e : Draft) (l : Literal) (k : ℕ) → d.variables ≤ 9999 → read_literal d.variables w.bytes ≡ Ok (Some l) → Coded d.prefix l k → ClauseRest (with_literal k d) ws e → ClauseRest d (w ∷ ws) e
literal_first d w ws e l k small is c r =
    let x = ((stands d.variables small w.bytes).literal l).0 is in
    let a = r.adds in
    record {
      us = w ∷ r.us;
      vs = r.vs;
      c = k ∷ r.c;
      cs = r.cs;
      whole = ap (λ (z : List Token). w ∷ z) r.whole;
      clause = literal l x.0 x.1 x.2 c r.clause;
      clauses = r.clauses;
      adds = record { variables = a.variables; declared = a.declared; prefix = a.prefix; finished = a.finished; stored_now = a.stored_now ∙ ap (λ (z : List ℕ). store_all (store d.stored z) r.cs) (append_assoc d.begun (k ∷ []) r.c) };
    }

-- a 0 ahead of the next clauses
clause_first : (d : Draft) (w : Token) (ws : List Token) (e : Draft) → w.bytes ≡ zero_word → BodyRest (with_clause d) ws e → ClauseRest d (w ∷ ws) e
clause_first d w ws e is r =
    let a = r.adds in
    record {
      us = w ∷ [];
      vs = ws;
      c = [];
      cs = r.cs;
      whole = refl;
      clause = clause_end is;
      clauses = r.clauses;
      adds = record { variables = a.variables; declared = a.declared; prefix = a.prefix; finished = a.finished ∙ omega arith; stored_now = a.stored_now ∙ ap (λ (z : List ℕ). store_all (store d.stored z) r.cs) (sym (append-nil d.begun)) };
    }

-- a clause that is not begun yet
clause_whole : (d : Draft) (ws : List Token) (e : Draft) → d.begun ≡ [] → ClauseRest d ws e → BodyRest d ws e
clause_whole d ws e clean r =
    let a = r.adds in
    record {
      cs = r.c ∷ r.cs;
      clauses = subst (λ (z : List Token). Clauses d.variables d.prefix z (r.c ∷ r.cs)) (sym r.whole) (more r.clause r.clauses);
      adds = record { variables = a.variables; declared = a.declared; prefix = a.prefix; finished = a.finished ∙ omega arith; stored_now = a.stored_now ∙ ap (λ (z : List ℕ). store_all (store d.stored (z ++ r.c)) r.cs) clean };
    }

-- clauses behind the last line of the head
body_line : (d : Draft) (ws : List Token) (e : Draft) → OnNewLine ws → BodyRest d ws e → LineRest d ws e
body_line d ws e fresh r = record {
  lines = [];
  body = ws;
  bs = [];
  cs = r.cs;
  whole = refl;
  prefix = no_lines;
  fresh = fresh;
  clauses = subst (λ (p : List Binding). Clauses d.variables p ws r.cs) (sym (append-nil d.prefix)) r.clauses;
  adds = r.adds;
}

ended_here : (d : Draft) → BodyRest d [] d
ended_here d = record { cs = []; clauses = no_clauses; adds = record { variables = refl; declared = refl; prefix = sym (append-nil d.prefix); finished = omega arith; stored_now = refl } }

-- one variable of a prefix line
variable_first : (q : Quantifier) (d : Draft) (w : Token) (ws : List Token) (e : Draft) (n : ℕ) → d.variables ≤ 9999 → w.first ≡ false → read_number d.variables w.bytes ≡ Ok n → 0 < n → VariableRest q (with_binding q n d) ws e → (r : VariableRest q d (w ∷ ws) e) × (0 < length r.ns)
variable_first q d w ws e n small f is pos r =
    let x = ((stands d.variables small w.bytes).number n).0 is in
    let a = r.adds in
    let joins : (z : List Binding) → (d.prefix ++ bind q n ∷ []) ++ z ≡ d.prefix ++ bind q n ∷ z = append_assoc d.prefix (bind q n ∷ []) in (
      record {
        us = w ∷ r.us;
        lines = r.lines;
        body = r.body;
        ns = n ∷ r.ns;
        bs = r.bs;
        cs = r.cs;
        whole = ap (λ (z : List Token). w ∷ z) r.whole;
        variables = variable x.0 pos x.1 r.variables;
        same_line = (f, r.same_line);
        prefix = r.prefix;
        fresh = r.fresh;
        clauses = subst (λ (p : List Binding). Clauses d.variables p r.body r.cs) (joins _) r.clauses;
        adds = record { variables = a.variables; declared = a.declared; prefix = a.prefix ∙ joins _; finished = a.finished; stored_now = a.stored_now };
      },
      omega arith,
    )

-- the 0 of a prefix line
line_end : (q : Quantifier) (d : Draft) (w : Token) (ws : List Token) (e : Draft) → w.first ≡ false → w.bytes ≡ zero_word → LineRest d ws e → VariableRest q d (w ∷ ws) e
line_end q d w ws e f is r = record {
  us = w ∷ [];
  lines = r.lines;
  body = r.body;
  ns = [];
  bs = r.bs;
  cs = r.cs;
  whole = ap (λ (z : List Token). w ∷ z) r.whole;
  variables = variables_end is;
  same_line = (f, tt);
  prefix = r.prefix;
  fresh = r.fresh;
  clauses = r.clauses;
  adds = r.adds;
}

-- a prefix line with its first word
line_first : (q : Quantifier) (d : Draft) (w : Token) (ws : List Token) (e : Draft) → w.first ≡ true → w.bytes ≡ letter q → (r : VariableRest q d ws e) × (0 < length r.ns) → LineRest d (w ∷ ws) e
line_first q d w ws e f is (r, some) = some_line r.ns refl some r.variables
  where
    some_line : (ns : List ℕ) → r.ns ≡ ns → 0 < length r.ns → VariableWords d.variables r.us r.ns → LineRest d (w ∷ ws) e
    some_line [] same h vs = absurd (let z = ap length same in omega arith)
    some_line (n ∷ ns) same h vs = record {
      lines = (w ∷ r.us) ++ r.lines;
      body = r.body;
      bs = map (bind q) (n ∷ ns) ++ r.bs;
      cs = r.cs;
      whole = ap (λ (z : List Token). w ∷ z) (r.whole ∙ sym (append_assoc r.us r.lines r.body));
      prefix = line (f, r.same_line) is (subst (VariableWords d.variables r.us) same vs) r.prefix;
      fresh = r.fresh;
      clauses = subst (λ (ks : List ℕ). Clauses d.variables (d.prefix ++ (map (bind q) ks ++ r.bs)) r.body r.cs) same r.clauses;
      adds = subst (λ (ks : List ℕ). Adds d e (map (bind q) ks ++ r.bs) (store_all d.stored r.cs) (length r.cs)) same r.adds;
    }

pub tail : {p q : Place} {d e : Draft} {ws : List Token} → Leads p d ws q e → rests q ≡ true → Tail p d ws e
tail (here {p = Problem}) end = tt
tail (here {p = Format}) end = tt
tail (here {p = Variables}) end = tt
tail (here {p = Count}) end = tt
tail (here {p = Line} {d = d}) end = λ ready. body_line d [] d tt (ended_here d)
tail (here {p = FirstVariable q}) end = absurd (false≢true end)
tail (here {p = NextVariable q}) end = absurd (false≢true end)
tail (here {p = Between} {d = d}) end = λ ready. ended_here d
tail (here {p = Within}) end = absurd (false≢true end)
tail (on (goes_problem f b) rest) end = tt
tail (on (goes_format f b) rest) end = tt
tail (on (goes_variables f n) rest) end = tt
tail (on (goes_count f n) rest) end = tt
tail (on {f = e} {ws = ws} (goes_quantifier {d = d} {w = w} {q = q} f b) rest) end = λ ready. line_first q d w ws e f b (tail rest end ready)
tail (on {f = e} {ws = ws} (goes_first {d = d} {w = w} {q = q} {n = n} f r pos new) rest) end =
    λ ready. variable_first q d w ws e n ready.small f r pos (tail rest end (record { small = ready.small; clean = ready.clean }))
tail (on {f = e} {ws = ws} (goes_next {d = d} {w = w} {q = q} {n = n} f r pos new) rest) end =
    λ ready. (variable_first q d w ws e n ready.small f r pos (tail rest end (record { small = ready.small; clean = ready.clean }))).0
tail (on {f = e} {ws = ws} (goes_line {d = d} {w = w} {q = q} f b) rest) end = λ ready. line_end q d w ws e f b (tail rest end ready)
tail (on {f = e} {ws = ws} (goes_literal {p = Problem} h r is c) rest) end = absurd h
tail (on {f = e} {ws = ws} (goes_literal {p = Format} h r is c) rest) end = absurd h
tail (on {f = e} {ws = ws} (goes_literal {p = Variables} h r is c) rest) end = absurd h
tail (on {f = e} {ws = ws} (goes_literal {p = Count} h r is c) rest) end = absurd h
tail (on {f = e} {ws = ws} (goes_literal {p = Line} {d = d} {w = w} {l = l} {k = k} h r is c) rest) end =
    λ ready. body_line d (w ∷ ws) e h (clause_whole d (w ∷ ws) e ready.clean (literal_first d w ws e l k ready.small is c (tail rest end ready.small)))
tail (on {f = e} {ws = ws} (goes_literal {p = FirstVariable q} h r is c) rest) end = absurd h
tail (on {f = e} {ws = ws} (goes_literal {p = NextVariable q} h r is c) rest) end = absurd h
tail (on {f = e} {ws = ws} (goes_literal {p = Between} {d = d} {w = w} {l = l} {k = k} h r is c) rest) end =
    λ ready. clause_whole d (w ∷ ws) e ready.clean (literal_first d w ws e l k ready.small is c (tail rest end ready.small))
tail (on {f = e} {ws = ws} (goes_literal {p = Within} {d = d} {w = w} {l = l} {k = k} h r is c) rest) end =
    λ small. literal_first d w ws e l k small is c (tail rest end small)
tail (on {f = e} {ws = ws} (goes_clause {p = Problem} h r b) rest) end = absurd h
tail (on {f = e} {ws = ws} (goes_clause {p = Format} h r b) rest) end = absurd h
tail (on {f = e} {ws = ws} (goes_clause {p = Variables} h r b) rest) end = absurd h
tail (on {f = e} {ws = ws} (goes_clause {p = Count} h r b) rest) end = absurd h
tail (on {f = e} {ws = ws} (goes_clause {p = Line} {d = d} {w = w} h r b) rest) end =
    λ ready. body_line d (w ∷ ws) e h (clause_whole d (w ∷ ws) e ready.clean (clause_first d w ws e b (tail rest end (record { small = ready.small; clean = refl }))))
tail (on {f = e} {ws = ws} (goes_clause {p = FirstVariable q} h r b) rest) end = absurd h
tail (on {f = e} {ws = ws} (goes_clause {p = NextVariable q} h r b) rest) end = absurd h
tail (on {f = e} {ws = ws} (goes_clause {p = Between} {d = d} {w = w} h r b) rest) end =
    λ ready. clause_whole d (w ∷ ws) e ready.clean (clause_first d w ws e b (tail rest end (record { small = ready.small; clean = refl })))
tail (on {f = e} {ws = ws} (goes_clause {p = Within} {d = d} {w = w} h r b) rest) end =
    λ small. clause_first d w ws e b (tail rest end (record { small = small; clean = refl }))
