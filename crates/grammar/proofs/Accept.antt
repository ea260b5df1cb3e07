-- A text that is read has the format.
use Rattle.std.proofs.Common.{◌≡◌, ℕ, ◌<◌, ◌≤◌, Bool, true, false, ◌&&◌, ltb, List, [], ◌∷◌, ◌++◌, length, Ok, Err, sym, refl, ap, ◌∙◌, subst, arith}
use Rattle.std.proofs.lemmas.Bool.{false≢true, cond-true, cond-false, ltb-false, eqb-true, and_parts}
use Rattle.qbf.specs.Lists.{Distinct}
use Rattle.words.specs.Words.{Token, words_of}
use Rattle.words.proofs.Decimal.{stands}
use Rattle.formula.specs.declared.prefix.Binding.{Binding}
use Rattle.formula.specs.Positions.{variables_of}
use Rattle.formula.specs.Views.{Reading}
use Rattle.grammar.specs.declared.place.Place.{Place}
use Rattle.grammar.specs.declared.place.Place.TheVariants.{Problem, Format, Variables, Count, Line, FirstVariable, NextVariable, Between, Within}
use Rattle.grammar.specs.Grammar.{ProblemLine, PrefixLines, Clauses, Format as HasFormat}
use Rattle.grammar.specs.Grammar.ProblemLine.{problem_line}
use Rattle.grammar.specs.Places.{Draft, empty, with_variables, with_declared, InClauses, begins, Counted, Leads}
use Rattle.grammar.specs.Places.Goes.{goes_problem, goes_format, goes_variables, goes_count, goes_quantifier, goes_first, goes_next, goes_line, goes_literal, goes_clause}
use Rattle.grammar.specs.Places.Leads.{here, on}
use Rattle.grammar.specs.Refusals.{rests, ended}
use Rattle.grammar.specs.Steps.{Next, stepped, refuse, reading_of, finish, after, read_from, read_all}
use Rattle.grammar.proofs.Bindings.{not_bound, distinct_more}
use Rattle.grammar.proofs.Stands.{step_goes}
use Rattle.grammar.proofs.Tails.{tail}

-- the words lead to a good end
record Reaches (text : List ℕ) (p : Place) (d : Draft) (ws : List Token) (f : Reading) : Type 0 where
  last : Place
  draft : Draft
  leads : Leads p d ws last draft
  finishes : finish last draft text ≡ Ok f

reaches : (text : List ℕ) (ws : List Token) (p : Place) (d : Draft) (f : Reading) → read_from p d text ws ≡ Ok f → Reaches text p d ws f
reaches text [] p d f h = record { last = p; draft = d; leads = here; finishes = h }
reaches text (w ∷ ws) p d f h = go (reaches text ws) (stepped p d w) refl
  where
    go : ((p : Place) (d : Draft) (f : Reading) → read_from p d text ws ≡ Ok f → Reaches text p d ws f) → (n : Next) → stepped p d w ≡ n → Reaches text p d (w ∷ ws) f
    go ih (Ok x) is =
        let r = ih x.0 x.1 f (sym (ap (λ (n : Next). after n w.at (λ q e. read_from q e text ws)) is) ∙ h) in
        record { last = r.last; draft = r.draft; leads = on (step_goes p x.0 d x.1 w is) r.leads; finishes = r.finishes }
    go ih (Err r) is =
        let g : refuse r w.at ≡ Ok f = sym (ap (λ (n : Next). after n w.at (λ q e. read_from q e text ws)) is) ∙ h in
        cc

record Finished (p : Place) (d : Draft) (text : List ℕ) (f : Reading) : Type 0 where
  rest : rests p ≡ true
  end : ended text ≡ true
  enough : d.declared ≤ d.finished
  is : reading_of d ≡ f

finished : (p : Place) (d : Draft) (text : List ℕ) (f : Reading) → finish p d text ≡ Ok f → Finished p d text f
finished p d text f h = at_rest (rests p && ended text) refl
  where
    counted : (t : Bool) → ltb d.finished d.declared ≡ t → (rests p && ended text) ≡ true → Finished p d text f
    counted true t k = let g = sym (cond-true _ _ _ k ∙ cond-true _ _ _ t) ∙ h in cc
    counted false t k =
        let a = and_parts (rests p) (ended text) k in
        let g : finish p d text ≡ Ok (reading_of d) = cond-true _ _ _ k ∙ cond-false _ _ _ t in
        record { rest = a.0; end = a.1; enough = ltb-false _ _ t; is = cc }

    at_rest : (t : Bool) → (rests p && ended text) ≡ t → Finished p d text f
    at_rest true t = counted (ltb d.finished d.declared) refl t
    at_rest false t = let g = sym (cond-false _ _ _ t) ∙ h in cc

-- no variable is bound twice, wherever words lead
pub distinct_kept : {p q : Place} {d e : Draft} {ws : List Token} → Leads p d ws q e → Distinct (variables_of d.prefix) → Distinct (variables_of e.prefix)
distinct_kept here h = h
distinct_kept (on (goes_problem f b) rest) h = distinct_kept rest h
distinct_kept (on (goes_format f b) rest) h = distinct_kept rest h
distinct_kept (on (goes_variables f n) rest) h = distinct_kept rest h
distinct_kept (on (goes_count f n) rest) h = distinct_kept rest h
distinct_kept (on (goes_quantifier f b) rest) h = distinct_kept rest h
distinct_kept (on (goes_first {d = d} {n = n} f r pos new) rest) h = distinct_kept rest (distinct_more d.prefix _ h (not_bound 0 n d.prefix new))
distinct_kept (on (goes_next {d = d} {n = n} f r pos new) rest) h = distinct_kept rest (distinct_more d.prefix _ h (not_bound 0 n d.prefix new))
distinct_kept (on (goes_line f b) rest) h = distinct_kept rest h
distinct_kept (on (goes_literal i r is c) rest) h = distinct_kept rest h
distinct_kept (on (goes_clause i r b) rest) h = distinct_kept rest h

-- a clause that is begun or ended in this place is one of those declared
counted_room : (p : Place) (d : Draft) (w : Token) → InClauses p w → (begins p ≡ true → d.finished < d.declared) → Counted p d → d.finished < d.declared
counted_room Problem d w i r h = absurd i
counted_room Format d w i r h = absurd i
counted_room Variables d w i r h = absurd i
counted_room Count d w i r h = absurd i
counted_room Line d w i r h = r refl
counted_room (FirstVariable q) d w i r h = absurd i
counted_room (NextVariable q) d w i r h = absurd i
counted_room Between d w i r h = r refl
counted_room Within d w i r h = h

pub counted_kept : {p q : Place} {d e : Draft} {ws : List Token} → Leads p d ws q e → Counted p d → Counted q e
counted_kept here h = h
counted_kept (on (goes_problem f b) rest) h = counted_kept rest h
counted_kept (on (goes_format f b) rest) h = counted_kept rest h
counted_kept (on (goes_variables f n) rest) h = counted_kept rest h
counted_kept (on (goes_count f n) rest) h = counted_kept rest (omega arith)
counted_kept (on (goes_quantifier f b) rest) h = counted_kept rest h
counted_kept (on (goes_first f r pos new) rest) h = counted_kept rest h
counted_kept (on (goes_next f r pos new) rest) h = counted_kept rest h
counted_kept (on (goes_line f b) rest) h = counted_kept rest h
counted_kept (on (goes_literal {p = p} {d = d} {w = w} i r is c) rest) h = counted_kept rest (counted_room p d w i r h)
counted_kept (on (goes_clause {p = p} {d = d} {w = w} i r b) rest) h = let room = counted_room p d w i r h in counted_kept rest (omega arith)

at_rest : (p : Place) (d : Draft) → rests p ≡ true → Counted p d → d.finished ≤ d.declared
at_rest Problem d r h = absurd (false≢true r)
at_rest Format d r h = absurd (false≢true r)
at_rest Variables d r h = absurd (false≢true r)
at_rest Count d r h = absurd (false≢true r)
at_rest Line d r h = h
at_rest (FirstVariable q) d r h = absurd (false≢true r)
at_rest (NextVariable q) d r h = absurd (false≢true r)
at_rest Between d r h = h
at_rest Within d r h = absurd (false≢true r)

-- the head of the text, and what follows it
record Headed (ws : List Token) (q : Place) (e : Draft) : Type 0 where
  problem : List Token
  rest : List Token
  v : ℕ
  c : ℕ
  whole : ws ≡ problem ++ rest
  line : ProblemLine v c problem
  few : v ≤ 256
  leads : Leads Line (with_declared c (with_variables v empty)) rest q e

headed : {ws : List Token} {q : Place} {e : Draft} → Leads Problem empty ws q e → rests q ≡ true → Headed ws q e
headed here r = absurd (false≢true r)
headed (on (goes_literal i x is c) rest) r = absurd i
headed (on (goes_clause i x b) rest) r = absurd i
headed (on (goes_problem f b) here) r = absurd (false≢true r)
headed (on (goes_problem f b) (on (goes_literal i x is c) rest)) r = absurd i
headed (on (goes_problem f b) (on (goes_clause i x z) rest)) r = absurd i
headed (on (goes_problem f b) (on (goes_format f2 b2) here)) r = absurd (false≢true r)
headed (on (goes_problem f b) (on (goes_format f2 b2) (on (goes_literal i x is c) rest))) r = absurd i
headed (on (goes_problem f b) (on (goes_format f2 b2) (on (goes_clause i x z) rest))) r = absurd i
headed (on (goes_problem f b) (on (goes_format f2 b2) (on (goes_variables f3 n3) here))) r = absurd (false≢true r)
headed (on (goes_problem f b) (on (goes_format f2 b2) (on (goes_variables f3 n3) (on (goes_literal i x is c) rest)))) r = absurd i
headed (on (goes_problem f b) (on (goes_format f2 b2) (on (goes_variables f3 n3) (on (goes_clause i x z) rest)))) r = absurd i
headed (on (goes_problem {w = w1} f b) (on (goes_format {w = w2} f2 b2) (on (goes_variables {w = w3} {v = v} f3 n3) (on {ws = rest} (goes_count {w = w4} {c = c} f4 n4) leads)))) r =
    let x = ((stands 256 (omega arith) w3.bytes).number v).0 n3 in
    let y = ((stands 2048 (omega arith) w4.bytes).number c).0 n4 in
    record {
      problem = w1 ∷ w2 ∷ w3 ∷ w4 ∷ [];
      rest = rest;
      v = v;
      c = c;
      whole = refl;
      line = problem_line (f, (f2, (f3, (f4, tt)))) b b2 x.0 x.1 y.0 y.1;
      few = x.1;
      leads = leads;
    }

pub ok_format : (text : List ℕ) (f : Reading) → read_all text ≡ Ok f → HasFormat text f
ok_format text f h = on_length (ltb 60000 (length text)) refl
  where
    formatted : length text ≤ 60000 → Reaches text Problem empty (words_of text) f → HasFormat text f
    formatted short r =
        let g = finished r.last r.draft text f r.finishes in
        let hd = headed r.leads g.rest in
        let e = r.draft in
        let t = tail hd.leads g.rest (let few = hd.few in record { small = omega arith; clean = refl }) in
        let a = t.adds in
        let most = at_rest r.last e g.rest (counted_kept r.leads refl) in
        let apart = distinct_kept r.leads tt in
        let enough = g.enough in
        let counts : length t.cs ≡ hd.c = (let n = a.finished in let m = a.declared in omega arith) in
        let made : HasFormat text (reading_of e) = record {
          short = short;
          ended = eqb-true _ 10 g.end;
          problem = hd.problem;
          lines = t.lines;
          body = t.body;
          written_clauses = t.cs;
          whole = hd.whole ∙ ap (λ (z : List Token). hd.problem ++ z) t.whole;
          problem_is = subst (λ (x : ℕ). ProblemLine x e.declared hd.problem) (sym a.variables) (subst (λ (x : ℕ). ProblemLine hd.v x hd.problem) (sym a.declared) hd.line);
          prefix_is = subst (λ (x : ℕ). PrefixLines x t.lines e.prefix) (sym a.variables) (subst (PrefixLines hd.v t.lines) (sym a.prefix) t.prefix);
          bound_once = apart;
          body_begins = t.fresh;
          clauses_are = subst (λ (x : ℕ). Clauses x e.prefix t.body t.cs) (sym a.variables) (subst (λ (ps : List Binding). Clauses hd.v ps t.body t.cs) (sym a.prefix) t.clauses);
          counted = counts ∙ sym a.declared;
          stored = a.stored_now;
        } in
        subst (HasFormat text) g.is made

    on_length : (t : Bool) → ltb 60000 (length text) ≡ t → HasFormat text f
    on_length true t = let g = sym (cond-true _ _ _ t) ∙ h in cc
    on_length false t = formatted (ltb-false 60000 (length text) t) (reaches text (words_of text) Problem empty f (sym (cond-false _ _ _ t) ∙ h))
