-- A word leads on exactly where it stands right.
use Rattle.std.proofs.Common.{◌≡◌, ℕ, ◌<◌, Bool, true, false, not, ◌&&◌, ltb, List, is_some, Some, None, Ok, sym, refl, ap, ◌∙◌, arith}
use Rattle.std.proofs.lemmas.Bool.{false_from_ne_true, and_from, cond-true, cond-false, ne_eqb, lt-ltb, le-ltb, not_from_false, not_from_true}
use Rattle.std.proofs.lemmas.Slice.Eq.{bytes_eq-Decides}
use Rattle.std.specs.Str.{bytes_eq}
use Rattle.qbf.specs.declared.Quantifier.{Quantifier}
use Rattle.qbf.specs.declared.Quantifier.TheVariants.{Existential, Universal}
use Rattle.words.specs.declared.literals.Literal.{Literal}
use Rattle.words.specs.Numbers.{read_number, read_literal, unsigned}
use Rattle.words.specs.Words.{Token}
use Rattle.grammar.specs.declared.place.Place.{Place}
use Rattle.grammar.specs.declared.place.Place.TheVariants.{Problem, Format, Variables, Count, Line, FirstVariable, NextVariable, Between, Within}
use Rattle.grammar.specs.Grammar.{zero_word, letter}
use Rattle.grammar.specs.Places.{Draft, with_literal, InClauses, begins, Goes}
use Rattle.grammar.specs.Places.Goes.{goes_problem, goes_format, goes_variables, goes_count, goes_quantifier, goes_first, goes_next, goes_line, goes_literal, goes_clause}
use Rattle.grammar.specs.Steps.{on_variables, on_count, on_variable, on_literal, on_clause_word, clause_word, stepped}

-- in a clause's place, a step is that of a clause word
word_step : (p : Place) (d : Draft) (w : Token) → InClauses p w → bytes_eq w.bytes (letter Universal) ≡ false → bytes_eq w.bytes (letter Existential) ≡ false → stepped p d w ≡ clause_word (begins p) d w
word_step Problem d w h a e = absurd h
word_step Format d w h a e = absurd h
word_step Variables d w h a e = absurd h
word_step Count d w h a e = absurd h
word_step Line d w h a e = cond-true _ _ _ h ∙ cond-false _ _ _ a ∙ cond-false _ _ _ e
word_step (FirstVariable q) d w h a e = absurd h
word_step (NextVariable q) d w h a e = absurd h
word_step Between d w h a e = refl
word_step Within d w h a e = refl

-- there is room for a clause, where one begins
room : (bg : Bool) (d : Draft) → (bg ≡ true → d.finished < d.declared) → (bg && not (ltb d.finished d.declared)) ≡ false
room true d h = not_from_true _ (lt-ltb _ _ (h refl))
room false d h = refl

-- the word 0 and a literal are no letters
zero_plain : (bs : List ℕ) (q : Quantifier) → bs ≡ zero_word → bytes_eq bs (letter q) ≡ false
zero_plain bs Universal e = ap (λ (w : List ℕ). bytes_eq w (letter Universal)) e
zero_plain bs Existential e = ap (λ (w : List ℕ). bytes_eq w (letter Existential)) e

literal_plain : (v : ℕ) (bs : List ℕ) (l : Literal) (q : Quantifier) → read_literal v bs ≡ Ok (Some l) → bytes_eq bs (letter q) ≡ false
literal_plain v bs l q r = false_from_ne_true _ (λ e. unread q ((bytes_eq-Decides bs (letter q)).0 e))
  where
    unread : (q : Quantifier) → bs ≡ letter q → ⊥
    unread Universal e = let g = sym (ap (read_literal v) e) ∙ r in cc
    unread Existential e = let g = sym (ap (read_literal v) e) ∙ r in cc

zero_number : (v : ℕ) (bs : List ℕ) → bs ≡ zero_word → read_number v bs ≡ Ok 0
zero_number v bs e = ap (read_number v) e ∙ cond-false _ _ _ (le-ltb v 0 (omega arith))

zero_literal : (v : ℕ) (bs : List ℕ) → bs ≡ zero_word → read_literal v bs ≡ Ok None
zero_literal v bs e = ap (read_literal v) e ∙ ap unsigned (zero_number v zero_word refl)

pub goes_step : {p q : Place} {d e : Draft} {w : Token} → Goes p d w q e → stepped p d w ≡ Ok (q, e)
goes_step (goes_problem f b) = cond-true _ _ _ (and_from _ _ f ((bytes_eq-Decides _ _).1 b))
goes_step (goes_format f b) = cond-true _ _ _ (and_from _ _ (not_from_false _ f) ((bytes_eq-Decides _ _).1 b))
goes_step (goes_variables {d = d} f n) = cond-false _ _ _ f ∙ ap (on_variables d) n
goes_step (goes_count {d = d} f n) = cond-false _ _ _ f ∙ ap (on_count d) n
goes_step (goes_quantifier {q = Universal} f b) = cond-true _ _ _ f ∙ cond-true _ _ _ ((bytes_eq-Decides _ _).1 b)
goes_step (goes_quantifier {w = w} {q = Existential} f b) =
    cond-true _ _ _ f
    ∙ cond-false _ _ _ (ap (λ (bs : List ℕ). bytes_eq bs (letter Universal)) b)
    ∙ cond-true _ _ _ ((bytes_eq-Decides _ _).1 b)
goes_step (goes_first {d = d} {q = q} {n = n} f r pos new) =
    cond-false _ _ _ f ∙ ap (on_variable q true d) r ∙ cond-false _ _ _ (ne_eqb n 0 (omega arith)) ∙ cond-false _ _ _ (ap is_some new)
goes_step (goes_next {d = d} {q = q} {n = n} f r pos new) =
    cond-false _ _ _ f ∙ ap (on_variable q false d) r ∙ cond-false _ _ _ (ne_eqb n 0 (omega arith)) ∙ cond-false _ _ _ (ap is_some new)
goes_step (goes_line {d = d} {w = w} {q = q} f b) = cond-false _ _ _ f ∙ ap (on_variable q false d) (zero_number d.variables w.bytes b)
goes_step (goes_literal {p} {d} {w} {l} {k} h r is c) =
    let full = begins p && not (ltb d.finished d.declared) in
    word_step p d w h (literal_plain d.variables w.bytes l Universal is) (literal_plain d.variables w.bytes l Existential is)
    ∙ ap (on_clause_word full d) is
    ∙ ap (on_literal full d l) c.1
    ∙ cond-false _ _ _ (room (begins p) d r)
    ∙ ap (λ (x : ℕ). Ok (Within, with_literal x d)) (sym c.2)
goes_step (goes_clause {p} {d} {w} h r b) =
    let full = begins p && not (ltb d.finished d.declared) in
    word_step p d w h (zero_plain w.bytes Universal b) (zero_plain w.bytes Existential b)
    ∙ ap (on_clause_word full d) (zero_literal d.variables w.bytes b)
    ∙ cond-false _ _ _ (room (begins p) d r)
