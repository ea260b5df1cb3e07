-- A step tells the lowest rule that the word breaks.
use Rattle.std.proofs.Common.{◌≡◌, ℕ, Bool, true, false, cond, not, ◌&&◌, ◌||◌, eqb, ltb, List, [], ◌∷◌, is_some, Some, None, Ok, Err, Option, Result, sym, refl, ap, ◌∙◌}
use Rattle.std.proofs.lemmas.Bool.{both_ways, eqb-true, cond-true, cond-false}
use Rattle.std.proofs.lemmas.Slice.Eq.{bytes_eq-Decides}
use Rattle.std.specs.Str.{bytes_eq}
use Rattle.qbf.specs.declared.Quantifier.{Quantifier}
use Rattle.qbf.specs.declared.Quantifier.TheVariants.{Existential, Universal}
use Rattle.words.specs.declared.literals.Literal.{Literal}
use Rattle.words.specs.declared.numbers.NumberFault.{NumberFault}
use Rattle.words.specs.declared.numbers.NumberFault.TheVariants.{NotANumber, OutOfRange as AboveMax}
use Rattle.words.specs.Numbers.{numeral, value_of, number_out_of_range, read_number, read_literal, unsigned, negated}
use Rattle.words.specs.Words.{Token}
use Rattle.formula.specs.Positions.{position}
use Rattle.grammar.specs.declared.fault.Rule.TheVariants.{Misplaced, OutOfRange, BoundTwice, Unbound, ClauseCount}
use Rattle.grammar.specs.declared.place.Place.{Place}
use Rattle.grammar.specs.declared.place.Place.TheVariants.{Problem, Format, Variables, Count, Line, FirstVariable, NextVariable, Between, Within}
use Rattle.grammar.specs.Grammar.{p_word, cnf_word, letter, code_at}
use Rattle.grammar.specs.Places.{Draft, with_variables, with_declared, with_binding, with_literal, with_clause}
use Rattle.grammar.specs.Refusals.{literal, magnitude, misplaced, out_of_range, bound_twice, unbound, one_too_many}
use Rattle.grammar.specs.Steps.{Next, on_variables, on_count, on_variable, on_literal, on_clause_word, clause_word, stepped}
use Rattle.grammar.proofs.Zeros.{zero_only, zero_in_range}

-- the lowest of the rules that are broken, or where the word leads
abbrev pub ranked : Bool → Bool → Bool → Bool → Bool → Place × Draft → Next
ranked m o b u c x = cond m (Err Misplaced) (cond o (Err OutOfRange) (cond b (Err BoundTwice) (cond u (Err Unbound) (cond c (Err ClauseCount) (Ok x)))))

-- a literal by the tests on its word
abbrev pub lit_read : Bool → Bool → Bool → Literal → Result (Option Literal) NumberFault
lit_read lit o z l = cond lit (cond o (Err AboveMax) (cond z (Ok None) (Ok (Some l)))) (Err NotANumber)

abbrev pub literal_by_sign : ℕ → Bool → Literal
literal_by_sign n minus = record { variable = n; negative = minus }

abbrev pub minus : List ℕ → Bool
minus [] = false
minus (b ∷ bs) = eqb b 45

unsigned_form : (n o : Bool) (x : ℕ) → unsigned (cond n (cond o (Err AboveMax) (Ok x)) (Err NotANumber)) ≡ lit_read n o (eqb x 0) (literal_by_sign x false)
unsigned_form true true x = refl
unsigned_form true false x = refl
unsigned_form false o x = refl

negated_form : (n o z : Bool) (x : ℕ) → eqb x 0 ≡ z → (n ≡ true → z ≡ true → o ≡ false) → negated (cond n (cond o (Err AboveMax) (Ok x)) (Err NotANumber)) ≡ lit_read (n && not z) o z (literal_by_sign x true)
negated_form true true true x e h = absurd (both_ways true (h refl refl) refl)
negated_form true true false x e h = refl
negated_form true false true x e h = cond-true _ _ _ e
negated_form true false false x e h = cond-false _ _ _ e
negated_form false o z x e h = refl

lit_at : (t : Bool) (v b : ℕ) (bs : List ℕ) → cond t (negated (read_number v bs)) (unsigned (read_number v (b ∷ bs))) ≡ lit_read (cond t (numeral bs && not (eqb (value_of bs) 0)) (numeral (b ∷ bs))) (number_out_of_range v (cond t bs (b ∷ bs))) (eqb (value_of (cond t bs (b ∷ bs))) 0) (literal_by_sign (value_of (cond t bs (b ∷ bs))) t)
lit_at true v b bs = negated_form (numeral bs) (number_out_of_range v bs) (eqb (value_of bs) 0) (value_of bs) refl (λ n z. zero_in_range v bs (zero_only bs n (eqb-true _ 0 z)))
lit_at false v b bs = unsigned_form (numeral (b ∷ bs)) (number_out_of_range v (b ∷ bs)) (value_of (b ∷ bs))

pub lit_form : (v : ℕ) (bs : List ℕ) → read_literal v bs ≡ lit_read (literal bs) (number_out_of_range v (magnitude bs)) (eqb (value_of (magnitude bs)) 0) (literal_by_sign (value_of (magnitude bs)) (minus bs))
lit_form v [] = refl
lit_form v (b ∷ bs) = lit_at (eqb b 45) v b bs

-- where a word leads that breaks no rule
abbrev pub literal_target : Draft → Literal → Option ℕ → Place × Draft
literal_target d l (Some p) = (Within, with_literal (code_at l.negative p) d)
literal_target d l None = (Within, d)

abbrev pub clause_target : Draft → Bool → Literal → Place × Draft
clause_target d z l = cond z (Between, with_clause d) (literal_target d l (position l.variable d.prefix))

abbrev pub word_target : Draft → List ℕ → Place × Draft
word_target d bs = clause_target d (eqb (value_of (magnitude bs)) 0) (literal_by_sign (value_of (magnitude bs)) (minus bs))

abbrev pub variable_target : Quantifier → Draft → ℕ → Place × Draft
variable_target q d n = cond (eqb n 0) (Line, d) (NextVariable q, with_binding q n d)

abbrev pub target : Place → Draft → Token → Place × Draft
target Problem d w = (Format, d)
target Format d w = (Variables, d)
target Variables d w = (Count, with_variables (value_of w.bytes) d)
target Count d w = (Line, with_declared (value_of w.bytes) d)
target Line d w = cond (bytes_eq w.bytes (letter Universal)) (FirstVariable Universal, d) (cond (bytes_eq w.bytes (letter Existential)) (FirstVariable Existential, d) (word_target d w.bytes))
target (FirstVariable q) d w = variable_target q d (value_of w.bytes)
target (NextVariable q) d w = variable_target q d (value_of w.bytes)
target Between d w = word_target d w.bytes
target Within d w = word_target d w.bytes

literal_rank : (o : Option ℕ) (full : Bool) (d : Draft) (l : Literal) → on_literal full d l o ≡ ranked false false false (not (is_some o)) full (literal_target d l o)
literal_rank (Some p) true d l = refl
literal_rank (Some p) false d l = refl
literal_rank None full d l = refl

clause_rank : (lit o z bg room : Bool) (d : Draft) (l : Literal) → on_clause_word (bg && not room) d (lit_read lit o z l) ≡ ranked (not lit) (lit && o) false (lit && (not z && not (is_some (position l.variable d.prefix)))) (bg && (lit && not room)) (clause_target d z l)
clause_rank false o z bg room d l = refl
clause_rank true true z bg room d l = refl
clause_rank true false true bg room d l = refl
clause_rank true false false bg room d l = literal_rank (position l.variable d.prefix) (bg && not room) d l

word_rank : (bg : Bool) (d : Draft) (w : Token) → clause_word bg d w ≡ ranked (not (literal w.bytes)) (literal w.bytes && number_out_of_range d.variables (magnitude w.bytes)) false (literal w.bytes && (not (eqb (value_of (magnitude w.bytes)) 0) && not (is_some (position (value_of (magnitude w.bytes)) d.prefix)))) (bg && (literal w.bytes && not (ltb d.finished d.declared))) (word_target d w.bytes)
word_rank bg d w =
    ap (on_clause_word (bg && not (ltb d.finished d.declared)) d) (lit_form d.variables w.bytes)
    ∙ clause_rank (literal w.bytes) _ _ bg (ltb d.finished d.declared) d _

problem_rank : (f s : Bool) (x : Place × Draft) → cond (f && s) (Ok x) (Err Misplaced) ≡ ranked (not (f && s)) false false false false x
problem_rank true true x = refl
problem_rank true false x = refl
problem_rank false s x = refl

format_rank : (f s : Bool) (x : Place × Draft) → cond (not f && s) (Ok x) (Err Misplaced) ≡ ranked (f || not s) false false false false x
format_rank true s x = refl
format_rank false true x = refl
format_rank false false x = refl

variables_rank : (f n o : Bool) (d : Draft) (x : ℕ) → cond f (Err Misplaced) (on_variables d (cond n (cond o (Err AboveMax) (Ok x)) (Err NotANumber))) ≡ ranked (f || not n) ((n && o) || false) false false false (Count, with_variables x d)
variables_rank true n o d x = refl
variables_rank false true true d x = refl
variables_rank false true false d x = refl
variables_rank false false o d x = refl

count_rank : (f n o : Bool) (d : Draft) (x : ℕ) → cond f (Err Misplaced) (on_count d (cond n (cond o (Err AboveMax) (Ok x)) (Err NotANumber))) ≡ ranked (f || not n) ((n && o) || false) false false false (Line, with_declared x d)
count_rank true n o d x = refl
count_rank false true true d x = refl
count_rank false true false d x = refl
count_rank false false o d x = refl

-- a number in a prefix line, as its first and behind others
first_rank : (z b : Bool) (x y : Place × Draft) → cond z (cond true (Err Misplaced) (Ok x)) (cond b (Err BoundTwice) (Ok y)) ≡ ranked z false (not z && b) false false (cond z x y)
first_rank true b x y = refl
first_rank false b x y = refl

next_rank : (z b : Bool) (x y : Place × Draft) → cond z (cond false (Err Misplaced) (Ok x)) (cond b (Err BoundTwice) (Ok y)) ≡ ranked false false (not z && b) false false (cond z x y)
next_rank true b x y = refl
next_rank false b x y = refl

first_variable_rank : (f n o : Bool) (q : Quantifier) (d : Draft) (x : ℕ) → (n ≡ true → eqb x 0 ≡ true → o ≡ false) → cond f (Err Misplaced) (on_variable q true d (cond n (cond o (Err AboveMax) (Ok x)) (Err NotANumber))) ≡ ranked (f || (not n || eqb x 0)) ((n && o) || false) (n && (not (eqb x 0) && is_some (position x d.prefix))) false false (variable_target q d x)
first_variable_rank true n o q d x h = refl
first_variable_rank false true true q d x h = sym (cond-false (eqb x 0) _ _ (off (eqb x 0) refl))
  where
    off : (z : Bool) → eqb x 0 ≡ z → eqb x 0 ≡ false
    off true e = absurd (both_ways true (h refl e) refl)
    off false e = e
first_variable_rank false true false q d x h = first_rank (eqb x 0) (is_some (position x d.prefix)) (Line, d) (NextVariable q, with_binding q x d)
first_variable_rank false false o q d x h = refl

next_variable_rank : (f n o : Bool) (q : Quantifier) (d : Draft) (x : ℕ) → cond f (Err Misplaced) (on_variable q false d (cond n (cond o (Err AboveMax) (Ok x)) (Err NotANumber))) ≡ ranked (f || not n) ((n && o) || false) (n && (not (eqb x 0) && is_some (position x d.prefix))) false false (variable_target q d x)
next_variable_rank true n o q d x = refl
next_variable_rank false true true q d x = refl
next_variable_rank false true false q d x = next_rank (eqb x 0) (is_some (position x d.prefix)) (Line, d) (NextVariable q, with_binding q x d)
next_variable_rank false false o q d x = refl

-- a line's first word behind the head
line_rank : (f a e lit o u c : Bool) (next : Next) (x y z : Place × Draft) → (a ≡ true → lit ≡ false) → (e ≡ true → lit ≡ false) → next ≡ ranked (not lit) (lit && o) false (lit && u) (lit && c) z → cond f (cond a (Ok x) (cond e (Ok y) next)) (Err Misplaced) ≡ ranked (not f || not (a || (e || lit))) (lit && o) false (lit && u) (lit && c) (cond a x (cond e y z))
line_rank false a e lit o u c next x y z h g n = refl
line_rank true true e true o u c next x y z h g n = absurd (both_ways true (h refl) refl)
line_rank true true e false o u c next x y z h g n = refl
line_rank true false true true o u c next x y z h g n = absurd (both_ways true (g refl) refl)
line_rank true false true false o u c next x y z h g n = refl
line_rank true false false lit o u c next x y z h g n = n

no_literal : (bs : List ℕ) (q : Quantifier) → bytes_eq bs (letter q) ≡ true → literal bs ≡ false
no_literal bs Universal e = ap literal ((bytes_eq-Decides bs (letter Universal)).0 e)
no_literal bs Existential e = ap literal ((bytes_eq-Decides bs (letter Existential)).0 e)

pub rank : (p : Place) (d : Draft) (w : Token) → stepped p d w ≡ ranked (misplaced p w) (out_of_range p d w) (bound_twice p d w) (unbound p d w) (one_too_many p d w) (target p d w)
rank Problem d w = problem_rank w.first (bytes_eq w.bytes p_word) (Format, d)
rank Format d w = format_rank w.first (bytes_eq w.bytes cnf_word) (Variables, d)
rank Variables d w = variables_rank w.first (numeral w.bytes) (number_out_of_range 256 w.bytes) d (value_of w.bytes)
rank Count d w = count_rank w.first (numeral w.bytes) (number_out_of_range 2048 w.bytes) d (value_of w.bytes)
rank Line d w =
    line_rank w.first (bytes_eq w.bytes (letter Universal)) (bytes_eq w.bytes (letter Existential)) (literal w.bytes) _ _ _ (clause_word true d w) _ _ _
    (no_literal w.bytes Universal) (no_literal w.bytes Existential) (word_rank true d w)
rank (FirstVariable q) d w =
    first_variable_rank w.first (numeral w.bytes) (number_out_of_range d.variables w.bytes) q d (value_of w.bytes)
    (λ n z. zero_in_range d.variables w.bytes (zero_only w.bytes n (eqb-true _ 0 z)))
rank (NextVariable q) d w = next_variable_rank w.first (numeral w.bytes) (number_out_of_range d.variables w.bytes) q d (value_of w.bytes)
rank Between d w = word_rank true d w
rank Within d w = word_rank false d w
