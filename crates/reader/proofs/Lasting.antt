-- What holds of a draft lasts from word to word.
use Rattle.std.proofs.Common.{◌≡◌, ℕ, ◌+◌, ◌<◌, ◌≤◌, Bool, true, false, not, ◌&&◌, eqb, ltb, List, [], ◌∷◌, ◌++◌, length, is_some, Some, None, Ok, Err, Option, Result, sym, refl, ap, subst, ⊎_elim, arith}
use Rattle.std.specs.List.{AllByRecursion, sum_by}
use Rattle.std.proofs.lemmas.List.Sums.{sum_by_push}
use Rattle.std.specs.Str.{bytes_eq}
use Rattle.std.proofs.ByRecursion.{All-push}
use Rattle.std.proofs.lemmas.List.{length_push, map_push}
use Rattle.std.proofs.lemmas.Bool.{cond_both, and_cases, not-false, ltb-true, eqb-false}
use Rattle.qbf.specs.declared.Quantifier.{Quantifier}
use Rattle.qbf.specs.declared.Quantifier.TheVariants.{Existential, Universal}
use Rattle.words.specs.declared.literals.Literal.{Literal}
use Rattle.words.specs.declared.numbers.NumberFault.{NumberFault}
use Rattle.words.specs.Numbers.{read_number, read_literal}
use Rattle.words.specs.Words.{Token}
use Rattle.words.proofs.Decimal.{read_number_lem}
use Rattle.clause.specs.Once.{once, both_signs}
use Rattle.clause.proofs.Sets.{once_all, once_distinct, once_length}
use Rattle.formula.specs.declared.Formula.{Formula}
use Rattle.formula.specs.declared.prefix.Binding.{Binding}
use Rattle.formula.specs.Views.{Blank}
use Rattle.formula.specs.Positions.{variables_of, position}
use Rattle.grammar.proofs.Bindings.{absent, distinct_more}
use Rattle.formula.proofs.Positions.{found_within}
use Rattle.grammar.specs.declared.place.Place.{Place}
use Rattle.grammar.specs.declared.place.Place.TheVariants.{Problem, Format, Variables, Count, Line, FirstVariable, NextVariable, Between, Within}
use Rattle.grammar.specs.Grammar.{p_word, cnf_word, letter, bind, code_at}
use Rattle.grammar.specs.Stored.{repeated, store}
use Rattle.grammar.specs.Places.{Draft, empty, with_binding, with_clause}
use Rattle.grammar.specs.Steps.{Next, on_variables, on_count, on_variable, on_literal, on_clause_word, clause_word, stepped, after, read_from}
use Rattle.reader.specs.Views.{draft_of}
use Rattle.reader.specs.Sound.{kept, Clean, Fine, Sound}
use Rattle.reader.proofs.Bound.{InRange, prefix_few}

-- after a word that stands right, what must last does so, and at most one literal more is kept
abbrev Lasts : Draft → Next → Type 0
Lasts d (Ok x) = Sound x.0 x.1 × (kept x.1 ≤ kept d + 1)
Lasts d (Err r) = Unit {0}

-- the problem line

variables_last : (d : Draft) (r : Result ℕ NumberFault) → Sound Variables d → ((n : ℕ) → r ≡ Ok n → n ≤ 256) → Lasts d (on_variables d r)
variables_last d (Ok v) s h =
    let f = s.0 in
    ((record { variables = h v refl; declared = f.declared; few = f.few; bound = f.bound; once = f.once; begun = f.begun; stored = f.stored }, s.1), omega arith)
variables_last d (Err e) s h = tt

count_last : (d : Draft) (r : Result ℕ NumberFault) → Sound Count d → ((n : ℕ) → r ≡ Ok n → n ≤ 2048) → Lasts d (on_count d r)
count_last d (Ok c) s h =
    let f = s.0 in
    ((record { variables = f.variables; declared = h c refl; few = f.few; bound = f.bound; once = f.once; begun = f.begun; stored = f.stored }, omega (arith, s.1)), omega arith)
count_last d (Err e) s h = tt

-- prefix lines

binding_last : (q : Quantifier) (n : ℕ) (d : Draft) → Fine d → InRange n → is_some (position n d.prefix) ≡ false → Fine (with_binding q n d)
binding_last q n d f r new =
    let vs = variables_of d.prefix in
    let e : variables_of (d.prefix ++ bind q n ∷ []) ≡ vs ++ n ∷ [] = map_push (λ (b : Binding). b.variable) d.prefix (bind q n) in
    record {
      variables = f.variables;
      declared = f.declared;
      few = f.few;
      bound = subst (AllByRecursion InRange) (sym e) (All-push InRange vs n f.bound r);
      once = distinct_more d.prefix (bind q n) f.once (absent n d.prefix new);
      begun = f.begun;
      stored = f.stored;
    }

variable_lasts : (q : Quantifier) (first : Bool) (d : Draft) (r : Result ℕ NumberFault) → Fine d → d.finished ≤ d.declared → ((n : ℕ) → r ≡ Ok n → n ≤ d.variables) → Lasts d (on_variable q first d r)
variable_lasts q first d (Ok n) f c h =
    cond_both (eqb n 0) _ _ (Lasts d)
    (λ zero. cond_both first _ _ (Lasts d) (λ _. tt) (λ _. ((f, c), omega arith)))
    (λ some. cond_both (is_some (position n d.prefix)) _ _ (Lasts d) (λ _. tt) (λ new. ((binding_last q n d f (omega (arith, eqb-false n 0 some), omega (arith, h n refl, f.variables)) new, c), omega arith)))
variable_lasts q first d (Err e) f c h = tt

-- clauses

small_code : (minus : Bool) (p : ℕ) → p < 256 → code_at minus p < 512
small_code true p h = omega arith
small_code false p h = omega arith

literal_lasts : (full : Bool) (d : Draft) (l : Literal) (o : Option ℕ) → position l.variable d.prefix ≡ o → Fine d → (full ≡ false → d.finished < d.declared) → Lasts d (on_literal full d l o)
literal_lasts full d l (Some p) e f c =
    cond_both full _ _ (Lasts d) (λ _. tt) (λ fits.
    let k = code_at l.negative p in
    let w = found_within 0 l.variable d.prefix p e in
    let m = prefix_few d.prefix f.once f.bound in
    let n = length_push d.begun k in
    ((record { variables = f.variables; declared = f.declared; few = f.few; bound = f.bound; once = f.once; begun = All-push (λ c. c < 512) d.begun k f.begun (small_code l.negative p (omega arith)); stored = f.stored }, c fits), omega arith))
literal_lasts full d l None e f c = tt

-- a clause more, stored or not
record Grown (cs : List (List ℕ)) (c : List ℕ) (ds : List (List ℕ)) : Type 0 where
  clean : AllByRecursion Clean ds
  few : length ds ≤ length cs + 1
  room : sum_by length ds ≤ sum_by length cs + length c

store_grows : (cs : List (List ℕ)) (c : List ℕ) → AllByRecursion Clean cs → AllByRecursion (λ k. k < 512) c → Grown cs c (store cs c)
store_grows cs c a s =
    let same : Grown cs c cs = record { clean = a; few = omega arith; room = omega arith } in
    cond_both (both_signs c) _ _ (Grown cs c) (λ _. same) (λ _.
    cond_both (repeated (once c) cs) _ _ (Grown cs c) (λ _. same) (λ _.
    let t = sum_by_push length cs (once c) in
    let l = once_length c in
    let n = length_push cs (once c) in
    record { clean = All-push Clean cs (once c) a (once_all (λ k. k < 512) c s, once_distinct c); few = omega arith; room = omega arith }))

clause_lasts : (d : Draft) → Fine d → d.finished < d.declared → Lasts d (Ok (Between, with_clause d))
clause_lasts d f fits =
    let g = store_grows d.stored d.begun f.stored f.begun in
    ((record { variables = f.variables; declared = f.declared; few = omega (arith, g.few, f.few); bound = f.bound; once = f.once; begun = tt; stored = g.clean }, omega arith), omega (arith, g.room))

clause_word_lasts : (full : Bool) (d : Draft) (r : Result (Option Literal) NumberFault) → Fine d → (full ≡ false → d.finished < d.declared) → Lasts d (on_clause_word full d r)
clause_word_lasts full d (Ok (Some l)) f c = literal_lasts full d l (position l.variable d.prefix) refl f c
clause_word_lasts full d (Ok None) f c = cond_both full _ _ (Lasts d) (λ _. tt) (λ fits. clause_lasts d f (c fits))
clause_word_lasts full d (Err e) f c = tt

open_clause : (first : Bool) (d : Draft) → (first ≡ false → d.finished < d.declared) → (first && not (ltb d.finished d.declared)) ≡ false → d.finished < d.declared
open_clause first d c e = ⊎_elim c (λ h. ltb-true d.finished d.declared (not-false _ h)) (and_cases first _ e)

begins_clause : true ≡ false → (d : Draft) → d.finished < d.declared
begins_clause e d = cc

words_last : (first : Bool) (d : Draft) (w : Token) → Fine d → (first ≡ false → d.finished < d.declared) → Lasts d (clause_word first d w)
words_last first d w f c = clause_word_lasts _ d (read_literal d.variables w.bytes) f (open_clause first d c)

step_lasts : (p : Place) (d : Draft) (w : Token) → Sound p d → Lasts d (stepped p d w)
step_lasts Problem d w s = cond_both (w.first && bytes_eq w.bytes p_word) _ _ (Lasts d) (λ _. (s, omega arith)) (λ _. tt)
step_lasts Format d w s = cond_both (not w.first && bytes_eq w.bytes cnf_word) _ _ (Lasts d) (λ _. (s, omega arith)) (λ _. tt)
step_lasts Variables d w s = cond_both w.first _ _ (Lasts d) (λ _. tt) (λ _. variables_last d (read_number 256 w.bytes) s (λ n e. (read_number_lem 256 (omega arith) w.bytes n e).1))
step_lasts Count d w s = cond_both w.first _ _ (Lasts d) (λ _. tt) (λ _. count_last d (read_number 2048 w.bytes) s (λ n e. (read_number_lem 2048 (omega arith) w.bytes n e).1))
step_lasts Line d w s =
    cond_both w.first _ _ (Lasts d)
    (λ _. cond_both (bytes_eq w.bytes (letter Universal)) _ _ (Lasts d) (λ _. (s, omega arith))
    (λ _. cond_both (bytes_eq w.bytes (letter Existential)) _ _ (Lasts d) (λ _. (s, omega arith))
    (λ _. words_last true d w s.0 (λ e. begins_clause e d))))
    (λ _. tt)
step_lasts (FirstVariable q) d w s = cond_both w.first _ _ (Lasts d) (λ _. tt) (λ _. variable_lasts q true d (read_number d.variables w.bytes) s.0 s.1 (λ n e. (read_number_lem d.variables (omega (arith, s.0.variables)) w.bytes n e).1))
step_lasts (NextVariable q) d w s = cond_both w.first _ _ (Lasts d) (λ _. tt) (λ _. variable_lasts q false d (read_number d.variables w.bytes) s.0 s.1 (λ n e. (read_number_lem d.variables (omega (arith, s.0.variables)) w.bytes n e).1))
step_lasts Between d w s = words_last true d w s.0 (λ e. begins_clause e d)
step_lasts Within d w s = words_last false d w s.0 (λ _. s.1)

-- a formula that says nothing is the draft before any word
pub blank_empty : (f : Formula) → Blank f → draft_of f ≡ empty
blank_empty f b i = record { variables = b.variables i; declared = b.declared i; prefix = b.prefix i; finished = b.finished i; stored = b.clauses i; begun = b.begun i }

pub empty_sound : Sound Problem empty
empty_sound = (record { variables = omega arith; declared = omega arith; few = omega arith; bound = tt; once = tt; begun = tt; stored = tt }, refl)

-- a word that stands right: what must last does so, and the words behind it are read on from there

pub lasts_at : (p : Place) (d : Draft) (w : Token) {q : Place} {e : Draft} → Sound p d → stepped p d w ≡ Ok (q, e) → Sound q e × (kept e ≤ kept d + 1)
lasts_at p d w s h = subst (Lasts d) h (step_lasts p d w s)

pub read_on : (p : Place) (d : Draft) (w : Token) {q : Place} {e : Draft} (text : List ℕ) (ws : List Token) → stepped p d w ≡ Ok (q, e) → read_from q e text ws ≡ read_from p d text (w ∷ ws)
read_on p d w text ws h = sym (ap (λ (n : Next). after n w.at (λ r f. read_from r f text ws)) h)
