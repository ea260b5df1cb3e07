-- A word that breaks no rule stands right.
use Rattle.std.proofs.Common.{◌≡◌, ℕ, ◌<◌, Bool, true, false, cond, not, ◌&&◌, ◌||◌, eqb, ltb, List, [], ◌∷◌, is_some, Some, None, Ok, Option, sym, refl, ap, ◌∙◌, subst, arith}
use Rattle.std.proofs.lemmas.Bool.{both_ways, false≢true, not-false, not-true, or_parts, and_parts, cond-true, cond-false, eqb-true, eqb-false, ltb-true}
use Rattle.std.proofs.lemmas.Slice.Eq.{bytes_eq-Decides}
use Rattle.std.specs.Str.{bytes_eq}
use Rattle.qbf.specs.declared.Quantifier.TheVariants.{Existential, Universal}
use Rattle.words.specs.Numbers.{numeral, value_of, number_out_of_range, read_number, read_literal}
use Rattle.words.specs.Words.{Token}
use Rattle.formula.specs.Positions.{position}
use Rattle.grammar.specs.declared.place.Place.{Place}
use Rattle.grammar.specs.declared.place.Place.TheVariants.{Problem, Format, Variables, Count, Line, FirstVariable, NextVariable, Between, Within}
use Rattle.grammar.specs.Grammar.{p_word, cnf_word, zero_word, letter}
use Rattle.grammar.specs.Places.{Draft, InClauses, begins, Goes}
use Rattle.grammar.specs.Places.Goes.{goes_problem, goes_format, goes_variables, goes_count, goes_quantifier, goes_first, goes_next, goes_line, goes_literal, goes_clause}
use Rattle.grammar.specs.Refusals.{literal, magnitude}
use Rattle.grammar.specs.Steps.{stepped}
use Rattle.grammar.proofs.Bindings.{none_of}
use Rattle.grammar.proofs.Zeros.{zero_only}
use Rattle.grammar.proofs.Ranks.{target, lit_form, literal_by_sign, minus, literal_target, word_target, variable_target}
use Rattle.grammar.proofs.Judged.{Clear, step_clear}

-- a word leads to a place and a draft
abbrev To : Place → Draft → Token → Place × Draft → Type 0
To p d w x = Goes p d w x.0 x.1

-- of a conjunction that fails, the second part fails where the first holds
second : (x y : Bool) → x ≡ true → (x && y) ≡ false → y ≡ false
second true y h e = e
second false y h e = absurd (false≢true h)

first_of : (x y : Bool) → not (x && y) ≡ false → (x ≡ true) × (y ≡ true)
first_of x y e = and_parts x y (not-false (x && y) e)

number_is : (max : ℕ) (bs : List ℕ) → numeral bs ≡ true → number_out_of_range max bs ≡ false → read_number max bs ≡ Ok (value_of bs)
number_is max bs n o = cond-true _ _ _ n ∙ cond-false _ _ _ o

-- a literal word of value 0 is the word 0
zero_literal_only : (bs : List ℕ) → literal bs ≡ true → eqb (value_of (magnitude bs)) 0 ≡ true → bs ≡ zero_word
zero_literal_only [] l z = absurd (false≢true l)
zero_literal_only (b ∷ bs) l z = on (eqb b 45) l z
  where
    on : (t : Bool) → cond t (numeral bs && not (eqb (value_of bs) 0)) (numeral (b ∷ bs)) ≡ true → eqb (value_of (cond t bs (b ∷ bs))) 0 ≡ true → b ∷ bs ≡ zero_word
    on true m y = absurd (both_ways (eqb (value_of bs) 0) (not-true _ (and_parts (numeral bs) _ m).1) y)
    on false m y = zero_only (b ∷ bs) m (eqb-true _ 0 y)

room_for : (bg lit : Bool) (d : Draft) → lit ≡ true → (bg && (lit && not (ltb d.finished d.declared))) ≡ false → bg ≡ true → d.finished < d.declared
room_for true true d l e b = ltb-true _ _ (not-false _ e)
room_for true false d l e b = absurd (false≢true l)
room_for false lit d l e b = absurd (false≢true b)

-- a literal or a 0 in a clause's place
word_goes : (p : Place) (d : Draft) (w : Token) → InClauses p w → literal w.bytes ≡ true → number_out_of_range d.variables (magnitude w.bytes) ≡ false → (not (eqb (value_of (magnitude w.bytes)) 0) && not (is_some (position (value_of (magnitude w.bytes)) d.prefix))) ≡ false → (begins p ≡ true → d.finished < d.declared) → To p d w (word_target d w.bytes)
word_goes p d w h lit o u r = on (eqb n 0) refl
  where
    n : ℕ
    n = value_of (magnitude w.bytes)

    found : (x : Option ℕ) → position n d.prefix ≡ x → is_some x ≡ true → read_literal d.variables w.bytes ≡ Ok (Some (literal_by_sign n (minus w.bytes))) → To p d w (literal_target d (literal_by_sign n (minus w.bytes)) x)
    found (Some q) is s read = goes_literal h r read (q, is, refl)
    found None is s read = absurd (false≢true s)

    on : (z : Bool) → eqb n 0 ≡ z → To p d w (word_target d w.bytes)
    on true z = subst (To p d w) (sym (cond-true _ _ _ z)) (goes_clause h r (zero_literal_only w.bytes lit z))
    on false z =
        let bd = not-false _ (second (not (eqb n 0)) _ (ap not z) u) in
        let read = lit_form d.variables w.bytes ∙ cond-true _ _ _ lit ∙ cond-false _ _ _ o ∙ cond-false _ _ _ z in
        subst (To p d w) (sym (cond-false _ _ _ z)) (found (position n d.prefix) refl bd read)

clear_goes : (p : Place) (d : Draft) (w : Token) → Clear p d w → To p d w (target p d w)
clear_goes Problem d w c =
    let f = first_of w.first _ c.placed in
    goes_problem f.0 ((bytes_eq-Decides _ p_word).0 f.1)
clear_goes Format d w c =
    let f = or_parts w.first _ c.placed in
    goes_format f.0 ((bytes_eq-Decides _ cnf_word).0 (not-false _ f.1))
clear_goes Variables d w c =
    let f = or_parts w.first _ c.placed in
    let n = not-false (numeral w.bytes) f.1 in
    goes_variables f.0 (number_is 256 w.bytes n (second _ _ n (or_parts _ false c.in_range).0))
clear_goes Count d w c =
    let f = or_parts w.first _ c.placed in
    let n = not-false (numeral w.bytes) f.1 in
    goes_count f.0 (number_is 2048 w.bytes n (second _ _ n (or_parts _ false c.in_range).0))
clear_goes Line d w c =
    let f = or_parts (not w.first) _ c.placed in
    line (bytes_eq w.bytes (letter Universal)) refl (not-false w.first f.0) (not-false _ f.1)
  where
    existential : (e : Bool) → bytes_eq w.bytes (letter Existential) ≡ e → w.first ≡ true → (e || literal w.bytes) ≡ true → To Line d w (cond e (FirstVariable Existential, d) (word_target d w.bytes))
    existential true e f h = goes_quantifier f ((bytes_eq-Decides _ (letter Existential)).0 e)
    existential false e f lit = word_goes Line d w f lit (second _ _ lit c.in_range) (second _ _ lit c.bound) (room_for true (literal w.bytes) d lit c.room)

    line : (a : Bool) → bytes_eq w.bytes (letter Universal) ≡ a → w.first ≡ true → (a || (bytes_eq w.bytes (letter Existential) || literal w.bytes)) ≡ true → To Line d w (cond a (FirstVariable Universal, d) (cond (bytes_eq w.bytes (letter Existential)) (FirstVariable Existential, d) (word_target d w.bytes)))
    line true a f h = goes_quantifier f ((bytes_eq-Decides _ (letter Universal)).0 a)
    line false a f h = existential (bytes_eq w.bytes (letter Existential)) refl f h
clear_goes (FirstVariable q) d w c =
    let f = or_parts w.first _ c.placed in
    let g = or_parts (not (numeral w.bytes)) _ f.1 in
    let n = not-false (numeral w.bytes) g.0 in
    let z = g.1 in
    let o = second _ _ n (or_parts _ false c.in_range).0 in
    let b = none_of _ (second _ _ (ap not z) (second _ _ n c.new)) in
    let some = eqb-false _ 0 z in
    subst (To (FirstVariable q) d w) (sym (cond-false _ _ _ z)) (goes_first f.0 (number_is d.variables w.bytes n o) (omega arith) b)
clear_goes (NextVariable q) d w c =
    let f = or_parts w.first _ c.placed in
    let n = not-false (numeral w.bytes) f.1 in
    let o = second _ _ n (or_parts _ false c.in_range).0 in
    next (eqb (value_of w.bytes) 0) refl f.0 n o
  where
    next : (z : Bool) → eqb (value_of w.bytes) 0 ≡ z → w.first ≡ false → numeral w.bytes ≡ true → number_out_of_range d.variables w.bytes ≡ false → To (NextVariable q) d w (variable_target q d (value_of w.bytes))
    next true z f n o = subst (To (NextVariable q) d w) (sym (cond-true _ _ _ z)) (goes_line f (zero_only _ n (eqb-true _ 0 z)))
    next false z f n o =
        let b = none_of _ (second _ _ (ap not z) (second _ _ n c.new)) in
        let some = eqb-false _ 0 z in
        subst (To (NextVariable q) d w) (sym (cond-false _ _ _ z)) (goes_next f (number_is d.variables w.bytes n o) (omega arith) b)
clear_goes Between d w c =
    let lit = not-false (literal w.bytes) c.placed in
    word_goes Between d w tt lit (second _ _ lit c.in_range) (second _ _ lit c.bound) (room_for true (literal w.bytes) d lit c.room)
clear_goes Within d w c =
    let lit = not-false (literal w.bytes) c.placed in
    word_goes Within d w tt lit (second _ _ lit c.in_range) (second _ _ lit c.bound) (room_for false (literal w.bytes) d lit c.room)

pub step_goes : (p q : Place) (d e : Draft) (w : Token) → stepped p d w ≡ Ok (q, e) → Goes p d w q e
step_goes p q d e w h =
    let c = step_clear p d w (q, e) h in
    subst (To p d w) c.1 (clear_goes p d w c.0)
