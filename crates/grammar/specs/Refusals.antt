-- What is refused, and where: each rule on its own, at a word in its place or at the text's end.
use Rattle.std.specs.Prelude.{◌≡◌, ℕ, ◌-◌, ◌<◌, ◌≤◌, Bool, true, false, cond, not, ◌&&◌, ◌||◌, ◌⊎◌, List, [], ◌∷◌, ◌++◌, length, is_some, ◌==◌, nat_lt, slice_index}
use Rattle.std.specs.Str.{bytes_eq}
use Rattle.qbf.specs.declared.Quantifier.TheVariants.{Existential, Universal}
use Rattle.words.specs.Numbers.{numeral, value_of, number_out_of_range}
use Rattle.words.specs.Words.{Token, words_of}
use Rattle.formula.specs.declared.prefix.Binding.{Binding}
use Rattle.formula.specs.Positions.{position}
use Rattle.grammar.specs.declared.fault.Rule.{Rule}
use Rattle.grammar.specs.declared.fault.Rule.TheVariants.{TooLong, Misplaced, OutOfRange, BoundTwice, Unbound, ClauseCount}
use Rattle.grammar.specs.declared.place.Place.{Place}
use Rattle.grammar.specs.declared.place.Place.TheVariants.{Problem, Format, Variables, Count, Line, FirstVariable, NextVariable, Between, Within}
use Rattle.grammar.specs.Grammar.{p_word, cnf_word, letter}
use Rattle.grammar.specs.Places.{Draft, empty, begins, Leads}
use Rattle.grammar.specs.Rules.{number_of}

-- the digits of a literal: what follows its minus, if it has one
abbrev pub magnitude : List ℕ → List ℕ
magnitude [] = []
magnitude (b ∷ bs) = cond (b == 45) bs (b ∷ bs)

-- whether the word is a literal or 0: a number, or a minus before a number that is not 0
abbrev pub literal : List ℕ → Bool
literal [] = false
literal (b ∷ bs) = cond (b == 45) (numeral bs && not (value_of bs == 0)) (numeral (b ∷ bs))

abbrev pub bound : ℕ → List Binding → Bool
bound n prefix = is_some (position n prefix)

-- 2: a word that may not stand there
abbrev pub misplaced : Place → Token → Bool
misplaced Problem w = not (w.first && bytes_eq w.bytes p_word)
misplaced Format w = w.first || not (bytes_eq w.bytes cnf_word)
misplaced Variables w = w.first || not (numeral w.bytes)
misplaced Count w = w.first || not (numeral w.bytes)
misplaced Line w = not w.first || not (bytes_eq w.bytes (letter Universal) || (bytes_eq w.bytes (letter Existential) || literal w.bytes))
misplaced (FirstVariable q) w = w.first || (not (numeral w.bytes) || value_of w.bytes == 0)
misplaced (NextVariable q) w = w.first || not (numeral w.bytes)
misplaced Between w = not (literal w.bytes)
misplaced Within w = not (literal w.bytes)

-- the greatest number that may stand in a place
abbrev pub greatest : Place → Draft → ℕ
greatest Problem d = 0
greatest Format d = 0
greatest Variables d = 256
greatest Count d = 2048
greatest Line d = d.variables
greatest (FirstVariable q) d = d.variables
greatest (NextVariable q) d = d.variables
greatest Between d = d.variables
greatest Within d = d.variables

-- a place for a number of the problem line, for a variable of the prefix, or for a literal
abbrev pub takes_number : Place → Bool
takes_number Problem = false
takes_number Format = false
takes_number Variables = true
takes_number Count = true
takes_number Line = false
takes_number (FirstVariable q) = false
takes_number (NextVariable q) = false
takes_number Between = false
takes_number Within = false

abbrev pub takes_variable : Place → Bool
takes_variable Problem = false
takes_variable Format = false
takes_variable Variables = false
takes_variable Count = false
takes_variable Line = false
takes_variable (FirstVariable q) = true
takes_variable (NextVariable q) = true
takes_variable Between = false
takes_variable Within = false

abbrev pub takes_literal : Place → Bool
takes_literal Problem = false
takes_literal Format = false
takes_literal Variables = false
takes_literal Count = false
takes_literal Line = true
takes_literal (FirstVariable q) = false
takes_literal (NextVariable q) = false
takes_literal Between = true
takes_literal Within = true

-- 3: a number out of range
abbrev pub out_of_range : Place → Draft → Token → Bool
out_of_range p d w =
    ((takes_number p || takes_variable p) && (numeral w.bytes && number_out_of_range (greatest p d) w.bytes))
    || (takes_literal p && (literal w.bytes && number_out_of_range (greatest p d) (magnitude w.bytes)))

-- 4: a variable bound twice
abbrev pub bound_twice : Place → Draft → Token → Bool
bound_twice p d w = takes_variable p && (numeral w.bytes && (not (value_of w.bytes == 0) && bound (value_of w.bytes) d.prefix))

-- 5: a literal whose variable is not bound
abbrev pub unbound : Place → Draft → Token → Bool
unbound p d w = takes_literal p && (literal w.bytes && (not (value_of (magnitude w.bytes) == 0) && not (bound (value_of (magnitude w.bytes)) d.prefix)))

-- 6: a clause after as many as were declared
abbrev pub one_too_many : Place → Draft → Token → Bool
one_too_many p d w = begins p && (literal w.bytes && not (nat_lt d.finished d.declared))

-- whether the rule is broken at a word in its place
abbrev pub breaks : Rule → Place → Draft → Token → Bool
breaks TooLong p d w = false
breaks Misplaced p d w = misplaced p w
breaks OutOfRange p d w = out_of_range p d w
breaks BoundTwice p d w = bound_twice p d w
breaks Unbound p d w = unbound p d w
breaks ClauseCount p d w = one_too_many p d w

-- the places in which a text may end: behind a finished line of the head, or behind a finished clause
abbrev pub rests : Place → Bool
rests p = begins p

-- whether the text has its last line end
abbrev pub ended : List ℕ → Bool
ended text = slice_index text (length text - 1) == 10

-- whether the rule is broken at the text's end: 2 for an end with the problem line missing or a line or clause unfinished,
-- 6 for one with fewer clauses than were declared
abbrev pub breaks_at_end : Rule → Place → Draft → List ℕ → Bool
breaks_at_end TooLong p d text = false
breaks_at_end Misplaced p d text = not (rests p && ended text)
breaks_at_end OutOfRange p d text = false
breaks_at_end BoundTwice p d text = false
breaks_at_end Unbound p d text = false
breaks_at_end ClauseCount p d text = nat_lt d.finished d.declared

-- The text breaks the rule at the offset. A text of more than 60,000 bytes breaks rule 1 at offset 60,000, and no other is looked at.
-- In a shorter one a rule is broken at a word that stands behind words which stand right, or at the end behind such words.
pub data Broken (text : List ℕ) : Rule → ℕ → Type 0 where
  too_long : 60000 < length text → Broken text TooLong 60000
  at_word : {r : Rule} {p : Place} {d : Draft} (before : List Token) (w : Token) (after : List Token) → length text ≤ 60000 →
      words_of text ≡ before ++ w ∷ after → Leads Problem empty before p d → breaks r p d w ≡ true → Broken text r w.at
  at_end : {r : Rule} {p : Place} {d : Draft} → length text ≤ 60000 →
      Leads Problem empty (words_of text) p d → breaks_at_end r p d text ≡ true → Broken text r (length text)

-- The text is refused by the rule at the offset: the earliest at which a rule is broken, with the lowest number there.
pub record Refused (text : List ℕ) (r : Rule) (at : ℕ) : Type 0 where
  pub broken : Broken text r at
  pub least : (s : Rule) (k : ℕ) → Broken text s k → (at < k) ⊎ ((at ≡ k) × (number_of r ≤ number_of s))
