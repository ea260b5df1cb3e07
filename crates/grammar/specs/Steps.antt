-- Reading word by word.
use Rattle.std.specs.Prelude.{ℕ, Bool, true, false, cond, not, ◌&&◌, List, [], ◌∷◌, length, is_some, Some, None, Ok, Err, Option, Result, ◌==◌, nat_lt}
use Rattle.std.specs.Str.{bytes_eq}
use Rattle.qbf.specs.declared.Quantifier.{Quantifier}
use Rattle.qbf.specs.declared.Quantifier.TheVariants.{Existential, Universal}
use Rattle.words.specs.declared.literals.Literal.{Literal}
use Rattle.words.specs.declared.numbers.NumberFault.{NumberFault}
use Rattle.words.specs.declared.numbers.NumberFault.TheVariants.{NotANumber, OutOfRange as AboveMax}
use Rattle.words.specs.Numbers.{read_number, read_literal}
use Rattle.words.specs.Words.{Token, words_of}
use Rattle.formula.specs.Positions.{position}
use Rattle.formula.specs.Views.{Reading}
use Rattle.grammar.specs.declared.fault.ReadFault.{ReadFault}
use Rattle.grammar.specs.declared.fault.Rule.{Rule}
use Rattle.grammar.specs.declared.fault.Rule.TheVariants.{TooLong, Misplaced, OutOfRange, BoundTwice, Unbound, ClauseCount}
use Rattle.grammar.specs.declared.place.Place.{Place}
use Rattle.grammar.specs.declared.place.Place.TheVariants.{Problem, Format, Variables, Count, Line, FirstVariable, NextVariable, Between, Within}
use Rattle.grammar.specs.Grammar.{p_word, cnf_word, letter, code_at}
use Rattle.grammar.specs.Places.{Draft, empty, with_variables, with_declared, with_binding, with_literal, with_clause}
use Rattle.grammar.specs.Refusals.{ended, rests}

abbrev pub Next : Type 0
Next = Result (Place × Draft) Rule

-- the rule that a word breaks which is no number, or none that may stand there
abbrev pub fault_of : NumberFault → Rule
fault_of NotANumber = Misplaced
fault_of AboveMax = OutOfRange

abbrev pub on_variables : Draft → Result ℕ NumberFault → Next
on_variables d (Ok v) = Ok (Count, with_variables v d)
on_variables d (Err e) = Err (fault_of e)

abbrev pub on_count : Draft → Result ℕ NumberFault → Next
on_count d (Ok c) = Ok (Line, with_declared c d)
on_count d (Err e) = Err (fault_of e)

-- a number in a prefix line; a 0 ends it, but not as its first
abbrev pub on_variable : Quantifier → Bool → Draft → Result ℕ NumberFault → Next
on_variable q first d (Ok n) =
    cond (n == 0)
    (cond first (Err Misplaced) (Ok (Line, d)))
    (cond (is_some (position n d.prefix)) (Err BoundTwice) (Ok (NextVariable q, with_binding q n d)))
on_variable q first d (Err e) = Err (fault_of e)

-- a literal, by where its variable is bound
abbrev pub on_literal : Bool → Draft → Literal → Option ℕ → Next
on_literal full d l (Some p) = cond full (Err ClauseCount) (Ok (Within, with_literal (code_at l.negative p) d))
on_literal full d l None = Err Unbound

-- a literal or a 0, where a clause more is too many or not
abbrev pub on_clause_word : Bool → Draft → Result (Option Literal) NumberFault → Next
on_clause_word full d (Ok (Some l)) = on_literal full d l (position l.variable d.prefix)
on_clause_word full d (Ok None) = cond full (Err ClauseCount) (Ok (Between, with_clause d))
on_clause_word full d (Err e) = Err (fault_of e)

abbrev pub clause_word : Bool → Draft → Token → Next
clause_word first d w = on_clause_word (first && not (nat_lt d.finished d.declared)) d (read_literal d.variables w.bytes)

-- one word
abbrev pub stepped : Place → Draft → Token → Next
stepped Problem d w = cond (w.first && bytes_eq w.bytes p_word) (Ok (Format, d)) (Err Misplaced)
stepped Format d w = cond (not w.first && bytes_eq w.bytes cnf_word) (Ok (Variables, d)) (Err Misplaced)
stepped Variables d w = cond w.first (Err Misplaced) (on_variables d (read_number 256 w.bytes))
stepped Count d w = cond w.first (Err Misplaced) (on_count d (read_number 2048 w.bytes))
stepped Line d w =
    cond w.first
    (cond (bytes_eq w.bytes (letter Universal)) (Ok (FirstVariable Universal, d))
    (cond (bytes_eq w.bytes (letter Existential)) (Ok (FirstVariable Existential, d))
    (clause_word true d w)))
    (Err Misplaced)
stepped (FirstVariable q) d w = cond w.first (Err Misplaced) (on_variable q true d (read_number d.variables w.bytes))
stepped (NextVariable q) d w = cond w.first (Err Misplaced) (on_variable q false d (read_number d.variables w.bytes))
stepped Between d w = clause_word true d w
stepped Within d w = clause_word false d w

-- a step's answer: the place with the draft, or the rule that is broken
abbrev pub joined : Result Place Rule → Draft → Next
joined (Ok p) d = Ok (p, d)
joined (Err r) d = Err r

abbrev pub Answer : Type 0
Answer = Result Reading ReadFault

abbrev pub refuse : Rule → ℕ → Answer
refuse r at = Err (record { rule = r; at = at })

-- the formula that a draft has become
abbrev pub reading_of : Draft → Reading
reading_of d = record { variables = d.variables; declared = d.declared; prefix = d.prefix; clauses = d.stored }

-- the end of the text
abbrev pub finish : Place → Draft → List ℕ → Answer
finish p d text = cond (rests p && ended text) (cond (nat_lt d.finished d.declared) (refuse ClauseCount (length text)) (Ok (reading_of d))) (refuse Misplaced (length text))

abbrev pub after : Next → ℕ → (Place → Draft → Answer) → Answer
after (Ok x) at go = go x.0 x.1
after (Err r) at go = refuse r at

-- the words that are left, and then the end
abbrev pub read_from : Place → Draft → List ℕ → List Token → Answer
read_from p d text [] = finish p d text
read_from p d text (w ∷ ws) = after (stepped p d w) w.at (λ q e. read_from q e text ws)

-- the whole text
abbrev pub read_all : List ℕ → Answer
read_all text = cond (nat_lt 60000 (length text)) (refuse TooLong 60000) (read_from Problem empty text (words_of text))
