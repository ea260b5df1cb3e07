-- How a refusal is told.
use Rattle.std.specs.Prelude.{ℕ, List, ◌++◌, codes, decimal}
use Rattle.grammar.specs.declared.fault.ReadFault.{ReadFault}
use Rattle.grammar.specs.declared.fault.Rule.{Rule}
use Rattle.grammar.specs.declared.fault.Rule.TheVariants.{TooLong, Misplaced, OutOfRange, BoundTwice, Unbound, ClauseCount}

-- the number by which a broken rule is told
abbrev pub number_of : Rule → ℕ
number_of TooLong = 1
number_of Misplaced = 2
number_of OutOfRange = 3
number_of BoundTwice = 4
number_of Unbound = 5
number_of ClauseCount = 6

-- the text of a refusal: the rule's number and the offset
abbrev pub refusal : ReadFault → List ℕ
refusal f = codes "refused " ++ (decimal (number_of f.rule) ++ (codes " at " ++ decimal f.at))
