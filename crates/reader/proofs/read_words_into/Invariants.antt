use Rattle.std.proofs.Common.{◌≡◌, ◌+◌, ◌≤◌, length}
use Rattle.words.specs.Words.{left, words_of}
use Rattle.grammar.specs.declared.place.Place.TheVariants.{Problem}
use Rattle.grammar.specs.Places.{empty}
use Rattle.grammar.specs.Steps.{read_from}
use Rattle.reader.specs.Sound.{Sound, kept}
use Rattle.reader.specs.Views.{draft_of}
use Rattle.reader.proofs.read_words_into.Given as goal

-- what must last, room for the words that are left, and that what is left to read gives the whole text's answer
abbrev pub invariant-loop-word : goal.invariant-loop-word
invariant-loop-word l =
    (goal.iterator-loop-word).can_next l.word-iterator × (goal.iterator-loop-word).is_finite l.word-iterator × Sound l.place (draft_of l.draft)
    × (kept (draft_of l.draft) + length (left l.word-iterator) ≤ 30000)
    × (read_from l.place (draft_of l.draft) l.text (left l.word-iterator) ≡ read_from Problem empty l.text (words_of l.text))
