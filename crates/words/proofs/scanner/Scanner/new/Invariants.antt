use Rattle.std.proofs.Common.{◌≡◌, drop}
use Rattle.words.specs.Words.{scan, words_of}
use Rattle.words.specs.Words.Mode.{ahead}
use Rattle.words.proofs.scanner.Scanner.new.Given as goal

abbrev pub invariant-loop-pos : goal.invariant-loop-pos
invariant-loop-pos l = scan (ahead l.line) l.pos (drop l.pos l.text) ≡ words_of l.text
