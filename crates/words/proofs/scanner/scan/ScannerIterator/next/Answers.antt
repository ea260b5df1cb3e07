use Rattle.std.proofs.Common.{◌≡◌, Bool, ◌||◌, eqb, length, le_refl, ap, ◌∙◌, sym, refl, arith}
use Rattle.std.specs.List.{list_any}
use Rattle.std.proofs.lemmas.List.{take_rest, drop_all}
use Rattle.words.specs.Words.{scan}
use Rattle.words.specs.Words.Mode.{gap}
use Rattle.words.proofs.Next.{word_left, none_left}
use Rattle.words.proofs.scanner.scan.ScannerIterator.next.Goals as goal
use Rattle.words.proofs.scanner.scan.ScannerIterator.next.Goals.{then-self, else-self}

pub returns-in_default-clause-steps : goal.returns-in_default-clause-steps
returns-in_default-clause-steps c =
    let s = c.args.self.now in
    let none = none_left s.fresh s.pos _ _ (take_rest s.text.now s.pos) (sym c.gap_len.ensures ∙ c.in_default.is) in
    let ended = ap (scan (gap s.fresh) (length s.text.now)) (drop_all (length s.text.now) s.text.now (le_refl _)) in
    record { cases = none; ended = ended; same = refl }

pub returns : goal.returns
returns c =
    let s = c.args.self.now in
    let skipped = c.split_at.result.0.now in
    let ends : Bool = list_any (λ b. eqb b 10) skipped in
    let first : c.if-self.first ≡ (s.fresh || ends) =
    elim c.if-self.branch [
      | then-self w ↦ w.first-is ∙ w.if-self.true ∙ sym (ap (λ (f : Bool). f || ends) w.if-self.true)
      | else-self w ↦ w.first-is ∙ w.contains-first.ensures.value ∙ sym (ap (λ (f : Bool). f || ends) w.if-self.false)
    ] in
    let cases =
    word_left s.fresh c.if-self.first s.text.now _ skipped c.split_at.result.1.now s.pos c.in-Some.gap c.word_len.result (take_rest s.text.now s.pos) (sym c.gap_len.ensures ∙ c.in-Some.is) c.split_at.ensures.front c.split_at.ensures.back
    c.word_len.ensures first in
    record {
      steps = record { cases = cases; ended = tt; same = refl };
      goes = record { on = λ _. (tt, tt, omega (arith, ap length cases)); keeps = tt; rests = λ _. tt };
    }
