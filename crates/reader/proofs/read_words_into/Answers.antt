use Rattle.std.proofs.Common.{Result, length, sym, ap, ◌∙◌, subst, arith}
use Rattle.words.specs.Words.{token, left}
use Rattle.words.proofs.Places.{words_few}
use Rattle.grammar.specs.declared.place.Place.TheVariants.{Problem}
use Rattle.grammar.specs.Places.{Draft, empty}
use Rattle.grammar.specs.declared.place.Place.{Place}
use Rattle.grammar.specs.declared.fault.Rule.{Rule}
use Rattle.grammar.specs.Steps.{read_from, joined}
use Rattle.reader.proofs.Refusing.{stood_right}
use Rattle.reader.specs.Sound.{Sound, kept}
use Rattle.reader.specs.Views.{draft_of}
use Rattle.reader.proofs.Lasting.{blank_empty, empty_sound, lasts_at, read_on}
use Rattle.reader.proofs.read_words_into.Goals as goal

pub loop-word-init : goal.loop-word-init
loop-word-init c =
    let text = c.args.text.now in
    let few = words_few text in
    let words = ap left c.into_iter-word-iterator.ensures.into_iter_gives ∙ c.new-word-items.ensures in
    let same = ap length words in
    let blank = blank_empty c.args.draft.now c.requires in
    let none = ap kept blank in (
      tt,
      tt,
      subst (Sound Problem) (sym blank) empty_sound,
      omega arith,
      ap (λ (d : Draft). read_from Problem d text (left c.into_iter-word-iterator.result)) blank ∙ ap (read_from Problem empty text) words,
    )

pub loop-word-preserved : goal.loop-word-preserved
loop-word-preserved c =
    let place = c.loop-word.place in
    let draft = draft_of c.loop-word.draft in
    let next = draft_of c.on_word.new.draft in
    let word = token c.in-Some.word in
    let text = c.args.text.now in
    let cut = c.in-Some.ensures.steps.cases in
    let right = c.on_word.ensures ∙ ap (λ (r : Result Place Rule). joined r next) (stood_right c.on_word.result c.map_err.result c.in_ok-place.place _ c.map_err.ensures.cases c.map_err.ensures.variant c.in_ok-place.was) in
    let lasts = lasts_at place draft word {e = next} c.loop-word.invariant.2 right in
    let fewer = ap length cut in (
      tt,
      tt,
      lasts.0,
      omega (arith, lasts.1, c.loop-word.invariant.3),
      read_on place draft word {e = next} text (left c.next.new.self) right ∙ ap (read_from place draft text) (sym cut) ∙ c.loop-word.invariant.4,
    )
