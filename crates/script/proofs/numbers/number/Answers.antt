use Rattle.std.proofs.Common.{sym, ap, ◌∙◌}
use Rattle.std.proofs.lemmas.Bool.{false≢true}
use Rattle.words.specs.Numbers.{numeral}
use Rattle.words.proofs.Decimal.{numeral_decimal}
use Rattle.script.proofs.Values.{read_by_value}
use Rattle.script.proofs.numbers.number.Goals as goal

pub returns-then-not-is_numeral : goal.returns-then-not-is_numeral
returns-then-not-is_numeral c = λ n h e. false≢true (c.if-not-is_numeral.ensures ∙ ap numeral e ∙ numeral_decimal n h)

pub returns : goal.returns
returns c = read_by_value c.args.word.now c.value_of.result (sym c.if-not-is_numeral.ensures) c.value_of.ensures
