use Rattle.std.proofs.Common.{◌+◌, eqb, rules, sym, ◌∙◌}
use Rattle.std.proofs.lemmas.List.{take_rest}
use Rattle.std.proofs.lemmas.Iterator.{YieldsList-from_slice}
use Rattle.std.proofs.lemmas.Iterator.Search.{position_from_yields_List}
use Rattle.script.proofs.Breaks.{never_at, cut_at}
use Rattle.script.proofs.lines.split_once.Goals as goal
use borrow.Author.Tests.{tests}

pub returns-in_err-at : goal.returns-in_err-at
returns-in_err-at c =
    let p = position_from_yields_List (λ b. eqb b c.args.byte) _ _ c.position.result c.position.ensures.ran (YieldsList-from_slice c.args.text.now cc) (λ x b q k. search (rules, tests)) in
    rw c.from_residual.ensures (never_at c.args.byte c.args.text.now (sym p ∙ c.in_err-at.was))

pub returns : goal.returns
returns c =
    let p = position_from_yields_List (λ b. eqb b c.args.byte) _ _ c.position.result c.position.ensures.ran (YieldsList-from_slice c.args.text.now cc) (λ x b q k. search (rules, tests)) in
    rw (take_rest c.args.text.now (c.in_ok-at.at + 1)) (cut_at c.args.byte c.args.text.now c.in_ok-at.at (sym p ∙ c.in_ok-at.was))
