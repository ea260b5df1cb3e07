use Rattle.std.proofs.Common.{◌≡◌, ◌-◌, ◌≤◌, ◌∷◌, ◌++◌, length, drop, sym, ap, ◌∙◌, arith}
use Rattle.std.proofs.lemmas.List.{length-drop}
use Rattle.script.specs.Reading.{unbroken, Called}
use Rattle.script.proofs.Spelled.{no_more, no_line, no_call, called}
use Rattle.script.proofs.calling.read_call.Goals as goal
use Rattle.script.proofs.calling.read_call.Goals.{In_ok-line, In_ok-call}

pub returns-in_err-text : goal.returns-in_err-text
returns-in_err-text c = let l = length-drop c.args.at c.args.script.now in rw c.from_residual.ensures (no_more (drop c.args.at c.args.script.now) (omega (arith, c.in_err-text.ensures.cases)))

pub returns-in_err-line : goal.returns-in_err-line
returns-in_err-line c = rw c.from_residual-in_err-line.ensures (no_line (drop c.args.at c.args.script.now) (ap unbroken (sym c.in_ok-text.ensures.cases.2) ∙ c.in_err-line.ensures))

-- the script from the place on, cut at its first line end
cut : (c : In_ok-line) → drop c.args.at c.args.script.now ≡ c.in_ok-line.line.now ++ 10 ∷ c.in_ok-line.follows.now
cut c = sym c.in_ok-text.ensures.cases.2 ∙ c.in_ok-line.ensures.1

pub returns-in_err-call : goal.returns-in_err-call
returns-in_err-call c =
    let text = drop c.args.at c.args.script.now in
    let l = length-drop c.args.at c.args.script.now in
    rw c.from_residual-in_err-call.ensures (no_call text c.in_ok-line.line.now c.in_ok-line.follows.now (omega arith) c.in_ok-line.ensures.0 (cut (goal.at.returns-in_err-call c).In_ok-line) c.in_err-call.ensures)

found : (c : In_ok-call) → (length c.in_ok-call.rest.now ≤ length c.args.script.now) × Called c.args.script.now c.args.at c.in_ok-call.call (length c.args.script.now - length c.in_ok-call.rest.now)
found c =
    called c.args.script.now c.args.at c.in_ok-line.line.now c.in_ok-line.follows.now c.in_ok-call.call c.in_ok-call.rest.now c.in_ok-text.ensures.cases.0 (cut (goal.at.In_ok-call c).In_ok-line) c.in_ok-call.ensures

pub returns : goal.returns
returns c = (found (goal.at.returns c).In_ok-call).1
