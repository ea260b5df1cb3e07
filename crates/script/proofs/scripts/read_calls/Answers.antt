use Rattle.std.proofs.Common.{drop, vec_items, sym, ap, ◌∙◌}
use Rattle.std.specs.Result.{is_ok}
use Rattle.std.proofs.lemmas.Bool.{cond-true}
use Rattle.script.proofs.Spelled.{one_more}
use Rattle.script.proofs.scripts.read_calls.Goals as goal

pub loop-call-preserved : goal.loop-call-preserved
loop-call-preserved c =
    let s = c.in-Some.ensures in
    let text = c.args.script.now in
    let m = one_more (vec_items c.loop-call.calls) (vec_items c.push.new.self) c.in-Some.call (drop c.args.start text) (drop c.loop-call.at text) (drop c.in-Some.next text) (c.push.ensures.items ∙ cond-true (is_ok c.push.result) _ _ (sym c.map_err.ensures.variant ∙ ap is_ok c.in_ok-map_err.was)) c.loop-call.invariant.1 s.range c.loop-call.invariant.2 s.spells in
    (s.within, m.0, m.1)
