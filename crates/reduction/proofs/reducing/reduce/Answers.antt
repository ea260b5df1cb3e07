use Rattle.std.proofs.Common.{ap, ◌∙◌}
use Rattle.std.proofs.lemmas.Result.{err_from_is_err_and}
use Rattle.qbf.specs.Reduce.{step}
use Rattle.reduction.specs.Numbered.{quantifiers_of}
use Rattle.reduction.proofs.Runs.{leads_settled, leads_stuck, leads_full, full_kept, leads_forced, forced_falls, splittable}
use Rattle.reduction.proofs.reducing.reduce.Goals as goal

pub returns-in-Settled : goal.returns-in-Settled
returns-in-Settled c =
    let so_far = c.loop-verdict.invariant in
    record { reduces = leads_settled _ _ _ _ _ so_far _ (c.in-Settled.ensures ∙ ap (step (quantifiers_of c.args.prefix.now)) c.set.ensures.clauses); ready = tt; keeps = so_far.keeps }

pub returns-in_err-rest-in-Forced : goal.returns-in_err-rest-in-Forced
returns-in_err-rest-in-Forced c =
    let so_far = c.loop-verdict.invariant in
    let p = err_from_is_err_and c.from_residual.result c.from_residual.ensures.1 in
    let set = c.in_err-rest-in-Forced.ensures in
    rw p.1 (record {
      reduces = leads_full _ _ _ _ _ so_far _ (c.in-Forced.ensures ∙ ap (step (quantifiers_of c.args.prefix.now)) c.set.ensures.clauses) _ set.keeps set.set;
      ready = tt;
      keeps = full_kept _ _ _ _ _ so_far _ (c.in-Forced.ensures ∙ ap (step (quantifiers_of c.args.prefix.now)) c.set.ensures.clauses) _ set.keeps;
    })

pub loop-verdict-smaller : goal.loop-verdict-smaller
loop-verdict-smaller c =
    let set = c.in_ok-rest-in-Forced.ensures in
    forced_falls _ _ _ _ _ c.loop-verdict.invariant _ (c.in-Forced.ensures ∙ ap (step (quantifiers_of c.args.prefix.now)) c.set.ensures.clauses) _ set.keeps _ set.set

pub loop-verdict-preserved : goal.loop-verdict-preserved
loop-verdict-preserved c =
    let so_far = c.loop-verdict.invariant in
    let set = c.in_ok-rest-in-Forced.ensures in
    leads_forced _ _ _ _ _ so_far _ (c.in-Forced.ensures ∙ ap (step (quantifiers_of c.args.prefix.now)) c.set.ensures.clauses) _ set.keeps _ set.set (set.ready (quantifiers_of c.args.prefix.now) so_far.ready)

pub returns-in-Stuck : goal.returns-in-Stuck
returns-in-Stuck c =
    let so_far = c.loop-verdict.invariant in
    record {
      reduces = leads_stuck _ _ _ _ _ so_far (c.in-Stuck.ensures ∙ ap (step (quantifiers_of c.args.prefix.now)) c.set.ensures.clauses);
      ready = splittable _ _ _ so_far.ready (c.in-Stuck.ensures ∙ ap (step (quantifiers_of c.args.prefix.now)) c.set.ensures.clauses);
      keeps = so_far.keeps;
    }
