use Rattle.std.proofs.Common.{◌≡◌, ℕ, ◌+◌, [], ◌∷◌, ◌++◌, ◌∙◌, refl, sym, ap, subst, length, arith}
use Rattle.std.proofs.lemmas.Iterator.{YieldsList-from_slice}
use Rattle.std.proofs.lemmas.Iterator.Adapters.{YieldsList-from_skip}
use Rattle.std.proofs.lemmas.Iterator.Consumers.{YieldsList-from_enumerate, YieldsList-turn, YieldsList-end}
use Rattle.std.proofs.lemmas.List.{length_push}
use denote.Enum.Bare.{differs_true, differs_false}
use Rattle.qbf.specs.contracts.Quantifier.{the_type}
use Rattle.reduction.specs.Tests.{candidate_by}
use Rattle.reduction.proofs.Listings.{Gathered, at_place, after_places, gathered_other, gathered_all, gathered_past, gathered_more}
use Rattle.reduction.proofs.block.block_from.Goals as goal

pub returns-then-ne : goal.returns-then-ne
returns-then-ne c =
    let here = at_place c.args.bindings.now c.args.first (length c.loop-place.yielded) (c.in-Some.place, c.in-Some.binding.now) (
    YieldsList-turn (YieldsList-from_skip c.args.first (YieldsList-from_enumerate (YieldsList-from_slice c.args.bindings.now cc) cc) cc)
    c.loop-place.yielded _ c.loop-place.yielded_by _ _ _ c.in-Some.is c.next.ensures.steps) in
    gathered_other _ _ _ _ _ c.loop-place.invariant here.0 (λ e. differs_true the_type _ _ (sym c.ne.ensures ∙ c.if-ne.true) (here.2 ∙ e))

pub loop-place-preserved : goal.loop-place-preserved
loop-place-preserved c =
    let here = at_place c.args.bindings.now c.args.first (length c.loop-place.yielded) (c.in-Some.place, c.in-Some.binding.now) (
    YieldsList-turn (YieldsList-from_skip c.args.first (YieldsList-from_enumerate (YieldsList-from_slice c.args.bindings.now cc) cc) cc)
    c.loop-place.yielded _ c.loop-place.yielded_by _ _ _ c.in-Some.is c.next.ensures.steps) in
    let counts = c.args.counts.now.at in
    let more : c.args.first + length c.loop-place.yielded + 1 ≡ c.args.first + length (c.loop-place.yielded ++ ((c.in-Some.place, c.in-Some.binding) ∷ [])) = omega (arith, length_push c.loop-place.yielded (c.in-Some.place, c.in-Some.binding)) in
    let same_block = sym here.2 ∙ differs_false the_type tt _ _ (sym c.ne.ensures ∙ c.if-ne.false) in
    let is = c.candidate_at-candidate.ensures ∙ ap (candidate_by counts) here.1 in
    subst (λ (i : ℕ). Gathered counts c.args.bindings.now c.args.first i c.loop-place.found) more
    (gathered_past _ _ _ _ _ c.loop-place.invariant here.0 c.requires.few same_block _ is _ c.occurs.ensures c.if-occurs.false)

pub loop-place-preserved-then-occurs : goal.loop-place-preserved-then-occurs
loop-place-preserved-then-occurs c =
    let here = at_place c.args.bindings.now c.args.first (length c.loop-place.yielded) (c.in-Some.place, c.in-Some.binding.now) (
    YieldsList-turn (YieldsList-from_skip c.args.first (YieldsList-from_enumerate (YieldsList-from_slice c.args.bindings.now cc) cc) cc)
    c.loop-place.yielded _ c.loop-place.yielded_by _ _ _ c.in-Some.is c.next.ensures.steps) in
    let counts = c.args.counts.now.at in
    let more : c.args.first + length c.loop-place.yielded + 1 ≡ c.args.first + length (c.loop-place.yielded ++ ((c.in-Some.place, c.in-Some.binding) ∷ [])) = omega (arith, length_push c.loop-place.yielded (c.in-Some.place, c.in-Some.binding)) in
    let same_block = sym here.2 ∙ differs_false the_type tt _ _ (sym c.ne.ensures ∙ c.if-ne.false) in
    let is = c.candidate_at-candidate.ensures ∙ ap (candidate_by counts) here.1 in
    subst (λ (i : ℕ). Gathered counts c.args.bindings.now c.args.first i (record { list = c.push.new.self; quantifier = c.loop-place.found.quantifier })) more
    (gathered_more _ _ _ _ _ c.loop-place.invariant here.0 c.requires.few same_block _ is _ c.occurs.ensures c.if-occurs.true _ c.push.ensures refl)

pub returns : goal.returns
returns c =
    let all = YieldsList-end (YieldsList-from_skip c.args.first (YieldsList-from_enumerate (YieldsList-from_slice c.args.bindings.now cc) cc) cc)
    c.loop-place.yielded _ c.loop-place.yielded_by _ _ c.in-None.is c.next.ensures.steps in
    gathered_all _ _ _ _ _ c.loop-place.invariant (after_places c.args.bindings.now c.args.first (length c.loop-place.yielded) all.1)
