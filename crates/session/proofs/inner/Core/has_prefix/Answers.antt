use Rattle.std.proofs.Common.{◌≡◌, Bool, false, Some, None, Decides, Option, sym, refl, ap, ◌∙◌, rules, tests, true≢false}
use Rattle.std.specs.Option.{MatchOption, option_copied}
use denote.Ref.{Bor}
use Rattle.formula.specs.declared.prefix.Prefix.{Prefix}
use Rattle.formula.specs.contracts.prefix.PrefixPartialEq.TheImpl as by_bindings
use Rattle.formula.specs.Views.{bindings_of}
use Rattle.formula.proofs.Same.{prefix_decides}
use Rattle.histories.proofs.Cases.{one_some, none_some}
use Rattle.session.specs.declared.scope.Scope.{Scope}
use Rattle.session.specs.Places.{prefix_in}
use Rattle.session.proofs.inner.Core.has_prefix.Goals as goal

told : (p : Prefix) (r : Bool) (P : Bor Scope → Type 0) → ((s : Bor Scope) → P s → r ≡ (by_bindings.ghosts).eq s.now.prefix p) →
    (o : Option (Bor Scope)) (q : Option Scope) → option_copied o ≡ q → MatchOption o (r ≡ false) P → Decides r (prefix_in q ≡ Some (bindings_of p))
told p r P is None q e h = (λ t. absurd (true≢false (sym t ∙ h)), λ t. absurd (none_some refl (ap prefix_in e ∙ t)))
told p r P is (Some s) q e h =
    let d = prefix_decides s.now.prefix p in
    let same = is s h in
    (λ t. ap prefix_in (sym e) ∙ ap Some (d.0 (sym same ∙ t)), λ t. same ∙ d.1 (one_some refl (ap prefix_in e ∙ t)))

pub returns : goal.returns
returns c = told c.args.prefix.now c.is_some_and.result _ (λ s h. search (rules, tests)) c.as_ref.result _ c.as_ref.ensures.value c.is_some_and.ensures
