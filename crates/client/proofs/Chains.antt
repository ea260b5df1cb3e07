-- What two calls in a row come to.
use Rattle.std.proofs.Common.{◌≡◌, ℕ, ◌≤◌, Bool, List, ◌∷◌, IfOk, Ok, Err, Option, Result, sym, refl, ap, ◌∙◌, subst}
use Rattle.qbf.specs.declared.Candidate.{Candidate}
use Rattle.qbf.specs.Value.{value}
use Rattle.qbf.specs.Memo.{Pairs, NeverHolds, Retains}
use Rattle.formula.specs.declared.prefix.Binding.{Binding}
use Rattle.formula.specs.Views.{Reading}
use Rattle.grammar.specs.declared.fault.ReadFault.{ReadFault}
use Rattle.grammar.specs.Grammar.{Format}
use Rattle.grammar.specs.Steps.{read_all}
use Rattle.grammar.proofs.Whole.{reading_stands_lem}
use Rattle.reduction.specs.Numbered.{quantified}
use Rattle.theory.proofs.Forming.{value_formed}
use Rattle.ledger.specs.Answers.{LoadAnswer, loaded, DecideAnswer}
use Rattle.ledger.specs.Ledger.{Dealing, load, decide, LoadedFormula, Ledger, quantifiers, most_allowed, loads, ledger}
use Rattle.ledger.specs.Promises.{DecisionPromised, promised_verdict, promised_full, promised_spent, promised_deep, promised_nothing, promised_too_large, LoadPromised, promised_loaded, promised_unread, promised_load_full}
use Rattle.histories.proofs.Cases.{one_some, ok_err}
use Rattle.histories.proofs.Ledgers.{under_prefix}
use Rattle.session.specs.declared.answer.Loaded.{Loaded}
use Rattle.session.specs.declared.fault.Fault.{Fault}
use Rattle.session.specs.declared.session.Session.{Session}
use Rattle.session.specs.Answers.{load_result, decide_result}
use Rattle.session.specs.Calls.{LedTo, LoadDealt, DecideDealt}
use Rattle.session.proofs.Faults.{verdict_answer}
use Rattle.client.specs.Facts.{ValueOf, Again}

-- a decision of the formula that a text was just loaded with
module _ {pick : List Candidate → ℕ} {never_holds : Type 0} {weighed : List (List (List ℕ))} {allowance : ℕ} (l : Ledger) (r : Reading) (v c : ℕ) where
  verdict_value : (d : DecideAnswer) → DecisionPromised pick never_holds (loads l (Ok r) (loaded v c)) weighed allowance d → IfOk (decide_result d) (λ a. a.0 ≡ value (quantified r.prefix) 0 r.clauses)
  verdict_value d (promised_verdict f out right few exact) =
      let same = one_some refl out.formula in
      right
      ∙ ap (λ (o : Option (List Binding)). value (quantifiers o) 0 f.clauses) (under_prefix l r.prefix)
      ∙ ap (λ (g : LoadedFormula). value (quantified r.prefix) 0 g.clauses) (sym same)
      ∙ value_formed (quantified r.prefix) r.clauses
  verdict_value d (promised_full f out few crowded) = tt
  verdict_value d (promised_spent f out at more) = tt
  verdict_value d (promised_deep f out few deep) = tt
  verdict_value d (promised_nothing e allowed) = tt
  verdict_value d (promised_too_large e) = tt

made_value : (text : List ℕ) (r : Reading) → Format text r → (x : Result (Bool × ℕ) Fault) → IfOk x (λ a. a.0 ≡ value (quantified r.prefix) 0 r.clauses) → IfOk x (λ a. ValueOf text a.0)
made_value text r format (Ok a) h = (r, format, h)
made_value text r format (Err e) h = tt

text_value : {pick : List Candidate → ℕ} {never_holds : Type 0} {lw dw : List (List (List ℕ))} {allowance : ℕ} (l : Ledger) (text : List ℕ) (a b : LoadAnswer) (x : Loaded) → a ≡ b → Ok x ≡ load_result a →
    LoadPromised lw (read_all text) a → (d : DecideAnswer) → DecisionPromised pick never_holds (loads l (read_all text) b) dw allowance d → IfOk (decide_result d) (λ y. ValueOf text y.0)
text_value {pick} {never_holds} {lw} {dw} {allowance} l text a b x same ok (promised_loaded r e) d p =
    let at = subst (λ (y : Result Reading ReadFault). DecisionPromised pick never_holds (loads l y b) dw allowance d) e p in
    let by = subst (λ (z : LoadAnswer). DecisionPromised pick never_holds (loads l (Ok r) z) dw allowance d) (sym same) at in
    made_value text r (((reading_stands_lem text).accepted r).0 e) (decide_result d) (verdict_value l r r.variables r.declared d by)
text_value l text a b x same ok (promised_unread f e) d p = absurd (ok_err _ _ ok)
text_value l text a b x same ok (promised_load_full r e crowded) d p = absurd (ok_err _ _ ok)

module _ {M C : Type 0} (held : M → Pairs) (notes : M → ℕ → Bool → M → Type 0) (picks : C → List Candidate → ℕ) where
  -- a verdict just after an accepted load is the value of the text's formula
  pub loaded_value : (history : List Dealing) (s1 s2 s3 : Session M C) → LedTo held notes picks history s1 → (text : List ℕ) (x : Loaded) → LoadDealt held notes picks s1 text (Ok x) s2 →
      (allowance : ℕ) (r : Result (Bool × ℕ) Fault) → DecideDealt held notes picks s2 allowance r s3 → IfOk r (λ a. ValueOf text a.0)
  loaded_value history s1 s2 s3 led text x l allowance r d =
      let then = l.dealt.leads history led in
      subst (λ (y : Result (Bool × ℕ) Fault). IfOk y (λ a. ValueOf text a.0)) (sym d.told)
      (text_value (ledger (picks s1.chooser) history) text l.answer l.answer x refl l.told (l.dealt.honest history led).promised d.answer
      (subst (λ (z : C). DecisionPromised (picks z) (NeverHolds held) (ledger (picks z) (load text l.answer ∷ history)) (ledger (picks z) (decide allowance d.answer ∷ (load text l.answer ∷ history))).weighed allowance d.answer) l.dealt.chooser
      (d.dealt.honest (load text l.answer ∷ history) then).promised))

-- two decisions in a row, with a memo that holds what was just noted
pub decided_again : {M C : Type 0} (held : M → Pairs) (notes : M → ℕ → Bool → M → Type 0) (picks : C → List Candidate → ℕ) → Retains held notes → (history : List Dealing) (s1 s2 s3 : Session M C) → LedTo held notes picks history s1 →
    (allowance next : ℕ) (r t : Result (Bool × ℕ) Fault) → DecideDealt held notes picks s1 allowance r s2 → DecideDealt held notes picks s2 next t s3 → next ≤ most_allowed → Again r t
decided_again held notes picks retains history s1 s2 s3 led allowance next r t first second allowed b n e =
    let found_first = verdict_answer first.answer b n (sym e ∙ first.told) in
    let then = first.dealt.leads history led in
    let repeated = (second.dealt.honest (decide allowance first.answer ∷ history) then).repeated in
    second.told ∙ ap decide_result (repeated retains allowance b n history (ap (λ (a : DecideAnswer). decide allowance a ∷ history) found_first) allowed)
