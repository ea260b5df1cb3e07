-- What the answers of a new session mean.
use Rattle.std.proofs.Common.{◌≡◌, ℕ, ◌<◌, ◌≤◌, List, Some, Ok, Err, Result, sym, refl, ap, ◌∙◌, subst, arith}
use Rattle.qbf.specs.Memo.{NeverHolds}
use Rattle.qbf.specs.Nodes.{Crowded}
use Rattle.qbf.specs.Value.{value}
use Rattle.qbf.specs.Walk.{Walked, bare}
use Rattle.qbf.specs.Numbering.{capacity}
use Rattle.qbf.specs.Decision.{full, spent, too_deep, most_open}
use Rattle.formula.specs.Views.{Reading}
use Rattle.grammar.specs.declared.fault.ReadFault.{ReadFault}
use Rattle.grammar.specs.Grammar.{Format}
use Rattle.grammar.specs.Steps.{read_all}
use Rattle.grammar.proofs.Whole.{reading_stands_lem}
use Rattle.reduction.specs.Numbered.{quantified}
use Rattle.memos.specs.Keeps.{keeping_held, keeping_notes}
use Rattle.choosers.specs.Preferred.{first_picks}
use Rattle.ledger.specs.Answers.{LoadAnswer, loaded, unread, load_full, DecideAnswer, found, undecided, nothing_to_decide, allowance_too_large}
use Rattle.ledger.specs.Ledger.{Dealing, LoadedFormula, Ledger, fresh, most_allowed, formula_of, loads, decides}
use Rattle.ledger.specs.Promises.{walk_of, DecisionPromised, promised_verdict, promised_full, promised_spent, promised_deep, promised_nothing, promised_too_large, LoadPromised, promised_loaded, promised_unread, promised_load_full}
use Rattle.histories.specs.Histories.{AllHonest}
use Rattle.histories.proofs.Cases.{one_some, none_some, one_err, ok_err}
use Rattle.session.specs.declared.fault.Fault.{Fault}
use Rattle.session.specs.declared.fault.Fault.TheVariants.{Unread, TableFull}
use Rattle.session.specs.Answers.{load_result, decide_result}
use Rattle.zulfringa.specs.declared.checking.Checked.{Checked}
use Rattle.zulfringa.specs.Text.{text_value, text_walk, loading_sets, all_sets}
use Rattle.zulfringa.specs.Checks.{Checks}
use Rattle.zulfringa.specs.BySession.{ComesTo, not_loaded, not_decided, decided}
use Rattle.zulfringa.specs.Laws.{SessionsCheck}
use Rattle.theory.proofs.Forming.{value_formed}

-- what a load answers to a text
abbrev LoadMeans : List ℕ → LoadAnswer → Type 0
LoadMeans text (loaded v c) = (r : Reading) × (read_all text ≡ Ok r) × (v ≡ r.variables) × (c ≡ r.declared)
LoadMeans text (unread f) = Checks text (Err (Unread f))
LoadMeans text load_full = Checks text (Err TableFull)

format_of : (text : List ℕ) (r : Reading) → read_all text ≡ Ok r → Format text r
format_of text r e = ((reading_stands_lem text).accepted r).0 e

load_means : (text : List ℕ) (a : LoadAnswer) → LoadPromised (loads fresh (read_all text) a).weighed (read_all text) a → LoadMeans text a
load_means text a p = go a refl p
  where
    go : (b : LoadAnswer) → b ≡ a → LoadPromised (loads fresh (read_all text) a).weighed (read_all text) b → LoadMeans text b
    go b same (promised_loaded r e) = (r, e, refl, refl)
    go b same (promised_unread f e) = ((reading_stands_lem text).refused f).0 e
    go b same (promised_load_full r e crowded) =
        (r, format_of text r e, subst (λ (x : Result Reading ReadFault). Crowded capacity (loads fresh x a).weighed) e crowded)

-- the ledger after a text is loaded into a new session
abbrev after_load : Reading → Ledger
after_load r = record { prefix = Some r.prefix; formula = Some (formula_of r); weighed = loading_sets r }

-- what a decision answers of the formula
abbrev DecisionMeans : Reading → DecideAnswer → Type 0
DecisionMeans r (found b n) = (b ≡ text_value r) × (n ≤ (text_walk r).splits)
DecisionMeans r (undecided full n) = Crowded capacity (all_sets r) × (n ≤ (text_walk r).splits)
DecisionMeans r (undecided spent n) = (n ≡ most_allowed) × (most_allowed < (text_walk r).splits)
DecisionMeans r (undecided too_deep n) = (most_open < (text_walk r).depth) × (n ≤ (text_walk r).splits)
DecisionMeans r nothing_to_decide = ⊥
DecisionMeans r allowance_too_large = ⊥

abbrev PromisedThen : Ledger → DecideAnswer → Type 0
PromisedThen l d = DecisionPromised first_picks (NeverHolds keeping_held) l (decides first_picks l most_allowed l.formula).weighed most_allowed d

same_walk : (r : Reading) (f : LoadedFormula) → formula_of r ≡ f → walk_of first_picks (after_load r) f ≡ text_walk r
same_walk r f same = ap (λ (g : LoadedFormula). bare first_picks (quantified r.prefix) g.clauses) (sym same)

at_most : (r : Reading) (f : LoadedFormula) {n : ℕ} → formula_of r ≡ f → n ≤ (walk_of first_picks (after_load r) f).splits → n ≤ (text_walk r).splits
at_most r f same few = let w = ap (λ (x : Walked). x.splits) (same_walk r f same) in omega (arith, w, few)

decision_means : (r : Reading) (d : DecideAnswer) → PromisedThen (after_load r) d → DecisionMeans r d
decision_means r d (promised_verdict f out right few exact) =
    let same = one_some refl out.formula in (
      right ∙ ap (λ (g : LoadedFormula). value (quantified r.prefix) 0 g.clauses) (sym same) ∙ value_formed (quantified r.prefix) r.clauses,
      at_most r f same few.walked,
    )
decision_means r d (promised_full f out few crowded) = (crowded, at_most r f (one_some refl out.formula) few.walked)
decision_means r d (promised_spent f out at more) = (at, let w = ap (λ (x : Walked). x.splits) (same_walk r f (one_some refl out.formula)) in omega (arith, w, more))
decision_means r d (promised_deep f out few deep) =
    let same = one_some refl out.formula in
    (let w = ap (λ (x : Walked). x.depth) (same_walk r f same) in omega (arith, w, deep), at_most r f same few.walked)
decision_means r d (promised_nothing e allowed) = none_some e refl
decision_means r d (promised_too_large e) = omega (arith, e)

decision_checks : (text : List ℕ) (r : Reading) → read_all text ≡ Ok r → (d : DecideAnswer) → DecisionMeans r d → (e : Fault) → decide_result d ≡ Err e → Checks text (Err e)
decision_checks text r i (found b n) m e h = absurd (ok_err _ _ h)
decision_checks text r i (undecided full n) m e h = subst (λ (x : Fault). Checks text (Err x)) (one_err _ _ h) (r, format_of text r i, m)
decision_checks text r i (undecided spent n) m e h = subst (λ (x : Fault). Checks text (Err x)) (one_err _ _ h) (r, format_of text r i, m)
decision_checks text r i (undecided too_deep n) m e h = subst (λ (x : Fault). Checks text (Err x)) (one_err _ _ h) (r, format_of text r i, m)
decision_checks text r i nothing_to_decide m e h = absurd m
decision_checks text r i allowance_too_large m e h = absurd m

load_checks : (text : List ℕ) (a : LoadAnswer) → LoadMeans text a → (e : Fault) → load_result a ≡ Err e → Checks text (Err e)
load_checks text (loaded v c) m e h = absurd (ok_err _ _ h)
load_checks text (unread f) m e h = subst (λ (x : Fault). Checks text (Err x)) (one_err _ _ h) m
load_checks text load_full m e h = subst (λ (x : Fault). Checks text (Err x)) (one_err _ _ h) m

-- the decision after a load that was accepted
then_means : (text : List ℕ) (v c : ℕ) (r : Reading) → read_all text ≡ Ok r → (d : DecideAnswer) → PromisedThen (loads fresh (read_all text) (loaded v c)) d → DecisionMeans r d
then_means text v c r e d p = decision_means r d (subst (λ (x : Result Reading ReadFault). PromisedThen (loads fresh x (loaded v c)) d) e p)

-- by the way in which the dealings came to the answer
comes_means : (text : List ℕ) (history : List Dealing) (r : Result Checked Fault) → ComesTo text history r → AllHonest keeping_held keeping_notes first_picks history → Checks text r
comes_means text history r (not_loaded {a} {e} h) (one, none) = load_checks text a (load_means text a one.promised) e h
comes_means text history r (not_decided {v} {c} {d} {e} h) (two, (one, none)) =
    let read = load_means text (loaded v c) one.promised in
    decision_checks text read.0 read.1 d (then_means text v c read.0 read.1 d two.promised) e h
comes_means text history r (decided {v} {c} {n} {b}) (two, (one, none)) =
    let read = load_means text (loaded v c) one.promised in
    let means = then_means text v c read.0 read.1 (found b n) two.promised in
    record { formula = read.0; format = format_of text read.0 read.1; variables = read.2; declared = read.3; right = means.0; few = means.1 }

pub sessions_check : SessionsCheck
sessions_check text r s = comes_means text s.history r s.comes_to s.honest
