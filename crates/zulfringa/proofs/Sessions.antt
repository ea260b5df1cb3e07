-- The dealings of a check, from the contracts of the session's calls.
use Rattle.std.proofs.Common.{ℕ, Bool, List, [], ◌∷◌, Ok, Err, sym, subst}
use Rattle.qbf.specs.declared.Candidate.{Candidate}
use Rattle.memos.specs.declared.keeping.Keeping.{Keeping}
use Rattle.memos.specs.Keeps.{keeping_held, keeping_notes}
use Rattle.choosers.specs.declared.first.First.{First}
use Rattle.choosers.specs.Preferred.{first_picks}
use Rattle.ledger.specs.Answers.{LoadAnswer, loaded, DecideAnswer, found}
use Rattle.ledger.specs.Ledger.{Dealing, load, decide, most_allowed}
use Rattle.session.specs.declared.answer.Loaded.{Loaded}
use Rattle.session.specs.declared.fault.Fault.{Fault}
use Rattle.session.specs.declared.session.Session.{Session}
use Rattle.session.specs.Views.{standing}
use Rattle.session.specs.Calls.{LedTo, Dealt, LoadDealt, DecideDealt}
use Rattle.session.proofs.Faults.{accepted_answer, verdict_answer}
use Rattle.zulfringa.specs.BySession.{not_loaded, not_decided, decided, BySession}

abbrev Checker : Type 0
Checker = Session Keeping First

abbrev picks : First → List Candidate → ℕ
picks c = first_picks

module _ (text : List ℕ) (s0 : Checker) (led : LedTo keeping_held keeping_notes picks [] s0) (s1 : Checker) where
  pub load_refused : (e : Fault) → LoadDealt keeping_held keeping_notes picks s0 text (Err e) s1 → BySession text (Err e)
  load_refused e l = record {
    history = load text l.answer ∷ [];
    stands = standing s1;
    led = l.dealt.leads [] led;
    honest = (l.dealt.honest [] led, tt);
    comes_to = not_loaded (sym l.told);
  }

  module _ (x : Loaded) (l : LoadDealt keeping_held keeping_notes picks s0 text (Ok x) s1) (s2 : Checker) where
    abbrev first : Dealing
    first = load text (loaded x.variables x.declared)

    loads : Dealt keeping_held keeping_notes picks s0 first s1
    loads = subst (λ (a : LoadAnswer). Dealt keeping_held keeping_notes picks s0 (load text a) s1) (accepted_answer l.answer x l.told) l.dealt

    then : LedTo keeping_held keeping_notes picks (first ∷ []) s1
    then = loads.leads [] led

    pub decision_refused : (e : Fault) → DecideDealt keeping_held keeping_notes picks s1 most_allowed (Err e) s2 → BySession text (Err e)
    decision_refused e d = record {
      history = decide most_allowed d.answer ∷ first ∷ [];
      stands = standing s2;
      led = d.dealt.leads (first ∷ []) then;
      honest = (d.dealt.honest (first ∷ []) then, (loads.honest [] led, tt));
      comes_to = not_decided (sym d.told);
    }

    pub decision_found : (b : Bool) (n : ℕ) → DecideDealt keeping_held keeping_notes picks s1 most_allowed (Ok (b, n)) s2 →
        BySession text (Ok (record { verdict = b; splits = n; variables = x.variables; declared = x.declared }))
    decision_found b n d =
        let dealt = subst (λ (a : DecideAnswer). Dealt keeping_held keeping_notes picks s1 (decide most_allowed a) s2) (verdict_answer d.answer b n d.told) d.dealt in
        record {
          history = decide most_allowed (found b n) ∷ first ∷ [];
          stands = standing s2;
          led = dealt.leads (first ∷ []) then;
          honest = (dealt.honest (first ∷ []) then, (loads.honest [] led, tt));
          comes_to = decided;
        }
