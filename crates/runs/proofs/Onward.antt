-- A run, one call after the other.
use Rattle.std.proofs.Common.{◌≡◌, ℕ, ◌+◌, ◌<◌, Bool, List, [], ◌∷◌, ◌++◌, length, get_or, take, vec_items, refl, ◌∙◌, subst}
use Rattle.std.proofs.lemmas.List.{take_more}
use Rattle.qbf.specs.declared.Candidate.{Candidate}
use Rattle.qbf.specs.Memo.{Pairs, Kept}
use Rattle.qbf.specs.Chooser.{Picks}
use Rattle.script.specs.declared.calls.Call.{Call}
use Rattle.ledger.specs.Ledger.{Dealing, load, decide, write, forget}
use Rattle.histories.specs.Standing.{Standing}
use Rattle.histories.specs.Histories.{Led}
use Rattle.histories.specs.Laws.{ByLedger}
use Rattle.histories.proofs.Leading.{histories_stand_lem, promises_kept}
use Rattle.session.specs.declared.session.Session.{Session}
use Rattle.session.specs.Calls.{LedTo}
use Rattle.session.specs.Views.{standing}
use Rattle.runs.specs.declared.answer.Answer.{Answer}
use Rattle.runs.specs.declared.transcript.Transcript.{Transcript}
use Rattle.runs.specs.Records.{AreDealings, none_yet, one_more}
use Rattle.runs.specs.Runs.{text_put, put_by, all_put, Ran}
use Rattle.runs.specs.Carried.{put_at, Carried}

-- the calls so far led to the session, which has the chooser that it was made with, with these answers and these texts
pub record SoFar {M C : Type 0} (held : M → Pairs) (notes : M → ℕ → Bool → M → Type 0) (picks : C → List Candidate → ℕ) (chooser : C) (calls : List Call) (s : Session M C) (answers : List Answer) (texts : List ℕ) : Type 0 where
  pub history : List Dealing
  pub same : s.chooser ≡ chooser
  pub led : LedTo held notes picks history s
  pub recorded : AreDealings calls answers history
  pub put : texts ≡ all_put (picks chooser) history

-- what is put where the session stands is what the ledger says
put_by_ledger : {M : Type 0} (held : M → Pairs) (pick : List Candidate → ℕ) (history : List Dealing) (s : Standing M) → ByLedger held pick history s → (d : Dealing) → put_at s d ≡ put_by pick history d
put_by_ledger held pick history s by (load text a) = refl
put_by_ledger held pick history s by (decide allowance a) = refl
put_by_ledger held pick history s by (write space a) = λ i. text_put (by.prefix i) (by.formula i) a
put_by_ledger held pick history s by forget = refl

module _ {M C : Type 0} (held : M → Pairs) (notes : M → ℕ → Bool → M → Type 0) (law : (m : M) (n : ℕ) (b : Bool) (a : M) → notes m n b a → Kept (held m) n b (held a))
    (picks : C → List Candidate → ℕ) (listed : (c : C) → Picks (picks c)) (chooser : C) where
  pub none_called : (s : Session M C) → s.chooser ≡ chooser → LedTo held notes picks [] s → SoFar held notes picks chooser [] s [] []
  none_called s same led = record { history = []; same = same; led = led; recorded = none_yet; put = refl }

  -- with the chooser that the session was made with
  led_by : (calls : List Call) (s : Session M C) (answers : List Answer) (texts : List ℕ) → (f : SoFar held notes picks chooser calls s answers texts) → Led held notes (picks chooser) f.history (standing s)
  led_by calls s answers texts f = subst (λ (c : C). Led held notes (picks c) f.history (standing s)) f.same f.led

  one_called : (calls : List Call) (s t : Session M C) (answers : List Answer) (texts more : List ℕ) (c : Call) (a : Answer) →
      SoFar held notes picks chooser calls s answers texts → Carried held notes picks s texts c a t more →
      SoFar held notes picks chooser (calls ++ c ∷ []) t (answers ++ a ∷ []) more
  one_called calls s t answers texts more c a f carried =
      let by = histories_stand_lem held notes law (picks chooser) (listed chooser) f.history (standing s) (led_by calls s answers texts f) in
      record {
        history = carried.dealing ∷ f.history;
        same = carried.dealt.chooser ∙ f.same;
        led = carried.dealt.leads f.history f.led;
        recorded = one_more f.recorded carried.is;
        put = carried.texts ∙ (λ i. f.put i ++ put_by_ledger held (picks chooser) f.history (standing s) by carried.dealing i);
      }

  -- the call at a place of the list
  pub call_at : (calls : List Call) (i : ℕ) (d : Call) → i < length calls → d ≡ get_or calls i d → (s t : Session M C) (answers noted : List Answer) (texts more : List ℕ) (a : Answer) →
      SoFar held notes picks chooser (take i calls) s answers texts → Carried held notes picks s texts d a t more → noted ≡ answers ++ a ∷ [] →
      SoFar held notes picks chooser (take (i + 1) calls) t noted more
  call_at calls i d h k s t answers noted texts more a f carried e =
      rw (take_more calls i d h, ← k, e) (one_called (take i calls) s t answers texts more d a f carried)

  pub all_called : (calls : List Call) (s : Session M C) (t : Transcript) → SoFar held notes picks chooser calls s (vec_items t.answers) (vec_items t.texts) → Ran held notes (picks chooser) calls t
  all_called calls s t f =
      let led = led_by calls s (vec_items t.answers) (vec_items t.texts) f in
      record {
        history = f.history;
        stands = standing s;
        recorded = f.recorded;
        led = led;
        honest = promises_kept held notes law (picks chooser) (listed chooser) f.history (standing s) led;
        texts = f.put;
      }
