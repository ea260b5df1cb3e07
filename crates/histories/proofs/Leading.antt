-- What a history leads to, one dealing after the other.
use Rattle.std.proofs.Common.{◌≡◌, ℕ, Bool, List, [], ◌∷◌, Some, None, Ok, Err, Option, Result, sym, refl, ap, ◌∙◌, subst, arith}
use Rattle.std.specs.List.{AllByRecursion}
use Rattle.std.proofs.lemmas.Bool.Decides.{nat_tests}
use Rattle.qbf.specs.declared.Candidate.{Candidate}
use Rattle.qbf.specs.Lists.{Distinct}
use Rattle.qbf.specs.Memo.{Pairs, Kept, Empty, Retains}
use Rattle.qbf.specs.Chooser.{Picks}
use Rattle.qbf.specs.Numbering.{Numbering, Among}
use Rattle.qbf.specs.Decision.{Ending, verdict, refused, Decides, Right}
use Rattle.formula.specs.declared.prefix.Binding.{Binding}
use Rattle.formula.specs.Views.{Reading}
use Rattle.grammar.specs.declared.fault.ReadFault.{ReadFault}
use Rattle.grammar.specs.Steps.{read_all}
use Rattle.theory.specs.Repeating.{Settled}
use Rattle.theory.proofs.Deciding.{right_later}
use Rattle.theory.proofs.Tables.{stops_gains}
use Rattle.theory.proofs.Repeating.{decides_grows, decision_settles, decision_repeats}
use Rattle.ledger.specs.Answers.{LoadAnswer, loaded, unread, load_full, DecideAnswer, found, nothing_to_decide, allowance_too_large, answer, WriteAnswer}
use Rattle.ledger.specs.Ledger.{Dealing, load, decide, write, LoadedFormula, Ledger, quantifiers, under, loads, ledger}
use Rattle.ledger.specs.Promises.{CarriedOut, promised_unread, promised_nothing, promised_too_large, promised_written, promised_short, promised_unwritten}
use Rattle.ledger.proofs.Keeping.{load_keeps, decision_keeps}
use Rattle.histories.specs.Standing.{Standing, Fresh, Begins, same_prefix, other_prefix}
use Rattle.histories.specs.Dealings.{Deals, deals_unread, deals_loaded, deals_load_full, deals_decided, deals_undecided, deals_too_large, deals_written, deals_short, deals_unwritten, deals_forgot}
use Rattle.histories.specs.Histories.{Led, led_new, led_on, Honest, AllHonest}
use Rattle.histories.specs.Laws.{Agrees, HistoriesStand, PromisesKept, DealingsHonest}
use Rattle.histories.proofs.Cases.{one_some, none_some}
use Rattle.histories.proofs.Ledgers.{under_same, under_other, decides_loaded, decides_nothing, decides_too_large}

empty_right : (o : Option (List Binding)) (t : Numbering) (pairs : Pairs) → Empty pairs → Right (quantifiers o) t pairs
empty_right o t pairs empty n b e = absurd (none_some (empty n) e)

module _ {M : Type 0} (held : M → Pairs) where
  -- where a load begins, by the ledger under its prefix
  begins_agrees : (l : Ledger) (p : List Binding) {s b : Standing M} → Agrees held l s → Begins held p s b → Agrees held (under l p) b
  begins_agrees l p {s} a (same_prefix e) = subst (λ (m : Ledger). Agrees held m s) (sym (under_same l p (sym a.prefix ∙ e))) a
  begins_agrees l p {s} a (other_prefix {cleared} ne empty) =
      subst (λ (m : Ledger). Agrees held m (record { prefix = Some p; formula = None; table = []; memo = cleared })) (sym (under_other l p (λ e. ne (a.prefix ∙ e))))
      (record { prefix = refl; formula = refl; weighed = tt; apart = tt; right = empty_right (Some p) [] (held cleared) empty })

  fresh_agrees : {s : Standing M} → Fresh held s → Agrees held (record { prefix = None; formula = None; weighed = [] }) s
  fresh_agrees {s} f = record {
    prefix = f.prefix;
    formula = f.formula;
    weighed = subst (λ (t : Numbering). AllByRecursion (Among []) t) (sym f.table) tt;
    apart = subst (λ (t : Numbering). Distinct t) (sym f.table) tt;
    right = empty_right s.prefix s.table (held s.memo) f.memo;
  }

answer_found : (e : Ending) (n m : ℕ) (b : Bool) → answer e n ≡ found b m → e ≡ verdict b
answer_found (verdict c) n m b e = let z : c ≡ b = cc in ap verdict z
answer_found (refused f) n m b e = absurd (grind (arith, nat_tests))

newest_answer : (a b : ℕ) (x y : DecideAnswer) (h k : List Dealing) → decide a x ∷ h ≡ decide b y ∷ k → x ≡ y
newest_answer a b x y h k e = cc

module _ {M : Type 0} (held : M → Pairs) (notes : M → ℕ → Bool → M → Type 0) (law : (m : M) (n : ℕ) (b : Bool) (a : M) → notes m n b a → Kept (held m) n b (held a)) (pick : List Candidate → ℕ) (picks : Picks pick) where
  -- a verdict on the loaded formula is settled
  pub record SettledAt (s : Standing M) (b : Bool) : Type 0 where
    pub formula : LoadedFormula
    pub there : s.formula ≡ Some formula
    pub settled : Settled (quantifiers s.prefix) formula.clauses b (held s.memo) s.table

  -- the newest dealing, if it was a verdict, is settled
  abbrev Settles : List Dealing → Standing M → Type 0
  Settles history s = Retains held notes → (allowance : ℕ) (b : Bool) (n : ℕ) (earlier : List Dealing) → history ≡ decide allowance (found b n) ∷ earlier → SettledAt s b

  pub record Sound (history : List Dealing) (s : Standing M) : Type 0 where
    pub agrees : Agrees held (ledger pick history) s
    pub settles : Settles history s

  -- and what a dealing more comes to
  record Step (history : List Dealing) (d : Dealing) (t : Standing M) : Type 0 where
    sound : Sound (d ∷ history) t
    honest : Honest held notes pick history d

  not_decided : {d : Dealing} {history : List Dealing} {t : Standing M} → ((allowance : ℕ) (a : DecideAnswer) → d ≡ decide allowance a → ⊥) → Settles (d ∷ history) t
  not_decided other retains allowance b n earlier e = absurd (other allowance (found b n) (cc))

  -- a load leaves no verdict behind
  loads_settle : {text : List ℕ} {a : LoadAnswer} {history : List Dealing} {t : Standing M} → Settles (load text a ∷ history) t
  loads_settle = not_decided (λ allowance a e. grind (arith, nat_tests))

  loads_in : (history : List Dealing) (text : List ℕ) (a : LoadAnswer) (x : Result Reading ReadFault) (t : Standing M) → read_all text ≡ x → Agrees held (loads (ledger pick history) x a) t → Agrees held (ledger pick (load text a ∷ history)) t
  loads_in history text a x t e agrees = subst (λ (y : Result Reading ReadFault). Agrees held (loads (ledger pick history) y a) t) (sym e) agrees

  -- a writing changes nothing
  writes_sound : {history : List Dealing} {s : Standing M} {space : ℕ} {w : WriteAnswer} → Sound history s → Sound (write space w ∷ history) s
  writes_sound sound = record {
    agrees = sound.agrees;
    settles = not_decided (λ allowance a e. grind (arith, nat_tests));
  }

  step : {history : List Dealing} {s t : Standing M} {d : Dealing} → Sound history s → Deals held notes pick s d t → Step history d t
  step {history} {s} sound (deals_unread {text} {fault} e) = record {
    sound = record { agrees = loads_in history text (unread fault) (Err fault) s e sound.agrees; settles = loads_settle };
    honest = record { promised = promised_unread fault e; repeated = tt };
  }
  step {history} {s} sound (deals_loaded {text} {r} {b} {after} e begins makes) =
      let l : Ledger = ledger pick history in
      let begun = begins_agrees held l r.prefix sound.agrees begins in
      let kept = (load_keeps l text r e b.table after begun.weighed).0 makes in
      let weighed = subst (λ (y : Result Reading ReadFault). AllByRecursion (Among (loads l y (loaded r.variables r.declared)).weighed) after) e kept.weighed in
      record {
        sound = record {
          agrees = loads_in history text (loaded r.variables r.declared) (Ok r) _ e (record {
            prefix = begun.prefix;
            formula = refl;
            weighed = weighed;
            apart = makes.apart;
            right = right_later (quantifiers b.prefix) (held b.memo) begun.right makes.gains;
          });
          settles = loads_settle;
        };
        honest = record { promised = kept.promised; repeated = tt };
      }
  step {history} {s} sound (deals_load_full {text} {r} {b} {after} e begins stops) =
      let l : Ledger = ledger pick history in
      let begun = begins_agrees held l r.prefix sound.agrees begins in
      let kept = (load_keeps l text r e b.table after begun.weighed).1 stops in
      let weighed = subst (λ (y : Result Reading ReadFault). AllByRecursion (Among (loads l y load_full).weighed) after) e kept.weighed in
      record {
        sound = record {
          agrees = loads_in history text load_full (Ok r) _ e (record {
            prefix = begun.prefix;
            formula = begun.formula;
            weighed = weighed;
            apart = stops.apart;
            right = right_later (quantifiers b.prefix) (held b.memo) begun.right (stops_gains stops).0;
          });
          settles = loads_settle;
        };
        honest = record { promised = kept.promised; repeated = tt };
      }
  step {history} {s} sound (deals_decided {allowance} {splits} {f} {e} {after} {kept} there allowed d) =
      let l : Ledger = ledger pick history in
      let a = sound.agrees in
      let out : CarriedOut l allowance f = record { formula = sym a.formula ∙ there; allowed = allowed } in
      let under_prefix : Right (quantifiers l.prefix) s.table (held s.memo) = subst (λ (o : Option (List Binding)). Right (quantifiers o) s.table (held s.memo)) a.prefix a.right in
      let by_ledgers = subst (λ (o : Option (List Binding)). Decides held notes (quantifiers o) pick allowance 0 0 s.table s.memo f.clauses e splits after kept) a.prefix d in
      let keeps = decision_keeps held notes law pick picks l f allowance splits out s.table after s.memo kept e a.weighed under_prefix by_ledgers in
      let same = decides_loaded pick l allowance l.formula in
      record {
        sound = record {
          agrees = record {
            prefix = a.prefix ∙ sym same.0;
            formula = a.formula ∙ sym same.1;
            weighed = keeps.weighed;
            apart = (decides_grows d).apart a.apart;
            right = subst (λ (o : Option (List Binding)). Right (quantifiers o) after (held kept)) (sym a.prefix) keeps.right;
          };
          settles = λ retains before b n earlier same_dealing.
              let ends = answer_found e splits n b (newest_answer allowance before (answer e splits) (found b n) history earlier same_dealing) in
              record {
                formula = f;
                there = there;
                settled = decision_settles held notes retains pick (quantifiers s.prefix) allowance 0 0 splits s.table after s.memo kept f.clauses b a.apart
                    (subst (λ (x : Ending). Decides held notes (quantifiers s.prefix) pick allowance 0 0 s.table s.memo f.clauses x splits after kept) ends d);
              };
        };
        honest = record {
          promised = keeps.promised;
          repeated = λ retains before b n earlier same_history allowed_again.
              let was = sound.settles retains before b n earlier same_history in
              let one : was.formula ≡ f = one_some was.there there in
              let settled = subst (λ (g : LoadedFormula). Settled (quantifiers s.prefix) g.clauses b (held s.memo) s.table) one was.settled in
              let again = decision_repeats held notes pick (quantifiers s.prefix) allowance 0 0 splits s.table after s.memo kept f.clauses b e settled d in
              ap (λ (x : Ending). answer x splits) again.ending ∙ ap (found b) again.splits_same;
        };
      }
  step {history} {s} sound (deals_undecided {allowance} e allowed) =
      let a = sound.agrees in
      let same = decides_nothing pick (ledger pick history) allowance (ledger pick history).formula (sym a.formula ∙ e) in
      record {
        sound = record {
          agrees = subst (λ (l : Ledger). Agrees held l s) (sym same) a;
          settles = λ retains before b n earlier f. absurd (let x = newest_answer allowance before nothing_to_decide (found b n) history earlier f in grind (arith, nat_tests, x));
        };
        honest = record {
          promised = promised_nothing (sym a.formula ∙ e) allowed;
          repeated = λ retains before b n earlier f again. absurd (none_some e (sound.settles retains before b n earlier f).there);
        };
      }
  step {history} {s} sound (deals_too_large {allowance} e) =
      let a = sound.agrees in
      let same = decides_too_large pick (ledger pick history) allowance (ledger pick history).formula e in
      record {
        sound = record {
          agrees = subst (λ (l : Ledger). Agrees held l s) (sym same) a;
          settles = λ retains before b n earlier f. absurd (let x = newest_answer allowance before allowance_too_large (found b n) history earlier f in grind (arith, nat_tests, x));
        };
        honest = record { promised = promised_too_large e; repeated = λ retains before b n earlier f again. absurd (omega (arith, e, again)) };
      }
  step {history} {s} sound (deals_written {space} {p} {f} ep ef fits) =
      let a = sound.agrees in
      record {
        sound = writes_sound sound;
        honest = record { promised = promised_written p f (sym a.prefix ∙ ep) (sym a.formula ∙ ef) fits; repeated = tt };
      }
  step {history} {s} sound (deals_short {space} {p} {f} ep ef short) =
      let a = sound.agrees in
      record {
        sound = writes_sound sound;
        honest = record { promised = promised_short p f (sym a.prefix ∙ ep) (sym a.formula ∙ ef) short; repeated = tt };
      }
  step {history} {s} sound (deals_unwritten {space} e) =
      record { sound = writes_sound sound; honest = record { promised = promised_unwritten (sym sound.agrees.formula ∙ e); repeated = tt } }
  step {history} {s} sound (deals_forgot {t} fresh) = record {
    sound = record { agrees = fresh_agrees held fresh; settles = not_decided (λ allowance a e. grind (arith, nat_tests)) };
    honest = record { promised = tt; repeated = tt };
  }

  led_sound : {history : List Dealing} {s : Standing M} → Led held notes pick history s → Sound history s
  led_sound (led_new f) = record { agrees = fresh_agrees held f; settles = λ r a b n earlier e. absurd (grind (arith, nat_tests)) }
  led_sound (led_on l d) = (step (led_sound l) d).sound

  led_honest : {history : List Dealing} {s : Standing M} → Led held notes pick history s → AllHonest held notes pick history
  led_honest (led_new f) = tt
  led_honest (led_on l d) = ((step (led_sound l) d).honest, led_honest l)

  pub deals_honest : {history : List Dealing} {s t : Standing M} {d : Dealing} → Led held notes pick history s → Deals held notes pick s d t → Honest held notes pick history d
  deals_honest l d = (step (led_sound l) d).honest

pub histories_stand_lem : {M : Type 0} (held : M → Pairs) (notes : M → ℕ → Bool → M → Type 0) (law : (m : M) (n : ℕ) (b : Bool) (a : M) → notes m n b a → Kept (held m) n b (held a)) → HistoriesStand held notes
histories_stand_lem held notes law pick picks history s l = (led_sound held notes law pick picks l).agrees

pub promises_kept : {M : Type 0} (held : M → Pairs) (notes : M → ℕ → Bool → M → Type 0) (law : (m : M) (n : ℕ) (b : Bool) (a : M) → notes m n b a → Kept (held m) n b (held a)) → PromisesKept held notes
promises_kept held notes law pick picks history s l = led_honest held notes law pick picks l

pub dealings_honest : {M : Type 0} (held : M → Pairs) (notes : M → ℕ → Bool → M → Type 0) (law : (m : M) (n : ℕ) (b : Bool) (a : M) → notes m n b a → Kept (held m) n b (held a)) → DealingsHonest held notes
dealings_honest held notes law pick picks history s t d l deals = deals_honest held notes law pick picks l deals
