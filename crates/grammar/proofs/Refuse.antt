-- Reading word by word refuses a text exactly as the rules say.
use Rattle.std.proofs.Common.{◌≡◌, ℕ, ◌<◌, ◌≤◌, Bool, true, false, cond, ◌&&◌, eqb, ltb, List, [], ◌∷◌, ◌++◌, length, Ok, Err, sym, refl, ap, ◌∙◌, subst, inr, ⊎_elim, append-nil, arith}
use Rattle.std.proofs.lemmas.Bool.{false≢true, cond-true, cond-false, ltb-true, ltb-false, lt-ltb, le-ltb, not-true, not_from_false}
use Rattle.words.specs.Words.{Token, words_of}
use Rattle.grammar.specs.declared.fault.ReadFault.{ReadFault}
use Rattle.grammar.specs.declared.fault.Rule.{Rule}
use Rattle.grammar.specs.declared.fault.Rule.TheVariants.{TooLong, Misplaced, OutOfRange, BoundTwice, Unbound, ClauseCount}
use Rattle.grammar.specs.declared.place.Place.{Place}
use Rattle.grammar.specs.declared.place.Place.TheVariants.{Problem}
use Rattle.grammar.specs.Places.{Draft, empty, Goes, Leads}
use Rattle.grammar.specs.Places.Leads.{here, on}
use Rattle.grammar.specs.Refusals.{breaks, breaks_at_end, rests, ended, Broken, Refused}
use Rattle.grammar.specs.Refusals.Broken.{too_long, at_word, at_end}
use Rattle.grammar.specs.Rules.{number_of}
use Rattle.grammar.specs.Steps.{Next, stepped, refuse, finish, after, read_from, read_all}
use Rattle.grammar.proofs.Judged.{step_refuses, step_broken}
use Rattle.grammar.proofs.Moves.{goes_step}
use Rattle.grammar.proofs.Stands.{step_goes}

abbrev fault_at : Rule → ℕ → ReadFault
fault_at r at = record { rule = r; at = at }

-- words that stand right are read through
pub through : {p q : Place} {d e : Draft} {ws : List Token} → Leads p d ws q e → (text : List ℕ) (more : List Token) → read_from p d text (ws ++ more) ≡ read_from q e text more
through here text more = refl
through (on {w = w} {ws = ws} step rest) text more =
    ap (λ (n : Next). after n w.at (λ q e. read_from q e text (ws ++ more))) (goes_step step) ∙ through rest text more

-- the end
finish_refuses : (s : Rule) (p : Place) (d : Draft) (text : List ℕ) → breaks_at_end s p d text ≡ true → (r : Rule) × (finish p d text ≡ refuse r (length text)) × (number_of r ≤ number_of s)
finish_refuses TooLong p d text e = absurd (false≢true e)
finish_refuses Misplaced p d text e = (Misplaced, cond-false _ _ _ (not-true _ e), omega arith)
finish_refuses OutOfRange p d text e = absurd (false≢true e)
finish_refuses BoundTwice p d text e = absurd (false≢true e)
finish_refuses Unbound p d text e = absurd (false≢true e)
finish_refuses ClauseCount p d text e = on_end (rests p && ended text) refl
  where
    on_end : (t : Bool) → (rests p && ended text) ≡ t → (r : Rule) × (finish p d text ≡ refuse r (length text)) × (number_of r ≤ 6)
    on_end true t = (ClauseCount, cond-true _ _ _ t ∙ cond-true _ _ _ e, omega arith)
    on_end false t = (Misplaced, cond-false _ _ _ t, omega arith)

finish_broken : (p : Place) (d : Draft) (text : List ℕ) (e : ReadFault) → finish p d text ≡ Err e → (breaks_at_end e.rule p d text ≡ true) × (e.at ≡ length text)
finish_broken p d text e h = on_end (rests p && ended text) refl
  where
    told : (r : Rule) → breaks_at_end r p d text ≡ true → finish p d text ≡ refuse r (length text) → (breaks_at_end e.rule p d text ≡ true) × (e.at ≡ length text)
    told r b f = let z : fault_at r (length text) ≡ e = cc in subst (λ (x : ReadFault). (breaks_at_end x.rule p d text ≡ true) × (x.at ≡ length text)) z (b, refl)

    on_count : (t : Bool) → ltb d.finished d.declared ≡ t → (rests p && ended text) ≡ true → (breaks_at_end e.rule p d text ≡ true) × (e.at ≡ length text)
    on_count true t k = told ClauseCount t (cond-true _ _ _ k ∙ cond-true _ _ _ t)
    on_count false t k = let f = sym (cond-true _ _ _ k ∙ cond-false _ _ _ t) ∙ h in cc

    on_end : (t : Bool) → (rests p && ended text) ≡ t → (breaks_at_end e.rule p d text ≡ true) × (e.at ≡ length text)
    on_end true t = on_count (ltb d.finished d.declared) refl t
    on_end false t = told Misplaced (not_from_false _ t) (cond-false _ _ _ t)

-- where and why the words from a place on are refused
data Fails (text : List ℕ) (p : Place) (d : Draft) (ws : List Token) (e : ReadFault) : Type 0 where
  fails_word : {q : Place} {f : Draft} (before : List Token) (w : Token) (rest : List Token) → ws ≡ before ++ w ∷ rest → Leads p d before q f → breaks e.rule q f w ≡ true → e.at ≡ w.at → Fails text p d ws e
  fails_end : {q : Place} {f : Draft} → Leads p d ws q f → breaks_at_end e.rule q f text ≡ true → e.at ≡ length text → Fails text p d ws e

fails : (text : List ℕ) (ws : List Token) (p : Place) (d : Draft) (e : ReadFault) → read_from p d text ws ≡ Err e → Fails text p d ws e
fails text [] p d e h = let f = finish_broken p d text e h in fails_end here f.0 f.1
fails text (w ∷ ws) p d e h = go (fails text ws) (stepped p d w) refl
  where
    longer : (q : Place) (f : Draft) → Goes p d w q f → Fails text q f ws e → Fails text p d (w ∷ ws) e
    longer q f g (fails_word before u rest is leads b at) = fails_word (w ∷ before) u rest (ap (λ (l : List Token). w ∷ l) is) (on g leads) b at
    longer q f g (fails_end leads b at) = fails_end (on g leads) b at

    go : ((q : Place) (f : Draft) (e : ReadFault) → read_from q f text ws ≡ Err e → Fails text q f ws e) → (n : Next) → stepped p d w ≡ n → Fails text p d (w ∷ ws) e
    go ih (Ok x) is = longer x.0 x.1 (step_goes p x.0 d x.1 w is) (ih x.0 x.1 e (sym (ap (λ (n : Next). after n w.at (λ q f. read_from q f text ws)) is) ∙ h))
    go ih (Err r) is =
        let f : refuse r w.at ≡ Err e = sym (ap (λ (n : Next). after n w.at (λ q f. read_from q f text ws)) is) ∙ h in
        let z : fault_at r w.at ≡ e = cc in
        fails_word [] w ws refl here (subst (λ (x : ReadFault). breaks x.rule p d w ≡ true) z (step_broken r p d w is)) (sym (ap (λ (x : ReadFault). x.at) z))

in_limit : (text : List ℕ) → length text ≤ 60000 → read_all text ≡ read_from Problem empty text (words_of text)
in_limit text h = cond-false _ _ _ (le-ltb 60000 (length text) h)

over_limit : (text : List ℕ) → 60000 < length text → read_all text ≡ refuse TooLong 60000
over_limit text h = cond-true _ _ _ (lt-ltb 60000 (length text) h)

broken_by : (text : List ℕ) (e : ReadFault) → read_all text ≡ Err e → Broken text e.rule e.at
broken_by text e h = on_length (ltb 60000 (length text)) refl
  where
    in_text : length text ≤ 60000 → Fails text Problem empty (words_of text) e → Broken text e.rule e.at
    in_text short (fails_word before w rest is leads b at) = subst (Broken text e.rule) (sym at) (at_word before w rest short is leads b)
    in_text short (fails_end leads b at) = subst (Broken text e.rule) (sym at) (at_end short leads b)

    on_length : (t : Bool) → ltb 60000 (length text) ≡ t → Broken text e.rule e.at
    on_length true t =
        let long = ltb-true 60000 (length text) t in
        let f = sym (over_limit text long) ∙ h in
        let z : fault_at TooLong 60000 ≡ e = cc in
        subst (λ (x : ReadFault). Broken text x.rule x.at) z (too_long long)
    on_length false t =
        let short = ltb-false 60000 (length text) t in
        in_text short (fails text (words_of text) Problem empty e (sym (in_limit text short) ∙ h))

-- a broken rule is told, or one with a lower number at the same offset
pub refused_by : (text : List ℕ) (s : Rule) (k : ℕ) → Broken text s k → (r : Rule) × (read_all text ≡ refuse r k) × (number_of r ≤ number_of s)
refused_by text s k (too_long long) = (TooLong, over_limit text long, omega arith)
refused_by text s k (at_word {p = p} {d = d} before w rest short is leads b) =
    let r = step_refuses s p d w b in (
      r.0,
      in_limit text short ∙ ap (read_from Problem empty text) is ∙ through leads text (w ∷ rest) ∙ ap (λ (n : Next). after n w.at (λ q f. read_from q f text rest)) r.1,
      r.2,
    )
refused_by text s k (at_end {p = p} {d = d} short leads b) =
    let r = finish_refuses s p d text b in (
      r.0,
      in_limit text short ∙ ap (read_from Problem empty text) (sym (append-nil (words_of text))) ∙ through leads text [] ∙ r.1,
      r.2,
    )

pub err_refused : (text : List ℕ) (e : ReadFault) → read_all text ≡ Err e → Refused text e.rule e.at
err_refused text e h = record {
  broken = broken_by text e h;
  least = λ s k b.
      let r = refused_by text s k b in
      let z : fault_at r.0 k ≡ e = cc (r.1) in
      let a : e.at ≡ k = sym (ap (λ (x : ReadFault). x.at) z) in
      let n : number_of e.rule ≤ number_of s = subst (λ (x : ReadFault). number_of x.rule ≤ number_of s) z r.2 in
      inr (a, n);
}

-- the rule of a number
rule_of : ℕ → Rule
rule_of n = cond (eqb n 1) TooLong (cond (eqb n 2) Misplaced (cond (eqb n 3) OutOfRange (cond (eqb n 4) BoundTwice (cond (eqb n 5) Unbound ClauseCount))))

rule_back : (r : Rule) → rule_of (number_of r) ≡ r
unfolding rule_of
rule_back TooLong = refl
rule_back Misplaced = refl
rule_back OutOfRange = refl
rule_back BoundTwice = refl
rule_back Unbound = refl
rule_back ClauseCount = refl

same_number : (r s : Rule) → number_of r ≡ number_of s → r ≡ s
same_number r s e = sym (rule_back r) ∙ ap rule_of e ∙ rule_back s

pub refused_err : (text : List ℕ) (r : Rule) (at : ℕ) → Refused text r at → read_all text ≡ refuse r at
refused_err text r at h =
    let t = refused_by text r at h.broken in
    let b = broken_by text (fault_at t.0 at) t.1 in
    let n : number_of r ≤ number_of t.0 = ⊎_elim (λ lt. absurd (omega arith)) (λ x. x.1) (h.least t.0 at b) in
    let low = t.2 in
    let z : t.0 ≡ r = same_number t.0 r (omega arith) in
    t.1 ∙ ap (λ (s : Rule). refuse s at) z
