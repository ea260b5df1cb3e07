-- A decision whose memo is right.
use Rattle.std.proofs.Common.{◌≡◌, ℕ, suc, ◌+◌, ◌<◌, ◌≤◌, Bool, true, false, List, ◌++◌, Some, None, Option, sym, refl, ap, ◌∙◌, inl, inr, arith}
use Rattle.qbf.specs.declared.Quantifier.{Quantifier}
use Rattle.qbf.specs.declared.Candidate.{Candidate}
use Rattle.qbf.specs.Literals.{positive, negative}
use Rattle.qbf.specs.Lists.{In}
use Rattle.qbf.specs.Memo.{Pairs, Kept}
use Rattle.qbf.specs.Chooser.{Picks}
use Rattle.qbf.specs.Clauses.{assigned, setting}
use Rattle.qbf.specs.Value.{combine, value}
use Rattle.qbf.specs.Reduce.{forced, step, Outcome, decided, left, Reduced, resume, reduce}
use Rattle.qbf.specs.Walk.{outermost, candidates, picked, Walked, ends, bare}
use Rattle.qbf.specs.Numbering.{Numbering, stands, Gains, Makes, Stops}
use Rattle.qbf.specs.Decision.{Refusal, full, spent, too_deep, Ending, verdict, refused, most_open, ReducesIn, settles, sticks, forces, fills, Unknown, Decides, by_reducing, full_reducing, recalled, by_allowance, by_depth, full_first, refused_first, first_only, full_second, refused_second, both_sides, Right}
use Rattle.theory.specs.Deciding.{Overfull, Judged, DecisionRight, DecisionBlank}
use Rattle.theory.proofs.Reduces.{reduce_unfolds, reduced_to, reduces_keeps}
use Rattle.theory.proofs.Walking.{bare_right}
use Rattle.theory.proofs.Tables.{in_append_left, in_append_right, gains_none, gains_more, gains_then, gains_join, overfull_more, stops_gains, stands_later}
use Rattle.theory.proofs.Splitting.{combine_stops, combine_goes, Halves, reduced_made, reduced_splits, split_value, split_halves}

-- reducing over a table is reducing, and the table gains nodes of the sets made
module _ (prefix : List Quantifier) where
  pub at_forced : (s : List (List ℕ)) (l : ℕ) → step prefix s ≡ forced l → reduce prefix s ≡ record { outcome = (reduce prefix (assigned l s)).outcome; made = setting l s ++ (reduce prefix (assigned l s)).made }
  at_forced s l e = reduce_unfolds prefix s ∙ ap (resume (reduce prefix) s) e

  pub forced_made : (s : List (List ℕ)) (l : ℕ) → step prefix s ≡ forced l → (reduce prefix s).made ≡ setting l s ++ (reduce prefix (assigned l s)).made
  forced_made s l e = ap (λ (x : Reduced). x.made) (at_forced s l e)

  forced_gains : {t u v : Numbering} (s : List (List ℕ)) (l : ℕ) → step prefix s ≡ forced l → Gains t (setting l s) u → Gains u (reduce prefix (assigned l s)).made v → Gains t (reduce prefix s).made v
  forced_gains s l e g h = rw (forced_made s l e) (gains_join g h)

  pub reduces_done : {t u : Numbering} {s : List (List ℕ)} {a : Option Outcome} → ReducesIn prefix t s a u → (o : Outcome) → a ≡ Some o → ((reduce prefix s).outcome ≡ o) × Gains t (reduce prefix s).made u
  reduces_done (settles {t} {s} {b} e) o f = (ap (λ (x : Reduced). x.outcome) (reduce_unfolds prefix s ∙ ap (resume (reduce prefix) s) e) ∙ (cc), gains_none t _)
  reduces_done (sticks {t} {s} e) o f = (ap (λ (x : Reduced). x.outcome) (reduce_unfolds prefix s ∙ ap (resume (reduce prefix) s) e) ∙ (cc), gains_none t _)
  reduces_done (forces {s = s} {l} e m r) o f =
      let ih = reduces_done r o f in
      (ap (λ (x : Reduced). x.outcome) (at_forced s l e) ∙ ih.0, forced_gains s l e m.gains ih.1)
  reduces_done (fills e m) o f = absurd (cc)

  pub reduces_full : {t u : Numbering} {s : List (List ℕ)} {a : Option Outcome} → ReducesIn prefix t s a u → a ≡ None → Gains t (reduce prefix s).made u × Overfull (reduce prefix s).made u
  reduces_full (settles e) f = absurd (cc)
  reduces_full (sticks e) f = absurd (cc)
  reduces_full (forces {s = s} {l} e m r) f =
      let ih = reduces_full r f in
      (forced_gains s l e m.gains ih.0, rw (forced_made s l e) (overfull_more (λ x. in_append_right x (setting l s) (reduce prefix (assigned l s)).made) ih.1))
  reduces_full (fills {u = u} {s = s} {l} e m) f =
      let g = stops_gains m in
      (forced_gains s l e g.0 (gains_none u _), rw (forced_made s l e) (overfull_more (λ x. in_append_left x (setting l s) (reduce prefix (assigned l s)).made) g.1))

-- right pairs stay right
pub right_later : (prefix : List Quantifier) {t u : Numbering} {sets : List (List (List ℕ))} (pairs : Pairs) → Right prefix t pairs → Gains t sets u → Right prefix u pairs
right_later prefix pairs right g n b e = let r = right n b e in (r.0, stands_later g n r.0 r.1, r.2)

pub right_noted : (prefix : List Quantifier) (t : Numbering) (n : ℕ) (r : List (List ℕ)) (b : Bool) (before after : Pairs) →
    Right prefix t before → stands t n ≡ Some r → value prefix 0 r ≡ b → Kept before n b after → Right prefix t after
right_noted prefix t n r b before after right s v kept k w e = elim (kept k w e) [
  | inl same ↦ (r, rw same.0 s, v ∙ sym same.1)
  | inr other ↦ right k w other.1
]

module _ {M : Type 0} (held : M → Pairs) (notes : M → ℕ → Bool → M → Type 0) (law : (m : M) (n : ℕ) (b : Bool) (a : M) → notes m n b a → Kept (held m) n b (held a))
    (pick : List Candidate → ℕ) (picks : Picks pick) (prefix : List Quantifier) (allowance : ℕ) where
  abbrev walked : List (List ℕ) → Walked
  walked s = bare pick prefix s

  -- what a verdict has to show
  verdict_judged : {depth splits done : ℕ} {t u : Numbering} {s : List (List ℕ)} {b : Bool} →
      b ≡ value prefix 0 s → splits ≤ done → done ≤ splits + (walked s).splits → (splits ≤ allowance → done ≤ allowance) → Gains t (walked s).made u → Judged pick prefix allowance depth splits t s (verdict b) done u
  verdict_judged {b = b} right since most allowed gains = record {
    right = λ c e. let k : b ≡ c = cc in sym k ∙ right;
    since = since;
    most = most;
    allowed = allowed;
    deserved = λ e. absurd (cc);
    deep = λ e. absurd (cc);
    gains = gains;
    crowded = λ e. absurd (cc);
  }

  -- and a full table
  full_judged : {depth splits done : ℕ} {t u : Numbering} {s : List (List ℕ)} →
      splits ≤ done → done ≤ splits + (walked s).splits → (splits ≤ allowance → done ≤ allowance) → Gains t (walked s).made u → Overfull (walked s).made u → Judged pick prefix allowance depth splits t s (refused full) done u
  full_judged since most allowed gains crowded = record {
    right = λ c e. absurd (cc);
    since = since;
    most = most;
    allowed = allowed;
    deserved = λ e. absurd (cc);
    deep = λ e. absurd (cc);
    gains = gains;
    crowded = λ e. crowded;
  }

  -- a set that is reduced and not known
  pub record Begun (t : Numbering) (m : M) (s r : List (List ℕ)) (n x : ℕ) (u : Numbering) : Type 0 where
    pub keeps : value prefix 0 s ≡ value prefix 0 r
    pub gains : Gains t (walked s).made u
    pub right : Right prefix u (held m)
    pub value_is : value prefix 0 s ≡ combine (outermost prefix r).quantifier (value prefix 0 (assigned (negative x) r)) (value prefix 0 (assigned (positive x) r))
    pub halves : Halves (outermost prefix r).quantifier (setting (negative x) r) (setting (positive x) r) (walked s) (walked (assigned (negative x) r)) (walked (assigned (positive x) r))

  pub begun : {t u : Numbering} {m : M} {s r : List (List ℕ)} {n : ℕ} (x : ℕ) → Unknown held prefix t m s r n u → x ≡ picked pick (candidates prefix r) → Right prefix t (held m) → Begun t m s r n x u
  begun {t} {u} {m} {s} {r} {n} x un c right =
      let d = reduces_done prefix un.reduced (left r) refl in
      let g : Gains t (walked s).made u = gains_more (reduced_made pick picks prefix s) d.1 in
      record {
        keeps = reduces_keeps prefix (reduced_to prefix s (left r) d.0);
        gains = g;
        right = right_later prefix (held m) right g;
        value_is = rw c (split_value pick picks prefix s r d.0 un.shown);
        halves = rw c (split_halves pick picks prefix s r d.0 un.shown);
      }

  -- the first side, set
  first_gains : {t u v w : Numbering} {m : M} {s r : List (List ℕ)} {n x : ℕ} → Begun t m s r n x u → Makes u (setting (negative x) r) v → Gains v (walked (assigned (negative x) r)).made w →
      Gains t (walked s).made w
  first_gains bg mk g = gains_then bg.gains (gains_more bg.halves.first_made (gains_join mk.gains g))

  first_overfull : {t u w : Numbering} {m : M} {s r : List (List ℕ)} {n x : ℕ} → Begun t m s r n x u → Overfull (walked (assigned (negative x) r)).made w → Overfull (walked s).made w
  first_overfull {r = r} {x = x} bg o = overfull_more (λ y i. bg.halves.first_made y (in_append_right y (setting (negative x) r) _ i)) o

  -- the second side is walked where the first does not end the split
  pub as_walked : (x : ℕ) (r : List (List ℕ)) (b c : Bool) → b ≡ value prefix 0 (assigned (negative x) r) → ends (outermost prefix r).quantifier b ≡ c →
      ends (outermost prefix r).quantifier (walked (assigned (negative x) r)).verdict ≡ c
  as_walked x r b c e f = rw (bare_right pick picks prefix (assigned (negative x) r), ← e) f

  second_gains : {t u : Numbering} {m : M} {s r : List (List ℕ)} {n x : ℕ} → Begun t m s r n x u → ends (outermost prefix r).quantifier (walked (assigned (negative x) r)).verdict ≡ false →
      {w y z : Numbering} → Gains t (walked s).made w → Makes w (setting (positive x) r) y → Gains y (walked (assigned (positive x) r)).made z → Gains t (walked s).made z
  second_gains bg f g mk h = gains_then g (gains_more (bg.halves.second_made f) (gains_join mk.gains h))

  -- each way of a decision, given what its inner decisions come to
  abbrev Sound : ℕ → ℕ → Numbering → List (List ℕ) → Ending → ℕ → Numbering → M → Type 0
  Sound depth splits t s e done u a = Judged pick prefix allowance depth splits t s e done u × Right prefix u (held a)

  reducing_sound : {depth splits : ℕ} {t u : Numbering} {m : M} {s : List (List ℕ)} {b : Bool} → ReducesIn prefix t s (Some (decided b)) u → Right prefix t (held m) → Sound depth splits t s (verdict b) splits u m
  reducing_sound {m = m} {s} {b} i right =
      let d = reduces_done prefix i (decided b) refl in (
        verdict_judged (sym (reduces_keeps prefix (reduced_to prefix s (decided b) d.0))) (omega arith) (omega arith) (λ h. h) (gains_more (reduced_made pick picks prefix s) d.1),
        right_later prefix (held m) right d.1,
      )

  full_sound : {depth splits : ℕ} {t u : Numbering} {m : M} {s : List (List ℕ)} → ReducesIn prefix t s None u → Right prefix t (held m) → Sound depth splits t s (refused full) splits u m
  full_sound {m = m} {s} i right =
      let d = reduces_full prefix i refl in (
        full_judged (omega arith) (omega arith) (λ h. h) (gains_more (reduced_made pick picks prefix s) d.0) (overfull_more (reduced_made pick picks prefix s) d.1),
        right_later prefix (held m) right d.0,
      )

  recalled_sound : {depth splits n : ℕ} {t u : Numbering} {m : M} {s r : List (List ℕ)} {b : Bool} →
      ReducesIn prefix t s (Some (left r)) u → stands u n ≡ Some r → held m n ≡ Some b → Right prefix t (held m) → Sound depth splits t s (verdict b) splits u m
  recalled_sound {n = n} {m = m} {s} {r} {b} i st k right =
      let d = reduces_done prefix i (left r) refl in
      let later = right_later prefix (held m) right d.1 in
      let known = later n b k in
      let same : known.0 ≡ r = let e = known.1 in cc in
      let v : value prefix 0 r ≡ b = rw (← same) known.2 in
      (verdict_judged (sym (reduces_keeps prefix (reduced_to prefix s (left r) d.0) ∙ v)) (omega arith) (omega arith) (λ h. h) (gains_more (reduced_made pick picks prefix s) d.1), later)

  spent_sound : {depth splits n : ℕ} {t u : Numbering} {m : M} {s r : List (List ℕ)} → Unknown held prefix t m s r n u → splits ≡ allowance → Right prefix t (held m) → Sound depth splits t s (refused spent) splits u m
  spent_sound {r = r} un e right =
      let bg = begun (picked pick (candidates prefix r)) un refl right in
      let h = bg.halves.first_splits in (
        record {
          right = λ c e. absurd (cc);
          since = omega arith;
          most = omega arith;
          allowed = λ h. h;
          deserved = λ _. (e, omega (arith, e, h));
          deep = λ e. absurd (cc);
          gains = bg.gains;
          crowded = λ e. absurd (cc);
        },
        bg.right,
      )

  deep_sound : {depth splits n : ℕ} {t u : Numbering} {m : M} {s r : List (List ℕ)} → Unknown held prefix t m s r n u → depth ≡ most_open → Right prefix t (held m) → Sound depth splits t s (refused too_deep) splits u m
  deep_sound {r = r} un e right =
      let bg = begun (picked pick (candidates prefix r)) un refl right in
      let h = bg.halves.first_depth in (
        record {
          right = λ c e. absurd (cc);
          since = omega arith;
          most = omega arith;
          allowed = λ h. h;
          deserved = λ e. absurd (cc);
          deep = λ _. omega (arith, e, h);
          gains = bg.gains;
          crowded = λ e. absurd (cc);
        },
        bg.right,
      )

  -- the ways of a split
  module _ (depth splits : ℕ) {n x : ℕ} {t u : Numbering} {m : M} {s r : List (List ℕ)} (bg : Begun t m s r n x u) (numbered : stands u n ≡ Some r) (left_over : splits < allowance) where
    full_first_sound : {v : Numbering} → Stops u (setting (negative x) r) v → Sound depth splits t s (refused full) (suc splits) v m
    full_first_sound stop =
        let h = bg.halves.first_splits in
        let st = stops_gains stop in
        let p = λ (y : List (List ℕ)) (i : In y (setting (negative x) r)). bg.halves.first_made y (in_append_left y (setting (negative x) r) _ i) in
        (full_judged (omega arith) (omega (arith, h)) (λ _. omega arith) (gains_then bg.gains (gains_more p st.0)) (overfull_more p st.1), right_later prefix (held m) bg.right st.0)

    module _ {v : Numbering} (mk : Makes u (setting (negative x) r) v) where
      -- the pairs are right where the first side begins
      first_right : Right prefix v (held m)
      first_right = right_later prefix (held m) bg.right mk.gains

      refused_first_sound : {done : ℕ} {w : Numbering} {a : M} {f : Refusal} → Sound (suc depth) (suc splits) v (assigned (negative x) r) (refused f) done w a → Sound depth splits t s (refused f) done w a
      refused_first_sound {f = f} (j, right) =
          let h = bg.halves.first_splits in
          let k = bg.halves.first_depth in (
            record {
              right = λ c e. absurd (cc);
              since = omega (arith, j.since);
              most = omega (arith, j.most, h);
              allowed = λ _. j.allowed (omega arith);
              deserved = λ e. let z = j.deserved e in (z.0, omega (arith, z.1, h));
              deep = λ e. omega (arith, j.deep e, k);
              gains = first_gains bg mk j.gains;
              crowded = λ e. first_overfull bg (j.crowded e);
            },
            right,
          )

      -- the value where the first side ends the split, and where it does not
      first_value : (b : Bool) → b ≡ value prefix 0 (assigned (negative x) r) → ends (outermost prefix r).quantifier b ≡ true → b ≡ value prefix 0 s
      first_value b e en = e ∙ sym (bg.value_is ∙ combine_stops (outermost prefix r).quantifier (value prefix 0 (assigned (negative x) r)) (value prefix 0 (assigned (positive x) r)) (ap (ends (outermost prefix r).quantifier) (sym e) ∙ en))

      second_value : (b c : Bool) → b ≡ value prefix 0 (assigned (negative x) r) → ends (outermost prefix r).quantifier b ≡ false → c ≡ value prefix 0 (assigned (positive x) r) → c ≡ value prefix 0 s
      second_value b c e en f = f ∙ sym (bg.value_is ∙ combine_goes (outermost prefix r).quantifier (value prefix 0 (assigned (negative x) r)) (value prefix 0 (assigned (positive x) r)) (ap (ends (outermost prefix r).quantifier) (sym e) ∙ en))

      first_only_sound : {done : ℕ} {w : Numbering} {a k : M} {b : Bool} →
          Sound (suc depth) (suc splits) v (assigned (negative x) r) (verdict b) done w a → ends (outermost prefix r).quantifier b ≡ true → notes a n b k → Sound depth splits t s (verdict b) done w k
      first_only_sound {w = w} {a} {k} {b} (j, right) en nt =
          let h = bg.halves.first_splits in
          let v = first_value b (j.right b refl) en in
          let st : stands w n ≡ Some r = stands_later j.gains n r (stands_later mk.gains n r numbered) in (
            verdict_judged v (omega (arith, j.since)) (omega (arith, j.most, h)) (λ _. j.allowed (omega arith)) (first_gains bg mk j.gains),
            right_noted prefix w n r b (held a) (held k) right st (sym bg.keeps ∙ sym v) (law a n b k nt),
          )

      module _ {half : ℕ} {w : Numbering} {b : Bool} (first : Judged pick prefix allowance (suc depth) (suc splits) v (assigned (negative x) r) (verdict b) half w) (en : ends (outermost prefix r).quantifier b ≡ false) where
        goes : ends (outermost prefix r).quantifier (walked (assigned (negative x) r)).verdict ≡ false
        goes = as_walked x r b false (first.right b refl) en

        full_second_sound : {y : Numbering} (a : M) → Right prefix w (held a) → Stops w (setting (positive x) r) y → Sound depth splits t s (refused full) half y a
        full_second_sound a right stop =
            let h = bg.halves.both_splits goes in
            let st = stops_gains stop in
            let p = λ (y : List (List ℕ)) (i : In y (setting (positive x) r)). bg.halves.second_made goes y (in_append_left y (setting (positive x) r) _ i) in (
              full_judged (omega (arith, first.since)) (omega (arith, first.most, h)) (λ _. first.allowed (omega arith)) (gains_then (first_gains bg mk first.gains) (gains_more p st.0)) (overfull_more p st.1),
              right_later prefix (held a) right st.0,
            )

        module _ {y : Numbering} (mk2 : Makes w (setting (positive x) r) y) where
          refused_second_sound : {done : ℕ} {z : Numbering} {k : M} {f : Refusal} → Sound (suc depth) half y (assigned (positive x) r) (refused f) done z k → Sound depth splits t s (refused f) done z k
          refused_second_sound {f = f} (i, right) =
              let h = bg.halves.both_splits goes in
              let k = bg.halves.second_depth goes in (
                record {
                  right = λ c e. absurd (cc);
                  since = omega (arith, first.since, i.since);
                  most = omega (arith, first.most, i.most, h);
                  allowed = λ _. i.allowed (first.allowed (omega arith));
                  deserved = λ e. let z = i.deserved e in (z.0, omega (arith, z.1, first.most, h));
                  deep = λ e. omega (arith, i.deep e, k);
                  gains = second_gains bg goes (first_gains bg mk first.gains) mk2 i.gains;
                  crowded = λ e. overfull_more (λ y a. bg.halves.second_made goes y (in_append_right y (setting (positive x) r) _ a)) (i.crowded e);
                },
                right,
              )

          both_sound : {done : ℕ} {z : Numbering} {k o : M} {c : Bool} → Sound (suc depth) half y (assigned (positive x) r) (verdict c) done z k → notes k n c o → Sound depth splits t s (verdict c) done z o
          both_sound {z = z} {k} {o} {c} (i, right) nt =
              let h = bg.halves.both_splits goes in
              let v = second_value b c (first.right b refl) en (i.right c refl) in
              let st : stands z n ≡ Some r = stands_later i.gains n r (stands_later mk2.gains n r (stands_later first.gains n r (stands_later mk.gains n r numbered))) in (
                verdict_judged v (omega (arith, first.since, i.since)) (omega (arith, first.most, i.most, h)) (λ _. i.allowed (first.allowed (omega arith))) (second_gains bg goes (first_gains bg mk first.gains) mk2 i.gains),
                right_noted prefix z n r c (held k) (held o) right st (sym bg.keeps ∙ sym v) (law k n c o nt),
              )

  pub judged : {depth splits done : ℕ} {t u : Numbering} {m a : M} {s : List (List ℕ)} {e : Ending} →
      Decides held notes prefix pick allowance depth splits t m s e done u a → Right prefix t (held m) → Sound depth splits t s e done u a
  judged (by_reducing i) right = reducing_sound i right
  judged (full_reducing i) right = full_sound i right
  judged (recalled i st k) right = recalled_sound i st k right
  judged (by_allowance un e) right = spent_sound un e right
  judged (by_depth un l e) right = deep_sound un e right
  judged (full_first {depth} {splits} {x = x} sp stop) right = full_first_sound depth splits (begun x sp.unknown sp.chosen right) sp.unknown.numbered sp.allowed stop
  judged (refused_first {depth} {splits} {x = x} sp mk d) right =
      let bg = begun x sp.unknown sp.chosen right in
      refused_first_sound depth splits bg sp.unknown.numbered sp.allowed mk (judged d (first_right depth splits bg sp.unknown.numbered sp.allowed mk))
  judged (first_only {depth} {splits} {x = x} sp mk d en nt) right =
      let bg = begun x sp.unknown sp.chosen right in
      first_only_sound depth splits bg sp.unknown.numbered sp.allowed mk (judged d (first_right depth splits bg sp.unknown.numbered sp.allowed mk)) en nt
  judged (full_second {depth} {splits} {x = x} {m1 = m1} sp mk d en stop) right =
      let bg = begun x sp.unknown sp.chosen right in
      let one = judged d (first_right depth splits bg sp.unknown.numbered sp.allowed mk) in
      full_second_sound depth splits bg sp.unknown.numbered sp.allowed mk one.0 en m1 one.1 stop
  judged (refused_second {depth} {splits} {x = x} {m1 = m1} sp mk d en mk2 d2) right =
      let bg = begun x sp.unknown sp.chosen right in
      let one = judged d (first_right depth splits bg sp.unknown.numbered sp.allowed mk) in
      refused_second_sound depth splits bg sp.unknown.numbered sp.allowed mk one.0 en mk2 (judged d2 (right_later prefix (held m1) one.1 mk2.gains))
  judged (both_sides {depth} {splits} {x = x} {m1 = m1} sp mk d en mk2 d2 nt) right =
      let bg = begun x sp.unknown sp.chosen right in
      let one = judged d (first_right depth splits bg sp.unknown.numbered sp.allowed mk) in
      both_sound depth splits bg sp.unknown.numbered sp.allowed mk one.0 en mk2 (judged d2 (right_later prefix (held m1) one.1 mk2.gains)) nt

  -- without a pair ever held, a verdict has all the splits of the bare walk
  pub unaided : ((m : M) (k : ℕ) → held m k ≡ None) → {depth splits done : ℕ} {t u : Numbering} {m a : M} {s : List (List ℕ)} {e : Ending} →
      Decides held notes prefix pick allowance depth splits t m s e done u a → (b : Bool) → e ≡ verdict b → done ≡ splits + (walked s).splits
  unaided empty (by_reducing {s = s} {b} i) c f =
      let z = reduced_splits pick picks prefix s b (reduces_done prefix i (decided b) refl).0 in
      omega (arith, z)
  unaided empty (full_reducing i) c f = absurd (cc)
  unaided empty (recalled {n = n} {m = m} i st k) c f = let e = empty m n in absurd (cc)
  unaided empty (by_allowance un e) c f = absurd (cc)
  unaided empty (by_depth un l e) c f = absurd (cc)
  unaided empty (full_first sp stop) c f = absurd (cc)
  unaided empty (refused_first {f = g} sp mk d) c f = absurd (cc)
  unaided empty (first_only {x = x} {m = m} {r = r} {b} sp mk d en nt) c f =
      let right : (t : Numbering) (m : M) → Right prefix t (held m) = λ t m n b e. absurd (let y = empty m n in cc) in
      let bg = begun x sp.unknown sp.chosen (right _ m) in
      let j = (judged d (right _ m)).0 in
      let h = bg.halves.only_splits (as_walked x r b true (j.right b refl) en) in
      let one = unaided empty d b refl in
      omega (arith, h, one)
  unaided empty (full_second sp mk d en stop) c f = absurd (cc)
  unaided empty (refused_second {f = g} sp mk d en mk2 d2) c f = absurd (cc)
  unaided empty (both_sides {x = x} {m = m} {r = r} {b} {c = e} sp mk d en mk2 d2 nt) c f =
      let right : (t : Numbering) (m : M) → Right prefix t (held m) = λ t m n b e. absurd (let y = empty m n in cc) in
      let bg = begun x sp.unknown sp.chosen (right _ m) in
      let j = (judged d (right _ m)).0 in
      let h = bg.halves.both_splits (as_walked x r b false (j.right b refl) en) in
      let one = unaided empty d b refl in
      let two = unaided empty d2 e refl in
      omega (arith, h, one, two)

module _ {M : Type 0} (held : M → Pairs) (notes : M → ℕ → Bool → M → Type 0) (law : (m : M) (n : ℕ) (b : Bool) (a : M) → notes m n b a → Kept (held m) n b (held a)) where
  pub decision_right : DecisionRight held notes
  decision_right pick picks prefix allowance depth splits done before after memo kept s e d right = judged held notes law pick picks prefix allowance d right

  pub decision_blank : DecisionBlank held notes
  decision_blank empty pick picks prefix allowance depth splits done before after memo kept s b d =
      let right : Right prefix before (held memo) = λ n b e. absurd (let y = empty memo n in cc) in
      ((judged held notes law pick picks prefix allowance d right).0.right b refl ∙ sym (bare_right pick picks prefix s), unaided held notes law pick picks prefix allowance empty d b refl)
