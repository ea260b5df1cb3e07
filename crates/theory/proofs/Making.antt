-- The sets that a decision makes are sets that the bare walk makes.
use Rattle.std.proofs.Common.{◌≡◌, ℕ, Bool, false, List, ◌++◌, Option, refl, inl, inr}
use Rattle.qbf.specs.declared.Quantifier.{Quantifier}
use Rattle.qbf.specs.declared.Candidate.{Candidate}
use Rattle.qbf.specs.Literals.{positive, negative}
use Rattle.qbf.specs.Memo.{Pairs, Kept}
use Rattle.qbf.specs.Chooser.{Picks}
use Rattle.qbf.specs.Clauses.{assigned, setting}
use Rattle.qbf.specs.Reduce.{Outcome, reduce}
use Rattle.qbf.specs.Walk.{outermost, ends, bare}
use Rattle.qbf.specs.Numbering.{Numbering, Stops}
use Rattle.qbf.specs.Decision.{Ending, ReducesIn, settles, sticks, forces, fills, Decides, by_reducing, full_reducing, recalled, by_allowance, by_depth, full_first, refused_first, first_only, full_second, refused_second, both_sides, Right}
use Rattle.theory.specs.Making.{stopped, reducing, deciding, DecisionMakes}
use Rattle.theory.proofs.Terms.{Subset}
use Rattle.theory.proofs.Tables.{in_append, in_append_left, append_more, stops_some}
use Rattle.theory.proofs.Splitting.{reduced_made}
use Rattle.theory.proofs.Deciding.{forced_made, right_later, Begun, begun, as_walked, judged}

-- a subset as a record, so that its lists are found
pub record Contained (xs ys : List (List (List ℕ))) : Type 0 where
  pub each : Subset xs ys

either : {xs ys zs : List (List (List ℕ))} → Contained xs zs → Contained ys zs → Contained (xs ++ ys) zs
either {xs} {ys} p q = record { each = λ x i. elim (in_append x xs ys i) [ inl j ↦ p.each x j | inr j ↦ q.each x j ] }

reducing_part : {prefix : List Quantifier} {t u : Numbering} {s : List (List ℕ)} {o : Option Outcome} (r : ReducesIn prefix t s o u) → Subset (reducing r) (reduce prefix s).made
reducing_part (settles e) x i = absurd i
reducing_part (sticks e) x i = absurd i
reducing_part {prefix} (forces {s = s} {l} e m r) x i =
    rw (forced_made prefix s l e) (append_more (setting l s) (reducing r) (reduce prefix (assigned l s)).made (reducing_part r) x i)
reducing_part {prefix} (fills {s = s} {l} e m) x i =
    rw (forced_made prefix s l e) (in_append_left x (setting l s) (reduce prefix (assigned l s)).made (stops_some m x i))

module _ {M : Type 0} (held : M → Pairs) (notes : M → ℕ → Bool → M → Type 0) (law : (m : M) (n : ℕ) (b : Bool) (a : M) → notes m n b a → Kept (held m) n b (held a))
    (pick : List Candidate → ℕ) (picks : Picks pick) (prefix : List Quantifier) (allowance : ℕ) where
  -- of a reduced set
  before_part : {t u : Numbering} {s : List (List ℕ)} {o : Option Outcome} (r : ReducesIn prefix t s o u) → Contained (reducing r) (bare pick prefix s).made
  before_part {s = s} r = record { each = λ x i. reduced_made pick picks prefix s x (reducing_part r x i) }

  module _ {t u : Numbering} {m : M} {s r : List (List ℕ)} {n x : ℕ} (bg : Begun held notes law pick picks prefix allowance t m s r n x u) where
    first_part : (more : List (List (List ℕ))) → Contained more (bare pick prefix (assigned (negative x) r)).made → Contained (setting (negative x) r ++ more) (bare pick prefix s).made
    first_part more p = record { each = λ y i. bg.halves.first_made y (append_more (setting (negative x) r) more (bare pick prefix (assigned (negative x) r)).made p.each y i) }

    second_part : (more : List (List (List ℕ))) → ends (outermost prefix r).quantifier (bare pick prefix (assigned (negative x) r)).verdict ≡ false →
        Contained more (bare pick prefix (assigned (positive x) r)).made → Contained (setting (positive x) r ++ more) (bare pick prefix s).made
    second_part more g p = record { each = λ y i. bg.halves.second_made g y (append_more (setting (positive x) r) more (bare pick prefix (assigned (positive x) r)).made p.each y i) }

    first_stopped : {v : Numbering} (st : Stops u (setting (negative x) r) v) → Contained (stopped st) (bare pick prefix s).made
    first_stopped st = record { each = λ y i. bg.halves.first_made y (in_append_left y (setting (negative x) r) (bare pick prefix (assigned (negative x) r)).made (stops_some st y i)) }

    second_stopped : {v w : Numbering} → ends (outermost prefix r).quantifier (bare pick prefix (assigned (negative x) r)).verdict ≡ false → (st : Stops v (setting (positive x) r) w) → Contained (stopped st) (bare pick prefix s).made
    second_stopped g st = record { each = λ y i. bg.halves.second_made g y (in_append_left y (setting (positive x) r) (bare pick prefix (assigned (positive x) r)).made (stops_some st y i)) }

  pub makes : {depth splits done : ℕ} {t u : Numbering} {m a : M} {s : List (List ℕ)} {e : Ending} →
      (d : Decides held notes prefix pick allowance depth splits t m s e done u a) → Right prefix t (held m) → Contained (deciding d) (bare pick prefix s).made
  unfolding deciding
  makes (by_reducing i) right = before_part i
  makes (full_reducing i) right = before_part i
  makes (recalled i st k) right = before_part i
  makes (by_allowance un e) right = before_part un.reduced
  makes (by_depth un l e) right = before_part un.reduced
  makes (full_first {x = x} sp stop) right = either (before_part sp.unknown.reduced) (first_stopped (begun held notes law pick picks prefix allowance x sp.unknown sp.chosen right) stop)
  makes (refused_first {x = x} {m = m} sp mk d) right =
      let bg = begun held notes law pick picks prefix allowance x sp.unknown sp.chosen right in
      either (before_part sp.unknown.reduced) (first_part bg (deciding d) (makes d (right_later prefix (held m) bg.right mk.gains)))
  makes (first_only {x = x} {m = m} sp mk d en nt) right =
      let bg = begun held notes law pick picks prefix allowance x sp.unknown sp.chosen right in
      either (before_part sp.unknown.reduced) (first_part bg (deciding d) (makes d (right_later prefix (held m) bg.right mk.gains)))
  makes (full_second {x = x} {m = m} {r = r} {b} sp mk d en stop) right =
      let bg = begun held notes law pick picks prefix allowance x sp.unknown sp.chosen right in
      let ok = right_later prefix (held m) bg.right mk.gains in
      let g = as_walked held notes law pick picks prefix allowance x r b false ((judged held notes law pick picks prefix allowance d ok).0.right b refl) en in
      either (before_part sp.unknown.reduced) (either (first_part bg (deciding d) (makes d ok)) (second_stopped bg g stop))
  makes (refused_second {x = x} {m = m} {m1} {r = r} {b} sp mk d en mk2 d2) right =
      let bg = begun held notes law pick picks prefix allowance x sp.unknown sp.chosen right in
      let ok = right_later prefix (held m) bg.right mk.gains in
      let j = judged held notes law pick picks prefix allowance d ok in
      let g = as_walked held notes law pick picks prefix allowance x r b false (j.0.right b refl) en in
      either (before_part sp.unknown.reduced) (either (first_part bg (deciding d) (makes d ok)) (second_part bg (deciding d2) g (makes d2 (right_later prefix (held m1) j.1 mk2.gains))))
  makes (both_sides {x = x} {m = m} {m1} {r = r} {b} sp mk d en mk2 d2 nt) right =
      let bg = begun held notes law pick picks prefix allowance x sp.unknown sp.chosen right in
      let ok = right_later prefix (held m) bg.right mk.gains in
      let j = judged held notes law pick picks prefix allowance d ok in
      let g = as_walked held notes law pick picks prefix allowance x r b false (j.0.right b refl) en in
      either (before_part sp.unknown.reduced) (either (first_part bg (deciding d) (makes d ok)) (second_part bg (deciding d2) g (makes d2 (right_later prefix (held m1) j.1 mk2.gains))))

module _ {M : Type 0} (held : M → Pairs) (notes : M → ℕ → Bool → M → Type 0) (law : (m : M) (n : ℕ) (b : Bool) (a : M) → notes m n b a → Kept (held m) n b (held a)) where
  pub decision_makes : DecisionMakes held notes
  decision_makes pick picks prefix allowance depth splits done before after memo kept s e d right = (makes held notes law pick picks prefix allowance d right).each
