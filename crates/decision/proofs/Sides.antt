-- The two sides of a split put together.
use Rattle.std.proofs.Common.{◌≡◌, ℕ, suc, Bool, false, List, Err, Result}
use Rattle.qbf.specs.declared.Quantifier.{Quantifier}
use Rattle.qbf.specs.declared.Candidate.{Candidate}
use Rattle.qbf.specs.Literals.{positive, negative}
use Rattle.qbf.specs.Memo.{Pairs}
use Rattle.qbf.specs.Walk.{outermost, ends}
use Rattle.qbf.specs.Numbering.{Numbering}
use Rattle.qbf.specs.Decision.{Refusal, Ending, verdict, refused, Unknown, Splits, Decides, by_allowance, by_depth, full_first, refused_first, first_only, full_second, refused_second, both_sides}
use Rattle.decision.specs.declared.choice.Choice.{Choice}
use Rattle.decision.specs.declared.unfinished.Halt.{Halt}
use Rattle.decision.specs.declared.unfinished.Halt.TheVariants.{Full, Spent, TooDeep}
use Rattle.decision.specs.declared.progress.Progress.{Progress}
use Rattle.decision.specs.declared.walk.Walk.{Walk}
use Rattle.decision.specs.Endings.{refusal, came_to}
use Rattle.decision.specs.Walks.{ReadyAt, set_of, Stays, SideAt}
use Rattle.decision.proofs.Standing.{ready_later}
use Rattle.reduction.specs.Numbered.{quantifiers_of, sets_of, Kept}
use Rattle.decision.specs.Starts.{Starts}
use Rattle.decision.specs.Steps.{Side, unmade, walked, Sides, first_refused, first_ends, second, Noted}

module _ {M : Type 0} {held : M → Pairs} {notes : M → ℕ → Bool → M → Type 0} {prefix : List Quantifier} {pick : List Candidate → ℕ} where
  -- a split that could not start
  pub not_started : {t u : Numbering} {m : M} {s r : List (List ℕ)} {n : ℕ} (p q : Progress) (halt : Halt) → Starts p (Err halt) q → Unknown held prefix t m s r n u →
      Decides held notes prefix pick p.allowance p.depth p.splits t m s (refused (refusal halt)) q.splits u m
  not_started p q Full no_way unknown = absurd no_way
  not_started p q Spent (same, spent) unknown = rw same (by_allowance unknown spent)
  not_started p q TooDeep (same, left, deep) unknown = rw same (by_depth unknown left deep)

  -- a side by other names of what it starts from
  pub side_at : {a1 a2 d1 d2 k1 k2 l1 l2 done : ℕ} {t u : Numbering} {m o : M} {r1 r2 : List (List ℕ)} {e : Ending} → a1 ≡ a2 → d1 ≡ d2 → k1 ≡ k2 → r1 ≡ r2 → l1 ≡ l2 →
      Side held notes prefix pick a1 d1 k1 t m r1 l1 e done u o → Side held notes prefix pick a2 d2 k2 t m r2 l2 e done u o
  side_at a d k r l x = rw (← a, ← d, ← k, ← r, ← l) x

  pub sides_at : {a1 a2 d1 d2 k1 k2 done : ℕ} {t u : Numbering} {m o : M} {r : List (List ℕ)} {choice : Choice} {e : Ending} → a1 ≡ a2 → d1 ≡ d2 → k1 ≡ k2 →
      Sides held notes prefix pick a1 d1 k1 t m r choice e done u o → Sides held notes prefix pick a2 d2 k2 t m r choice e done u o
  sides_at a d k x = rw (← a, ← d, ← k) x

  module _ {allowance depth splits : ℕ} {t u : Numbering} {m : M} {s r : List (List ℕ)} {n : ℕ} (choice : Choice)
      (sp : Splits held prefix pick allowance depth splits t m s r n choice.variable u) (bound : choice.quantifier ≡ (outermost prefix r).quantifier) where
    refused_at_second : {b : Bool} {f : Refusal} {half done : ℕ} {v w : Numbering} {m1 m2 : M} →
        Side held notes prefix pick allowance (suc depth) (suc splits) u m r (negative choice.variable) (verdict b) half v m1 →
        ends (outermost prefix r).quantifier b ≡ false →
        Side held notes prefix pick allowance (suc depth) half v m1 r (positive choice.variable) (refused f) done w m2 →
        Decides held notes prefix pick allowance depth splits t m s (refused f) done w m2
    refused_at_second (walked mk d) en (unmade stop) = full_second sp mk d en stop
    refused_at_second (walked mk d) en (walked mk2 d2) = refused_second sp mk d en mk2 d2

    ended_by_second : {b c : Bool} {half done : ℕ} {v w : Numbering} {m1 m2 m3 : M} →
        Side held notes prefix pick allowance (suc depth) (suc splits) u m r (negative choice.variable) (verdict b) half v m1 →
        ends (outermost prefix r).quantifier b ≡ false →
        Side held notes prefix pick allowance (suc depth) half v m1 r (positive choice.variable) (verdict c) done w m2 → notes m2 n c m3 →
        Decides held notes prefix pick allowance depth splits t m s (verdict c) done w m3
    ended_by_second (walked mk d) en (walked mk2 d2) nt = both_sides sp mk d en mk2 d2 nt

    -- both sides, and the note of their verdict, decide the set
    pub sides_decide : {e : Ending} {done : ℕ} {v : Numbering} {m1 m2 : M} →
        Sides held notes prefix pick allowance (suc depth) (suc splits) u m r choice e done v m1 → Noted notes m1 n e m2 →
        Decides held notes prefix pick allowance depth splits t m s e done v m2
    sides_decide (first_refused (unmade stop)) same = rw same (full_first sp stop)
    sides_decide (first_refused (walked mk d)) same = rw same (refused_first sp mk d)
    sides_decide (first_ends (walked mk d) en) nt = first_only sp mk d (rw bound at en) nt
    sides_decide (second {e = refused f} one en two) same = rw same (refused_at_second one (rw bound at en) two)
    sides_decide (second {e = verdict c} one en two) nt = ended_by_second one (rw bound at en) two nt

-- what the first side leaves, for the second
module _ {M C : Type 0} (held : M → Pairs) (notes : M → ℕ → Bool → M → Type 0) (picks : C → List Candidate → ℕ) (w v : Walk M C) (stays : Stays w v) (number : ℕ) where
  pub later_ready : Kept w.table.now v.table.now → ReadyAt w number → ReadyAt v number
  later_ready kept ready = rw stays.prefix (ready_later (quantifiers_of w.prefix.now) w.table.now v.table.now number kept ready)

  pub later_side : (l : ℕ) (r : Result Bool Halt) (u : Walk M C) → set_of v number ≡ set_of w number → SideAt held notes picks v number l r u →
      Side held notes (quantifiers_of w.prefix.now) (picks w.chooser.now) w.progress.allowance w.progress.depth v.progress.splits (sets_of v.table.now) v.memo.now (set_of w number) l
      (came_to r) u.progress.splits (sets_of u.table.now) u.memo.now
  later_side l r u same side = rw (← stays.prefix, ← stays.chooser, ← stays.allowance, ← stays.depth, ← same) side
