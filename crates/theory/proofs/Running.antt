-- A decision by computing is a decision.
use Rattle.std.proofs.Common.{◌≡◌, ℕ, zero, suc, ◌<◌, ◌≤◌, Bool, true, false, cond, eqb, ◌⊎◌, List, [], ◌∷◌, length, Some, None, Option, sym, refl, subst, inl, inr, arith}
use Rattle.std.proofs.lemmas.Bool.Decides.{nat_tests}
use Rattle.qbf.specs.declared.Quantifier.{Quantifier}
use Rattle.qbf.specs.declared.Candidate.{Candidate}
use Rattle.qbf.specs.Literals.{positive, negative}
use Rattle.qbf.specs.Lists.{In}
use Rattle.qbf.specs.Nodes.{Node, node_itself}
use Rattle.qbf.specs.Memo.{Pairs}
use Rattle.qbf.specs.Chooser.{Picks}
use Rattle.qbf.specs.Clauses.{assigned, setting}
use Rattle.qbf.specs.Value.{none}
use Rattle.qbf.specs.Reduce.{Within, has_empty, Step, settled, forced, stuck, step, Outcome, decided, left, size}
use Rattle.qbf.specs.Walk.{outermost, candidates, picked, ends}
use Rattle.qbf.specs.Numbering.{Numbering, stands, Makes, Stops}
use Rattle.qbf.specs.Decision.{Refusal, full, spent, too_deep, Ending, verdict, refused, most_open, ReducesIn, settles, sticks, forces, fills, Unknown, Splits, Decides, by_reducing, full_reducing, recalled, by_allowance, by_depth, full_first, refused_first, first_only, full_second, refused_second, both_sides}
use Rattle.qbf.specs.Run.{make, number, Lowered, lower_by, lower, Standing, try, noted, second, chosen, unknown, on_recall, on_outcome, run_within}
use Rattle.theory.specs.Reducing.{Clean}
use Rattle.theory.specs.Running.{RunsDecide}
use Rattle.theory.proofs.Keeping.{Falls, step_falls}
use Rattle.theory.proofs.Blocks.{picked_falls}
use Rattle.theory.proofs.Stands.{within_assigned, clean_stuck, some_candidate}
use Rattle.theory.proofs.Adding.{Fit, Making, making, place_is}

-- the table has the nodes of the set
abbrev pub Has : Numbering → List (List ℕ) → Type 0
Has t s = (x : List (List ℕ)) → Node x s → In x t

setting_last : {t u : Numbering} (l : ℕ) (s : List (List ℕ)) → Makes t (setting l s) u → Has u (assigned l s)
setting_last l s m x n = m.whole (assigned l s) x (inr (inr (inr (inl refl)))) n

clean_number : (t : Numbering) (r : List (List ℕ)) → none r ≡ false → has_empty r ≡ false → Has t r → stands t (number t r) ≡ Some r
clean_number t [] e f h = grind (arith, nat_tests)
clean_number t ([] ∷ r) e f h = grind (arith, nat_tests)
clean_number t ((k ∷ c) ∷ r) e f h = place_is ((k ∷ c) ∷ r) t (h ((k ∷ c) ∷ r) (node_itself refl))

module _ (prefix : List Quantifier) where
  -- what reducing by computing comes to
  pub record Low (t : Numbering) (s : List (List ℕ)) (o : Lowered) : Type 0 where
    pub reduces : ReducesIn prefix t s o.outcome o.table
    pub fit : Fit o.table
    pub left_has : (r : List (List ℕ)) → o.outcome ≡ Some (left r) → Has o.table r
    pub left_clean : (r : List (List ℕ)) → o.outcome ≡ Some (left r) → Within prefix r × Clean r
    pub left_size : (r : List (List ℕ)) → o.outcome ≡ Some (left r) → size r ≤ size s

  pub lowers : (n : ℕ) (t : Numbering) (s : List (List ℕ)) → size s < n → Fit t → Has t s → Within prefix s → Low t s (lower n prefix t s)
  unfolding lower
  lowers zero t s h f k w = absurd (omega arith)
  lowers (suc n) t s h f k w = go (step prefix s) refl (step_falls prefix s) (λ u x. lowers n u x)
    where
      go : (st : Step) → step prefix s ≡ st → Falls s st →
          ((u : Numbering) (x : List (List ℕ)) → size x < n → Fit u → Has u x → Within prefix x → Low u x (lower n prefix u x)) → Low t s (lower_by (lower n prefix) t s st)
      go (settled b) e fall ih = record {
        reduces = settles e;
        fit = f;
        left_has = λ r g. absurd (cc);
        left_clean = λ r g. absurd (cc);
        left_size = λ r g. absurd (cc);
      }
      go stuck e fall ih = record {
        reduces = sticks e;
        fit = f;
        left_has = λ r g. let i : s ≡ r = cc in rw (← i) k;
        left_clean = λ r g. let i : s ≡ r = cc in rw (← i) (w, clean_stuck prefix s w e);
        left_size = λ r g. let i : s ≡ r = cc in rw (← i) (omega arith);
      }
      go (forced l) e fall ih = at (make t (setting l s)).done refl
        where
          m : Making t (setting l s) (make t (setting l s))
          m = making t (setting l s) f

          at : (b : Bool) → (make t (setting l s)).done ≡ b →
              Low t s (cond b (lower n prefix (make t (setting l s)).table (assigned l s)) (record { table = (make t (setting l s)).table; outcome = None }))
          at true d =
              let mk = m.makes d in
              let r = ih (make t (setting l s)).table (assigned l s) (omega arith) m.fit (setting_last l s mk) (within_assigned prefix l s w) in
              record {
                reduces = forces e mk r.reduces;
                fit = r.fit;
                left_has = r.left_has;
                left_clean = r.left_clean;
                left_size = λ x g. let z = r.left_size x g in omega arith;
              }
          at false d = record {
            reduces = fills e (m.stops d);
            fit = m.fit;
            left_has = λ r g. absurd (cc);
            left_clean = λ r g. absurd (cc);
            left_size = λ r g. absurd (cc);
          }

module _ {M : Type 0} (held : M → Pairs) (note : M → ℕ → Bool → M) (prefix : List Quantifier) (pick : List Candidate → ℕ) (allowance : ℕ) (picks : Picks pick) where
  abbrev Noting : M → ℕ → Bool → M → Type 0
  Noting m n b a = a ≡ note m n b

  -- what a decision by computing comes to
  pub record Ran (depth splits : ℕ) (t : Numbering) (m : M) (s : List (List ℕ)) (a : Standing M) : Type 0 where
    pub decides : Decides held Noting prefix pick allowance depth splits t m s a.ending a.splits a.table a.memo
    pub fit : Fit a.table
    pub allowed : a.splits ≤ allowance

  abbrev Ended : ℕ → ℕ → Numbering → M → List (List ℕ) → Standing M → Ending → Type 0
  Ended depth splits t m s a e = Decides held Noting prefix pick allowance depth splits t m s e a.splits a.table a.memo

  abbrev Next : Type 0
  Next = ℕ → ℕ → Numbering → M → List (List ℕ) → Standing M

  -- one side of a split
  pub data Tried (next : Next) (depth splits : ℕ) (t : Numbering) (m : M) (r : List (List ℕ)) (l : ℕ) : Standing M → Type 0 where
    tried_full : {u : Numbering} → Stops t (setting l r) u → Fit u → splits ≤ allowance → Tried next depth splits t m r l (record { ending = refused full; splits = splits; table = u; memo = m })
    tried_ran : {u : Numbering} {a : Standing M} → Makes t (setting l r) u → Ran depth splits u m (assigned l r) a → Tried next depth splits t m r l a

  tries : (next : Next) (depth splits : ℕ) (t : Numbering) (m : M) (r : List (List ℕ)) (l : ℕ) → Fit t → splits ≤ allowance →
      ((u : Numbering) → Fit u → Has u (assigned l r) → Ran depth splits u m (assigned l r) (next depth splits u m (assigned l r))) →
      Tried next depth splits t m r l (try held note prefix pick allowance next depth splits t m r l)
  tries next depth splits t m r l f ok ih = at (make t (setting l r)).done refl
    where
      k : Making t (setting l r) (make t (setting l r))
      k = making t (setting l r) f

      at : (b : Bool) → (make t (setting l r)).done ≡ b →
          Tried next depth splits t m r l (cond b (next depth splits (make t (setting l r)).table m (assigned l r)) (record { ending = refused full; splits = splits; table = (make t (setting l r)).table; memo = m }))
      at true d = tried_ran (k.makes d) (ih (make t (setting l r)).table k.fit (setting_last l r (k.makes d)))
      at false d = tried_full (k.stops d) k.fit ok

  module _ (next : Next) {depth splits n x : ℕ} {t u : Numbering} {m : M} {s r : List (List ℕ)} (sp : Splits held prefix pick allowance depth splits t m s r n x u) where
    -- after the second side
    after_second : {half : ℕ} {v w : Numbering} {m1 : M} {b : Bool} {c : Standing M} →
        Makes u (setting (negative x) r) v → Decides held Noting prefix pick allowance (suc depth) (suc splits) v m (assigned (negative x) r) (verdict b) half w m1 →
        ends (outermost prefix r).quantifier b ≡ false → Tried next (suc depth) half w m1 r (positive x) c →
        Ran depth splits t m s (noted held note prefix pick allowance n c c.ending)
    after_second mk d en (tried_full stop f ok) = record { decides = full_second sp mk d en stop; fit = f; allowed = ok }
    after_second {half} {v} {w} {m1} {b} mk d en (tried_ran {u = y} {a = c} mk2 ran) = at c.ending refl
      where
        at : (e : Ending) → c.ending ≡ e → Ran depth splits t m s (noted held note prefix pick allowance n c e)
        at (verdict k) g = record { decides = both_sides sp mk d en mk2 (subst (Ended (suc depth) half y m1 (assigned (positive x) r) c) g ran.decides) refl; fit = ran.fit; allowed = ran.allowed }
        at (refused k) g = record {
          decides = subst (Ended depth splits t m s c) (sym g) (refused_second sp mk d en mk2 (subst (Ended (suc depth) half y m1 (assigned (positive x) r) c) g ran.decides));
          fit = ran.fit;
          allowed = ran.allowed;
        }

    -- after the first
    after_first : {a : Standing M} → Tried next (suc depth) (suc splits) u m r (negative x) a →
        ((half : ℕ) (w : Numbering) (m1 : M) → Fit w → half ≤ allowance → Tried next (suc depth) half w m1 r (positive x) (try held note prefix pick allowance next (suc depth) half w m1 r (positive x))) →
        Ran depth splits t m s
        (noted held note prefix pick allowance n
        (second held note prefix pick allowance (λ a. try held note prefix pick allowance next (suc depth) a.splits a.table a.memo r (positive x)) (outermost prefix r).quantifier a a.ending)
        (second held note prefix pick allowance (λ a. try held note prefix pick allowance next (suc depth) a.splits a.table a.memo r (positive x)) (outermost prefix r).quantifier a a.ending).ending)
    after_first (tried_full stop f ok) other = record { decides = full_first sp stop; fit = f; allowed = ok }
    after_first (tried_ran {u = v} {a = a} mk ran) other = at a.ending refl
      where
        stays : (k : Refusal) → a.ending ≡ refused k → (e : Ending) → a.ending ≡ e → Ran depth splits t m s (noted held note prefix pick allowance n a e)
        stays k g (verdict b) h = absurd (cc)
        stays k g (refused j) h = record {
          decides = subst (Ended depth splits t m s a) (sym g) (refused_first sp mk (subst (Ended (suc depth) (suc splits) v m (assigned (negative x) r) a) g ran.decides));
          fit = ran.fit;
          allowed = ran.allowed;
        }

        ended : (b : Bool) → a.ending ≡ verdict b → ends (outermost prefix r).quantifier b ≡ true → (e : Ending) → a.ending ≡ e → Ran depth splits t m s (noted held note prefix pick allowance n a e)
        ended b g en (refused k) h = absurd (cc)
        ended b g en (verdict c) h =
            let i : b ≡ c = cc in
            record { decides = first_only sp mk (subst (Ended (suc depth) (suc splits) v m (assigned (negative x) r) a) h ran.decides) (rw (← i) en) refl; fit = ran.fit; allowed = ran.allowed }

        at : (e : Ending) → a.ending ≡ e →
            Ran depth splits t m s (noted held note prefix pick allowance n (second held note prefix pick allowance (λ a. try held note prefix pick allowance next (suc depth) a.splits a.table a.memo r (positive x)) (outermost prefix r).quantifier a e) (second held note prefix pick allowance (λ a. try held note prefix pick allowance next (suc depth) a.splits a.table a.memo r (positive x)) (outermost prefix r).quantifier a e).ending)
        at (refused k) g = stays k g a.ending refl
        at (verdict b) g = turn (ends (outermost prefix r).quantifier b) refl
          where
            turn : (z : Bool) → ends (outermost prefix r).quantifier b ≡ z → Ran depth splits t m s (noted held note prefix pick allowance n (cond z a (try held note prefix pick allowance next (suc depth) a.splits a.table a.memo r (positive x))) (cond z a (try held note prefix pick allowance next (suc depth) a.splits a.table a.memo r (positive x))).ending)
            turn true en = ended b g en a.ending refl
            turn false en = after_second mk (subst (Ended (suc depth) (suc splits) v m (assigned (negative x) r) a) g ran.decides) en (other a.splits a.table a.memo ran.fit ran.allowed)

  -- a reduced set that is not known
  not_known : (next : Next) (depth splits : ℕ) (t u : Numbering) (m : M) (s r : List (List ℕ)) → Unknown held prefix t m s r (number u r) u → Fit u → splits ≤ allowance → depth ≤ most_open →
      ((k : ℕ) (w : Numbering) (a : M) (l : ℕ) → (l ≡ negative (picked pick (candidates prefix r))) ⊎ (l ≡ positive (picked pick (candidates prefix r))) → Fit w → Has w (assigned l r) → k ≤ allowance → suc depth ≤ most_open →
      Ran (suc depth) k w a (assigned l r) (next (suc depth) k w a (assigned l r))) →
      Ran depth splits t m s (unknown held note prefix pick allowance next depth splits u m r)
  not_known next depth splits t u m s r un f ok deep ih = go (eqb splits allowance) refl (eqb depth most_open) refl
    where
      go : (b : Bool) → eqb splits allowance ≡ b → (c : Bool) → eqb depth most_open ≡ c →
          Ran depth splits t m s
          (cond b (record { ending = refused spent; splits = splits; table = u; memo = m })
          (cond c (record { ending = refused too_deep; splits = splits; table = u; memo = m }) (chosen held note prefix pick allowance next depth splits u m r (picked pick (candidates prefix r)))))
      go true e c g = record { decides = by_allowance un (grind (arith, nat_tests)); fit = f; allowed = ok }
      go false e true g = record { decides = by_depth un (let h : splits ≡ allowance → ⊥ = grind (arith, nat_tests) in omega arith) (grind (arith, nat_tests)); fit = f; allowed = ok }
      go false e false g =
          let h : splits ≡ allowance → ⊥ = grind (arith, nat_tests) in
          let i : depth ≡ most_open → ⊥ = grind (arith, nat_tests) in
          let more : splits < allowance = omega arith in
          let room : depth < most_open = omega arith in
          let sp : Splits held prefix pick allowance depth splits t m s r (number u r) (picked pick (candidates prefix r)) u = record { unknown = un; allowed = more; shallow = room; chosen = refl } in
          after_first next sp
          (tries next (suc depth) (suc splits) u m r (negative (picked pick (candidates prefix r))) f more (λ w fw hw. ih (suc splits) w m _ (inl refl) fw hw more room))
          (λ half w a fw le. tries next (suc depth) half w a r (positive (picked pick (candidates prefix r))) fw le (λ y fy hy. ih half y a _ (inr refl) fy hy le room))

  abbrev Fewer : ℕ → Type 0
  Fewer n = (depth splits : ℕ) (t : Numbering) (m : M) (s : List (List ℕ)) → size s < n → Fit t → Has t s → Within prefix s → splits ≤ allowance → depth ≤ most_open →
      Ran depth splits t m s (run_within held note prefix pick allowance n depth splits t m s)

  pub runs : (n depth splits : ℕ) (t : Numbering) (m : M) (s : List (List ℕ)) → size s < n → Fit t → Has t s → Within prefix s → splits ≤ allowance → depth ≤ most_open →
      Ran depth splits t m s (run_within held note prefix pick allowance n depth splits t m s)
  unfolding run_within
  runs zero depth splits t m s h f k w ok deep = absurd (omega arith)
  runs (suc n) depth splits t m s h f k w ok deep = go (lower (suc (size s)) prefix t s) (lowers prefix (suc (size s)) t s (omega arith) f k w) (λ depth splits t m s. runs n depth splits t m s)
    where
      go : (o : Lowered) → Low prefix t s o → Fewer n → Ran depth splits t m s (on_outcome held note prefix pick allowance (run_within held note prefix pick allowance n) depth splits o.table m o.outcome)
      go o low ih = at o.outcome refl
        where
          at : (a : Option Outcome) → o.outcome ≡ a → Ran depth splits t m s (on_outcome held note prefix pick allowance (run_within held note prefix pick allowance n) depth splits o.table m a)
          at None e = record { decides = full_reducing (subst (λ (a : Option Outcome). ReducesIn prefix t s a o.table) e low.reduces); fit = low.fit; allowed = ok }
          at (Some (decided b)) e = record { decides = by_reducing (subst (λ (a : Option Outcome). ReducesIn prefix t s a o.table) e low.reduces); fit = low.fit; allowed = ok }
          at (Some (left r)) e = known (held m (number o.table r)) refl
            where
              c : Within prefix r × Clean r
              c = low.left_clean r e

              standing : stands o.table (number o.table r) ≡ Some r
              standing = clean_number o.table r c.1.some_clause c.1.no_empty (low.left_has r e)

              some : 0 < length (candidates prefix r)
              some = some_candidate prefix r c.0 c.1

              falls : (cs : List Candidate) → candidates prefix r ≡ cs → 0 < length cs → (size (assigned (negative (picked pick cs)) r) < size r) × (size (assigned (positive (picked pick cs)) r) < size r)
              falls [] g h = absurd (omega arith)
              falls (d ∷ cs) g h = picked_falls pick picks prefix r d cs g

              known : (a : Option Bool) → held m (number o.table r) ≡ a →
                  Ran depth splits t m s (on_recall held note prefix pick allowance (unknown held note prefix pick allowance (run_within held note prefix pick allowance n) depth splits o.table m r) splits o.table m a)
              known (Some b) g = record { decides = recalled (subst (λ (a : Option Outcome). ReducesIn prefix t s a o.table) e low.reduces) standing g; fit = low.fit; allowed = ok }
              known None g =
                  let z = low.left_size r e in
                  let y = falls (candidates prefix r) refl some in
                  not_known (run_within held note prefix pick allowance n) depth splits t o.table m s r
                  (record { reduced = subst (λ (a : Option Outcome). ReducesIn prefix t s a o.table) e low.reduces; numbered = standing; absent = g; shown = some }) low.fit ok deep
                  (λ k w a l which fw hw le room. ih (suc depth) k w a (assigned l r) (elim which [ inl q ↦ rw q (omega (arith, y.0, z, h)) | inr q ↦ rw q (omega (arith, y.1, z, h)) ]) fw hw (within_assigned prefix l r c.0) le room)

pub runs_decide : {M : Type 0} (held : M → Pairs) (note : M → ℕ → Bool → M) → RunsDecide held note
runs_decide held note prefix pick allowance table memo s w apart within has picks =
    (runs held note prefix pick allowance picks (suc (size s)) 0 0 table memo s (omega arith) (record { apart = apart; within = within }) has w (omega arith) (omega arith)).decides
