-- One step of any operation: a set is made by its two sides, the with-side first.
use Rattle.std.proofs.Common.{◌≡◌, ℕ, List, [], ◌∷◌, Ok, Err, Result, sym, refl, ap, ◌∙◌, subst, inl, inr}
use Rattle.qbf.specs.Nodes.{Node as NodeOf}
use Rattle.sets.specs.Sides.{Over, joined}
use Rattle.sets.proofs.Joined.{node_low, node_high}
use Rattle.table.specs.declared.table.Full.{Full}
use Rattle.table.specs.declared.table.Table.{Table}
use Rattle.table.specs.Tables.{Number, clauses, Is, Adds, Makes}
use Rattle.table.proofs.Grown.{Within, adds_same, adds_widen, adds_then, is_kept, misses_widen}

abbrev pub Set : Type 0
Set = List (List ℕ)

-- the set s has the code k and the sides hi and lo
pub record Split (s : Set) (k : ℕ) (hi lo : Set) : Type 0 where
  pub is : s ≡ joined k hi lo
  pub hi_over : Over k hi
  pub lo_over : Over k lo

-- the set is there already
pub there : (t : Table) (s : Set) (n : ℕ) → Number t n → clauses t n ≡ s → Makes t s t (Ok n)
there t s n held means = record { grows = adds_same t (s ∷ []); cases = record { held = held; means = means } }

-- the same making, of a set that is written otherwise
pub made_as : {t : Table} {r s : Set} {u : Table} {a : Result ℕ Full} → r ≡ s → Makes t r u a → Makes t s u a
made_as {t} {r} {s} {u} {a} e m = subst (λ z. Makes t z u a) e m

wide_high : {s : Set} {k : ℕ} {hi lo : Set} → Split s k hi lo → (x : Set) → NodeOf x hi → NodeOf x s
wide_high {s} {k} {hi} {lo} p x n = subst (NodeOf x) (sym p.is) (node_high k hi lo p.lo_over n)

wide_low : {s : Set} {k : ℕ} {hi lo : Set} → Split s k hi lo → (x : Set) → NodeOf x lo → NodeOf x s
wide_low {s} {k} {hi} {lo} p x n = subst (NodeOf x) (sym p.is) (node_low k hi lo p.lo_over n)

within_one : {r s : Set} → ((x : Set) → NodeOf x r → NodeOf x s) → Within (r ∷ []) (s ∷ [])
within_one {r} {s} wide x z (inl e) n = (s, inl refl, wide x (subst (NodeOf x) e n))
within_one wide x z (inr i) n = absurd i

pub grows_within : (t : Table) (r : Set) (u : Table) (s : Set) → ((x : Set) → NodeOf x r → NodeOf x s) → Adds t (r ∷ []) u → Adds t (s ∷ []) u
grows_within t r u s wide g = adds_widen t (r ∷ []) u (s ∷ []) (within_one wide) g

module _ {t : Table} {s : Set} {k : ℕ} {hi lo : Set} {u : Table} (p : Split s k hi lo) where
  after_high : Adds t (hi ∷ []) u → Adds t (s ∷ []) u
  after_high g = grows_within t hi u s (wide_high p) g

  pub refused_high : {e : Full} → Makes t hi u (Err e) → Makes t s u (Err e)
  refused_high m = record { grows = after_high m.grows; cases = misses_widen hi u s (wide_high p) m.cases }

  module _ {high : ℕ} {w : Table} (first : Makes t hi u (Ok high)) where
    after_low : Adds u (lo ∷ []) w → Adds t (s ∷ []) w
    after_low g = adds_then t (s ∷ []) u w (after_high first.grows) (grows_within u lo w s (wide_low p) g)

    pub refused_low : {e : Full} → Makes u lo w (Err e) → Makes t s w (Err e)
    refused_low m = record { grows = after_low m.grows; cases = misses_widen lo w s (wide_low p) m.cases }

    module _ {low : ℕ} (second : Makes u lo w (Ok low)) where
      high_now : Is hi w high
      high_now = is_kept u (lo ∷ []) w second.grows hi high first.cases

      -- what `make` requires
      pub ready_high : Number w high
      ready_high = high_now.held

      pub ready_low : Number w low
      ready_low = second.cases.held

      pub ready_high_over : Over k (clauses w high)
      ready_high_over = subst (Over k) (sym high_now.means) p.hi_over

      pub ready_low_over : Over k (clauses w low)
      ready_low_over = subst (Over k) (sym second.cases.means) p.lo_over

      made_is : joined k (clauses w high) (clauses w low) ≡ s
      made_is = ap (λ z. joined k z (clauses w low)) high_now.means ∙ ap (joined k hi) second.cases.means ∙ sym p.is

      pub made : {v : Table} {r : Result ℕ Full} → Makes w (joined k (clauses w high) (clauses w low)) v r → Makes t s v r
      made {v} {r} m =
          let n = made_as made_is m in
          record { grows = adds_then t (s ∷ []) w v (after_low second.grows) n.grows; cases = n.cases }
