-- The clauses stored one after the other.
use Rattle.std.proofs.Common.{◌≡◌, ℕ, List, [], ◌∷◌, ◌++◌, Ok, Err, Result, sym, refl, ap, ◌∙◌, subst, append_assoc, append-nil, arith}
use Rattle.qbf.specs.Clauses.{union}
use Rattle.sets.specs.Ordered.{clause_of}
use Rattle.sets.specs.Formed.{formed, forming}
use Rattle.table.specs.declared.table.Full.{Full}
use Rattle.table.specs.declared.table.Table.{Table}
use Rattle.table.specs.Tables.{clauses, Is, Makes, Made, MakesAll}
use Rattle.table.proofs.Tables.{ends_stand}
use Rattle.table.proofs.Grown.{is_kept}
use Rattle.table.proofs.Making.{made_none, made_one, made_then, all_then, all_stopped}

abbrev Set : Type 0
Set = List (List ℕ)

-- The clauses that are still to be stored are the rest: the sets that are made so far, of which n has the number of the last,
-- are the first of all that storing makes.
pub record Stored (t : Table) (cs rest : Set) (u : Table) (n : ℕ) : Type 0 where
  pub so_far : Set
  pub done : List Set
  pub made : Made t done u
  pub is : Is so_far u n
  pub sets : forming [] cs ≡ done ++ forming so_far rest
  pub set : formed [] cs ≡ formed so_far rest

pub none_stored : (t : Table) (cs : Set) → Stored t cs cs t 0
none_stored t cs = record {
  so_far = [];
  done = [];
  made = made_none t;
  is = record { held = omega arith; means = (ends_stand t).0 };
  sets = refl;
  set = refl;
}

pub all_stored : (t : Table) (cs : Set) (u : Table) (n : ℕ) → Stored t cs [] u n → MakesAll t (forming [] cs) (formed [] cs) u (Ok n)
all_stored t cs u n s = record {
  cases = (subst (λ (z : List Set). Made t z u) (sym (s.sets ∙ append-nil s.done)) s.made, subst (λ (z : Set). Is z u n) (sym s.set) s.is);
}

-- the clause c comes next
module _ (t : Table) (cs : Set) (c : List ℕ) (rest : Set) (u : Table) (n : ℕ) (s : Stored t cs (c ∷ rest) u n) where
  abbrev alone : Set
  alone = clause_of c ∷ []

  abbrev joined : Set
  joined = union alone s.so_far

  stops : (w : Table) (e : Full) → MakesAll u (alone ∷ (joined ∷ forming joined rest)) (formed [] cs) w (Err e) → MakesAll t (forming [] cs) (formed [] cs) w (Err e)
  stops w e m = subst (λ (z : List Set). MakesAll t z (formed [] cs) w (Err e)) (sym s.sets) (all_then t s.done u _ (formed [] cs) w (Err e) s.made m)

  -- there is no room for the clause alone
  pub stops_alone : {w : Table} {e : Full} → Makes u alone w (Err e) → MakesAll t (forming [] cs) (formed [] cs) w (Err e)
  stops_alone {w} {e} m = stops w e (all_stopped u alone w e _ (formed [] cs) m)

  module _ {w : Table} {k : ℕ} (first : Makes u alone w (Ok k)) where
    kept : Is s.so_far w n
    kept = is_kept u (alone ∷ []) w first.grows s.so_far n s.is

    union_is : union (clauses w k) (clauses w n) ≡ joined
    union_is = ap (λ (z : Set). union z (clauses w n)) first.cases.means ∙ ap (union alone) kept.means

    joins : {v : Table} {r : Result ℕ Full} → Makes w (union (clauses w k) (clauses w n)) v r → Makes w joined v r
    joins {v} {r} second = subst (λ (z : Set). Makes w z v r) union_is second

    -- there is no room for it together with those before it
    pub stops_union : {v : Table} {e : Full} → Makes w (union (clauses w k) (clauses w n)) v (Err e) → MakesAll t (forming [] cs) (formed [] cs) v (Err e)
    stops_union {v} {e} second = stops v e (all_then u (alone ∷ []) w _ (formed [] cs) v (Err e) (made_one u alone w k first) (all_stopped w joined v e _ (formed [] cs) (joins second)))

    pub one_more : {v : Table} {m : ℕ} → Makes w (union (clauses w k) (clauses w n)) v (Ok m) → Stored t cs rest v m
    one_more {v} {m} second =
        let two = made_then u (alone ∷ []) w (joined ∷ []) v (made_one u alone w k first) (made_one w joined v m (joins second)) in
        record {
          so_far = joined;
          done = s.done ++ (alone ∷ (joined ∷ []));
          made = made_then t s.done u _ v s.made two;
          is = (joins second).cases;
          sets = s.sets ∙ sym (append_assoc s.done (alone ∷ (joined ∷ [])) (forming joined rest));
          set = s.set;
        }
