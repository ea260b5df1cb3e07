-- The four sets of a setting, one after another.
use Rattle.std.proofs.Common.{◌≡◌, ℕ, List, [], ◌∷◌, Ok, Err, Result, ap, ◌∙◌}
use Rattle.qbf.specs.Literals.{complement}
use Rattle.qbf.specs.Clauses.{union, lacking, taken_out, assigned, setting}
use Rattle.table.specs.declared.table.Full.{Full}
use Rattle.table.specs.declared.table.Table.{Table}
use Rattle.table.specs.Tables.{clauses, Makes, MakesAll}
use Rattle.table.proofs.Grown.{is_kept}
use Rattle.table.proofs.Making.{made_one, all_one, all_then, all_stopped}
use Rattle.diagram.proofs.Steps.{Set, made_as}

-- the literal l is set in the set s; m is its complement
module _ (t : Table) (s : Set) (l m : ℕ) (other : m ≡ complement l) where
  pub stopped_left : {u : Table} {e : Full} → Makes t (lacking l s) u (Err e) → MakesAll t (setting l s) (assigned l s) u (Err e)
  stopped_left {u} {e} a = all_stopped t (lacking l s) u e _ (assigned l s) a

  module _ {u : Table} {left : ℕ} (first : Makes t (lacking l s) u (Ok left)) where
    short_is : taken_out m (clauses u left) ≡ taken_out (complement l) (lacking l s)
    short_is = ap (λ k. taken_out k (clauses u left)) other ∙ ap (taken_out (complement l)) first.cases.means

    pub stopped_short : {v : Table} {e : Full} → Makes u (taken_out m (clauses u left)) v (Err e) → MakesAll t (setting l s) (assigned l s) v (Err e)
    stopped_short {v} {e} b = all_then t (lacking l s ∷ []) u _ (assigned l s) v (Err e) (made_one t (lacking l s) u left first) (all_stopped u _ v e _ (assigned l s) (made_as short_is b))

    module _ {v : Table} {short : ℕ} (second : Makes u (taken_out m (clauses u left)) v (Ok short)) where
      rest_is : lacking m (clauses v left) ≡ lacking (complement l) (lacking l s)
      rest_is = ap (λ k. lacking k (clauses v left)) other ∙ ap (lacking (complement l)) (is_kept u _ v second.grows (lacking l s) left first.cases).means

      two : {more : List Set} {w : Table} {r : Result ℕ Full} → MakesAll v more (assigned l s) w r → MakesAll t (lacking l s ∷ (taken_out (complement l) (lacking l s) ∷ more)) (assigned l s) w r
      two {more} {w} {r} c =
          all_then t (lacking l s ∷ []) u _ (assigned l s) w r (made_one t (lacking l s) u left first)
          (all_then u (taken_out (complement l) (lacking l s) ∷ []) v more (assigned l s) w r (made_one u _ v short (made_as short_is second)) c)

      pub stopped_rest : {w : Table} {e : Full} → Makes v (lacking m (clauses v left)) w (Err e) → MakesAll t (setting l s) (assigned l s) w (Err e)
      stopped_rest {w} {e} c = two (all_stopped v _ w e _ (assigned l s) (made_as rest_is c))

      module _ {w : Table} {rest : ℕ} (third : Makes v (lacking m (clauses v left)) w (Ok rest)) where
        union_is : union (clauses w short) (clauses w rest) ≡ assigned l s
        union_is =
            ap (λ z. union z (clauses w rest)) ((is_kept v _ w third.grows _ short second.cases).means ∙ short_is)
            ∙ ap (union (taken_out (complement l) (lacking l s))) (third.cases.means ∙ rest_is)

        pub all_set : {x : Table} {r : Result ℕ Full} → Makes w (union (clauses w short) (clauses w rest)) x r → MakesAll t (setting l s) (assigned l s) x r
        all_set {x} {r} d =
            two (all_then v (lacking (complement l) (lacking l s) ∷ []) w (assigned l s ∷ []) (assigned l s) x r (made_one v _ w rest (made_as rest_is third)) (all_one w (assigned l s) x r (made_as union_is d)))
