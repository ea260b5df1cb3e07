-- One literal more.
use Rattle.std.proofs.Common.{◌≡◌, ℕ, Bool, true, false, cond, ◌||◌, List, [], ◌∷◌, ◌++◌, sym, refl, ◌∙◌}
use Rattle.std.proofs.lemmas.Bool.{cond-true, cond-false}
use Rattle.qbf.specs.Literals.{complement}
use Rattle.qbf.specs.Lists.{mem}
use Rattle.clause.specs.Once.{once, both_signs}
use Rattle.qbf.proofs.Lists.{mem_in, mem_not_in}
use Rattle.clause.proofs.Sets.{mem_once, once_new, once_old, both_signs_more}

once_more : (xs : List ℕ) (x : ℕ) → cond (mem x (once xs)) (once xs) (once xs ++ x ∷ []) ≡ once (xs ++ x ∷ [])
once_more xs x = by_mem (mem x xs) refl
  where
    by_mem : (b : Bool) → mem x xs ≡ b → cond (mem x (once xs)) (once xs) (once xs ++ x ∷ []) ≡ once (xs ++ x ∷ [])
    by_mem true e = cond-true _ _ _ (mem_once x xs ∙ e) ∙ sym (once_old xs x (mem_in x xs e))
    by_mem false e = cond-false _ _ _ (mem_once x xs ∙ e) ∙ sym (once_new xs x (mem_not_in x xs e))

-- the literals taken so far are xs: their codes are ys
pub codes_more : (xs ys : List ℕ) (x : ℕ) → ys ≡ once xs → cond (mem x ys) ys (ys ++ x ∷ []) ≡ once (xs ++ x ∷ [])
codes_more xs ys x e = rw e (once_more xs x)

pub signs_more : (xs ys : List ℕ) (b : Bool) (x : ℕ) → ys ≡ once xs → b ≡ both_signs xs → (b || mem (complement x) ys) ≡ both_signs (xs ++ x ∷ [])
signs_more xs ys b x e f = rw (e, f, mem_once) (sym (both_signs_more xs x))
