-- Marks that agree with a list of codes.
use Rattle.std.proofs.Common.{◌≡◌, ℕ, ◌<◌, Bool, true, false, List, [], ◌∷◌, ◌++◌, length, get_or, set, replicate, sym, ap, ◌∙◌, inl, ⊎_elim, arith}
use Rattle.std.proofs.lemmas.List.{length-replicate}
use Rattle.std.proofs.lemmas.List.{get_or-set_same, get_or-set_other, get_or-replicate, get_or_past}
use Rattle.std.proofs.lemmas.Bool.{cases_eq, cases_lt}
use Rattle.std.proofs.lemmas.Bool.Decides.{same_from_decides, Decides-like}
use Rattle.qbf.specs.Lists.{In, mem}
use Rattle.qbf.proofs.Lists.{in_mem, mem_decides, in_left, in_right, in_cases}

-- exactly the codes of the list are marked
abbrev pub Marked : List Bool → List ℕ → Type 0
Marked m xs = (k : ℕ) → get_or m k false ≡ mem k xs

pub marked_none : (m : List Bool) → m ≡ replicate 512 false → Marked m []
marked_none m e k =
    ap (λ (q : List Bool). get_or q k false) e
    ∙ ⊎_elim (λ h. get_or-replicate 512 k false false h) (λ h. get_or_past (replicate 512 false) k false (omega (arith, length-replicate 512 false))) (cases_lt k 512)

-- a list with one more code, which has come before or is another one
mem_kept : (k : ℕ) (xs : List ℕ) (x : ℕ) → (k ≡ x → In k xs) → mem k xs ≡ mem k (xs ++ x ∷ [])
mem_kept k xs x h =
    same_from_decides (mem k xs) (mem k (xs ++ x ∷ []))
    (mem_decides k xs)
    (Decides-like (mem k (xs ++ x ∷ [])) (λ i. ⊎_elim (λ j. j) (λ j. ⊎_elim h (λ z. absurd z) j) (in_cases k xs (x ∷ []) i)) (in_left k xs (x ∷ [])) (mem_decides k (xs ++ x ∷ [])))

pub marked_new : (m m' : List Bool) (xs : List ℕ) (x : ℕ) → length m ≡ 512 → x < 512 → m' ≡ set m x true → Marked m xs → Marked m' (xs ++ x ∷ [])
marked_new m m' xs x l h e marked k =
    ap (λ (q : List Bool). get_or q k false) e
    ∙ ⊎_elim
    (λ f. ap (λ (q : ℕ). get_or (set m x true) q false) f ∙ get_or-set_same m x true false (omega arith) ∙ sym (in_mem k (xs ++ x ∷ []) (in_right k xs (x ∷ []) (inl f))))
    (λ n. get_or-set_other m x k true false n ∙ marked k ∙ mem_kept k xs x (λ f. absurd (n f)))
    (cases_eq k x)
