-- Lists without repetition that have the same elements are as long.
use Rattle.std.proofs.Common.{◌≡◌, ℕ, eqb, List, [], ◌∷◌, sym, refl, ◌∙◌, arith}
use Rattle.std.specs.List.{IsDistinct}
use Rattle.std.specs.Set.{is_member}
use Rattle.std.specs.Cmp.{nat_eq_equiv}
use Rattle.std.proofs.ByRecursion.{All-weaker}
use Rattle.std.proofs.lemmas.Bool.{ne_eqb}
use Rattle.std.proofs.lemmas.Map.Made.{length-from_same_keys}
use Rattle.qbf.specs.Lists.{Distinct, mem}
use Rattle.qbf.specs.Memo.{Pairs}
use Rattle.memos.specs.Notes.{Holding}

keys_distinct : (xs : List ℕ) → Distinct xs → IsDistinct eqb xs
unfolding IsDistinct
keys_distinct [] d = tt
keys_distinct (x ∷ xs) d = (All-weaker _ _ (λ y. ne_eqb x y) xs d.0, keys_distinct xs d.1)

key_listed : (xs : List ℕ) (k : ℕ) → is_member eqb xs k ≡ mem k xs
key_listed [] k = refl
key_listed (x ∷ xs) k = rw (key_listed xs k)

pub one_count : (held : Pairs) (m n : ℕ) → Holding held m → Holding held n → m ≡ n
one_count held m n a b =
    let same = length-from_same_keys nat_eq_equiv a.numbers b.numbers (keys_distinct a.numbers a.apart) (keys_distinct b.numbers b.apart) (λ k. key_listed a.numbers k ∙ sym (a.listed k) ∙ b.listed k ∙ sym (key_listed b.numbers k)) in
    omega (arith, a.long, b.long)
