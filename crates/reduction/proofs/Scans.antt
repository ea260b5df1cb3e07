-- A look for the lowest number that passes a test, from 0 upward.
use Rattle.std.proofs.Common.{◌≡◌, ℕ, zero, suc, ◌+◌, ◌<◌, Bool, true, false, List, [], ◌∷◌, length, get_or, Some, None, Option, sym, refl, ◌∙◌, arith}
use Rattle.std.proofs.iter.Yields.{nat_range_steps}
use Rattle.std.proofs.lemmas.Iterator.{YieldsList-from_range}
use Rattle.std.proofs.lemmas.Iterator.Search.{find_from_yields_List}
use Rattle.std.specs.Bool.{⊤}
use Rattle.std.specs.Fn.{CalledAt}
use Rattle.std.specs.Iterator.{YieldsThen}
use Rattle.std.specs.List.{find, range_with_len, FoldsTo}
use Rattle.std.specs.Option.{MatchOption, option_map}
use Rattle.std.specs.declared.ops.Range.{Range}
use denote.Param.Members.{Mut}
use denote.Ref.{Bor}
use denote.Enum.Bare.{sameb}
use Rattle.qbf.specs.contracts.Quantifier.{the_type}
use Rattle.qbf.specs.declared.Quantifier.{Quantifier}
use Rattle.qbf.specs.declared.Quantifier.TheVariants.{Existential, Universal}
use Rattle.qbf.specs.Reduce.{same, binds, lowest}
use Rattle.formula.specs.declared.prefix.Binding.{Binding}
use Rattle.reduction.specs.Numbered.{quantified}

-- `find` over the numbers from c on finds the lowest that passes
lowest_find : (test : ℕ → Bool) (n c : ℕ) → find test (range_with_len c n) ≡ lowest test n c
lowest_find test zero c = refl
lowest_find test (suc n) c = let a : c + 1 ≡ suc c = omega arith in let r = lowest_find test n (suc c) in rw (a, r)

option_itself : (r : Option ℕ) → option_map (λ x. x) r ≡ r
option_itself None = refl
option_itself (Some x) = refl

pub found_lowest : {F : Type 0} {g : Mut F (Bor ℕ × Unit {0}) Bool} (test : ℕ → Bool) (n : ℕ) (u : Range ℕ) (f : F) (r : Option ℕ) →
    (xs : List ℕ) × (j : F) × YieldsThen nat_range_steps (record { start = 0; end = n }) xs r u × FoldsTo (λ p x q. CalledAt g p x false q) f xs j × MatchOption r ⊤ (λ x. (h : F) × CalledAt g j x true h) →
    ((x : ℕ) (b : Bool) (q : F) → CalledAt g f x b q → (q ≡ f) × (b ≡ test x)) → r ≡ lowest test n 0
found_lowest test n u f r ran calls =
    sym (option_itself r) ∙ find_from_yields_List test u f r ran (YieldsList-from_range 0 n n refl (omega arith)) calls ∙ lowest_find test n 0

-- tests that agree find the same
pub lowest_same : (f g : ℕ → Bool) (n c : ℕ) → ((l : ℕ) → l < c + n → f l ≡ g l) → lowest f n c ≡ lowest g n c
lowest_same f g zero c h = refl
lowest_same f g (suc n) c h = let a = h c (omega arith) in let r = lowest_same f g n (suc c) (λ l i. h l (omega arith)) in cc

-- how the prefix binds the variable at a place

pub same_self : (q : Quantifier) → same q q ≡ true
same_self Existential = refl
same_self Universal = refl

pub same_other : (q r : Quantifier) → (r ≡ q → ⊥) → same q r ≡ false
same_other Existential Existential n = absurd (n refl)
same_other Existential Universal n = refl
same_other Universal Existential n = refl
same_other Universal Universal n = absurd (n refl)

pub binds_is : (q : Quantifier) (bs : List Binding) (x : ℕ) (d : Binding) → x < length bs → binds q (quantified bs) x ≡ same q (get_or bs x d).quantifier
binds_is q [] x d h = absurd (let no : ⊥ = omega arith in no)
binds_is q (b ∷ bs) zero d h = refl
binds_is q (b ∷ bs) (suc x) d h = binds_is q bs x d (omega arith)

-- what `==` of quantifiers tells
pub same_told : (q r : Quantifier) → sameb the_type r q ≡ same q r
same_told Existential Existential = refl
same_told Existential Universal = refl
same_told Universal Existential = refl
same_told Universal Universal = refl
