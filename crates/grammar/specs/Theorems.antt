-- What is proved of the format.
use Rattle.std.specs.Prelude.{◌≡◌, ℕ, true, false, ◌⊎◌, List, [], ◌∷◌, map, Ok, Err}
use Rattle.std.specs.List.{AllByRecursion}
use Rattle.qbf.specs.Lists.{In}
use Rattle.clause.specs.Once.{once, both_signs, same_set}
use Rattle.words.specs.Numbers.{Iff}
use Rattle.formula.specs.Views.{Reading}
use Rattle.grammar.specs.declared.fault.ReadFault.{ReadFault}
use Rattle.grammar.specs.declared.fault.Rule.{Rule}
use Rattle.grammar.specs.Grammar.{Format}
use Rattle.grammar.specs.Refusals.{Refused}
use Rattle.grammar.specs.Steps.{Answer, read_all}
use Rattle.grammar.specs.Stored.{store_all}

-- the right answer to a text: the formula exactly where the text has the format with that formula,
-- and a refusal exactly where the rules of refusal say so
pub record Answers (text : List ℕ) (r : Answer) : Type 0 where
  pub accepted : (f : Reading) → Iff (r ≡ Ok f) (Format text f)
  pub refused : (e : ReadFault) → Iff (r ≡ Err e) (Refused text e.rule e.at)

-- reading word by word gives the right answer
abbrev pub ReadingStands : Type 0
ReadingStands = (text : List ℕ) → Answers text (read_all text)

-- every text has one formula or one refusal, and never two of them
pub record Decided (text : List ℕ) : Type 0 where
  pub one_formula : (f g : Reading) → Format text f → Format text g → f ≡ g
  pub one_refusal : (r s : Rule) (i j : ℕ) → Refused text r i → Refused text s j → (r ≡ s) × (i ≡ j)
  pub not_both : (f : Reading) (r : Rule) (i : ℕ) → Format text f → Refused text r i → ⊥
  pub either : ((f : Reading) × Format text f) ⊎ ((r : Rule) × (i : ℕ) × Refused text r i)

abbrev pub TextsStand : Type 0
TextsStand = (text : List ℕ) → Decided text

-- the first list is the second with elements left out
pub data LeavesOut {A : Type 0} : List A → List A → Type 0 where
  done : LeavesOut [] []
  keeps : {x : A} {xs ys : List A} → LeavesOut xs ys → LeavesOut (x ∷ xs) (x ∷ ys)
  skips : {y : A} {xs ys : List A} → LeavesOut xs ys → LeavesOut xs (y ∷ ys)

-- no clause of the list has the same literals as a later one
abbrev pub Unlike : List (List ℕ) → Type 0
Unlike [] = Unit {0}
Unlike (c ∷ cs) = AllByRecursion (λ d. same_set c d ≡ false) cs × Unlike cs

-- the stored clauses of a text: in the order written, each literal once, none with both signs of a variable, no two with
-- the same literals, and every other clause as a set among them
pub record Stores (written stored : List (List ℕ)) : Type 0 where
  pub in_order : LeavesOut stored (map once written)
  pub one_sign : AllByRecursion (λ c. both_signs c ≡ false) stored
  pub unlike : Unlike stored
  pub complete : (c : List ℕ) → In c written → both_signs c ≡ false → (d : List ℕ) × In d stored × (same_set (once c) d ≡ true)

abbrev pub StoredStands : Type 0
StoredStands = (written : List (List ℕ)) → Stores written (store_all [] written)
