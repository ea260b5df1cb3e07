-- The histories that lead to a session, and what a call owes after each of them.
use Rattle.std.specs.Prelude.{ℕ, Bool, List, [], ◌∷◌}
use Rattle.qbf.specs.declared.Candidate.{Candidate}
use Rattle.qbf.specs.Memo.{Pairs, NeverHolds, Retains}
use Rattle.ledger.specs.Ledger.{Dealing, load, decide, write, forget}
use Rattle.ledger.specs.Promises.{Promised, RepeatPromised}
use Rattle.histories.specs.Standing.{Standing, Fresh}
use Rattle.histories.specs.Dealings.{Deals}

-- The dealings, newest first, led from a new session to where it stands.
pub data Led {M : Type 0} (held : M → Pairs) (notes : M → ℕ → Bool → M → Type 0) (pick : List Candidate → ℕ) : List Dealing → Standing M → Type 0 where
  led_new : {s : Standing M} → Fresh held s → Led held notes pick [] s
  led_on : {history : List Dealing} {d : Dealing} {s t : Standing M} → Led held notes pick history s → Deals held notes pick s d t → Led held notes pick (d ∷ history) t

-- of a decision just after a verdict: it is given again without a split, if the memo holds what was just noted
abbrev pub Repeated : (retains : Type 0) → List Dealing → Dealing → Type 0
Repeated retains history (load text a) = Unit {0}
Repeated retains history (decide allowance a) = RepeatPromised retains history allowance a
Repeated retains history (write space a) = Unit {0}
Repeated retains history forget = Unit {0}

-- All that is promised of a dealing after a history, by the ledger of that history.
pub record Honest {M : Type 0} (held : M → Pairs) (notes : M → ℕ → Bool → M → Type 0) (pick : List Candidate → ℕ) (history : List Dealing) (d : Dealing) : Type 0 where
  pub promised : Promised pick (NeverHolds held) history d
  pub repeated : Repeated (Retains held notes) history d

-- and of every dealing of a history
abbrev pub AllHonest : {M : Type 0} → (M → Pairs) → (M → ℕ → Bool → M → Type 0) → (List Candidate → ℕ) → List Dealing → Type 0
AllHonest held notes pick [] = Unit {0}
AllHonest held notes pick (d ∷ history) = Honest held notes pick history d × AllHonest held notes pick history
