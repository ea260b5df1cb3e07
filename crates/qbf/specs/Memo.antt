-- What a memo means: for each node number at most one verdict.
use Rattle.std.specs.Prelude.{◌≡◌, ℕ, Bool, ◌⊎◌, Some, None, Option, ◌≢◌}

-- the pairs that a memo holds, as a function from the number
abbrev pub Pairs : Type 0
Pairs = ℕ → Option Bool

-- after a note of the verdict v for the number n, each pair is the noted one or an earlier one for another number
abbrev pub Kept : Pairs → ℕ → Bool → Pairs → Type 0
Kept before n v after = (k : ℕ) (w : Bool) → after k ≡ Some w → ((k ≡ n) × (w ≡ v)) ⊎ ((k ≢ n) × (before k ≡ Some w))

-- no pair is held
abbrev pub Empty : Pairs → Type 0
Empty held = (k : ℕ) → held k ≡ None

-- no memo of the type ever holds a pair
abbrev pub NeverHolds : {M : Type 0} → (M → Pairs) → Type 0
NeverHolds {M} held = (memo : M) → Empty (held memo)

-- a pair is held just after it is noted, whatever else is forgotten
abbrev pub Retains : {M : Type 0} → (M → Pairs) → (M → ℕ → Bool → M → Type 0) → Type 0
Retains {M} held notes = (before : M) (n : ℕ) (v : Bool) (after : M) → notes before n v after → held after n ≡ Some v
