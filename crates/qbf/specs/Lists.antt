-- Membership and distinctness in lists.
use Rattle.std.specs.Prelude.{◌≡◌, ℕ, Bool, false, cond, ◌||◌, ◌⊎◌, List, [], ◌∷◌, ◌==◌, ◌≢◌}
use Rattle.std.specs.List.{AllByRecursion}

-- x stands in the list
abbrev pub In : {A : Type 0} → A → List A → Type 0
In x [] = ⊥
In x (y ∷ ys) = (x ≡ y) ⊎ In x ys

-- no element stands twice
abbrev pub Distinct : {A : Type 0} → List A → Type 0
Distinct [] = Unit {0}
Distinct (x ∷ xs) = AllByRecursion (λ y. x ≢ y) xs × Distinct xs

-- whether a number stands in the list
abbrev pub mem : ℕ → List ℕ → Bool
mem l [] = false
mem l (c ∷ cs) = l == c || mem l cs

-- the list with every l taken out
abbrev pub without : ℕ → List ℕ → List ℕ
without l [] = []
without l (c ∷ cs) = cond (l == c) (without l cs) (c ∷ without l cs)
