-- Clauses and clause sets. A clause is the list of its literals' codes, in rising order; a set of clauses is a list
-- in one order, so that equal sets are equal lists.
use Rattle.std.specs.Prelude.{◌≡◌, ℕ, ◌<◌, Bool, true, false, cond, not, ◌&&◌, ◌||◌, List, [], ◌∷◌, map, filter, ◌==◌, nat_lt}
use Rattle.std.specs.List.{AllByRecursion}
use Rattle.qbf.specs.Literals.{complement}
use Rattle.qbf.specs.Lists.{mem, without}

-- the order of clauses: the lower code at the first difference goes first, and a clause that has ended counts as higher
abbrev pub below : List ℕ → List ℕ → Bool
below [] d = false
below (x ∷ c) [] = true
below (x ∷ c) (y ∷ d) = nat_lt x y || (x == y && below c d)

-- a clause with its codes in rising order
abbrev pub Rising : List ℕ → Type 0
Rising [] = Unit {0}
Rising (x ∷ c) = AllByRecursion (λ y. x < y) c × Rising c

-- clauses in their order, none twice
abbrev pub Sorted : List (List ℕ) → Type 0
Sorted [] = Unit {0}
Sorted (c ∷ s) = AllByRecursion (λ d. below c d ≡ true) s × Sorted s

-- a clause set in the one form that it has
abbrev pub Canonical : List (List ℕ) → Type 0
Canonical s = AllByRecursion Rising s × Sorted s

-- the clauses of two sets, each once and in order
abbrev pub weave : List ℕ → (List (List ℕ) → List (List ℕ)) → List (List ℕ) → List (List ℕ)
weave c rest [] = c ∷ rest []
weave c rest (d ∷ t) = cond (below c d) (c ∷ rest (d ∷ t)) (cond (below d c) (d ∷ weave c rest t) (c ∷ rest t))

abbrev pub union : List (List ℕ) → List (List ℕ) → List (List ℕ)
union [] t = t
union (c ∷ s) t = weave c (union s) t

-- the clauses that hold l
abbrev pub holding : ℕ → List (List ℕ) → List (List ℕ)
holding l s = filter (mem l) s

-- the clauses that do not hold l
abbrev pub lacking : ℕ → List (List ℕ) → List (List ℕ)
lacking l s = filter (λ c. not (mem l c)) s

-- the clauses that hold l, with it taken out
abbrev pub taken_out : ℕ → List (List ℕ) → List (List ℕ)
taken_out l s = map (without l) (holding l s)

-- Setting the literal l true: the clauses that hold it go, and its complement is taken out of the others.
abbrev pub assigned : ℕ → List (List ℕ) → List (List ℕ)
assigned l s = union (taken_out (complement l) (lacking l s)) (lacking (complement l) (lacking l s))

-- the four sets that setting l makes, in order; the last is the result
abbrev pub setting : ℕ → List (List ℕ) → List (List (List ℕ))
setting l s =
    lacking l s
    ∷ taken_out (complement l) (lacking l s)
    ∷ lacking (complement l) (lacking l s)
    ∷ assigned l s
    ∷ []
