-- The sets that a decision makes, in order; where the table is full, the one that could not be made is the last.
use Rattle.std.specs.Prelude.{ℕ, Bool, List, [], ◌∷◌, ◌++◌, Option}
use Rattle.qbf.specs.declared.Quantifier.{Quantifier}
use Rattle.qbf.specs.declared.Candidate.{Candidate}
use Rattle.qbf.specs.Literals.{positive, negative}
use Rattle.qbf.specs.Lists.{In}
use Rattle.qbf.specs.Memo.{Pairs}
use Rattle.qbf.specs.Chooser.{Picks}
use Rattle.qbf.specs.Clauses.{setting}
use Rattle.qbf.specs.Reduce.{Outcome}
use Rattle.qbf.specs.Walk.{bare}
use Rattle.qbf.specs.Numbering.{Numbering, Stops}
use Rattle.qbf.specs.Decision.{Ending, ReducesIn, settles, sticks, forces, fills, Decides, by_reducing, full_reducing, recalled, by_allowance, by_depth, full_first, refused_first, first_only, full_second, refused_second, both_sides, Right}

abbrev pub stopped : {t u : Numbering} {sets : List (List (List ℕ))} → Stops t sets u → List (List (List ℕ))
stopped m = m.made ++ (m.hand ∷ [])

abbrev pub reducing : {prefix : List Quantifier} {t u : Numbering} {s : List (List ℕ)} {o : Option Outcome} → ReducesIn prefix t s o u → List (List (List ℕ))
reducing (settles e) = []
reducing (sticks e) = []
reducing (forces {s = s} {l} e m r) = setting l s ++ reducing r
reducing (fills e m) = stopped m

unfoldable pub deciding :
    {M : Type 0} {held : M → Pairs} {notes : M → ℕ → Bool → M → Type 0} {prefix : List Quantifier} {pick : List Candidate → ℕ} {allowance depth splits done : ℕ} {t u : Numbering} {m a : M} {s : List (List ℕ)} {e : Ending} →
    Decides held notes prefix pick allowance depth splits t m s e done u a → List (List (List ℕ))
deciding (by_reducing i) = reducing i
deciding (full_reducing i) = reducing i
deciding (recalled i st k) = reducing i
deciding (by_allowance un e) = reducing un.reduced
deciding (by_depth un l e) = reducing un.reduced
deciding (full_first sp stop) = reducing sp.unknown.reduced ++ stopped stop
deciding (refused_first {x = x} {r = r} sp mk d) = reducing sp.unknown.reduced ++ (setting (negative x) r ++ deciding d)
deciding (first_only {x = x} {r = r} sp mk d en nt) = reducing sp.unknown.reduced ++ (setting (negative x) r ++ deciding d)
deciding (full_second {x = x} {r = r} sp mk d en stop) = reducing sp.unknown.reduced ++ ((setting (negative x) r ++ deciding d) ++ stopped stop)
deciding (refused_second {x = x} {r = r} sp mk d en mk2 d2) = reducing sp.unknown.reduced ++ ((setting (negative x) r ++ deciding d) ++ (setting (positive x) r ++ deciding d2))
deciding (both_sides {x = x} {r = r} sp mk d en mk2 d2 nt) = reducing sp.unknown.reduced ++ ((setting (negative x) r ++ deciding d) ++ (setting (positive x) r ++ deciding d2))

-- if the memo's pairs are right, each of them is a set that the bare walk makes
abbrev pub DecisionMakes : {M : Type 0} → (M → Pairs) → (M → ℕ → Bool → M → Type 0) → Type 0
DecisionMakes {M} held notes =
    (pick : List Candidate → ℕ) → Picks pick → (prefix : List Quantifier) (allowance depth splits done : ℕ) (before after : Numbering) (memo kept : M) (s : List (List ℕ)) (e : Ending) →
    (d : Decides held notes prefix pick allowance depth splits before memo s e done after kept) → Right prefix before (held memo) →
    (x : List (List ℕ)) → In x (deciding d) → In x (bare pick prefix s).made
