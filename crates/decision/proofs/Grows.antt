-- A decision makes no more splits than it is allowed, and the numbers of its table keep their sets.
use Rattle.std.proofs.Common.{◌≡◌, ℕ, ◌≤◌, Bool, List, Some, Option, arith}
use Rattle.qbf.specs.declared.Quantifier.{Quantifier}
use Rattle.qbf.specs.declared.Candidate.{Candidate}
use Rattle.qbf.specs.Memo.{Pairs}
use Rattle.qbf.specs.Reduce.{Outcome}
use Rattle.qbf.specs.Numbering.{Numbering, stands, Stops}
use Rattle.qbf.specs.Decision.{Ending, ReducesIn, settles, sticks, forces, fills, Decides, by_reducing, full_reducing, recalled, by_allowance, by_depth, full_first, refused_first, first_only, full_second, refused_second, both_sides}
use Rattle.theory.proofs.Tables.{stands_later, stops_gains}
use Rattle.decision.specs.Steps.{Side, unmade, walked}

-- the numbers of a table keep their sets
abbrev pub Stay : Numbering → Numbering → Type 0
Stay t u = (n : ℕ) (s : List (List ℕ)) → stands t n ≡ Some s → stands u n ≡ Some s

stay_stops : {t u : Numbering} {sets : List (List (List ℕ))} → Stops t sets u → Stay t u
stay_stops st = stands_later (stops_gains st).0

pub stay_reduced : {prefix : List Quantifier} {t u : Numbering} {s : List (List ℕ)} {o : Option Outcome} → ReducesIn prefix t s o u → Stay t u
stay_reduced (settles e) n x h = h
stay_reduced (sticks e) n x h = h
stay_reduced (forces e mk d) n x h = stay_reduced d n x (stands_later mk.gains n x h)
stay_reduced (fills e st) n x h = stay_stops st n x h

module _ {M : Type 0} {held : M → Pairs} {notes : M → ℕ → Bool → M → Type 0} {prefix : List Quantifier} {pick : List Candidate → ℕ} {allowance : ℕ} where
  pub stay : {depth splits done : ℕ} {t u : Numbering} {m a : M} {s : List (List ℕ)} {e : Ending} → Decides held notes prefix pick allowance depth splits t m s e done u a → Stay t u
  stay (by_reducing i) n x h = stay_reduced i n x h
  stay (full_reducing i) n x h = stay_reduced i n x h
  stay (recalled i st k) n x h = stay_reduced i n x h
  stay (by_allowance un e) n x h = stay_reduced un.reduced n x h
  stay (by_depth un l e) n x h = stay_reduced un.reduced n x h
  stay (full_first sp stop) n x h = stay_stops stop n x (stay_reduced sp.unknown.reduced n x h)
  stay (refused_first sp mk d) n x h = stay d n x (stands_later mk.gains n x (stay_reduced sp.unknown.reduced n x h))
  stay (first_only sp mk d en nt) n x h = stay d n x (stands_later mk.gains n x (stay_reduced sp.unknown.reduced n x h))
  stay (full_second sp mk d en stop) n x h = stay_stops stop n x (stay d n x (stands_later mk.gains n x (stay_reduced sp.unknown.reduced n x h)))
  stay (refused_second sp mk d en mk2 d2) n x h = stay d2 n x (stands_later mk2.gains n x (stay d n x (stands_later mk.gains n x (stay_reduced sp.unknown.reduced n x h))))
  stay (both_sides sp mk d en mk2 d2 nt) n x h = stay d2 n x (stands_later mk2.gains n x (stay d n x (stands_later mk.gains n x (stay_reduced sp.unknown.reduced n x h))))

  pub stay_side : {depth splits done l : ℕ} {t u : Numbering} {m a : M} {s : List (List ℕ)} {e : Ending} → Side held notes prefix pick allowance depth splits t m s l e done u a → Stay t u
  stay_side (unmade st) n x h = stay_stops st n x h
  stay_side (walked mk d) n x h = stay d n x (stands_later mk.gains n x h)

  pub within : {depth splits done : ℕ} {t u : Numbering} {m a : M} {s : List (List ℕ)} {e : Ending} → Decides held notes prefix pick allowance depth splits t m s e done u a → splits ≤ allowance → done ≤ allowance
  within (by_reducing i) h = h
  within (full_reducing i) h = h
  within (recalled i st k) h = h
  within (by_allowance un e) h = h
  within (by_depth un l e) h = h
  within (full_first sp stop) h = omega (arith, sp.allowed)
  within (refused_first sp mk d) h = within d (omega (arith, sp.allowed))
  within (first_only sp mk d en nt) h = within d (omega (arith, sp.allowed))
  within (full_second sp mk d en stop) h = within d (omega (arith, sp.allowed))
  within (refused_second sp mk d en mk2 d2) h = within d2 (within d (omega (arith, sp.allowed)))
  within (both_sides sp mk d en mk2 d2 nt) h = within d2 (within d (omega (arith, sp.allowed)))

  pub within_side : {depth splits done l : ℕ} {t u : Numbering} {m a : M} {s : List (List ℕ)} {e : Ending} → Side held notes prefix pick allowance depth splits t m s l e done u a → splits ≤ allowance → done ≤ allowance
  within_side (unmade st) h = h
  within_side (walked mk d) h = within d h
