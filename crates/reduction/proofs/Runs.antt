-- Reducing, line after line.
use Rattle.std.proofs.Common.{◌≡◌, ℕ, ◌<◌, ◌≤◌, Bool, true, List, Some, None, Option, sym, refl, ap, ◌∙◌, subst, inl, inr, arith}
use Rattle.std.proofs.lemmas.Bool.Decides.{nat_tests}
use Rattle.std.proofs.lemmas.Bool.{cases_eq}
use Rattle.qbf.specs.declared.Quantifier.{Quantifier}
use Rattle.qbf.specs.Clauses.{setting}
use Rattle.qbf.specs.Value.{none}
use Rattle.qbf.specs.Reduce.{has_empty, settled, forced, stuck, step, Outcome, decided, left, size}
use Rattle.qbf.specs.Numbering.{Numbering, Stops}
use Rattle.qbf.specs.Decision.{ReducesIn, settles, sticks, forces, fills}
use Rattle.table.specs.declared.table.Table.{Table}
use Rattle.table.specs.Tables.{clauses}
use Rattle.table.proofs.Tables.{ends_stand}
use Rattle.theory.specs.Reducing.{Clean}
use Rattle.theory.proofs.Stands.{lines_fall, clean_stuck, some_candidate}
use Rattle.reduction.specs.Numbered.{sets_of, Ready, Kept}
use Rattle.reduction.specs.Outcomes.{Splittable, Assigned}

-- reducing the set n of t has come to the set m of u: the rest of it is reducing that one
pub record Leads (prefix : List Quantifier) (t : Table) (n : ℕ) (u : Table) (m : ℕ) : Type 0 where
  pub ready : Ready prefix u m
  pub keeps : Kept t u
  pub leads : (o : Option Outcome) (v : Numbering) → ReducesIn prefix (sets_of u) (clauses u m) o v → ReducesIn prefix (sets_of t) (clauses t n) o v

pub leads_none : (prefix : List Quantifier) (t : Table) (n : ℕ) → Ready prefix t n → Leads prefix t n t n
leads_none prefix t n r = record { ready = r; keeps = λ m h. (h, refl); leads = λ o v d. d }

module _ (prefix : List Quantifier) (t : Table) (n : ℕ) (u : Table) (m : ℕ) (so_far : Leads prefix t n u m) where
  pub leads_settled : (b : Bool) → settled b ≡ step prefix (clauses u m) → ReducesIn prefix (sets_of t) (clauses t n) (Some (decided b)) (sets_of u)
  leads_settled b e = so_far.leads (Some (decided b)) (sets_of u) (settles (sym e))

  pub leads_stuck : stuck ≡ step prefix (clauses u m) → ReducesIn prefix (sets_of t) (clauses t n) (Some (left (clauses u m))) (sets_of u)
  leads_stuck e = so_far.leads (Some (left (clauses u m))) (sets_of u) (sticks (sym e))

  kept_then : (w : Table) → Kept u w → Kept t w
  kept_then w k i h = let a = so_far.keeps i h in let b = k i a.0 in (b.0, b.1 ∙ a.1)

  module _ (l : ℕ) (line : forced l ≡ step prefix (clauses u m)) (w : Table) (kept : Kept u w) where
    pub leads_full : Stops (sets_of u) (setting l (clauses u m)) (sets_of w) → ReducesIn prefix (sets_of t) (clauses t n) None (sets_of w)
    leads_full p = so_far.leads None (sets_of w) (fills (sym line) p)

    pub full_kept : Kept t w
    full_kept = kept_then w kept

    module _ (k : ℕ) (set : Assigned u (clauses u m) l w k) where
      pub leads_forced : Ready prefix w k → Leads prefix t n w k
      leads_forced r = record {
        ready = r;
        keeps = kept_then w kept;
        leads = λ o v d. so_far.leads o v (forces (sym line) set.makes (subst (λ s. ReducesIn prefix (sets_of w) s o v) set.means d));
      }

      -- a literal less
      pub forced_falls : size (clauses w k) < size (clauses u m)
      forced_falls = let e = ap size set.means in let f = lines_fall prefix (clauses u m) l (sym line) in omega arith

-- a set that no line fits can be split
pub splittable : (prefix : List Quantifier) (t : Table) (n : ℕ) → Ready prefix t n → stuck ≡ step prefix (clauses t n) → Splittable prefix t n
splittable prefix t n r e =
    let clean = clean_stuck prefix (clauses t n) r.within (sym e) in
    record { ready = r; node = node clean; shown = some_candidate prefix (clauses t n) r.within clean }
  where
    node : Clean (clauses t n) → 2 ≤ n
    node clean = elim (cases_eq n 0) [
      | inl z ↦ absurd (let f : none (clauses t n) ≡ true = ap none (ap (clauses t) z ∙ (ends_stand t).0) in let g = clean.some_clause in let no : ⊥ = grind (arith, nat_tests) in no)
      | inr nz ↦ elim (cases_eq n 1) [
        | inl o ↦ absurd (let f : has_empty (clauses t n) ≡ true = ap has_empty (ap (clauses t) o ∙ (ends_stand t).1) in let g = clean.no_empty in let no : ⊥ = grind (arith, nat_tests) in no)
        | inr more ↦ omega arith
      ]
    ]
