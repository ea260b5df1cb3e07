-- What a setting leaves, in the terms of the list of sets.
use Rattle.std.proofs.Common.{ℕ, ◌+◌, ◌-◌, ◌≤◌, List, [], ◌∷◌, ◌++◌, length, Ok, Err, Result, sym, ap, ◌∙◌, subst, arith}
use Rattle.std.specs.List.{AllByRecursion}
use Rattle.qbf.specs.declared.Quantifier.{Quantifier}
use Rattle.qbf.specs.Lists.{In}
use Rattle.qbf.specs.Nodes.{Node as NodeOf}
use Rattle.qbf.specs.Clauses.{assigned, setting}
use Rattle.qbf.specs.Reduce.{Within}
use Rattle.qbf.specs.Numbering.{Among, Gains, Makes, Stops}
use Rattle.sets.proofs.Words.{all_in}
use Rattle.sets.proofs.Lengths.{few_made}
use Rattle.table.specs.declared.table.Full.{Full}
use Rattle.table.specs.declared.table.Table.{Table}
use Rattle.table.specs.Tables.{size_of, clauses, Is, Held, Adds, Made, Stopped, MakesAll}
use Rattle.table.specs.Laws.{Reached, reached_itself, reached_with, reached_without}
use Rattle.table.proofs.Tables.{sizes_fit, nodes_reached}
use Rattle.theory.proofs.Stands.{within_assigned}
use Rattle.reduction.specs.Numbered.{sets_from, sets_of, Ready, Kept}
use Rattle.reduction.specs.Outcomes.{SetTrue, StaysReady}
use Rattle.reduction.proofs.Numbers.{length_sets, each_from, distinct_sets, in_sets, sets_in, grown_sets}

pub adds_kept : (t : Table) (sets : List (List (List ℕ))) (u : Table) → Adds t sets u → Kept t u
adds_kept t sets u g n h = (omega (arith, g.larger), g.keeps n h)

gains : (t : Table) (sets : List (List (List ℕ))) (u : Table) → Adds t sets u → Gains (sets_of t) sets (sets_of u)
gains t sets u g = record {
  added = sets_from u (size_of t + 2) (size_of u - size_of t);
  joined = grown_sets t u g.larger g.keeps;
  nodes = each_from u (Among sets) (size_of t + 2) (size_of u - size_of t) (λ n l i. g.gains n l (omega (arith, g.larger)));
}

reached_two : {t : Table} {m n : ℕ} → Reached t m n → 2 ≤ m
reached_two (reached_itself two e) = omega arith
reached_two (reached_with two r) = reached_two r
reached_two (reached_without two r) = reached_two r

-- a table that has a set has its nodes
whole : (u : Table) (sets : List (List (List ℕ))) → AllByRecursion (Held u) sets → (s x : List (List ℕ)) → In s sets → NodeOf x s → In x (sets_of u)
whole u sets held s x i node =
    let h : Held u s = all_in (Held u) sets s held i in
    let r = (nodes_reached u h.0 h.1.held).each x (subst (NodeOf x) (sym h.1.means) node) in
    subst (λ y. In y (sets_of u)) r.3 (in_sets u r.0 (reached_two r.2) r.1)

pub made_makes : (t : Table) (sets : List (List (List ℕ))) (u : Table) → Made t sets u → Makes (sets_of t) sets (sets_of u)
made_makes t sets u m = record {
  gains = gains t sets u m.grows;
  whole = whole u sets m.held;
  apart = distinct_sets u;
  within = let l = length_sets u in let f = sizes_fit u in omega arith;
}

pub stopped_stops : (t : Table) (sets : List (List (List ℕ))) (u : Table) → Stopped t sets u → Stops (sets_of t) sets (sets_of u)
stopped_stops t sets u p = record {
  made = p.before;
  hand = p.hand;
  rest = p.after;
  order = p.order;
  gains = gains t (p.before ++ (p.hand ∷ [])) u p.grows;
  whole = whole u p.before p.held;
  full = length_sets u ∙ p.misses.full;
  lacking = (p.misses.part, p.misses.of_it, λ i. let r = sets_in u p.misses.part i in p.misses.absent (r.0, record { held = r.1; means = r.2 }));
  apart = distinct_sets u;
}

-- a setting brings no literal in, and no clause
pub ready_assigned : (t : Table) (n l : ℕ) (u : Table) (m : ℕ) → Is (assigned l (clauses t n)) u m → (prefix : List Quantifier) → Ready prefix t n → Ready prefix u m
ready_assigned t n l u m is prefix r = record {
  held = is.held;
  within = subst (Within prefix) (sym is.means) (within_assigned prefix l (clauses t n) r.within);
  few = let e = ap length is.means in let f = (few_made l (clauses t n) []).in_assigned in let g = r.few in omega arith;
}

-- by the answer

module _ (t : Table) (n l : ℕ) (u : Table) where
  abbrev SetsLiteral : Result ℕ Full → Type 0
  SetsLiteral r = MakesAll t (setting l (clauses t n)) (assigned l (clauses t n)) u r

  pub set_true : (r : Result ℕ Full) → SetsLiteral r → SetTrue t (clauses t n) l u r
  set_true (Ok m) a = record { makes = made_makes t (setting l (clauses t n)) u a.cases.0; held = a.cases.1.held; means = a.cases.1.means }
  set_true (Err e) a = stopped_stops t (setting l (clauses t n)) u a.cases

  pub stays_ready : (r : Result ℕ Full) → SetsLiteral r → StaysReady t n u r
  stays_ready (Ok m) a = ready_assigned t n l u m a.cases.1
  stays_ready (Err e) a = tt

  pub set_kept : (r : Result ℕ Full) → SetsLiteral r → Kept t u
  set_kept (Ok m) a = adds_kept t (setting l (clauses t n)) u a.cases.0.grows
  set_kept (Err e) a = adds_kept t (a.cases.before ++ (a.cases.hand ∷ [])) u a.cases.grows
