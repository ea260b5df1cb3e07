-- Facts of a core and its formula.
use Rattle.std.proofs.Common.{◌≡◌, ℕ, zero, ◌*◌, ◌<◌, ◌≤◌, Bool, List, [], length, Some, None, Option, sym, ap, ◌∙◌, subst, refl}
use Rattle.std.specs.List.{AllByRecursion}
use Rattle.std.proofs.lemmas.List.{length-map}
use Rattle.qbf.specs.declared.Candidate.{Candidate}
use Rattle.qbf.specs.Memo.{Pairs, Empty}
use Rattle.qbf.specs.Decision.{Ending, Decides}
use Rattle.formula.specs.declared.prefix.Binding.{Binding}
use Rattle.formula.specs.declared.prefix.Prefix.{Prefix}
use Rattle.formula.specs.Views.{bindings_of}
use Rattle.table.specs.declared.table.Table.{Table}
use Rattle.table.specs.Tables.{size_of, Number, clauses}
use Rattle.reduction.specs.Numbered.{sets_from, sets_of, quantifiers_of, Ready, Kept}
use Rattle.decision.proofs.Standing.{ready_later}
use Rattle.ledger.specs.Answers.{answer}
use Rattle.ledger.specs.Ledger.{decide, LoadedFormula, quantifiers, most_allowed}
use Rattle.histories.specs.Standing.{Fresh}
use Rattle.histories.specs.Dealings.{Deals, deals_decided}
use Rattle.histories.proofs.Cases.{one_some}
use Rattle.session.specs.declared.scope.Scope.{Scope}
use Rattle.session.specs.declared.scope.Stored.{Stored}
use Rattle.session.specs.declared.inner.Core.{Core}
use Rattle.session.specs.Places.{prefix_in}
use Rattle.session.specs.Views.{stored_in, formula_in, core_stands}

-- an empty table stands for no set
no_sets : (t : Table) → sets_from t 2 zero ≡ []
unfolding sets_from
no_sets t = refl

pub none_made : (t : Table) → size_of t ≡ 0 → sets_of t ≡ []
unfolding sets_of
none_made t e = ap (sets_from t 2) e ∙ no_sets t

-- the literals of a set over a prefix, by its bindings
pub below_bindings : (p : Prefix) (s : List (List ℕ)) → AllByRecursion (AllByRecursion (λ l. l < 2 * length (quantifiers_of p))) s → AllByRecursion (AllByRecursion (λ l. l < 2 * length (bindings_of p))) s
below_bindings p s h = subst (λ (n : ℕ). AllByRecursion (AllByRecursion (λ l. l < 2 * n)) s) (length-map (bindings_of p) (λ (b : Binding). b.quantifier)) h

pub below_quantifiers : (p : Prefix) (s : List (List ℕ)) → AllByRecursion (AllByRecursion (λ l. l < 2 * length (bindings_of p))) s → AllByRecursion (AllByRecursion (λ l. l < 2 * length (quantifiers_of p))) s
below_quantifiers p s h = subst (λ (n : ℕ). AllByRecursion (AllByRecursion (λ l. l < 2 * n)) s) (sym (length-map (bindings_of p) (λ (b : Binding). b.quantifier))) h

-- each formula that a scope may have is a set of the table over its prefix
abbrev pub ReadyIn : Table → Option Scope → Type 0
ReadyIn t o = (s : Scope) (f : Stored) → o ≡ Some s → s.formula ≡ Some f → Ready (quantifiers_of s.prefix) t f.number

-- also in a table that keeps its numbers
pub ready_kept : (t u : Table) (o : Option Scope) → Kept t u → ReadyIn t o → ReadyIn u o
ready_kept t u o kept ready s f e g = ready_later (quantifiers_of s.prefix) t u f.number kept (ready s f e g)

stored_kept : (t u : Table) (o : Option Stored) → Kept t u → ((f : Stored) → o ≡ Some f → Number t f.number) → stored_in u o ≡ stored_in t o
stored_kept t u None kept held = refl
stored_kept t u (Some f) kept held = ap (λ (s : List (List ℕ)). Some (record { variables = f.variables; clauses = s })) (kept f.number (held f refl)).1

-- which keeps the formula
pub formula_kept : (t u : Table) (o : Option Scope) → Kept t u → ReadyIn t o → formula_in u o ≡ formula_in t o
formula_kept t u None kept ready = refl
formula_kept t u (Some s) kept ready = stored_kept t u s.formula kept (λ f e. (ready s f refl e).held)

-- a formula that is a set of the table over its prefix may be the loaded one
pub ready_stored : (t : Table) (p : Prefix) (x : Stored) → Ready (quantifiers_of p) t x.number → ReadyIn t (Some (record { prefix = p; formula = Some x }))
ready_stored t p x ready s f e g =
    let scope = one_some refl e in
    let formula : x ≡ f = one_some refl (ap (λ (y : Scope). y.formula) scope ∙ g) in
    subst (λ (y : Scope). Ready (quantifiers_of y.prefix) t f.number) scope (subst (λ (y : Stored). Ready (quantifiers_of p) t y.number) formula ready)

-- the loaded formula, where its set is known by another name
pub stored_there : (t : Table) (o : Option Scope) (s : Scope) (f : Stored) (set : List (List ℕ)) → o ≡ Some s → s.formula ≡ Some f → set ≡ clauses t f.number →
    formula_in t o ≡ Some (record { variables = f.variables; clauses = set })
stored_there t o s f set e g h = ap (formula_in t) e ∙ ap (stored_in t) g ∙ ap (λ (x : List (List ℕ)). Some (record { variables = f.variables; clauses = x })) (sym h)

-- a decision of the loaded formula
pub core_decides : {M : Type 0} (held : M → Pairs) (notes : M → ℕ → Bool → M → Type 0) (pick : List Candidate → ℕ) (core : Core) (memo kept : M) (s : Scope) (f : Stored) (u : Table) (e : Ending) (n allowance : ℕ) →
    core.scope ≡ Some s → s.formula ≡ Some f → allowance ≤ most_allowed → Kept core.table u →
    Decides held notes (quantifiers_of s.prefix) pick allowance 0 0 (sets_of core.table) memo (clauses core.table f.number) e n (sets_of u) kept →
    Deals held notes pick (core_stands core memo) (decide allowance (answer e n)) (record { prefix = prefix_in core.scope; formula = formula_in u core.scope; table = sets_of u; memo = kept })
core_decides {M} held notes pick core memo kept s f u e n allowance there loaded allowed keeps d =
    let by_prefix = subst (λ (o : Option Scope). Decides held notes (quantifiers (prefix_in o)) pick allowance 0 0 (sets_of core.table) memo (clauses core.table f.number) e n (sets_of u) kept) (sym there) d in
    subst (λ (o : Option LoadedFormula). Deals held notes pick (core_stands core memo) (decide allowance (answer e n)) (record { prefix = prefix_in core.scope; formula = o; table = sets_of u; memo = kept }))
    (sym (formula_kept core.table u core.scope keeps core.ready))
    (deals_decided (ap (formula_in core.table) there ∙ ap (stored_in core.table) loaded) allowed by_prefix)

-- a core with nothing loaded, and a memo without pairs
pub fresh_core : {M : Type 0} (held : M → Pairs) (core : Core) (memo : M) → core.scope ≡ None → sets_of core.table ≡ [] → Empty (held memo) → Fresh held (core_stands core memo)
fresh_core held core memo s t empty = record { prefix = ap prefix_in s; formula = ap (formula_in core.table) s; table = t; memo = empty }
