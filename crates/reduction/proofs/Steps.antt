-- The step of a set by the tests of its five lines.
use Rattle.std.proofs.Common.{◌≡◌, ℕ, ◌*◌, ◌/◌, ◌<◌, ◌≤◌, Bool, true, false, cond, ◌&&◌, ltb, List, [], ◌∷◌, length, get_or, Some, None, is_some, Decides, Option, sym, refl, ap, ◌∙◌, inl, inr, arith}
use Rattle.std.proofs.lemmas.Bool.Decides.{nat_tests}
use Rattle.std.proofs.lemmas.List.{length-map}
use Rattle.std.proofs.lemmas.Bool.{cases_Bool}
use Rattle.qbf.specs.declared.Quantifier.{Quantifier}
use Rattle.qbf.specs.declared.Quantifier.TheVariants.{Existential, Universal}
use Rattle.qbf.specs.Literals.{complement}
use Rattle.qbf.specs.Lists.{In}
use Rattle.qbf.specs.Value.{none}
use Rattle.qbf.specs.Reduce.{same, binds, has_empty, has_unit, occurs, lone, lowest, Step, settled, forced, stuck, on_some, step}
use Rattle.formula.specs.declared.prefix.Binding.{Binding}
use Rattle.table.specs.declared.table.Table.{Table}
use Rattle.table.specs.Tables.{Number, clauses}
use Rattle.table.proofs.Tables.{ends_stand, has_clause}
use Rattle.survey.specs.Surveyed.{Counted, UnitsOf}
use Rattle.theory.proofs.Lines.{occurs_counted}
use Rattle.theory.proofs.Reducing.{empty_from, unit_from, lowest_below}
use Rattle.reduction.specs.Numbered.{quantified}
use Rattle.reduction.specs.Tests.{unit_by, lone_by, bound_at}
use Rattle.reduction.proofs.Scans.{lowest_same, binds_is}

empty_to : (s : List (List ℕ)) → In [] s → has_empty s ≡ true
empty_to [] h = absurd h
empty_to (c ∷ s) h = let ih = empty_to s in grind (arith, nat_tests)

unit_to : (l : ℕ) (s : List (List ℕ)) → In (l ∷ []) s → has_unit l s ≡ true
unit_to l [] h = absurd h
unit_to l (c ∷ s) (inl e) = rw (← e) (grind (arith, nat_tests))
unit_to l (c ∷ s) (inr h) = let ih = unit_to l s h in grind (arith, nat_tests)

-- a test that decides what another tells is the same test
decided_same : (P : Type 0) (b d : Bool) → Decides d P → (P → b ≡ true) → (b ≡ true → P) → b ≡ d
decided_same P true d told to from = sym (told.1 (from refl))
decided_same P false true told to from = to (told.0 refl)
decided_same P false false told to from = refl

empty_is : (s : List (List ℕ)) (r : Bool) → Decides r (In [] s) → has_empty s ≡ r
empty_is s r told = decided_same (In [] s) (has_empty s) r told (empty_to s) (empty_from s)

pub occurs_is : (s : List (List ℕ)) (counts : List ℕ) → Counted s counts → (l : ℕ) → l < 512 → occurs l s ≡ ltb 0 (get_or counts l 0)
occurs_is s counts told l h =
    let e = told l h in
    let o = occurs_counted l s in
    elim (cases_Bool (occurs l s)) [ inl t ↦ (let k = o.0 t in grind (arith, nat_tests)) | inr f ↦ (let k = o.1 in grind (arith, nat_tests)) ]

module _ (prefix : List Quantifier) (s : List (List ℕ)) where
  -- what the lines ask for by their tests
  abbrev by_tests : Bool → Bool → Option ℕ → Option ℕ → Option ℕ → Step
  by_tests e f a b c =
      cond e (settled false) (cond f (settled true)
      (on_some a (λ l. settled false) (on_some b (λ l. forced l) (on_some c (λ l. forced (cond (binds Existential prefix (l / 2)) l (complement l))) stuck))))

  abbrev lowest_of : Quantifier → Option ℕ
  lowest_of q = lowest (λ l. has_unit l s && binds q prefix (l / 2)) (2 * length prefix) 0

  abbrev lowest_lone_of : Option ℕ
  lowest_lone_of = lowest (λ l. lone l s) (2 * length prefix) 0

  step_is : (e f : Bool) (a b c : Option ℕ) → has_empty s ≡ e → none s ≡ f → lowest_of Universal ≡ a → lowest_of Existential ≡ b → lowest_lone_of ≡ c → step prefix s ≡ by_tests e f a b c
  unfolding step
  step_is e f a b c p q r v w = rw (p, q, r, v, w)

  -- by what was found of each literal
  module _ (codes : ℕ) (all : codes ≡ 2 * length prefix) (small : codes ≤ 512) where
    unit_found : (bs : List Binding) → prefix ≡ quantified bs → codes ≡ 2 * length bs → (units : List Bool) → UnitsOf s units → (q : Quantifier) (a : Option ℕ) → a ≡ lowest (unit_by units q bs) codes 0 → lowest_of q ≡ a
    unit_found bs is long units told q a e =
        ap (λ (k : ℕ). lowest (λ l. has_unit l s && binds q prefix (l / 2)) k 0) (sym all) ∙ lowest_same _ _ codes 0 (λ l h.
        let u : has_unit l s ≡ get_or units l false = decided_same (In (l ∷ []) s) (has_unit l s) (get_or units l false) (told l (omega arith)) (unit_to l s) (unit_from l s) in
        let b : binds q prefix (l / 2) ≡ same q (bound_at bs (l / 2)) = ap (λ (p : List Quantifier). binds q p (l / 2)) is ∙ binds_is q bs (l / 2) _ (omega arith) in
        cc) ∙ sym e

    lone_found : (counts : List ℕ) → Counted s counts → (a : Option ℕ) → a ≡ lowest (lone_by counts) codes 0 → lowest_lone_of ≡ a
    lone_found counts told a e =
        ap (λ (k : ℕ). lowest (λ l. lone l s) k 0) (sym all) ∙ lowest_same _ _ codes 0 (λ l h.
        let a = occurs_is s counts told l (omega arith) in
        let b = occurs_is s counts told (complement l) (omega arith) in
        grind (arith, nat_tests)) ∙ sym e

-- where none was found
pub not_some : (a : Option ℕ) {b : Option ℕ} → is_some a ≡ false → a ≡ b → None ≡ b
not_some None none e = e
not_some (Some l) no_way e = cc

-- line by line, for the set of a number

pub line_empty : (t : Table) (n : ℕ) (prefix : List Quantifier) (r : Bool) → Decides r (In [] (clauses t n)) → r ≡ true → settled false ≡ step prefix (clauses t n)
line_empty t n prefix r told holds = let s = clauses t n in sym (step_is prefix s true _ _ _ _ (empty_is s r told ∙ holds) refl refl refl refl)

module _ (t : Table) (n : ℕ) (bs : List Binding) (r : Bool) (told : Decides r (In [] (clauses t n))) (lacks : r ≡ false) where
  abbrev s : List (List ℕ)
  s = clauses t n

  abbrev prefix : List Quantifier
  prefix = quantified bs

  no_empty : has_empty s ≡ false
  no_empty = empty_is s r told ∙ lacks

  pub line_none : n ≡ 0 → settled true ≡ step prefix s
  line_none e = sym (step_is prefix s false true _ _ _ no_empty (ap none (ap (clauses t) e ∙ (ends_stand t).0)) refl refl refl)

  module _ (held : Number t n) (few : length bs ≤ 256) (ne : n ≡ 0 → ⊥) (units : List Bool) (marked : UnitsOf s units) where
    filled : none s ≡ false
    filled = let w = has_clause t n held (omega arith) in ap none w.2

    codes : 2 * length bs ≡ 2 * length prefix
    codes = ap (λ (k : ℕ). 2 * k) (sym (length-map bs (λ b. b.quantifier)))

    unit_at : (q : Quantifier) (a : Option ℕ) → a ≡ lowest (unit_by units q bs) (2 * length bs) 0 → lowest_of prefix s q ≡ a
    unit_at = unit_found prefix s (2 * length bs) codes (omega arith) bs refl refl units marked

    pub line_universal : (a : Option ℕ) → is_some a ≡ true → a ≡ lowest (unit_by units Universal bs) (2 * length bs) 0 → settled false ≡ step prefix s
    line_universal (Some l) some e = sym (step_is prefix s false false (Some l) _ _ no_empty filled (unit_at Universal (Some l) e) refl refl)
    line_universal None no_way e = cc

    module _ (no_universal : None ≡ lowest (unit_by units Universal bs) (2 * length bs) 0) where
      pub line_unit : (l : ℕ) → Some l ≡ lowest (unit_by units Existential bs) (2 * length bs) 0 → forced l ≡ step prefix s
      line_unit l e = sym (step_is prefix s false false None (Some l) _ no_empty filled (unit_at Universal None no_universal) (unit_at Existential (Some l) e) refl)

      module _ (no_existential : None ≡ lowest (unit_by units Existential bs) (2 * length bs) 0) (counts : List ℕ) (counted : Counted s counts) where
        at_lone : (a : Option ℕ) → a ≡ lowest (lone_by counts) (2 * length bs) 0 → step prefix s ≡ by_tests prefix s false false None None a
        at_lone a e = step_is prefix s false false None None a no_empty filled (unit_at Universal None no_universal) (unit_at Existential None no_existential) (lone_found prefix s (2 * length bs) codes (omega arith) counts counted a e)

        pub line_lone : (l : ℕ) → Some l ≡ lowest (lone_by counts) (2 * length bs) 0 → (q : Quantifier) → q ≡ bound_at bs (l / 2) → (m : ℕ) → m ≡ cond (same Existential q) l (complement l) → forced m ≡ step prefix s
        line_lone l e q at m is =
            let h = lowest_below (lone_by counts) (2 * length bs) 0 l (sym e) in
            ap forced (is ∙ ap (λ (b : Bool). cond b l (complement l)) (ap (same Existential) at ∙ sym (binds_is Existential bs (l / 2) _ (omega arith)))) ∙ sym (at_lone (Some l) e)

        pub line_stuck : None ≡ lowest (lone_by counts) (2 * length bs) 0 → stuck ≡ step prefix s
        line_stuck e = sym (at_lone None e)
