-- The lines of reducing, in the words of the rules.
use Rattle.std.proofs.Common.{◌≡◌, ℕ, zero, suc, ◌+◌, ◌*◌, ◌/◌, ◌<◌, ◌≤◌, Bool, true, false, cond, ◌&&◌, List, [], ◌∷◌, length, Some, None, Option, refl, ap, ◌∙◌, inl, inr, arith}
use Rattle.std.proofs.lemmas.Bool.Decides.{nat_tests}
use Rattle.std.proofs.lemmas.Bool.{cases_eq, cases_Bool, cond_both}
use Rattle.qbf.specs.declared.Quantifier.{Quantifier}
use Rattle.qbf.specs.declared.Quantifier.TheVariants.{Existential, Universal}
use Rattle.qbf.specs.Literals.{complement}
use Rattle.qbf.specs.Lists.{In}
use Rattle.qbf.specs.Value.{none}
use Rattle.qbf.specs.Reduce.{binds, has_empty, has_unit, lone, lowest, Step, settled, forced, stuck, on_some, step}
use Rattle.theory.specs.Lines.{UnitClause, Line, line_empty, line_none, line_universal, line_unit, line_lone, line_lone_universal, line_stuck, LinesTold, LinesFit, OccursCounted}
use Rattle.theory.proofs.Reducing.{binds_one, empty_from, unit_from, lowest_passes, lowest_below, lowest_least, lowest_none, on_some_both}

empty_to : (s : List (List ℕ)) → In [] s → has_empty s ≡ true
empty_to [] h = absurd h
empty_to (c ∷ s) h = let ih = empty_to s in grind (arith, nat_tests)

no_empty : (s : List (List ℕ)) → (In [] s → ⊥) → has_empty s ≡ false
no_empty s h = elim (cases_Bool (has_empty s)) [ inl e ↦ absurd (h (empty_from s e)) | inr e ↦ e ]

unit_to : (l : ℕ) (s : List (List ℕ)) → In (l ∷ []) s → has_unit l s ≡ true
unit_to l [] h = absurd h
unit_to l (c ∷ s) (inl e) = rw (← e) (grind (arith, nat_tests))
unit_to l (c ∷ s) (inr h) = let ih = unit_to l s h in grind (arith, nat_tests)

some_clause : (s : List (List ℕ)) (c : List ℕ) → In c s → none s ≡ false
some_clause [] c h = absurd h
some_clause (d ∷ s) c h = refl

lone_clause : (l : ℕ) (s : List (List ℕ)) → lone l s ≡ true → none s ≡ false
lone_clause l [] e = grind (arith, nat_tests)
lone_clause l (c ∷ s) e = refl

not_none : (s : List (List ℕ)) → (s ≡ [] → ⊥) → none s ≡ false
not_none [] h = absurd (h refl)
not_none (c ∷ s) h = refl

none_is : (s : List (List ℕ)) → none s ≡ true → s ≡ []
none_is [] e = refl
none_is (c ∷ s) e = grind (arith, nat_tests)

binds_within : (q : Quantifier) (prefix : List Quantifier) (x : ℕ) → binds q prefix x ≡ true → x < length prefix
binds_within q [] x e = grind (arith, nat_tests)
binds_within q (r ∷ prefix) zero e = omega arith
binds_within q (r ∷ prefix) (suc x) e = let ih = binds_within q prefix x e in omega arith

binds_not : (prefix : List Quantifier) (x : ℕ) → binds Universal prefix x ≡ true → binds Existential prefix x ≡ false
binds_not [] x e = refl
binds_not (r ∷ prefix) zero e = grind (arith, nat_tests)
binds_not (r ∷ prefix) (suc x) e = binds_not prefix x e

lowest_at : (test : ℕ → Bool) (n c l : ℕ) → test l ≡ true → c ≤ l → l < c + n → ((m : ℕ) → m < l → test m ≡ false) → lowest test n c ≡ Some l
lowest_at test zero c l t a b h = absurd (omega arith)
lowest_at test (suc n) c l t a b h = elim (cases_eq c l) [
  | inl e ↦ let f : test c ≡ true = rw e t in let g : Some c ≡ Some l = ap Some e in ap (λ (z : Bool). cond z (Some c) (lowest test n (suc c))) f ∙ g
  | inr e ↦ let f : test c ≡ false = h c (omega arith) in ap (λ (z : Bool). cond z (Some c) (lowest test n (suc c))) f ∙ lowest_at test n (suc c) l t (omega arith) (omega arith) h
]

lowest_gone : (test : ℕ → Bool) (n c : ℕ) → ((m : ℕ) → m < c + n → test m ≡ false) → lowest test n c ≡ None
lowest_gone test zero c h = refl
lowest_gone test (suc n) c h = let f = h c (omega arith) in ap (λ (z : Bool). cond z (Some c) (lowest test n (suc c))) f ∙ lowest_gone test n (suc c) (λ m k. h m (omega arith))

module _ (prefix : List Quantifier) (s : List (List ℕ)) where
  abbrev units : Quantifier → ℕ → Bool
  units q l = has_unit l s && binds q prefix (l / 2)

  is_unit_clause : (q : Quantifier) (l : ℕ) → units q l ≡ true → UnitClause q prefix s l
  is_unit_clause q l e = record { clause = unit_from l s (grind (arith, nat_tests)); bound = grind (arith, nat_tests) }

  unit_clause_is : (q : Quantifier) (l : ℕ) → UnitClause q prefix s l → units q l ≡ true
  unit_clause_is q l u = let a = unit_to l s u.clause in let b = u.bound in grind (arith, nat_tests)

  no_unit : (q : Quantifier) (l : ℕ) → (UnitClause q prefix s l → ⊥) → units q l ≡ false
  no_unit q l h = elim (cases_Bool (units q l)) [ inl e ↦ absurd (h (is_unit_clause q l e)) | inr e ↦ e ]

  unit_within : (q : Quantifier) (l : ℕ) → UnitClause q prefix s l → l < 0 + 2 * length prefix
  unit_within q l u = let b = binds_within q prefix (l / 2) u.bound in omega arith

  -- the step, where the tests are known
  at_universal : (a : Option ℕ) → has_empty s ≡ false → none s ≡ false → lowest (units Universal) (2 * length prefix) 0 ≡ a →
      step prefix s ≡ on_some a (λ l. settled false) (on_some (lowest (units Existential) (2 * length prefix) 0) (λ l. forced l) (on_some (lowest (λ l. lone l s) (2 * length prefix) 0) (λ l. forced (cond (binds Existential prefix (l / 2)) l (complement l))) stuck))
  unfolding step
  at_universal a e f g = rw (e, f, g)

  at_existential : (b : Option ℕ) → has_empty s ≡ false → none s ≡ false → lowest (units Universal) (2 * length prefix) 0 ≡ None → lowest (units Existential) (2 * length prefix) 0 ≡ b →
      step prefix s ≡ on_some b (λ l. forced l) (on_some (lowest (λ l. lone l s) (2 * length prefix) 0) (λ l. forced (cond (binds Existential prefix (l / 2)) l (complement l))) stuck)
  at_existential b e f g h = at_universal None e f g ∙ ap (λ (o : Option ℕ). on_some o (λ l. forced l) (on_some (lowest (λ l. lone l s) (2 * length prefix) 0) (λ l. forced (cond (binds Existential prefix (l / 2)) l (complement l))) stuck)) h

  at_lone : (c : Option ℕ) → has_empty s ≡ false → none s ≡ false → ((m : ℕ) (q : Quantifier) → UnitClause q prefix s m → ⊥) → lowest (λ l. lone l s) (2 * length prefix) 0 ≡ c →
      step prefix s ≡ on_some c (λ l. forced (cond (binds Existential prefix (l / 2)) l (complement l))) stuck
  at_lone c e f h i =
      at_existential None e f (lowest_gone (units Universal) (2 * length prefix) 0 (λ m _. no_unit Universal m (h m Universal))) (lowest_gone (units Existential) (2 * length prefix) 0 (λ m _. no_unit Existential m (h m Existential))) ∙
      ap (λ (o : Option ℕ). on_some o (λ l. forced (cond (binds Existential prefix (l / 2)) l (complement l))) stuck) i

  told : (st : Step) → Line prefix s st → step prefix s ≡ st
  unfolding step
  told st (line_empty h) = rw (empty_to s h)
  told st (line_none e) = rw e
  told st (line_universal l h u) = first (lowest (units Universal) (2 * length prefix) 0) refl
    where
      first : (a : Option ℕ) → lowest (units Universal) (2 * length prefix) 0 ≡ a → step prefix s ≡ settled false
      first (Some m) e = at_universal (Some m) (no_empty s h) (some_clause s (l ∷ []) u.clause) e
      first None e =
          let w = unit_within Universal l u in
          let n = lowest_none (units Universal) (2 * length prefix) 0 e l (omega arith) w in
          let y = unit_clause_is Universal l u in
          absurd (cc)
  told st (line_unit l h n u least) =
      at_existential (Some l) (no_empty s h) (some_clause s (l ∷ []) u.clause)
      (lowest_gone (units Universal) (2 * length prefix) 0 (λ m _. no_unit Universal m (n m)))
      (lowest_at (units Existential) (2 * length prefix) 0 l (unit_clause_is Existential l u) (omega arith) (unit_within Existential l u) (λ m k. no_unit Existential m (least m k)))
  told st (line_lone l h n o least b) =
      let w = binds_within Existential prefix (l / 2) b in
      at_lone (Some l) (no_empty s h) (lone_clause l s o) n (lowest_at (λ l. lone l s) (2 * length prefix) 0 l o (omega arith) (omega arith) least) ∙
      ap (λ (z : Bool). forced (cond z l (complement l))) b
  told st (line_lone_universal l h n o least b) =
      let w = binds_within Universal prefix (l / 2) b in
      at_lone (Some l) (no_empty s h) (lone_clause l s o) n (lowest_at (λ l. lone l s) (2 * length prefix) 0 l o (omega arith) (omega arith) least) ∙
      ap (λ (z : Bool). forced (cond z l (complement l))) (binds_not prefix (l / 2) b)
  told st (line_stuck h k n o) = at_lone None (no_empty s h) (not_none s k) n (lowest_gone (λ l. lone l s) (2 * length prefix) 0 (λ m i. o m (omega arith)))

  fits : Line prefix s (step prefix s)
  unfolding step
  fits =
      let codes : ℕ = 2 * length prefix in
      let K : Step → Type 0 = Line prefix s in
      let none_of : (q : Quantifier) → lowest (units q) codes 0 ≡ None → (m : ℕ) → UnitClause q prefix s m → ⊥ = λ q e m u.
      (let w = unit_within q m u in
      let n = lowest_none (units q) codes 0 e m (omega arith) w in
      let y = unit_clause_is q m u in
      cc) in
      cond_both (has_empty s) _ _ K (λ e. line_empty (empty_from s e)) (λ e.
      let ne : In [] s → ⊥ = λ i. (let t = empty_to s i in grind (arith, nat_tests)) in
      cond_both (none s) _ _ K (λ f. line_none (none_is s f)) (λ f.
      on_some_both K _ _ _ (λ l o. line_universal l ne (is_unit_clause Universal l (lowest_passes (units Universal) codes 0 l o))) (λ a.
      on_some_both K _ _ _ (λ l o. line_unit l ne (none_of Universal a) (is_unit_clause Existential l (lowest_passes (units Existential) codes 0 l o))
      (λ m k u. let y = lowest_least (units Existential) codes 0 l o m (omega arith) k in let z = unit_clause_is Existential m u in grind (arith, nat_tests))) (λ b.
      let nu : (m : ℕ) (q : Quantifier) → UnitClause q prefix s m → ⊥ = λ m q. by_quantifier q m (none_of Universal a m) (none_of Existential b m) in
      on_some_both K _ _ _ (λ l o.
      let t = lowest_passes (λ l. lone l s) codes 0 l o in
      let n = lowest_below (λ l. lone l s) codes 0 l o in
      let least = λ (m : ℕ) (k : m < l). lowest_least (λ l. lone l s) codes 0 l o m (omega arith) k in
      cond_both (binds Existential prefix (l / 2)) _ _ (λ m. K (forced m)) (λ b. line_lone l ne nu t least b) (λ b. line_lone_universal l ne nu t least (binds_one prefix (l / 2) (omega arith) b))) (λ c.
      line_stuck ne (λ i. let j : none s ≡ true = rw i in grind (arith, nat_tests)) nu (λ m h. lowest_none (λ l. lone l s) codes 0 c m (omega arith) (omega arith)))))))
    where
      by_quantifier : (q : Quantifier) (m : ℕ) → (UnitClause Universal prefix s m → ⊥) → (UnitClause Existential prefix s m → ⊥) → UnitClause q prefix s m → ⊥
      by_quantifier Universal m a b = a
      by_quantifier Existential m a b = b

pub lines_fit : LinesFit
lines_fit prefix s = fits prefix s

pub lines_told : LinesTold
lines_told prefix s st l = told prefix s st l

pub occurs_counted : OccursCounted
occurs_counted l [] = (λ e. grind (arith, nat_tests), λ h. absurd (omega arith))
occurs_counted l (c ∷ s) = let ih = occurs_counted l s in (λ e. grind (arith, nat_tests), λ h. grind (arith, nat_tests))

-- what is known where no line fits
pub record Stuck (prefix : List Quantifier) (s : List (List ℕ)) : Type 0 where
  pub some_clause : none s ≡ false
  pub no_empty : has_empty s ≡ false
  pub no_unit : (l : ℕ) (q : Quantifier) → UnitClause q prefix s l → ⊥
  pub no_lone : (l : ℕ) → l < 2 * length prefix → lone l s ≡ false

stuck_line : {prefix : List Quantifier} {s : List (List ℕ)} {st : Step} → Line prefix s st → st ≡ stuck → Stuck prefix s
stuck_line (line_empty _) e = absurd (cc)
stuck_line (line_none _) e = absurd (cc)
stuck_line (line_universal _ _ _) e = absurd (cc)
stuck_line (line_unit _ _ _ _ _) e = absurd (cc)
stuck_line (line_lone _ _ _ _ _ _) e = absurd (cc)
stuck_line (line_lone_universal _ _ _ _ _ _) e = absurd (cc)
stuck_line {s = s} (line_stuck ne nn nu nl) e = record { some_clause = not_none s nn; no_empty = no_empty s ne; no_unit = nu; no_lone = nl }

pub at_stuck : (prefix : List Quantifier) (s : List (List ℕ)) → step prefix s ≡ stuck → Stuck prefix s
at_stuck prefix s e = stuck_line (lines_fit prefix s) e
