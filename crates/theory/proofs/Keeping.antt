-- Each line of reducing keeps the value, and a setting takes a literal out.
use Rattle.std.proofs.Common.{◌≡◌, ℕ, zero, suc, ◌+◌, ◌/◌, ◌<◌, ◌≤◌, true, ◌||◌, List, [], ◌∷◌, length, sym, refl, ◌∙◌, inl, inr, arith}
use Rattle.std.proofs.lemmas.Bool.Decides.{nat_tests}
use Rattle.qbf.specs.declared.Quantifier.{Quantifier}
use Rattle.qbf.specs.declared.Quantifier.TheVariants.{Existential, Universal}
use Rattle.qbf.specs.Literals.{complement}
use Rattle.qbf.specs.Lists.{mem, without}
use Rattle.qbf.specs.Clauses.{weave, union, lacking, taken_out, assigned}
use Rattle.qbf.specs.Value.{assign, value}
use Rattle.qbf.specs.Reduce.{binds, occurs, Step, settled, forced, stuck, step, size}
use Rattle.theory.specs.Lines.{Line, line_empty, line_none, line_universal, line_unit, line_lone, line_lone_universal, line_stuck}
use Rattle.theory.proofs.Terms.{Bound}
use Rattle.theory.proofs.Reducing.{in_occurs}
use Rattle.theory.proofs.Lines.{lines_fit}
use Rattle.sets.proofs.Words.{without_absent}
use Rattle.theory.proofs.Truths.{value_empty}
use Rattle.theory.proofs.Rules.{unit_ex, unit_all, lone_ex, lone_all}
use Rattle.theory.proofs.Setting.{value_assigned_set}

pub binds_bound : (q : Quantifier) (prefix : List Quantifier) (v x l : ℕ) → l / 2 ≡ v + x → binds q prefix x ≡ true → Bound q prefix v l
binds_bound q [] v x l e b = grind (arith, nat_tests)
binds_bound q (r ∷ prefix) v zero l e b = inl (omega arith, grind (arith, nat_tests))
binds_bound q (r ∷ prefix) v (suc x) l e b = inr (binds_bound q prefix (suc v) x l (omega arith) b)

pub value_none : (qs : List Quantifier) (v : ℕ) → value qs v [] ≡ true
value_none [] v = refl
value_none (q ∷ qs) v = let ih = value_none qs (suc v) in grind (arith, nat_tests)

-- what a step keeps of the value
abbrev pub Keeps : List Quantifier → List (List ℕ) → Step → Type 0
Keeps prefix s (settled b) = value prefix 0 s ≡ b
Keeps prefix s (forced l) = value prefix 0 s ≡ value prefix 0 (assigned l s)
Keeps prefix s stuck = Unit {0}

line_keeps : {prefix : List Quantifier} {s : List (List ℕ)} {st : Step} → Line prefix s st → Keeps prefix s st
line_keeps {prefix} {s} (line_empty h) = value_empty prefix 0 s h
line_keeps {prefix} {s} (line_none e) = rw e (value_none prefix 0)
line_keeps {prefix} {s} (line_universal l _ u) = unit_all prefix 0 l s (binds_bound Universal prefix 0 (l / 2) l (omega arith) u.bound) u.clause
line_keeps {prefix} {s} (line_unit l _ _ u _) = unit_ex prefix 0 l s (binds_bound Existential prefix 0 (l / 2) l (omega arith) u.bound) u.clause ∙ sym (value_assigned_set l s prefix 0)
line_keeps {prefix} {s} (line_lone l _ _ u _ b) = lone_ex prefix 0 l s (binds_bound Existential prefix 0 (l / 2) l (omega arith) b) (grind (arith, nat_tests)) ∙ sym (value_assigned_set l s prefix 0)
line_keeps {prefix} {s} (line_lone_universal l _ _ u _ b) = lone_all prefix 0 l s (binds_bound Universal prefix 0 (l / 2) l (omega arith) b) (grind (arith, nat_tests)) ∙ sym (value_assigned_set (complement l) s prefix 0)
line_keeps (line_stuck _ _ _ _) = tt

pub step_keeps : (prefix : List Quantifier) (s : List (List ℕ)) → Keeps prefix s (step prefix s)
step_keeps prefix s = line_keeps (lines_fit prefix s)

-- sizes
length_without : (l : ℕ) (c : List ℕ) → (length (without l c) ≤ length c) × (mem l c ≡ true → length (without l c) < length c)
length_without l [] = grind (arith, nat_tests)
length_without l (x ∷ c) = let ih = length_without l c in grind (arith, nat_tests)

length_mem : (l : ℕ) (c : List ℕ) → mem l c ≡ true → 0 < length c
length_mem l [] e = grind (arith, nat_tests)
length_mem l (x ∷ c) e = omega arith

pub size_assign : (l : ℕ) (s : List (List ℕ)) → size (assign l s) ≤ size s
size_assign l [] = omega arith
size_assign l (c ∷ s) = let ih = size_assign l s in let w = length_without (complement l) c in grind (arith, nat_tests)

pub size_assign_falls : (l : ℕ) (s : List (List ℕ)) → (occurs l s || occurs (complement l) s) ≡ true → size (assign l s) < size s
size_assign_falls l [] e = grind (arith, nat_tests)
size_assign_falls l (c ∷ s) e =
    let ih = size_assign_falls l s in
    let le = size_assign l s in
    let w = length_without (complement l) c in
    let m = length_mem l c in
    grind (arith, nat_tests)

size_union : (s t : List (List ℕ)) → size (union s t) ≤ size s + size t
size_union [] t = omega arith
size_union (c ∷ s) t = go (size_union s) t
  where
    go : ((t : List (List ℕ)) → size (union s t) ≤ size s + size t) → (t : List (List ℕ)) → size (weave c (union s) t) ≤ (length c + size s) + size t
    go rec [] = let r = rec [] in omega arith
    go rec (d ∷ t) = let r = rec (d ∷ t) in let q = rec t in let i = go rec t in grind (arith, nat_tests)

size_parts : (l : ℕ) (s : List (List ℕ)) → size (taken_out (complement l) (lacking l s)) + size (lacking (complement l) (lacking l s)) ≡ size (assign l s)
size_parts l [] = refl
size_parts l (c ∷ s) = let ih = size_parts l s in let w = without_absent (complement l) c in grind (arith, nat_tests)

pub size_assigned : (l : ℕ) (s : List (List ℕ)) → size (assigned l s) ≤ size (assign l s)
size_assigned l s = let u = size_union (taken_out (complement l) (lacking l s)) (lacking (complement l) (lacking l s)) in let p = size_parts l s in omega arith

pub size_falls : (l : ℕ) (s : List (List ℕ)) → (occurs l s || occurs (complement l) s) ≡ true → size (assigned l s) < size s
size_falls l s e = let a = size_assigned l s in let b = size_assign_falls l s e in omega arith

-- a forced setting takes a literal out
abbrev pub Falls : List (List ℕ) → Step → Type 0
Falls s (settled b) = Unit {0}
Falls s (forced l) = size (assigned l s) < size s
Falls s stuck = Unit {0}

line_falls : {prefix : List Quantifier} {s : List (List ℕ)} {st : Step} → Line prefix s st → Falls s st
line_falls (line_empty _) = tt
line_falls (line_none _) = tt
line_falls (line_universal _ _ _) = tt
line_falls {s = s} (line_unit l _ _ u _) = let o = in_occurs l s (l ∷ []) u.clause (grind (arith, nat_tests)) in size_falls l s (grind (arith, nat_tests))
line_falls {s = s} (line_lone l _ _ u _ _) = size_falls l s (grind (arith, nat_tests))
line_falls {s = s} (line_lone_universal l _ _ u _ _) = let f : complement (complement l) ≡ l = omega arith in size_falls (complement l) s (grind (arith, nat_tests))
line_falls (line_stuck _ _ _ _) = tt

pub step_falls : (prefix : List Quantifier) (s : List (List ℕ)) → Falls s (step prefix s)
step_falls prefix s = line_falls (lines_fit prefix s)
