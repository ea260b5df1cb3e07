-- The candidates, gathered along the prefix.
use Rattle.std.proofs.Common.{◌≡◌, ℕ, zero, suc, ◌+◌, ◌<◌, ◌≤◌, Bool, true, false, cond, List, [], ◌∷◌, ◌++◌, map, length, get_or, drop, Some, None, sym, refl, ap, ◌∙◌, subst, append_assoc, append-nil, arith, length-append}
use Rattle.std.proofs.lemmas.List.{at_drop_more, at_drop_all, length-map, length-drop, get_or-drop, get_or_default}
use Rattle.std.proofs.lemmas.List.FromFn.{length-enumerate_from, get_or-enumerate_from}
use Rattle.std.specs.List.{enumerate_from}
use Rattle.qbf.specs.declared.Quantifier.{Quantifier}
use Rattle.qbf.specs.declared.Quantifier.TheVariants.{Existential}
use Rattle.qbf.specs.declared.Candidate.{Candidate}
use Rattle.qbf.specs.Literals.{positive, negative}
use Rattle.qbf.specs.Clauses.{holding}
use Rattle.qbf.specs.Reduce.{same, lowest}
use Rattle.qbf.specs.Walk.{present, outermost, candidate, candidates}
use Rattle.formula.specs.declared.prefix.Binding.{Binding}
use Rattle.survey.specs.Surveyed.{Counted}
use Rattle.theory.specs.Blocks.{neighbours, scanned, owner}
use Rattle.theory.proofs.Reducing.{lowest_passes, lowest_below, lowest_least, lowest_none}
use Rattle.theory.proofs.Scanning.{candidates_scanned}
use Rattle.reduction.specs.Numbered.{quantified}
use Rattle.reduction.specs.declared.candidates.Candidates.{Candidates}
use Rattle.reduction.specs.Outcomes.{candidates_of}
use Rattle.reduction.specs.Tests.{candidate_by, occurring, bound_at, BlockFrom}
use Rattle.reduction.proofs.Scans.{same_self, same_other}
use Rattle.reduction.proofs.Steps.{occurs_is}

-- what the counts tell

module _ (s : List (List ℕ)) (counts : List ℕ) (told : Counted s counts) (x : ℕ) (low : x < 256) where
  pub candidate_is : candidate_by counts x ≡ candidate s x
  candidate_is =
      let a = told (positive x) (omega arith) in
      let b = told (negative x) (omega arith) in
      ap (λ (k : ℕ). record { position = x + 1; positive = k; negative = get_or counts (negative x) 0 }) a
      ∙ ap (λ (k : ℕ). record { position = x + 1; positive = length (holding (positive x) s); negative = k }) b

  pub present_is : occurring (candidate_by counts x) ≡ present x s
  present_is =
      let a = occurs_is s counts told (positive x) (omega arith) in
      let b = occurs_is s counts told (negative x) (omega arith) in
      cc

-- what is left of a block from the place i on

abbrev pub Rest : List (List ℕ) → List Binding → Quantifier → ℕ → List Candidate
Rest s bs q i = map (candidate s) (neighbours q (quantified (drop i bs)) i s)

module _ (s : List (List ℕ)) (bs : List Binding) (q : Quantifier) (i : ℕ) where
  abbrev by_tests : Bool → Bool → List Candidate
  by_tests a b = map (candidate s) (cond a (cond b (i ∷ neighbours q (quantified (drop (i + 1) bs)) (i + 1) s) (neighbours q (quantified (drop (i + 1) bs)) (i + 1) s)) [])

  one : i < length bs → Rest s bs q i ≡ by_tests (same q (bound_at bs i)) (present i s)
  one h =
      let e : suc i ≡ i + 1 = omega arith in
      at_drop_more (λ (rest : List Binding). map (candidate s) (neighbours q (quantified rest) i s)) bs i (record { variable = 0; quantifier = Existential }) h
      ∙ ap (λ (j : ℕ). map (candidate s) (cond (same q (bound_at bs i)) (cond (present i s) (i ∷ neighbours q (quantified (drop (i + 1) bs)) j s) (neighbours q (quantified (drop (i + 1) bs)) j s)) [])) e

  rest_other : i < length bs → (bound_at bs i ≡ q → ⊥) → Rest s bs q i ≡ []
  rest_other h n = one h ∙ ap (λ (a : Bool). by_tests a (present i s)) (same_other q (bound_at bs i) n)

  rest_at : (b : Bool) → i < length bs → bound_at bs i ≡ q → present i s ≡ b → Rest s bs q i ≡ by_tests true b
  rest_at b h e p = one h ∙ ap (λ (a : Bool). by_tests a (present i s)) (ap (same q) e ∙ same_self q) ∙ ap (by_tests true) p

  rest_all : length bs ≤ i → Rest s bs q i ≡ []
  rest_all h = at_drop_all (λ (rest : List Binding). map (candidate s) (neighbours q (quantified rest) i s)) bs i h

-- what a look over the bindings from a place on, with their places, comes to after k of them
pub at_place : (bs : List Binding) (first k : ℕ) (x : ℕ × Binding) →
    (k < length (drop first (enumerate_from 0 bs))) × (x ≡ get_or (drop first (enumerate_from 0 bs)) k x) → (first + k < length bs) × (x.0 ≡ first + k) × (x.1.quantifier ≡ bound_at bs (first + k))
at_place bs first k x h =
    let low : first + k < length bs = let a = length-drop first (enumerate_from 0 bs) in let b = length-enumerate_from 0 bs in omega (arith, h.0) in
    let e = h.1 ∙ get_or-drop first (enumerate_from 0 bs) k x ∙ get_or-enumerate_from 0 bs (first + k) x low in
    let place = ap (λ (y : ℕ × Binding). y.0) e in
    (low, omega (arith, place), ap (λ (y : ℕ × Binding). y.1.quantifier) e ∙ ap (λ (b : Binding). b.quantifier) (get_or_default bs (first + k) _ _ low))

pub after_places : (bs : List Binding) (first k : ℕ) → k ≡ length (drop first (enumerate_from 0 bs)) → length bs ≤ first + k
after_places bs first k h = let a = length-drop first (enumerate_from 0 bs) in let b = length-enumerate_from 0 bs in omega arith

-- those before the place i are gathered
pub record Gathered (counts : List ℕ) (bs : List Binding) (first i : ℕ) (found : Candidates) : Type 0 where
  pub block : found.quantifier ≡ bound_at bs first
  pub few : length (candidates_of found) + first ≤ i
  pub listed : (s : List (List ℕ)) → Counted s counts → candidates_of found ++ Rest s bs (bound_at bs first) i ≡ Rest s bs (bound_at bs first) first

pub gathered_none : (counts : List ℕ) (bs : List Binding) (first : ℕ) (found : Candidates) → candidates_of found ≡ [] → found.quantifier ≡ bound_at bs first → Gathered counts bs first first found
gathered_none counts bs first found e q = record {
  block = q;
  few = let l = ap length e in omega arith;
  listed = λ s told. ap (λ (cs : List Candidate). cs ++ Rest s bs (bound_at bs first) first) e;
}

module _ (counts : List ℕ) (bs : List Binding) (first i : ℕ) (found : Candidates) (g : Gathered counts bs first i found) where
  abbrev q : Quantifier
  q = bound_at bs first

  ends : ((s : List (List ℕ)) → Rest s bs q i ≡ []) → BlockFrom counts bs first found
  ends none = record {
    block = g.block;
    listed = λ s told. sym (append-nil (candidates_of found)) ∙ ap (λ (cs : List Candidate). candidates_of found ++ cs) (sym (none s)) ∙ g.listed s told;
  }

  pub gathered_other : i < length bs → (bound_at bs i ≡ q → ⊥) → BlockFrom counts bs first found
  gathered_other h n = ends (λ s. rest_other s bs q i h n)

  pub gathered_all : length bs ≤ i → BlockFrom counts bs first found
  gathered_all h = ends (λ s. rest_all s bs q i h)

  module _ (h : i < length bs) (small : length bs ≤ 256) (same_block : bound_at bs i ≡ q) (c : Candidate) (is : c ≡ candidate_by counts i) where
    tested : (b : Bool) → b ≡ occurring c → (s : List (List ℕ)) → Counted s counts → present i s ≡ b
    tested b e s told = sym (e ∙ ap occurring is ∙ present_is s counts told i (omega arith))

    pub gathered_past : (b : Bool) → b ≡ occurring c → b ≡ false → Gathered counts bs first (i + 1) found
    gathered_past b e f = record {
      block = g.block;
      few = omega (arith, g.few);
      listed = λ s told. ap (λ (cs : List Candidate). candidates_of found ++ cs) (sym (rest_at s bs q i false h same_block (tested b e s told ∙ f))) ∙ g.listed s told;
    }

    pub gathered_more : (b : Bool) → b ≡ occurring c → b ≡ true → (more : Candidates) → candidates_of more ≡ candidates_of found ++ (c ∷ []) → more.quantifier ≡ found.quantifier → Gathered counts bs first (i + 1) more
    gathered_more b e f more list block = record {
      block = block ∙ g.block;
      few = let l = ap length list ∙ length-append (candidates_of found) (c ∷ []) in let k = g.few in omega arith;
      listed = λ s told.
          ap (λ (cs : List Candidate). cs ++ Rest s bs q (i + 1)) list
          ∙ append_assoc (candidates_of found) (c ∷ []) (Rest s bs q (i + 1))
          ∙ ap (λ (d : Candidate). candidates_of found ++ (d ∷ Rest s bs q (i + 1))) (is ∙ candidate_is s counts told i (omega arith))
          ∙ ap (λ (cs : List Candidate). candidates_of found ++ cs) (sym (rest_at s bs q i true h same_block (tested b e s told ∙ f)))
          ∙ g.listed s told;
    }

-- from the first variable that occurs

none_scanned : (s : List (List ℕ)) (prefix : List Quantifier) (v : ℕ) → ((m : ℕ) → v ≤ m → m < v + length prefix → present m s ≡ false) → (scanned prefix v s ≡ []) × (owner prefix v s ≡ Existential)
none_scanned s [] v h = (refl, refl)
none_scanned s (q ∷ prefix) v h =
    let e = h v (omega arith) (omega arith) in
    let ih = none_scanned s prefix (suc v) (λ m a b. h m (omega arith) (omega arith)) in
    rw e ih

first_scanned : (s : List (List ℕ)) (bs : List Binding) (v k : ℕ) → k < length bs → ((m : ℕ) → v ≤ m → m < v + k → present m s ≡ false) → present (v + k) s ≡ true →
    (scanned (quantified bs) v s ≡ neighbours (bound_at bs k) (quantified (drop k bs)) (v + k) s) × (owner (quantified bs) v s ≡ bound_at bs k)
first_scanned s [] v k l h t = absurd (let no : ⊥ = omega arith in no)
first_scanned s (b ∷ bs) v zero l h t =
    let z : v + 0 ≡ v = omega arith in
    let p : present v s ≡ true = subst (λ x. present x s ≡ true) z t in
    rw (z, p, same_self b.quantifier) (refl, refl)
first_scanned s (b ∷ bs) v (suc k) l h t =
    let z : v + suc k ≡ suc v + k = omega arith in
    let p = h v (omega arith) (omega arith) in
    let ih = first_scanned s bs (suc v) k (omega arith) (λ m a b. h m (omega arith) (omega arith)) (subst (λ x. present x s ≡ true) z t) in
    rw (z, p) ih

-- the answer

module _ (bs : List Binding) (few : length bs ≤ 256) (s : List (List ℕ)) (counts : List ℕ) (told : Counted s counts) where
  abbrev test : ℕ → Bool
  test x = occurring (candidate_by counts x)

  fails : (m : ℕ) → m < length bs → test m ≡ false → present m s ≡ false
  fails m h e = sym (present_is s counts told m (omega arith)) ∙ e

  pub found_none : (found : Candidates) → None ≡ lowest test (length bs) 0 → candidates_of found ≡ [] → found.quantifier ≡ Existential →
      (candidates_of found ≡ candidates (quantified bs) s) × (found.quantifier ≡ (outermost (quantified bs) s).quantifier)
  found_none found e list block =
      let l = length-map bs (λ b. b.quantifier) in
      let n = none_scanned s (quantified bs) 0 (λ m a b. fails m (omega arith) (lowest_none test (length bs) 0 (sym e) m (omega arith) (omega arith))) in
      let c = candidates_scanned (quantified bs) s in
      (list ∙ sym (c.0 ∙ ap (map (candidate s)) n.0), block ∙ sym (c.1 ∙ n.1))

  pub first_within : (i : ℕ) → Some i ≡ lowest test (length bs) 0 → i < length bs
  first_within i e = let h = lowest_below test (length bs) 0 i (sym e) in omega arith

  pub found_block : (found : Candidates) (i : ℕ) → Some i ≡ lowest test (length bs) 0 → BlockFrom counts bs i found →
      (candidates_of found ≡ candidates (quantified bs) s) × (found.quantifier ≡ (outermost (quantified bs) s).quantifier)
  found_block found i e b =
      let within = first_within i e in
      let z : 0 + i ≡ i = omega arith in
      let p : present (0 + i) s ≡ true = rw z (sym (present_is s counts told i (omega arith)) ∙ lowest_passes test (length bs) 0 i (sym e)) in
      let n = first_scanned s bs 0 i within (λ m a b. fails m (omega arith) (lowest_least test (length bs) 0 i (sym e) m (omega arith) (omega arith))) p in
      let c = candidates_scanned (quantified bs) s in
      let v : neighbours (bound_at bs i) (quantified (drop i bs)) (0 + i) s ≡ neighbours (bound_at bs i) (quantified (drop i bs)) i s = ap (λ (j : ℕ). neighbours (bound_at bs i) (quantified (drop i bs)) j s) z in
      (b.listed s told ∙ sym (c.0 ∙ ap (map (candidate s)) (n.0 ∙ v)), b.block ∙ sym (c.1 ∙ n.1))
