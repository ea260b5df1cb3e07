-- Blocks are longest runs, and the candidates are found by one look along the prefix.
use Rattle.std.proofs.Common.{◌≡◌, ℕ, suc, ◌<◌, Bool, true, false, cond, List, [], ◌∷◌, ◌++◌, map, length, filter, sym, refl, ap, ◌∙◌, subst, inl, inr, arith}
use Rattle.std.specs.List.{AllByRecursion}
use Rattle.std.proofs.lemmas.Bool.Decides.{nat_tests}
use Rattle.std.proofs.lemmas.Bool.{cases_Bool}
use Rattle.qbf.specs.declared.Quantifier.{Quantifier}
use Rattle.qbf.specs.Reduce.{same}
use Rattle.qbf.specs.Walk.{Block, ahead, blocks, present, some_present, first_present, candidate}
use Rattle.theory.specs.Blocks.{unrolled, Alternate, BlocksRun, neighbours, scanned, owner, CandidatesScanned}
use Rattle.theory.proofs.Blocks.{alone, joined, Other, by_ahead}

same_self : (q : Quantifier) → same q q ≡ true
same_self q = grind (arith, nat_tests)

-- one variable more
module _ (q : Quantifier) (v : ℕ) where
  ahead_all : (cs : List Block) → unrolled (ahead q v cs) ≡ (v, q) ∷ unrolled cs
  ahead_all =
      by_ahead (λ cs r. unrolled r ≡ (v, q) ∷ unrolled cs) q v
      (λ cs _. refl)
      (λ c cs e. ap (λ (p : Quantifier). (v, q) ∷ (map (λ x. (x, p)) c.variables ++ unrolled cs)) e)

  ahead_filled : (cs : List Block) → AllByRecursion (λ b. 0 < length b.variables) cs → AllByRecursion (λ b. 0 < length b.variables) (ahead q v cs)
  ahead_filled =
      by_ahead (λ cs r. AllByRecursion (λ b. 0 < length b.variables) cs → AllByRecursion (λ b. 0 < length b.variables) r) q v
      (λ cs _ h. (omega arith, h))
      (λ c cs _ h. (omega arith, h.1))

  alone_alternates : (cs : List Block) → Other q cs → Alternate cs → Alternate (alone q v ∷ cs)
  alone_alternates [] o h = tt
  alone_alternates (c ∷ cs) o h = (λ e. let w : same q q ≡ false = rw (← e) at o in let k = same_self q in absurd (cc), h)

  joined_alternates : (c : Block) (cs : List Block) → q ≡ c.quantifier → Alternate (c ∷ cs) → Alternate (joined q v c ∷ cs)
  joined_alternates c [] e h = tt
  joined_alternates c (d ∷ cs) e h = (λ f. h.0 (sym e ∙ f), h.1)

  ahead_alternate : (cs : List Block) → Alternate cs → Alternate (ahead q v cs)
  ahead_alternate = by_ahead (λ cs r. Alternate cs → Alternate r) q v alone_alternates joined_alternates

  head_quantifier : (cs : List Block) (b : Block) (bs : List Block) → ahead q v cs ≡ b ∷ bs → b.quantifier ≡ q
  head_quantifier cs b bs =
      by_ahead (λ _ r. r ≡ b ∷ bs → b.quantifier ≡ q) q v
      (λ cs _ e. let w : alone q v ≡ b = cc in ap (λ (x : Block). x.quantifier) (sym w))
      (λ c cs _ e. let w : joined q v c ≡ b = cc in ap (λ (x : Block). x.quantifier) (sym w))
      cs

pub blocks_run : BlocksRun
blocks_run [] v = record { all = refl; filled = tt; longest = tt }
blocks_run (q ∷ prefix) v =
    let ih = blocks_run prefix (suc v) in
    record {
      all = ahead_all q v (blocks prefix (suc v)) ∙ ap (λ (x : List (ℕ × Quantifier)). (v, q) ∷ x) ih.all;
      filled = ahead_filled q v (blocks prefix (suc v)) ih.filled;
      longest = ahead_alternate q v (blocks prefix (suc v)) ih.longest;
    }

module _ (s : List (List ℕ)) where
  abbrev kept : List ℕ → List ℕ
  kept xs = filter (λ x. present x s) xs

  -- where the first block has another quantifier, no neighbour is bound by this one
  no_neighbours : (q : Quantifier) (prefix : List Quantifier) (v : ℕ) → Other q (blocks prefix v) → neighbours q prefix v s ≡ []
  no_neighbours q [] v o = refl
  no_neighbours q (r ∷ prefix) v o =
      let differs : same q r ≡ false = by_ahead (λ _ bs. Other q bs → same q r ≡ false) r v (λ cs _ k. k) (λ c cs _ k. k) (blocks prefix (suc v)) o in
      rw differs

  -- of the first block, the variables that occur
  abbrev Run : List Quantifier → ℕ → Block → Type 0
  Run prefix v b = kept b.variables ≡ neighbours b.quantifier prefix v s

  head_run : (prefix : List Quantifier) (v : ℕ) (b : Block) (bs : List Block) → blocks prefix v ≡ b ∷ bs → Run prefix v b
  head_run [] v b bs e = absurd (cc)
  head_run (q ∷ prefix) v b bs e =
      let ih = head_run prefix (suc v) in
      by_ahead (λ cs r. blocks prefix (suc v) ≡ cs → r ≡ b ∷ bs → Run (q ∷ prefix) v b) q v
      (λ cs o f g.
      let w : alone q v ≡ b = cc in
      subst (Run (q ∷ prefix) v) w (rw (same_self q, no_neighbours q prefix (suc v) (rw f o))))
      (λ c cs j f g.
      let w : joined q v c ≡ b = cc in
      let i : kept c.variables ≡ neighbours q prefix (suc v) s = ih c cs f ∙ ap (λ (r : Quantifier). neighbours r prefix (suc v) s) (sym j) in
      subst (Run (q ∷ prefix) v) w (rw (same_self q, i)))
      (blocks prefix (suc v)) refl e

  -- the outermost block that occurs, against one look along the prefix
  record Found (b : Block) (prefix : List Quantifier) (v : ℕ) : Type 0 where
    variables : kept b.variables ≡ scanned prefix v s
    quantifier : b.quantifier ≡ owner prefix v s

  -- a variable that does not occur changes nothing
  abbrev Alike : Block → Block → Type 0
  Alike b c = (kept b.variables ≡ kept c.variables) × (b.quantifier ≡ c.quantifier)

  skipped : (q : Quantifier) (v : ℕ) → present v s ≡ false → (cs : List Block) → Alike (first_present (ahead q v cs) s) (first_present cs s)
  skipped q v e =
      by_ahead (λ cs r. Alike (first_present r s) (first_present cs s)) q v
      (λ cs _. rw e (refl, refl))
      (λ c cs j. rw e (both c cs j (some_present c.variables s)))
    where
      both : (c : Block) (cs : List Block) → q ≡ c.quantifier → (u : Bool) → Alike (cond {A = Block} u (joined q v c) (first_present cs s)) (cond {A = Block} u c (first_present cs s))
      both c cs j true = (rw e, j)
      both c cs j false = (refl, refl)

  -- a variable that occurs begins the first block
  begins : (q : Quantifier) (v : ℕ) → present v s ≡ true → (cs : List Block) → (b : Block) × (bs : List Block) × (ahead q v cs ≡ b ∷ bs) × (first_present (ahead q v cs) s ≡ b)
  begins q v e =
      by_ahead (λ cs r. (b : Block) × (bs : List Block) × (r ≡ b ∷ bs) × (first_present r s ≡ b)) q v
      (λ cs _. (alone q v, cs, refl, rw e))
      (λ c cs _. (joined q v c, cs, refl, rw e))

  found : (prefix : List Quantifier) (v : ℕ) → Found (first_present (blocks prefix v) s) prefix v
  found [] v = record { variables = refl; quantifier = refl }
  found (q ∷ prefix) v =
      let ih = found prefix (suc v) in
      elim (cases_Bool (present v s)) [
        | inl e ↦
            let r = begins q v e (blocks prefix (suc v)) in
            let h = head_quantifier q v (blocks prefix (suc v)) r.0 r.1 r.2 in
            let run : kept r.0.variables ≡ neighbours r.0.quantifier (q ∷ prefix) v s = head_run (q ∷ prefix) v r.0 r.1 r.2 in
            record {
              variables = ap (λ (x : Block). kept x.variables) r.3 ∙ run ∙ ap (λ (p : Quantifier). neighbours p (q ∷ prefix) v s) h ∙ rw (same_self q, e);
              quantifier = ap (λ (x : Block). x.quantifier) r.3 ∙ h ∙ rw e;
            }
        | inr e ↦
            let k = skipped q v e (blocks prefix (suc v)) in
            record { variables = k.0 ∙ ih.variables ∙ rw e; quantifier = k.1 ∙ ih.quantifier ∙ rw e }
      ]

pub candidates_scanned : CandidatesScanned
candidates_scanned prefix s = let f = found s prefix 0 in (ap (map (candidate s)) f.variables, f.quantifier)
