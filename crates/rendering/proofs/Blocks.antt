-- The blocks of a prefix.
use Rattle.std.proofs.Common.{◌≡◌, ℕ, ◌<◌, true, false, List, [], ◌∷◌, map, length, sym, refl, ap, ◌∙◌, arith}
use Rattle.std.specs.List.{flat_map, AllByRecursion}
use Rattle.std.proofs.lemmas.Bool.{false≢true, true≢false, cond_both}
use Rattle.qbf.specs.declared.Quantifier.{Quantifier}
use Rattle.qbf.specs.declared.Quantifier.TheVariants.{Existential, Universal}
use Rattle.formula.specs.declared.prefix.Binding.{Binding}
use Rattle.grammar.specs.Grammar.{bind}
use Rattle.rendering.specs.Render.{same_quantifier, Block, in_front, blocks}
use Rattle.rendering.specs.Trip.{Alternate, BlocksStand}

pub same_is : (p q : Quantifier) → same_quantifier p q ≡ true → p ≡ q
same_is Existential Existential e = refl
same_is Existential Universal e = absurd (false≢true e)
same_is Universal Existential e = absurd (false≢true e)
same_is Universal Universal e = refl

pub same_itself : (q : Quantifier) → same_quantifier q q ≡ true
same_itself Existential = refl
same_itself Universal = refl

differ : (p q : Quantifier) → same_quantifier p q ≡ false → p ≡ q → ⊥
differ p q n e = true≢false (sym (same_itself q) ∙ ap (λ (r : Quantifier). same_quantifier r q) (sym e) ∙ n)

-- the prefix that the blocks make up
abbrev pub unblocked : List Block → List Binding
unblocked ks = flat_map (λ k. map (bind k.quantifier) k.variables) ks

whole : (b : Binding) (ks : List Block) → unblocked (in_front b ks) ≡ b ∷ unblocked ks
whole b [] = refl
whole b (k ∷ ks) =
    cond_both (same_quantifier b.quantifier k.quantifier) _ _ (λ l. unblocked l ≡ b ∷ unblocked (k ∷ ks))
    (λ e. ap (λ (q : Quantifier). bind q b.variable ∷ unblocked (k ∷ ks)) (sym (same_is b.quantifier k.quantifier e)))
    (λ _. refl)

abbrev pub Filled : List Block → Type 0
Filled ks = AllByRecursion (λ k. 0 < length k.variables) ks

filled : (b : Binding) (ks : List Block) → Filled ks → Filled (in_front b ks)
filled b [] h = (omega arith, tt)
filled b (k ∷ ks) h = cond_both (same_quantifier b.quantifier k.quantifier) _ _ Filled (λ _. (omega arith, h.1)) (λ _. (omega arith, h))

-- the first block with more variables
more : (k : Block) (vs : List ℕ) (ks : List Block) → Alternate (k ∷ ks) → Alternate (record { quantifier = k.quantifier; variables = vs } ∷ ks)
more k vs [] h = tt
more k vs (l ∷ ks) h = h

longest : (b : Binding) (ks : List Block) → Alternate ks → Alternate (in_front b ks)
longest b [] h = tt
longest b (k ∷ ks) h =
    cond_both (same_quantifier b.quantifier k.quantifier) _ _ Alternate
    (λ _. more k (b.variable ∷ k.variables) ks h)
    (λ n. (differ b.quantifier k.quantifier n, h))

pub blocks_stand_lem : BlocksStand
blocks_stand_lem [] = record { whole = refl; filled = tt; longest = tt }
blocks_stand_lem (b ∷ bs) =
    let ih = blocks_stand_lem bs in
    record {
      whole = whole b (blocks bs) ∙ ap (λ (l : List Binding). b ∷ l) ih.whole;
      filled = filled b (blocks bs) ih.filled;
      longest = longest b (blocks bs) ih.longest;
    }
