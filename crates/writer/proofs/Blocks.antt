-- The first block of a prefix: the variables up to the first that another quantifier binds.
use Rattle.std.proofs.Common.{◌≡◌, ℕ, suc, Bool, true, false, List, [], ◌∷◌, take, drop, ◌++◌, Some, None, sym, refl, ap, ◌∙◌, arith}
use Rattle.std.specs.List.{flat_map, prefix_len, slice_get}
use Rattle.std.proofs.lemmas.Bool.{cond-true, cond-false}
use Rattle.qbf.specs.declared.Quantifier.{Quantifier}
use Rattle.formula.specs.declared.prefix.Binding.{Binding}
use Rattle.grammar.specs.Grammar.{bind}
use Rattle.rendering.specs.Render.{Block, same_quantifier, in_front, blocks, block_line, prefix_lines}
use Rattle.rendering.proofs.Blocks.{same_is, same_itself}
use Rattle.writer.specs.Lines.{block_of}

-- how many from the front on the quantifier binds
abbrev pub run : Quantifier → List Binding → ℕ
run q bs = prefix_len (λ b. same_quantifier q b.quantifier) bs

in_run : (q : Quantifier) (v : ℕ) (bs : List Binding) → in_front (bind q v) (blocks bs) ≡ block_of q (bind q v ∷ take (run q bs) bs) ∷ blocks (drop (run q bs) bs)
in_run q v [] = refl
in_run q v (c ∷ cs) = on (λ p. in_run p c.variable cs) (same_quantifier q c.quantifier) refl
  where
    goes_on : ℕ → List Block
    goes_on n = block_of q (bind q v ∷ take n (c ∷ cs)) ∷ blocks (drop n (c ∷ cs))

    on : ((p : Quantifier) → in_front (bind p c.variable) (blocks cs) ≡ block_of p (bind p c.variable ∷ take (run p cs) cs) ∷ blocks (drop (run p cs) cs)) → (t : Bool) → same_quantifier q c.quantifier ≡ t → in_front (bind q v) (blocks (c ∷ cs)) ≡ goes_on (run q (c ∷ cs))
    on first true e =
        ap (λ (p : Quantifier). in_front (bind q v) (in_front (bind p c.variable) (blocks cs))) (sym (same_is q c.quantifier e))
        ∙ ap (in_front (bind q v)) (first q)
        ∙ cond-true _ _ _ (same_itself q)
        ∙ (let n : run q (c ∷ cs) ≡ suc (run q cs) = cond-true _ _ _ e ∙ omega arith in sym (ap goes_on n))
    on first false e =
        ap (in_front (bind q v)) (first c.quantifier)
        ∙ cond-false _ _ _ e
        ∙ ap (λ (ks : List Block). block_of q (bind q v ∷ []) ∷ ks) (sym (first c.quantifier))
        ∙ sym (ap goes_on (cond-false _ _ _ e))

-- a prefix that is not empty begins with the line of its first block
pub lines_front : (bs block behind : List Binding) (b : Binding) (n : ℕ) → slice_get bs 0 ≡ Some b → n ≡ run b.quantifier bs → block ≡ take n bs → behind ≡ drop n bs → prefix_lines bs ≡ block_line (block_of b.quantifier block) ++ prefix_lines behind
lines_front [] block behind b n first e f g = absurd (cc)
lines_front (c ∷ cs) block behind b n first e f g =
    let here : c ≡ b = cc in
    let long : n ≡ suc (run c.quantifier cs) = e ∙ ap (λ (d : Binding). run d.quantifier (c ∷ cs)) (sym here) ∙ cond-true _ _ _ (same_itself c.quantifier) ∙ omega arith in
    ap (flat_map block_line) (in_run c.quantifier c.variable cs)
    ∙ ap (λ (k : ℕ). block_line (block_of c.quantifier (take k (c ∷ cs))) ++ prefix_lines (drop k (c ∷ cs))) (sym long)
    ∙ ap (λ (d : Binding). block_line (block_of d.quantifier (take n (c ∷ cs))) ++ prefix_lines (drop n (c ∷ cs))) here
    ∙ ap (λ (l : List Binding). block_line (block_of b.quantifier l) ++ prefix_lines (drop n (c ∷ cs))) (sym f)
    ∙ ap (λ (l : List Binding). block_line (block_of b.quantifier block) ++ prefix_lines l) (sym g)

pub no_lines : (bs : List Binding) → slice_get bs 0 ≡ None → prefix_lines bs ≡ []
no_lines [] e = refl
no_lines (b ∷ bs) e = absurd (cc)
