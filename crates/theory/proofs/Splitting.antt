-- What the bare walk does at a set whose reduced set is split.
use Rattle.std.proofs.Common.{◌≡◌, ℕ, suc, ◌+◌, ◌<◌, ◌≤◌, Bool, true, false, List, [], ◌∷◌, ◌++◌, length, refl, ap, ◌∙◌, arith}
use Rattle.std.proofs.lemmas.Bool.Decides.{nat_tests}
use Rattle.qbf.specs.declared.Quantifier.{Quantifier}
use Rattle.qbf.specs.declared.Candidate.{Candidate}
use Rattle.qbf.specs.Literals.{positive, negative}
use Rattle.qbf.specs.Chooser.{Picks}
use Rattle.qbf.specs.Clauses.{assigned, setting}
use Rattle.qbf.specs.Value.{combine, value}
use Rattle.qbf.specs.Reduce.{Outcome, decided, left, reduce}
use Rattle.qbf.specs.Walk.{outermost, candidates, picked, Walked, ends, larger, after, split, side, branch, turn, bare}
use Rattle.theory.proofs.Terms.{Subset}
use Rattle.theory.proofs.Reduces.{reduced_to, reduces_keeps}
use Rattle.theory.proofs.Blocks.{picked_first}
use Rattle.theory.proofs.Walking.{bare_unfolds}
use Rattle.theory.proofs.Tables.{in_append_left, in_append_right}

pub combine_stops : (q : Quantifier) (a b : Bool) → ends q a ≡ true → combine q a b ≡ a
combine_stops q a b e = grind (arith, nat_tests)

pub combine_goes : (q : Quantifier) (a b : Bool) → ends q a ≡ false → combine q a b ≡ b
combine_goes q a b e = grind (arith, nat_tests)

larger_left : (m n : ℕ) → m ≤ larger m n
larger_left m n = grind (arith, nat_tests)

larger_right : (m n : ℕ) → n ≤ larger m n
larger_right m n = grind (arith, nat_tests)

split_stops : (q : Quantifier) (a b : Walked) → ends q a.verdict ≡ true → split q a b ≡ record { verdict = a.verdict; splits = suc a.splits; depth = suc a.depth; made = a.made }
split_stops q a b e = rw e

split_goes : (q : Quantifier) (a b : Walked) → ends q a.verdict ≡ false →
    split q a b ≡ record { verdict = b.verdict; splits = suc (a.splits + b.splits); depth = suc (larger a.depth b.depth); made = a.made ++ b.made }
split_goes q a b e = rw e

-- the walk w of a set against the walks a and b of the two sides of its split, which make their sets after those of the settings
pub record Halves (q : Quantifier) (first second : List (List (List ℕ))) (w a b : Walked) : Type 0 where
  pub first_splits : suc a.splits ≤ w.splits
  pub first_depth : suc a.depth ≤ w.depth
  pub first_made : Subset (first ++ a.made) w.made
  pub only_splits : ends q a.verdict ≡ true → w.splits ≡ suc a.splits
  pub both_splits : ends q a.verdict ≡ false → w.splits ≡ suc (a.splits + b.splits)
  pub second_depth : ends q a.verdict ≡ false → suc b.depth ≤ w.depth
  pub second_made : ends q a.verdict ≡ false → Subset (second ++ b.made) w.made

halves : (q : Quantifier) (sets first second : List (List (List ℕ))) (w a b : Walked) → w ≡ after sets (split q (after first a) (after second b)) → Halves q first second w a b
halves q sets first second w a b e = go (ends q a.verdict) refl
  where
    go : (t : Bool) → ends q a.verdict ≡ t → Halves q first second w a b
    go true t =
        let f : w ≡ record { verdict = a.verdict; splits = suc a.splits; depth = suc a.depth; made = sets ++ (first ++ a.made) } = e ∙ ap (after sets) (split_stops q (after first a) (after second b) t) in
        let n : w.splits ≡ suc a.splits = ap (λ (x : Walked). x.splits) f in
        let d : w.depth ≡ suc a.depth = ap (λ (x : Walked). x.depth) f in
        let m : w.made ≡ sets ++ (first ++ a.made) = ap (λ (x : Walked). x.made) f in
        record {
          first_splits = omega arith;
          first_depth = omega arith;
          first_made = λ x i. rw m (in_append_right x sets (first ++ a.made) i);
          only_splits = λ _. n;
          both_splits = λ g. absurd (cc);
          second_depth = λ g. absurd (cc);
          second_made = λ g. absurd (cc);
        }
    go false t =
        let f : w ≡ record { verdict = b.verdict; splits = suc (a.splits + b.splits); depth = suc (larger a.depth b.depth); made = sets ++ ((first ++ a.made) ++ (second ++ b.made)) } = e ∙ ap (after sets) (split_goes q (after first a) (after second b) t) in
        let n : w.splits ≡ suc (a.splits + b.splits) = ap (λ (x : Walked). x.splits) f in
        let d : w.depth ≡ suc (larger a.depth b.depth) = ap (λ (x : Walked). x.depth) f in
        let m : w.made ≡ sets ++ ((first ++ a.made) ++ (second ++ b.made)) = ap (λ (x : Walked). x.made) f in
        let l = larger_left a.depth b.depth in
        let r = larger_right a.depth b.depth in
        record {
          first_splits = omega (arith, n);
          first_depth = rw d (omega (arith, l));
          first_made = λ x i. rw m (in_append_right x sets ((first ++ a.made) ++ (second ++ b.made)) (in_append_left x (first ++ a.made) (second ++ b.made) i));
          only_splits = λ g. absurd (cc);
          both_splits = λ _. n;
          second_depth = λ _. rw d (omega (arith, r));
          second_made = λ _ x i. rw m (in_append_right x sets ((first ++ a.made) ++ (second ++ b.made)) (in_append_right x (first ++ a.made) (second ++ b.made) i));
        }

module _ (pick : List Candidate → ℕ) (picks : Picks pick) (prefix : List Quantifier) where
  -- the sets that reducing makes are made by the walk
  pub reduced_made : (s : List (List ℕ)) → Subset (reduce prefix s).made (bare pick prefix s).made
  reduced_made s x i =
      let e : (bare pick prefix s).made ≡ (reduce prefix s).made ++ (turn pick (bare pick prefix) prefix (reduce prefix s).outcome).made = ap (λ (w : Walked). w.made) (bare_unfolds pick picks prefix s) in
      rw e (in_append_left x (reduce prefix s).made _ i)

  -- a walk that is decided by reducing makes no split
  pub reduced_splits : (s : List (List ℕ)) (b : Bool) → (reduce prefix s).outcome ≡ decided b → (bare pick prefix s).splits ≡ 0
  reduced_splits s b e = ap (λ (w : Walked). w.splits) (bare_unfolds pick picks prefix s) ∙ ap (λ (o : Outcome). (turn pick (bare pick prefix) prefix o).splits) e

  module _ (s r : List (List ℕ)) (e : (reduce prefix s).outcome ≡ left r) (h : 0 < length (candidates prefix r)) where
    chosen : ℕ
    chosen = picked pick (candidates prefix r)

    pub split_value : value prefix 0 s ≡ combine (outermost prefix r).quantifier (value prefix 0 (assigned (negative (picked pick (candidates prefix r))) r)) (value prefix 0 (assigned (positive (picked pick (candidates prefix r))) r))
    split_value = reduces_keeps prefix (reduced_to prefix s (left r) e) ∙ go (candidates prefix r) refl h
      where
        go : (cs : List Candidate) → candidates prefix r ≡ cs → 0 < length cs →
            value prefix 0 r ≡ combine (outermost prefix r).quantifier (value prefix 0 (assigned (negative (picked pick cs)) r)) (value prefix 0 (assigned (positive (picked pick cs)) r))
        go [] f k = absurd (omega arith)
        go (c ∷ cs) f k = picked_first pick picks prefix r c cs f

    branches : (next : List (List ℕ) → Walked) (q : Quantifier) (cs : List Candidate) → 0 < length cs → branch pick next q r cs ≡ split q (side next r (negative (picked pick cs))) (side next r (positive (picked pick cs)))
    branches next q [] k = absurd (omega arith)
    branches next q (c ∷ cs) k = refl

    pub split_halves :
        Halves (outermost prefix r).quantifier (setting (negative (picked pick (candidates prefix r))) r) (setting (positive (picked pick (candidates prefix r))) r) (bare pick prefix s)
        (bare pick prefix (assigned (negative (picked pick (candidates prefix r))) r)) (bare pick prefix (assigned (positive (picked pick (candidates prefix r))) r))
    split_halves =
        halves _ (reduce prefix s).made _ _ (bare pick prefix s) _ _
        (bare_unfolds pick picks prefix s ∙ ap (λ (o : Outcome). after (reduce prefix s).made (turn pick (bare pick prefix) prefix o)) e ∙
        ap (after (reduce prefix s).made) (branches (bare pick prefix) (outermost prefix r).quantifier (candidates prefix r) h))
