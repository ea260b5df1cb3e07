-- The promises are kept.
use Rattle.std.proofs.Common.{◌≡◌, ℕ, ◌≤◌, Bool, true, leb, List, [], ◌∷◌, ◌++◌, Option, refl, ap, ◌∙◌, arith}
use Rattle.std.specs.List.{AllByRecursion}
use Rattle.std.proofs.lemmas.Bool.Decides.{nat_tests}
use Rattle.std.proofs.ByRecursion.{All-append, All-weaker}
use Rattle.qbf.specs.declared.Quantifier.{Quantifier}
use Rattle.qbf.specs.declared.Candidate.{Candidate}
use Rattle.qbf.specs.Nodes.{Crowded}
use Rattle.qbf.specs.Memo.{Pairs, Kept, NeverHolds}
use Rattle.qbf.specs.Numbering.{Numbering, capacity, Among, Gains}
use Rattle.qbf.specs.Decision.{full, spent, too_deep, Ending, verdict, refused}
use Rattle.sets.specs.Formed.{forming}
use Rattle.theory.specs.Deciding.{Overfull, Judged}
use Rattle.theory.proofs.Terms.{Subset}
use Rattle.theory.proofs.Tables.{in_append_left, in_append_right, among_more, stops_gains}
use Rattle.theory.proofs.Counting.{all_from_in}
use Rattle.theory.proofs.Deciding.{judged, unaided}
use Rattle.ledger.specs.Answers.{answer}
use Rattle.ledger.specs.Ledger.{LoadedFormula, Ledger, quantifiers, most_allowed, under, decides}
use Rattle.ledger.specs.Promises.{walk_of, CarriedOut, FewSplits, DecisionPromised, promised_verdict, promised_spent, promised_full, promised_deep, promised_loaded, promised_load_full}
use Rattle.ledger.specs.Keeping.{MakingWeighed, MakingCrowded, LoadKeeps, DecisionKeeps}

-- a table that has gained nodes of the sets
gained_weighed : {t u : Numbering} (w sets : List (List (List ℕ))) → AllByRecursion (Among w) t → Gains t sets u → AllByRecursion (Among (w ++ sets)) u
gained_weighed {t} w sets h g =
    let old = All-weaker (Among w) (Among (w ++ sets)) (among_more w (w ++ sets) (λ s. in_append_left s w sets)) t h in
    let new = All-weaker (Among sets) (Among (w ++ sets)) (among_more sets (w ++ sets) (λ s. in_append_right s w sets)) g.added g.nodes in
    rw g.joined (All-append (Among (w ++ sets)) t g.added old new)

-- a full table of weighed nodes, and one node more
overfull_crowded : {t : Numbering} (w sets : List (List (List ℕ))) → Subset sets w → AllByRecursion (Among w) t → Overfull sets t → Crowded capacity w
overfull_crowded {t} w sets p h o =
    let x : List (List ℕ) = o.lacking.0 in
    let e = o.full in
    record { list = x ∷ t; long = omega (arith, e); apart = (all_from_in (λ y. x ≡ y → ⊥) t (λ y i e. o.lacking.2 (rw e i)), o.apart); nodes = (among_more sets w p x o.lacking.1, h) }

pub making_weighed : MakingWeighed
making_weighed weighed sets before after h m = (gained_weighed weighed sets h m.gains, m.whole)

pub making_crowded : MakingCrowded
making_crowded weighed sets before after h m =
    let s = stops_gains m in
    let a = gained_weighed weighed sets h s.0 in
    (a, overfull_crowded (weighed ++ sets) sets (λ x. in_append_right x weighed sets) a s.1)

pub load_keeps : LoadKeeps
load_keeps l text r e before after h = (
  λ m. record {
    promised = rw e (promised_loaded r refl);
    weighed = rw e (making_weighed (under l r.prefix).weighed (forming [] r.clauses) before after h m).0;
  },
  λ m.
      let c = making_crowded (under l r.prefix).weighed (forming [] r.clauses) before after h m in
      record { promised = rw e (promised_load_full r refl c.1); weighed = rw e c.0 },
)

weighed_with : (pick : List Candidate → ℕ) (l : Ledger) (f : LoadedFormula) (allowance : ℕ) → CarriedOut l allowance f →
    (decides pick l allowance l.formula).weighed ≡ l.weighed ++ (walk_of pick l f).made
weighed_with pick l f allowance c =
    let h : allowance ≤ most_allowed = c.allowed in
    let t : leb allowance most_allowed ≡ true = grind (arith, nat_tests) in
    ap (λ (o : Option LoadedFormula). (decides pick l allowance o).weighed) c.formula ∙ rw t

module _ {M : Type 0} (held : M → Pairs) (notes : M → ℕ → Bool → M → Type 0) (law : (m : M) (n : ℕ) (b : Bool) (a : M) → notes m n b a → Kept (held m) n b (held a)) where
  promised_at : (pick : List Candidate → ℕ) (l : Ledger) (f : LoadedFormula) (weighed : List (List (List ℕ))) (allowance splits : ℕ) (before after : Numbering) →
      CarriedOut l allowance f → Subset (walk_of pick l f).made weighed → AllByRecursion (Among weighed) after → (e : Ending) →
      Judged pick (quantifiers l.prefix) allowance 0 0 before f.clauses e splits after →
      ((b : Bool) → e ≡ verdict b → NeverHolds held → splits ≡ (walk_of pick l f).splits) →
      DecisionPromised pick (NeverHolds held) l weighed allowance (answer e splits)
  promised_at pick l f weighed allowance splits before after c p w e j eq = at e refl
    where
      few : FewSplits (walk_of pick l f) allowance splits
      few = record { walked = omega (arith, j.most); allowed = j.allowed (omega arith) }

      at : (d : Ending) → e ≡ d → DecisionPromised pick (NeverHolds held) l weighed allowance (answer d splits)
      at (verdict b) i = promised_verdict f c (j.right b i) few (eq b i)
      at (refused spent) i = let d = j.deserved i in promised_spent f c d.0 (omega (arith, d.1))
      at (refused full) i = promised_full f c few (overfull_crowded weighed _ p w (j.crowded i))
      at (refused too_deep) i = promised_deep f c few (omega (arith, j.deep i))

  pub decision_keeps : DecisionKeeps held notes
  decision_keeps pick picks l f allowance splits c before after memo kept e w right d =
      let prefix : List Quantifier = quantifiers l.prefix in
      let made : List (List (List ℕ)) = (walk_of pick l f).made in
      let j = judged held notes law pick picks prefix allowance d right in
      let now : AllByRecursion (Among (l.weighed ++ made)) after = gained_weighed l.weighed made w j.0.gains in
      let same = weighed_with pick l f allowance c in
      record {
        promised = rw same (promised_at pick l f (l.weighed ++ made) allowance splits before after c (λ x. in_append_right x l.weighed made) now e j.0 (λ b eb empty. let z = unaided held notes law pick picks prefix allowance empty d b eb in omega (arith, z)));
        weighed = rw same now;
        right = j.1;
      }
