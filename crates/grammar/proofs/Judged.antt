-- What the answer of a step says of the rules.
use Rattle.std.proofs.Common.{◌≡◌, ◌≤◌, Bool, true, false, Ok, Err, sym, refl, ◌∙◌, subst, arith}
use Rattle.std.proofs.lemmas.Bool.{false≢true, cond-true}
use Rattle.words.specs.Words.{Token}
use Rattle.grammar.specs.declared.fault.Rule.{Rule}
use Rattle.grammar.specs.declared.fault.Rule.TheVariants.{TooLong, Misplaced, OutOfRange, BoundTwice, Unbound, ClauseCount}
use Rattle.grammar.specs.declared.place.Place.{Place}
use Rattle.grammar.specs.Places.{Draft}
use Rattle.grammar.specs.Refusals.{misplaced, out_of_range, bound_twice, unbound, one_too_many, breaks}
use Rattle.grammar.specs.Rules.{number_of}
use Rattle.grammar.specs.Steps.{stepped}
use Rattle.grammar.proofs.Ranks.{ranked, target, rank}

-- the test of a rule, of the tests of all
abbrev choice : Rule → Bool → Bool → Bool → Bool → Bool → Bool
choice TooLong m o b u c = false
choice Misplaced m o b u c = m
choice OutOfRange m o b u c = o
choice BoundTwice m o b u c = b
choice Unbound m o b u c = u
choice ClauseCount m o b u c = c

choice_is : (r : Rule) (p : Place) (d : Draft) (w : Token) → choice r (misplaced p w) (out_of_range p d w) (bound_twice p d w) (unbound p d w) (one_too_many p d w) ≡ breaks r p d w
choice_is TooLong p d w = refl
choice_is Misplaced p d w = refl
choice_is OutOfRange p d w = refl
choice_is BoundTwice p d w = refl
choice_is Unbound p d w = refl
choice_is ClauseCount p d w = refl

-- a rule that is broken, and no rule with a higher number than another that is broken, is told
low : (s : Rule) (m o b u c : Bool) (x : Place × Draft) → choice s m o b u c ≡ true → (r : Rule) × (ranked m o b u c x ≡ Err r) × (number_of r ≤ number_of s)
low TooLong m o b u c x e = absurd (false≢true e)
low Misplaced m o b u c x e = (Misplaced, cond-true _ _ _ e, omega arith)
low OutOfRange true o b u c x e = (Misplaced, refl, omega arith)
low OutOfRange false o b u c x e = (OutOfRange, cond-true _ _ _ e, omega arith)
low BoundTwice true o b u c x e = (Misplaced, refl, omega arith)
low BoundTwice false true b u c x e = (OutOfRange, refl, omega arith)
low BoundTwice false false b u c x e = (BoundTwice, cond-true _ _ _ e, omega arith)
low Unbound true o b u c x e = (Misplaced, refl, omega arith)
low Unbound false true b u c x e = (OutOfRange, refl, omega arith)
low Unbound false false true u c x e = (BoundTwice, refl, omega arith)
low Unbound false false false u c x e = (Unbound, cond-true _ _ _ e, omega arith)
low ClauseCount true o b u c x e = (Misplaced, refl, omega arith)
low ClauseCount false true b u c x e = (OutOfRange, refl, omega arith)
low ClauseCount false false true u c x e = (BoundTwice, refl, omega arith)
low ClauseCount false false false true c x e = (Unbound, refl, omega arith)
low ClauseCount false false false false c x e = (ClauseCount, cond-true _ _ _ e, omega arith)

pub step_refuses : (s : Rule) (p : Place) (d : Draft) (w : Token) → breaks s p d w ≡ true → (r : Rule) × (stepped p d w ≡ Err r) × (number_of r ≤ number_of s)
step_refuses s p d w e =
    let l = low s _ _ _ _ _ (target p d w) (choice_is s p d w ∙ e) in
    (l.0, rank p d w ∙ l.1, l.2)

-- the rule that is told is broken
found : (m o b u c : Bool) (x : Place × Draft) (r : Rule) → ranked m o b u c x ≡ Err r → choice r m o b u c ≡ true
found true o b u c x r e = let z : Misplaced ≡ r = cc in subst (λ (s : Rule). choice s true o b u c ≡ true) z refl
found false true b u c x r e = let z : OutOfRange ≡ r = cc in subst (λ (s : Rule). choice s false true b u c ≡ true) z refl
found false false true u c x r e = let z : BoundTwice ≡ r = cc in subst (λ (s : Rule). choice s false false true u c ≡ true) z refl
found false false false true c x r e = let z : Unbound ≡ r = cc in subst (λ (s : Rule). choice s false false false true c ≡ true) z refl
found false false false false true x r e = let z : ClauseCount ≡ r = cc in subst (λ (s : Rule). choice s false false false false true ≡ true) z refl
found false false false false false x r e = cc

pub step_broken : (r : Rule) (p : Place) (d : Draft) (w : Token) → stepped p d w ≡ Err r → breaks r p d w ≡ true
step_broken r p d w e = sym (choice_is r p d w) ∙ found _ _ _ _ _ (target p d w) r (sym (rank p d w) ∙ e)

-- where a word leads on, no rule is broken
pub record Clear (p : Place) (d : Draft) (w : Token) : Type 0 where
  pub placed : misplaced p w ≡ false
  pub in_range : out_of_range p d w ≡ false
  pub new : bound_twice p d w ≡ false
  pub bound : unbound p d w ≡ false
  pub room : one_too_many p d w ≡ false

abbrev AllFalse : Bool → Bool → Bool → Bool → Bool → Type 0
AllFalse m o b u c = (m ≡ false) × (o ≡ false) × (b ≡ false) × (u ≡ false) × (c ≡ false)

clear : (m o b u c : Bool) (x y : Place × Draft) → ranked m o b u c x ≡ Ok y → AllFalse m o b u c × (x ≡ y)
clear true o b u c x y e = cc
clear false true b u c x y e = cc
clear false false true u c x y e = cc
clear false false false true c x y e = cc
clear false false false false true x y e = cc
clear false false false false false x y e = ((refl, refl, refl, refl, refl), cc)

pub step_clear : (p : Place) (d : Draft) (w : Token) (y : Place × Draft) → stepped p d w ≡ Ok y → Clear p d w × (target p d w ≡ y)
step_clear p d w y e =
    let r = clear _ _ _ _ _ (target p d w) y (sym (rank p d w) ∙ e) in
    (record { placed = r.0.0; in_range = r.0.1; new = r.0.2; bound = r.0.3; room = r.0.4 }, r.1)
