-- The loaded formula stands under the loaded prefix.
use Rattle.std.proofs.Common.{◌≡◌, ℕ, Bool, true, false, cond, leb, List, [], ◌∷◌, Some, None, Ok, Err, Option, Result, sym, refl, subst, arith}
use Rattle.std.proofs.lemmas.Bool.Decides.{nat_tests}
use Rattle.std.proofs.lemmas.Bool.{cond_both}
use Rattle.std.proofs.lemmas.List.{length-map}
use Rattle.qbf.specs.declared.Candidate.{Candidate}
use Rattle.formula.specs.declared.prefix.Binding.{Binding}
use Rattle.formula.specs.Views.{Reading}
use Rattle.grammar.specs.declared.fault.ReadFault.{ReadFault}
use Rattle.grammar.specs.Steps.{read_all}
use Rattle.grammar.proofs.Whole.{reading_stands_lem}
use Rattle.sets.proofs.Formed.{formed_stands_lem}
use Rattle.rendering.proofs.Facts.{set_within}
use Rattle.ledger.specs.Answers.{LoadAnswer}
use Rattle.ledger.specs.Ledger.{load, decide, write, forget, LoadedFormula, Ledger, has_prefix, most_allowed, under, is_full, formula_of, loads, decides, ledger}
use Rattle.ledger.specs.Laws.{StandsUnder, FormulaStands}
use Rattle.ledger.proofs.Entering.{prefix_told}

-- the formula of a text
text_stands : (text : List ℕ) (r : Reading) → read_all text ≡ Ok r → StandsUnder (Some r.prefix) (formula_of r)
text_stands text r e =
    record {
      prefix = r.prefix;
      there = refl;
      closed = rw (length-map r.prefix (λ b. b.quantifier)) (set_within (((reading_stands_lem text).accepted r).0 e));
      canonical = (formed_stands_lem r.clauses).canonical;
    }

-- a ledger whose formula stands
abbrev Sound : Ledger → Type 0
Sound l = (f : LoadedFormula) → l.formula ≡ Some f → StandsUnder l.prefix f

under_sound : (l : Ledger) (p : List Binding) → Sound l → Sound (under l p) × ((under l p).prefix ≡ Some p)
under_sound l p h =
    cond_both (has_prefix l.prefix p) l _ (λ (u : Ledger). Sound u × (u.prefix ≡ Some p))
    (λ e. (h, (prefix_told l.prefix p).0 e))
    (λ _. (λ f i. absurd (cc), refl))

loads_sound : (l : Ledger) (text : List ℕ) (a : LoadAnswer) → Sound l → (x : Result Reading ReadFault) → read_all text ≡ x → Sound (loads l x a)
loads_sound l text a h (Err e) i = h
loads_sound l text a h (Ok r) i = let u = under_sound l r.prefix h in go (under l r.prefix) (is_full a) u.0 u.1
  where
    go : (u : Ledger) (t : Bool) → Sound u → u.prefix ≡ Some r.prefix → (f : LoadedFormula) → cond t u.formula (Some (formula_of r)) ≡ Some f → StandsUnder u.prefix f
    go u true s e f j = s f j
    go u false s e f j =
        let g : formula_of r ≡ f = cc in
        subst (λ o. StandsUnder o f) (sym e) (subst (λ g. StandsUnder (Some r.prefix) g) g (text_stands text r i))

decides_sound : (pick : List Candidate → ℕ) (l : Ledger) (allowance : ℕ) → Sound l → (o : Option LoadedFormula) → Sound (decides pick l allowance o)
decides_sound pick l allowance h None = h
decides_sound pick l allowance h (Some f) =
    cond_both (leb allowance most_allowed) _ l Sound (λ e. h) (λ e. h)

pub formula_stands : FormulaStands
formula_stands pick [] = λ f e. absurd (cc)
formula_stands pick (load text a ∷ history) = loads_sound (ledger pick history) text a (formula_stands pick history) (read_all text) refl
formula_stands pick (decide allowance a ∷ history) = decides_sound pick (ledger pick history) allowance (formula_stands pick history) (ledger pick history).formula
formula_stands pick (write space a ∷ history) = formula_stands pick history
formula_stands pick (forget ∷ history) = λ f e. absurd (cc)
