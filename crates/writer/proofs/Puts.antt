-- Texts put into a buffer, one behind the other.
use Rattle.std.proofs.Common.{◌≡◌, ℕ, ◌+◌, List, [], ◌∷◌, ◌++◌, length, set, sym, refl, ap, ◌∙◌, subst, add-zero, arith, length-append}
use Rattle.writer.specs.declared.pen.Pen.{Pen}
use Rattle.writer.specs.Puts.{overlaid, Puts}

overlaid_append : (xs : List ℕ) (at : ℕ) (a b : List ℕ) → overlaid xs at (a ++ b) ≡ overlaid (overlaid xs at a) (at + length a) b
overlaid_append xs at [] b = ap (λ (n : ℕ). overlaid xs n b) (sym (add-zero at))
overlaid_append xs at (x ∷ a) b =
    overlaid_append (set xs at x) (at + 1) a b ∙ ap (λ (n : ℕ). overlaid (overlaid (set xs at x) (at + 1) a) n b) (omega arith)

pub puts_none : (p : Pen) → Puts p [] p
puts_none p = record { same_buffer = refl; over = λ _. refl; behind = λ _. omega arith }

pub puts_then : {p q r : Pen} {a b : List ℕ} → Puts p a q → Puts q b r → Puts p (a ++ b) r
puts_then {p} {q} {r} {a} {b} x y =
    let l = length-append a b in record {
      same_buffer = y.same_buffer ∙ x.same_buffer;
      over = λ room. (
          let at = x.behind (omega arith) in
          let over = y.over (omega arith) in
          over ∙ ap (λ (l : List ℕ). overlaid l q.at b) (x.over (omega arith)) ∙ ap (λ (n : ℕ). overlaid (overlaid p.buffer.now p.at a) n b) at ∙ sym (overlaid_append p.buffer.now p.at a b));
      behind = λ room. (let at = x.behind (omega arith) in let end = y.behind (omega arith) in omega arith);
    }

-- The pen p put a part of the whole text, and then was q: to put the rest is to put the whole.
pub record Left (p : Pen) (whole rest : List ℕ) (q : Pen) : Type 0 where
  pub ends : (r : Pen) → Puts q rest r → Puts p whole r

-- the next part of the rest is put
pub left_next : {p q r : Pen} {whole rest a b : List ℕ} → Left p whole rest q → Puts q a r → rest ≡ a ++ b → Left p whole b r
left_next {q = q} left x e = record { ends = λ s y. left.ends s (subst (λ (l : List ℕ). Puts q l s) (sym e) (puts_then x y)) }

-- the rest is put
pub left_last : {p q r : Pen} {whole rest a : List ℕ} → Left p whole rest q → Puts q a r → rest ≡ a → Puts p whole r
left_last {q = q} {r = r} left x e = left.ends r (subst (λ (l : List ℕ). Puts q l r) (sym e) x)
