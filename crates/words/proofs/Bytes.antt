-- What a byte can be to the words of a text.
use Rattle.std.proofs.Common.{◌≡◌, ℕ, Bool, true, false, eqb, sym, refl, subst, arith}
use Rattle.std.proofs.lemmas.Bool.{eqb-true, eqb-false}
use Rattle.std.proofs.lemmas.Bool.Decides.{nat_tests}
use Rattle.words.specs.Words.{kind}
use Rattle.words.specs.Words.Kind.{Ink}

pub data Byte : ℕ → Type 0 where
  at_line_end : Byte 10
  at_space : Byte 32
  at_c : Byte 99
  at_other : {b : ℕ} → kind b ≡ Ink → (b ≡ 10 → ⊥) → (b ≡ 99 → ⊥) → Byte b

pub byte : (b : ℕ) → Byte b
byte b = by (eqb b 10) (eqb b 32) (eqb b 99) refl refl refl
  where
    by : (l s c : Bool) → eqb b 10 ≡ l → eqb b 32 ≡ s → eqb b 99 ≡ c → Byte b
    by true s c el es ec = subst Byte (sym (eqb-true b 10 el)) at_line_end
    by false true c el es ec = subst Byte (sym (eqb-true b 32 es)) at_space
    by false false true el es ec = subst Byte (sym (eqb-true b 99 ec)) at_c
    by false false false el es ec = at_other (grind (arith, nat_tests)) (eqb-false b 10 el) (eqb-false b 99 ec)
