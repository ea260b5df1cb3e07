-- What the ledger follows from.
use Rattle.std.proofs.Common.{◌≡◌, Some, None, Ok, Err, Decides, Result, refl, ap, arith}
use Rattle.std.proofs.lemmas.Bool.Decides.{nat_tests}
use Rattle.formula.specs.declared.prefix.Binding.{Binding}
use Rattle.formula.specs.Views.{Reading}
use Rattle.grammar.specs.declared.fault.ReadFault.{ReadFault}
use Rattle.grammar.specs.Steps.{read_all}
use Rattle.theory.proofs.Counting.{decides_equal}
use Rattle.ledger.specs.Answers.{LoadAnswer}
use Rattle.ledger.specs.Ledger.{Ledger, same_binding, is_full, loads}
use Rattle.ledger.specs.Laws.{PrefixTold, same_load, same_decide, same_write, same_forget, CallsEnter}

same_binding_decides : (a b : Binding) → Decides (same_binding a b) (a ≡ b)
same_binding_decides a b = grind (arith, nat_tests)

pub prefix_told : PrefixTold
prefix_told None p = (λ e. grind (arith, nat_tests), λ e. grind (arith, nat_tests))
prefix_told (Some q) p =
    let d = decides_equal same_binding same_binding_decides q p in
    (λ e. ap Some (d.0 e), λ e. d.1 (cc))

loads_alike : (l : Ledger) (r : Result Reading ReadFault) (a b : LoadAnswer) → is_full a ≡ is_full b → loads l r a ≡ loads l r b
loads_alike l (Ok r) a b e = rw e
loads_alike l (Err f) a b e = refl

pub calls_enter : CallsEnter
calls_enter pick l d e (same_load {text} {a} {b} f) = loads_alike l (read_all text) a b f
calls_enter pick l d e same_decide = refl
calls_enter pick l d e same_write = refl
calls_enter pick l d e same_forget = refl
