-- When two prefixes are equal.
use Rattle.std.proofs.Common.{◌≡◌, Decides, refl, ap, arith}
use Rattle.std.proofs.lemmas.Bool.Decides.{nat_tests}
use Rattle.std.proofs.lemmas.Slice.Eq.{slice_eq-Decides}
use Rattle.qbf.specs.declared.Quantifier.{Quantifier}
use Rattle.qbf.specs.declared.Quantifier.TheVariants.{Existential, Universal}
use Rattle.qbf.specs.contracts.QuantifierPartialEq.TheImpl as by_variant
use Rattle.formula.specs.declared.prefix.Binding.{Binding}
use Rattle.formula.specs.declared.prefix.Prefix.{Prefix}
use Rattle.formula.specs.contracts.prefix.BindingPartialEq.TheImpl as by_fields
use Rattle.formula.specs.contracts.prefix.PrefixPartialEq.TheImpl as by_bindings
use Rattle.formula.specs.Views.{bindings_of}

quantifier_decides : (p q : Quantifier) → Decides ((by_variant.ghosts).eq p q) (p ≡ q)
quantifier_decides Existential Existential = grind (arith, nat_tests)
quantifier_decides Existential Universal = grind (arith, nat_tests)
quantifier_decides Universal Existential = grind (arith, nat_tests)
quantifier_decides Universal Universal = grind (arith, nat_tests)

binding_decides : (a b : Binding) → Decides ((by_fields.ghosts).eq a b) (a ≡ b)
binding_decides a b =
    let q = quantifier_decides a.quantifier b.quantifier in (
      λ e. let v : a.variable ≡ b.variable = grind (arith, nat_tests) in let k : a.quantifier ≡ b.quantifier = grind (arith, nat_tests) in λ i. record { variable = v i; quantifier = k i },
      λ e. let v : a.variable ≡ b.variable = ap (λ (x : Binding). x.variable) e in let k = ap (λ (x : Binding). x.quantifier) e in grind (arith, nat_tests),
    )

-- `==` on prefixes compares their bindings
pub prefix_decides : (p q : Prefix) → Decides ((by_bindings.ghosts).eq p q) (bindings_of p ≡ bindings_of q)
prefix_decides p q = slice_eq-Decides binding_decides (bindings_of p) (bindings_of q) _ refl
