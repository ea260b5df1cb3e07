-- What is loaded in a core.
use Rattle.std.specs.Prelude.{List, Some, None, Option}
use Rattle.formula.specs.declared.prefix.Binding.{Binding}
use Rattle.formula.specs.declared.prefix.Prefix.{Prefix}
use Rattle.formula.specs.Views.{bindings_of}
use Rattle.session.specs.declared.scope.Scope.{Scope}

-- the loaded prefix, if any
abbrev pub prefix_in : Option Scope → Option (List Binding)
prefix_in None = None
prefix_in (Some s) = Some (bindings_of s.prefix)

-- a prefix, or none, and no formula
abbrev pub begun_under : Option Prefix → Option Scope
begun_under None = None
begun_under (Some p) = Some (record { prefix = p; formula = None })
