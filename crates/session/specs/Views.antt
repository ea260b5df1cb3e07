-- Where a session stands, by what its arrays stand for.
use Rattle.std.specs.Prelude.{Some, None, Option}
use Rattle.table.specs.declared.table.Table.{Table}
use Rattle.table.specs.Tables.{clauses}
use Rattle.reduction.specs.Numbered.{sets_of}
use Rattle.ledger.specs.Ledger.{LoadedFormula}
use Rattle.histories.specs.Standing.{Standing}
use Rattle.session.specs.declared.scope.Stored.{Stored}
use Rattle.session.specs.declared.scope.Scope.{Scope}
use Rattle.session.specs.declared.inner.Core.{Core}
use Rattle.session.specs.declared.session.Session.{Session}
use Rattle.session.specs.Places.{prefix_in}

-- the loaded formula, if any: its V, and the set that its number stands for
abbrev pub stored_in : Table → Option Stored → Option LoadedFormula
stored_in t None = None
stored_in t (Some f) = Some (record { variables = f.variables; clauses = clauses t f.number })

abbrev pub formula_in : Table → Option Scope → Option LoadedFormula
formula_in t None = None
formula_in t (Some s) = stored_in t s.formula

-- a core with a memo
abbrev pub core_stands : {M : Type 0} → Core → M → Standing M
core_stands core memo = record { prefix = prefix_in core.scope; formula = formula_in core.table core.scope; table = sets_of core.table; memo = memo }

abbrev pub standing : {M C : Type 0} → Session M C → Standing M
standing s = core_stands s.core s.memo
