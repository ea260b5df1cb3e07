-- Where a session stands, in the subject's terms.
use Rattle.std.specs.Prelude.{◌≡◌, List, [], Some, None, Option, ◌≢◌}
use Rattle.qbf.specs.Memo.{Pairs, Empty}
use Rattle.qbf.specs.Numbering.{Numbering}
use Rattle.formula.specs.declared.prefix.Binding.{Binding}
use Rattle.ledger.specs.Ledger.{LoadedFormula}

-- the prefix and the formula that are loaded, if any, what the numbers of the table stand for, and the memo
pub record Standing (M : Type 0) : Type 0 where
  pub prefix : Option (List Binding)
  pub formula : Option LoadedFormula
  pub table : Numbering
  pub memo : M

-- a new session, and one that forgot everything: no prefix, no formula, an empty table, and a memo without pairs
pub record Fresh {M : Type 0} (held : M → Pairs) (s : Standing M) : Type 0 where
  pub prefix : s.prefix ≡ None
  pub formula : s.formula ≡ None
  pub table : s.table ≡ []
  pub memo : Empty (held s.memo)

-- Where a load begins to store its clauses. A text with the loaded prefix leaves everything as it is; any other empties the table
-- and the memo, and its prefix is then the loaded one, with no formula.
pub data Begins {M : Type 0} (held : M → Pairs) (p : List Binding) (s : Standing M) : Standing M → Type 0 where
  same_prefix : s.prefix ≡ Some p → Begins held p s s
  other_prefix : {cleared : M} → (s.prefix ≢ Some p) → Empty (held cleared) → Begins held p s (record { prefix = Some p; formula = None; table = []; memo = cleared })
