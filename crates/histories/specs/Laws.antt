-- What holds after every history.
use Rattle.std.specs.Prelude.{◌≡◌, ℕ, Bool, List}
use Rattle.std.specs.List.{AllByRecursion}
use Rattle.qbf.specs.declared.Candidate.{Candidate}
use Rattle.qbf.specs.Lists.{Distinct}
use Rattle.qbf.specs.Memo.{Pairs}
use Rattle.qbf.specs.Chooser.{Picks}
use Rattle.qbf.specs.Numbering.{Among}
use Rattle.qbf.specs.Decision.{Right}
use Rattle.ledger.specs.Ledger.{Dealing, Ledger, quantifiers, ledger}
use Rattle.histories.specs.Standing.{Standing}
use Rattle.histories.specs.Dealings.{Deals}
use Rattle.histories.specs.Histories.{Led, Honest, AllHonest}

-- A session stands as a ledger says: its prefix and formula are the ledger's, its table holds nodes of the weighed sets, each
-- once, and its memo's pairs are right.
pub record Agrees {M : Type 0} (held : M → Pairs) (l : Ledger) (s : Standing M) : Type 0 where
  pub prefix : s.prefix ≡ l.prefix
  pub formula : s.formula ≡ l.formula
  pub weighed : AllByRecursion (Among l.weighed) s.table
  pub apart : Distinct s.table
  pub right : Right (quantifiers s.prefix) s.table (held s.memo)

-- as that of a history says
abbrev pub ByLedger : {M : Type 0} → (M → Pairs) → (List Candidate → ℕ) → List Dealing → Standing M → Type 0
ByLedger held pick history s = Agrees held (ledger pick history) s

-- every session does that the history led to
abbrev pub HistoriesStand : {M : Type 0} → (M → Pairs) → (M → ℕ → Bool → M → Type 0) → Type 0
HistoriesStand {M} held notes =
    (pick : List Candidate → ℕ) → Picks pick → (history : List Dealing) (s : Standing M) → Led held notes pick history s → ByLedger held pick history s

-- at every place of every history, the promises are kept
abbrev pub PromisesKept : {M : Type 0} → (M → Pairs) → (M → ℕ → Bool → M → Type 0) → Type 0
PromisesKept {M} held notes =
    (pick : List Candidate → ℕ) → Picks pick → (history : List Dealing) (s : Standing M) → Led held notes pick history s → AllHonest held notes pick history

-- and so are those of one dealing more
abbrev pub DealingsHonest : {M : Type 0} → (M → Pairs) → (M → ℕ → Bool → M → Type 0) → Type 0
DealingsHonest {M} held notes =
    (pick : List Candidate → ℕ) → Picks pick → (history : List Dealing) (s t : Standing M) (d : Dealing) →
    Led held notes pick history s → Deals held notes pick s d t → Honest held notes pick history d
