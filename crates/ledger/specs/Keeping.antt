-- How the promises are kept: a decision and a load over a table that holds only nodes of the weighed sets.
use Rattle.std.specs.Prelude.{◌≡◌, ℕ, Bool, List, [], ◌++◌, Ok}
use Rattle.std.specs.List.{AllByRecursion}
use Rattle.qbf.specs.declared.Candidate.{Candidate}
use Rattle.qbf.specs.Lists.{In}
use Rattle.qbf.specs.Nodes.{Node, Crowded}
use Rattle.qbf.specs.Memo.{Pairs, NeverHolds}
use Rattle.qbf.specs.Chooser.{Picks}
use Rattle.qbf.specs.Numbering.{Numbering, capacity, Among, Makes, Stops}
use Rattle.qbf.specs.Decision.{Ending, Decides, Right}
use Rattle.formula.specs.Views.{Reading}
use Rattle.grammar.specs.Steps.{read_all}
use Rattle.sets.specs.Formed.{forming}
use Rattle.ledger.specs.Answers.{LoadAnswer, loaded, load_full, answer}
use Rattle.ledger.specs.Ledger.{LoadedFormula, Ledger, quantifiers, under, loads, decides}
use Rattle.ledger.specs.Promises.{CarriedOut, DecisionPromised, LoadPromised}

-- sets that are made leave the table with nodes of the weighed sets and of these, and with all nodes of these
abbrev pub MakingWeighed : Type 0
MakingWeighed =
    (weighed sets : List (List (List ℕ))) (before after : Numbering) → AllByRecursion (Among weighed) before → Makes before sets after →
    AllByRecursion (Among (weighed ++ sets)) after × ((s x : List (List ℕ)) → In s sets → Node x s → In x after)

-- where one cannot be made, the weighed sets and these have more nodes together than a table holds
abbrev pub MakingCrowded : Type 0
MakingCrowded =
    (weighed sets : List (List (List ℕ))) (before after : Numbering) → AllByRecursion (Among weighed) before → Stops before sets after →
    AllByRecursion (Among (weighed ++ sets)) after × Crowded capacity (weighed ++ sets)

-- a load keeps its promises, and leaves a table of weighed nodes
pub record LoadKept (l : Ledger) (text : List ℕ) (a : LoadAnswer) (after : Numbering) : Type 0 where
  pub promised : LoadPromised (loads l (read_all text) a).weighed (read_all text) a
  pub weighed : AllByRecursion (Among (loads l (read_all text) a).weighed) after

-- whether its sets are all made or one of them cannot be, from a table of nodes that are weighed under its prefix
abbrev pub LoadKeeps : Type 0
LoadKeeps =
    (l : Ledger) (text : List ℕ) (r : Reading) → read_all text ≡ Ok r →
    (before after : Numbering) → AllByRecursion (Among (under l r.prefix).weighed) before →
    (Makes before (forming [] r.clauses) after → LoadKept l text (loaded r.variables r.declared) after)
    × (Stops before (forming [] r.clauses) after → LoadKept l text load_full after)

-- a decision of the loaded formula keeps its promises, if the table holds only nodes of the weighed sets and the memo is right,
-- and then both are so again
pub record DecisionKept {M : Type 0} (held : M → Pairs) (pick : List Candidate → ℕ) (l : Ledger) (allowance : ℕ) (e : Ending) (splits : ℕ) (after : Numbering) (kept : M) : Type 0 where
  pub promised : DecisionPromised pick (NeverHolds held) l (decides pick l allowance l.formula).weighed allowance (answer e splits)
  pub weighed : AllByRecursion (Among (decides pick l allowance l.formula).weighed) after
  pub right : Right (quantifiers l.prefix) after (held kept)

abbrev pub DecisionKeeps : {M : Type 0} → (M → Pairs) → (M → ℕ → Bool → M → Type 0) → Type 0
DecisionKeeps {M} held notes =
    (pick : List Candidate → ℕ) → Picks pick →
    (l : Ledger) (f : LoadedFormula) (allowance splits : ℕ) → CarriedOut l allowance f → (before after : Numbering) (memo kept : M) (e : Ending) →
    AllByRecursion (Among l.weighed) before → Right (quantifiers l.prefix) before (held memo) →
    Decides held notes (quantifiers l.prefix) pick allowance 0 0 before memo f.clauses e splits after kept →
    DecisionKept held pick l allowance e splits after kept
