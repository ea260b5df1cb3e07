-- Decisions by computing are decisions.
use Rattle.std.specs.Prelude.{◌≡◌, ℕ, ◌<◌, ◌≤◌, Bool, List, length}
use Rattle.qbf.specs.declared.Quantifier.{Quantifier}
use Rattle.qbf.specs.declared.Candidate.{Candidate}
use Rattle.qbf.specs.Lists.{In, Distinct}
use Rattle.qbf.specs.Nodes.{Node, Crowded}
use Rattle.qbf.specs.NodeList.{once, nodes, nodes_of_all}
use Rattle.qbf.specs.Memo.{Pairs}
use Rattle.qbf.specs.Chooser.{Picks}
use Rattle.qbf.specs.Reduce.{Within}
use Rattle.qbf.specs.Numbering.{Numbering, capacity}
use Rattle.qbf.specs.Decision.{Decides}
use Rattle.qbf.specs.Run.{run}

-- the list of a set's nodes has its nodes and no others
abbrev pub NodesListed : Type 0
NodesListed = (s x : List (List ℕ)) → (In x (nodes s) → Node x s) × (Node x s → In x (nodes s))

-- sets have more than n nodes together exactly if their nodes, each listed once, are more than n
abbrev pub CrowdsCounted : Type 0
CrowdsCounted =
    (n : ℕ) (sets : List (List (List ℕ))) →
    (Crowded n sets → n < length (once (nodes_of_all sets))) × (n < length (once (nodes_of_all sets)) → Crowded n sets)

-- So every set over the prefix has a decision, by every chooser and with every memo that is a plain value, from every table
-- that has the set's nodes: the one that is computed.
abbrev pub RunsDecide : {M : Type 0} → (M → Pairs) → (M → ℕ → Bool → M) → Type 0
RunsDecide {M} held note =
    (prefix : List Quantifier) (pick : List Candidate → ℕ) (allowance : ℕ) (table : Numbering) (memo : M) (s : List (List ℕ)) →
    Within prefix s → Distinct table → length table ≤ capacity → ((x : List (List ℕ)) → Node x s → In x table) → Picks pick →
    Decides held (λ m n b a. a ≡ note m n b) prefix pick allowance 0 0 table memo s
    (run held note prefix pick allowance table memo s).ending (run held note prefix pick allowance table memo s).splits
    (run held note prefix pick allowance table memo s).table (run held note prefix pick allowance table memo s).memo
