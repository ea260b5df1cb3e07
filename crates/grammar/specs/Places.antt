-- The places of a text's words: how each word, in its place, leads on to the next place.
use Rattle.std.specs.Prelude.{◌≡◌, ℕ, ◌+◌, ◌<◌, ◌≤◌, Bool, true, false, List, [], ◌∷◌, ◌++◌, Some, None, Ok}
use Rattle.qbf.specs.declared.Quantifier.{Quantifier}
use Rattle.words.specs.declared.literals.Literal.{Literal}
use Rattle.words.specs.Numbers.{read_number, read_literal}
use Rattle.words.specs.Words.{Token}
use Rattle.formula.specs.declared.prefix.Binding.{Binding}
use Rattle.formula.specs.Positions.{position}
use Rattle.grammar.specs.declared.place.Place.{Place}
use Rattle.grammar.specs.declared.place.Place.TheVariants.{Problem, Format, Variables, Count, Line, FirstVariable, NextVariable, Between, Within}
use Rattle.grammar.specs.Grammar.{p_word, cnf_word, zero_word, letter, bind, Coded}
use Rattle.grammar.specs.Stored.{store}

-- what the words so far say: V and C, the prefix, how many clauses are finished, which of them are stored,
-- and the literals of the clause that is begun
pub record Draft : Type 0 where
  pub variables : ℕ
  pub declared : ℕ
  pub prefix : List Binding
  pub finished : ℕ
  pub stored : List (List ℕ)
  pub begun : List ℕ

-- before any word
abbrev pub empty : Draft
empty = record { variables = 0; declared = 0; prefix = []; finished = 0; stored = []; begun = [] }

abbrev pub with_variables : ℕ → Draft → Draft
with_variables v d = record { variables = v; declared = d.declared; prefix = d.prefix; finished = d.finished; stored = d.stored; begun = d.begun }

abbrev pub with_declared : ℕ → Draft → Draft
with_declared c d = record { variables = d.variables; declared = c; prefix = d.prefix; finished = d.finished; stored = d.stored; begun = d.begun }

abbrev pub with_binding : Quantifier → ℕ → Draft → Draft
with_binding q n d = record { variables = d.variables; declared = d.declared; prefix = d.prefix ++ bind q n ∷ []; finished = d.finished; stored = d.stored; begun = d.begun }

abbrev pub with_literal : ℕ → Draft → Draft
with_literal k d = record { variables = d.variables; declared = d.declared; prefix = d.prefix; finished = d.finished; stored = d.stored; begun = d.begun ++ k ∷ [] }

abbrev pub with_clause : Draft → Draft
with_clause d = record { variables = d.variables; declared = d.declared; prefix = d.prefix; finished = d.finished + 1; stored = store d.stored d.begun; begun = [] }

-- the word may belong to a clause in this place: behind the prefix it begins a line
abbrev pub InClauses : Place → Token → Type 0
InClauses Problem w = ⊥
InClauses Format w = ⊥
InClauses Variables w = ⊥
InClauses Count w = ⊥
InClauses Line w = w.first ≡ true
InClauses (FirstVariable q) w = ⊥
InClauses (NextVariable q) w = ⊥
InClauses Between w = Unit {0}
InClauses Within w = Unit {0}

-- a word in this place begins a clause
abbrev pub begins : Place → Bool
begins Problem = false
begins Format = false
begins Variables = false
begins Count = false
begins Line = true
begins (FirstVariable q) = false
begins (NextVariable q) = false
begins Between = true
begins Within = false

-- No clause is finished ahead of the first, and never more than are declared; within a clause it is one of them.
-- So it is behind words that stand right.
abbrev pub Counted : Place → Draft → Type 0
Counted Problem d = d.finished ≡ 0
Counted Format d = d.finished ≡ 0
Counted Variables d = d.finished ≡ 0
Counted Count d = d.finished ≡ 0
Counted Line d = d.finished ≤ d.declared
Counted (FirstVariable q) d = d.finished ≤ d.declared
Counted (NextVariable q) d = d.finished ≤ d.declared
Counted Between d = d.finished ≤ d.declared
Counted Within d = d.finished < d.declared

-- a word that stands right, with the place and the draft behind it
pub data Goes : Place → Draft → Token → Place → Draft → Type 0 where
  goes_problem : {d : Draft} {w : Token} → w.first ≡ true → w.bytes ≡ p_word → Goes Problem d w Format d
  goes_format : {d : Draft} {w : Token} → w.first ≡ false → w.bytes ≡ cnf_word → Goes Format d w Variables d
  goes_variables : {d : Draft} {w : Token} {v : ℕ} → w.first ≡ false → read_number 256 w.bytes ≡ Ok v → Goes Variables d w Count (with_variables v d)
  goes_count : {d : Draft} {w : Token} {c : ℕ} → w.first ≡ false → read_number 2048 w.bytes ≡ Ok c → Goes Count d w Line (with_declared c d)
  goes_quantifier : {d : Draft} {w : Token} {q : Quantifier} → w.first ≡ true → w.bytes ≡ letter q → Goes Line d w (FirstVariable q) d
  goes_first : {d : Draft} {w : Token} {q : Quantifier} {n : ℕ} → w.first ≡ false → read_number d.variables w.bytes ≡ Ok n → 0 < n → position n d.prefix ≡ None → Goes (FirstVariable q) d w (NextVariable q) (with_binding q n d)
  goes_next : {d : Draft} {w : Token} {q : Quantifier} {n : ℕ} → w.first ≡ false → read_number d.variables w.bytes ≡ Ok n → 0 < n → position n d.prefix ≡ None → Goes (NextVariable q) d w (NextVariable q) (with_binding q n d)
  goes_line : {d : Draft} {w : Token} {q : Quantifier} → w.first ≡ false → w.bytes ≡ zero_word → Goes (NextVariable q) d w Line d
  goes_literal : {p : Place} {d : Draft} {w : Token} {l : Literal} {k : ℕ} → InClauses p w → (begins p ≡ true → d.finished < d.declared) → read_literal d.variables w.bytes ≡ Ok (Some l) → Coded d.prefix l k → Goes p d w Within (with_literal k d)
  goes_clause : {p : Place} {d : Draft} {w : Token} → InClauses p w → (begins p ≡ true → d.finished < d.declared) → w.bytes ≡ zero_word → Goes p d w Between (with_clause d)

-- words that stand right, one after the other
pub data Leads : Place → Draft → List Token → Place → Draft → Type 0 where
  here : {p : Place} {d : Draft} → Leads p d [] p d
  on : {p q r : Place} {d e f : Draft} {w : Token} {ws : List Token} → Goes p d w q e → Leads q e ws r f → Leads p d (w ∷ ws) r f
