-- Memos as plain lists of pairs, so that decisions compute: the list after a note, for each of the delivered memos.
use Rattle.std.specs.Prelude.{ℕ, ◌%◌, Bool, cond, List, [], ◌∷◌, ◌++◌, length, is_some, ◌==◌, nat_lt}
use Rattle.qbf.specs.Lists.{Distinct}
use Rattle.memos.specs.declared.pair.Pair.{Pair}
use Rattle.memos.specs.Rows.{verdict_among, numbers_of}
use Rattle.memos.specs.Notes.{BlankNotes, SlottedNotes, KeepingNotes}

-- the blank memo never holds a pair
abbrev pub note_nothing : List Pair → ℕ → Bool → List Pair
note_nothing ps n v = []

-- the pairs whose numbers differ from n modulo 1,024
abbrev pub other_slots : ℕ → List Pair → List Pair
other_slots n [] = []
other_slots n (p ∷ ps) = cond (p.number % 1024 == n % 1024) (other_slots n ps) (p ∷ other_slots n ps)

-- the slotted memo holds the noted pair and those
abbrev pub note_slotted : List Pair → ℕ → Bool → List Pair
note_slotted ps n v = record { number = n; verdict = v } ∷ other_slots n ps

-- the pairs with that of a number replaced
abbrev pub replace : List Pair → ℕ → Bool → List Pair
replace [] n v = []
replace (p ∷ ps) n v = cond (n == p.number) (record { number = n; verdict = v } ∷ ps) (p ∷ replace ps n v)

-- the keeping memo replaces the pair of a number that it holds, takes other pairs until it has 1,024, and ignores the rest
abbrev pub note_keeping : List Pair → ℕ → Bool → List Pair
note_keeping ps n v =
    cond (is_some (verdict_among ps n)) (replace ps n v)
    (cond (nat_lt (length ps) 1024) (ps ++ (record { number = n; verdict = v } ∷ [])) ps)

-- the lists note just as these memos do; a list of the keeping memo has no number twice
abbrev pub BlankNoted : Type 0
BlankNoted = (ps : List Pair) (n : ℕ) (v : Bool) → BlankNotes (verdict_among ps) n v (verdict_among (note_nothing ps n v))

abbrev pub SlottedNoted : Type 0
SlottedNoted = (ps : List Pair) (n : ℕ) (v : Bool) → SlottedNotes (verdict_among ps) n v (verdict_among (note_slotted ps n v))

abbrev pub KeepingNoted : Type 0
KeepingNoted =
    (ps : List Pair) → Distinct (numbers_of ps) → (n : ℕ) (v : Bool) →
    KeepingNotes (verdict_among ps) n v (verdict_among (note_keeping ps n v)) × Distinct (numbers_of (note_keeping ps n v))
