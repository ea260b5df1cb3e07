-- What is written is no longer than what was read.
use Rattle.std.proofs.Common.{ℕ, ◌<◌, ◌≤◌, List, length, arith}
use Rattle.formula.specs.Views.{Reading}
use Rattle.grammar.specs.Grammar.{Format}
use Rattle.rendering.specs.Trip.{text_of}
use Rattle.rendering.proofs.Trips.{round_trip}

-- as many bytes as a text may have are enough
pub never_short : {text : List ℕ} (f : Reading) → Format text f → (n : ℕ) → n < length (text_of f) → 60000 ≤ n → ⊥
never_short {text} f h n less enough =
    let s = (round_trip text f h).short in
    let m = h.short in
    omega arith
