-- What it means that a call, a first line or a script is read of a text.
use Rattle.std.specs.Prelude.{◌≡◌, ℕ, ◌^◌, ◌<◌, ◌≤◌, Bool, true, not, ◌&&◌, List, [], ◌∷◌, ◌++◌, length, drop, vec_items, MatchOption, ◌==◌, ◌≢◌}
use Rattle.std.specs.List.{AllByRecursion}
use Rattle.script.specs.declared.calls.Call.{Call}
use Rattle.script.specs.declared.calls.Call.TheVariants.{Load, Decide, Write, Forget}
use Rattle.script.specs.declared.calls.Make.{Make}
use Rattle.script.specs.declared.scripts.Script.{Script}
use Rattle.script.specs.Spelling.{space_bytes, spelled_make, line, body, spelled, spelled_all}

-- the byte stands nowhere in the text
abbrev pub lacks : ℕ → List ℕ → Bool
lacks byte [] = true
lacks byte (b ∷ bs) = not (b == byte) && lacks byte bs

-- no line ends in the text
abbrev pub unbroken : List ℕ → Bool
unbroken text = lacks 10 text

-- the numbers of a call are not too large. Every call that code holds is so
abbrev pub InRange : Call → Type 0
InRange (Load text) = Unit {0}
InRange (Decide allowance) = allowance < 2 ^ 32
InRange (Write space) = space_bytes space ≤ 65536
InRange Forget = Unit {0}

-- no call is spelled at the front of the text
abbrev pub NoCall : List ℕ → Type 0
NoCall text = (c : Call) (rest : List ℕ) → InRange c → text ≢ spelled c ++ rest

-- no first line is spelled at the front of the text
abbrev pub NoMake : List ℕ → Type 0
NoMake text = (m : Make) (rest : List ℕ) → text ≢ spelled_make m ++ rest

-- a call has this line, and its body stands at the front of what follows the line, with the rest behind it
pub record OnLine (head follows : List ℕ) (c : Call) (rest : List ℕ) : Type 0 where
  pub range : InRange c
  pub heads : head ≡ line c
  pub bodies : follows ≡ body c ++ rest

-- no call has this line with its body behind it
abbrev pub NotOnLine : List ℕ → List ℕ → Type 0
NotOnLine head follows = (c : Call) (rest : List ℕ) → OnLine head follows c rest → ⊥

-- a call is spelled in the script from one place up to the next
pub record Called (script : List ℕ) (at : ℕ) (c : Call) (next : ℕ) : Type 0 where
  pub range : InRange c
  pub onward : at < next
  pub within : next ≤ length script
  pub spells : drop at script ≡ spelled c ++ drop next script

-- the first line is spelled at the front of the script, up to the next place
pub record Opened (script : List ℕ) (m : Make) (next : ℕ) : Type 0 where
  pub within : next ≤ length script
  pub spells : script ≡ spelled_make m ++ drop next script

-- calls are spelled one behind the other from a place on, and none further where they stop
pub record Calls (script : List ℕ) (at : ℕ) (cs : List Call) (stopped : ℕ) : Type 0 where
  pub range : AllByRecursion InRange cs
  pub within : stopped ≤ length script
  pub spells : drop at script ≡ spelled_all cs ++ drop stopped script
  pub stops : NoCall (drop stopped script)

-- the script is the spelling of a first line and of calls up to the place where no call is spelled any more
pub record Spells (script : List ℕ) (m : Make) (cs : List Call) (stopped : ℕ) : Type 0 where
  pub range : AllByRecursion InRange cs
  pub within : stopped ≤ length script
  pub spells : script ≡ spelled_make m ++ spelled_all cs ++ drop stopped script
  pub stops : NoCall (drop stopped script)

-- what is read of a script: nothing where no first line is spelled
abbrev pub Reads : List ℕ → Script → Type 0
Reads script s =
    MatchOption s.make
    (NoMake script × (vec_items s.calls ≡ []) × (s.stopped ≡ 0))
    (λ m. Spells script m (vec_items s.calls) s.stopped)
