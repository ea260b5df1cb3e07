-- The clauses below a path, by the two sides of a set.
use Rattle.std.proofs.Common.{◌≡◌, ℕ, ◌+◌, ◌-◌, ◌<◌, ◌≤◌, List, [], ◌∷◌, ◌++◌, length, take, sym, refl, ap, ◌∙◌, inl, inr, append_assoc, append-nil, arith}
use Rattle.std.specs.List.{AllByRecursion}
use Rattle.std.proofs.ByRecursion.{All-push}
use Rattle.std.proofs.lemmas.List.{length_push, take_at}
use Rattle.std.proofs.lemmas.Bool.{cases_eq}
use Rattle.formula.specs.declared.prefix.Binding.{Binding}
use Rattle.sets.specs.Sides.{joined}
use Rattle.sets.proofs.Joined.{length_joined}
use Rattle.table.specs.declared.set.Set.{Set}
use Rattle.table.specs.declared.set.reading.Branches.{Branches}
use Rattle.table.specs.Sets.{clauses_of, Branched}
use Rattle.table.proofs.Tables.{ends_stand, has_clause}
use Rattle.rendering.specs.Render.{clause_line}
use Rattle.rendering.proofs.Stores.{codes_weaker}
use Rattle.writer.specs.Below.{Below, lines_below}

-- the two sets without a non-empty clause

none_in : (s : Set) → s.number ≡ 0 → clauses_of s ≡ []
none_in s e = rw e (ends_stand s.table.now).0

one_in : (s : Set) → s.number ≡ 1 → clauses_of s ≡ [] ∷ []
one_in s e = rw e (ends_stand s.table.now).1

pub small_length : (s : Set) → s.number < 2 → s.number ≡ length (clauses_of s)
small_length s two = elim (cases_eq s.number 0) [
  | inl e ↦ rw (none_in s e) e
  | inr ne ↦ (let e : s.number ≡ 1 = omega arith in rw (one_in s e) e)
]

pub no_lines : (s : Set) (n : ℕ) (prefix : List Binding) (path : List ℕ) → s.number < 2 → n ≡ s.number → (n ≡ 1 → ⊥) → [] ≡ lines_below prefix path (clauses_of s)
no_lines s n prefix path two e other = rw (none_in s (omega arith))

pub one_line : (s : Set) (n : ℕ) (prefix : List Binding) (path codes : List ℕ) → n ≡ s.number → n ≡ 1 → codes ≡ path → clause_line prefix codes ≡ lines_below prefix path (clauses_of s)
one_line s n prefix path codes e one same = rw (one_in s (sym e ∙ one), same) (simp append-nil)

-- a set by its sides

all_sides : (P : ℕ → Type 0) (k : ℕ) (hi lo : List (List ℕ)) → AllByRecursion (AllByRecursion P) (joined k hi lo) → AllByRecursion (AllByRecursion P) hi × AllByRecursion (AllByRecursion P) lo
all_sides P k [] lo a = (tt, a)
all_sides P k (c ∷ hi) lo a = let r = all_sides P k hi lo a.1 in ((a.0.1, r.0), r.1)

lines_joined : (prefix : List Binding) (path : List ℕ) (k : ℕ) (hi lo : List (List ℕ)) → lines_below prefix path (joined k hi lo) ≡ lines_below prefix (path ++ k ∷ []) hi ++ lines_below prefix path lo
lines_joined prefix path k [] lo = refl
lines_joined prefix path k (c ∷ hi) lo =
    rw (lines_joined prefix path k hi lo, append_assoc path (k ∷ []) c) (sym (append_assoc (clause_line prefix (path ++ k ∷ c)) (lines_below prefix (path ++ k ∷ []) hi) (lines_below prefix path lo)))

-- the path is as it was after its last code is gone
pub popped : (path longer shorter : List ℕ) (k : ℕ) → longer ≡ path ++ k ∷ [] → shorter ≡ take (length longer - 1) longer → shorter ≡ path
popped path longer shorter k e f =
    let l = ap length e ∙ length_push path k in
    f ∙ ap (take (length longer - 1)) e ∙ take_at path (k ∷ []) (length longer - 1) (omega arith)

-- the set s by its branches
module _ (s : Set) (x : Branches) (o : Branched s x) where
  abbrev hi : List (List ℕ)
  hi = clauses_of x.with

  abbrev lo : List (List ℕ)
  lo = clauses_of x.without

  pub lengths : length (clauses_of s) ≡ length hi + length lo
  lengths = rw o.means (length_joined x.code hi lo)

  pub lines_split : (prefix : List Binding) (path longer after : List ℕ) → longer ≡ path ++ x.code ∷ [] → after ≡ path → lines_below prefix path (clauses_of s) ≡ lines_below prefix longer hi ++ lines_below prefix after lo
  lines_split prefix path longer after e f = rw (e, f, o.means) (lines_joined prefix path x.code hi lo)

  module _ (m : ℕ) (path : List ℕ) (b : Below m path (clauses_of s)) where
    sides : (P : ℕ → Type 0) → AllByRecursion (AllByRecursion P) (clauses_of s) → AllByRecursion (AllByRecursion P) hi × AllByRecursion (AllByRecursion P) lo
    sides P a = all_sides P x.code hi lo (rw o.means at a)

    here : (P : ℕ → Type 0) → AllByRecursion (AllByRecursion P) (clauses_of s) → P x.code
    here P a =
        let w = has_clause x.with.table.now x.with.number x.with.held o.filled in
        (rw (o.means, w.2) at a).0.0

    pub short : length path < 512
    short = let d = here (λ (k : ℕ). length path ≤ k) b.deep in let l = o.coded in omega arith

    pub below_high : (longer : List ℕ) → longer ≡ path ++ x.code ∷ [] → Below m longer hi
    below_high longer e =
        let d = here (λ (k : ℕ). length path ≤ k) b.deep in
        let l = ap length e ∙ length_push path x.code in
        record {
          path_bound = rw e (All-push (λ (k : ℕ). k < m) path x.code b.path_bound (here (λ (k : ℕ). k < m) b.bound));
          bound = (sides (λ (k : ℕ). k < m) b.bound).0;
          deep = codes_weaker _ _ (λ k h. omega arith) hi o.with_over;
        }

    pub below_low : (after : List ℕ) → after ≡ path → Below m after lo
    below_low after e = rw e (record { path_bound = b.path_bound; bound = (sides (λ (k : ℕ). k < m) b.bound).1; deep = (sides (λ (k : ℕ). length path ≤ k) b.deep).1 })
