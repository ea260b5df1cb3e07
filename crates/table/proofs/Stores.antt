-- A table of one more node.
use Rattle.std.proofs.Common.{◌≡◌, ℕ, ◌+◌, ◌-◌, ◌<◌, ◌≤◌, List, [], ◌∷◌, ◌++◌, length, sym, refl, ap, ◌∙◌, subst, inl, inr, arith, length-append}
use Rattle.std.proofs.lemmas.List.{get_or_append_left, get_or_push}
use Rattle.std.proofs.lemmas.Bool.{cases_lt}
use Rattle.table.specs.declared.node.Node.{Node}
use Rattle.sets.specs.Sides.{joined}
use Rattle.table.specs.Places.{nowhere, node_at, set_of, Above, Filled, Climbing, Falling, Apart, Coded, Sound}
use Rattle.table.proofs.Families.{Extends, family_zero, family_extends, family_node}

-- n is the number, among the nodes ys, of the set with these sides among xs; at most its node is new
pub record Joins (xs : List Node) (code hi lo : ℕ) (ys : List Node) (n : ℕ) : Type 0 where
  pub extends : Extends xs ys
  pub held : n < length ys + 2
  pub means : set_of ys n ≡ joined code (set_of xs hi) (set_of xs lo)
  pub only : length xs < length ys → (length ys ≡ length xs + 1) × (n ≡ length xs + 2)

pub extends_same : (xs : List Node) → Extends xs xs
extends_same xs = record { grows = omega arith; keeps = λ k h. refl }

-- one more node, behind the others

pub longer : (xs : List Node) (x : Node) → length (xs ++ x ∷ []) ≡ length xs + 1
longer xs x = length-append xs (x ∷ [])

pub old_at : (xs : List Node) (x : Node) (k : ℕ) → k < length xs → node_at (xs ++ x ∷ []) k ≡ node_at xs k
old_at xs x k h = get_or_append_left xs (x ∷ []) nowhere k h

pub new_at : (xs : List Node) (x : Node) → node_at (xs ++ x ∷ []) (length xs) ≡ x
new_at xs x = get_or_push xs x nowhere (length xs) refl

pub extends_pushed : (xs : List Node) (x : Node) → Extends xs (xs ++ x ∷ [])
extends_pushed xs x = record { grows = omega (arith, longer xs x); keeps = old_at xs x }

pub extends_trans : {xs ys zs : List Node} → Extends xs ys → Extends ys zs → Extends xs zs
extends_trans p q = record { grows = omega (arith, p.grows, q.grows); keeps = λ k h. q.keeps k (omega (arith, p.grows)) ∙ p.keeps k h }

-- a number of the first nodes has its code in the longer table too
pub above_extends : {xs ys : List Node} (e : Extends xs ys) (c n : ℕ) → n < length xs + 2 → Above xs c n → Above ys c n
above_extends e c n l h two = rw (e.keeps (n - 2) (omega arith)) (h two)

abbrev pub fresh : ℕ → ℕ → ℕ → Node
fresh code hi lo = record { code = code; with = hi; without = lo }

-- what holds of each old node as it was, and of the new one, holds of each node now
pub each : (xs : List Node) (x : Node) (P : ℕ → Node → Type 0) → ((k : ℕ) → k < length xs → P k (node_at xs k)) → P (length xs) x → (k : ℕ) → k < length (xs ++ x ∷ []) → P k (node_at (xs ++ x ∷ []) k)
each xs x P old new k h =
    elim (cases_lt k (length xs)) [
      | inl l ↦ subst (P k) (sym (old_at xs x k l)) (old k l)
      | inr g ↦ (let e : length xs ≡ k = omega (arith, longer xs x) in subst (λ j. P j (node_at (xs ++ x ∷ []) j)) e (subst (P (length xs)) (sym (new_at xs x)) new))
    ]

module _ (xs : List Node) (code hi lo : ℕ) (s : Sound xs)
    (low : code < 512) (needed : 0 < hi) (hi_held : hi < length xs + 2) (lo_held : lo < length xs + 2) (hi_above : Above xs code hi) (lo_above : Above xs code lo) where
  abbrev new : Node
  new = fresh code hi lo

  abbrev pushed : List Node
  pushed = xs ++ new ∷ []

  stored_extends : Extends xs pushed
  stored_extends = extends_pushed xs new

  stored_filled : Filled pushed
  stored_filled = each xs new (λ k x. 0 < x.with) s.filled needed

  stored_falling : Falling pushed
  stored_falling = each xs new (λ k x. (x.with < k + 2) × (x.without < k + 2)) s.falling (hi_held, lo_held)

  stored_climbing : Climbing pushed
  stored_climbing =
      let more = stored_extends in
      each xs new (λ k x. Above pushed x.code x.with × Above pushed x.code x.without)
      (λ k h. let f = s.falling k h in let r = s.climbing k h in (above_extends more _ _ (omega arith) r.0, above_extends more _ _ (omega arith) r.1))
      (above_extends more _ _ hi_held hi_above, above_extends more _ _ lo_held lo_above)

  stored_coded : Coded pushed
  stored_coded = each xs new (λ k x. x.code < 512) s.coded low

  stored_apart : ((k : ℕ) → k < length xs → node_at xs k ≡ new → ⊥) → Apart pushed
  stored_apart lacks j k l h e =
      let long = longer xs new in
      elim (cases_lt k (length xs)) [
        | inl i ↦ s.apart j k l i (sym (old_at xs new j (omega arith)) ∙ e ∙ old_at xs new k i)
        | inr g ↦ (let at : k ≡ length xs = omega arith in lacks j (omega arith) (sym (old_at xs new j (omega arith)) ∙ e ∙ ap (node_at pushed) at ∙ new_at xs new))
      ]

  stored_joins : Joins xs code hi lo pushed (length xs + 2)
  stored_joins =
      let long = longer xs new in
      let means : set_of pushed (length xs + 2) ≡ joined (node_at pushed (length xs)).code (set_of pushed (node_at pushed (length xs)).with) (set_of pushed (node_at pushed (length xs)).without) =
      family_node pushed (length xs) stored_falling (omega arith) in
      let at : node_at pushed (length xs) ≡ new = new_at xs new in
      let hi_same : set_of pushed hi ≡ set_of xs hi = family_extends stored_extends hi hi_held in
      let lo_same : set_of pushed lo ≡ set_of xs lo = family_extends stored_extends lo lo_held in
      let p : set_of pushed (length xs + 2) ≡ joined code (set_of pushed hi) (set_of pushed lo) = means ∙ ap (λ x. joined x.code (set_of pushed x.with) (set_of pushed x.without)) at in
      record {
        extends = stored_extends;
        held = omega arith;
        means = p ∙ ap (λ z. joined code z (set_of pushed lo)) hi_same ∙ ap (joined code (set_of xs hi)) lo_same;
        only = λ _. (long, refl);
      }

  pub stored : (ys : List Node) → ys ≡ pushed → ((k : ℕ) → k < length xs → node_at xs k ≡ new → ⊥) → Sound ys × Joins xs code hi lo ys (length xs + 2)
  stored ys e lacks =
      subst (λ zs. Sound zs × Joins xs code hi lo zs (length xs + 2)) (sym e)
      (record { filled = stored_filled; climbing = stored_climbing; falling = stored_falling; apart = stored_apart lacks; coded = stored_coded }, stored_joins)

-- a node that is there already
pub found_joins : (xs : List Node) (code hi lo n : ℕ) → Sound xs → (2 ≤ n) × (n < length xs + 2) × (node_at xs (n - 2) ≡ fresh code hi lo) → Joins xs code hi lo xs n
found_joins xs code hi lo n s f =
    let two : 2 ≤ n = f.0 in
    let held : n < length xs + 2 = f.1 in
    let at : n ≡ n - 2 + 2 = omega arith in
    record {
      extends = extends_same xs;
      held = held;
      means = ap (set_of xs) at ∙ family_node xs (n - 2) s.falling (omega arith) ∙ ap (λ x. joined x.code (set_of xs x.with) (set_of xs x.without)) f.2;
      only = λ l. absurd (let no : ⊥ = omega arith in no);
    }

-- a set with an empty with-side
pub bare_joins : (xs : List Node) (code hi lo : ℕ) → hi ≡ 0 → lo < length xs + 2 → Joins xs code hi lo xs lo
bare_joins xs code hi lo zero-hi h = record {
  extends = extends_same xs;
  held = h;
  means = sym (ap (λ z. joined code z (set_of xs lo)) (ap (set_of xs) zero-hi ∙ family_zero xs _));
  only = λ l. absurd (let no : ⊥ = omega arith in no);
}
