-- Making sets by computing is making sets.
use Rattle.std.proofs.Common.{◌≡◌, ℕ, ◌+◌, ◌<◌, ◌≤◌, Bool, true, false, cond, ltb, List, [], ◌∷◌, ◌++◌, length, Some, sym, refl, ap, ◌∙◌, inl, inr, append_assoc, append-nil, arith, length-append}
use Rattle.std.specs.List.{AllByRecursion}
use Rattle.std.proofs.lemmas.Bool.{cases_Bool}
use Rattle.std.proofs.lemmas.Bool.Decides.{nat_tests, not_from_Decides}
use Rattle.std.proofs.ByRecursion.{All-weaker}
use Rattle.qbf.specs.Lists.{In, Distinct}
use Rattle.qbf.specs.Reduce.{size}
use Rattle.qbf.specs.NodeList.{same_set, listed, nodes}
use Rattle.qbf.specs.Numbering.{Numbering, capacity, nth, Among, Gains, Makes, Stops}
use Rattle.qbf.specs.Run.{Attempt, add, next_if, make, place}
use Rattle.sets.proofs.Words.{all_in}
use Rattle.theory.proofs.Tables.{in_append, in_append_left, in_append_right, gains_none, gains_more, gains_then, still_in}
use Rattle.theory.proofs.Counting.{decides_same, listed_in, all_from_in, nodes_are, nodes_all}

-- a table that may be: different sets, and not too many
pub record Fit (t : Numbering) : Type 0 where
  pub apart : Distinct t
  pub within : length t ≤ capacity

pub distinct_push : {A : Type 0} (t : List A) (x : A) → Distinct t → (In x t → ⊥) → Distinct (t ++ (x ∷ []))
distinct_push [] x d n = (tt, tt)
distinct_push (y ∷ t) x d n = (
  all_from_in (λ z. y ≡ z → ⊥) (t ++ (x ∷ [])) (λ z i e. elim (in_append z t (x ∷ []) i) [
    | inl j ↦ all_in (λ z. y ≡ z → ⊥) t z d.0 j e
    | inr j ↦ elim j [ inl f ↦ n (inl (sym (e ∙ f))) | inr k ↦ absurd k ]
  ]),
  distinct_push t x d.1 (λ i. n (inr i)),
)

-- what adding comes to
pub record Added (t : Numbering) (xs : List (List (List ℕ))) (a : Attempt) : Type 0 where
  pub new : Numbering
  pub joined : a.table ≡ t ++ new
  pub from : AllByRecursion (λ x. In x xs) new
  pub fit : Fit a.table
  pub whole : a.done ≡ true → (x : List (List ℕ)) → In x xs → In x a.table
  pub short : a.done ≡ false → (length a.table ≡ capacity) × (x : List (List ℕ)) × In x xs × (In x a.table → ⊥)

pub adds : (t : Numbering) (xs : List (List (List ℕ))) → Fit t → Added t xs (add t xs)
adds t [] f = record { new = []; joined = sym (append-nil t); from = tt; fit = f; whole = λ _ x i. absurd i; short = λ e. absurd (cc) }
adds t (x ∷ xs) f = go (listed x t) refl (ltb (length t) capacity) refl (λ u. adds u xs)
  where
    go : (b : Bool) → listed x t ≡ b → (c : Bool) → ltb (length t) capacity ≡ c → ((u : Numbering) → Fit u → Added u xs (add u xs)) →
        Added t (x ∷ xs) (cond b (add t xs) (cond c (add (t ++ (x ∷ [])) xs) (record { table = t; done = false })))
    go true e c k ih =
        let r = ih t f in
        let i : In x t = (listed_in x t).0 e in
        record {
          new = r.new;
          joined = r.joined;
          from = All-weaker (λ z. In z xs) (λ z. In z (x ∷ xs)) (λ z j. inr j) r.new r.from;
          fit = r.fit;
          whole = λ d z. elim [ inl g ↦ rw g (rw r.joined (in_append_left x t r.new i)) | inr j ↦ r.whole d z j ];
          short = λ d. let s = r.short d in (s.0, s.1, inr s.2, s.3);
        }
    go false e true k ih =
        let n : In x t → ⊥ = not_from_Decides (listed x t) (listed_in x t) e in
        let len : length (t ++ (x ∷ [])) ≡ length t + 1 = length-append t (x ∷ []) in
        let r = ih (t ++ (x ∷ [])) (record { apart = distinct_push t x f.apart n; within = let h : length t < capacity = grind (arith, nat_tests) in omega (arith, len, h) }) in
        record {
          new = x ∷ r.new;
          joined = r.joined ∙ append_assoc t (x ∷ []) r.new;
          from = (inl refl, All-weaker (λ z. In z xs) (λ z. In z (x ∷ xs)) (λ z j. inr j) r.new r.from);
          fit = r.fit;
          whole = λ d z. elim [
            | inl g ↦ rw g (rw r.joined (in_append_left x (t ++ (x ∷ [])) r.new (in_append_right x t (x ∷ []) (inl refl))))
            | inr j ↦ r.whole d z j
          ];
          short = λ d. let s = r.short d in (s.0, s.1, inr s.2, s.3);
        }
    go false e false k ih =
        let n : In x t → ⊥ = not_from_Decides (listed x t) (listed_in x t) e in
        let w = f.within in
        record {
          new = [];
          joined = sym (append-nil t);
          from = tt;
          fit = f;
          whole = λ d. absurd (cc);
          short = λ d. (let h : capacity ≤ length t = grind (arith, nat_tests) in omega (arith, w, h), x, inl refl, n);
        }

-- one set
one_gains : (t : Numbering) (s : List (List ℕ)) → Fit t → Gains t (s ∷ []) (add t (nodes s)).table
one_gains t s f =
    let a = adds t (nodes s) f in
    record { added = a.new; joined = a.joined; nodes = All-weaker (λ x. In x (nodes s)) (Among (s ∷ [])) (λ x i. (s, inl refl, nodes_are (size s) s x i)) a.new a.from }

one_made : (t : Numbering) (s : List (List ℕ)) → Fit t → (add t (nodes s)).done ≡ true → Makes t (s ∷ []) (add t (nodes s)).table
one_made t s f d =
    let a = adds t (nodes s) f in
    record {
      gains = one_gains t s f;
      whole = λ y x. elim [ inl e ↦ λ n. a.whole d x (nodes_all (rw e at n) (size s) (omega arith)) | inr i ↦ absurd i ];
      apart = a.fit.apart;
      within = a.fit.within;
    }

one_full : (t : Numbering) (s : List (List ℕ)) (sets : List (List (List ℕ))) → Fit t → (add t (nodes s)).done ≡ false → Stops t (s ∷ sets) (add t (nodes s)).table
one_full t s sets f d =
    let a = adds t (nodes s) f in
    let b = a.short d in
    record {
      made = [];
      hand = s;
      rest = sets;
      order = refl;
      gains = one_gains t s f;
      whole = λ y x i. absurd i;
      full = b.0;
      lacking = (b.1, nodes_are (size s) s b.1 b.2, b.3);
      apart = a.fit.apart;
    }

-- one set after the other
makes_then : {t u v : Numbering} {s : List (List ℕ)} {sets : List (List (List ℕ))} → Makes t (s ∷ []) u → Makes u sets v → Makes t (s ∷ sets) v
makes_then {s = s} m r = record {
  gains = gains_then (gains_more (λ x. elim [ inl e ↦ inl e | inr h ↦ absurd h ]) m.gains) (gains_more (λ x h. inr h) r.gains);
  whole = λ y x. elim [ inl e ↦ λ n. still_in r.gains x (m.whole y x (inl e) n) | inr i ↦ r.whole y x i ];
  apart = r.apart;
  within = r.within;
}

stops_then : {t u v : Numbering} {s : List (List ℕ)} {sets : List (List (List ℕ))} → Makes t (s ∷ []) u → Stops u sets v → Stops t (s ∷ sets) v
stops_then {s = s} m r = record {
  made = s ∷ r.made;
  hand = r.hand;
  rest = r.rest;
  order = ap (λ (x : List (List (List ℕ))). s ∷ x) r.order;
  gains = gains_then (gains_more (λ x. elim [ inl e ↦ inl e | inr h ↦ absurd h ]) m.gains) (gains_more (λ x h. inr h) r.gains);
  whole = λ y x. elim [ inl e ↦ λ n. still_in r.gains x (m.whole y x (inl e) n) | inr i ↦ r.whole y x i ];
  full = r.full;
  lacking = r.lacking;
  apart = r.apart;
}

-- sets in order
pub record Making (t : Numbering) (sets : List (List (List ℕ))) (a : Attempt) : Type 0 where
  pub fit : Fit a.table
  pub makes : a.done ≡ true → Makes t sets a.table
  pub stops : a.done ≡ false → Stops t sets a.table

pub making : (t : Numbering) (sets : List (List (List ℕ))) → Fit t → Making t sets (make t sets)
making t [] f = record {
  fit = f;
  makes = λ _. record { gains = gains_none t []; whole = λ s x i. absurd i; apart = f.apart; within = f.within };
  stops = λ d. absurd (cc);
}
making t (s ∷ sets) f = go (add t (nodes s)) (adds t (nodes s) f).fit (one_made t s f) (one_full t s sets f) (λ u. making u sets)
  where
    go : (a : Attempt) → Fit a.table → (a.done ≡ true → Makes t (s ∷ []) a.table) → (a.done ≡ false → Stops t (s ∷ sets) a.table) →
        ((u : Numbering) → Fit u → Making u sets (make u sets)) → Making t (s ∷ sets) (next_if a (λ u. make u sets))
    go a fa m l ih = at a.done refl
      where
        at : (b : Bool) → a.done ≡ b → Making t (s ∷ sets) (cond b (make a.table sets) a)
        at true e =
            let r = ih a.table fa in
            record { fit = r.fit; makes = λ d. makes_then (m e) (r.makes d); stops = λ d. stops_then (m e) (r.stops d) }
        at false e = record { fit = fa; makes = λ d. absurd (cc); stops = l }

-- the number of a set stands for it
pub place_is : (s : List (List ℕ)) (t : Numbering) → In s t → nth t (place s t) ≡ Some s
place_is s [] h = absurd h
place_is s (x ∷ t) h =
    let ih = place_is s t in
    elim (cases_Bool (same_set s x)) [
      | inl e ↦ rw e (ap Some (sym ((decides_same s x).0 e)))
      | inr e ↦ rw e (elim h [ inl g ↦ absurd (not_from_Decides (same_set s x) (decides_same s x) e g) | inr i ↦ ih i ])
    ]
