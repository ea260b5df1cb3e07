-- Tables that grow.
use Rattle.std.proofs.Common.{◌≡◌, ℕ, zero, suc, ◌⊎◌, List, [], ◌∷◌, ◌++◌, Some, sym, refl, ap, ◌∙◌, inl, inr, append_assoc, append-nil, arith}
use Rattle.std.proofs.lemmas.Bool.Decides.{nat_tests}
use Rattle.std.proofs.ByRecursion.{All-append, All-weaker}
use Rattle.qbf.specs.Lists.{In}
use Rattle.qbf.specs.Numbering.{Numbering, nth, stands, Among, Gains, Stops}
use Rattle.theory.specs.Deciding.{Overfull}
use Rattle.theory.proofs.Terms.{Subset}

pub in_append_left : {A : Type 0} (x : A) (xs ys : List A) → In x xs → In x (xs ++ ys)
in_append_left x [] ys h = absurd h
in_append_left x (y ∷ xs) ys (inl e) = inl e
in_append_left x (y ∷ xs) ys (inr h) = inr (in_append_left x xs ys h)

pub in_append_right : {A : Type 0} (x : A) (xs ys : List A) → In x ys → In x (xs ++ ys)
in_append_right x [] ys h = h
in_append_right x (y ∷ xs) ys h = inr (in_append_right x xs ys h)

pub in_append : {A : Type 0} (x : A) (xs ys : List A) → In x (xs ++ ys) → In x xs ⊎ In x ys
in_append x [] ys h = inr h
in_append x (y ∷ xs) ys (inl e) = inl (inl e)
in_append x (y ∷ xs) ys (inr h) = elim (in_append x xs ys h) [ inl i ↦ inl (inr i) | inr i ↦ inr i ]

pub append_more : {A : Type 0} (xs ys zs : List A) → Subset ys zs → Subset (xs ++ ys) (xs ++ zs)
append_more xs ys zs p x i = elim (in_append x xs ys i) [ inl j ↦ in_append_left x xs zs j | inr j ↦ in_append_right x xs zs (p x j) ]

pub among_more : (xs ys : List (List (List ℕ))) → Subset xs ys → (x : List (List ℕ)) → Among xs x → Among ys x
among_more xs ys p x a = (a.0, p a.0 a.1, a.2)

pub gains_none : (t : Numbering) (sets : List (List (List ℕ))) → Gains t sets t
gains_none t sets = record { added = []; joined = sym (append-nil t); nodes = tt }

pub gains_more : {t u : Numbering} {xs ys : List (List (List ℕ))} → Subset xs ys → Gains t xs u → Gains t ys u
gains_more {xs = xs} {ys} p g = record { added = g.added; joined = g.joined; nodes = All-weaker (Among xs) (Among ys) (among_more xs ys p) g.added g.nodes }

pub gains_then : {t u v : Numbering} {sets : List (List (List ℕ))} → Gains t sets u → Gains u sets v → Gains t sets v
gains_then {t} {u} {v} {sets} g h = record {
  added = g.added ++ h.added;
  joined = h.joined ∙ ap (λ (x : Numbering). x ++ h.added) g.joined ∙ append_assoc t g.added h.added;
  nodes = All-append (Among sets) g.added h.added g.nodes h.nodes;
}

pub gains_join : {t u v : Numbering} {xs ys : List (List (List ℕ))} → Gains t xs u → Gains u ys v → Gains t (xs ++ ys) v
gains_join {xs = xs} {ys} g h = gains_then (gains_more (λ x. in_append_left x xs ys) g) (gains_more (λ x. in_append_right x xs ys) h)

pub overfull_more : {xs ys : List (List (List ℕ))} {t : Numbering} → Subset xs ys → Overfull xs t → Overfull ys t
overfull_more {xs} {ys} p o = record { full = o.full; apart = o.apart; lacking = (o.lacking.0, among_more xs ys p o.lacking.0 o.lacking.1, o.lacking.2) }

-- the sets that were made, and the one that could not be, are some of those asked for
pub stops_some : {t u : Numbering} {sets : List (List (List ℕ))} (p : Stops t sets u) → Subset (p.made ++ (p.hand ∷ [])) sets
stops_some p s i = rw p.order (append_more p.made (p.hand ∷ []) (p.hand ∷ p.rest) (λ x. elim [ inl e ↦ inl e | inr h ↦ absurd h ]) s i)

pub stops_gains : {t u : Numbering} {sets : List (List (List ℕ))} → Stops t sets u → Gains t sets u × Overfull sets u
stops_gains p = (
  gains_more (stops_some p) p.gains,
  record { full = p.full; apart = p.apart; lacking = (p.lacking.0, (p.hand, stops_some p p.hand (in_append_right p.hand p.made (p.hand ∷ []) (inl refl)), p.lacking.1), p.lacking.2) },
)

-- what a table has, it has when it has grown
pub still_in : {t u : Numbering} {sets : List (List (List ℕ))} → Gains t sets u → (x : List (List ℕ)) → In x t → In x u
still_in {t} g x i = rw g.joined (in_append_left x t g.added i)

-- a number stands for the same set in a table that has grown
nth_append : {A : Type 0} (xs ys : List A) (i : ℕ) (x : A) → nth xs i ≡ Some x → nth (xs ++ ys) i ≡ Some x
nth_append [] ys i x e = grind (arith, nat_tests)
nth_append (y ∷ xs) ys zero x e = e
nth_append (y ∷ xs) ys (suc i) x e = nth_append xs ys i x e

pub stands_append : (t added : Numbering) (n : ℕ) (s : List (List ℕ)) → stands t n ≡ Some s → stands (t ++ added) n ≡ Some s
stands_append t added zero s e = e
stands_append t added (suc zero) s e = e
stands_append t added (suc (suc i)) s e = nth_append t added i s e

pub stands_later : {t u : Numbering} {sets : List (List (List ℕ))} → Gains t sets u → (n : ℕ) (s : List (List ℕ)) → stands t n ≡ Some s → stands u n ≡ Some s
stands_later {t} g n s e = rw g.joined (stands_append t g.added n s e)
