-- That the preferred candidate is listed, which the laws of the two choosers cite.
use Rattle.std.specs.Prelude.{◌≡◌, Bool, true, false, cond, List, [], ◌∷◌, refl}
use Rattle.std.proofs.Common.{ap, inl, inr, ⊎_elim, arith}
use Rattle.std.specs.List.{best_of}
use Rattle.qbf.specs.Lists.{In}
use Rattle.qbf.specs.Chooser.{Listed, Picks}
use Rattle.qbf.specs.declared.Candidate.{Candidate}
use Rattle.choosers.specs.Preferred.{preferred, lower, busier, first_picks, busiest_picks}

module _ (beats : Candidate → Candidate → Bool) where
  either_in : (c d : Candidate) (cs : List Candidate) (better : Bool) →
      In (best_of beats c cs) (c ∷ cs) → In (best_of beats d cs) (d ∷ cs) → In (best_of beats (cond better d c) cs) (c ∷ d ∷ cs)
  either_in c d cs true old new = inr new
  either_in c d cs false old new = ⊎_elim (λ (e : best_of beats c cs ≡ c). inl e) (λ (later : In (best_of beats c cs) cs). inr (inr later)) old

  pub best_in : (c : Candidate) (cs : List Candidate) → In (best_of beats c cs) (c ∷ cs)
  best_in c [] = inl refl
  best_in c (d ∷ cs) = either_in c d cs (beats d c) (best_in c cs) (best_in d cs)

in_listed : (x : Candidate) (cs : List Candidate) → In x cs → Listed x.position cs
in_listed x [] h = h
in_listed x (c ∷ cs) h = ⊎_elim (λ (e : x ≡ c). inl (ap (λ p. p.position) e)) (λ (later : In x cs). inr (in_listed x cs later)) h

preferred_listed : (beats : Candidate → Candidate → Bool) → Picks (preferred beats)
preferred_listed beats [] h = absurd (omega arith)
preferred_listed beats (c ∷ cs) h = in_listed _ (c ∷ cs) (best_in beats c cs)

pub first_listed : Picks first_picks
first_listed = preferred_listed lower

pub busiest_listed : Picks busiest_picks
busiest_listed = preferred_listed busier
