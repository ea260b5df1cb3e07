-- Where no comment stands, the scan gives the words as they are declared, and no others.
use Rattle.std.proofs.Common.{◌≡◌, ℕ, ◌+◌, ◌<◌, Bool, true, false, List, [], ◌∷◌, ◌++◌, length, sym, refl, ap, ◌∙◌, subst, append_assoc, append-nil, add-zero, arith}
use Rattle.std.specs.List.{AllByRecursion}
use Rattle.words.specs.Words.{Kind}
use Rattle.words.specs.Words.Kind.{Space, LineEnd, Ink}
use Rattle.words.specs.Words.{kind, Token, Mode, scan, step, emit}
use Rattle.words.specs.Words.Mode.{gap as gapped, run as running}
use Rattle.words.specs.Split.{Cut, Runs}
use Rattle.words.specs.Split.Runs.{done, line_end, space, word}

pub at_kind : (m : Mode) (off b : ℕ) (bs : List ℕ) (k : Kind) → kind b ≡ k → scan m off (b ∷ bs) ≡ emit m k ++ scan (step m k off b) (off + 1) bs
at_kind m off b bs k e = subst (λ (j : Kind). scan m off (b ∷ bs) ≡ emit m j ++ scan (step m j off b) (off + 1) bs) e refl

-- a word goes on through ink
through : (a : ℕ) (acc : List ℕ) (f : Bool) (off : ℕ) (w rest : List ℕ) → AllByRecursion (λ b. kind b ≡ Ink) w → scan (running a acc f) off (w ++ rest) ≡ scan (running a (acc ++ w) f) (off + length w) rest
through a acc f off [] rest h = ap (λ (l : List ℕ). scan (running a l f) off rest) (sym (append-nil acc)) ∙ ap (λ (n : ℕ). scan (running a (acc ++ []) f) n rest) (sym (add-zero off))
through a acc f off (b ∷ w) rest h =
    at_kind (running a acc f) off b (w ++ rest) Ink h.0
    ∙ through a (acc ++ b ∷ []) f (off + 1) w rest h.1
    ∙ ap (λ (l : List ℕ). scan (running a l f) (off + 1 + length w) rest) (append_assoc acc (b ∷ []) w)
    ∙ ap (λ (n : ℕ). scan (running a (acc ++ b ∷ w) f) n rest) (omega arith)

-- and ends where the text is cut
ends : (a : ℕ) (acc : List ℕ) (f : Bool) (off : ℕ) (rest : List ℕ) → Cut rest → scan (running a acc f) off rest ≡ record { at = a; bytes = acc; first = f } ∷ scan (gapped false) off rest
ends a acc f off [] h = refl
ends a acc f off (b ∷ bs) h = on (kind b) refl
  where
    on : (k : Kind) → kind b ≡ k → scan (running a acc f) off (b ∷ bs) ≡ record { at = a; bytes = acc; first = f } ∷ scan (gapped false) off (b ∷ bs)
    on Ink e = absurd (h e)
    on Space e = at_kind (running a acc f) off b bs Space e ∙ ap (λ (l : List Token). record { at = a; bytes = acc; first = f } ∷ l) (sym (at_kind (gapped false) off b bs Space e))
    on LineEnd e = at_kind (running a acc f) off b bs LineEnd e ∙ ap (λ (l : List Token). record { at = a; bytes = acc; first = f } ∷ l) (sym (at_kind (gapped false) off b bs LineEnd e))

pub one : (f : Bool) (off : ℕ) (w rest : List ℕ) → 0 < length w → AllByRecursion (λ b. kind b ≡ Ink) w → Cut rest → scan (gapped f) off (w ++ rest) ≡ record { at = off; bytes = w; first = f } ∷ scan (gapped false) (off + length w) rest
one f off [] rest some h cut = absurd (omega arith)
one f off (b ∷ w) rest some h cut =
    at_kind (gapped f) off b (w ++ rest) Ink h.0
    ∙ sym (at_kind (running off [] f) off b (w ++ rest) Ink h.0)
    ∙ through off [] f off (b ∷ w) rest h
    ∙ ends off (b ∷ w) f (off + length (b ∷ w)) rest cut

pub unique : {off : ℕ} {f : Bool} {text : List ℕ} {ws : List Token} → Runs off f text ws → ws ≡ scan (gapped f) off text
unique done = refl
unique (line_end {off} {f} {b} {bs} e h) = unique h ∙ sym (at_kind (gapped f) off b bs LineEnd e)
unique (space {off} {f} {b} {bs} e h) = unique h ∙ sym (at_kind (gapped f) off b bs Space e)
unique (word {off} {f} {w} {rest} some ink cut h) = ap (λ (l : List Token). record { at = off; bytes = w; first = f } ∷ l) (unique h) ∙ sym (one f off w rest some ink cut)

-- the front of a text that is ink, and what is left
record Front (bs : List ℕ) : Type 0 where
  w : List ℕ
  rest : List ℕ
  whole : bs ≡ w ++ rest
  ink : AllByRecursion (λ b. kind b ≡ Ink) w
  cut : Cut rest
  left : (off : ℕ) (f : Bool) → Runs off f rest (scan (gapped f) off rest)

both : (bs : List ℕ) → ((off : ℕ) (f : Bool) → Runs off f bs (scan (gapped f) off bs)) × Front bs
both [] = (λ off f. done, record { w = []; rest = []; whole = refl; ink = tt; cut = tt; left = λ off f. done })
both (b ∷ bs) = on (both bs) (kind b) refl
  where
    on : ((off : ℕ) (f : Bool) → Runs off f bs (scan (gapped f) off bs)) × Front bs → (k : Kind) → kind b ≡ k → ((off : ℕ) (f : Bool) → Runs off f (b ∷ bs) (scan (gapped f) off (b ∷ bs))) × Front (b ∷ bs)
    on ih LineEnd e =
        let here : (off : ℕ) (f : Bool) → Runs off f (b ∷ bs) (scan (gapped f) off (b ∷ bs)) = λ off f. subst (Runs off f (b ∷ bs)) (sym (at_kind (gapped f) off b bs LineEnd e)) (line_end e (ih.0 (off + 1) true)) in
        (here, record { w = []; rest = b ∷ bs; whole = refl; ink = tt; cut = λ i. cc; left = here })
    on ih Space e =
        let here : (off : ℕ) (f : Bool) → Runs off f (b ∷ bs) (scan (gapped f) off (b ∷ bs)) = λ off f. subst (Runs off f (b ∷ bs)) (sym (at_kind (gapped f) off b bs Space e)) (space e (ih.0 (off + 1) f)) in
        (here, record { w = []; rest = b ∷ bs; whole = refl; ink = tt; cut = λ i. cc; left = here })
    on ih Ink e =
        let r = ih.1 in
        let all : b ∷ bs ≡ (b ∷ r.w) ++ r.rest = ap (λ (l : List ℕ). b ∷ l) r.whole in (
          λ off f.
              subst (λ (l : List ℕ). Runs off f l (scan (gapped f) off l)) (sym all)
              (subst (Runs off f ((b ∷ r.w) ++ r.rest)) (sym (one f off (b ∷ r.w) r.rest (omega arith) (e, r.ink) r.cut))
              (word (omega arith) (e, r.ink) r.cut (r.left (off + length (b ∷ r.w)) false))),
          record { w = b ∷ r.w; rest = r.rest; whole = all; ink = (e, r.ink); cut = r.cut; left = r.left },
        )

pub exist : (bs : List ℕ) (off : ℕ) (f : Bool) → Runs off f bs (scan (gapped f) off bs)
exist bs = (both bs).0
