-- The whole text in the buffer.
use Rattle.std.proofs.Common.{◌≡◌, ℕ, ◌+◌, ◌^◌, ◌<◌, ◌≤◌, List, [], ◌∷◌, ◌++◌, length, take, drop, set, sym, refl, ap, ◌∙◌, subst, append_assoc, append-nil, add-zero, arith}
use Rattle.std.proofs.lemmas.List.{length-set, take_more_set, drop-set-lt, take-append-drop}
use Rattle.formula.specs.declared.prefix.Binding.{Binding}
use Rattle.rendering.specs.Render.{problem_line, prefix_lines, render}
use Rattle.writer.specs.declared.pen.Pen.{Pen}
use Rattle.writer.specs.Below.{lines_below}
use Rattle.writer.specs.Puts.{overlaid, Puts}
use Rattle.writer.specs.Written.{Put, Written}
use Rattle.writer.proofs.Puts.{puts_then}

-- the problem line, the lines of the prefix and those of the clauses, one after the other
pub parts_put : {p q r u : Pen} {n : ℕ} {bs prefix : List Binding} {path : List ℕ} (v : ℕ) (s : List (List ℕ)) → Puts p (problem_line v n) q → Puts q (prefix_lines bs) r → Puts r (lines_below bs path s) u → n ≡ length s → bs ≡ prefix → path ≡ [] → Puts p (render v prefix s) u
parts_put {r = r} {u} {bs = bs} v s x y z e f g = rw (← e, ← f) (puts_then x (puts_then y (subst (λ (l : List ℕ). Puts r (lines_below bs l s) u) g z)))

-- a pen that began at the front of the buffer has put the text
pub put_whole : {p q : Pen} {text before after : List ℕ} {n : ℕ} → Puts p text q → p.buffer.now ≡ before → p.at ≡ 0 → after ≡ q.buffer.now → n ≡ q.at → length text < 2 ^ 64 → Put text before after n
put_whole {p} {q} {text} {before} puts e f g h room =
    let behind = puts.behind (omega arith) in
    record {
      over = g ∙ puts.over (omega arith) ∙ ap (λ (n : ℕ). overlaid p.buffer.now n text) f ∙ ap (λ (xs : List ℕ). overlaid xs 0 text) e;
      counted = omega arith;
    }

-- a text that fits stands where it was put, and the rest of the buffer is as it was

front : (xs : List ℕ) (at : ℕ) (bs : List ℕ) → at + length bs ≤ length xs → take (at + length bs) (overlaid xs at bs) ≡ take at xs ++ bs
front xs at [] h = ap (λ (n : ℕ). take n xs) (add-zero at) ∙ sym (append-nil (take at xs))
front xs at (b ∷ bs) h =
    let l = length-set xs at b in
    ap (λ (n : ℕ). take n (overlaid (set xs at b) (at + 1) bs)) (omega arith)
    ∙ front (set xs at b) (at + 1) bs (omega arith)
    ∙ ap (λ (q : List ℕ). q ++ bs) (take_more_set xs at b (omega arith))
    ∙ append_assoc (take at xs) (b ∷ []) bs

back : (xs : List ℕ) (at : ℕ) (bs : List ℕ) (n : ℕ) → at + length bs ≤ n → drop n (overlaid xs at bs) ≡ drop n xs
back xs at [] n h = refl
back xs at (b ∷ bs) n h = back (set xs at b) (at + 1) bs n (omega arith) ∙ drop-set-lt n xs at b (omega arith)

front_all : (xs text : List ℕ) → length text ≤ length xs → take (length text) (overlaid xs 0 text) ≡ text
front_all xs text h = ap (λ (k : ℕ). take k (overlaid xs 0 text)) (omega arith) ∙ front xs 0 text (omega arith)

stands : (xs text : List ℕ) (n : ℕ) → n ≡ length text → length text ≤ length xs → overlaid xs 0 text ≡ text ++ drop n xs
stands xs text n e h =
    sym (take-append-drop n (overlaid xs 0 text))
    ∙ ap (λ (l : List ℕ). l ++ drop n (overlaid xs 0 text)) (ap (λ (k : ℕ). take k (overlaid xs 0 text)) e ∙ front_all xs text h)
    ∙ ap (λ (l : List ℕ). text ++ l) (back xs 0 text n (omega arith))

-- a text that was measured and fits
pub fitting : {text xs ys us : List ℕ} {n m : ℕ} → Put text [] us m → m ≤ length xs → Put text xs ys n → Written text xs ys n
fitting {text} {xs} {n = n} measured enough put =
    let b = put.counted in
    let d = measured.counted in
    record { counted = b; fits = omega arith; stands = put.over ∙ stands xs text n b (omega arith) }
