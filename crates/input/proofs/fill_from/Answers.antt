use Rattle.std.proofs.Common.{◌≡◌, ℕ, ◌+◌, ◌-◌, ◌≤◌, List, ◌++◌, rules, length, take, drop, sym, ap, ◌∙◌, subst, le_refl, drop_at, length-take-le}
use Rattle.std.proofs.lemmas.Slice.{take-put_mid_below}
use Rattle.std.specs.Io.KnownBytes.{Consumes}
use Rattle.std.proofs.KnownBytes.{Consumes-trans, Consumes-kept}
use borrow.Rule.Slice.PartMut.{put_mid, post_of}
use lib.Seq.{take-add, take-append-le}
use Rattle.input.proofs.fill_from.Goals as goal
use Rattle.input.proofs.fill_from.Goals.{in-Ok, in-Err}

-- the bytes ahead of a part, and what a read put at the part's front
joined : (a k n : ℕ) (xs ys : List ℕ) → a ≤ length xs → n ≤ length ys → take (a + n) (put_mid a k xs ys) ≡ take a xs ++ take n ys
joined a k n xs ys within fits =
    let all = put_mid a k xs ys in
    let after = post_of a k xs in
    take-add a n all ∙ ap (λ bs. bs ++ take n (drop a all)) (take-put_mid_below a k xs ys a (le_refl a) within)
    ∙ ap (λ bs. take a xs ++ bs) (ap (take n) (drop_at (take a xs) (ys ++ after) a (length-take-le a xs within)) ∙ take-append-le n ys after fits)

pub loop-preserved : goal.loop-preserved
loop-preserved g c =
    let from = c.loop.len in
    let room = length c.loop.buffer - from in
    let all = put_mid from room c.loop.buffer c.read.new.buf in
    let within = c.loop.invariant.0 in
    let before = c.loop.invariant.1 in
    elim c.match-read.branch [
      | in-Ok w ↦
          let came = ap (λ n. take n all) w.len-is ∙ joined from room w.in-Ok.n c.loop.buffer c.read.new.buf within w.in-Ok.ensures.bound.0 in
          (search rules, subst (Consumes _ _) (sym came) (Consumes-trans _ _ _ _ _ before w.in-Ok.ensures.bytes.0))
      | in-Err w ↦
          let kept = ap (λ n. take n all) w.len-is ∙ take-put_mid_below _ _ _ _ _ (le_refl _) within in
          (search rules, subst (Consumes _ _) (sym kept) (Consumes-kept _ _ _ _ before w.in-Err.ensures.bytes))
    ]
