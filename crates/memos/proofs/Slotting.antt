-- A row of empty slots holds nothing, and a note leaves its pair.
use Rattle.std.proofs.Common.{◌%◌, ◌<◌, replicate, None, refl, ap, ◌∙◌, arith}
use Rattle.std.proofs.lemmas.List.{get_or-replicate}
use Rattle.std.proofs.lemmas.Bool.{eq-eqb, cond-true}
use Rattle.qbf.specs.Memo.{Empty}
use Rattle.memos.specs.Slots.{slotted_held, slot_verdict}
use Rattle.memos.specs.Laws.{SlottedRetains}

pub empty_slots : Empty (slotted_held (record { slots = replicate 1024 None }))
empty_slots n =
    let h : n % 1024 < 1024 = omega arith in
    ap (λ s. slot_verdict s n) (get_or-replicate 1024 (n % 1024) None None h)

pub slotted_retains : SlottedRetains
slotted_retains before n v after notes = notes n ∙ cond-true _ _ _ (eq-eqb n n refl)
