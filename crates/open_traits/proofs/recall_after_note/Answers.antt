use Rattle.std.proofs.Common.{sym, refl, ◌∙◌, ⊎_elim}
use Rattle.open_traits.proofs.recall_after_note.Goals as goal

pub returns : goal.returns
returns g c =
    let kept = g.met.M.Memo.kept c.args.memo.now c.args.number c.args.verdict c.note.new.self c.note.ensures in
    record {
      noted = c.note.ensures;
      told = c.recall.ensures;
      honest = λ told is. ⊎_elim (λ same. same.1) (λ earlier. absurd (earlier.0 refl)) (kept c.args.number told (sym c.recall.ensures ∙ is));
    }
