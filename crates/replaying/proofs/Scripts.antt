-- What is told of a script, by whether its first line is spelled right.
use Rattle.std.proofs.Common.{◌≡◌, ℕ, List, ◌++◌, length, Some, None, vec_items, Option, sym, ap, ◌∙◌, subst, MatchOption}
use Rattle.script.specs.declared.calls.Call.{Call}
use Rattle.script.specs.declared.calls.Make.{Make}
use Rattle.script.specs.declared.scripts.Script.{Script}
use Rattle.script.specs.Reading.{Reads}
use Rattle.runs.specs.declared.answer.Answer.{Answer}
use Rattle.runs.specs.declared.transcript.Transcript.{Transcript}
use Rattle.replaying.specs.Makes.{RanAs}
use Rattle.replaying.specs.Outputs.{all_told, stop_line, ending, MadeTold, Replayed}

module _ (input out : List ℕ) (s : Script) (reads : Reads input s) where
  pub not_made : s.make ≡ None → out ≡ stop_line 0 → Replayed input out
  not_made e f = record {
    script = s;
    reads = reads;
    tells = subst (λ (o : Option Make). MatchOption o (out ≡ stop_line 0) (MadeTold input s out)) (sym e) f;
  }

  pub made_so : (m : Make) (t : Transcript) (calls : List Call) (answers : List Answer) (texts lines : List ℕ) → s.make ≡ Some m →
      calls ≡ vec_items s.calls → RanAs m calls t → answers ≡ vec_items t.answers → texts ≡ vec_items t.texts →
      lines ≡ all_told answers texts → out ≡ lines ++ ending s.stopped (length input) → Replayed input out
  made_so m t calls answers texts lines e ec ran ea et el eo = record {
    script = s;
    reads = reads;
    tells = subst (λ (o : Option Make). MatchOption o (out ≡ stop_line 0) (MadeTold input s out)) (sym e) (record {
      transcript = t;
      ran = subst (λ (l : List Call). RanAs m l t) ec ran;
      tells = eo ∙ ap (λ (l : List ℕ). l ++ ending s.stopped (length input)) (el ∙ (λ i. all_told (ea i) (et i)));
    });
  }
