-- The theorems on whole texts.
use Rattle.std.proofs.Common.{◌≡◌, ℕ, ◌⊎◌, List, Ok, Err, refl, ap, inl, inr}
use Rattle.formula.specs.Views.{Reading}
use Rattle.grammar.specs.declared.fault.ReadFault.{ReadFault}
use Rattle.grammar.specs.declared.fault.Rule.{Rule}
use Rattle.grammar.specs.Grammar.{Format}
use Rattle.grammar.specs.Refusals.{Refused}
use Rattle.grammar.specs.Steps.{Answer, read_all}
use Rattle.grammar.specs.Theorems.{ReadingStands, TextsStand}
use Rattle.grammar.proofs.Accept.{ok_format}
use Rattle.grammar.proofs.Complete.{format_ok}
use Rattle.grammar.proofs.Refuse.{err_refused, refused_err}

pub reading_stands_lem : ReadingStands
reading_stands_lem text = record {
  accepted = λ f. (ok_format text f, format_ok text f);
  refused = λ e. (err_refused text e, refused_err text e.rule e.at);
}

either : (text : List ℕ) (x : Answer) → read_all text ≡ x → ((f : Reading) × Format text f) ⊎ ((r : Rule) × (i : ℕ) × Refused text r i)
either text (Ok f) e = inl (f, ok_format text f e)
either text (Err e) h = inr (e.rule, e.at, err_refused text e h)

pub texts_stand_lem : TextsStand
texts_stand_lem text = record {
  one_formula = λ f g p q. let a = format_ok text f p in let b = format_ok text g q in cc;
  one_refusal = λ r s i j p q.
      let a = refused_err text r i p in
      let b = refused_err text s j q in
      let same : ◌≡◌ {A = ReadFault} (record { rule = r; at = i }) (record { rule = s; at = j }) = cc in
      (ap (λ (x : ReadFault). x.rule) same, ap (λ (x : ReadFault). x.at) same);
  not_both = λ f r i p q.
      let a = format_ok text f p in
      let b = refused_err text r i q in
      cc;
  either = either text (read_all text) refl;
}
