-- One call that was carried out.
use Rattle.std.proofs.Common.{◌≡◌, ℕ, Bool, List, [], ◌++◌, length, take, drop, Ok, Err, Option, Result, sym, refl, ap, ◌∙◌, subst, append-nil, arith, ◌≤◌, length-take, Bor}
use Rattle.std.proofs.lemmas.List.{take_at}
use Rattle.qbf.specs.declared.Candidate.{Candidate}
use Rattle.qbf.specs.Memo.{Pairs}
use Rattle.formula.specs.declared.prefix.Binding.{Binding}
use Rattle.writer.specs.Written.{Written}
use Rattle.script.specs.declared.calls.Call.TheVariants.{Load, Decide, Write, Forget}
use Rattle.script.specs.declared.space.Space.{Space}
use Rattle.script.specs.Spelling.{space_bytes}
use Rattle.ledger.specs.Answers.{WriteAnswer, written, nothing_to_write, too_short}
use Rattle.ledger.specs.Ledger.{load, decide, write, forget, LoadedFormula}
use Rattle.ledger.specs.Promises.{text_of}
use Rattle.session.specs.declared.answer.Loaded.{Loaded}
use Rattle.session.specs.declared.fault.Fault.{Fault}
use Rattle.session.specs.declared.session.Session.{Session}
use Rattle.session.specs.Answers.{write_result}
use Rattle.session.specs.Calls.{Dealt, LoadDealt, DecideDealt, WriteDealt, BufferLeft}
use Rattle.session.specs.Views.{standing}
use Rattle.runs.specs.declared.answer.Answer.TheVariants.{Loading, Decision, Writing, Forgotten}
use Rattle.runs.specs.Records.{is_load, is_decision, is_writing, is_forgetting}
use Rattle.runs.specs.Runs.{loaded_text, text_put}
use Rattle.runs.specs.Carried.{Carried}

-- what is put, by how the writing ended
put_written : (o : Option (List Binding)) (f : Option LoadedFormula) (a : WriteAnswer) (n : ℕ) → Ok n ≡ write_result a → text_put o f a ≡ loaded_text o f
put_written o f (written m) n e = refl
put_written o f nothing_to_write n e = absurd (let z : ◌≡◌ {A = ℕ} 0 1 = cc in omega arith)
put_written o f (too_short m) n e = absurd (let z : ◌≡◌ {A = ℕ} 0 1 = cc in omega arith)

put_nothing : (o : Option (List Binding)) (f : Option LoadedFormula) (a : WriteAnswer) (fault : Fault) → Err fault ≡ write_result a → text_put o f a ≡ []
put_nothing o f (written m) fault e = absurd (let z : ◌≡◌ {A = ℕ} 0 1 = cc in omega arith)
put_nothing o f nothing_to_write fault e = refl
put_nothing o f (too_short m) fault e = refl

-- what stands at the front of the buffer
front : (text before after : List ℕ) (n : ℕ) → Written text before after n → take n after ≡ text
front text before after n w = ap (take n) w.stands ∙ take_at text (drop n before) n (sym w.counted)

-- how long the front of a list is
pub front_length : (n k : ℕ) (xs : List ℕ) → n ≤ length xs → n ≡ k → length (take n xs) ≡ k
front_length n k xs h e = omega (arith, length-take n xs)

-- what is copied from the buffer
abbrev pub copied : Result ℕ Fault → List ℕ → List ℕ
copied (Ok n) after = take n after
copied (Err e) after = []

pub none_copied : (r : Result ℕ Fault) (texts after : List ℕ) → ((n : ℕ) → r ≡ Ok n → ⊥) → texts ≡ texts ++ copied r after
none_copied (Ok n) texts after none = absurd (none n refl)
none_copied (Err e) texts after none = sym (append-nil texts)

module _ {M C : Type 0} (held : M → Pairs) (notes : M → ℕ → Bool → M → Type 0) (picks : C → List Candidate → ℕ) (s : Session M C) (texts : List ℕ) where
  pub written_so : (space : Space) (before after more : List ℕ) (r : Result ℕ Fault) → length before ≡ space_bytes space → WriteDealt held notes picks s (length before) r → BufferLeft (standing s) before after r →
      more ≡ texts ++ copied r after → Carried held notes picks s texts (Write space) (Writing r) s more
  written_so space before after more r e d left m =
      subst (λ (x : Result ℕ Fault). Carried held notes picks s texts (Write space) (Writing x) s more) (sym d.told)
      (record {
        dealing = write (space_bytes space) d.answer;
        is = is_writing d.answer;
        dealt = subst (λ (n : ℕ). Dealt held notes picks s (write n d.answer) s) e d.dealt;
        texts = m ∙ ap (λ (t : List ℕ). texts ++ t) (behind r left d.told);
      })
    where
      behind : (r : Result ℕ Fault) → BufferLeft (standing s) before after r → r ≡ write_result d.answer → copied r after ≡ text_put (standing s).prefix (standing s).formula d.answer
      behind (Ok n) filled t =
          let loaded : loaded_text (standing s).prefix (standing s).formula ≡ text_of filled.prefix filled.formula = λ i. loaded_text (filled.prefix_there i) (filled.formula_there i) in
          front _ before after n filled.text ∙ sym (put_written (standing s).prefix (standing s).formula d.answer n t ∙ loaded)
      behind (Err fault) kept t = sym (put_nothing (standing s).prefix (standing s).formula d.answer fault t)

  -- a call that puts nothing into a buffer
  pub loaded_so : (text : Bor (List ℕ)) (r : Result Loaded Fault) (t : Session M C) → LoadDealt held notes picks s text.now r t → Carried held notes picks s texts (Load text) (Loading r) t texts
  loaded_so text r t d =
      subst (λ (x : Result Loaded Fault). Carried held notes picks s texts (Load text) (Loading x) t texts) (sym d.told)
      (record { dealing = load text.now d.answer; is = is_load d.answer; dealt = d.dealt; texts = sym (append-nil texts) })

  pub decided_so : (allowance : ℕ) (r : Result (Bool × ℕ) Fault) (t : Session M C) → DecideDealt held notes picks s allowance r t → Carried held notes picks s texts (Decide allowance) (Decision r) t texts
  decided_so allowance r t d =
      subst (λ (x : Result (Bool × ℕ) Fault). Carried held notes picks s texts (Decide allowance) (Decision x) t texts) (sym d.told)
      (record { dealing = decide allowance d.answer; is = is_decision d.answer; dealt = d.dealt; texts = sym (append-nil texts) })

  pub forgotten_so : (t : Session M C) → Dealt held notes picks s forget t → Carried held notes picks s texts Forget Forgotten t texts
  forgotten_so t d = record { dealing = forget; is = is_forgetting; dealt = d; texts = sym (append-nil texts) }
