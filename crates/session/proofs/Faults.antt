-- A refusal is told as its answer is.
use Rattle.std.proofs.Common.{◌≡◌, ℕ, Bool, Ok, Err, sym, refl, ap}
use Rattle.qbf.specs.Decision.{full, spent, too_deep}
use Rattle.decision.specs.declared.unfinished.Halt.{Halt}
use Rattle.decision.specs.declared.unfinished.Halt.TheVariants.{Full, Spent, TooDeep}
use Rattle.decision.specs.declared.unfinished.Unfinished.{Unfinished}
use Rattle.decision.specs.Endings.{refusal, ending_of, splits_of}
use Rattle.ledger.specs.Answers.{LoadAnswer, loaded, unread, load_full, DecideAnswer, found, undecided, nothing_to_decide, allowance_too_large, answer, WriteAnswer, written, nothing_to_write, too_short, load_told, decide_told, write_told}
use Rattle.histories.proofs.Cases.{one_ok, ok_err}
use Rattle.session.specs.declared.answer.Loaded.{Loaded}
use Rattle.session.specs.declared.fault.Fault.TheVariants.{Undecided}
use Rattle.session.specs.Answers.{load_result, halted, decide_result, write_result}
use Rattle.session.specs.Laws.{told, FaultsTold}

loads_told : (a : LoadAnswer) → told (load_result a) ≡ load_told a
loads_told (loaded v c) = refl
loads_told (unread f) = refl
loads_told load_full = refl

decisions_told : (a : DecideAnswer) → told (decide_result a) ≡ decide_told a
decisions_told (found b n) = refl
decisions_told (undecided full n) = refl
decisions_told (undecided spent n) = refl
decisions_told (undecided too_deep n) = refl
decisions_told nothing_to_decide = refl
decisions_told allowance_too_large = refl

writings_told : (a : WriteAnswer) → told (write_result a) ≡ write_told a
writings_told (written n) = refl
writings_told nothing_to_write = refl
writings_told (too_short n) = refl

pub faults_told : FaultsTold
faults_told = record { loads = loads_told; decisions = decisions_told; writings = writings_told }

halted_again : (h : Halt) → halted (refusal h) ≡ h
halted_again Full = refl
halted_again Spent = refl
halted_again TooDeep = refl

-- the answer of a decision that was carried out
pub found_result : (a : Bool × ℕ) → Ok a ≡ decide_result (answer (ending_of (Ok a)) (splits_of (Ok a)))
found_result a = refl

pub unfinished_result : (u : Unfinished) → Err (Undecided u) ≡ decide_result (answer (ending_of (Err u)) (splits_of (Err u)))
unfinished_result u = sym (λ i. Err (Undecided (record { halt = halted_again u.halt i; splits = u.splits })))

-- which answer an accepted load and a verdict are
pub accepted_answer : (a : LoadAnswer) (x : Loaded) → Ok x ≡ load_result a → a ≡ loaded x.variables x.declared
accepted_answer (loaded v c) x e = ap (λ (y : Loaded). loaded y.variables y.declared) (sym (one_ok _ _ e))
accepted_answer (unread f) x e = absurd (ok_err _ _ e)
accepted_answer load_full x e = absurd (ok_err _ _ e)

pub verdict_answer : (d : DecideAnswer) (b : Bool) (n : ℕ) → Ok (b, n) ≡ decide_result d → d ≡ found b n
verdict_answer (found c m) b n e = ap (λ (y : Bool × ℕ). found y.0 y.1) (sym (one_ok _ _ e))
verdict_answer (undecided f m) b n e = absurd (ok_err _ _ e)
verdict_answer nothing_to_decide b n e = absurd (ok_err _ _ e)
verdict_answer allowance_too_large b n e = absurd (ok_err _ _ e)
