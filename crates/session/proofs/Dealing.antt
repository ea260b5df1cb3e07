-- A session that a call has dealt with.
use Rattle.std.proofs.Common.{◌≡◌, ℕ, Bool, List, [], ◌∷◌, length, Some, None, Ok, Err, Result, sym, refl, ap, subst}
use Rattle.qbf.specs.declared.Candidate.{Candidate}
use Rattle.qbf.specs.Memo.{Pairs, Empty, Kept}
use Rattle.qbf.specs.Chooser.{Picks}
use Rattle.qbf.specs.Numbering.{Makes, Stops}
use Rattle.formula.specs.declared.prefix.Binding.{Binding}
use Rattle.formula.specs.declared.prefix.Prefix.{Prefix}
use Rattle.formula.specs.Views.{Reading, bindings_of}
use Rattle.grammar.specs.Steps.{read_all}
use Rattle.sets.specs.Formed.{forming}
use Rattle.reduction.specs.Numbered.{sets_of}
use Rattle.ledger.specs.Answers.{loaded, load_full, WriteAnswer, written, nothing_to_write, too_short}
use Rattle.ledger.specs.Ledger.{Dealing, load, write, formula_of}
use Rattle.ledger.specs.Promises.{text_of}
use Rattle.histories.specs.Standing.{Standing, Begins, same_prefix, other_prefix}
use Rattle.histories.specs.Dealings.{Deals, deals_loaded, deals_load_full, deals_written, deals_short, deals_unwritten}
use Rattle.histories.specs.Histories.{Led, led_on}
use Rattle.histories.proofs.Leading.{deals_honest}
use Rattle.session.specs.declared.inner.Core.{Core}
use Rattle.session.specs.declared.fault.Fault.{Fault}
use Rattle.session.specs.declared.fault.Fault.TheVariants.{Unread, NoFormula, AllowanceTooLarge, TooShort, TableFull, Undecided}
use Rattle.session.specs.declared.session.Session.{Session}
use Rattle.session.specs.Places.{prefix_in}
use Rattle.session.specs.Views.{formula_in, core_stands, standing}
use Rattle.session.specs.Answers.{write_result}
use Rattle.session.specs.Inner.{Writes}
use Rattle.session.specs.Calls.{Dealt, BufferLeft}

-- what its case says is all that has to be shown: the rest holds after every history
pub dealt : {M C : Type 0} (held : M → Pairs) (notes : M → ℕ → Bool → M → Type 0) (law : (m : M) (n : ℕ) (b : Bool) (a : M) → notes m n b a → Kept (held m) n b (held a))
    (picks : C → List Candidate → ℕ) (listed : (c : C) → Picks (picks c)) (s : Session M C) (d : Dealing) (t : Session M C) →
    t.chooser ≡ s.chooser → Deals held notes (picks s.chooser) (standing s) d (standing t) → Dealt held notes picks s d t
dealt {M} {C} held notes law picks listed s d t same deals = record {
  chooser = same;
  deals = deals;
  honest = λ history led. deals_honest held notes law (picks s.chooser) (listed s.chooser) led deals;
  leads = λ history led. subst (λ (c : C). Led held notes (picks c) (d ∷ history) (standing t)) (sym same) (led_on led deals);
}

module _ {M : Type 0} (held : M → Pairs) where
  -- where a load begins, its prefix is the loaded one
  pub begins_under : (p : List Binding) (s b : Standing M) → Begins held p s b → b.prefix ≡ Some p
  begins_under p s b (same_prefix e) = e
  begins_under p s b (other_prefix ne empty) = refl

  -- a load under another prefix
  pub begins_other : (s : Standing M) (core : Core) (memo : M) (p : Prefix) → core.scope ≡ Some (record { prefix = p; formula = None }) → sets_of core.table ≡ [] → Empty (held memo) →
      (s.prefix ≡ Some (bindings_of p) → ⊥) → Begins held (bindings_of p) s (core_stands core memo)
  begins_other s core memo p es et empty ne =
      let same : core_stands core memo ≡ record { prefix = Some (bindings_of p); formula = None; table = []; memo = memo } = λ i. record { prefix = prefix_in (es i); formula = formula_in core.table (es i); table = et i; memo = memo } in
      subst (Begins held (bindings_of p) s) (sym same) (other_prefix ne empty)

  module _ (notes : M → ℕ → Bool → M → Type 0) (pick : List Candidate → ℕ) where
    -- the clauses of a text were stored
    pub loads_made : (s : Standing M) (before after : Core) (memo : M) (r : Reading) (text : List ℕ) → read_all text ≡ Ok r → Begins held r.prefix s (core_stands before memo) →
        prefix_in after.scope ≡ prefix_in before.scope → Makes (sets_of before.table) (forming [] r.clauses) (sets_of after.table) → formula_in after.table after.scope ≡ Some (formula_of r) →
        Deals held notes pick s (load text (loaded r.variables r.declared)) (core_stands after memo)
    loads_made s before after memo r text e begins ep makes ef =
        let same : core_stands after memo ≡ record { prefix = prefix_in before.scope; formula = Some (formula_of r); table = sets_of after.table; memo = memo } = λ i. record { prefix = ep i; formula = ef i; table = sets_of after.table; memo = memo } in
        subst (Deals held notes pick s (load text (loaded r.variables r.declared))) (sym same) (deals_loaded e begins makes)

    -- or one of their sets could not be made
    pub loads_stopped : (s : Standing M) (before after : Core) (memo : M) (r : Reading) (text : List ℕ) → read_all text ≡ Ok r → Begins held r.prefix s (core_stands before memo) →
        prefix_in after.scope ≡ prefix_in before.scope → Stops (sets_of before.table) (forming [] r.clauses) (sets_of after.table) → formula_in after.table after.scope ≡ formula_in before.table before.scope →
        Deals held notes pick s (load text load_full) (core_stands after memo)
    loads_stopped s before after memo r text e begins ep stops ef =
        let same : core_stands after memo ≡ record { prefix = prefix_in before.scope; formula = formula_in before.table before.scope; table = sets_of after.table; memo = memo } = λ i. record { prefix = ep i; formula = ef i; table = sets_of after.table; memo = memo } in
        subst (Deals held notes pick s (load text load_full)) (sym same) (deals_load_full e begins stops)

    -- a core was written, or not
    pub record CoreWritten (core : Core) (memo : M) (before after : List ℕ) (r : Result ℕ Fault) : Type 0 where
      pub answer : WriteAnswer
      pub told : r ≡ write_result answer
      pub deals : Deals held notes pick (core_stands core memo) (write (length before) answer) (core_stands core memo)
      pub buffer : BufferLeft (core_stands core memo) before after r

    pub core_writes : (core : Core) (memo : M) (before after : List ℕ) (r : Result ℕ Fault) → Writes core before after r → CoreWritten core memo before after r
    core_writes core memo before after (Ok n) (p, f, ep, ef, w) = record {
      answer = written (length (text_of p f));
      told = ap Ok w.counted;
      deals = deals_written ep ef w.fits;
      buffer = record { prefix = p; formula = f; prefix_there = ep; formula_there = ef; text = w };
    }
    core_writes core memo before after (Err (TooShort n)) (p, f, ep, ef, w) = record {
      answer = too_short (length (text_of p f));
      told = ap (λ (k : ℕ). Err (TooShort k)) w.counted;
      deals = deals_short ep ef w.too_short;
      buffer = w.kept;
    }
    core_writes core memo before after (Err NoFormula) (e, same) = record { answer = nothing_to_write; told = refl; deals = deals_unwritten e; buffer = same }
    core_writes core memo before after (Err (Unread e)) no_way = absurd no_way
    core_writes core memo before after (Err AllowanceTooLarge) no_way = absurd no_way
    core_writes core memo before after (Err TableFull) no_way = absurd no_way
    core_writes core memo before after (Err (Undecided u)) no_way = absurd no_way
