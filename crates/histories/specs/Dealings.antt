-- What each call on a session answers and leaves, in every case, for any memo and any chooser.
use Rattle.std.specs.Prelude.{◌≡◌, ℕ, ◌<◌, ◌≤◌, Bool, List, [], length, Some, None, Ok, Err}
use Rattle.qbf.specs.declared.Candidate.{Candidate}
use Rattle.qbf.specs.Memo.{Pairs}
use Rattle.qbf.specs.Numbering.{Numbering, Makes, Stops}
use Rattle.qbf.specs.Decision.{Ending, Decides}
use Rattle.formula.specs.declared.prefix.Binding.{Binding}
use Rattle.formula.specs.Views.{Reading}
use Rattle.grammar.specs.declared.fault.ReadFault.{ReadFault}
use Rattle.grammar.specs.Steps.{read_all}
use Rattle.sets.specs.Formed.{forming}
use Rattle.ledger.specs.Answers.{loaded, unread, load_full, nothing_to_decide, allowance_too_large, answer, written, nothing_to_write, too_short}
use Rattle.ledger.specs.Ledger.{Dealing, load, decide, write, forget, LoadedFormula, quantifiers, most_allowed, formula_of}
use Rattle.ledger.specs.Promises.{text_of}
use Rattle.histories.specs.Standing.{Standing, Fresh, Begins}

-- A session stood at the first place, was dealt with so, and stands at the second: one case for each way in which a call ends.
pub data Deals {M : Type 0} (held : M → Pairs) (notes : M → ℕ → Bool → M → Type 0) (pick : List Candidate → ℕ) (s : Standing M) : Dealing → Standing M → Type 0 where
  -- a text that the reader refuses changes nothing
  deals_unread : {text : List ℕ} {fault : ReadFault} → read_all text ≡ Err fault → Deals held notes pick s (load text (unread fault)) s
  -- the clauses of a text are stored: each alone, and after it the set of those so far
  deals_loaded : {text : List ℕ} {r : Reading} {b : Standing M} {after : Numbering} →
      read_all text ≡ Ok r → Begins held r.prefix s b → Makes b.table (forming [] r.clauses) after →
      Deals held notes pick s (load text (loaded r.variables r.declared)) (record { prefix = b.prefix; formula = Some (formula_of r); table = after; memo = b.memo })
  -- one of these sets cannot be made: the formula stays as it was where the load began
  deals_load_full : {text : List ℕ} {r : Reading} {b : Standing M} {after : Numbering} →
      read_all text ≡ Ok r → Begins held r.prefix s b → Stops b.table (forming [] r.clauses) after →
      Deals held notes pick s (load text load_full) (record { prefix = b.prefix; formula = b.formula; table = after; memo = b.memo })
  -- the loaded formula is decided, with a verdict or without; nodes and pairs gained remain
  deals_decided : {allowance splits : ℕ} {f : LoadedFormula} {e : Ending} {after : Numbering} {kept : M} →
      s.formula ≡ Some f → allowance ≤ most_allowed →
      Decides held notes (quantifiers s.prefix) pick allowance 0 0 s.table s.memo f.clauses e splits after kept →
      Deals held notes pick s (decide allowance (answer e splits)) (record { prefix = s.prefix; formula = s.formula; table = after; memo = kept })
  -- no formula is loaded
  deals_undecided : {allowance : ℕ} → s.formula ≡ None → allowance ≤ most_allowed → Deals held notes pick s (decide allowance nothing_to_decide) s
  -- the allowance is above the largest, which is looked at first
  deals_too_large : {allowance : ℕ} → most_allowed < allowance → Deals held notes pick s (decide allowance allowance_too_large) s
  -- the buffer has room for the text of the loaded formula
  deals_written : {space : ℕ} {p : List Binding} {f : LoadedFormula} → s.prefix ≡ Some p → s.formula ≡ Some f → length (text_of p f) ≤ space →
      Deals held notes pick s (write space (written (length (text_of p f)))) s
  -- or too little
  deals_short : {space : ℕ} {p : List Binding} {f : LoadedFormula} → s.prefix ≡ Some p → s.formula ≡ Some f → space < length (text_of p f) →
      Deals held notes pick s (write space (too_short (length (text_of p f)))) s
  -- no formula is loaded
  deals_unwritten : {space : ℕ} → s.formula ≡ None → Deals held notes pick s (write space nothing_to_write) s
  -- everything is forgotten
  deals_forgot : {t : Standing M} → Fresh held t → Deals held notes pick s forget t
