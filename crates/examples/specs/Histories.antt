-- Histories worked through: what a text is read as, and what the ledger holds after loads, decisions and a forgetting.
use Rattle.std.specs.Prelude.{◌≡◌, ℕ, List, [], ◌∷◌, ◌++◌, Some, None, Ok}
use Rattle.qbf.specs.declared.Quantifier.TheVariants.{Existential, Universal}
use Rattle.qbf.specs.Walk.{bare}
use Rattle.qbf.specs.Decision.{spent}
use Rattle.formula.specs.declared.prefix.Binding.{Binding}
use Rattle.grammar.specs.Steps.{read_all}
use Rattle.sets.specs.Formed.{forming}
use Rattle.choosers.specs.Preferred.{first_picks}
use Rattle.ledger.specs.Answers.{loaded, load_full, undecided, allowance_too_large}
use Rattle.ledger.specs.Ledger.{Dealing, load, decide, forget, LoadedFormula, Ledger, fresh, ledger}
use Rattle.ledger.specs.Promises.{text_of}
use Rattle.examples.specs.Examples.{clauses, formula, met_again}

-- the last of the small formulas as a text, a line of it on each line here: p cnf 3 3, a 1 2 0, e 3 0, and the clauses
abbrev pub met_again_text : List ℕ
met_again_text =
    112 ∷ 32 ∷ 99 ∷ 110 ∷ 102 ∷ 32 ∷ 51 ∷ 32 ∷ 51 ∷ 10 ∷
    97 ∷ 32 ∷ 49 ∷ 32 ∷ 50 ∷ 32 ∷ 48 ∷ 10 ∷
    101 ∷ 32 ∷ 51 ∷ 32 ∷ 48 ∷ 10 ∷
    49 ∷ 32 ∷ 50 ∷ 32 ∷ 51 ∷ 32 ∷ 48 ∷ 10 ∷
    45 ∷ 49 ∷ 32 ∷ 50 ∷ 32 ∷ 51 ∷ 32 ∷ 48 ∷ 10 ∷
    45 ∷ 50 ∷ 32 ∷ 45 ∷ 51 ∷ 32 ∷ 48 ∷ 10 ∷ []

abbrev pub met_again_prefix : List Binding
met_again_prefix =
    record { variable = 1; quantifier = Universal }
    ∷ record { variable = 2; quantifier = Universal }
    ∷ record { variable = 3; quantifier = Existential }
    ∷ []

-- a text with that prefix and one clause: p cnf 3 1, a 1 2 0, e 3 0, 3 0
abbrev pub same_prefix_text : List ℕ
same_prefix_text =
    112 ∷ 32 ∷ 99 ∷ 110 ∷ 102 ∷ 32 ∷ 51 ∷ 32 ∷ 49 ∷ 10 ∷
    97 ∷ 32 ∷ 49 ∷ 32 ∷ 50 ∷ 32 ∷ 48 ∷ 10 ∷
    101 ∷ 32 ∷ 51 ∷ 32 ∷ 48 ∷ 10 ∷
    51 ∷ 32 ∷ 48 ∷ 10 ∷ []

-- a text with another prefix: p cnf 1 1, e 1 0, 1 0
abbrev pub other_prefix_text : List ℕ
other_prefix_text =
    112 ∷ 32 ∷ 99 ∷ 110 ∷ 102 ∷ 32 ∷ 49 ∷ 32 ∷ 49 ∷ 10 ∷
    101 ∷ 32 ∷ 49 ∷ 32 ∷ 48 ∷ 10 ∷
    49 ∷ 32 ∷ 48 ∷ 10 ∷ []

-- the ledger of a history, newest dealing first, with the chooser of the first candidate
abbrev pub ledger_of : List Dealing → Ledger
ledger_of = ledger first_picks

-- the first text is loaded, and nothing else happened
abbrev pub one_load : List Dealing
one_load = load met_again_text (loaded 3 3) ∷ []

abbrev pub loaded_formula : LoadedFormula
loaded_formula = record { variables = 3; clauses = formula met_again }

-- the sets that this load makes, and those of the bare walk
abbrev pub load_sets : List (List (List ℕ))
load_sets = forming [] (clauses met_again)

abbrev pub walk_sets : List (List (List ℕ))
walk_sets = (bare first_picks met_again.prefix (formula met_again)).made

pub record Histories : Type 0 where
  -- the text is read as that formula
  pub read : read_all met_again_text ≡ Ok (record { variables = 3; declared = 3; prefix = met_again_prefix; clauses = clauses met_again })
  -- and is what is written of it
  pub write_back : text_of met_again_prefix loaded_formula ≡ met_again_text
  -- a load weighs its sets, and its formula is loaded
  pub after_load : ledger_of one_load ≡ record { prefix = Some met_again_prefix; formula = Some loaded_formula; weighed = load_sets }
  -- a decision weighs the sets of the whole bare walk, also where it was spent
  pub after_decision : ledger_of (decide 2 (undecided spent 2) ∷ one_load) ≡ record { prefix = Some met_again_prefix; formula = Some loaded_formula; weighed = load_sets ++ walk_sets }
  -- but not with an allowance that is too large
  pub after_refusal : ledger_of (decide 1000001 allowance_too_large ∷ one_load) ≡ ledger_of one_load
  -- a load that finds the table full leaves the formula under the same prefix, and its sets are weighed with the others
  pub same_prefix : ledger_of (load same_prefix_text load_full ∷ one_load) ≡ record { prefix = Some met_again_prefix; formula = Some loaded_formula; weighed = load_sets ++ ((4 ∷ []) ∷ []) ∷ ((4 ∷ []) ∷ []) ∷ [] }
  -- under another prefix it leaves no formula, and only its own sets are weighed
  pub other_prefix : ledger_of (load other_prefix_text load_full ∷ one_load) ≡ record {
    prefix = Some (record { variable = 1; quantifier = Existential } ∷ []);
    formula = None;
    weighed = ((0 ∷ []) ∷ []) ∷ ((0 ∷ []) ∷ []) ∷ [];
  }
  pub after_forgetting : ledger_of (forget ∷ one_load) ≡ fresh
