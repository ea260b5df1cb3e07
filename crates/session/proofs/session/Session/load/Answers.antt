use Rattle.std.proofs.Common.{Ok, refl}
use Rattle.std.proofs.lemmas.Result.{err_from_is_err_and}
use Rattle.formula.specs.Views.{reading, bindings_of}
use Rattle.grammar.proofs.Whole.{reading_stands_lem}
use Rattle.ledger.specs.Answers.{loaded, unread, load_full}
use Rattle.ledger.specs.Ledger.{load}
use Rattle.histories.specs.Dealings.{deals_unread}
use Rattle.session.specs.Views.{standing}
use Rattle.session.proofs.Dealing.{dealt, begins_under, loads_made, loads_stopped}
use Rattle.session.proofs.session.Session.load.Goals as goal

pub returns-in_err-read_into : goal.returns-in_err-read_into
returns-in_err-read_into g c =
    let p = err_from_is_err_and c.from_residual.result c.from_residual.ensures.1 in
    let fault = c.in_err-read_into.field-0.0 in
    let text = c.args.text.now in
    rw (p.1, p.2) (record {
      answer = unread fault;
      told = refl;
      dealt = dealt g.M.Memo.held g.M.Memo.notes g.met.M.Memo.kept g.C.Chooser.picks g.met.C.Chooser.listed c.args.self.now (load text (unread fault)) c.args.self.now refl
          (deals_unread (((reading_stands_lem text).refused fault).1 ((c.in_err-read_into.ensures.refused fault).0 refl)));
    })

pub store-requires : goal.store-requires
store-requires g c =
    let f = c.read_into.new.formula in
    record {
      under = begins_under g.M.Memo.held (bindings_of f.prefix) (standing c.args.self.now) (standing c.begin.new.self) c.begin.ensures.begins;
      read = (c.args.text.now, (c.in_ok-read_into.ensures.accepted (reading f)).0 refl);
    }

pub returns-in_err-store : goal.returns-in_err-store
returns-in_err-store g c =
    let p = err_from_is_err_and c.from_residual-in_err-store.result c.from_residual-in_err-store.ensures.1 in
    let f = c.read_into.new.formula in
    let text = c.args.text.now in
    let stores = c.in_err-store.ensures.stores in
    let begun = c.begin.new.self in
    rw (p.1, p.2) (record {
      answer = load_full;
      told = refl;
      dealt = dealt g.M.Memo.held g.M.Memo.notes g.met.M.Memo.kept g.C.Chooser.picks g.met.C.Chooser.listed c.args.self.now (load text load_full) _ c.begin.ensures.chooser
          (loads_stopped g.M.Memo.held g.M.Memo.notes (g.C.Chooser.picks c.args.self.now.chooser) (standing c.args.self.now) begun.core c.store.new.self begun.memo (reading f) text
          (((reading_stands_lem text).accepted (reading f)).1 ((c.in_ok-read_into.ensures.accepted (reading f)).0 refl)) c.begin.ensures.begins c.in_err-store.ensures.prefix stores.0 stores.1);
    })

pub returns : goal.returns
returns g c =
    let f = c.read_into.new.formula in
    let text = c.args.text.now in
    let stores = c.in_ok-store.ensures.stores in
    let begun = c.begin.new.self in
    record {
      answer = loaded f.variables f.declared;
      told = λ i. Ok (record { variables = c.from.ensures.0 i; declared = c.from.ensures.1 i });
      dealt = dealt g.M.Memo.held g.M.Memo.notes g.met.M.Memo.kept g.C.Chooser.picks g.met.C.Chooser.listed c.args.self.now (load text (loaded f.variables f.declared)) _ c.begin.ensures.chooser
          (loads_made g.M.Memo.held g.M.Memo.notes (g.C.Chooser.picks c.args.self.now.chooser) (standing c.args.self.now) begun.core c.store.new.self begun.memo (reading f) text
          (((reading_stands_lem text).accepted (reading f)).1 ((c.in_ok-read_into.ensures.accepted (reading f)).0 refl)) c.begin.ensures.begins c.in_ok-store.ensures.prefix stores.0 stores.1);
    }
