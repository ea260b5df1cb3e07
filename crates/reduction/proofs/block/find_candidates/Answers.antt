use Rattle.table.specs.Sets.{clauses_of}
use Rattle.reduction.proofs.Bindings.{few_lent, listed_lent}
use Rattle.reduction.proofs.Listings.{first_within, found_none, found_block}
use Rattle.reduction.proofs.block.find_candidates.Goals as goal

pub block_from-requires : goal.block_from-requires
block_from-requires c =
    let s = clauses_of c.args.set in
    let few = few_lent c.args.prefix.now _ c.bindings-bindings.ensures in
    record { few = few; within = first_within _ few s _ c.count_literals-counts.ensures _ c.in-Some.ensures }

pub returns-in-Some : goal.returns-in-Some
returns-in-Some c =
    let p = c.args.prefix.now in
    let s = clauses_of c.args.set in
    let lent = c.bindings-bindings.ensures in
    let found = c.block_from.result in
    let r = listed_lent p _ lent found s (found_block _ (few_lent p _ lent) s _ c.count_literals-counts.ensures found _ c.in-Some.ensures c.block_from.ensures) in
    record { list = r.0; quantifier = r.1 }

pub returns-in-None : goal.returns-in-None
returns-in-None c =
    let p = c.args.prefix.now in
    let s = clauses_of c.args.set in
    let lent = c.bindings-bindings.ensures in
    let found = c.none.result in
    let r = listed_lent p _ lent found s (found_none _ (few_lent p _ lent) s _ c.count_literals-counts.ensures found c.in-None.ensures c.none.ensures.list c.none.ensures.block) in
    record { list = r.0; quantifier = r.1 }
