use Rattle.std.proofs.Common.{◌≡◌, ◌+◌, length, arith, rules}
use Rattle.std.proofs.lemmas.Bool.Decides.{nat_tests}
use Rattle.arrays.specs.Lists.{items_of}
use Rattle.table.specs.Tables.{nodes_of, size_of, clauses}
use Rattle.table.specs.Places.{Sound}
use Rattle.table.specs.Probing.{Indexed}
use Rattle.table.proofs.Stores.{Joins, found_joins, bare_joins, stored}
use Rattle.table.proofs.Probes.{found, lacking, stored_indexed}
use Rattle.table.proofs.Canon.{above_by}
use Rattle.table.proofs.Grown.{adds_same, joined_is, joined_adds, joined_misses}
use Rattle.table.proofs.table.Table.make.Goals as goal
use Rattle.table.proofs.table.Table.make.Goals.{After-store}

pub returns-then-with-eq0 : goal.returns-then-with-eq0
returns-then-with-eq0 c =
    let t = c.args.self.now in
    let j = bare_joins (nodes_of t) c.args.code c.args.with c.args.without c.if-with-eq0.true c.requires.without_held in
    record { grows = adds_same t _; cases = joined_is t _ _ _ t _ j }

pub returns-then-found-ne0 : goal.returns-then-found-ne0
returns-then-found-ne0 c =
    let t = c.args.self.now in
    let f = found _ _ t.indexed _ _ c.place-place.ensures (omega arith) in
    let j = found_joins _ c.args.code c.args.with c.args.without _ t.sound f in
    record { grows = adds_same t _; cases = joined_is t _ _ _ t _ j }

pub returns-then-is_full : goal.returns-then-is_full
returns-then-is_full c =
    let t = c.args.self.now in
    let full : size_of t ≡ 4096 = grind (arith, nat_tests) in
    record {
      grows = adds_same t _;
      cases = joined_misses t c.args.code c.args.with c.args.without full (omega arith) c.requires.with_held c.requires.without_held c.requires.without_over (lacking _ _ t.indexed _ _ c.place-place.ensures c.if-found-ne0.false);
    }

-- what the push and the store leave
after : (c : goal.After-store) →
    let t = c.args.self.now in
    let ys = items_of c.push.new.self in
    Sound ys × Joins (nodes_of t) c.args.code c.args.with c.args.without ys (size_of t + 2) × Indexed ys c.store.new.self.at
unfolding clauses
after c =
    let t = c.args.self.now in
    let wide : length t.index.at ≡ 8192 = search rules in
    let s = stored (nodes_of t) c.args.code c.args.with c.args.without t.sound c.requires.coded (omega arith) c.requires.with_held c.requires.without_held
    (above_by _ t.sound _ _ c.requires.with_held c.requires.with_over) (above_by _ t.sound _ _ c.requires.without_held c.requires.without_over)
    (items_of c.push.new.self) c.push.ensures (lacking _ _ t.indexed _ _ c.place-place.ensures c.if-found-ne0.false) in
    (s.0, s.1, stored_indexed _ _ t.indexed wide _ _ c.place-place.ensures c.if-found-ne0.false _ c.push.ensures _ (rw c.size.ensures.value at c.store.ensures))

pub invariant_of-self : goal.invariant_of-self
invariant_of-self c = let a = after c in record { sound = a.0; indexed = a.2 }

pub returns : goal.returns
returns c =
    let t = c.args.self.now in
    let a = after (goal.at.returns c).After-store in
    rw c.size.ensures.value (record { grows = joined_adds t _ _ _ _ _ a.1; cases = joined_is t _ _ _ _ _ a.1 })
