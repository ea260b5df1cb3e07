-- The part of a set by its sides.
use Rattle.std.proofs.Common.{◌≡◌, ℕ, ◌<◌, List, Ok, refl, sym, ap, ◌∙◌, arith}
use Rattle.sets.specs.Sides.{Over, joined}
use Rattle.sets.proofs.Joined.{lacking_here, lacking_other, taken_out_here, taken_out_other, over_lacking, over_taken_out}
use Rattle.table.specs.declared.node.Node.{Node}
use Rattle.table.specs.declared.table.Table.{Table}
use Rattle.table.specs.Tables.{Number, clauses, Adds, Makes, Opens}
use Rattle.diagram.specs.declared.literal.Part.{Part}
use Rattle.diagram.specs.declared.literal.Part.TheVariants.{Lacking, TakenOut}
use Rattle.diagram.specs.Parts.{part_of, side_of}
use Rattle.diagram.specs.Cofactors.{Sided}
use Rattle.diagram.proofs.Steps.{Set, Split, there}

over_part : (p : Part) (k l : ℕ) (s : Set) → Over k s → Over k (part_of p l s)
over_part Lacking k l s a = over_lacking k l s a
over_part TakenOut k l s a = over_taken_out k l s a

part_other : (p : Part) (l k : ℕ) (hi lo : Set) → (k ≡ l → ⊥) → part_of p l (joined k hi lo) ≡ joined k (part_of p l hi) (part_of p l lo)
part_other Lacking l k hi lo n = lacking_other l k hi lo n
part_other TakenOut l k hi lo n = taken_out_other l k hi lo n

part_sides : (p : Part) (l : ℕ) (hi lo : Set) (with without : ℕ) (t : Table) → Over l hi → Over l lo → hi ≡ clauses t with → lo ≡ clauses t without → clauses t (side_of p with without) ≡ part_of p l (joined l hi lo)
part_sides Lacking l hi lo with without t a b e f = sym f ∙ sym (lacking_here l hi lo b)
part_sides TakenOut l hi lo with without t a b e f = sym e ∙ sym (taken_out_here l hi lo a b)

side_held : (p : Part) (t : Table) (n k hi lo : ℕ) → Number t n → Sided t n k hi lo → Number t (side_of p hi lo)
side_held Lacking t n k hi lo h s = omega (arith, s.lo_le)
side_held TakenOut t n k hi lo h s = omega (arith, s.hi_le)

-- the part of a set whose codes are the literal or above: a side of it
pub part_side : (t : Table) (p : Part) (n l hi lo : ℕ) → Number t n → Sided t n l hi lo → Makes t (part_of p l (clauses t n)) t (Ok (side_of p hi lo))
part_side t p n l hi lo h s =
    there t _ _ (side_held p t n l hi lo h s) (part_sides p l (clauses t hi) (clauses t lo) hi lo t s.hi_over s.lo_over refl refl ∙ ap (part_of p l) (sym s.means))

pub part_split : (t : Table) (p : Part) (n l : ℕ) (x : Node) → Opens t n x → (x.code ≡ l → ⊥) → Split (part_of p l (clauses t n)) x.code (part_of p l (clauses t x.with)) (part_of p l (clauses t x.without))
part_split t p n l x o ne = record {
  is = ap (part_of p l) o.means ∙ part_other p l x.code (clauses t x.with) (clauses t x.without) ne;
  hi_over = over_part p x.code l (clauses t x.with) o.with_over;
  lo_over = over_part p x.code l (clauses t x.without) o.without_over;
}

-- the same part in a table that has grown
pub part_kept : (t : Table) (sets : List Set) (u : Table) → Adds t sets u → (p : Part) (l n m : ℕ) → Number t n → m < n → part_of p l (clauses u m) ≡ part_of p l (clauses t m)
part_kept t sets u g p l n m h less = ap (part_of p l) (g.keeps m (omega arith))
