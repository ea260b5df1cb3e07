-- A new table that has no room is too small for the sets.
use Rattle.std.proofs.Common.{◌≡◌, ℕ, List, [], ◌∷◌, ◌++◌, sym, refl, subst, inl, append_assoc, ◌∙◌}
use Rattle.qbf.specs.Lists.{In}
use Rattle.qbf.specs.Nodes.{Crowded}
use Rattle.qbf.proofs.Lists.{in_left, in_right}
use Rattle.table.specs.declared.table.Table.{Table}
use Rattle.table.specs.Tables.{size_of, Stopped}
use Rattle.table.proofs.Crowding.{full_crowds, weighed_none, weighed_adds}

pub crowded : (t : Table) (sets : List (List (List ℕ))) (u : Table) → size_of t ≡ 0 → Stopped t sets u → Crowded 4096 sets
crowded t sets u none s =
    let made : List (List (List ℕ)) = s.before ++ (s.hand ∷ []) in
    let back : made ++ s.after ≡ sets = append_assoc s.before (s.hand ∷ []) s.after ∙ sym s.order in
    let wide : (r : List (List ℕ)) → In r made → In r sets = λ r i. subst (In r) back (in_left r made s.after i) in
    full_crowds u sets s.hand (weighed_adds t sets made u wide (weighed_none t sets none) s.grows) (wide s.hand (in_right s.hand s.before (s.hand ∷ []) (inl refl))) s.misses
