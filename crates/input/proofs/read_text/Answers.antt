use Rattle.std.proofs.Common.{◌≡◌, ◌++◌, [], take, length, IfSome, ℕ, List, Option, Some, None, ap, ◌∙◌, arith, length-take}
use Rattle.std.specs.Option.{option_map}
use Rattle.std.proofs.lemmas.List.{take_all}
use Rattle.input.proofs.read_text.Goals as goal

-- what is taken of known bytes
taken : (known : Option (List ℕ)) (limit most : ℕ) (first came kept : List ℕ) → limit ≡ most → first ≡ [] → IfSome (option_map (take limit) known) (λ xs. came ≡ first ++ xs) → kept ≡ take most came → IfSome known (λ xs. kept ≡ take most xs)
taken None limit most first came kept l f h t = tt
taken (Some xs) limit most first came kept l f h t =
    let c : came ≡ take most xs = h ∙ ap (λ (bs : List ℕ). bs ++ take limit xs) f ∙ ap (λ (n : ℕ). take n xs) l in
    t ∙ take_all most came (omega (arith, ap length c, length-take most xs)) ∙ c

pub returns-clause-bytes : goal.returns-clause-bytes
returns-clause-bytes g c =
    taken (g.R.Read.remaining c.args.source) c.take.result.limit 60001 c.new-text.result.items c.read_to_end.new.buf.items c.truncate.new.self.items c.take.ensures.limit c.new-text.ensures.items
    (rw c.take.ensures.inner at c.in_ok-read_to_end.ensures.bytes) c.truncate.ensures.items
