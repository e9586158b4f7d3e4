use Rattle.std.proofs.Common.{◌∙◌, ◌+◌, arith}
use Rattle.std.proofs.lemmas.List.FromFn.{fill_by_all}
use Rattle.part_cuts.specs.Evenly.{even_place}
use Rattle.part_cuts.proofs.evenly.write_even_places.Goals as goal

pub returns : goal.returns
returns c =
    fill_by_all (even_place c.args.len c.args.parts) c.loop-k.places (c.args.parts + 1) 0 (c.loop-k.auto.places ∙ c.requires.room)
    (λ k below. c.loop-k.invariant k (omega (arith, below, c.loop-k-test.false, c.loop-k.auto.k-end, c.requires.room)))
