use Rattle.pack_dist.proofs.Cited.{◌≡◌, ◌+◌, ◌-◌, ◌≤◌, ◌∙◌, ap, arith}
use Rattle.sharing.specs.Shares.{share_of_first}
use Rattle.fresh.proofs.Halves.{parts_both}
use Rattle.pack_dist.specs.Kept.{count_before, kept_of}
use Rattle.pack_dist.proofs.Tiles.{all_places, back_placed, before_middle, counted_places, front_placed, places_within}
use Rattle.pack_dist.proofs.kept_tiles.KeptTilesShare.split.Given.{Over}
use Rattle.pack_dist.proofs.kept_tiles.KeptTilesShare.split.Goals as goal
use Rattle.pack_dist.proofs.kept_tiles.KeptTilesShare.split.Goals.{then-middle-to, else-middle-to}

pub overflow_sub-places : goal.overflow_sub-places
overflow_sub-places g c = omega (arith, c.count_before.ensures, before_middle c.requires.places (c.args.self.from + c.share_of_first.result) (omega arith))

module _ (g : Over) (c : goal.After-result-2-1 g) where
  le : c.args.self.from + c.share_of_first.result ≤ c.args.self.to
  le = omega (arith, c.share_of_first.ensures.within, c.args.self.in_order)

  -- the places before the middle are those of what is kept of the tiles before it
  at : c.args.first + c.if-middle-to.places ≡ count_before c.args.self.kept.now.flags.now c.args.self.kept.now.tile (c.args.self.from + c.share_of_first.result)
  at =
      let middle = c.args.self.from + c.share_of_first.result in
      elim c.if-middle-to.branch [
        | then-middle-to w ↦ counted_places c.requires.places middle c.if-middle-to.places w.count_before.result (omega arith) w.places-is w.count_before.ensures
        | else-middle-to w ↦ all_places c.requires.places middle c.if-middle-to.places le w.if-middle-to.false w.places-is
      ]

pub returns-clause-split : goal.returns-clause-split
returns-clause-split g c =
    let s = c.args.self in
    at g c
    ∙ ap (λ places. count_before s.kept.now.flags.now s.kept.now.tile (s.from + places))
    (c.share_of_first.ensures.exact ∙ λ i. share_of_first ((c.get.ensures.value ∙ c.split.ensures.fewer) i) (c.get-2.ensures.value i) (s.to - s.from))

pub returns-clause-within : goal.returns-clause-within
returns-clause-within g c = places_within c.requires.places (c.args.self.from + c.share_of_first.result) c.if-middle-to.places (le g c) (at g c)

pub returns-clause-front : goal.returns-clause-front
returns-clause-front g c = front_placed c.requires.places (c.args.self.from + c.share_of_first.result) c.if-middle-to.places (le g c) (at g c)

pub returns-clause-back : goal.returns-clause-back
returns-clause-back g c = back_placed c.requires.places (c.args.self.from + c.share_of_first.result) c.if-middle-to.places (le g c) (at g c)

pub returns-clause-items : goal.returns-clause-items
returns-clause-items g c =
    let k = c.args.self.kept.now in
    parts_both (kept_of k.values.now k.flags.now) c.args.first c.if-middle-to.places c.args.room
    (places_within c.requires.places (c.args.self.from + c.share_of_first.result) c.if-middle-to.places (le g c) (at g c))
