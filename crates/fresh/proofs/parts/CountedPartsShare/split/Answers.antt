use Rattle.fresh.proofs.Cited.{◌∙◌, ap, length, take, arith, rules, flat_map, common_steps}
use Rattle.fresh.proofs.PartWalk.{cut_in_two}
use Rattle.fresh.proofs.parts.CountedPartsShare.split.Goals as goal

pub returns : goal.returns
returns g c =
    let items = g.P.Part.items in
    let cut = cut_in_two items c.args.self.parts.now _ c.requires.places.0 c.requires.places.1 c.split_at.ensures.front c.split_at.ensures.back
    c.split_at-2.ensures.front c.split_at-2.ensures.back c.total.ensures (omega (arith, c.ranges._room.fits)) in
    record {
      parts = search rules;
      fewer = search rules;
      split = cut.front.1 ∙ ap (λ parts. length (flat_map items parts)) c.split_at.ensures.front ∙ ap (λ k. length (flat_map items (take k c.args.self.parts.now))) c.first_of_two-few.ensures.exact;
      within = cut.within;
      front = cut.front;
      back = cut.back;
      items = grind (arith, common_steps);
      found = cut.found g.P.Part.found c.args._first;
    }
