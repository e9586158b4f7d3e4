use Rattle.permute_walks.proofs.Cited.{◌∙◌, ap, arith, length, take, length-drop}
use Rattle.permute_walks.proofs.Outside.{length-elements_at, run_found}
use Rattle.permute_walks.proofs.backs.ElementsAtWriter.write.Goals as goal

pub split_at-requires : goal.split_at-requires
split_at-requires g c = let w = c.args.self.now in omega (arith, c.next_place.ensures.place, ap length c.requires.empty, c.requires.within, length-elements_at w.source.now w.index.now w.inside)

pub split_at-requires-2 : goal.split_at-requires-2
split_at-requires-2 g c =
    let w = c.args.self.now in
    omega (
      arith,
      c.next_place.ensures.place,
      ap length c.requires.empty,
      c.requires.within,
      length-elements_at w.source.now w.index.now w.inside,
      c.room.ensures,
      ap length c.split_at.ensures.back,
      length-drop c.next_place.result w.index.now,
    )

pub returns : goal.returns
returns g c =
    let w = c.args.self.now in
    run_found w.source.now w.index.now _ c.args.run c.write_elements_at.result c.next_place.result c.room.result w.inside c.requires.empty c.requires.within c.next_place.ensures.place
    c.room.ensures (c.split_at-2.ensures.front ∙ ap (take c.room.result) c.split_at.ensures.back) c.write_elements_at.ensures
