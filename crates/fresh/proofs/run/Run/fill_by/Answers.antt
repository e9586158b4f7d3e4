use Rattle.fresh.proofs.Cited.{◌≡◌, ◌+◌, ◌++◌, length, map, take, drop, ap, ◌∙◌, stretch, part}
use Rattle.fresh.proofs.Halves.{part_map}
use Rattle.fresh.proofs.run.Run.fill_by.Goals as goal

pub returns-clause-values : goal.returns-clause-values
returns-clause-values g c = λ h is.
    let s = c.args.self in let xs = c.args.xs.now in let next = s.first + length s.items in
    let cut : c.split_at-2.result.0.now ≡ part xs next s.room =
    c.split_at-2.ensures.front ∙ (λ i. take (c.room.ensures i) ((c.split_at.ensures.back ∙ ap (λ k. drop k xs) c.next_place.ensures.place) i)) in
    c.fill_from.ensures.values h is ∙ ap (λ ys. stretch s.block s.first (s.items ++ ys) 0) (ap (map h) cut ∙ part_map h xs next s.room)
