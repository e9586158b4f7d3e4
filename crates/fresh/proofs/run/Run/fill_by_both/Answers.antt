use Rattle.fresh.proofs.Cited.{◌≡◌, ◌+◌, ◌++◌, length, map, take, drop, ap, ◌∙◌, zip, stretch, part}
use Rattle.fresh.proofs.Halves.{part_map}
use Rattle.fresh.proofs.Maps.{zipped_map}
use Rattle.fresh.proofs.Zips.{part_zip}
use Rattle.fresh.proofs.run.Run.fill_by_both.Goals as goal

pub returns : goal.returns
returns g c = λ h is.
    let s = c.args.self in let xs = c.args.xs.now in let ys = c.args.ys.now in let next = s.first + length s.items in
    let cut_x : c.split_at-2.result.0.now ≡ part xs next s.room =
    c.split_at-2.ensures.front ∙ (λ i. take (c.room.ensures i) ((c.split_at.ensures.back ∙ ap (λ k. drop k xs) c.next_place.ensures.place) i)) in
    let cut_y : c.split_at-4.result.0.now ≡ part ys next s.room =
    c.split_at-4.ensures.front ∙ (λ i. take (c.room-2.ensures i) ((c.split_at-3.ensures.back ∙ ap (λ k. drop k ys) c.next_place-2.ensures.place) i)) in
    let all = c.fill_from_both.ensures in
    let are : all.0 ≡ map (λ p. h p.0 p.1) (zip c.split_at-2.result.0.now c.split_at-4.result.0.now) =
    zipped_map (λ p z. g.F.Fn.post c.args.f (p.0, (p.1, tt)) z) (λ p. h p.0 p.1) (zip c.split_at-2.result.0.now c.split_at-4.result.0.now) all.0 all.1 (λ p z post. is p.0 p.1 z post) in
    all.2 ∙ ap (λ zs. stretch s.block s.first (s.items ++ zs) 0)
    (are ∙ ap (map (λ p. h p.0 p.1)) ((λ i. zip (cut_x i) (cut_y i)) ∙ part_zip xs ys next s.room) ∙ part_map (λ p. h p.0 p.1) (zip xs ys) next s.room)
