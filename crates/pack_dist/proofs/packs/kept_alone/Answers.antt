use Rattle.pack_dist.proofs.Cited.{◌≡◌, ◌∙◌, ◌++◌, ◌-◌, ap, arith, length, sym, stretch, with_items, count_of}
use Rattle.fresh.proofs.Written.{all_written}
use Rattle.pack_dist.specs.Kept.{kept_of}
use Rattle.pack_dist.proofs.Packing.{length-kept}
use Rattle.pack_dist.proofs.packs.kept_alone.Goals as goal

pub into_vec-requires : goal.into_vec-requires
into_vec-requires g c =
    let kept = kept_of c.args.values.now c.args.flags.now in
    let long : length kept ≡ count_of c.args.flags.now = length-kept c.args.values.now c.args.flags.now c.requires.as_long in
    let old = c.in_ok-room.run' in
    let all = c.push_kept-run.result in
    let written : all ≡ with_items old kept = c.push_kept-run.ensures ∙ ap (λ n. stretch old.block old.first (old.items ++ kept) (old.room - n)) (sym long) in
    (all_written c.in_ok-room.room old all kept c.true_count.result c.in_ok-room.ensures.room c.in_ok-room.ensures.run written (omega (arith, long, c.true_count.ensures.value))).0
