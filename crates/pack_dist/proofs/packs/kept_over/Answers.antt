use Rattle.pack_dist.proofs.Cited.{◌≡◌, ◌∙◌, Err, ap, arith, length, refl, sym}
use Rattle.cvl_base.proofs.Rooms.{at_front-short}
use Rattle.pack_dist.specs.Kept.{kept_of}
use Rattle.pack_dist.proofs.Packing.{length-kept}
use Rattle.pack_dist.proofs.packs.kept_over.Goals as goal

pub returns-then-kept-out : goal.returns-then-kept-out
returns-then-kept-out g c =
    let xs = kept_of c.args.values.now c.args.flags.now in
    let count : c.true_count-kept.result ≡ length xs =
    c.true_count-kept.ensures.value ∙ sym (length-kept c.args.values.now c.args.flags.now c.requires.as_long) in
    ((at_front-short c.args.out.now xs (omega (arith, count, c.if-kept-out.true)) ∙ ap Err (sym c.new.ensures), refl), count)
