use Rattle.pack_dist.proofs.Cited.{◌≡◌, ◌∙◌, ap, arith, length, sym}
use Rattle.pack_dist.specs.Kept.{kept_of}
use Rattle.pack_dist.proofs.Packing.{length-kept}
use Rattle.pack_dist.proofs.packs.write_kept.Goals as goal

pub fill_slice-requires-clause-full : goal.fill_slice-requires-clause-full
fill_slice-requires-clause-full g c = λ block run done.
    let is = done.1 in
    let long : length (kept_of c.args.values.now c.args.flags.now) ≡ length c.args.out.now =
    length-kept c.args.values.now c.args.flags.now c.requires.as_long ∙ sym c.requires.fits in
    (ap (λ s. s.block) is, ap (λ s. s.first) is, ap (λ s. s.room) is ∙ omega (arith, c.requires.fits), ap (λ s. length s.items) is ∙ long)
