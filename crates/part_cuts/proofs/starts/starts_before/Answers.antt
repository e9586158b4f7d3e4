use Rattle.std.proofs.Common.{◌≡◌, ◌∙◌, ◌+◌, ◌<◌, Ok, ap, arith, get_or, length, pos, unsigned_abs}
use Rattle.std.specs.Int.{is_negative}
use Rattle.std.proofs.lemmas.List.{length-map}
use Rattle.cvl_base.proofs.Descriptors.{not_negative}
use Rattle.part_cuts.proofs.FirstStarts.{length_at, walked_more, walked_to_place, walked_within}
use Rattle.part_cuts.proofs.starts.starts_before.Goals as goal

pub returns-then-next-place-clause-found : goal.returns-then-next-place-clause-found
returns-then-next-place-clause-found c = λ segments are fits.
    ap Ok (walked_to_place c.args.place c.args.start segments c.loop-k.k c.loop-k.next (c.loop-k.invariant segments are) (omega (arith, c.if-next-place.true)))

pub returns-in_err-next-clause-found : goal.returns-in_err-next-clause-found
returns-in_err-next-clause-found c = λ segments are fits.
    let k = c.loop-k.k in
    let here : get_or c.args.lengths.now k (pos 0) ≡ pos (get_or segments k 0) = length_at c.args.lengths.now segments k are c.loop-k-test.true in
    let within : k < length segments = omega (arith, c.loop-k-test.true, ap length are, length-map segments pos) in
    absurd (omega (
      arith,
      c.in_err-next.ensures.1 (ap is_negative here ∙ not_negative (get_or segments k 0)),
      ap unsigned_abs here,
      walked_within c.args.place c.args.start segments k c.loop-k.next (c.loop-k.invariant segments are) within,
      fits,
    ))

pub loop-k-preserved : goal.loop-k-preserved
loop-k-preserved c = λ ns are.
    let k = c.loop-k.k in
    let here : get_or c.args.lengths.now k (pos 0) ≡ pos (get_or ns k 0) = length_at c.args.lengths.now ns k are c.loop-k-test.true in
    let within : k < length ns = omega (arith, c.loop-k-test.true, ap length are, length-map ns pos) in
    walked_more c.args.place c.args.start ns k c.loop-k.next (c.loop-k.invariant ns are) c.in_ok-next.next within (omega (arith, c.if-next-place.false))
    (c.in_ok-next.ensures.1 ∙ ap (λ z. c.loop-k.next + unsigned_abs z) here)
