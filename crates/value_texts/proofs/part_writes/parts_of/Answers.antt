use Rattle.std.proofs.Common.{[], ◌∷◌, ap, arith, length, length-append}
use Rattle.value_texts.proofs.PartWalk.{one_cut_more, one_part_more}
use Rattle.value_texts.proofs.part_writes.parts_of.Goals as goal

pub loop-left-preserved : goal.loop-left-preserved
loop-left-preserved g c =
    let cut = c.cut-front in
    let parts = c.loop-left.parts.items in
    let pushed = c.in_ok-push.ensures.items in
    record {
      whole = rw pushed (one_part_more g.P.Part.items g.P.Part.found parts cut.result.0 cut.result.1 c.loop-left.rest c.args.whole cut.ensures.items cut.ensures.found c.loop-left.invariant.whole);
      cut = λ more long are. rw pushed (one_cut_more g.P.Cut.IsCut c.args.whole cut.result.0 c.loop-left.rest cut.result.1 c.loop-left.left parts cut.ensures.cut c.loop-left.invariant.cut more
          (omega (arith, long)) are);
      as_many = omega (arith, ap length pushed, length-append parts (cut.result.0 ∷ []), c.loop-left.invariant.as_many);
      some = omega arith;
    }
