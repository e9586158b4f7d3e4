use Rattle.std.proofs.Common.{◌∙◌, ◌++◌, [], ◌∷◌, ap, arith, refl, rules, sym, to_z, w32}
use Rattle.std.proofs.lemmas.Int.{wraps}
use Rattle.std.proofs.lemmas.List.{take_more_set}
use Rattle.pack_dist.proofs.Progressed.{next_first, next_more, numbers-more}
use Rattle.segment_fills.proofs.numbers.number_by.Goals as goal

pub loop-k-init : goal.loop-k-init
loop-k-init c = record {
  next = next_first c.args.init.now c.args.stride.now _ c.args.from c.requires (search (rules, wraps));
  held = refl;
}

pub loop-k-preserved : goal.loop-k-preserved
loop-k-preserved c = record {
  next = next_more c.args.init.now c.args.stride.now _ _ c.args.from c.loop-k.k c.loop-k.invariant.next (search (rules, wraps));
  held =
      let x = to_z w32 c.loop-k.next-bits in
      take_more_set c.loop-k.room c.loop-k.k x (omega (arith, c.loop-k-test.true, c.loop-k.auto.room))
      ∙ ap (λ xs. xs ++ x ∷ []) c.loop-k.invariant.held
      ∙ sym (numbers-more c.args.init.now c.args.stride.now x c.args.from c.loop-k.k c.loop-k.invariant.next);
}
