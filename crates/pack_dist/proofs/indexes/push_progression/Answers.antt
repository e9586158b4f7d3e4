use Rattle.pack_dist.proofs.Cited.{rules, wraps}
use Rattle.pack_dist.proofs.Progressed.{next_first, next_more, numbers-more}
use Rattle.pack_dist.proofs.Pushed.{none_pushed, pushed}
use Rattle.pack_dist.proofs.indexes.push_progression.Goals as goal

pub loop-init : goal.loop-init
loop-init c = record {
  next = next_first c.args.init.now c.args.stride.now _ c.args.from c.requires.few (search (rules, wraps));
  held = none_pushed c.args.run;
}

pub loop-preserved : goal.loop-preserved
loop-preserved c = record {
  next = next_more c.args.init.now c.args.stride.now _ _ c.args.from c.loop.counter c.loop.invariant.next (search (rules, wraps));
  held = pushed c.args.run c.loop.run c.push.new.self _ _ c.loop.counter _ c.loop.invariant.held c.push.ensures
      (numbers-more c.args.init.now c.args.stride.now _ c.args.from c.loop.counter c.loop.invariant.next);
}
