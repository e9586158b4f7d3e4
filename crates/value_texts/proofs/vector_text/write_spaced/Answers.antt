use Rattle.std.proofs.Common.{length, arith}
use Rattle.std.proofs.lemmas.List.{drop_all}
use Rattle.value_texts.proofs.vector_text.write_spaced.Goals as goal

pub loop-left-init : goal.loop-left-init
loop-left-init g c = record {
  written = rw (drop_all 12288 c.args.page.now (omega arith), drop_all (length c.args.xs.now) c.args.xs.now (omega arith));
  room = omega arith;
  within = omega arith;
  short = omega arith;
  left = omega arith;
}
