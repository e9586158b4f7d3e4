use Rattle.std.proofs.Common.{◌≡◌, ◌∙◌, of_z, to_z, ◌-◌, ap, arith, length, pos, set, w32}
use Rattle.std.proofs.lemmas.Int.{to_z-of_z}
use Rattle.cvl_base.specs.Integers.{sum_of}
use Rattle.run_parts.proofs.Lasts.{last-set}
use Rattle.run_parts.proofs.puts.add_to_last.Goals as goal

pub returns-then-count-gt0 : goal.returns-then-count-gt0
returns-then-count-gt0 c =
    let xs = c.args.numbers.now in
    let same : to_z w32 (of_z w32 c.sum.result) ≡ c.sum.result = grind (arith, to_z-of_z) in
    ap (set xs (length xs - 1)) (same ∙ c.sum.ensures) ∙ last-set sum_of xs (pos 0) c.args.more.now c.if-count-gt0.true
