use Rattle.std.proofs.Common.{◌∙◌, ◌&&◌, ap, sym, arith, map, sum}
use Rattle.std.proofs.Math.Bool.{and-false}
use Rattle.std.proofs.lemmas.Bool.{ne_eqb}
use Rattle.std.specs.List.{list_all}
use Rattle.part_cuts.proofs.Told.{all_more, sum_more, sum_within}
use Rattle.part_cuts.proofs.places.add_up_to.Goals as goal

pub returns-then-length-left : goal.returns-then-length-left
returns-then-length-left g c =
    let told = c.args.told.now in let all = list_all g.T.Told.is_length told in let total = sum (map g.T.Told.length_of told) in
    sym (ap (λ b. all && b) (ne_eqb total c.args.len (λ same. omega (
      arith,
      same,
      c.if-length-left.true,
      c.length_of-length.ensures,
      c.loop-part.invariant.left,
      sum_within g.T.Told.length_of told c.loop-part.part-index c.part-item.result c.part-item.result c.loop-part-test.true c.part-item.is,
    )))
    ∙ and-false all)

pub loop-part-preserved : goal.loop-part-preserved
loop-part-preserved g c =
    let told = c.args.told.now in let i = c.loop-part.part-index in let x = c.part-item.result in
    record {
      each = all_more g.T.Told.is_length told i x x c.loop-part-test.true c.part-item.is c.loop-part.invariant.each (sym c.is_length.ensures ∙ c.if-not-is_length.false);
      left = omega (arith, sum_more g.T.Told.length_of told i x x c.loop-part-test.true c.part-item.is, c.loop-part.invariant.left, c.length_of-length.ensures, c.if-length-left.false);
    }
