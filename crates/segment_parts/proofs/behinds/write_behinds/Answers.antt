use Rattle.std.proofs.Common.{◌≡◌, ◌+◌, ◌-◌, ◌<◌, ◌∙◌, ℕ, IsTrue, [], ap, arith, drop, length, subst, sym, zip}
use Rattle.std.proofs.Math.ListN.{drop_of_length-le}
use Rattle.std.proofs.lemmas.Slice.Zip.{length-zip}
use Rattle.segment_parts.specs.Behinds.{behind_each, goes_on}
use Rattle.segment_parts.proofs.BehindEach.{goes_on_before, written_before}
use Rattle.segment_parts.proofs.behinds.write_behinds.Goals as goal

pub loop-left-init : goal.loop-left-init
loop-left-init g c =
    let m = g.M.Monoid in let starts = c.args.starts.now in let told = c.args.told.now in
    let none : drop (length told) (zip starts told) ≡ [] = drop_of_length-le (zip starts told) (omega (arith, length-zip starts told)) in
    record {
      within = omega arith;
      item = subst (λ x. IsTrue (m.is_item x)) (sym c.unit-behind.ensures) c.know_laws.ensures.unit_is_item;
      carried = c.unit-behind.ensures ∙ sym (ap (goes_on m.join m.unit) none);
      written = drop_of_length-le c.args.out.now (omega (arith, c.requires.room)) ∙ sym (ap (behind_each m.join m.unit) none);
    }

pub loop-left-preserved : goal.loop-left-preserved
loop-left-preserved g c =
    let m = g.M.Monoid in let starts = c.args.starts.now in let told = c.args.told.now in let so_far = c.loop-left.invariant in let out = c.loop-left.out in
    let k : ℕ = c.loop-left.left - 1 in
    let next : c.loop-left.left ≡ k + 1 = omega (arith, c.loop-left-test.true) in
    let in_told : k < length told = omega (arith, c.loop-left-test.true, so_far.within) in
    let in_starts : k < length starts = omega (arith, in_told, c.requires.starts) in
    let carried = so_far.carried ∙ ap (λ n. goes_on m.join m.unit (drop n (zip starts told))) next in
    record {
      within = omega (arith, in_told);
      item = c.from_front-behind.ensures.item;
      carried = goes_on_before m.join m.unit starts told k in_starts in_told c.loop-left.behind carried c.index-told-left.result c.from_front-behind.result c.index-told-left.is
          c.from_front-behind.ensures.front;
      written = written_before m.join m.unit starts told k in_starts in_told c.loop-left.behind carried out (omega (arith, in_told, c.requires.room, c.loop-left.auto.out))
          (ap (λ n. drop n out) (sym next) ∙ so_far.written ∙ ap (λ n. behind_each m.join m.unit (drop n (zip starts told))) next);
    }
