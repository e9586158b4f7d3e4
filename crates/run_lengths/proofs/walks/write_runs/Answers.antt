use Rattle.std.proofs.Common.{◌≡◌, ◌∙◌, ◌+◌, ◌<◌, Bool, true, false, ap, arith, cond, length, of_z, refl, sym, to_z, w32}
use Rattle.std.proofs.lemmas.Int.{to_z-of_z}
use Rattle.run_lengths.proofs.Walked.{in_room, walked_more}
use Rattle.run_lengths.proofs.walks.write_runs.Goals as goal
use mir.Val.{bool_byte}

byte_one : (flag : Bool) → bool_byte flag ≡ cond flag 1 0
byte_one true = refl
byte_one false = refl

pub bounds-out-run : goal.bounds-out-run
bounds-out-run g c = in_room c.loop-k.invariant c.requires.fits

pub loop-k-preserved : goal.loop-k-preserved
loop-k-preserved g c =
    let lt : c.loop-k.k < length c.args.a.now = omega (arith, c.loop-k-test.true) in
    let same : to_z w32 (of_z w32 c.of.result) ≡ c.of.result = grind (arith, to_z-of_z) in
    let begins = c.apply-begins.result in
    walked_more c.loop-k.invariant c.requires.fits c.index-a-k.result lt c.index-a-k.is (to_z w32 (of_z w32 c.of.result)) (same ∙ c.of.ensures) begins (sym c.apply-begins.ensures)
    (c.loop-k.run + c.from-run.result) c.start_of-first.result (ap (λ n. c.loop-k.run + n) (c.from-run.ensures ∙ byte_one begins)) c.start_of-first.ensures
