use Rattle.std.proofs.Common.{◌≡◌, ◌+◌, ◌++◌, ◌∙◌, length, take, ap, subst, sym, arith}
use Rattle.std.specs.Io.KnownBytes.{Consumes}
use Rattle.std.proofs.KnownBytes.{Consumes-trans}
use Rattle.std.proofs.Math.Seq.{take-append-add}
use Rattle.std.proofs.lemmas.List.{length-append}
use Rattle.shell.proofs.whole_files.fill.Goals as goal

pub loop-filled-preserved : goal.loop-filled-preserved
loop-filled-preserved g c =
    let front = c.split_at_mut-left.result.0.now in
    let read = c.read.new.buf in
    let n = c.in-Ok.count in
    let left = c.split_at_mut-left.ensures in
    let filled : length front ≡ c.loop-filled.filled = omega (arith, left.front_len) in
    let whole : take (c.loop-filled.filled + n) (front ++ read) ≡ front ++ take n read = ap (λ k. take (k + n) (front ++ read)) (sym filled) ∙ take-append-add front read n in
    record {
      from = omega (arith, c.loop-filled.invariant.from);
      within = omega (arith, length-append front read, filled, c.in-Ok.ensures.bound);
      as_long = omega (arith, length-append front read, filled, left.back_len, c.loop-filled.invariant.as_long);
      bytes = λ before had. subst (Consumes before _) (sym whole)
          (Consumes-trans before _ _ front (take n read) (subst (Consumes before _) (sym left.front) (c.loop-filled.invariant.bytes before had)) c.in-Ok.ensures.bytes.0);
    }
