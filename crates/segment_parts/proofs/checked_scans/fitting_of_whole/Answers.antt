use Rattle.std.proofs.Common.{arith}
use Rattle.segment_parts.proofs.CheckedScanned.{front-within, looked_at, looked_at_none, looked_past}
use Rattle.segment_parts.proofs.checked_scans.fitting_of_whole.Goals as goal

pub returns-in-Ok-clause-front : goal.returns-in-Ok-clause-front
returns-in-Ok-clause-front c =
    looked_past c.args.lengths.now c.args.a.now c.requires c.checked_seg_scan_over.new.out c.in-Ok.ensures

pub returns-in-Some-clause-front : goal.returns-in-Some-clause-front
returns-in-Some-clause-front c =
    looked_at c.args.lengths.now c.args.a.now c.requires c.in-Err.fault c.in-Some.place c.in-Err.ensures.0 c.in-Some.is

pub returns-in-Some-clause-within : goal.returns-in-Some-clause-within
returns-in-Some-clause-within c =
    let is = looked_at c.args.lengths.now c.args.a.now c.requires c.in-Err.fault c.in-Some.place c.in-Err.ensures.0 c.in-Some.is in
    omega (arith, is, front-within c.args.lengths.now c.args.a.now c.requires)

pub returns-in-None-clause-front : goal.returns-in-None-clause-front
returns-in-None-clause-front c =
    looked_at_none c.args.lengths.now c.args.a.now c.requires c.in-Err.fault c.in-Err.ensures.0 c.in-None.is
