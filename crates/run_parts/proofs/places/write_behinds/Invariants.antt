use Rattle.std.proofs.Common.{◌≡◌, ◌≤◌, drop, length}
use Rattle.std.specs.List.{zip}
use Rattle.run_parts.specs.Places.{last_or, next_begin, run_behinds}
use Rattle.run_parts.proofs.places.write_behinds.Given as goal

abbrev pub invariant-loop-left : goal.invariant-loop-left
invariant-loop-left l =
    let whole = last_or 0 l.from in let pairs = zip l.begins (drop 1 l.from) in
    record {
      within : l.left ≤ length l.begins;
      known : l.next ≡ next_begin whole (drop l.left pairs);
      written : drop l.left l.behinds ≡ run_behinds whole (drop l.left pairs);
    }

abbrev pub decreases-loop-left : goal.decreases-loop-left
decreases-loop-left l = l.left
