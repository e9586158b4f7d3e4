use Rattle.std.proofs.Common.{◌≡◌, ◌<◌, ◌≤◌, ℕ, get_or, length}
use Rattle.part_cuts.specs.White.{white_place}
use Rattle.part_cuts.proofs.white.write_white_places.Given as goal

abbrev pub invariant-loop-k : goal.invariant-loop-k
invariant-loop-k l = record {
  place : l.place ≡ white_place l.text l.parts l.k;
  within : l.place ≤ length l.text;
  placed : (j : ℕ) → j < l.k → get_or l.places j 0 ≡ white_place l.text l.parts j;
}
