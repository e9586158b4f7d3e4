use Rattle.std.proofs.Common.{◌≡◌, ◌+◌, ◌≤◌, drop}
use Rattle.explained_inputs.specs.TokenPlaces.{column_behind}
use Rattle.explained_inputs.proofs.token_places.column_at.Given as goal

abbrev pub invariant-loop-byte : goal.invariant-loop-byte
invariant-loop-byte l =
    (column_behind 1 l.before ≡ column_behind l.column (drop l.byte-index l.before)) × (l.column ≤ l.byte-index + 1)
