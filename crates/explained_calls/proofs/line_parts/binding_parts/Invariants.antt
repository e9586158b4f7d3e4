use Rattle.std.proofs.Common.{◌≡◌, ◌+◌, drop}
use Rattle.std.specs.List.{after_first, position_or_len}
use Rattle.explained_calls.specs.Misplaced.{is_equals}
use Rattle.explained_calls.proofs.line_parts.binding_parts.Given as goal

abbrev pub invariant-loop-names : goal.invariant-loop-names
invariant-loop-names l =
    (position_or_len (λ token. is_equals token.bytes) l.tokens ≡ l.names + position_or_len (λ token. is_equals token.bytes) (drop l.names l.tokens))
    × (after_first (λ token. is_equals token.bytes) l.tokens ≡ after_first (λ token. is_equals token.bytes) (drop l.names l.tokens))
