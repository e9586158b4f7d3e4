-- The first line of a script, by the first line feed.
use Rattle.std.proofs.Common.{◌≡◌, ℕ, ◌+◌, ◌<◌, ◌==◌, Bool, true, List, [], ◌∷◌, Some, None, length, take, drop, map, position, nat_lt, ap, arith}
use Rattle.std.specs.List.{position_or_len}
use Rattle.std.specs.Str.Lines.{strip_carriage_return}
use Rattle.std.proofs.lemmas.Bool.{ltb-true, ltb-false}
use Rattle.std.proofs.lemmas.Option.{cond_some}
use Rattle.std.proofs.lemmas.List.Splits.{slice_split_first, slice_split_none}
use Rattle.std.proofs.lemmas.List.Sums.{fails_before_first}
use Rattle.cvl_base.proofs.Lists.{not_found}
use Rattle.script_runs.specs.Meaning.{lines_of}

pub last_line : (script : List ℕ) → position (λ b. b == 10) script ≡ None → lines_of script ≡ strip_carriage_return script ∷ []
last_line script e =
    let p : ℕ → Bool = λ b. b == 10 in
    let behind = ltb-false (position_or_len p script) (length script) (not_found _ (position_or_len p script) e) in
    ap (map strip_carriage_return) (slice_split_none p script (λ k d lt. fails_before_first p script k d (omega arith)))

pub first_line : (script : List ℕ) (at : ℕ) → position (λ b. b == 10) script ≡ Some at → lines_of script ≡ strip_carriage_return (take at script) ∷ lines_of (drop (at + 1) script)
first_line script at e =
    let p : ℕ → Bool = λ b. b == 10 in
    let w : (nat_lt (position_or_len p script) (length script) ≡ true) × (position_or_len p script ≡ at) = cond_some _ _ at e in
    let within : position_or_len p script < length script = ltb-true _ _ w.0 in
    ap (map strip_carriage_return) (rw w.1 at (slice_split_first p script 0 within))
