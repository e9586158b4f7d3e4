-- Which requests for memory are refused, counted from 0.
-- Source: this library's own test allocator.
use Rattle.std.specs.Prelude.{ℕ, Bool, false, ◌==◌, not, nat_lt}
use Rattle.refusing_memory.specs.declared.rule.Refusal.{Refusal}
use Rattle.refusing_memory.specs.declared.rule.Refusal.TheVariants.{Never, Only, From}

-- whether the request of this number is refused: none, that of number k alone, or all but those before number k
abbrev pub refuses_at : Refusal → ℕ → Bool
refuses_at Never request = false
refuses_at (Only k) request = request == k
refuses_at (From k) request = not (nat_lt request k)
