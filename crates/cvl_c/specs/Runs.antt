-- Neighbours that differ, where booleans come as bytes.
-- Source: the conversion to bool of C.
use Rattle.std.specs.Prelude.{ℕ, Bool}
use Rattle.cvl_base.specs.Booleans.{differ}
use Rattle.flag_calls.specs.Flags.{flag_of}

-- whether one of two bytes is true, and the other is not
abbrev pub flags_differ : ℕ → ℕ → Bool
flags_differ a b = differ (flag_of a) (flag_of b)
