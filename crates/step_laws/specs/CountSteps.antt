-- The steps of counts in parts.
-- Source: CVL's count; the parts are this library's.
use Rattle.std.specs.Prelude.{ℕ, ℤ, pos, Ok}
use Rattle.cvl_base.specs.Packs.{count_of}
use Rattle.step_laws.specs.Parts.{Part, TellsAlone}
use Rattle.c_calls.specs.Calls.{in_limit}
use Rattle.c_calls.specs.Told.{Told, done}
use Rattle.flag_calls.specs.Flags.{flags_of}

-- a part counts its true flags, which come as bytes
abbrev pub Counts : Part ℕ ℤ ℤ → Part ℕ ℤ ℤ → Type 0
Counts own left =
    Told (in_limit own.elements (Ok (pos (count_of (flags_of own.elements))))) done own.told left.told × TellsAlone own left
