-- Flags of which one is replaced, as bytes.
-- Source: what the definitions of map and set imply.
use Rattle.std.proofs.Common.{◌≡◌, ◌∙◌, ℕ, zero, suc, ◌<◌, ℤ, pos, Bool, List, [], ◌∷◌, length, map, set, refl, ap, Ok, arith}
use Rattle.std.proofs.lemmas.List.{length-map}
use Rattle.std.proofs.lemmas.Simd.{map-map}
use Rattle.cvl_base.specs.Extracts.{replace_of}
use Rattle.cvl_base.proofs.Extracts.{replace_some}
use Rattle.flag_calls.specs.Flags.{as_bytes, as_flag, byte_of, flag_of, flags_of}

set_byte : (bytes : List ℕ) (place : ℕ) (flag : Bool) → map byte_of (set (flags_of bytes) place flag) ≡ set (map as_flag bytes) place (byte_of flag)
set_byte [] place flag = refl
set_byte (b ∷ bytes) zero flag = ap (λ rest. byte_of flag ∷ rest) (map-map byte_of flag_of bytes)
set_byte (b ∷ bytes) (suc place) flag = ap (λ rest. as_flag b ∷ rest) (set_byte bytes place flag)

pub replaced : (bytes : List ℕ) (index : ℤ) (place : ℕ) (flag : Bool) → index ≡ pos place → place < length bytes
    → as_bytes (replace_of (flags_of bytes) index flag) ≡ Ok (set (map as_flag bytes) place (byte_of flag))
replaced bytes index place flag names within =
    ap as_bytes (replace_some (flags_of bytes) index place flag names (omega (arith, within, length-map bytes flag_of))) ∙ ap Ok (set_byte bytes place flag)
