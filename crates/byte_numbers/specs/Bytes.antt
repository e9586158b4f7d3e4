-- Bytes as integers, and integers that are bytes.
-- Source: C's conversions of `unsigned char`; that a number outside is a fault, and which, is this library's profile.
use Rattle.std.specs.Prelude.{◌≡◌, ℕ, ℤ, pos, negsuc, Bool, true, false, nat_lt, if◌then◌else◌, List, map, unsigned_abs}
use Rattle.std.specs.Prelude.{Option, Some, None, Result, EachIndex, slice_index_or}
use Rattle.cvl_base.specs.declared.fault.Fault.{Fault}
use Rattle.cvl_base.specs.declared.fault.FaultNo.TheVariants.{Overflow}
use Rattle.cvl_base.specs.Elementwise.{values_from}

-- each byte as an integer from 0 to 255
abbrev pub ints_from_bytes : List ℕ → List ℤ
ints_from_bytes bytes = map pos bytes

-- whether it is one of the numbers 0 to 255
abbrev pub is_byte : ℤ → Bool
is_byte (pos n) = nat_lt n 256
is_byte (negsuc n) = false

-- the byte that a number is, if it is one
abbrev pub byte_of : ℤ → Option ℕ
byte_of i = if is_byte i then Some (unsigned_abs i) else None

-- all bytes, or the fault of the first number that is none
abbrev pub bytes_from_ints_of : List ℤ → Result (List ℕ) Fault
bytes_from_ints_of xs = values_from Overflow 0 (map byte_of xs)

-- all of them are bytes
abbrev pub AreBytes : List ℤ → Type 0
AreBytes xs = EachIndex xs (λ k. is_byte (slice_index_or xs k (pos 0)) ≡ true)
