-- Flags that come as bytes: a byte that isn't 0 is true, and results are 0 and 1.
-- Source: the conversion to bool of C.
use Rattle.std.specs.Prelude.{ℕ, ℤ, pos, ◌==◌, nat_lt, Bool, true, false, not, List, map, Result, Ok}
use Rattle.std.specs.List.{zip}
use Rattle.cvl_base.specs.declared.fault.Fault.{Fault}
use Rattle.cvl_base.specs.Elementwise.{chosen, if_as_long}
use Rattle.cvl_base.specs.Extracts.{extract_of}
use Rattle.cvl_base.specs.Gives.{◌>>=◌}
use Rattle.cvl_base.specs.Packs.{count_of}

-- whether a byte is 0 or 1
abbrev pub is_flag : ℕ → Bool
is_flag byte = nat_lt byte 2

-- whether a byte is true
abbrev pub flag_of : ℕ → Bool
flag_of byte = not (byte == 0)

-- the booleans of bytes
abbrev pub flags_of : List ℕ → List Bool
flags_of bytes = map flag_of bytes

-- the byte of a boolean
abbrev pub byte_of : Bool → ℕ
byte_of true = 1
byte_of false = 0

-- how many bytes are true, as an integer
abbrev pub count_in : List ℕ → ℤ
count_in bytes = pos (count_of (flags_of bytes))

-- the byte 1 for each that is true, and 0 for each other
abbrev pub as_flag : ℕ → ℕ
as_flag byte = byte_of (flag_of byte)

-- booleans, as bytes
abbrev pub as_bytes : Result (List Bool) Fault → Result (List ℕ) Fault
as_bytes meaning = meaning >>= λ flags. Ok (map byte_of flags)

-- bytes as flags: 1 if true, 0 if not
abbrev pub made_flags : Result (List ℕ) Fault → Result (List ℕ) Fault
made_flags meaning = meaning >>= λ bytes. Ok (map as_flag bytes)

-- the flag of the byte at an index
abbrev pub extract_flag_of : List ℕ → ℤ → Result Bool Fault
extract_flag_of bytes index = extract_of bytes index >>= λ byte. Ok (flag_of byte)

-- at each place the first of two elements if the byte passes the test, else the second, through an operator
abbrev pub choose_by : {X : Type 0} → (ℕ → Bool) → (X → X) → List ℕ → List X → List X → Result (List X) Fault
choose_by test operator bytes xs ys =
    if_as_long bytes xs (if_as_long bytes ys (Ok (map (λ p. operator (chosen (test p.0) p.1)) (zip bytes (zip xs ys)))))
