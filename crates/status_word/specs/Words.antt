-- Statuses as words of 64 bits: bits 63 and 62 hold the state (0 silent, 1 sum, 2 prefix), bit 61 the flag, bits 60 to 54 are 0, and
-- bits 53 to 0 hold the value in two's complement.
-- Source: the status words of Merrill and Garland, Single-pass Parallel Prefix Scan with Decoupled Look-back, 2016; the layout is this
-- library's profile.
use Rattle.std.specs.Prelude.{ℕ, suc, ◌+◌, ◌-◌, ◌*◌, ◌/◌, ◌%◌, ◌^◌, Bool}
use Rattle.std.specs.Prelude.{IsTrue, if◌then◌else◌, nat_lt, ◌==◌, ℤ, pos, negsuc, Option, Some, None}
use Rattle.cvl_base.specs.ItemWords.{is_word}
use Rattle.status_word.specs.declared.status.Status.{Status}
use Rattle.status_word.specs.declared.status.Status.TheVariants.{Silent, Sum, Prefix}

-- what one state more adds to a word, and what the flag adds
abbrev pub state_place : ℕ
state_place = 2 ^ 62

-- the value of bit 61, the flag
abbrev pub flag_place : ℕ
flag_place = 2 ^ 61

-- the 54 bits of a value in two's complement, and the value of 54 bits
abbrev pub bits_of : ℤ → ℕ
bits_of (pos n) = n
bits_of (negsuc n) = 2 ^ 54 - suc n

-- the value that 54 bits hold
abbrev pub value_of : ℕ → ℤ
value_of bits = if nat_lt bits (2 ^ 53) then pos bits else negsuc (2 ^ 54 - 1 - bits)

-- the states in their order
abbrev pub state_of : {X : Type 0} → Status X → ℕ
state_of Silent = 0
state_of (Sum flag value) = 1
state_of (Prefix flag value) = 2

-- the bits below the state
abbrev pub rest_of : Bool → ℤ → ℕ
rest_of flag value = (if flag then flag_place else 0) + bits_of value

-- the word of a status
abbrev pub word_of : Status ℤ → ℕ
word_of Silent = 0
word_of (Sum flag value) = state_place + rest_of flag value
word_of (Prefix flag value) = 2 * state_place + rest_of flag value

-- the value of a status lies from -2^53 to 2^53 - 1
abbrev pub FitsWord : Status ℤ → Type 0
FitsWord Silent = Unit {0}
FitsWord (Sum flag value) = IsTrue (is_word value)
FitsWord (Prefix flag value) = IsTrue (is_word value)

-- the flag and the value of the bits below the state; none if a bit between them is 1
abbrev pub read_rest : ℕ → Option (Bool × ℤ)
read_rest rest = if nat_lt (rest % flag_place) (2 ^ 54) then Some (rest / flag_place == 1, value_of (rest % flag_place)) else None

-- the status of a state, a flag and a value; none if the state is none of the three
abbrev pub with_state : ℕ → Option (Bool × ℤ) → Option (Status ℤ)
with_state state None = None
with_state state (Some (flag, value)) =
    if state == 1 then Some (Sum flag value) else (if state == 2 then Some (Prefix flag value) else None)

-- the status of a word, and none for a word that is no status's
abbrev pub read_word : ℕ → Option (Status ℤ)
read_word word = if word == 0 then Some Silent else with_state (word / state_place) (read_rest (word % state_place))
