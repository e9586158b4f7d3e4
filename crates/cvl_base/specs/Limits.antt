-- The limits in faults and types, as numbers.
-- Source: this library's profile.
use Rattle.std.specs.Prelude.{ℕ}

-- the most elements of a vector in a script or a session, and the greatest total of its descriptor: 2^22
abbrev pub most_elements : ℕ
most_elements = 4194304

-- the greatest integer of 32 bits, 2^31 - 1. A vector of a caller in another language has at most as many elements, and segments add up to
-- at most as many, so that a length, and each place, is such an integer.
abbrev pub most_places : ℕ
most_places = 2147483647

-- the most names bound
abbrev pub most_names : ℕ
most_names = 4096

-- the most bytes of a script: 2^20
abbrev pub most_script_bytes : ℕ
most_script_bytes = 1048576

-- the most bytes of a word
abbrev pub most_word_bytes : ℕ
most_word_bytes = 32

-- the longest tile, in elements
abbrev pub longest_tile : ℕ
longest_tile = 65536

-- the most workers
abbrev pub most_workers : ℕ
most_workers = 64
