-- From how many elements or bytes on threads pay, and how many each of them has at least; how many threads one of them starts.
-- Source: measured, on a machine with four processors.
use Rattle.std.specs.Prelude.{ℕ}

-- from how many elements on several threads write a vector
abbrev pub least_shared : ℕ
least_shared = 262144

-- how many elements each of the threads that share a call has at least
abbrev pub least_each : ℕ
least_each = 131072

-- from how many elements of a tile on the length of the vector decides whether workers race
abbrev pub long_tile : ℕ
long_tile = 1024

-- from how many elements on workers race for a scan
abbrev pub least_scanned : ℕ
least_scanned = 262144

-- from how many bytes on workers race for a reduce
abbrev pub least_reduced : ℕ
least_reduced = 1048576

-- from how many elements on workers race for a first fault
abbrev pub least_searched : ℕ
least_searched = 262144

-- how many elements each worker of a race has at least
abbrev pub least_raced : ℕ
least_raced = 131072

-- how many tiles each worker of a race has at least, if tiles are made longer
abbrev pub tiles_each : ℕ
tiles_each = 16

-- from how many bytes on several threads read an input
abbrev pub least_read : ℕ
least_read = 131072

-- how many bytes of a text each thread reads at least
abbrev pub least_read_each : ℕ
least_read_each = 32768

-- from how many bytes on several threads clear the memory for a file
abbrev pub least_cleared : ℕ
least_cleared = 1048576

-- how many bytes each thread clears at least
abbrev pub least_cleared_each : ℕ
least_cleared_each = 262144

-- from how many elements on several threads write the text of a vector
abbrev pub least_written : ℕ
least_written = 32768

-- how many elements each thread writes as text at least
abbrev pub least_written_each : ℕ
least_written_each = 16384

-- up to how many threads one of them starts all others
abbrev pub longest_chain : ℕ
longest_chain = 8
