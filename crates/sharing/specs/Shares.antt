-- How many threads share a call, how a fork cuts them in two, and how many of the items some of them have. No result depends on it.
-- Source: this library's profile.
use Rattle.std.specs.Prelude.{ℕ, ◌*◌, ◌/◌, max, min, nat_le, nat_lt, if◌then◌else◌}
use Rattle.cvl_base.specs.Limits.{most_elements}
use Rattle.sharing.specs.Thresholds.{least_cleared, least_cleared_each, least_each, least_read, least_read_each}
use Rattle.sharing.specs.Thresholds.{least_shared, longest_chain}
use Rattle.sharing.specs.Thresholds.{least_written, least_written_each}

-- how many threads share so many items: as many as can have `each` of them, but at most `most`; one if there are fewer than `least`
abbrev pub share_among : ℕ → ℕ → ℕ → ℕ → ℕ
share_among most items least each = if nat_lt items least then 1 else max (min (items / each) most) 1

-- how many of so many threads, two or more, a fork gives to the thread that it starts: one if they are few, so that one thread starts all
-- others, in turn; else half of them
abbrev pub first_of_two : ℕ → ℕ
first_of_two threads = if nat_le threads longest_chain then 1 else threads / 2

-- how many of so many items the first few of the threads have: as many for each thread, and the last have the rest
abbrev pub share_of_first : ℕ → ℕ → ℕ → ℕ
share_of_first few threads items = items / threads * few

-- the threads, at most `most`, that share the writing of so many elements
abbrev pub writing_threads : ℕ → ℕ → ℕ
writing_threads most elements = share_among most elements least_shared least_each

-- the reading of an input of so many bytes
abbrev pub reading_threads : ℕ → ℕ → ℕ
reading_threads most bytes = share_among most bytes least_read least_read_each

-- the clearing of the memory for a file of so many bytes
abbrev pub clearing_threads : ℕ → ℕ → ℕ
clearing_threads most bytes = share_among most bytes least_cleared least_cleared_each

-- the writing of the texts of so many elements, which one thread writes if there are more than a vector may have
abbrev pub text_threads : ℕ → ℕ → ℕ
text_threads most elements =
    if nat_lt most_elements elements then 1 else share_among most elements least_written least_written_each
