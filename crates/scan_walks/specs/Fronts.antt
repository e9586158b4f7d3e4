-- Which results of a checked scan fit 32 bits.
-- Source: the fault of a checked scan is that of the first result that doesn't fit, which is this library's profile.
use Rattle.std.specs.Prelude.{◌≡◌, ℕ, ◌<◌, ℤ, ◌+ℤ◌, List, length, Result, MatchResult}
use Rattle.std.specs.List.{prefix_len}
use Rattle.cvl_base.specs.Folds.{fold_of, scan_of}
use Rattle.cvl_base.specs.ItemWords.{is_number}

-- how many numbers of a list fit 32 bits, from the first one on
abbrev pub fitting_front : List ℤ → ℕ
fitting_front zs = prefix_len is_number zs

-- the answer of a walk that adds each number to what stands before it: the sum of all, or the place of the first one before which the sum
-- does not fit 32 bits
abbrev pub IsWalked : ℤ → List ℤ → Result ℤ ℕ → Type 0
IsWalked before xs answer =
    MatchResult answer
    (λ sum. (fitting_front (scan_of ◌+ℤ◌ before xs) ≡ length xs) × (sum ≡ fold_of ◌+ℤ◌ before xs))
    (λ place. (place ≡ fitting_front (scan_of ◌+ℤ◌ before xs)) × (place < length xs))

-- the most elements of a block, whose sums are tested together
abbrev pub most_of_block : ℕ
most_of_block = 512
