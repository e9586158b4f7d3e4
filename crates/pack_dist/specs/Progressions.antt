-- Arithmetic progressions of 32-bit numbers.
-- Source: CVL's index.
use Rattle.std.specs.Prelude.{ℕ, ℤ, pos, ◌+ℤ◌, ◌*ℤ◌, List, map}
use Rattle.std.specs.List.{range_with_len}
use Rattle.cvl_base.specs.Integers.{wrap}

-- init + k * stride for n places k, from one on
abbrev pub numbers_from : ℤ → ℤ → ℕ → ℕ → List ℤ
numbers_from init stride from n = map (λ k. wrap (init +ℤ pos k *ℤ stride)) (range_with_len from n)

-- the same for the first n places
abbrev pub progression : ℤ → ℤ → ℕ → List ℤ
progression init stride n = numbers_from init stride 0 n
