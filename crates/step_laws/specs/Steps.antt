-- A step of a call in parts. Each part writes what is its own and reads, besides that, only what no part of the step writes. So parts that
-- run at the same time leave what they leave if they run one after another, in some order.
-- Source: Valiant, A Bridging Model for Parallel Computation, 1990: a step begins after the one before.
use Rattle.std.specs.Prelude.{◌≡◌, ◌==◌, ◌<◌, ℕ, List, [], ◌∷◌, length, slice_get, Some}
use Rattle.std.specs.List.{count_by, slice_set}

-- each of n numbers stands once in an order
abbrev pub EachOnce : ℕ → List ℕ → Type 0
EachOnce n order = (k : ℕ) → k < n → count_by (λ j. j == k) order ≡ 1

module _ {S : Type 0} (does : S → S → Type 0) where
  -- the parts that an order names are run one after another; `does` relates what a part has of its own to what it leaves
  abbrev pub RunIn : List ℕ → List S → List S → Type 0
  RunIn [] before after = after ≡ before
  RunIn (k ∷ order) before after =
      (own : S) × (left : S) × (slice_get before k ≡ Some own) × does own left × RunIn order (slice_set before k left) after

  -- a step: all parts are run, each once
  abbrev pub InParts : List S → List S → Type 0
  InParts before after = (order : List ℕ) × EachOnce (length before) order × RunIn order before after
