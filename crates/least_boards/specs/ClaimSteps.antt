-- What a step on the claim word of any board shows its seat.
-- Source: the tile counter of Merrill and Garland, Single-pass Parallel Prefix Scan with Decoupled Look-back, 2016.
use Rattle.std.specs.Prelude.{◌≡◌, ℕ, ◌<◌, nat_lt, if◌then◌else◌}
use Rattle.atomic_table.specs.Table.{Me, Step}
use Rattle.status_word.specs.declared.pass.Hand.{Hand}
use Rattle.status_word.specs.Hands.{hand_done, hand_given, times}

-- on a board with so many tiles, a claim that found this number in the claim word: a tile, or none is left
abbrev pub after_claim : {P : Type 0} → ((Hand → Hand) → P → P) → ℕ → P → ℕ → P
after_claim on_hand tiles p found = if nat_lt found tiles then on_hand (λ h. hand_given h found) p else on_hand hand_done p

-- the tile was not given to this seat before
abbrev pub ClaimGives : {P : Type 0} → (P → Hand) → ((Hand → Hand) → P → P) → (P → ℕ) → Step (Unit {0}) → Me (Unit {0}) P → ℕ
    → Me (Unit {0}) P → Type 0
ClaimGives hand on_hand tiles s me found after = (after ≡ (after_claim on_hand (tiles me.0) me.0 found, me.1))
    × (found < tiles me.0 → times found (hand me.0).given ≡ 0)
