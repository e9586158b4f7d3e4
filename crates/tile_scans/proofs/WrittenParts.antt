-- A scan of which it is known what stands before each tile, while it is written.
-- Source: what the definitions of Written imply.
use Rattle.tile_scans.proofs.Cited.{◌≡◌, ℕ, ◌+◌, ◌-◌, ◌≤◌, List, ◌++◌, length, take, drop, sym, ap, ◌∙◌, arith, take-add, drop-drop, length_part, part, Stretch, stretch}
use Rattle.tile_scans.specs.Written.{next_of, written_on}

-- what was written of the run is that part of the whole
pub record IsWrittenPart {X : Type 0} (whole : List X) (old now : Stretch X) : Type 0 where
  pub left : now.room ≤ old.room
  pub is : now ≡ stretch old.block old.first (part whole old.first (old.room - now.room)) now.room

module _ {X : Type 0} (whole : List X) (old : Stretch X) (within : old.first + old.room ≤ length whole) where
  pub next_is : (now : Stretch X) → IsWrittenPart whole old now → next_of now ≡ old.first + (old.room - now.room)
  next_is now so_far =
      let first : now.first ≡ old.first = ap (λ s. s.first) so_far.is in
      let long : length now.items ≡ old.room - now.room = ap (λ s. length s.items) so_far.is ∙ length_part whole old.first (old.room - now.room) (omega (arith, within)) in
      omega (arith, first, long)

  pub more_written : (now next : Stretch X) (n : ℕ) → n ≤ now.room → IsWrittenPart whole old now → next ≡ written_on whole n now → (next.room ≡ now.room - n) × IsWrittenPart whole old next
  more_written now next n fits so_far more =
      let k : ℕ = old.room - now.room in
      let at = next_is now so_far in
      let long : length (part whole (next_of now) n) ≡ n = length_part whole (next_of now) n (omega (arith, at, within, so_far.left, fits)) in
      let room : next.room ≡ now.room - n = ap (λ s. s.room) more ∙ ap (λ j. now.room - j) long in
      let all : k + n ≡ old.room - next.room = omega (arith, room, so_far.left, fits) in
      let joined : now.items ++ part whole (next_of now) n ≡ part whole old.first (old.room - next.room) =
      ap (λ (s : Stretch X). s.items ++ part whole (next_of now) n) so_far.is
      ∙ ap (λ p. part whole old.first k ++ part whole p n) at
      ∙ ap (λ ys. part whole old.first k ++ take n ys) (ap (λ p. drop p whole) (omega arith) ∙ sym (drop-drop k old.first whole))
      ∙ sym (take-add k n (drop old.first whole))
      ∙ ap (part whole old.first) all in (
        room,
        record {
          left = omega (arith, room, so_far.left);
          is = more ∙ (λ i. stretch (ap (λ s. s.block) so_far.is i) (ap (λ s. s.first) so_far.is i) (joined i) ((ap (λ s. s.room) (sym more)) i));
        },
      )
