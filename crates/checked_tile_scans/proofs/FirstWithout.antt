-- The first of some numbers that doesn't fit 32 bits, found while the numbers are written.
-- Source: what the definitions of Checked and CheckedSums imply.
use Rattle.checked_tile_scans.proofs.Cited.{◌≡◌, ◌∙◌, ◌+◌, ◌-◌, ◌<◌, ◌≤◌, ◌∷◌, ◌++◌, if◌then◌else◌, refl, sym, ap, ℕ, Bool, true, false, ℤ, pos, List, [], length, map, take, get_or, arith, Option}
use Rattle.checked_tile_scans.proofs.Cited.{Some, None, Ok, Err, get_or-map, length-map, none-some, number_words, fitting, values_from, fault_at, wrap, is_number, first_without, part, IsWrittenPart}
use Rattle.checked_tile_scans.proofs.Cited.{next_is, option_or, drop_more, same_Some, Overflow, ◌>>=◌, next_of, more_written}
use Rattle.fresh.specs.Places.{Stretch, stretch, with_items}
use Rattle.fresh.proofs.FirstWithout.{found_in_both}

part_one : {X : Type 0} (whole : List X) (place : ℕ) (d x : X) → place < length whole → x ≡ get_or whole place d → x ∷ [] ≡ part whole place 1
part_one whole place d x lt is = ap (λ y. y ∷ []) is ∙ ap (take 1) (sym (drop_more whole place d lt))

-- the step of a walk that has found the first of n items, and looks at one more
pub found_more : {X : Type 0} (whole : List (Option X)) (first n place : ℕ) (v : Option X) (found now : Option ℕ) → first + n < length whole → place ≡ first + n → v ≡ get_or whole (first + n) None
    → found ≡ first_without first (part whole first n) → now ≡ option_or found (first_without place (v ∷ [])) → now ≡ first_without first (part whole first (n + 1))
found_more whole first n place v found now lt is_place is_v is_found is_now =
    let one : n + 1 - n ≡ 1 = omega arith in
    is_now
    ∙ (λ i. option_or (is_found i) (first_without (is_place i) (part_one whole (first + n) None v lt is_v i)))
    ∙ sym (found_in_both whole first n (n + 1) (omega arith) ∙ ap (λ k. option_or (first_without first (part whole first n)) (first_without (first + n) (part whole (first + n) k))) one)

pub found_within : {X : Type 0} (place w : ℕ) (vs : List (Option X)) → first_without place vs ≡ Some w → w < place + length vs
found_within place w [] is = absurd (none-some w is)
found_within place w (None ∷ vs) is = let same : place ≡ w = same_Some place w is in omega (arith, same)
found_within place w (Some x ∷ vs) is = omega (arith, found_within (place + 1) w vs is)

-- ---- what it means

pub fails_first : (n p : ℕ) (vs : List (Option ℤ)) → first_without n vs ≡ Some p → values_from Overflow n vs ≡ Err (fault_at Overflow p)
fails_first n p [] is = absurd (none-some p is)
fails_first n p (None ∷ vs) is = ap (λ q. Err (fault_at Overflow q)) (same_Some n p is)
fails_first n p (Some z ∷ vs) is = ap (λ r. r >>= λ ys. Ok (z ∷ ys)) (fails_first (n + 1) p vs is)

fits_here : (b : Bool) (n : ℕ) (z : ℤ) (zs : List ℤ) → is_number z ≡ b → first_without n ((if b then Some z else None) ∷ map fitting zs) ≡ None
    → (first_without (n + 1) (map fitting zs) ≡ None → values_from Overflow (n + 1) (map fitting zs) ≡ Ok (map wrap zs))
    → values_from Overflow n ((if b then Some z else None) ∷ map fitting zs) ≡ Ok (wrap z ∷ map wrap zs)
fits_here true n z zs number is others =
    ap (λ r. r >>= λ ys. Ok (z ∷ ys)) (others is) ∙ ap (λ y. Ok (y ∷ map wrap zs)) (sym (number_words.inverse z number))
fits_here false n z zs number is others = absurd (none-some n (sym is))

pub all_fit : (n : ℕ) (zs : List ℤ) → first_without n (map fitting zs) ≡ None → values_from Overflow n (map fitting zs) ≡ Ok (map wrap zs)
all_fit n [] is = refl
all_fit n (z ∷ zs) is = fits_here (is_number z) n z zs refl is (all_fit (n + 1) zs)

-- ---- the numbers, wrapped to 32 bits, while they are written

module _ (zs : List ℤ) (old : Stretch ℤ) (within : old.first + old.room ≤ length (map wrap zs)) where
  -- the next one is the number at the run's next place
  pub one_more_written : (now next : Stretch ℤ) (x : ℤ) → 0 < now.room → IsWrittenPart (map wrap zs) old now → x ≡ wrap (get_or zs (next_of now) (pos 0))
      → next ≡ stretch now.block now.first (now.items ++ x ∷ []) (now.room - 1) → (next.room ≡ now.room - 1) × IsWrittenPart (map wrap zs) old next
  one_more_written now next x some so_far is pushed =
      let place : ℕ = next_of now in
      let at = next_is (map wrap zs) old within now so_far in
      let inside : place < length (map wrap zs) = omega (arith, at, within, so_far.left, some) in
      let here = part_one (map wrap zs) place (pos 0) x inside (is ∙ sym (get_or-map wrap zs place (pos 0) (pos 0) (omega (arith, inside, length-map zs wrap)))) in
      more_written (map wrap zs) old within now next 1 (omega (arith, some)) so_far (pushed ∙ ap (with_items now) here)
