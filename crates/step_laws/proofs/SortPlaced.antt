-- What the parts of a sort write before the passes and behind them.
use Rattle.std.proofs.Common.{◌≡◌, ◌∙◌, ℕ, ◌+◌, ◌≤◌, ℤ, All, List, [], ◌∷◌, ◌++◌, ap, arith, length, length-append, map, refl, sym}
use Rattle.std.specs.List.{AllZip, enumerate_from}
use Rattle.std.proofs.lemmas.List.{length-map}
use Rattle.std.proofs.lemmas.List.Elements.{All-cons, All-head, All-nil, All-tail}
use mathlib.Core.List.{map-map}
use Rattle.cvl_base.specs.Limits.{most_places}
use Rattle.cvl_base.specs.Lists.{joined}
use Rattle.stable_sorts.proofs.InParts.{placed_all_blocks}
use Rattle.stable_sorts.specs.InParts.{placed_in_blocks}
use Rattle.stable_sorts.specs.Placed.{with_key, with_value, with_values}
use Rattle.stable_sorts.specs.declared.keys.Placed.{Placed}
use Rattle.step_laws.proofs.Parted.{alike_where}
use Rattle.step_laws.proofs.PlaceByPlace.{joined-map}
use Rattle.step_laws.specs.Parts.{HaveRooms, Part, elements_of, room_of}
use Rattle.step_laws.specs.SortParts.{HasBothRooms, ValuesPart, keys_of, placed_of, places_from, values_of}
use Rattle.step_laws.specs.SortSteps.{PlacesKeys, PlacesValues, Reads, ReadsBoth}

-- ---- keys beside their places

keyed : (before : ℕ) (start placed : List (Part ℤ ℕ Placed)) → before + length (elements_of start) ≤ most_places
    → map (λ p. p.before) start ≡ places_from before (map (λ p. p.elements) start) → HaveRooms start → AllZip PlacesKeys start placed
    → room_of placed ≡ placed_in_blocks before (map (λ p. p.elements) start)
keyed before [] [] few places rooms zipped = refl
keyed before [] (q ∷ placed) few places rooms zipped = absurd zipped
keyed before (p ∷ start) [] few places rooms zipped = absurd zipped
keyed before (p ∷ start) (q ∷ placed) few places rooms (first, others) =
    let listed : p.before ∷ map (λ r. r.before) start ≡ before ∷ places_from (before + length p.elements) (map (λ r. r.elements) start) = places in
    let here : p.before ≡ before = cc in
    let behind : map (λ r. r.before) start ≡ places_from (before + length p.elements) (map (λ r. r.elements) start) = cc in
    let both = length-append p.elements (elements_of start) in
    let has_room = λ (r : Part ℤ ℕ Placed). length r.room ≡ length r.elements in
    let makes = first.0.1 in
    let written : q.room ≡ map with_key (enumerate_from before p.elements) =
    makes.written (makes.is_done (All-head has_room p start rooms, omega (arith, few, both, here))) ∙ ap (λ n. map with_key (enumerate_from n p.elements)) here in
    ap (λ r. r ++ room_of placed) written
    ∙ ap (λ r. map with_key (enumerate_from before p.elements) ++ r)
    (keyed (before + length p.elements) start placed (omega (arith, few, both)) behind (All-tail has_room p start rooms) others)

pub keys_placed : (start placed : List (Part ℤ ℕ Placed)) → length (elements_of start) ≤ most_places
    → map (λ p. p.before) start ≡ places_from 0 (map (λ p. p.elements) start) → HaveRooms start → AllZip PlacesKeys start placed
    → room_of placed ≡ map with_key (enumerate_from 0 (elements_of start))
keys_placed start placed few places rooms zipped =
    keyed 0 start placed (omega (arith, few)) places rooms zipped ∙ placed_all_blocks 0 (map (λ p. p.elements) start)

-- what holds of keys holds of keys beside their places
pub of_placed_keys : (P : ℤ → Type 0) (first : ℕ) (keys : List ℤ) → All P keys → All (λ (p : Placed). P p.key) (map with_key (enumerate_from first keys))
of_placed_keys P first [] holds = All-nil (λ (p : Placed). P p.key)
of_placed_keys P first (key ∷ keys) holds =
    All-cons (λ (p : Placed). P p.key) (with_key (first, key)) (map with_key (enumerate_from (first + 1) keys)) (All-head P key keys holds)
    (of_placed_keys P (first + 1) keys (All-tail P key keys holds))

pub length-placed : (first : ℕ) (keys : List ℤ) → length (map with_key (enumerate_from first keys)) ≡ length keys
length-placed first [] = refl
length-placed first (key ∷ keys) = omega (arith, length-placed (first + 1) keys)

-- ---- keys beside their values

abbrev pub keys_in : List (ℤ × ℤ) → List ℤ
keys_in es = map (λ e. e.0) es

abbrev pub values_in : List (ℤ × ℤ) → List ℤ
values_in es = map (λ e. e.1) es

module _ (turned : ℤ → ℤ) where
  pub each_value : (es : List (ℤ × ℤ)) → with_values turned (keys_in es) (values_in es) ≡ map (with_value turned) es
  each_value [] = refl
  each_value (e ∷ es) = ap (λ ps. with_value turned e ∷ ps) (each_value es)

  pub values_placed : (start placed : List (Part (ℤ × ℤ) ℕ Placed)) → HaveRooms start → AllZip (PlacesValues turned) start placed
      → room_of placed ≡ with_values turned (keys_in (elements_of start)) (values_in (elements_of start))
  values_placed start placed rooms zipped =
      let written : map (λ p. p.room) placed ≡ map (λ p. map (with_value turned) p.elements) start =
      alike_where (PlacesValues turned) (λ p. length p.room ≡ length p.elements) (λ p. map (with_value turned) p.elements) (λ p. p.room)
      (λ own left does long.
      let makes = does.0.1 in
      let keys_long = length-map own.elements (λ (e : ℤ × ℤ). e.0) in
      let values_long = length-map own.elements (λ (e : ℤ × ℤ). e.1) in
      makes.written (makes.is_done (values_long ∙ sym keys_long, long ∙ sym keys_long)) ∙ each_value own.elements)
      start placed zipped rooms in
      ap joined (written ∙ sym (map-map (map (with_value turned)) (λ (p : Part (ℤ × ℤ) ℕ Placed). p.elements) start))
      ∙ sym (joined-map (with_value turned) (map (λ p. p.elements) start)) ∙ sym (each_value (elements_of start))

  pub of_placed_values : (P Q : ℤ → Type 0) → ((key : ℤ) → P key → Q (turned key)) → (es : List (ℤ × ℤ)) → All P (keys_in es)
      → All (λ (p : Placed). Q p.key) (with_values turned (keys_in es) (values_in es))
  of_placed_values P Q turns [] holds = All-nil (λ (p : Placed). Q p.key)
  of_placed_values P Q turns (e ∷ es) holds =
      All-cons (λ (p : Placed). Q p.key) (with_value turned e) (with_values turned (keys_in es) (values_in es)) (turns e.0 (All-head P e.0 (keys_in es) holds))
      (of_placed_values P Q turns es (All-tail P e.0 (keys_in es) holds))

-- ---- behind the passes

-- what each part writes of its elements is so written of the whole
module _ {P : Type 0} (does : P → P → Type 0) (HasRoom : P → Type 0) (of : P → List Placed) (room : P → List ℤ) (read : Placed → ℤ) where
  written_whole : ((own left : P) → does own left → HasRoom own → room left ≡ map read (of own)) → (start end : List P) → All HasRoom start → AllZip does start end
      → joined (map room end) ≡ map read (joined (map of start))
  written_whole writes start end rooms zipped =
      ap joined (alike_where does HasRoom (λ p. map read (of p)) room writes start end zipped rooms ∙ sym (map-map (map read) of start))
      ∙ sym (joined-map read (map of start))

pub all_read : (read : Placed → ℤ) (start end : List (Part Placed ℕ ℤ)) → HaveRooms start → AllZip (Reads read) start end
    → room_of end ≡ map read (elements_of start)
all_read read =
    written_whole (Reads read) (λ p. length p.room ≡ length p.elements) (λ p. p.elements) (λ p. p.room) read
    (λ own left does long. let makes = does.0.1 in makes.written (makes.is_done long))

-- what is done of both rooms
both_written : (turned : ℤ → ℤ) (own left : ValuesPart) → ReadsBoth turned own left → HasBothRooms own
    → (left.keys ≡ map (λ (p : Placed). turned p.key) own.placed) × (left.values ≡ map (λ (p : Placed). p.place) own.placed)
both_written turned own left does rooms =
    let makes = does.0.1 in
    let written = makes.written (makes.is_done rooms) in
    (ap (λ (r : List ℤ × List ℤ). r.0) written, ap (λ (r : List ℤ × List ℤ). r.1) written)

module _ (turned : ℤ → ℤ) (start end : List ValuesPart) (rooms : All HasBothRooms start) (zipped : AllZip (ReadsBoth turned) start end) where
  pub keys_written : keys_of end ≡ map (λ (p : Placed). turned p.key) (placed_of start)
  keys_written =
      written_whole (ReadsBoth turned) HasBothRooms (λ p. p.placed) (λ p. p.keys) (λ p. turned p.key)
      (λ own left does long. (both_written turned own left does long).0) start end rooms zipped

  pub values_written : values_of end ≡ map (λ (p : Placed). p.place) (placed_of start)
  values_written =
      written_whole (ReadsBoth turned) HasBothRooms (λ p. p.placed) (λ p. p.values) (λ p. p.place)
      (λ own left does long. (both_written turned own left does long).1) start end rooms zipped
