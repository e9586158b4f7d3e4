-- What stands at a place of the list of values, and the part of it that a run gets place by place.
use Rattle.std.proofs.Common.{◌≡◌, ◌∙◌, ℕ, ◌+◌, ◌<◌, ◌≤◌, List, [], ◌∷◌, ◌++◌, length, map, min, get_or, drop, refl, ap, sym, arith}
use Rattle.std.specs.List.{zip}
use Rattle.std.proofs.lemmas.List.{ext_get_or, get_or-map, get_or-take, get_or-drop, length-map}
use Rattle.std.proofs.lemmas.Slice.Zip.{get_or-zip, length-zip}
use Rattle.fresh.specs.Parts.{length_part, part}
use Rattle.fresh.specs.Places.{Stretch, stretch, GoWith}

-- lists of values on the elements of two
pub ruleset zipped = (length-map, length-zip)

pub values_long : {X Y Z : Type 0} (f : X × Y → Z) (xs : List X) (ys : List Y) → length xs ≡ length ys → length (map f (zip xs ys)) ≡ length xs
values_long f xs ys same = omega (arith, same, length-map (zip xs ys) f, length-zip xs ys)

-- lists that are the same place by place
pub all_same : {Z : Type 0} (zs vs : List Z) → length zs ≡ length vs → ((d : Z) (k : ℕ) → k < length zs → get_or zs k d ≡ get_or vs k d) → zs ≡ vs
all_same [] [] as_long each = refl
all_same [] (v ∷ vs) as_long each = absurd (omega arith)
all_same (z ∷ zs) vs as_long each = ext_get_or z (z ∷ zs) vs as_long (each z)

-- values that are each the one at its place are a part of the list
pub part_of_places : {Z : Type 0} (P : ℕ → Z → Type 0) (whole zs : List Z) (first n : ℕ) → first + n ≤ length whole →
    ((place : ℕ) (v : Z) → P place v → (z : Z) → v ≡ get_or whole place z) → GoWith P first n zs → zs ≡ part whole first n
part_of_places {Z} P whole zs first n within at_place gone =
    all_same zs (part whole first n) (gone.count ∙ sym (length_part whole first n within))
    (λ d k lt. at_place (first + k) _ (gone.each k d (omega (arith, gone.count))) d
    ∙ sym (get_or-take n (drop first whole) k d (omega (arith, gone.count)) ∙ get_or-drop first whole k d))

-- a run that was empty has been written with its part of the list
pub whole_run : {Z : Type 0} (whole : List Z) (run written : Stretch Z) → run.items ≡ [] →
    written ≡ stretch run.block run.first (run.items ++ part whole (run.first + length run.items) run.room) 0 →
    written ≡ stretch run.block run.first (part whole run.first run.room) 0
whole_run whole run written empty is =
    let start : run.first + length run.items ≡ run.first = omega (arith, ap length empty) in
    is ∙ λ i. stretch run.block run.first (empty i ++ part whole (start i) run.room) 0

-- so it has been where each value is the one at its place
pub whole_run_of_places : {Z : Type 0} (P : ℕ → Z → Type 0) (whole : List Z) (run written : Stretch Z) → run.items ≡ [] →
    run.first + run.room ≤ length whole → ((place : ℕ) (v : Z) → P place v → (z : Z) → v ≡ get_or whole place z) →
    (zs : List Z) × GoWith P (run.first + length run.items) run.room zs × (written ≡ stretch run.block run.first (run.items ++ zs) 0) →
    written ≡ stretch run.block run.first (part whole run.first run.room) 0
whole_run_of_places P whole run written empty within at_place gone =
    let inside : run.first + length run.items + run.room ≤ length whole = omega (arith, ap length empty) in
    whole_run whole run written empty
    (gone.2 ∙ ap (λ zs. stretch run.block run.first (run.items ++ zs) 0)
    (part_of_places P whole gone.0 (run.first + length run.items) run.room inside at_place gone.1))

-- the operator's value on the elements of three lists at a place stands there
pub value_on_triple : {W X Y Z : Type 0} (f : W → X × Y → Z) (ws : List W) (xs : List X) (ys : List Y) (k : ℕ) (w : W) (x : X) (y : Y)
    (v : Z) → k < length ws → k < length xs → k < length ys → w ≡ get_or ws k w → x ≡ get_or xs k x → y ≡ get_or ys k y →
    v ≡ f w (x, y) → (z : Z) → v ≡ get_or (map (λ (p : W × (X × Y)). f p.0 p.1) (zip ws (zip xs ys))) k z
value_on_triple f ws xs ys k w x y v in_ws in_xs in_ys is_w is_x is_y is_v z =
    let pairs = zip xs ys in
    let in_pairs : k < length pairs = omega (arith, length-zip xs ys) in
    let in_triples : k < length (zip ws pairs) = omega (arith, length-zip ws pairs) in
    let pair : (x, y) ≡ get_or pairs k (x, y) = cc (get_or-zip xs ys k (x, y) in_xs in_ys) in
    let triple : (w, (x, y)) ≡ get_or (zip ws pairs) k (w, (x, y)) = cc (get_or-zip ws pairs k (w, (x, y)) in_ws in_pairs) in
    is_v ∙ ap (λ t. f t.0 t.1) triple ∙ sym (get_or-map (λ t. f t.0 t.1) (zip ws pairs) k (w, (x, y)) z in_triples)

-- each list has the place that the list of their values has
pub place_in_triple : {W X Y Z : Type 0} (f : W → X × Y → Z) (ws : List W) (xs : List X) (ys : List Y) (k : ℕ) →
    k < length (map (λ (p : W × (X × Y)). f p.0 p.1) (zip ws (zip xs ys))) → (k < length ws) × (k < length xs) × (k < length ys)
place_in_triple f ws xs ys k lt =
    let fewer : k < min (length ws) (min (length xs) (length ys)) =
    omega (arith, length-map (zip ws (zip xs ys)) (λ p. f p.0 p.1), length-zip ws (zip xs ys), length-zip xs ys) in
    (omega arith, omega arith, omega arith)
