-- The back permute that the definition names, where each element stands at its place.
use Rattle.std.proofs.Common.{◌≡◌, ◌∙◌, ℕ, suc, ◌+◌, ◌*◌, ◌/◌, ◌%◌, ◌<◌, not, List, [], ◌∷◌, length, get_or, inl, inr, map, refl, sym, ap, arith, eq-eqb, pos, slice_get, Option, Some, None}
use Rattle.std.proofs.Common.{Result, Ok, ◌≤◌, drop, take, get_or-drop, get_or-take, length-drop, length-take-le}
use Rattle.std.specs.List.{range_with_len}
use Rattle.std.specs.Option.{ok_or}
use Rattle.std.proofs.Math.Nat.{div-add-mod, mul-le-mul_left}
use Rattle.std.proofs.lemmas.Bool.Decides.{leb_tells}
use Rattle.std.proofs.lemmas.Bool.{le-ltb}
use Rattle.std.proofs.lemmas.List.{get_or-map, get_or_default, length-map, nil_from_length, same_lists}
use Rattle.std.proofs.lemmas.List.FromFn.{get_or-map-range_with_len, length-map-range_with_len}
use Rattle.std.proofs.lemmas.Nat.{mod_below}
use Rattle.std.proofs.lemmas.Option.{slice_get-get_or}
use Rattle.cvl_base.specs.declared.fault.Fault.{Fault}
use Rattle.cvl_base.specs.declared.fault.FaultNo.{FaultNo}
use Rattle.cvl_base.specs.declared.fault.FaultNo.TheVariants.{IndexOutOfRange, LengthMismatch}
use Rattle.cvl_base.specs.Elementwise.{values_from}
use Rattle.cvl_base.specs.Extracts.{element_at}
use Rattle.cvl_base.specs.Faults.{fault, fault_at}
use Rattle.cvl_base.specs.Gives.{◌>>=◌, fault_if}
use Rattle.cvl_base.specs.Permutes.{back_of}
use Rattle.cvl_base.proofs.Lists.{element}
use Rattle.transposes.specs.Transposes.{AreTurned, IsTransposedIn, sources_of, transpose_of, transpose_range_of}
use Rattle.transposes.proofs.Shapes.{element_within}

-- ---- values that are all there

module _ {Y : Type 0} (number : FaultNo) where
  next : (place : ℕ) (v : Option Y) (y : Y) (vs : List (Option Y)) → v ≡ Some y → values_from number place (v ∷ vs) ≡ (values_from number (place + 1) vs >>= λ ys. Ok (y ∷ ys))
  next place v y vs is = ap (λ w. ok_or w (fault_at number place) >>= λ z. values_from number (place + 1) vs >>= λ ys. Ok (z ∷ ys)) is

  all_values : (place : ℕ) (vs : List (Option Y)) (ys : List Y) → length vs ≡ length ys → ((i : ℕ) → i < length ys → get_or vs i None ≡ slice_get ys i) → values_from number place vs ≡ Ok ys
  all_values place [] [] same each = refl
  all_values place [] (y ∷ ys) same each = absurd (omega (arith, same))
  all_values place (v ∷ vs) [] same each = absurd (omega (arith, same))
  all_values place (v ∷ vs) (y ∷ ys) same each =
      next place v y vs (each 0 (omega arith))
      ∙ ap (λ r. r >>= λ zs. Ok (y ∷ zs)) (all_values (place + 1) vs ys (omega (arith, same)) (λ i lt. each (suc i) (omega arith)))

-- so many values, whatever they are
pub record AreThere {Y : Type 0} (meaning : Result (List Y) Fault) (n : ℕ) : Type 0 where
  pub values : List Y
  pub is : meaning ≡ Ok values
  pub long : length values ≡ n

there : {Y : Type 0} (number : FaultNo) (place : ℕ) (vs : List (Option Y)) → ((i : ℕ) → i < length vs → (y : Y) × (get_or vs i None ≡ Some y)) → AreThere (values_from number place vs) (length vs)
there number place [] each = record { values = []; is = refl; long = refl }
there number place (v ∷ vs) each =
    let first = each 0 (omega arith) in
    let rest = there number (place + 1) vs (λ i lt. each (suc i) (omega arith)) in
    record {
      values = first.0 ∷ rest.values;
      is = next number place v first.0 vs first.1 ∙ ap (λ r. r >>= λ ys. Ok (first.0 ∷ ys)) rest.is;
      long = ap suc rest.long;
    }

-- ---- the sources of a transpose

module _ (rows columns i : ℕ) (lt : i < rows * columns) where
  some_rows : 0 < rows
  some_rows = elim (leb_tells 1 rows) [
    | inl h ↦ omega (arith, h.1)
    | inr h ↦ let none : rows ≡ 0 = omega (arith, h.1) in absurd (omega (arith, lt, ap (λ k. k * columns) none))
  ]

  pub row_below : i % rows < rows
  row_below = mod_below i rows some_rows

  pub column_below : i / rows < columns
  column_below = elim (leb_tells columns (i / rows)) [
    | inl h ↦ absurd (omega (arith, lt, mul-le-mul_left rows h.1, div-add-mod i rows))
    | inr h ↦ h.1
  ]

module _ {X : Type 0} (rows columns : ℕ) (xs : List X) (shape : rows * columns ≡ length xs) where
  abbrev source : ℕ → ℕ
  source i = i % rows * columns + i / rows

  source_at : (i : ℕ) → i < rows * columns → get_or (map (element_at xs) (sources_of rows columns)) i None ≡ slice_get xs (source i)
  source_at i lt =
      get_or-map (element_at xs) (sources_of rows columns) i (pos 0) None (omega (arith, lt, length-map-range_with_len (λ k. pos (source k)) 0 (rows * columns)))
      ∙ ap (element_at xs) (get_or-map-range_with_len (λ k. pos (source k)) 0 (rows * columns) i i (pos 0) lt (omega arith))

  sources_many : length (map (element_at xs) (sources_of rows columns)) ≡ rows * columns
  sources_many = length-map (sources_of rows columns) (element_at xs) ∙ length-map-range_with_len (λ k. pos (source k)) 0 (rows * columns)

  source_within : (i : ℕ) → i < rows * columns → source i < length xs
  source_within i lt = omega (arith, shape, element_within rows columns (i % rows) (i / rows) (row_below rows columns i lt) (column_below rows columns i lt))

  called : transpose_of rows columns xs ≡ back_of xs (sources_of rows columns)
  called = ap (λ b. fault_if (not b) (fault LengthMismatch) (back_of xs (sources_of rows columns))) (eq-eqb (rows * columns) (length xs) shape)

  pub transpose_there : AreThere (transpose_of rows columns xs) (length xs)
  transpose_there =
      let all = there IndexOutOfRange 0 (map (element_at xs) (sources_of rows columns))
      (λ i lt. let below : i < rows * columns = omega (arith, lt, sources_many) in let x = element xs (source i) (source_within i below) in (x.0, source_at i below ∙ x.1)) in
      record { values = all.values; is = called ∙ all.is; long = all.long ∙ sources_many ∙ shape }

  pub transpose_is : (before now : List X) → IsTransposedIn rows columns 0 0 rows 0 columns xs before now → length now ≡ length xs → transpose_of rows columns xs ≡ Ok now
  transpose_is before now to long =
      called ∙ all_values IndexOutOfRange 0 (map (element_at xs) (sources_of rows columns)) now (sources_many ∙ shape ∙ sym long)
      (λ i lt.
      let below : i < rows * columns = omega (arith, lt, long, shape) in
      let d = (element xs (source i) (source_within i below)).0 in
      let place : i / rows * rows + i % rows ≡ i = omega (arith, div-add-mod i rows) in
      source_at i below ∙ slice_get-get_or xs (source i) d (source_within i below)
      ∙ ap Some
      (ap (λ k. get_or xs k d) (omega arith)
      ∙ sym (to.moved (i % rows) (i / rows) d (omega arith) (row_below rows columns i below) (omega arith) (column_below rows columns i below)) ∙ ap (λ k. get_or now k d) place)
      ∙ sym (slice_get-get_or now i d lt))

  -- ---- a range of its places

  abbrev turned : (d : X) → List X
  turned d = map (λ i. get_or xs (source i) d) (range_with_len 0 (rows * columns))

  turned_long : (d : X) → length (turned d) ≡ rows * columns
  turned_long d = length-map-range_with_len (λ i. get_or xs (source i) d) 0 (rows * columns)

  turned_at : (d e : X) (i : ℕ) → i < rows * columns → get_or (turned d) i e ≡ get_or xs (source i) d
  turned_at d e i lt = get_or-map-range_with_len (λ k. get_or xs (source k) d) 0 (rows * columns) i i e lt (omega arith)

  transpose_turned : (d : X) → transpose_of rows columns xs ≡ Ok (turned d)
  transpose_turned d =
      called ∙ all_values IndexOutOfRange 0 (map (element_at xs) (sources_of rows columns)) (turned d) (sources_many ∙ sym (turned_long d))
      (λ i lt.
      let below : i < rows * columns = omega (arith, lt, turned_long d) in
      source_at i below ∙ slice_get-get_or xs (source i) d (source_within i below) ∙ ap Some (sym (turned_at d d i below)) ∙ sym (slice_get-get_or (turned d) i d lt))

  in_range : (lowest count : ℕ) (turned : List X) → lowest + count ≤ length xs → transpose_of rows columns xs ≡ Ok turned
      → transpose_range_of rows columns lowest count xs ≡ Ok (take count (drop lowest turned))
  in_range lowest count turned within is =
      ap (λ b. fault_if b (fault LengthMismatch) (transpose_of rows columns xs >>= λ all. Ok (take count (drop lowest all))))
      (le-ltb (length xs) (lowest + count) within)
      ∙ ap (λ r. r >>= λ all. Ok (take count (drop lowest all))) is

  -- no place
  pub no_range : (lowest : ℕ) (now : List X) → lowest + length now ≤ length xs → length now ≡ 0 → transpose_range_of rows columns lowest (length now) xs ≡ Ok now
  no_range lowest now within none =
      let all = transpose_there in
      in_range lowest (length now) all.values within all.is ∙ ap Ok (ap (λ k. take k (drop lowest all.values)) none ∙ sym (nil_from_length now none))

  pub range_is : (lowest : ℕ) (now : List X) → lowest + length now ≤ length xs → 0 < length now → AreTurned rows columns lowest xs now
      → transpose_range_of rows columns lowest (length now) xs ≡ Ok now
  range_is lowest now within some to =
      let d = (element now 0 some).0 in
      let front = drop lowest (turned d) in
      let long : length (take (length now) front) ≡ length now =
      length-take-le (length now) front (omega (arith, length-drop lowest (turned d), turned_long d, shape, within)) in
      in_range lowest (length now) (turned d) within (transpose_turned d)
      ∙ ap Ok
      (same_lists (take (length now) front) now long (λ k e lt.
      let below : k < length now = omega (arith, lt, long) in
      let i = lowest + k in
      let inside : i < rows * columns = omega (arith, below, within, shape) in
      let place : i / rows * rows + i % rows ≡ i = omega (arith, div-add-mod i rows) in
      get_or-take (length now) front k e below ∙ get_or-drop lowest (turned d) k e ∙ turned_at d e i inside
      ∙ get_or_default xs (source i) d e (source_within i inside)
      ∙ sym (to (i % rows) (i / rows) e (row_below rows columns i inside) (omega (arith, place)) (omega (arith, place, below)))
      ∙ ap (λ j. get_or now j e) (omega (arith, place))))
