-- A range of the places of a transpose: what is left of a column, whole columns, and the beginning of one; and what is then in the range.
use Rattle.std.proofs.Common.{◌≡◌, ◌∙◌, ℕ, ◌+◌, ◌-◌, ◌*◌, ◌/◌, ◌<◌, ◌≤◌, inl, inr, min, List, get_or, length, take, drop, ap, arith, length-append, length-take-le, length-drop, get_or-take}
use Rattle.std.proofs.Common.{◌++◌}
use borrow.Rule.Slice.PartMut.{put_mid}
use Rattle.std.proofs.Math.Nat.{div-mul-le_self, lt-div-mul-add, mul-le-mul_left}
use Rattle.std.proofs.lemmas.Bool.Decides.{leb_tells}
use Rattle.std.proofs.lemmas.List.{get_or-append_right, get_or_append_left}
use Rattle.transposes.proofs.Shapes.{row_before}

-- ---- shapes

-- the column of a place that lies in a column
same_column : (rows k c r : ℕ) → r < rows → k * rows ≤ c * rows + r → c * rows + r < k * rows + rows → c ≡ k
same_column rows k c r lt from below = elim (leb_tells k c) [
  | inl h ↦ elim (leb_tells c k) [
    | inl g ↦ omega (arith, h.1, g.1)
    | inr g ↦ let more : k + 1 ≤ c = omega (arith, g.1) in absurd (omega (arith, below, mul-le-mul_left rows more))
  ]
  | inr h ↦ absurd (omega (arith, from, row_before rows c k r lt h.1))
]

-- where the columns of a range of n places lie, which begins in a row of a column: the first `head` places are left of that column, `whole`
-- columns follow, and then less than a column
pub record AreRuns (rows columns column row n head whole : ℕ) : Type 0 where
  pub lt : row < rows
  pub some : 0 < n
  pub fits : column * rows + row + n ≤ rows * columns
  pub head_is : head ≡ min n (rows - row)
  pub whole_is : whole ≡ (n - head) / rows

-- what three walks write to such a range: `middle` is what the second one wrote to the places from `head` up to before `tail`
pub record AreWritten {X : Type 0} (rows columns column row n head whole tail : ℕ) (xs first middle out : List X) : Type 0 where
  pub long : length first ≡ n
  pub middle_long : length middle ≡ whole * rows
  pub tail_is : tail ≡ head + whole * rows
  pub started : (k : ℕ) (d : X) → k < head → get_or first k d ≡ get_or xs (row * columns + column + k * columns) d
  pub turned : (r c : ℕ) (d : X) → 0 ≤ r → r < rows → 0 ≤ c → c < whole → get_or middle (c * rows + r) d ≡ get_or xs (r * columns + (column + 1 + c)) d
  pub ended : (k : ℕ) (d : X) → k < n - tail → get_or out (tail + k) d ≡ get_or xs (column + 1 + whole + k * columns) d
  pub others : (i : ℕ) (d : X) → i < tail → get_or out i d ≡ get_or (put_mid head (tail - head) first middle) i d

below : (rows columns k : ℕ) → k * rows < rows * columns → k < columns
below rows columns k h = elim (leb_tells columns k) [
  | inl g ↦ absurd (omega (arith, h, mul-le-mul_left rows g.1))
  | inr g ↦ g.1
]

module _ {rows columns column row n head whole : ℕ} (cut : AreRuns rows columns column row n head whole) where
  pub head_within : head ≤ n
  head_within = omega (arith, cut.head_is)

  pub head_below : (k : ℕ) → k < head → row + k < rows
  head_below k h = omega (arith, cut.head_is, h, cut.lt)

  pub whole_within : head + whole * rows ≤ n
  whole_within = omega (arith, head_within, ap (λ k. k * rows) cut.whole_is, div-mul-le_self (n - head) rows)

  pub last_short : n < head + whole * rows + rows
  last_short = omega (arith, head_within, ap (λ k. k * rows) cut.whole_is, lt-div-mul-add {a = n - head} {b = rows} (omega (arith, cut.lt)))

  -- a range that goes on behind its first column has that to its end
  ends : head < n → row + head ≡ rows
  ends more = omega (arith, cut.head_is, more, cut.lt)

  pub column_below : column < columns
  column_below = below rows columns column (omega (arith, cut.fits, cut.some))

  pub whole_fits : column + 1 + whole ≤ columns
  whole_fits = elim (leb_tells n head) [
    | inl h ↦
        let none : whole * rows ≡ 0 = omega (arith, whole_within, h.1) in
        let no_column : column + whole < columns = below rows columns (column + whole) (omega (arith, none, cut.fits, cut.some)) in
        omega (arith, no_column)
    | inr h ↦
        let before : column + whole < columns = below rows columns (column + whole) (omega (arith, ends h.1, whole_within, cut.fits, cut.some, cut.lt)) in
        omega (arith, before)
  ]

  pub last_below : head + whole * rows < n → column + 1 + whole < columns
  last_below more = below rows columns (column + 1 + whole) (omega (arith, ends (omega (arith, more)), more, cut.fits))

  module _ {X : Type 0} (first middle : List X) (tail : ℕ) (long : length first ≡ n) (middle_long : length middle ≡ whole * rows)
      (tail_is : tail ≡ head + whole * rows) where
    head_long : length (take head first) ≡ head
    head_long = length-take-le head first (omega (arith, long, head_within))

    pub put_long : length (put_mid head (tail - head) first middle) ≡ n
    put_long = omega (
      arith,
      length-append (take head first) (middle ++ drop (tail - head) (drop head first)),
      head_long,
      length-append middle (drop (tail - head) (drop head first)),
      middle_long,
      length-drop (tail - head) (drop head first),
      length-drop head first,
      long,
      tail_is,
      whole_within,
    )

    in_head : (i : ℕ) (d : X) → i < head → get_or (put_mid head (tail - head) first middle) i d ≡ get_or first i d
    in_head i d h = get_or_append_left (take head first) _ d i (omega (arith, h, head_long)) ∙ get_or-take head first i d h

    in_middle : (i : ℕ) (d : X) → i < whole * rows → get_or (put_mid head (tail - head) first middle) (head + i) d ≡ get_or middle i d
    in_middle i d h =
        get_or-append_right (take head first) (middle ++ drop (tail - head) (drop head first)) head (head + i) d head_long (omega arith)
        ∙ ap (λ k. get_or (middle ++ drop (tail - head) (drop head first)) k d) (omega arith)
        ∙ get_or_append_left middle _ d i (omega (arith, h, middle_long))

  module _ {X : Type 0} {xs first middle out : List X} {tail : ℕ} (to : AreWritten rows columns column row n head whole tail xs first middle out) where
    abbrev lowest : ℕ
    lowest = column * rows + row

    module _ (r c : ℕ) (d : X) (within : r < rows) (from : lowest ≤ c * rows + r) (up_to : c * rows + r < lowest + n) where
      abbrev there : ℕ
      there = c * rows + r - lowest

      turned_first : there < head → get_or out there d ≡ get_or xs (r * columns + c) d
      turned_first h =
          let k = r - row in
          let same : c ≡ column = same_column rows column c r within (omega (arith, from)) (omega (arith, from, h, head_below there h)) in
          let place : there ≡ k = omega (arith, ap (λ j. j * rows) same) in
          let which : r ≡ row + k = omega (arith, from, ap (λ j. j * rows) same) in
          to.others there d (omega (arith, h, to.tail_is)) ∙ in_head first middle tail to.long to.middle_long to.tail_is there d h ∙ ap (λ j. get_or first j d) place
          ∙ to.started k d (omega (arith, h, place))
          ∙ ap (λ j. get_or xs j d) (omega (arith, ap (λ j. j * columns) which, same))

      turned_middle : head ≤ there → there < tail → get_or out there d ≡ get_or xs (r * columns + c) d
      turned_middle h g =
          let full : row + head ≡ rows = ends (omega (arith, h, g, to.tail_is, whole_within)) in
          let past : (column + 1) * rows ≤ c * rows + r = omega (arith, h, full, from) in
          let over : column + 1 ≤ c = elim (leb_tells (column + 1) c) [
            | inl e ↦ e.1
            | inr e ↦ absurd (omega (arith, past, row_before rows c (column + 1) r within e.1))
          ] in
          let k = c - (column + 1) in
          let which : c ≡ column + 1 + k = omega (arith, over) in
          let place : there ≡ head + (k * rows + r) = omega (arith, full, from, ap (λ j. j * rows) which) in
          let few : k < whole = elim (leb_tells whole k) [
            | inl e ↦ absurd (omega (arith, mul-le-mul_left rows e.1, place, g, to.tail_is))
            | inr e ↦ e.1
          ] in
          to.others there d g ∙ ap (λ j. get_or (put_mid head (tail - head) first middle) j d) place
          ∙ in_middle first middle tail to.long to.middle_long to.tail_is (k * rows + r) d (omega (arith, place, g, to.tail_is))
          ∙ to.turned r k d (omega arith) within (omega arith) few
          ∙ ap (λ j. get_or xs j d) (omega (arith, which))

      turned_last : tail ≤ there → get_or out there d ≡ get_or xs (r * columns + c) d
      turned_last h =
          let full : row + head ≡ rows = ends (omega (arith, h, up_to, to.tail_is)) in
          let same : c ≡ column + 1 + whole =
          same_column rows (column + 1 + whole) c r within (omega (arith, h, full, to.tail_is)) (omega (arith, full, up_to, last_short, to.tail_is)) in
          let place : there ≡ tail + r = omega (arith, full, from, to.tail_is, ap (λ j. j * rows) same) in
          ap (λ j. get_or out j d) place ∙ to.ended r d (omega (arith, place, up_to, h))
          ∙ ap (λ j. get_or xs j d) (omega (arith, same))

      pub all_turned : get_or out there d ≡ get_or xs (r * columns + c) d
      all_turned = elim (leb_tells tail there) [
        | inl h ↦ turned_last h.1
        | inr h ↦ elim (leb_tells head there) [
          | inl g ↦ turned_middle g.1 h.1
          | inr g ↦ turned_first g.1
        ]
      ]
