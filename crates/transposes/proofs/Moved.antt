-- From column to column, from block to block and from band to band, and what is then in the whole.
use Rattle.std.proofs.Common.{◌≡◌, ◌∙◌, ℕ, ◌+◌, ◌-◌, ◌*◌, ◌<◌, ◌≤◌, ◌⊎◌, inl, inr, List, get_or, refl, ap, arith}
use Rattle.std.proofs.lemmas.Bool.Decides.{leb_tells}
use Rattle.transposes.specs.Transposes.{IsTransposedIn}
use Rattle.std.proofs.Common.{sym}
use Rattle.std.proofs.Math.Nat.{mul-le-mul_left}
use Rattle.transposes.proofs.Shapes.{row_before}

-- nothing is moved yet
pub moved_none : {X : Type 0} (rows columns from top bottom left : ℕ) (xs out : List X) → IsTransposedIn rows columns from top bottom left left xs out out
moved_none rows columns from top bottom left xs out = record {
  moved = λ r c d after before at under. absurd (omega arith);
  other_rows = λ r c d lt other. refl;
  other_columns = λ r c d lt other. refl;
}

pub moved_no_rows : {X : Type 0} (rows columns from top left right : ℕ) (xs out : List X) → IsTransposedIn rows columns from top top left right xs out out
moved_no_rows rows columns from top left right xs out = record {
  moved = λ r c d after before at under. absurd (omega arith);
  other_rows = λ r c d lt other. refl;
  other_columns = λ r c d lt other. refl;
}

module _ {X : Type 0} {rows columns from top bottom left c : ℕ} {xs before out : List X} (to : IsTransposedIn rows columns from top bottom left c xs before out)
    (within : bottom ≤ rows) (at : left ≤ c) where
  -- one more column
  module _ (new : List X) (written : (k : ℕ) (d : X) → k < bottom - top → get_or new (c * rows + top + k) d ≡ get_or xs (top * columns + (from + c) + k * columns) d)
      (others : (i : ℕ) (d : X) → (i < c * rows + top) ⊎ (c * rows + top + (bottom - top) ≤ i) → get_or new i d ≡ get_or out i d) (order : top ≤ bottom) where
    earlier : (r k : ℕ) (d : X) → r < rows → k < c → get_or new (k * rows + r) d ≡ get_or out (k * rows + r) d
    earlier r k d lt before = others (k * rows + r) d (inl (omega (arith, row_before rows k c r lt before)))

    later : (r k : ℕ) (d : X) → r < rows → c < k → get_or new (k * rows + r) d ≡ get_or out (k * rows + r) d
    later r k d lt behind = others (k * rows + r) d (inr (let h : c + 1 ≤ k = omega arith in omega (arith, mul-le-mul_left rows h, within, order)))

    beside : (r k : ℕ) (d : X) → k ≡ c → (r < top) ⊎ (bottom ≤ r) → get_or new (k * rows + r) d ≡ get_or out (k * rows + r) d
    beside r k d same (inl above) = ap (λ j. get_or new (j * rows + r) d) same ∙ others (c * rows + r) d (inl (omega (arith, above))) ∙ ap (λ j. get_or out (j * rows + r) d) (sym same)
    beside r k d same (inr under) = ap (λ j. get_or new (j * rows + r) d) same ∙ others (c * rows + r) d (inr (omega (arith, under, order))) ∙ ap (λ j. get_or out (j * rows + r) d) (sym same)

    here : (r k : ℕ) (d : X) → k ≡ c → top ≤ r → r < bottom → get_or new (k * rows + r) d ≡ get_or xs (r * columns + (from + k)) d
    here r k d same after before =
        let which : r ≡ top + (r - top) = omega arith in
        ap (λ j. get_or new j d) (ap (λ j. j * rows + r) same ∙ omega (arith, which))
        ∙ written (r - top) d (omega arith)
        ∙ ap (λ j. get_or xs j d) (ap (λ j. top * columns + (from + j) + (r - top) * columns) (sym same) ∙ omega (arith, ap (λ x. x * columns) which))

    pub column_more : IsTransposedIn rows columns from top bottom left (c + 1) xs before new
    column_more = record {
      moved = λ r k d after under at_left below.
          elim (leb_tells c k) [
            | inl h ↦ here r k d (omega (arith, h.1)) after under
            | inr h ↦ earlier r k d (omega arith) h.1 ∙ to.moved r k d after under at_left h.1
          ];
      other_rows = λ r k d lt other.
          elim (leb_tells k c) [
            | inl h ↦ elim (leb_tells c k) [
              | inl g ↦ beside r k d (omega (arith, h.1, g.1)) other ∙ to.other_rows r k d lt other
              | inr g ↦ earlier r k d lt g.1 ∙ to.other_rows r k d lt other
            ]
            | inr h ↦ later r k d lt h.1 ∙ to.other_rows r k d lt other
          ];
      other_columns = λ r k d lt other.
          elim other [
            | inl h ↦ earlier r k d lt (omega (arith, h)) ∙ to.other_columns r k d lt (inl h)
            | inr h ↦ later r k d lt (omega (arith, h)) ∙ to.other_columns r k d lt (inr (omega (arith, h)))
          ];
    }

-- two neighbouring blocks
module _ {X : Type 0} {rows columns from top bottom left middle right : ℕ} {xs before out new : List X}
    (first : IsTransposedIn rows columns from top bottom left middle xs before out)
    (second : IsTransposedIn rows columns from top bottom middle right xs out new)
    (within : bottom ≤ rows) (at : left ≤ middle) (order : middle ≤ right) where
  pub block_more : IsTransposedIn rows columns from top bottom left right xs before new
  block_more = record {
    moved = λ r k d after under at_left below.
        elim (leb_tells middle k) [
          | inl h ↦ second.moved r k d after under h.1 below
          | inr h ↦ second.other_columns r k d (omega arith) (inl h.1) ∙ first.moved r k d after under at_left h.1
        ];
    other_rows = λ r k d lt other. second.other_rows r k d lt other ∙ first.other_rows r k d lt other;
    other_columns = λ r k d lt other.
        elim other [
          | inl h ↦ second.other_columns r k d lt (inl (omega (arith, h))) ∙ first.other_columns r k d lt (inl h)
          | inr h ↦ second.other_columns r k d lt (inr h) ∙ first.other_columns r k d lt (inr (omega (arith, h)))
        ];
  }

-- two neighbouring bands
module _ {X : Type 0} {rows columns from top middle bottom left right : ℕ} {xs before out new : List X}
    (first : IsTransposedIn rows columns from top middle left right xs before out)
    (second : IsTransposedIn rows columns from middle bottom left right xs out new)
    (within : bottom ≤ rows) (at : top ≤ middle) (order : middle ≤ bottom) where
  pub band_more : IsTransposedIn rows columns from top bottom left right xs before new
  band_more = record {
    moved = λ r k d after under at_left below.
        elim (leb_tells middle r) [
          | inl h ↦ second.moved r k d h.1 under at_left below
          | inr h ↦ second.other_rows r k d (omega arith) (inl h.1) ∙ first.moved r k d after h.1 at_left below
        ];
    other_rows = λ r k d lt other.
        elim other [
          | inl h ↦ second.other_rows r k d lt (inl (omega (arith, h))) ∙ first.other_rows r k d lt (inl h)
          | inr h ↦ second.other_rows r k d lt (inr h) ∙ first.other_rows r k d lt (inr (omega (arith, h)))
        ];
    other_columns = λ r k d lt other. second.other_columns r k d lt other ∙ first.other_columns r k d lt other;
  }
