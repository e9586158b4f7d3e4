-- Entries whose columns are places of a vector: of all rows, and of the columns alone.
use Rattle.sparse_products.proofs.Cited.{◌≡◌, ℕ, ◌+◌, true, ℤ, List, [], ◌∷◌, ◌++◌, length, take, drop, map, refl, sym, ap, ◌∙◌, arith, Option, None, ◌&&◌, if◌then◌else◌, sum, list_all, zip}
use Rattle.sparse_products.proofs.Cited.{length-drop, nil_from_length, take-append-drop, cut_of, is_place, sum-cons, first_outside, outside, are_within, row_value, row_total}
use Rattle.std.proofs.lemmas.Bool.{and_from, and_parts}
use Rattle.std.proofs.lemmas.List.Folds.{list_all-append}
use Rattle.permute_walks.proofs.Outside.{inside_first, passed}

-- ---- the columns alone

pub none_outside : (place places : ℕ) (columns values : List ℤ) → length values ≡ length columns → are_within places (zip columns values) ≡ true → None ≡ first_outside place places columns
none_outside place places [] values as_many inside = refl
none_outside place places (c ∷ columns) [] as_many inside = absurd (omega (arith, as_many))
none_outside place places (c ∷ columns) (v ∷ values) as_many inside =
    let parts = and_parts (is_place places c) (are_within places (zip columns values)) inside in
    none_outside (place + 1) places columns values (omega (arith, as_many)) parts.1 ∙ sym (passed place (map (outside places) columns) (is_place places c) parts.0)

pub all_inside : (place places : ℕ) (columns values : List ℤ) → None ≡ first_outside place places columns → are_within places (zip columns values) ≡ true
all_inside place places [] values none = refl
all_inside place places (c ∷ columns) [] none = refl
all_inside place places (c ∷ columns) (v ∷ values) none =
    let parts = inside_first place (map (outside places) columns) (is_place places c) none in
    and_from (is_place places c) (are_within places (zip columns values)) parts.0 (all_inside (place + 1) places columns values parts.1)

-- ---- all rows

halves : (places n : ℕ) (row : List (ℤ × ℤ)) → are_within places row ≡ (are_within places (take n row) && are_within places (drop n row))
halves places n row = cc (take-append-drop n row, list_all-append (λ (entry : ℤ × ℤ). is_place places entry.0) (take n row) (drop n row))

pub within_both : (places : ℕ) (row others all : List (ℤ × ℤ)) → all ≡ row ++ others → are_within places row ≡ true → are_within places others ≡ true → are_within places all ≡ true
within_both places row others all is inside too =
    ap (are_within places) is ∙ list_all-append (λ (entry : ℤ × ℤ). is_place places entry.0) row others ∙ and_from (are_within places row) (are_within places others) inside too

pub halves_within : (places n : ℕ) (row : List (ℤ × ℤ)) → are_within places row ≡ true → (are_within places (take n row) ≡ true) × (are_within places (drop n row) ≡ true)
halves_within places n row inside = and_parts (are_within places (take n row)) (are_within places (drop n row)) (sym (halves places n row) ∙ inside)

pub rows_inside : (places : ℕ) (lengths : List ℕ) (entries : List (ℤ × ℤ)) → sum lengths ≡ length entries → list_all (are_within places) (cut_of lengths entries) ≡ true
    → are_within places entries ≡ true
rows_inside places [] entries adds_up inside = ap (are_within places) (nil_from_length entries (sym adds_up))
rows_inside places (n ∷ lengths) entries adds_up inside =
    let parts = and_parts (are_within places (take n entries)) (list_all (are_within places) (cut_of lengths (drop n entries))) inside in
    cc (halves places n entries, and_from _ _ parts.0 (rows_inside places lengths (drop n entries) (omega (arith, adds_up, sum-cons n lengths, length-drop n entries)) parts.1))

-- the rule alone says what value a row has
pub by_rule : (rule : ℤ → Option ℤ) (x : List ℤ) (lengths : List ℕ) (entries : List (ℤ × ℤ)) → are_within (length x) entries ≡ true
    → map (row_value rule x) (cut_of lengths entries) ≡ map (λ row. rule (row_total x row)) (cut_of lengths entries)
by_rule rule x [] entries inside = refl
by_rule rule x (n ∷ lengths) entries inside =
    let row = take n entries in
    let parts = halves_within (length x) n entries inside in
    λ i. (if (parts.0 i) then rule (row_total x row) else None) ∷ by_rule rule x lengths (drop n entries) parts.1 i
