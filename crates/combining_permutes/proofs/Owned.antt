-- The walk over one range by lists of those that are sent there: what it has joined up to each of them, where the others change nothing.
use Rattle.combining_permutes.proofs.Cited.{◌≡◌, ◌∙◌, ◌+◌, ◌<◌, ◌≤◌, ◌∷◌, ℕ, zero, suc, List, Bool, true, false, cond, arith, ap, refl, subst, count_by, drop, drop_all, drop_more, filter, get_or}
use Rattle.combining_permutes.proofs.Cited.{AllPass, count_by-le-length, length, length-filter, length-range_with_len, pos, range_with_len, Some}
use Rattle.combining_permutes.proofs.Cited.{sum_by-drop_more, zip, ℤ, combined, is_between, those_between}
use Rattle.permute_walks.proofs.Listed.{IsNext, IsRest, at_end, at_next}
use Rattle.combining_permutes.proofs.Joined.{IsJoinedTo, is_among, walked_past}
use Rattle.combining_permutes.proofs.Named.{names_none}

module _ {X : Type 0} (join : X → X → X) (index : List ℤ) (elements whole : List X) (lowest n : ℕ) where
  -- the room, joined with the elements from k on, is to be `whole`
  abbrev pub Leaves : List X → ℕ → Type 0
  Leaves out k = whole ≡ combined join (zip (drop k index) (drop k elements)) lowest out

  abbrev pub is_own : ℕ → Bool
  is_own k = is_among lowest n (get_or index k (pos 0))

  module _ (long : length elements ≡ length index) (end : ℕ) (within : end ≤ length index) (out : List X) (room : length out ≡ n) where
    leaves_other : (k : ℕ) → k < end → is_own k ≡ false → Leaves out k → Leaves out (k + 1)
    leaves_other k lt away leaves =
        walked_past join index elements whole lowest k long (omega (arith, lt, within)) out leaves
        (λ d from below. names_none lowest n (get_or index k (pos 0)) away d from (omega (arith, below, room)))

    -- a walk over a list of those that are sent to the range, up to place q of the list
    module _ (own : List ℕ) (q : ℕ) (left : IsRest is_own (Leaves out) (drop q own) end) where
      pub leaves_next : q < length own → IsNext is_own (Leaves out) end (get_or own q 0) (drop (q + 1) own)
      leaves_next lt =
          at_next is_own (Leaves out) end leaves_other (get_or own q 0) (drop (q + 1) own) (subst (λ ns. IsRest is_own (Leaves out) ns end) (drop_more own q 0 lt) left)

      pub leaves_end : length own ≤ q → Leaves out end
      leaves_end ge = at_end is_own (Leaves out) end leaves_other (subst (λ ns. IsRest is_own (Leaves out) ns end) (drop_all q own ge) left)

-- ---- how many they are

abbrev one_if : Bool → ℕ
one_if b = cond b 1 0

listed_first : (p : ℕ → Bool) (k n : ℕ) (b : Bool) → p k ≡ b → length (filter p (range_with_len k (suc n))) ≡ one_if b + length (filter p (range_with_len (k + 1) n))
listed_first p k n true is = ap (λ c. length (cond c (k ∷ filter p (range_with_len (k + 1) n)) (filter p (range_with_len (k + 1) n)))) is ∙ omega arith
listed_first p k n false is = ap (λ c. length (cond c (k ∷ filter p (range_with_len (k + 1) n)) (filter p (range_with_len (k + 1) n)))) is ∙ omega arith

-- those of a block, and those behind it
pub counted_block : (index : List ℤ) (lowest places n k : ℕ) → k + n ≤ length index
    → length (those_between index lowest (lowest + places) k n) + count_by (is_among lowest places) (drop (k + n) index) ≡ count_by (is_among lowest places) (drop k index)
counted_block index lowest places zero k within =
    let same : k + 0 ≡ k = omega arith in
    let counts = ap (λ j. count_by (is_among lowest places) (drop j index)) same in
    omega (arith, counts)
counted_block index lowest places (suc n) k within =
    let p = is_among lowest places in
    let same : k + 1 + n ≡ k + suc n = omega arith in
    omega (
      arith,
      listed_first (λ j. p (get_or index j (pos 0))) k n (p (get_or index k (pos 0))) refl,
      sum_by-drop_more (λ j. one_if (p j)) index k (pos 0) (omega (arith, within)),
      counted_block index lowest places n (k + 1) (omega (arith, within)),
      ap (λ j. count_by p (drop j index)) same,
    )

pub few_between : (index : List ℤ) (lowest end k n : ℕ) → length (those_between index lowest end k n) ≤ n
few_between index lowest end k n =
    let p = λ (j : ℕ). is_between lowest end (Some (get_or index j (pos 0))) in
    omega (arith, length-filter p (range_with_len k n), count_by-le-length p (range_with_len k n), length-range_with_len k n)

-- ---- a block more

module _ {X : Type 0} {is_item : X → Bool} {join : X → X → X} {index : List ℤ} {elements before : List X} {lowest first : ℕ} {out : List X} {named : ℕ}
    (to : IsJoinedTo is_item join index elements before lowest first out named) (room : length out ≡ length before) (many : ℕ) (within : first + many ≤ length index) where
  pub joined_block : (j : ℕ) → j ≡ many → (new : List X) (listed : ℕ)
      → combined join (zip (drop first index) (drop first elements)) lowest out ≡ combined join (zip (drop (first + j) index) (drop (first + j) elements)) lowest new
      → AllPass is_item new → listed ≡ length (those_between index lowest (lowest + length out) first j)
      → IsJoinedTo is_item join index elements before lowest (first + many) new (named + listed)
  joined_block j same new listed joins items counts =
      let are : listed ≡ length (those_between index lowest (lowest + length before) first many) =
      counts ∙ (λ i. length (those_between index lowest (lowest + room i) first (same i))) in
      record {
        joined = to.joined ∙ joins ∙ (λ i. combined join (zip (drop (first + same i) index) (drop (first + same i) elements)) lowest new);
        items = items;
        few = omega (arith, to.few, are, few_between index lowest (lowest + length before) first many);
        counted = omega (arith, to.counted, are, counted_block index lowest (length before) many first within);
      }
