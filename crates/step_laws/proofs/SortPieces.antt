-- The pieces of a pass that its parts gather, one part behind another.
use Rattle.std.proofs.Common.{◌≡◌, ◌∙◌, ℕ, zero, suc, ◌+◌, ◌-◌, ◌*◌, ◌<◌, ◌≤◌, List, [], ◌∷◌, ◌++◌, add-one, ap, arith, drop, get_or, length, length-drop, length-take-le, map}
use Rattle.std.proofs.Common.{refl, subst, sum, sym}
use Rattle.std.specs.List.{AllZip, flat_map, range_with_len}
use Rattle.cvl_base.proofs.Lists.{sum-cons}
use Rattle.digit_partitions.proofs.InDigits.{length_of_more, place_within}
use Rattle.digit_partitions.specs.Partitions.{most_digits}
use Rattle.digit_partitions.specs.Pieces.{IsCut, IsRange, begin_of, digit_piece}
use Rattle.sort_parts.proofs.Counted.{elements_more}
use Rattle.sort_parts.specs.Cuts.{elements_before, piece_length, place_of_piece}
use Rattle.stable_sorts.specs.InParts.{gathered}
use Rattle.step_laws.specs.SortParts.{GathersAlone, HaveShares, PassPart, result_of}
use Rattle.step_laws.specs.SortSteps.{Makes}
use Rattle.c_calls.specs.declared.status.CvlStatus.{CvlStatus}

module _ {X : Type 0} (elements : List X) (ends : List ℕ) (parts : ℕ) where
  abbrev piece : ℕ → List X
  piece number = digit_piece elements ends most_digits parts number

  abbrev counts : List (PassPart X) → List ℕ
  counts shared = map (λ (p : PassPart X). p.count) shared

  -- a part gathers its pieces of some blocks
  abbrev pub GathersOf : PassPart X → PassPart X → Type 0
  GathersOf own left =
      ((status : CvlStatus)
      × Makes (IsRange elements ends most_digits parts own.piece own.count (length own.range))
      (flat_map (digit_piece elements ends most_digits parts) (range_with_len own.piece own.count)) status own.range left.range)
      × GathersAlone own left

  module _ (some : 1 ≤ parts) (as_many : length ends ≡ parts * most_digits) (cut : IsCut (length elements) ends) where
    piece-long : (number : ℕ) → number < length ends → length (piece number) ≡ piece_length ends parts number
    piece-long number within =
        let place = place_of_piece parts number in
        let is = cut place (place_within parts most_digits number (length ends) some as_many within) in
        length-take-le (get_or ends place 0 - begin_of ends place) (drop (begin_of ends place) elements)
        (omega (arith, is.0, is.1, length-drop (begin_of ends place) elements))

    -- how many elements the first pieces and those from there on have
    counted : (from n : ℕ) → from + n ≤ length ends
        → elements_before ends parts from + length (flat_map piece (range_with_len from n)) ≡ elements_before ends parts (from + n)
    counted from zero within = let at : from ≡ from + 0 = omega arith in omega (arith, ap (elements_before ends parts) at)
    counted from (suc n) within =
        let more : n + 1 ≡ suc n = add-one n in
        let at : from + n + 1 ≡ from + suc n = omega arith in
        let walked = ap (λ m. length (flat_map piece (range_with_len from m))) (sym more) ∙ length_of_more piece from n in
        omega (
          arith,
          walked,
          counted from n (omega (arith, within)),
          piece-long (from + n) (omega (arith, within)),
          elements_more ends parts (from + n),
          ap (elements_before ends parts) at,
        )

    abbrev InOrder : List ℕ → Type 0
    InOrder pieces = (k : ℕ) → k + 1 < length pieces → get_or pieces k 0 ≤ get_or pieces (k + 1) 0

    pub gathered_all : (pieces places : List ℕ) (shared end : List (PassPart X)) → HaveShares pieces places shared → AllZip GathersOf shared end → InOrder pieces
        → get_or pieces (length pieces - 1) 0 ≡ length ends → places ≡ map (elements_before ends parts) pieces
        → (result_of end ≡ gathered elements ends parts (get_or pieces 0 0) (counts shared)) × (get_or pieces 0 0 + sum (counts shared) ≡ length ends)
    gathered_all [] places shared end has gathers order last before = absurd has
    gathered_all (p ∷ []) [] shared end has gathers order last before = absurd has
    gathered_all (p ∷ []) (e ∷ f ∷ places) shared end has gathers order last before = absurd has
    gathered_all (p ∷ []) (e ∷ []) (s ∷ shared) end has gathers order last before = absurd has
    gathered_all (p ∷ []) (e ∷ []) [] (t ∷ end) has gathers order last before = absurd gathers
    gathered_all (p ∷ []) (e ∷ []) [] [] has gathers order last before =
        let one : length (p ∷ []) - 1 ≡ 0 = omega arith in
        let at : p ≡ length ends = sym (ap (λ k. get_or (p ∷ []) k 0) one) ∙ last in
        (refl, omega (arith, at))
    gathered_all (p ∷ q ∷ pieces) [] shared end has gathers order last before = absurd has
    gathered_all (p ∷ q ∷ pieces) (e ∷ []) shared end has gathers order last before = absurd has
    gathered_all (p ∷ q ∷ pieces) (e ∷ f ∷ places) [] end has gathers order last before = absurd has
    gathered_all (p ∷ q ∷ pieces) (e ∷ f ∷ places) (s ∷ shared) [] has gathers order last before = absurd gathers
    gathered_all (p ∷ q ∷ pieces) (e ∷ f ∷ places) (s ∷ shared) (t ∷ end) (piece_is, count_is, long, others) (first, rest) order last before =
        let listed : e ∷ f ∷ places ≡ elements_before ends parts p ∷ elements_before ends parts q ∷ map (elements_before ends parts) pieces = before in
        let here : e ≡ elements_before ends parts p = cc in
        let next : f ≡ elements_before ends parts q = cc in
        let behind : f ∷ places ≡ map (elements_before ends parts) (q ∷ pieces) = cc in
        let up : p ≤ q = order 0 (omega arith) in
        let end_is : length (p ∷ q ∷ pieces) - 1 ≡ suc (length (q ∷ pieces) - 1) = omega arith in
        let all = gathered_all (q ∷ pieces) (f ∷ places) shared end others rest
        (λ k within. let at : suc k + 1 ≡ suc (k + 1) = omega arith in
        subst (λ i. get_or (q ∷ pieces) k 0 ≤ get_or (p ∷ q ∷ pieces) i 0) at (order (suc k) (omega (arith, within))))
        (sym (ap (λ k. get_or (p ∷ q ∷ pieces) k 0) end_is) ∙ last) behind in
        let total : s.count + p ≡ q = omega (arith, count_is, up) in
        let forth : s.piece + s.count ≡ q = omega (arith, piece_is, total) in
        let within : s.piece + s.count ≤ length ends = omega (arith, forth, all.1) in
        let both = counted s.piece s.count within in
        let range : length s.range ≡ length (flat_map piece (range_with_len s.piece s.count)) =
        omega (arith, both, long, here, next, ap (elements_before ends parts) forth, ap (elements_before ends parts) piece_is) in
        let agree : IsRange elements ends most_digits parts s.piece s.count (length s.range) =
        record { some = some; as_many = as_many; cut = cut; within = within; as_long = range } in
        let makes = first.0.1 in
        let written : t.range ≡ flat_map piece (range_with_len p s.count) =
        makes.written (makes.is_done agree) ∙ ap (λ k. flat_map piece (range_with_len k s.count)) piece_is in
        let on : q ≡ p + s.count = omega (arith, total) in (
          ap (λ r. r ++ result_of end) written
              ∙ ap (λ r. flat_map piece (range_with_len p s.count) ++ r) (all.0 ∙ ap (λ k. gathered elements ends parts k (counts shared)) on),
          omega (arith, sum-cons s.count (counts shared), all.1, total),
        )
