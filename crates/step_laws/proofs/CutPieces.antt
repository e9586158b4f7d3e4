-- The pieces into which places cut a segmented vector are cut as its scans by segments assume.
use Rattle.std.proofs.Common.{◌≡◌, ◌∙◌, ◌+◌, ◌-◌, ◌<◌, ◌≤◌, ◌++◌, ◌&&◌, ◌⊎◌, ℕ, zero, suc, Bool, true, false, nat_lt, if◌then◌else◌, List, [], ◌∷◌, length, map, sum, take, drop, get_or, slice_get}
use Rattle.std.proofs.Common.{slice_range, Some, All}
use Rattle.std.proofs.Common.{refl, sym, ap, arith, subst, ⊎_elim, add-one, append-nil, inl, inr, length-drop, take_all, drop-drop, take-take, true≢false}
use mathlib.Core.List.{map-map}
use Rattle.std.proofs.lemmas.Bool.{cases_lt, le-ltb, lt-ltb}
use Rattle.std.proofs.lemmas.List.{drop-take, drop_all}
use Rattle.std.proofs.lemmas.List.Elements.{All-cons, All-nil}
use Rattle.std.proofs.lemmas.Option.{none-some, same_Some}
use Rattle.call_laws.specs.OverRanks.{together}
use Rattle.cvl_base.proofs.Lists.{sum-cons}
use Rattle.cvl_base.proofs.Nests.{nest-fits}
use Rattle.cvl_base.specs.Lists.{joined}
use Rattle.cvl_base.specs.Nests.{cut_of, nest}
use Rattle.part_cuts.specs.Starts.{start_of}
use Rattle.segment_parts.specs.Reduces.{but_last}
use Rattle.step_laws.proofs.CutBounds.{Bounded, Bounds, at-cuts, but-last-slice, cut, each-cut, length-slice, no-lengths, sizes}
use Rattle.step_laws.proofs.CutTogether.{cut-elements, cut-together, pair, segments_of}
use Rattle.step_laws.specs.CutSegments.{CutPart, CutIntoParts, between, cut_parts_of, head_of, is_cut_behind, lengths_of, last_of, piece_of, starts_in, whole_of}
use Rattle.step_laws.specs.Pieces.{AreCut, IsPiece, MayPrecede, Piece, if_some, segments_in, since_start, tail_of}

module _ {X : Type 0} where
  listed : (xs : List X) → 0 < length xs → if_some xs ≡ xs ∷ []
  listed [] some = absurd (omega (arith, some))
  listed (x ∷ xs) some = refl

  -- some lengths cut the last list off
  cut-last : (l : ℕ) (lengths : List ℕ) (xs : List X) → length xs ≤ sum (l ∷ lengths)
      → cut_of (l ∷ lengths) xs ≡ cut_of (but_last (l ∷ lengths)) xs ++ drop (sum (but_last (l ∷ lengths))) xs ∷ []
  cut-last l [] xs few = ap (λ ys. ys ∷ []) (take_all l xs (omega (arith, few, sum-cons l [])))
  cut-last l (l2 ∷ lengths) xs few =
      let less : length (l ∷ l2 ∷ lengths) - 1 ≡ suc (length (l2 ∷ lengths) - 1) = omega arith in
      let front : but_last (l ∷ l2 ∷ lengths) ≡ l ∷ but_last (l2 ∷ lengths) = ap (λ k. take k (l ∷ l2 ∷ lengths)) less in
      let rest : drop (sum (but_last (l2 ∷ lengths))) (drop l xs) ≡ drop (sum (l ∷ but_last (l2 ∷ lengths))) xs =
      drop-drop (sum (but_last (l2 ∷ lengths))) l xs ∙ ap (λ k. drop k xs) (sym (sum-cons l (but_last (l2 ∷ lengths)))) in
      ap (λ lists. take l xs ∷ lists) (cut-last l2 lengths (drop l xs) (omega (arith, few, length-drop l xs, sum-cons l (l2 ∷ lengths))))
      ∙ ap (λ ys. (take l xs ∷ cut_of (but_last (l2 ∷ lengths)) (drop l xs)) ++ ys ∷ []) rest
      ∙ (λ i. cut_of (sym front i) xs ++ drop (sum (sym front i)) xs ∷ [])

  cut-last-off : (lengths : List ℕ) (xs : List X) → 0 < length lengths → length xs ≤ sum lengths
      → cut_of lengths xs ≡ cut_of (but_last lengths) xs ++ drop (sum (but_last lengths)) xs ∷ []
  cut-last-off [] xs some few = absurd (omega (arith, some))
  cut-last-off (l ∷ lengths) xs some few = cut-last l lengths xs few

-- what holds of each two neighbours
module _ {X : Type 0} (R : X → X → Type 0) where
  abbrev Neighbours : List X → Type 0
  Neighbours [] = Unit {0}
  Neighbours (x ∷ []) = Unit {0}
  Neighbours (x ∷ y ∷ xs) = R x y × Neighbours (y ∷ xs)

  neighbours-at : (xs : List X) → Neighbours xs → (k : ℕ) (x y : X) → slice_get xs k ≡ Some x → slice_get xs (suc k) ≡ Some y → R x y
  neighbours-at [] all k x y here next = absurd (none-some x here)
  neighbours-at (z ∷ []) all k x y here next = absurd (none-some y next)
  neighbours-at (z ∷ w ∷ xs) all zero x y here next = subst (λ a. R a y) (same_Some z x here) (subst (λ b. R z b) (same_Some w y next) all.0)
  neighbours-at (z ∷ w ∷ xs) all (suc k) x y here next = neighbours-at (w ∷ xs) all.1 k x y here next

-- ---- one part as a piece

-- the last segment that starts in a part goes on behind it, and the part has some of it
record GoesOn (lengths : List ℕ) (c : CutPart) : Type 0 where
  pub whole : whole_of lengths c ≡ but_last (lengths_of lengths c)
  pub starts : c.first < c.next
  pub behind : is_cut_behind lengths c ≡ true
  pub some : head_of lengths c + sum (but_last (lengths_of lengths c)) < c.to - c.from

-- or the segments end with the part
record EndsThere (lengths : List ℕ) (c : CutPart) : Type 0 where
  pub whole : whole_of lengths c ≡ lengths_of lengths c
  pub not_behind : is_cut_behind lengths c ≡ false
  pub all : head_of lengths c + sum (lengths_of lengths c) ≡ c.to - c.from
  pub at : c.first < c.next → start_of lengths c.next ≡ c.to

and-no : (b : Bool) → (b && false) ≡ false
and-no true = refl
and-no false = refl

module _ (lengths : List ℕ) (len : ℕ) (c : CutPart) (b : Bounds lengths len c) where
  abbrev whole-if : Bool → List ℕ
  whole-if behind = slice_range lengths c.first (if behind then c.next - 1 else c.next)

  goes_on-or-ends : GoesOn lengths c ⊎ EndsThere lengths c
  goes_on-or-ends =
      let size = sizes lengths len c b in
      ⊎_elim
      (λ (some : c.first < c.next).
      let starts : starts_in lengths c ≡ true = lt-ltb c.first c.next some in
      let reach = size.reach some in
      ⊎_elim
      (λ (goes : c.to < start_of lengths c.next).
      let behind : is_cut_behind lengths c ≡ true = λ i. starts i && lt-ltb c.to (start_of lengths c.next) goes i in
      inl (record {
        whole = ap whole-if behind ∙ sym (but-last-slice lengths c.first c.next some b.end.within);
        starts = some;
        behind = behind;
        some = size.firsts (omega (arith, reach, goes, b.some));
      }))
      (λ (stays : start_of lengths c.next ≤ c.to).
      let not_behind : is_cut_behind lengths c ≡ false =
      ap (λ t. starts_in lengths c && t) (le-ltb c.to (start_of lengths c.next) stays) ∙ and-no (starts_in lengths c) in
      inr (record {
        whole = ap whole-if not_behind;
        not_behind = not_behind;
        all = omega (arith, reach, stays, size.upper);
        at = λ also. omega (arith, stays, b.end.reached);
      }))
      (cases_lt c.to (start_of lengths c.next)))
      (λ (none : c.next ≤ c.first).
      let not_behind : is_cut_behind lengths c ≡ false = ap (λ t. t && nat_lt c.to (start_of lengths c.next)) (le-ltb c.first c.next none) in
      let total : sum (lengths_of lengths c) ≡ 0 = ap sum (no-lengths lengths c none) in
      inr (record {
        whole = ap whole-if not_behind;
        not_behind = not_behind;
        all = omega (arith, total, size.full none);
        at = λ some. absurd (omega (arith, some, none));
      }))
      (cases_lt c.first c.next)

  starts-none : starts_in lengths c ≡ false → c.next ≤ c.first
  starts-none is =
      ⊎_elim (λ (some : c.first < c.next). absurd (true≢false (sym (lt-ltb c.first c.next some) ∙ is))) (λ (none : c.next ≤ c.first). none) (cases_lt c.first c.next)

  starts-some : starts_in lengths c ≡ true → c.first < c.next
  starts-some is =
      ⊎_elim (λ (some : c.first < c.next). some) (λ (none : c.next ≤ c.first). absurd (true≢false (sym is ∙ le-ltb c.first c.next none))) (cases_lt c.first c.next)

module _ {X : Type 0} (lengths : List ℕ) (xs : List X) (c : CutPart) (b : Bounds lengths (length xs) c) where
  abbrev piece : Piece X
  piece = piece_of lengths xs c

  long : length piece.elements ≡ c.to - c.from
  long = length-slice xs c.from c.to b.fits

  some-tail : GoesOn lengths c → 0 < length (tail_of piece)
  some-tail w =
      let total : sum (whole_of lengths c) ≡ sum (but_last (lengths_of lengths c)) = ap sum w.whole in
      omega (arith, length-drop (piece.head + sum piece.lengths) piece.elements, total, w.some, long)

  no-tail : EndsThere lengths c → tail_of piece ≡ []
  no-tail e =
      let total : sum (whole_of lengths c) ≡ sum (lengths_of lengths c) = ap sum e.whole in
      drop_all (piece.head + sum piece.lengths) piece.elements (omega (arith, total, e.all, long))

  one-piece : IsPiece piece
  one-piece =
      let all_head : starts_in lengths c ≡ false → (piece.head ≡ length piece.elements) × (piece.lengths ≡ []) = λ is.
      let none = starts-none lengths (length xs) c b is in
      let not_behind : is_cut_behind lengths c ≡ false = ap (λ t. t && nat_lt c.to (start_of lengths c.next)) is in
      ((sizes lengths (length xs) c b).full none ∙ sym long, ap (whole-if lengths (length xs) c b) not_behind ∙ no-lengths lengths c none) in
      ⊎_elim
      (λ (w : GoesOn lengths c).
      let total : sum (whole_of lengths c) ≡ sum (but_last (lengths_of lengths c)) = ap sum w.whole in
      record { some = omega (arith, long, b.some); fits = omega (arith, total, w.some, long); all_head = all_head })
      (λ (e : EndsThere lengths c).
      let total : sum (whole_of lengths c) ≡ sum (lengths_of lengths c) = ap sum e.whole in
      record { some = omega (arith, long, b.some); fits = omega (arith, total, e.all, long); all_head = all_head })
      (goes_on-or-ends lengths (length xs) c b)

  -- a piece has the segments of its part
  piece-segments : segments_in piece ≡ segments_of lengths xs c
  piece-segments =
      let head = head_of lengths c in let ls = lengths_of lengths c in let rest = drop head piece.elements in
      ⊎_elim
      (λ (w : GoesOn lengths c).
      let tail : tail_of piece ≡ drop (sum (but_last ls)) rest =
      ap (λ ns. drop (head + sum ns) piece.elements) w.whole ∙ sym (drop-drop (sum (but_last ls)) head piece.elements) in
      let some : 0 < length ls = omega (arith, length-slice lengths c.first c.next b.end.within, w.starts) in
      let few : length rest ≤ sum ls = omega (arith, length-drop head piece.elements, long, (sizes lengths (length xs) c b).upper) in
      let segments : cut_of piece.lengths rest ++ if_some (tail_of piece) ≡ cut_of ls rest =
      (λ i. cut_of (w.whole i) rest ++ listed (tail_of piece) (some-tail w) i)
      ∙ ap (λ ys. cut_of (but_last ls) rest ++ ys ∷ []) tail ∙ sym (cut-last-off ls rest some few) in
      λ i. pair (take head piece.elements) (segments i))
      (λ (e : EndsThere lengths c).
      let segments : cut_of piece.lengths rest ++ if_some (tail_of piece) ≡ cut_of ls rest =
      (λ i. cut_of (e.whole i) rest ++ if_some (no-tail e i)) ∙ append-nil (cut_of ls rest) in
      λ i. pair (take head piece.elements) (segments i))
      (goes_on-or-ends lengths (length xs) c b)

  -- a piece that ends with a segment stands before one without a head
  may-precede : (next : CutPart) → next.from ≡ c.to → next.first ≡ c.next → MayPrecede piece (piece_of lengths xs next)
  may-precede next from first starts ended =
      ⊎_elim
      (λ (w : GoesOn lengths c). let none : length (tail_of piece) ≡ 0 = ap length ended in absurd (omega (arith, none, some-tail w)))
      (λ (e : EndsThere lengths c).
      let at : start_of lengths next.first ≡ next.from = ap (start_of lengths) first ∙ e.at (starts-some lengths (length xs) c b starts) ∙ sym from in
      omega (arith, at))
      (goes_on-or-ends lengths (length xs) c b)

  -- its elements since the last start of a segment
  last-slice : since_start piece ≡ slice_range xs (last_of lengths c) c.to
  last-slice =
      let since : Bool → List X = λ t. if t then tail_of piece else piece.elements in
      let last : Bool → Bool → ℕ = λ t u. if t then (if u then start_of lengths (c.next - 1) else c.to) else c.from in
      ⊎_elim
      (λ (w : GoesOn lengths c).
      let starts : starts_in lengths c ≡ true = lt-ltb c.first c.next w.starts in
      let k = head_of lengths c + sum (but_last (lengths_of lengths c)) in
      let begin = start_of lengths (c.next - 1) in
      let at : c.from + k ≡ begin = (sizes lengths (length xs) c b).last w.starts in
      let long : c.to - c.from ≡ k + (c.to - begin) = omega (arith, at, w.some) in
      let tail : tail_of piece ≡ slice_range xs begin c.to =
      ap (λ ns. drop (head_of lengths c + sum ns) piece.elements) w.whole ∙ ap (λ n. drop k (take n (drop c.from xs))) long
      ∙ drop-take k (c.to - begin) (drop c.from xs) ∙ ap (take (c.to - begin)) (drop-drop k c.from xs ∙ ap (λ n. drop n xs) at) in
      ap since starts ∙ tail ∙ (λ i. slice_range xs (last (sym starts i) (sym w.behind i)) c.to))
      (λ (e : EndsThere lengths c).
      ⊎_elim
      (λ (some : c.first < c.next).
      let starts : starts_in lengths c ≡ true = lt-ltb c.first c.next some in
      let none : c.to - c.to ≡ 0 = omega arith in
      ap since starts ∙ no-tail e ∙ ap (λ n. take n (drop c.to xs)) (sym none)
      ∙ (λ i. slice_range xs (last (sym starts i) (sym e.not_behind i)) c.to))
      (λ (none : c.next ≤ c.first).
      let starts : starts_in lengths c ≡ false = le-ltb c.first c.next none in
      ap since starts ∙ (λ i. slice_range xs (last (sym starts i) (is_cut_behind lengths c)) c.to))
      (cases_lt c.first c.next))
      (goes_on-or-ends lengths (length xs) c b)

  -- and its head
  head-slice : take (head_of lengths c) piece.elements ≡ slice_range xs c.from (c.from + head_of lengths c)
  head-slice =
      let size = sizes lengths (length xs) c b in
      let same : head_of lengths c ≡ (c.from + head_of lengths c) - c.from = omega arith in
      take-take (head_of lengths c) (c.to - c.from) (drop c.from xs) (omega (arith, size.lower)) ∙ ap (λ n. take n (drop c.from xs)) same

-- ---- all pieces

module _ {X : Type 0} (lengths : List ℕ) (xs : List X) where
  each-piece : (b : ℕ × ℕ) (others : List (ℕ × ℕ)) → Bounded lengths (length xs) b others → All IsPiece (map (piece_of lengths xs) (between (b ∷ others)))
  each-piece b [] known = All-nil IsPiece
  each-piece b (next ∷ others) known =
      All-cons IsPiece (piece_of lengths xs (cut b next)) (map (piece_of lengths xs) (between (next ∷ others)))
      (one-piece lengths xs (cut b next) known.0) (each-piece next others known.1)

  pieces-segments : (b : ℕ × ℕ) (others : List (ℕ × ℕ)) → Bounded lengths (length xs) b others
      → map segments_in (map (piece_of lengths xs) (between (b ∷ others))) ≡ map (segments_of lengths xs) (between (b ∷ others))
  pieces-segments b [] known = refl
  pieces-segments b (next ∷ others) known =
      λ i. piece-segments lengths xs (cut b next) known.0 i ∷ pieces-segments next others known.1 i

  precede : (b : ℕ × ℕ) (others : List (ℕ × ℕ)) → Bounded lengths (length xs) b others → Neighbours MayPrecede (map (piece_of lengths xs) (between (b ∷ others)))
  precede b [] known = tt
  precede b (next ∷ []) known = tt
  precede b (next ∷ after ∷ others) known =
      (may-precede lengths xs (cut b next) known.0 (cut next after) refl refl, precede next (after ∷ others) known.1)

  -- what holds of each part holds of all between places
  each-part : (P : CutPart → Type 0) → ((c : CutPart) → Bounds lengths (length xs) c → P c) → sum lengths ≡ length xs → (places : List ℕ) → CutIntoParts places (length xs)
      → All P (cut_parts_of lengths places)
  each-part P holds whole =
      at-cuts lengths (length xs) whole (All P) (λ next others known. λ k d lt.
      holds (get_or (between ((0, 0) ∷ next ∷ others)) k d) (each-cut lengths (length xs) whole (0, 0) (next ∷ others) known k d lt))

  -- its head is a slice, and so are its elements since the last start of a segment
  abbrev pub HasHeadSlice : CutPart → Type 0
  HasHeadSlice c = take (head_of lengths c) (slice_range xs c.from c.to) ≡ slice_range xs c.from (c.from + head_of lengths c)

  abbrev pub HasLastSlice : CutPart → Type 0
  HasLastSlice c = since_start (piece_of lengths xs c) ≡ slice_range xs (last_of lengths c) c.to

  pub head-slices : sum lengths ≡ length xs → (places : List ℕ) → CutIntoParts places (length xs) → All HasHeadSlice (cut_parts_of lengths places)
  head-slices = each-part HasHeadSlice (head-slice lengths xs)

  pub last-slices : sum lengths ≡ length xs → (places : List ℕ) → CutIntoParts places (length xs) → All HasLastSlice (cut_parts_of lengths places)
  last-slices = each-part HasLastSlice (last-slice lengths xs)

  pub pieces-cut : sum lengths ≡ length xs → (places : List ℕ) → CutIntoParts places (length xs) → AreCut lengths (map (piece_of lengths xs) (cut_parts_of lengths places))
  pieces-cut whole =
      at-cuts lengths (length xs) whole (λ cuts. AreCut lengths (map (piece_of lengths xs) cuts)) (λ next others known.
      let pieces = map (piece_of lengths xs) (between ((0, 0) ∷ next ∷ others)) in
      let elements : joined (map (λ (p : Piece X). p.elements) pieces) ≡ xs =
      ap joined (map-map (λ (p : Piece X). p.elements) (piece_of lengths xs) (between ((0, 0) ∷ next ∷ others))) ∙ cut-elements lengths xs (next ∷ others) known in
      record {
        each = each-piece (0, 0) (next ∷ others) known;
        next = λ k p q here there. neighbours-at MayPrecede pieces (precede (0, 0) (next ∷ others) known) k p q here
            (subst (λ n. slice_get pieces n ≡ Some q) (add-one k) there);
        whole = (
          cut_of lengths xs,
          ap (nest lengths) elements ∙ nest-fits lengths xs whole,
          ap together (pieces-segments (0, 0) (next ∷ others) known) ∙ cut-together lengths xs (next ∷ others) known,
        );
      })
