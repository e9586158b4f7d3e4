-- The parts into which places cut a segmented vector, or a room, are those that its reduces, fills and runs by steps assume.
use Rattle.std.proofs.Common.{◌≡◌, ◌∙◌, ◌+◌, ◌-◌, ◌<◌, ◌≤◌, ◌&&◌, ℕ, zero, suc, true, IsTrue, List, [], ◌∷◌, length, map, sum, take, drop, slice_range, ℤ}
use Rattle.std.proofs.Common.{refl, sym, ap, arith, subst, ⊎_elim, le-leb}
use Rattle.std.proofs.lemmas.Bool.{cases_lt}
use Rattle.std.specs.List.{AllZip}
use Rattle.call_laws.specs.OverRanks.{together}
use Rattle.cvl_base.proofs.Nests.{nest-fits}
use Rattle.cvl_base.specs.Lists.{joined}
use Rattle.cvl_base.specs.Nests.{cut_of, nest}
use Rattle.part_cuts.specs.Starts.{start_of}
use Rattle.segment_parts.specs.Reduces.{but_last, is_part}
use Rattle.step_laws.proofs.CutBounds.{Bounded, Bounds, at-cuts, cut, each-cut, last-start, length-slice, no-lengths, sizes}
use Rattle.step_laws.proofs.CutTogether.{cut-elements, cut-lengths, cut-together, own, segments_of}
use Rattle.step_laws.proofs.Parted.{alike, keeps}
use Rattle.step_laws.specs.CutSegments.{CutPart, CutIntoParts, IsDone, IsFillPart, IsReducePart, IsRunPart, between, cut_parts_of, head_of, lengths_of, owner_of}
use Rattle.step_laws.specs.FillParts.{AreDone, FillPart, HaveValues, done_behind, if_opened, opened}
use Rattle.step_laws.specs.FillParts as fills
use Rattle.step_laws.specs.ReduceParts.{ArePartsOf, ReducePart, elements_of, segments_in}
use Rattle.step_laws.specs.RunParts.{AreAt, AreRunPartsOf, HasFirsts, RunPart, parts_of}

-- a part has as many elements as its head and its lengths say
part-fits : {X : Type 0} (lengths : List ℕ) (xs : List X) (c : CutPart) → Bounds lengths (length xs) c
    → is_part (head_of lengths c) (lengths_of lengths c) (length (slice_range xs c.from c.to)) ≡ true
part-fits lengths xs c b =
    let size = sizes lengths (length xs) c b in
    let long = length-slice xs c.from c.to b.fits in
    let head = head_of lengths c in let ls = lengths_of lengths c in let n = length (slice_range xs c.from c.to) in
    λ i. le-leb (head + sum (but_last ls)) n (omega (arith, size.lower, long)) i && le-leb n (head + sum ls) (omega (arith, size.upper, long)) i

-- ---- reduces

module _ {X Y : Type 0} (lengths : List ℕ) (xs : List X) where
  abbrev Has : CutPart → ReducePart X Y → Type 0
  Has c p = IsReducePart lengths xs c p

  reduce-fits : (c : CutPart) (p : ReducePart X Y) → Has c p → Bounds lengths (length xs) c → IsTrue (is_part p.head p.lengths (length p.elements))
  reduce-fits c p is b = (λ i. is_part (is.1 i) (is.2 i) (length (is.0 i))) ∙ part-fits lengths xs c b

  pub reduce-parts : sum lengths ≡ length xs → (places : List ℕ) → CutIntoParts places (length xs) → (parts : List (ReducePart X Y))
      → AllZip (IsReducePart lengths xs) (cut_parts_of lengths places) parts → ArePartsOf lengths parts
  reduce-parts whole places cut_all parts =
      at-cuts lengths (length xs) whole (λ cuts. AllZip Has cuts parts → ArePartsOf lengths parts) (λ next others known are.
      let cuts = between ((0, 0) ∷ next ∷ others) in
      let elements : elements_of parts ≡ xs =
      ap joined (alike Has (own lengths xs) (λ (p : ReducePart X Y). p.elements) (λ c p is. is.0) cuts parts are) ∙ cut-elements lengths xs (next ∷ others) known in
      let segments : map segments_in parts ≡ map (segments_of lengths xs) cuts =
      alike Has (segments_of lengths xs) segments_in (λ c p is. λ i. (take (is.1 i) (is.0 i), cut_of (is.2 i) (drop (is.1 i) (is.0 i)))) cuts parts are in
      record {
        each = keeps Has (Bounds lengths (length xs)) (λ p. IsTrue (is_part p.head p.lengths (length p.elements))) reduce-fits cuts parts are
            (each-cut lengths (length xs) whole (0, 0) (next ∷ others) known);
        in_order = sym (ap joined (alike Has (lengths_of lengths) (λ (p : ReducePart X Y). p.lengths) (λ c p is. is.2) cuts parts are) ∙ cut-lengths lengths xs (next ∷ others) known);
        whole = (cut_of lengths xs, ap (nest lengths) elements ∙ nest-fits lengths xs whole, ap together segments ∙ cut-together lengths xs (next ∷ others) known);
      })
      places cut_all

-- ---- runs

module _ {X : Type 0} (lengths : List ℕ) (xs : List X) where
  cut-parts : (cuts : List CutPart) (parts : List (RunPart X)) → AllZip (IsRunPart lengths xs) cuts parts → AllZip (IsReducePart lengths xs) cuts (parts_of parts)
  cut-parts [] [] are = tt
  cut-parts [] (p ∷ parts) are = absurd are
  cut-parts (c ∷ cuts) [] are = absurd are
  cut-parts (c ∷ cuts) (p ∷ parts) are = (are.0.0, cut-parts cuts parts are.1)

  are-at : (b : ℕ × ℕ) (others : List (ℕ × ℕ)) → Bounded lengths (length xs) b others → (parts : List (RunPart X))
      → AllZip (IsRunPart lengths xs) (between (b ∷ others)) parts → AreAt b.0 parts
  are-at b [] known [] are = tt
  are-at b [] known (p ∷ parts) are = absurd are
  are-at b (next ∷ others) known [] are = absurd are
  are-at b (next ∷ others) known (p ∷ parts) are =
      let long : length p.part.elements ≡ next.0 - b.0 = ap length are.0.0.0 ∙ length-slice xs b.0 next.0 known.0.fits in
      let there : next.0 ≡ b.0 + length p.part.elements = omega (arith, long, known.0.some) in
      (are.0.1, subst (λ n. AreAt n parts) there (are-at next others known.1 parts are.1))

  has-firsts : (c : CutPart) (p : ReducePart X ℤ) → IsReducePart lengths xs c p → Bounds lengths (length xs) c → HasFirsts p
  has-firsts c p is b past =
      let size = sizes lengths (length xs) c b in
      let long : length p.elements ≡ c.to - c.from = ap length is.0 ∙ length-slice xs c.from c.to b.fits in
      let total : p.head + sum p.lengths ≡ head_of lengths c + sum (lengths_of lengths c) = λ i. is.1 i + sum (is.2 i) in
      let less : p.head + sum (but_last p.lengths) ≡ head_of lengths c + sum (but_last (lengths_of lengths c)) = λ i. is.1 i + sum (but_last (is.2 i)) in
      let firsts = size.firsts (omega (arith, past, long, total)) in
      omega (arith, firsts, long, less)

  pub run-parts : sum lengths ≡ length xs → (places : List ℕ) → CutIntoParts places (length xs) → (parts : List (RunPart X))
      → AllZip (IsRunPart lengths xs) (cut_parts_of lengths places) parts → AreRunPartsOf lengths parts
  run-parts whole places cut_all parts are =
      at-cuts lengths (length xs) whole (λ cuts. ArePartsOf lengths (parts_of parts) → AllZip (IsRunPart lengths xs) cuts parts → AreRunPartsOf lengths parts)
      (λ next others known cut_parts own_parts. record {
        cut = cut_parts;
        at = are-at (0, 0) (next ∷ others) known parts own_parts;
        firsts = keeps (IsReducePart lengths xs) (Bounds lengths (length xs)) HasFirsts has-firsts (between ((0, 0) ∷ next ∷ others)) (parts_of parts)
            (cut-parts (between ((0, 0) ∷ next ∷ others)) parts own_parts) (each-cut lengths (length xs) whole (0, 0) (next ∷ others) known);
      })
      places cut_all (reduce-parts lengths xs whole places cut_all (parts_of parts) (cut-parts (cut_parts_of lengths places) parts are)) are

-- ---- fills

opened-few : (head first : ℕ) → (0 < head → 0 < first) → opened head ≤ first
opened-few zero first some = omega arith
opened-few (suc head) first some = omega (arith, some (omega arith))

if_opened-same : (head m n : ℕ) → (0 < head → m ≡ n) → if_opened head m ≡ if_opened head n
if_opened-same zero m n same = refl
if_opened-same (suc head) m n same = same (omega arith)

behind-some : (done head : ℕ) (lengths : List ℕ) (n : ℕ) → 0 < length lengths → done_behind done head lengths n ≡ n - (head + sum (but_last lengths))
behind-some done head [] n some = absurd (omega (arith, some))
behind-some done head (l ∷ lengths) n some = refl

starts-later : (lengths : List ℕ) (first : ℕ) → 0 < start_of lengths first → 0 < first
starts-later lengths zero some = let none : start_of lengths zero ≡ 0 = refl in absurd (omega (arith, some, none))
starts-later lengths (suc first) some = omega arith

module _ {X Y : Type 0} (lengths : List ℕ) (values : List X) (room : List Y) where
  abbrev Fills : CutPart → FillPart X Y → Type 0
  Fills c p = IsFillPart lengths values room c p

  fill-fits : (c : CutPart) (p : FillPart X Y) → Fills c p → Bounds lengths (length room) c → IsTrue (is_part p.head p.lengths (length p.room))
  fill-fits c p is b = (λ i. is_part (is.1 i) (is.2 i) (length (is.0 i))) ∙ part-fits lengths room c b

  -- a part that has a head goes on with a segment that starts before it
  open-some : (c : CutPart) → Bounds lengths (length room) c → 0 < head_of lengths c → (0 < c.first) × (c.from < start_of lengths c.first)
  open-some c b some =
      let later : c.from < start_of lengths c.first = omega (arith, some) in (starts-later lengths c.first (omega (arith, later)), later)

  own-values : (c : CutPart) (p : FillPart X Y) → Bounds lengths (length room) c → Fills c p
      → p.values ≡ take (opened p.head + length p.lengths) (drop (c.first - opened p.head) values)
  own-values c p b is =
      let few : opened (head_of lengths c) ≤ c.first = opened-few (head_of lengths c) c.first (λ some. (open-some c b some).0) in
      let long : length p.lengths ≡ c.next - c.first = ap length is.2 ∙ length-slice lengths c.first c.next b.end.within in
      let same : opened p.head ≡ opened (head_of lengths c) = ap opened is.1 in
      let count : c.next - owner_of lengths c ≡ opened p.head + length p.lengths = omega (arith, few, long, same, b.ascend) in
      let owner : owner_of lengths c ≡ c.first - opened p.head = ap (λ n. c.first - n) (sym same) in
      is.3 ∙ (λ i. take (count i) (drop (owner i) values))

  have-values : (b : ℕ × ℕ) (others : List (ℕ × ℕ)) → Bounded lengths (length room) b others → (parts : List (FillPart X Y))
      → AllZip Fills (between (b ∷ others)) parts → HaveValues values b.1 parts
  have-values b [] known [] are = tt
  have-values b [] known (p ∷ parts) are = absurd are
  have-values b (next ∷ others) known [] are = absurd are
  have-values b (next ∷ others) known (p ∷ parts) are =
      let long : length p.lengths ≡ next.1 - b.1 = ap length are.0.2 ∙ length-slice lengths b.1 next.1 known.0.end.within in
      let there : next.1 ≡ b.1 + length p.lengths = omega (arith, long, known.0.ascend) in
      (own-values (cut b next) p known.0 are.0, subst (λ n. HaveValues values n parts) there (have-values next others known.1 parts are.1))

  -- how many elements the segment that goes on behind a part has before
  done-behind : (c : CutPart) → Bounds lengths (length room) c → (done : ℕ) → (c.from < start_of lengths c.first → done ≡ c.from - start_of lengths (c.first - 1))
      → c.to < start_of lengths c.next → done_behind done (head_of lengths c) (lengths_of lengths c) (c.to - c.from) ≡ c.to - start_of lengths (c.next - 1)
  done-behind c b done is past =
      ⊎_elim
      (λ (some : c.first < c.next).
      let starts : 0 < length (lengths_of lengths c) = omega (arith, length-slice lengths c.first c.next b.end.within, some) in
      let last = last-start lengths c.first c.next some b.end.within in
      let back = b.end.back (omega (arith, some)) in
      let behind = behind-some done (head_of lengths c) (lengths_of lengths c) (c.to - c.from) starts in
      omega (arith, behind, last, back, b.begin.reached, b.some))
      (λ (none : c.next ≤ c.first).
      let same : c.next ≡ c.first = omega (arith, none, b.ascend) in
      let start : start_of lengths c.next ≡ start_of lengths c.first = ap (start_of lengths) same in
      let before : start_of lengths (c.next - 1) ≡ start_of lengths (c.first - 1) = ap (λ n. start_of lengths (n - 1)) same in
      let later : c.from < start_of lengths c.first = omega (arith, past, start, b.some) in
      let back = b.begin.back (starts-later lengths c.first (omega (arith, later))) in
      ap (λ ls. done_behind done (head_of lengths c) ls (c.to - c.from)) (no-lengths lengths c none) ∙ omega (arith, is later, before, back, b.some))
      (cases_lt c.first c.next)

  are-done : (b : ℕ × ℕ) (others : List (ℕ × ℕ)) → Bounded lengths (length room) b others → (parts : List (FillPart X Y))
      → AllZip Fills (between (b ∷ others)) parts → AllZip (IsDone lengths) (between (b ∷ others)) parts
      → (done : ℕ) → (b.0 < start_of lengths b.1 → done ≡ b.0 - start_of lengths (b.1 - 1)) → AreDone done parts
  are-done b [] known [] are told done is = tt
  are-done b [] known (p ∷ parts) are told done is = absurd are
  are-done b (next ∷ others) known [] are told done is = absurd are
  are-done b (next ∷ others) known (p ∷ parts) are told done is =
      let c = cut b next in
      let long : length p.room ≡ c.to - c.from = ap length are.0.0 ∙ length-slice room b.0 next.0 known.0.fits in
      let own_done : p.done ≡ if_opened p.head done =
      told.0 ∙ if_opened-same (head_of lengths c) (c.from - start_of lengths (c.first - 1)) done (λ some. sym (is (open-some c known.0 some).1))
      ∙ ap (λ h. if_opened h done) (sym are.0.1) in
      let behind : done_behind done p.head p.lengths (length p.room) ≡ done_behind done (head_of lengths c) (lengths_of lengths c) (c.to - c.from) =
      λ i. done_behind done (are.0.1 i) (are.0.2 i) (long i) in
      (own_done, are-done next others known.1 parts are.1 told.1 (done_behind done p.head p.lengths (length p.room)) (λ past. behind ∙ done-behind c known.0 done is past))

  pub fills-done : sum lengths ≡ length room → (places : List ℕ) → CutIntoParts places (length room) → (parts : List (FillPart X Y))
      → AllZip (IsFillPart lengths values room) (cut_parts_of lengths places) parts → AllZip (IsDone lengths) (cut_parts_of lengths places) parts → AreDone 0 parts
  fills-done whole places cut_all parts =
      at-cuts lengths (length room) whole (λ cuts. AllZip Fills cuts parts → AllZip (IsDone lengths) cuts parts → AreDone 0 parts) (λ next others known are told.
      let none : start_of lengths 0 ≡ 0 = refl in are-done (0, 0) (next ∷ others) known parts are told 0 (λ past. absurd (omega (arith, past, none))))
      places cut_all

  pub fill-parts : sum lengths ≡ length room → length values ≡ length lengths → (places : List ℕ) → CutIntoParts places (length room) → (parts : List (FillPart X Y))
      → AllZip (IsFillPart lengths values room) (cut_parts_of lengths places) parts → fills.ArePartsOf lengths values parts
  fill-parts whole one places cut_all parts =
      at-cuts lengths (length room) whole (λ cuts. AllZip Fills cuts parts → fills.ArePartsOf lengths values parts) (λ next others known are.
      let cuts = between ((0, 0) ∷ next ∷ others) in
      let elements : fills.room_of parts ≡ room =
      ap joined (alike Fills (own lengths room) (λ (p : FillPart X Y). p.room) (λ c p is. is.0) cuts parts are) ∙ cut-elements lengths room (next ∷ others) known in
      let segments : map fills.segments_in parts ≡ map (segments_of lengths room) cuts =
      alike Fills (segments_of lengths room) fills.segments_in (λ c p is. λ i. (take (is.1 i) (is.0 i), cut_of (is.2 i) (drop (is.1 i) (is.0 i)))) cuts parts are in
      record {
        each = keeps Fills (Bounds lengths (length room)) (λ p. IsTrue (is_part p.head p.lengths (length p.room))) fill-fits cuts parts are
            (each-cut lengths (length room) whole (0, 0) (next ∷ others) known);
        in_order = sym (ap joined (alike Fills (lengths_of lengths) (λ (p : FillPart X Y). p.lengths) (λ c p is. is.2) cuts parts are) ∙ cut-lengths lengths room (next ∷ others) known);
        one_each = one;
        have_values = have-values (0, 0) (next ∷ others) known parts are;
        whole = (cut_of lengths room, ap (nest lengths) elements ∙ nest-fits lengths room whole, ap together segments ∙ cut-together lengths room (next ∷ others) known);
      })
      places cut_all
