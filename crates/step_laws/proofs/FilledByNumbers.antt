-- An index by segments by steps.
use Rattle.std.proofs.Common.{◌≡◌, ◌≢◌, ◌++◌, ◌+◌, ◌-◌, ◌≤◌, ◌∙◌, ℕ, zero, suc, ℤ, pos, ◌+ℤ◌, ◌*ℤ◌, true, List, [], ◌∷◌, length, map, take, zip, Result, Ok, refl, sym, ap, arith, subst, All}
use Rattle.std.proofs.Common.{length-append}
use Rattle.std.proofs.lemmas.Bool.{and_from, eq-eqb}
use Rattle.std.proofs.lemmas.List.{length-map}
use Rattle.std.proofs.lemmas.List.FromFn.{length-map-range_with_len}
use Rattle.std.proofs.lemmas.List.Elements.{All-cons, All-head, All-nil, All-tail}
use Rattle.std.specs.List.{AllZip, range_with_len}
use Rattle.cvl_base.specs.Integers.{wrap}
use Rattle.cvl_base.specs.Gives.{◌>>=◌}
use Rattle.cvl_base.specs.Limits.{most_places}
use Rattle.cvl_base.specs.Lists.{joined}
use Rattle.cvl_base.specs.SegmentedCalls.{seg_index_within}
use Rattle.cvl_base.specs.declared.fault.Fault.{Fault}
use Rattle.pack_dist.proofs.Distributed.{index-fits, lists-whole, numbers}
use Rattle.pack_dist.specs.Lists.{progressions_of}
use Rattle.pack_dist.specs.Progressions.{numbers_from}
use Rattle.segment_fills.proofs.Numbered.{numbered, part-indexes}
use Rattle.segment_fills.proofs.Parts.{PartWith, part-with}
use Rattle.segment_fills.specs.Calls.{part_index_by}
use Rattle.segment_fills.specs.Fills.{is_part_with}
use Rattle.segment_fills.specs.Numbers.{numbers_in_part, part_index_of}
use Rattle.c_calls.specs.Calls.{by_segments, lengths_of}
use Rattle.c_calls.specs.Told.{RoomTold, Told, done}
use Rattle.step_laws.specs.FillParts.{AreDone, ArePartsOf, FillPart, done_behind, if_opened, room_of}
use Rattle.step_laws.specs.FillSteps.{Numbers, inits_in, strides_in}
use Rattle.step_laws.proofs.Answered.{tells_done, within}
use Rattle.step_laws.proofs.Filled.{Fits, Holds, all-fit, filled, held, held_from}
use Rattle.step_laws.proofs.Parted.{alike_where}
use Rattle.step_laws.proofs.SegmentLengths.{are_lengths, few-of, nested}

abbrev Step : Type 0
Step = ℤ × ℤ

-- the numbers of a segment from a place on
abbrev of : Step → ℕ → ℕ → List ℤ
of s a n = numbers_from s.0 s.1 a n

more-from : (f : ℕ → ℤ) (a n m : ℕ) → map f (range_with_len a n) ++ map f (range_with_len (a + n) m) ≡ map f (range_with_len a (n + m))
more-from f a zero m = let first : a + 0 ≡ a = omega arith in let all : m ≡ 0 + m = omega arith in λ i. map f (range_with_len (first i) (all i))
more-from f a (suc n) m =
    let first : a + suc n ≡ a + 1 + n = omega arith in let all : suc (n + m) ≡ suc n + m = omega arith in
    ap (λ k. f a ∷ (map f (range_with_len (a + 1) n) ++ map f (range_with_len k m))) first ∙ ap (λ ys. f a ∷ ys) (more-from f (a + 1) n m)
    ∙ ap (λ k. map f (range_with_len a k)) all

pub more-numbers : (s : Step) (a n m : ℕ) → of s a n ++ of s (a + n) m ≡ of s a (n + m)
more-numbers s a n m = more-from (λ k. wrap (s.0 +ℤ pos k *ℤ s.1)) a n m

pub long-numbers : (s : Step) (a n : ℕ) → length (of s a n) ≡ n
long-numbers s a n = length-map-range_with_len (λ k. wrap (s.0 +ℤ pos k *ℤ s.1)) a n

holds : Holds of
holds = record { more = more-numbers; long = long-numbers }

abbrev none : Step
none = (pos 0, pos 0)

both : (steps : List Step) → zip (inits_in steps) (strides_in steps) ≡ steps
both [] = refl
both (s ∷ steps) = ap (λ others. s ∷ others) (both steps)

pairs : (steps : List Step) → length (strides_in steps) ≡ length (inits_in steps)
pairs steps = omega (arith, length-map steps (λ (s : Step). s.0), length-map steps (λ (s : Step). s.1))

valued : (head : ℕ) (lengths : List ℕ) (steps : List Step) (n : ℕ) → PartWith head lengths (length steps) n → PartWith head lengths (length (inits_in steps)) n
valued head lengths steps n part = subst (λ k. PartWith head lengths k n) (sym (length-map steps (λ (s : Step). s.0))) part

in-part : (before head : ℕ) (lengths : List ℕ) (steps : List Step) (n : ℕ) → PartWith head lengths (length steps) n
    → numbers_in_part (if_opened head before) head lengths (inits_in steps) (strides_in steps) n ≡ held of holds none before head lengths steps n
in-part before zero lengths [] n part = let all : n ≡ n - 0 = omega arith in ap (λ k. take k (joined (progressions_of [] [] lengths))) all
in-part before zero lengths (s ∷ steps) n part =
    let all : n ≡ n - 0 = omega arith in
    λ i. take (all i) (joined (map (λ p. of p.0 0 p.1) (zip (both (s ∷ steps) i) lengths)))
in-part before (suc h) lengths [] n part = absurd (omega (arith, part.one_each))
in-part before (suc h) lengths (s ∷ steps) n part =
    let some : suc h ≢ 0 = λ e. omega (arith, e) in
    let starts = take (n - suc h) (joined (progressions_of (inits_in steps) (strides_in steps) lengths)) in
    numbered before (suc h) lengths (inits_in (s ∷ steps)) (strides_in (s ∷ steps)) (inits_in steps) (strides_in steps) n (of s before (suc h)) starts
    (valued (suc h) lengths (s ∷ steps) n part) (pairs (s ∷ steps)) (λ e. absurd (some e)) (λ e. refl) (λ e. absurd (some e)) (λ e. refl) refl refl
    ∙ λ i. of s before (suc h) ++ take (n - suc h) (joined (map (λ p. of p.0 0 p.1) (zip (both steps i) lengths)))

abbrev own_numbers : FillPart Step ℤ → List ℤ
own_numbers p = numbers_in_part p.done p.head p.lengths (inits_in p.values) (strides_in p.values) (length p.room)

-- its open segment is not too long
abbrev FitsDone : FillPart Step ℤ → Type 0
FitsDone p = Fits p × (p.done + p.head ≤ most_places)

own-part : (p : FillPart Step ℤ) → Fits p → PartWith p.head p.lengths (length p.values) (length p.room)
own-part p fit = part-with p.head p.lengths (length p.values) (length p.room) (and_from _ _ fit.part (eq-eqb _ _ fit.one_each))

no-more : (head before : ℕ) → if_opened head before ≤ before
no-more zero before = omega arith
no-more (suc h) before = omega arith

behind-more : (before head : ℕ) (lengths : List ℕ) (n : ℕ) → done_behind before head lengths n ≤ before + n
behind-more before head [] n = omega arith
behind-more before head (l ∷ lengths) n = omega arith

few-done : (before : ℕ) (parts : List (FillPart Step ℤ)) → AreDone before parts → All Fits parts → before + length (room_of parts) ≤ most_places → All FitsDone parts
few-done before [] are fit few = All-nil FitsDone
few-done before (p ∷ parts) are fit few =
    let own = All-head Fits p parts fit in
    let total = length-append p.room (room_of parts) in
    All-cons FitsDone p parts (own, omega (arith, are.0, no-more p.head before, (own-part p own).enough, total, few))
    (few-done (done_behind before p.head p.lengths (length p.room)) parts are.1 (All-tail Fits p parts fit) (omega (arith, behind-more before p.head p.lengths (length p.room), total, few)))

written : (own left : FillPart Step ℤ) → Numbers own left → FitsDone own → left.room ≡ own_numbers own
written own left does fits =
    let n = length own.room in let fit = fits.0 in
    let inits = inits_in own.values in let strides = strides_in own.values in
    let long : length own.values ≡ length inits = sym (length-map own.values (λ (s : Step). s.0)) in
    let whole : is_part_with own.head own.lengths (length inits) n ≡ true = and_from _ _ fit.part (eq-eqb _ _ (sym long ∙ fit.one_each)) in
    let call : List ℕ → Result (List ℤ) Fault = λ segments. part_index_of own.done own.head segments inits strides n in
    let meaning : part_index_by own.done own.head (map pos own.lengths) inits strides own.room ≡ Ok (own_numbers own) =
    within own.room (by_segments (map pos own.lengths) call) fit.few_elements
    ∙ ap (λ r. r >>= call) (are_lengths own.lengths fit.few_lengths fit.small)
    ∙ part-indexes own.done own.head own.lengths inits strides n fits.1 whole (pairs own.values) in
    let told : Told (Ok (own_numbers own)) does.0.0 own.room left.room = subst (λ m. Told m does.0.0 own.room left.room) meaning does.0.1 in
    told.1

each-held : (before : ℕ) (parts : List (FillPart Step ℤ)) → AreDone before parts → All Fits parts → joined (map own_numbers parts) ≡ held_from of holds none before parts
each-held before [] are fit = refl
each-held before (p ∷ parts) are fit =
    let n = length p.room in
    let first : own_numbers p ≡ held of holds none before p.head p.lengths p.values n =
    ap (λ k. numbers_in_part k p.head p.lengths (inits_in p.values) (strides_in p.values) n) are.0
    ∙ in-part before p.head p.lengths p.values n (own-part p (All-head Fits p parts fit)) in
    let rest = each-held (done_behind before p.head p.lengths n) parts are.1 (All-tail Fits p parts fit) in
    λ i. first i ++ rest i

pub indexes : (lengths : List ℤ) (segments : List ℕ) (steps : List Step) (start end : List (FillPart Step ℤ)) → lengths_of lengths ≡ Ok segments → ArePartsOf segments steps start
    → AreDone 0 start → AllZip Numbers start end
    → RoomTold (by_segments lengths (seg_index_within most_places (inits_in steps) (strides_in steps))) done (room_of start) (room_of end)
indexes lengths segments steps start end is are are_done numbered_parts =
    let inits = inits_in steps in let strides = strides_in steps in
    let few = few-of lengths segments is in
    let nests = nested segments (room_of start) are.whole.0 are.whole.1 in
    let fit : All Fits start = all-fit segments steps start few.0 few.1 are in
    let fits = few-done 0 start are_done fit (omega (arith, nests.0, few.1)) in
    let whole = joined (progressions_of inits strides segments) in
    let as_many : length inits ≡ length segments = length-map steps (λ (s : Step). s.0) ∙ are.one_each in
    let now : room_of end ≡ whole =
    ap joined (alike_where Numbers FitsDone own_numbers (λ p. p.room) written start end numbered_parts fits)
    ∙ each-held 0 start are_done fit ∙ filled of holds none segments steps start are
    ∙ sym (λ i. joined (map (λ p. of p.0 0 p.1) (zip (both steps i) segments))) in
    let long : length whole ≡ length (room_of start) =
    sym (lists-whole (numbers 0) (zip inits strides) segments (ap length (both steps) ∙ are.one_each)) ∙ nests.0 in
    let meaning : by_segments lengths (seg_index_within most_places inits strides) ≡ Ok whole =
    ap (λ r. r >>= seg_index_within most_places inits strides) is ∙ index-fits most_places inits strides segments (sym (pairs steps)) as_many few.1 in
    subst (λ m. RoomTold m done (room_of start) (room_of end)) (sym meaning)
    (subst (λ ys. RoomTold (Ok whole) done (room_of start) ys) (sym now) (tells_done whole (room_of start) long))
