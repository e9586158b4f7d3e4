-- Texts by steps: of integers, of booleans, and of segments.
use Rattle.std.proofs.Common.{◌≡◌, ◌*◌, ◌≤◌, ◌∙◌, ℕ, ℤ, pos, Bool, List, [], ◌∷◌, get_or, length, map, sum}
use Rattle.std.proofs.Common.{Result, Ok, sym, ap, arith, All, nat_lt, unsigned_abs, option_map, position}
use mathlib.Core.List.{map-map}
use Rattle.std.proofs.lemmas.List.{length-map}
use Rattle.std.proofs.lemmas.List.Elements.{length_all_zip}
use Rattle.std.proofs.Math.Nat.{mul-le-mul_left}
use Rattle.std.specs.Fmt.{signed_decimal}
use Rattle.std.specs.Int.{is_negative}
use Rattle.cvl_base.proofs.Descriptors.{abs_pos}
use Rattle.cvl_base.specs.declared.fault.Fault.{Fault}
use Rattle.cvl_base.specs.declared.fault.FaultNo.TheVariants as no
use Rattle.cvl_base.specs.Descriptors.{descriptor_within}
use Rattle.cvl_base.specs.Faults.{fault, fault_at}
use Rattle.cvl_base.specs.Gives.{◌>>=◌, fault_if, unless}
use Rattle.cvl_base.specs.Limits.{most_places}
use Rattle.cvl_base.specs.Lists.{joined}
use Rattle.segdes.proofs.Checked.{lengths_made}
use Rattle.cvl_base.specs.Nests.{nest}
use Rattle.text_parts.specs.Places.{text_layout_by}
use Rattle.text_parts.specs.Rooms.{most_bytes}
use Rattle.value_texts.specs.Texts.{boolean_text, nest_text, vector_text}
use Rattle.c_calls.specs.Calls.{lengths_of}
use Rattle.c_calls.specs.NestedTexts.{segments_text}
use Rattle.call_laws.proofs.TwoParts.{from_value}
use Rattle.call_laws.proofs.Cuts.{nest-joined, sum-lengths}
use Rattle.call_laws.proofs.Sending.{unless-Ok}
use Rattle.step_laws.specs.TextParts.{PlacedAlone, TextPart, items_of}
use Rattle.step_laws.specs.TextSteps.{AreSegments, IsMadeBySteps, IsTooShortBySteps, Makes, OfBooleanSegments, OfBooleans, OfIntegerSegments, OfIntegers, Puts}
use Rattle.step_laws.specs.TextSteps.{booleans_text, integers_text, nested_text, text_piece}
use Rattle.step_laws.proofs.AnyOrder.{in_any_order}
use Rattle.step_laws.proofs.Answered.{past_limit, within}
use Rattle.step_laws.proofs.Made.{past}
use Rattle.step_laws.proofs.TextBounds.{Takes, boolean-has-text, boolean-takes, number-has-text, number-takes, segments-few, vector-few, vector-has-text}
use Rattle.step_laws.proofs.Texted.{fits-text, short-text}
use Rattle.step_laws.proofs.TextPieces.{HasText}

module _ {X : Type 0} (text_of : X → List ℕ) (call : List X → Result (List ℕ) Fault)
    (gives : (xs : List X) (t : List ℕ) → call xs ≡ Ok t → t ≡ vector_text text_of xs) (Known : List (TextPart X ℕ) → List (TextPart X ℕ) → Type 0)
    (whole : (start made : List (TextPart X ℕ)) → Known start made → (call (items_of start) ≡ Ok (vector_text text_of (items_of start)))
    × All (HasText text_of) (items_of start) × (length (vector_text text_of (items_of start)) ≤ most_bytes)) where
  pub made-by-steps : IsMadeBySteps call text_layout_by text_piece Known
  made-by-steps start made [] end before now room after some long first known lays gets places ranged last left_ranged behind =
      let as_many = length_all_zip PlacedAlone made [] gets in
      let also = length_all_zip (Makes call) start made (in_any_order (Makes call) start made first) in
      absurd (omega (arith, some, as_many, also))
  made-by-steps start made (p ∷ ps) end before now room after some long first known lays gets places ranged last left_ranged behind =
      let is = whole start made known in
      fits-text text_of call gives start made p ps end before now room after is.0 is.1 (in_any_order (Makes call) start made first) lays gets places ranged
      (in_any_order (Puts text_piece) (p ∷ ps) end last) left_ranged behind

  pub short-by-steps : IsTooShortBySteps call text_layout_by text_piece Known
  short-by-steps start [] status before now room some long first known lays fails =
      let also = length_all_zip (Makes call) start [] (in_any_order (Makes call) start [] first) in
      absurd (omega (arith, some, also))
  short-by-steps start (m ∷ ms) status before now room some long first known lays fails =
      let is = whole start (m ∷ ms) known in
      short-text text_of call gives start m ms status before now room is.0 is.1 is.2 long (in_any_order (Makes call) start (m ∷ ms) first) lays fails

-- ---- integers and booleans

pub integers-give : (xs : List ℤ) (t : List ℕ) → integers_text xs ≡ Ok t → t ≡ vector_text signed_decimal xs
integers-give xs t is = sym (past_limit (nat_lt most_places (length xs)) (fault no.TooLong) (vector_text signed_decimal xs) t is)

pub booleans-give : (bs : List Bool) (t : List ℕ) → booleans_text bs ≡ Ok t → t ≡ vector_text boolean_text bs
booleans-give bs t is = sym (past_limit (nat_lt most_places (length bs)) (fault no.TooLong) (vector_text boolean_text bs) t is)

pub all-integers : (start made : List (TextPart ℤ ℕ)) → OfIntegers start made → (integers_text (items_of start) ≡ Ok (vector_text signed_decimal (items_of start)))
    × All (HasText signed_decimal) (items_of start) × (length (vector_text signed_decimal (items_of start)) ≤ most_bytes)
all-integers start made (numbers, few) =
    let xs : List ℤ = items_of start in
    let takes : All (Takes signed_decimal (λ z. 12)) xs = λ k d lt. number-takes (get_or xs k d) (numbers k d lt) in
    (within xs (Ok (vector_text signed_decimal xs)) few, λ k d lt. number-has-text (get_or xs k d) (numbers k d lt), omega (arith, few, vector-few signed_decimal 12 xs takes))

pub all-booleans : (start made : List (TextPart Bool ℕ)) → OfBooleans start made → (booleans_text (items_of start) ≡ Ok (vector_text boolean_text (items_of start)))
    × All (HasText boolean_text) (items_of start) × (length (vector_text boolean_text (items_of start)) ≤ most_bytes)
all-booleans start made few =
    let bs : List Bool = items_of start in
    let takes : All (Takes boolean_text (λ b. 2)) bs = λ k d lt. boolean-takes (get_or bs k d) in
    (within bs (Ok (vector_text boolean_text bs)) few, λ k d lt. boolean-has-text (get_or bs k d), omega (arith, few, vector-few boolean_text 2 bs takes))

-- ---- segments

module _ {X : Type 0} (text_of : X → List ℕ) where
  abbrev lengths : List (List X) → List ℤ
  lengths segments = map (λ xs. pos (length xs)) segments

  as-lengths : (segments : List (List X)) → lengths segments ≡ map pos (map length segments)
  as-lengths segments = sym (map-map pos length segments)

  measured : (segments : List (List X)) → map unsigned_abs (lengths segments) ≡ map length segments
  measured segments = ap (map unsigned_abs) (as-lengths segments) ∙ abs_pos (map length segments)

  only-lengths : (segments : List (List X)) (ns : List ℕ) → lengths_of (lengths segments) ≡ Ok ns → ns ≡ map length segments
  only-lengths segments ns is =
      let zs = lengths segments in
      let inside = past (nat_lt most_places (length zs)) (fault no.TooLong) (descriptor_within most_places zs) ns is in
      let few = fault_if (nat_lt most_places (sum (map unsigned_abs zs))) (fault no.TooLong) (Ok (map unsigned_abs zs)) in
      let made = (unless-Ok (option_map (fault_at no.NegativeLength) (position is_negative zs)) few ns inside).1 in
      sym (past_limit (nat_lt most_places (sum (map unsigned_abs zs))) (fault no.TooLong) (map unsigned_abs zs) ns made) ∙ measured segments

  nested : (segments : List (List X)) → segments_text text_of (joined segments) (map length segments) ≡ Ok (nest_text text_of segments)
  nested segments = ap (λ r. r >>= λ lists. Ok (nest_text text_of lists)) (nest-joined segments)

  pub segments-give : (segments : List (List X)) (t : List ℕ) → nested_text text_of segments ≡ Ok t → t ≡ vector_text (vector_text text_of) segments
  segments-give segments t is =
      let found = from_value (lengths_of (lengths segments)) (segments_text text_of (joined segments)) t is in
      let made : Ok t ≡ Ok (nest_text text_of segments) =
      sym found.2 ∙ ap (segments_text text_of (joined segments)) (only-lengths segments found.0 found.1) ∙ nested segments in
      cc

  pub segments-text : (segments : List (List X)) → AreSegments segments → nested_text text_of segments ≡ Ok (vector_text (vector_text text_of) segments)
  segments-text segments (few, total) =
      let ns = map length segments in let zs = map pos ns in
      let small : sum (map unsigned_abs zs) ≤ most_places = omega (arith, ap sum (abs_pos ns), sum-lengths segments, total) in
      let made : descriptor_within most_places zs ≡ Ok ns = lengths_made most_places zs (ap (map pos) (sym (abs_pos ns))) small ∙ ap Ok (abs_pos ns) in
      let known : lengths_of (lengths segments) ≡ Ok ns =
      ap lengths_of (as-lengths segments) ∙ within zs (descriptor_within most_places zs) (omega (arith, few, length-map ns pos, length-map segments length)) ∙ made in
      ap (λ r. r >>= segments_text text_of (joined segments)) known ∙ nested segments

  -- segments of elements that take so much have a text that a memory may hold
  pub segments-whole : (n : ℕ) (segments : List (List X)) → n ≤ 12 → AreSegments segments → All (Takes text_of (λ x. n)) (joined segments)
      → (nested_text text_of segments ≡ Ok (vector_text (vector_text text_of) segments)) × All (HasText (vector_text text_of)) segments
      × (length (vector_text (vector_text text_of) segments) ≤ most_bytes)
  segments-whole n segments least are takes =
      let fewer : length (joined segments) * n ≤ length (joined segments) * 12 = mul-le-mul_left (length (joined segments)) least in
      (segments-text segments are, λ k d lt. vector-has-text text_of (get_or segments k d), omega (arith, fewer, are.0, are.1, segments-few text_of n segments takes))

pub all-integer-segments : (start made : List (TextPart (List ℤ) ℕ)) → OfIntegerSegments start made
    → (nested_text signed_decimal (items_of start) ≡ Ok (vector_text (vector_text signed_decimal) (items_of start)))
    × All (HasText (vector_text signed_decimal)) (items_of start) × (length (vector_text (vector_text signed_decimal) (items_of start)) ≤ most_bytes)
all-integer-segments start made (numbers, are) =
    let xs : List ℤ = joined (items_of start) in
    segments-whole signed_decimal 12 (items_of start) (omega arith) are (λ k d lt. number-takes (get_or xs k d) (numbers k d lt))

pub all-boolean-segments : (start made : List (TextPart (List Bool) ℕ)) → OfBooleanSegments start made
    → (nested_text boolean_text (items_of start) ≡ Ok (vector_text (vector_text boolean_text) (items_of start)))
    × All (HasText (vector_text boolean_text)) (items_of start) × (length (vector_text (vector_text boolean_text) (items_of start)) ≤ most_bytes)
all-boolean-segments start made are =
    let bs : List Bool = joined (items_of start) in
    segments-whole boolean_text 2 (items_of start) (omega arith) are (λ k d lt. boolean-takes (get_or bs k d))
