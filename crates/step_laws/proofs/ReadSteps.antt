-- The steps of a text that is read.
use Rattle.std.proofs.Common.{◌≡◌, ◌≢◌, ◌+◌, ◌<◌, ◌≤◌, ◌++◌, ◌∙◌, ℕ, ℤ, List, [], ◌∷◌, length, length-append, map, sum, take, Ok, Err, not, eqb, eq-eqb}
use Rattle.std.proofs.Common.{refl, sym, ap, arith, subst, All, ⊎_elim}
use mathlib.Core.List.{map-map}
use Rattle.std.proofs.lemmas.Bool.{cases_lt, le-ltb, lt-ltb}
use Rattle.std.proofs.lemmas.List.{length-map, length-take-le}
use Rattle.std.proofs.lemmas.List.Elements.{All-head, All-tail}
use Rattle.std.specs.List.{AllZip}
use Rattle.call_reader.specs.Inputs.{input_within}
use Rattle.cvl_base.proofs.Lists.{sum-cons}
use Rattle.cvl_base.specs.declared.fault.FaultNo.TheVariants as no
use Rattle.cvl_base.specs.Faults.{fault}
use Rattle.cvl_base.specs.Folds.{scan_of}
use Rattle.cvl_base.specs.Gives.{◌>>=◌, fault_if}
use Rattle.cvl_base.specs.Limits.{most_places}
use Rattle.cvl_base.specs.Lists.{joined}
use Rattle.line_reader.specs.Numbers.{written_number}
use Rattle.part_records.specs.Places.{Layout, layout_of}
use Rattle.part_records.specs.Totals.{total_within}
use Rattle.text_parts.specs.Places.{size_layout_by}
use Rattle.c_calls.specs.Told.{FrontTold, Told, done, front_of}
use Rattle.c_calls.specs.declared.status.CvlStatus.{CvlStatus}
use Rattle.call_laws.proofs.TwoParts.{from_value}
use Rattle.step_laws.specs.PackSteps.{SameBehind, ranges_of}
use Rattle.step_laws.specs.TextParts.{AreCutAtWhite, HaveRanges, PlacedAlone, TextPart, counts_of, items_of}
use Rattle.step_laws.specs.TextSteps.{LaysOut, Makes, Puts, integers_piece}
use Rattle.step_laws.proofs.Answered.{is_given, past_limit}
use Rattle.step_laws.proofs.Made.{each-made, in-front, laid-out, not-in-front, too-short}
use Rattle.step_laws.proofs.Packed.{ends, length-ranges, places-on}
use Rattle.step_laws.proofs.Parted.{alike, alike_where, each-alike, each-also, keeps}
use Rattle.step_laws.proofs.ReadTexts.{all-tokens, input-gives, input-is, let-through, toks, values, values-long}
use Rattle.step_laws.proofs.Valued.{joined-values}

-- the integers that a part read
abbrev read : TextPart ℕ ℤ → List ℤ
read p = take p.count p.own

-- a part has all that it told
abbrev HasRead : TextPart ℕ ℤ → Type 0
HasRead p = p.count ≤ length p.own

all-read : (start made : List (TextPart ℕ ℤ)) → AllZip (Makes (input_within most_places)) start made → All HasRead made
all-read start made first =
    keeps (Makes (input_within most_places)) (λ own. Unit {0}) HasRead (λ own left does none. (each-made (input_within most_places) own left does).long) start made first (λ k d lt. tt)

long-read : (ps : List (TextPart ℕ ℤ)) → All HasRead ps → length (joined (map read ps)) ≡ sum (counts_of ps)
long-read [] has = refl
long-read (p ∷ ps) has =
    omega (
      arith,
      length-append (read p) (joined (map read ps)),
      length-take-le p.count p.own (All-head HasRead p ps has),
      long-read ps (All-tail HasRead p ps has),
      sum-cons p.count (counts_of ps),
    )

-- the numbers of all tokens are those that the parts read, and there are as many
all-values : (start made : List (TextPart ℕ ℤ)) → AreCutAtWhite (map (λ p. p.items) start) → AllZip (Makes (input_within most_places)) start made
    → (values (toks (items_of start)) ≡ Ok (joined (map read made))) × (length (toks (items_of start)) ≡ sum (counts_of made))
all-values start made cut first =
    let items : List (List ℕ) = map (λ (p : TextPart ℕ ℤ). p.items) start in
    let each = each-also (Makes (input_within most_places)) (λ (own left : TextPart ℕ ℤ). values (toks own.items) ≡ Ok (read left))
    (λ own left does.
    let is = each-made (input_within most_places) own left does in
    (input-is own.items is.made is.gives).1 ∙ ap Ok (sym is.front))
    start made first in
    let tokens : toks (items_of start) ≡ joined (map (λ (p : TextPart ℕ ℤ). toks p.items) start) =
    all-tokens items cut ∙ ap joined (map-map toks (λ (p : TextPart ℕ ℤ). p.items) start) in
    let all : values (toks (items_of start)) ≡ Ok (joined (map read made)) =
    ap values tokens ∙ joined-values no.BadInput written_number (λ (p : TextPart ℕ ℤ). toks p.items) read start made each in
    let long : length (joined (map read made)) ≡ length (toks (items_of start)) =
    values-long no.BadInput 0 (map written_number (toks (items_of start))) (joined (map read made)) all ∙ length-map (toks (items_of start)) written_number in
    (all, sym long ∙ long-read made (all-read start made first))

-- a vector may have as many as were added up
few-in-all : (sizes : List ℕ) (before now : ℕ) → Told (total_within sizes) done before now → sum sizes ≤ most_places
few-in-all sizes before now told =
    (let-through most_places (sum sizes) (fault no.TooLong) (Ok (sum sizes)) now (is_given (total_within sizes) before now told)).0

total-is : (sizes : List ℕ) → sum sizes ≤ most_places → total_within sizes ≡ Ok (sum sizes)
total-is sizes few = ap (λ b. fault_if b (fault no.TooLong) (Ok (sum sizes))) (le-ltb most_places (sum sizes) few)

puts-own : (p : TextPart ℕ ℤ) → (length p.room ≡ p.count) × HasRead p → integers_piece p ≡ Ok (read p)
puts-own p (long, has) =
    ap (λ b. fault_if b (fault no.LengthMismatch) (Ok (take (length p.room) p.own))) (le-ltb (length p.own) (length p.room) (omega (arith, long, has)))
    ∙ ap (λ n. Ok (take n p.own)) long

put : (p q : TextPart ℕ ℤ) → Puts integers_piece p q → (length p.room ≡ p.count) × HasRead p → q.room ≡ read p
put p q ((status, told), alone) fits =
    let full : Told (Ok (read p)) status p.room q.room = subst (λ m. Told m status p.room q.room) (puts-own p fits) told in full.1

pub fits-read : (start made placed end : List (TextPart ℕ ℤ)) (before now : Layout) (room after : List ℤ)
    → AreCutAtWhite (map (λ p. p.items) start) → (was is : ℕ) → Told (total_within (counts_of made)) done was is
    → AllZip (Makes (input_within most_places)) start made → LaysOut size_layout_by made (length room) done before now
    → AllZip PlacedAlone made placed → HaveRanges now.places room placed
    → AllZip (Puts integers_piece) placed end → HaveRanges now.places after end → SameBehind now room after
    → FrontTold (input_within most_places (items_of start)) done (front_of room before.total) (front_of after now.total)
fits-read start made placed end before now room after cut was is added first lays gets ranged last left_ranged behind =
    let counts = counts_of made in
    let all = all-values start made cut first in
    let few = few-in-all counts was is added in
    let meaning : input_within most_places (items_of start) ≡ Ok (joined (map read made)) = input-gives (items_of start) (omega (arith, few, all.1)) ∙ all.0 in
    let out = laid-out size_layout_by made (length room) before now lays in
    let checked = λ (total : ℕ). fault_if (not (eqb (length counts + 1) (length before.places))) (fault no.LengthMismatch) (Ok (layout_of counts)) in
    let found = from_value (total_within counts) checked now out.0 in
    let layout : layout_of counts ≡ now = past_limit (not (eqb (length counts + 1) (length before.places))) (fault no.LengthMismatch) (layout_of counts) now found.2 in
    let from_none : sum counts ≡ 0 + sum counts = omega arith in
    let places : now.places ≡ 0 ∷ ends 0 counts =
    sym (ap (λ (l : Layout). l.places) layout) ∙ ap (λ n. scan_of ◌+◌ 0 counts ++ n ∷ []) from_none ∙ places-on 0 counts in
    let total : now.total ≡ sum counts = sym (ap (λ (l : Layout). l.total) layout) in
    let same_counts : map (λ (p : TextPart ℕ ℤ). p.count) placed ≡ counts =
    alike PlacedAlone (λ (p : TextPart ℕ ℤ). p.count) (λ (p : TextPart ℕ ℤ). p.count) (λ own left alone. ap (λ (p : TextPart ℕ ℤ). p.count) alone) made placed gets in
    let same_read : map read placed ≡ map read made = alike PlacedAlone read read (λ own left alone. ap read alone) made placed gets in
    let has_placed : All HasRead placed =
    keeps PlacedAlone HasRead HasRead (λ own left alone h. subst HasRead (sym alone) h) made placed gets (all-read start made first) in
    let sizes : map (λ (p : TextPart ℕ ℤ). length p.room) placed ≡ map (λ (p : TextPart ℕ ℤ). p.count) placed =
    sym (map-map length (λ (p : TextPart ℕ ℤ). p.room) placed) ∙ ap (map length) (ranged ∙ ap (λ ps. ranges_of ps room) places)
    ∙ length-ranges 0 counts room (omega (arith, total, out.1)) ∙ sym same_counts in
    let sized : All (λ (p : TextPart ℕ ℤ). length p.room ≡ p.count) placed = each-alike (λ (p : TextPart ℕ ℤ). length p.room) (λ (p : TextPart ℕ ℤ). p.count) placed sizes in
    let fitting : All (λ (p : TextPart ℕ ℤ). (length p.room ≡ p.count) × HasRead p) placed = λ k d lt. (sized k d lt, has_placed k d lt) in
    let rooms : map (λ (q : TextPart ℕ ℤ). q.room) end ≡ map read placed =
    alike_where (Puts integers_piece) (λ (p : TextPart ℕ ℤ). (length p.room ≡ p.count) × HasRead p) read (λ (q : TextPart ℕ ℤ). q.room) put placed end last fitting in
    in-front (input_within most_places (items_of start)) (joined (map read made)) before now counts room after meaning places total
    (long-read made (all-read start made first)) out.1 (ap joined (sym left_ranged ∙ rooms ∙ same_read)) behind

pub short-read : (start made : List (TextPart ℕ ℤ)) (status : CvlStatus) (before now : Layout) (room : List ℤ)
    → AreCutAtWhite (map (λ p. p.items) start) → (was is : ℕ) → Told (total_within (counts_of made)) done was is → length before.places ≡ length start + 1
    → AllZip (Makes (input_within most_places)) start made → LaysOut size_layout_by made (length room) status before now → status ≢ done
    → FrontTold (input_within most_places (items_of start)) status (front_of room before.total) (front_of room now.total)
short-read start made status before now room cut was is added long first lays fails =
    let counts = counts_of made in
    let all = all-values start made cut first in
    let few = few-in-all counts was is added in
    let meaning : input_within most_places (items_of start) ≡ Ok (joined (map read made)) = input-gives (items_of start) (omega (arith, few, all.1)) ∙ all.0 in
    let many : length (joined (map read made)) ≡ sum counts = long-read made (all-read start made first) in
    let same : map (λ (p : TextPart ℕ ℤ). p.items) made ≡ map (λ (p : TextPart ℕ ℤ). p.items) start =
    alike (Makes (input_within most_places)) (λ (p : TextPart ℕ ℤ). p.items) (λ (p : TextPart ℕ ℤ). p.items)
    (λ own left does. (each-made (input_within most_places) own left does).same) start made first in
    let as_many : length counts ≡ length start =
    length-map made (λ (p : TextPart ℕ ℤ). p.count) ∙ sym (length-map made (λ (p : TextPart ℕ ℤ). p.items)) ∙ ap length same ∙ length-map start (λ (p : TextPart ℕ ℤ). p.items) in
    let checked = λ (total : ℕ). fault_if (not (eqb (length counts + 1) (length before.places))) (fault no.LengthMismatch) (Ok (layout_of counts)) in
    let laid : size_layout_by (length before.places) counts ≡ Ok (layout_of counts) =
    ap (λ t. t >>= checked) (total-is counts few)
    ∙ ap (λ b. fault_if (not b) (fault no.LengthMismatch) (Ok (layout_of counts))) (eq-eqb (length counts + 1) (length before.places) (omega (arith, long, as_many))) in
    let short = too-short size_layout_by made (length room) status before now (layout_of counts) lays fails laid in
    not-in-front (input_within most_places (items_of start)) (joined (map read made)) status before now room meaning
    (ap (λ (l : Layout). l.total) short.0 ∙ sym many) (omega (arith, short.1, many)) short.2

-- more integers than a vector may have
pub too-many : (start made : List (TextPart ℕ ℤ)) (status : CvlStatus) (before now : ℕ) → AreCutAtWhite (map (λ p. p.items) start)
    → AllZip (Makes (input_within most_places)) start made → Told (total_within (counts_of made)) status before now → status ≢ done
    → input_within most_places (items_of start) ≡ Err (fault no.TooLong)
too-many start made status before now cut first told fails =
    let counts = counts_of made in
    let all = all-values start made cut first in
    ⊎_elim
    (λ (many : most_places < sum counts).
    ap (λ b. fault_if b (fault no.TooLong) (values (toks (items_of start)))) (lt-ltb most_places (length (toks (items_of start))) (omega (arith, many, all.1))))
    (λ (few : sum counts ≤ most_places). absurd (fails (subst (λ m. Told m status before now) (total-is counts few) told).0))
    (cases_lt most_places (sum counts))
