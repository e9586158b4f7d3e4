-- Packs by steps.
use Rattle.std.proofs.Common.{◌≡◌, ◌≢◌, ◌+◌, ◌-◌, ◌++◌, ◌<◌, ◌≤◌, ◌∙◌, ℕ, ℤ, pos, Bool, true, false, not, List, [], ◌∷◌, length, length-append, map, sum, take, drop, Ok, Err}
use Rattle.std.proofs.Common.{refl, sym, ap, arith, subst, All, cond, ⊎_elim, unsigned_abs, eqb}
use mathlib.Core.List.{map-map}
use Rattle.std.proofs.lemmas.Bool.{cases_lt, eq-eqb, le-ltb, lt-ltb}
use Rattle.std.proofs.lemmas.List.{append-nil, drop-drop, drop_all, length-drop, length-map, length-take-le, map-append, take-append-drop}
use Rattle.std.proofs.lemmas.List.Elements.{filter-append}
use Rattle.std.proofs.lemmas.List.Sums.{count_by-le-length, sum_by-cons}
use Rattle.std.proofs.Math.Seq.{take-add}
use Rattle.std.specs.Prelude.{filter}
use Rattle.std.specs.List.{AllZip, zip}
use Rattle.cvl_base.proofs.Descriptors.{abs_pos}
use Rattle.cvl_base.proofs.Elementwise.{if_as_long-fits}
use Rattle.cvl_base.proofs.Lists.{sum-cons}
use Rattle.cvl_base.specs.declared.fault.FaultNo.TheVariants as no
use Rattle.cvl_base.specs.Descriptors.{descriptor_within}
use Rattle.cvl_base.specs.Faults.{fault}
use Rattle.cvl_base.specs.Folds.{scan_of}
use Rattle.cvl_base.specs.Gives.{◌>>=◌, fault_if}
use Rattle.cvl_base.specs.Limits.{most_places}
use Rattle.cvl_base.specs.Lists.{joined}
use Rattle.cvl_base.specs.Packs.{count_of, pack_of}
use Rattle.operators.proofs.FoldLaws.{scan_of-cons}
use Rattle.segdes.proofs.Checked.{lengths_made}
use Rattle.part_records.specs.Places.{Layout, fits_room, fitted, layout_by, layout_of, layout_or}
use Rattle.flag_calls.specs.Flags.{flags_of}
use Rattle.c_calls.specs.Calls.{in_limit}
use Rattle.c_calls.specs.Told.{FrontTold, Told, at_front, done, front_of}
use Rattle.c_calls.specs.declared.status.CvlStatus.{CvlStatus}
use Rattle.step_laws.specs.PackSteps.{CountsKept, HaveRanges, LaysOut, Packs, SameBehind, flags_in, ranges_of, ranges_on, values_in}
use Rattle.step_laws.specs.Parts.{FillsAlone, Part, elements_of, told_of}
use Rattle.step_laws.proofs.Answered.{is_given, numbered, past_limit, within}
use Rattle.step_laws.proofs.Parted.{alike, alike_where, each-alike, some-fewer}

module _ {X : Type 0} where
  -- what is kept of elements
  abbrev pub kept : List (X × Bool) → List X
  kept es = map (λ e. e.0) (filter (λ e. e.1) es)

  zip-parts : (es : List (X × Bool)) → zip (values_in es) (flags_in es) ≡ es
  zip-parts [] = refl
  zip-parts (e ∷ es) = ap (λ rest. e ∷ rest) (zip-parts es)

  pack-kept : (es : List (X × Bool)) → pack_of (values_in es) (flags_in es) ≡ Ok (kept es)
  pack-kept es =
      if_as_long-fits (values_in es) (flags_in es) _ (length-map es (λ (e : X × Bool). e.0) ∙ sym (length-map es (λ (e : X × Bool). e.1)))
      ∙ ap (λ (ps : List (X × Bool)). Ok (map (λ p. p.0) (filter (λ p. p.1) ps))) (zip-parts es)

  length-kept : (es : List (X × Bool)) → length (kept es) ≡ count_of (flags_in es)
  length-kept [] = refl
  length-kept ((x, true) ∷ es) =
      let more : count_of (true ∷ flags_in es) ≡ 1 + count_of (flags_in es) = sum_by-cons (λ (flag : Bool). cond flag 1 0) true (flags_in es) in
      omega (arith, length-kept es, more)
  length-kept ((x, false) ∷ es) =
      let more : count_of (false ∷ flags_in es) ≡ 0 + count_of (flags_in es) = sum_by-cons (λ (flag : Bool). cond flag 1 0) false (flags_in es) in
      omega (arith, length-kept es, more)

  kept-append : (es others : List (X × Bool)) → kept (es ++ others) ≡ kept es ++ kept others
  kept-append es others =
      ap (map (λ (e : X × Bool). e.0)) (filter-append (λ (e : X × Bool). e.1) es others) ∙ map-append (λ (e : X × Bool). e.0) (filter (λ e. e.1) es) (filter (λ e. e.1) others)

  kept-joined : (lists : List (List (X × Bool))) → kept (joined lists) ≡ joined (map kept lists)
  kept-joined [] = refl
  kept-joined (es ∷ lists) = kept-append es (joined lists) ∙ ap (λ others. kept es ++ others) (kept-joined lists)

  counted-joined : (lists : List (List (X × Bool))) → count_of (flags_in (joined lists)) ≡ sum (map (λ es. count_of (flags_in es)) lists)
  counted-joined [] = refl
  counted-joined (es ∷ lists) =
      let others : List (X × Bool) = joined lists in
      let both : length (kept (es ++ others)) ≡ length (kept es) + length (kept others) = ap length (kept-append es others) ∙ length-append (kept es) (kept others) in
      let whole : count_of (flags_in (es ++ others)) ≡ count_of (flags_in es) + count_of (flags_in others) =
      omega (arith, both, length-kept (es ++ others), length-kept es, length-kept others) in
      whole ∙ ap (λ n. count_of (flags_in es) + n) (counted-joined lists) ∙ sym (sum-cons (count_of (flags_in es)) (map (λ zs. count_of (flags_in zs)) lists))

  no-more : (es : List (X × Bool)) → count_of (flags_in es) ≤ length es
  no-more es = subst (λ n. count_of (flags_in es) ≤ n) (length-map es (λ (e : X × Bool). e.1)) (count_by-le-length (λ (f : Bool). f) (flags_in es))

-- ---- where each part's elements go

-- where each of some lengths ends
abbrev pub ends : ℕ → List ℕ → List ℕ
ends from [] = []
ends from (n ∷ lengths) = (from + n) ∷ ends (from + n) lengths

pub places-on : (from : ℕ) (lengths : List ℕ) → scan_of ◌+◌ from lengths ++ (from + sum lengths) ∷ [] ≡ from ∷ ends from lengths
places-on from [] = ap (λ place. place ∷ []) (omega arith)
places-on from (n ∷ lengths) =
    let last : from + sum (n ∷ lengths) ≡ (from + n) + sum lengths = omega (arith, sum-cons n lengths) in
    ap (λ places. places ++ (from + sum (n ∷ lengths)) ∷ []) (scan_of-cons ◌+◌ from n lengths)
    ∙ ap (λ place. from ∷ (scan_of ◌+◌ (from + n) lengths ++ place ∷ [])) last
    ∙ ap (λ places. from ∷ places) (places-on (from + n) lengths)

module _ {X : Type 0} where
  pub joined-ranges : (from : ℕ) (lengths : List ℕ) (room : List X) → joined (ranges_on from (ends from lengths) room) ≡ take (sum lengths) (drop from room)
  joined-ranges from [] room = refl
  joined-ranges from (n ∷ lengths) room =
      let rest = drop from room in
      let long : (from + n) - from ≡ n = omega arith in
      ap (λ m. take m rest ++ joined (ranges_on (from + n) (ends (from + n) lengths) room)) long
      ∙ ap (λ zs. take n rest ++ zs) (joined-ranges (from + n) lengths room)
      ∙ ap (λ zs. take n rest ++ take (sum lengths) zs) (sym (drop-drop n from room))
      ∙ sym (take-add n (sum lengths) rest)
      ∙ ap (λ m. take m rest) (sym (sum-cons n lengths))

  pub length-ranges : (from : ℕ) (lengths : List ℕ) (room : List X) → from + sum lengths ≤ length room → map length (ranges_on from (ends from lengths) room) ≡ lengths
  length-ranges from [] room fit = refl
  length-ranges from (n ∷ lengths) room fit =
      let total = sum-cons n lengths in
      let here : (from + n) - from ≤ length (drop from room) = omega (arith, fit, total, length-drop from room) in
      let long : length (take ((from + n) - from) (drop from room)) ≡ n = length-take-le ((from + n) - from) (drop from room) here ∙ omega arith in
      ap (λ m. m ∷ map length (ranges_on (from + n) (ends (from + n) lengths) room)) long
      ∙ ap (λ ms. n ∷ ms) (length-ranges (from + n) lengths room (omega (arith, fit, total)))

-- ---- the steps

-- an answer that all is done says that there is room
pub has-room : (room : ℕ) (layout : Layout) → Told (fits_room room layout) done tt tt → layout.total ≤ room
has-room room layout told =
    ⊎_elim
    (λ (short : room < layout.total).
    let none : Told (Err (fault no.LengthMismatch)) done tt tt =
    subst (λ b. Told (fault_if b (fault no.LengthMismatch) (Ok tt)) done tt tt) (lt-ltb room layout.total short) told in
    absurd (numbered no.LengthMismatch (sym (ap (λ (s : CvlStatus). s.number) none.0))))
    (λ (long : layout.total ≤ room). long)
    (cases_lt room layout.total)

module _ {X : Type 0} where
  -- how many elements each part keeps
  abbrev counts : List (Part (X × Bool) ℤ X) → List ℕ
  counts parts = map (λ p. count_of (flags_in p.elements)) parts

  told-counts : (start counted : List (Part (X × Bool) ℤ X)) → AllZip CountsKept start counted → told_of counted ≡ map pos (counts start)
  told-counts start counted first =
      alike CountsKept (λ (p : Part (X × Bool) ℤ X). pos (count_of (flags_in p.elements))) (λ (p : Part (X × Bool) ℤ X). p.told)
      (λ own left does.
      sym (past_limit _ _ (pos (count_of (flags_of does.0.0))) left.told (is_given _ own.told left.told does.0.2)) ∙ ap (λ flags. pos (count_of flags)) does.0.1)
      start counted first
      ∙ sym (map-map pos (λ (p : Part (X × Bool) ℤ X). count_of (flags_in p.elements)) start)

  total-kept : (start : List (Part (X × Bool) ℤ X)) → sum (counts start) ≡ count_of (flags_in (elements_of start))
  total-kept start =
      sym (counted-joined (map (λ p. p.elements) start) ∙ ap sum (map-map (λ es. count_of (flags_in es)) (λ (p : Part (X × Bool) ℤ X). p.elements) start))

  laid : (start : List (Part (X × Bool) ℤ X)) (places : ℕ) → length (elements_of start) ≤ most_places → length start ≤ most_places → places ≡ length start + 1
      → layout_by places (map pos (counts start)) ≡ Ok (layout_of (counts start))
  laid start places few few_parts long =
      let ns = counts start in
      let zs = map pos ns in
      let parts : length zs ≡ length start = length-map ns pos ∙ length-map start (λ (p : Part (X × Bool) ℤ X). count_of (flags_in p.elements)) in
      let small : sum (map unsigned_abs zs) ≤ most_places = omega (arith, ap sum (abs_pos ns), total-kept start, no-more (elements_of start), few) in
      let made : descriptor_within most_places zs ≡ Ok ns = lengths_made most_places zs (ap (map pos) (sym (abs_pos ns))) small ∙ ap Ok (abs_pos ns) in
      ap (λ b. fault_if b (fault no.TooLong)
      (descriptor_within most_places zs >>= λ lengths. fault_if (not (eqb (length zs + 1) places)) (fault no.LengthMismatch) (Ok (layout_of lengths))))
      (le-ltb most_places (length zs) (omega (arith, parts, few_parts)))
      ∙ ap (λ d. d >>= λ lengths. fault_if (not (eqb (length zs + 1) places)) (fault no.LengthMismatch) (Ok (layout_of lengths))) made
      ∙ ap (λ b. fault_if (not b) (fault no.LengthMismatch) (Ok (layout_of ns))) (eq-eqb (length zs + 1) places (omega (arith, parts, long)))

  -- what is laid out, and what is answered
  laid-out : (start counted : List (Part (X × Bool) ℤ X)) (room : ℕ) (status : CvlStatus) (before now : Layout) → length (elements_of start) ≤ most_places
      → length start ≤ most_places → length before.places ≡ length start + 1 → AllZip CountsKept start counted → LaysOut counted room status before now
      → Told (fits_room room (layout_of (counts start))) status tt tt × (now ≡ layout_of (counts start))
  laid-out start counted room status before now few few_parts long first lays =
      let by = length before.places in
      let is : layout_by by (told_of counted) ≡ Ok (layout_of (counts start)) =
      ap (layout_by by) (told-counts start counted first) ∙ laid start by few few_parts long in
      (subst (λ r. Told (fitted room r) status tt tt) is lays.0, lays.1 ∙ ap (layout_or before) is)

  -- a list that has room stands in front
  pub at-front : (room xs : List X) → length xs ≤ length room → at_front room xs ≡ Ok (xs ++ drop (length xs) room)
  at-front room xs long = ap (λ b. fault_if b (fault no.LengthMismatch) (Ok (xs ++ drop (length xs) room))) (le-ltb (length room) (length xs) long)

  -- a part that has a place for each element that it keeps
  abbrev Fits : Part (X × Bool) ℤ X → Type 0
  Fits p = (length p.room ≡ count_of (flags_in p.elements)) × (length p.elements ≤ most_places)

  meant : (es : List (X × Bool)) → length es ≤ most_places → in_limit (flags_in es) (pack_of (values_in es) (flags_in es)) ≡ Ok (kept es)
  meant es few = within (flags_in es) (pack_of (values_in es) (flags_in es)) (omega (arith, few, length-map es (λ (e : X × Bool). e.1))) ∙ pack-kept es

  packed : (own left : Part (X × Bool) ℤ X) → Packs own left → Fits own → left.room ≡ kept own.elements
  packed own left ((status, before, now, front), alone) (long, few) =
      let ks = kept own.elements in
      let full : length ks ≡ length own.room = length-kept own.elements ∙ sym long in
      let whole : at_front own.room ks ≡ Ok ks =
      at-front own.room ks (omega (arith, full))
      ∙ ap (λ rest. Ok (ks ++ rest)) (drop_all (length ks) own.room (omega (arith, full))) ∙ ap Ok (append-nil ks) in
      let written : Told (Ok ks) status own.room left.room =
      subst (λ r. Told r status own.room left.room) (ap (λ m. m >>= at_front own.room) (meant own.elements few) ∙ whole) front.0 in
      written.1

  pub fits : (start counted placed end : List (Part (X × Bool) ℤ X)) (before now : Layout) (room after : List X) → length (elements_of start) ≤ most_places
      → length start ≤ most_places → length before.places ≡ length start + 1 → AllZip CountsKept start counted → LaysOut counted (length room) done before now
      → AllZip FillsAlone counted placed → HaveRanges now.places room placed → AllZip Packs placed end → HaveRanges now.places after end → SameBehind now room after
      → FrontTold (in_limit (flags_in (elements_of start)) (pack_of (values_in (elements_of start)) (flags_in (elements_of start))))
      done (front_of room before.total) (front_of after now.total)
  fits start counted placed end before now room after few few_parts long first lays gets ranged last left_ranged behind =
      let es = elements_of start in
      let ns = counts start in
      let ks = kept es in
      let lists : List (Part (X × Bool) ℤ X) → List (List (X × Bool)) = λ parts. map (λ p. p.elements) parts in
      let out = laid-out start counted (length room) done before now few few_parts long first lays in
      let there : sum ns ≤ length room = has-room (length room) (layout_of ns) out.0 in
      let total : now.total ≡ sum ns = ap (λ (l : Layout). l.total) out.1 in
      let from_none : sum ns ≡ 0 + sum ns = omega arith in
      let places : now.places ≡ 0 ∷ ends 0 ns =
      ap (λ (l : Layout). l.places) out.1 ∙ ap (λ n. scan_of ◌+◌ 0 ns ++ n ∷ []) from_none ∙ places-on 0 ns in
      let many : length ks ≡ sum ns = length-kept es ∙ sym (total-kept start) in
      let told : lists counted ≡ lists start =
      alike CountsKept (λ (p : Part (X × Bool) ℤ X). p.elements) (λ (p : Part (X × Bool) ℤ X). p.elements) (λ own left does. ap (λ (p : Part (X × Bool) ℤ X). p.elements) does.1) start counted first in
      let same : lists placed ≡ lists start =
      alike FillsAlone (λ (p : Part (X × Bool) ℤ X). p.elements) (λ (p : Part (X × Bool) ℤ X). p.elements)
      (λ own left does. ap (λ (p : Part (X × Bool) ℤ X). p.elements) does) counted placed gets ∙ told in
      let rooms : map (λ (p : Part (X × Bool) ℤ X). p.room) placed ≡ ranges_on 0 (ends 0 ns) room = ranged ∙ ap (λ ps. ranges_of ps room) places in
      let own_lengths : map (λ (p : Part (X × Bool) ℤ X). length p.room) placed ≡ map (λ (p : Part (X × Bool) ℤ X). count_of (flags_in p.elements)) placed =
      sym (map-map length (λ (p : Part (X × Bool) ℤ X). p.room) placed) ∙ ap (map length) rooms ∙ length-ranges 0 ns room (omega (arith, there))
      ∙ sym (map-map (λ zs. count_of (flags_in zs)) (λ (p : Part (X × Bool) ℤ X). p.elements) start)
      ∙ ap (map (λ zs. count_of (flags_in zs))) (sym same)
      ∙ map-map (λ zs. count_of (flags_in zs)) (λ (p : Part (X × Bool) ℤ X). p.elements) placed in
      let fewer : length (joined (lists placed)) ≤ most_places = subst (λ zs. length (joined zs) ≤ most_places) (sym same) few in
      let few_each = some-fewer (λ (p : Part (X × Bool) ℤ X). p.elements) most_places placed fewer in
      let lengths_each = each-alike (λ (p : Part (X × Bool) ℤ X). length p.room) (λ (p : Part (X × Bool) ℤ X). count_of (flags_in p.elements)) placed own_lengths in
      let at_last : All Fits placed = λ k d lt. (lengths_each k d lt, few_each k d lt) in
      let written : map (λ (p : Part (X × Bool) ℤ X). p.room) end ≡ map (λ (p : Part (X × Bool) ℤ X). kept p.elements) placed =
      alike_where Packs Fits (λ (p : Part (X × Bool) ℤ X). kept p.elements) (λ (p : Part (X × Bool) ℤ X). p.room) packed placed end last at_last in
      let front : take (sum ns) after ≡ ks =
      sym (joined-ranges 0 ns after) ∙ ap joined (sym (left_ranged ∙ ap (λ ps. ranges_of ps after) places) ∙ written
      ∙ sym (map-map kept (λ (p : Part (X × Bool) ℤ X). p.elements) placed) ∙ ap (map kept) same)
      ∙ sym (kept-joined (lists start)) in
      let back : drop (sum ns) after ≡ drop (length ks) room =
      ap (λ n. drop n after) (sym total) ∙ behind ∙ ap (λ n. drop n room) (total ∙ sym many) in
      let whole : after ≡ ks ++ drop (length ks) room = sym (take-append-drop (sum ns) after) ∙ ap (λ zs. zs ++ drop (sum ns) after) front ∙ ap (λ zs. ks ++ zs) back in
      let all : FrontTold (Ok ks) done (front_of room before.total) (front_of after now.total) =
      (subst (λ r. Told r done room after) (sym (at-front room ks (omega (arith, many, there)))) (refl, whole), total ∙ sym many) in
      subst (λ m. FrontTold m done (front_of room before.total) (front_of after now.total)) (sym (meant es few)) all

  pub too_short : (start counted : List (Part (X × Bool) ℤ X)) (status : CvlStatus) (before now : Layout) (room : List X) → length (elements_of start) ≤ most_places
      → length start ≤ most_places → length before.places ≡ length start + 1 → AllZip CountsKept start counted → LaysOut counted (length room) status before now
      → status ≢ done
      → FrontTold (in_limit (flags_in (elements_of start)) (pack_of (values_in (elements_of start)) (flags_in (elements_of start))))
      status (front_of room before.total) (front_of room now.total)
  too_short start counted status before now room few few_parts long first lays fails =
      let es = elements_of start in
      let ns = counts start in
      let ks = kept es in
      let out = laid-out start counted (length room) status before now few few_parts long first lays in
      let total : now.total ≡ sum ns = ap (λ (l : Layout). l.total) out.1 in
      let many : length ks ≡ sum ns = length-kept es ∙ sym (total-kept start) in
      ⊎_elim
      (λ (short : length room < sum ns).
      let none : Told (Err (fault no.LengthMismatch)) status tt tt =
      subst (λ b. Told (fault_if b (fault no.LengthMismatch) (Ok tt)) status tt tt) (lt-ltb (length room) (sum ns) short) out.0 in
      let no_front : at_front room ks ≡ Err (fault no.LengthMismatch) =
      ap (λ b. fault_if b (fault no.LengthMismatch) (Ok (ks ++ drop (length ks) room))) (lt-ltb (length room) (length ks) (omega (arith, many, short))) in
      let all : FrontTold (Ok ks) status (front_of room before.total) (front_of room now.total) =
      (subst (λ r. Told r status room room) (sym no_front) (none.0, refl), total ∙ sym many) in
      subst (λ m. FrontTold m status (front_of room before.total) (front_of room now.total)) (sym (meant es few)) all)
      (λ (fit : sum ns ≤ length room).
      let ok : Told (Ok tt) status tt tt =
      subst (λ b. Told (fault_if b (fault no.LengthMismatch) (Ok tt)) status tt tt) (le-ltb (length room) (sum ns) fit) out.0 in
      absurd (fails ok.0))
      (cases_lt (length room) (sum ns))
