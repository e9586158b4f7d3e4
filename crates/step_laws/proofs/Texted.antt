-- Texts by steps.
use Rattle.std.proofs.Common.{◌≡◌, ◌≢◌, ◌+◌, ◌-◌, ◌<◌, ◌≤◌, ◌++◌, ◌∙◌, ℕ, zero, suc, if◌then◌else◌, List, [], ◌∷◌, length, map, sum, take, Result}
use Rattle.std.proofs.Common.{Ok, refl, sym, ap, arith, subst, All, eqb, nat_lt, not, eq-eqb}
use mathlib.Core.List.{map-map}
use Rattle.std.proofs.lemmas.Bool.{le-ltb, ne_eqb}
use Rattle.std.proofs.lemmas.List.{append-nil, length-map, take_at}
use Rattle.std.proofs.lemmas.List.Elements.{All-head, All-tail}
use Rattle.std.specs.List.{AllZip}
use Rattle.operators.proofs.FoldLaws.{length-scan_of, scan_of-cons}
use Rattle.cvl_base.proofs.Lists.{sum-cons}
use Rattle.cvl_base.proofs.Rooms.{fits}
use Rattle.cvl_base.specs.declared.fault.Fault.{Fault}
use Rattle.cvl_base.specs.declared.fault.FaultNo.TheVariants as no
use Rattle.cvl_base.specs.Faults.{fault}
use Rattle.cvl_base.specs.Folds.{scan_of}
use Rattle.cvl_base.specs.Gives.{fault_if}
use Rattle.cvl_base.specs.Lists.{joined}
use Rattle.cvl_base.specs.Rooms.{in_room}
use Rattle.part_records.specs.Places.{Layout}
use Rattle.text_parts.specs.Pieces.{inside_of, last_piece_of, piece_in, piece_of}
use Rattle.text_parts.specs.Places.{piece_length, placed_of, text_layout_by, text_length}
use Rattle.text_parts.specs.Rooms.{most_bytes}
use Rattle.text_parts.proofs.Pieced.{same-length}
use Rattle.value_texts.specs.Texts.{vector_text}
use Rattle.c_calls.specs.Told.{FrontTold, Told, done, front_of}
use Rattle.c_calls.specs.declared.status.CvlStatus.{CvlStatus}
use Rattle.step_laws.specs.PackSteps.{SameBehind, ranges_of}
use Rattle.step_laws.specs.TextParts.{HavePlaces, HaveRanges, PlacedAlone, TextPart, counts_of, items_of}
use Rattle.step_laws.specs.TextSteps.{LaysOut, Makes, Puts, text_piece}
use Rattle.step_laws.proofs.Answered.{past_limit}
use Rattle.step_laws.proofs.Made.{each-made, in-front, laid-out, not-in-front, past, too-short}
use Rattle.step_laws.proofs.Packed.{ends, length-ranges}
use Rattle.step_laws.proofs.Parted.{alike, keeps}
use Rattle.step_laws.proofs.TextPieces.{HasText, between, last-long, lengths_of_pieces, piece-long, pieces-long, pieces_from, text-of-all, text-some, within}

-- ---- where the pieces go

-- how many bytes each part has of the text of all, which ends here: the last one has all that is left
abbrev lens : ℕ → ℕ → List ℕ → List ℕ
lens from end [] = []
lens from end (n ∷ []) = (end - from) ∷ []
lens from end (n ∷ m ∷ ns) = n ∷ lens (from + n) end (m ∷ ns)

places-are : (from end n : ℕ) (ns : List ℕ) → from + sum (n ∷ ns) ≤ end → scan_of ◌+◌ from (n ∷ ns) ++ end ∷ [] ≡ from ∷ ends from (lens from end (n ∷ ns))
places-are from end n [] fit =
    let last : end ≡ from + (end - from) = omega (arith, fit, sum-cons n []) in
    ap (λ ps. ps ++ end ∷ []) (scan_of-cons ◌+◌ from n []) ∙ ap (λ e. from ∷ e ∷ []) last
places-are from end n (m ∷ ns) fit =
    ap (λ ps. ps ++ end ∷ []) (scan_of-cons ◌+◌ from n (m ∷ ns))
    ∙ ap (λ ps. from ∷ ps) (places-are (from + n) end m ns (omega (arith, fit, sum-cons n (m ∷ ns))))

sum-lens : (from end n : ℕ) (ns : List ℕ) → from + sum (n ∷ ns) ≤ end → from + sum (lens from end (n ∷ ns)) ≡ end
sum-lens from end n [] fit = omega (arith, fit, sum-cons n [], sum-cons (end - from) [])
sum-lens from end n (m ∷ ns) fit =
    omega (arith, sum-cons n (lens (from + n) end (m ∷ ns)), sum-lens (from + n) end m ns (omega (arith, fit, sum-cons n (m ∷ ns))))

text-more : (n : ℕ) → n < text_length n
text-more zero = omega arith
text-more (suc n) = omega (arith, text-some (suc n) (omega arith))

module _ {X : Type 0} (text_of : X → List ℕ) where
  -- what stands between the brackets of a part's text
  abbrev inner : TextPart X ℕ → List ℕ
  inner p = within text_of p.items

  -- a part has its text in front of what it made
  abbrev pub HasMade : TextPart X ℕ → Type 0
  HasMade p = (take p.count p.own ≡ vector_text text_of p.items) × (p.count ≡ length (vector_text text_of p.items)) × (p.count ≤ length p.own)

  -- the parts have their places from this one on, and so many places of the room
  abbrev FitFrom : ℕ → ℕ → List (TextPart X ℕ) → Type 0
  FitFrom from end [] = Unit {0}
  FitFrom from end (p ∷ []) = (p.place ≡ from) × (length p.room ≡ end - from)
  FitFrom from end (p ∷ q ∷ ps) = (p.place ≡ from) × (length p.room ≡ length (piece_of 0 (inner p))) × FitFrom (from + length (piece_of 0 (inner p))) end (q ∷ ps)

  abbrev inners : List (TextPart X ℕ) → List (List ℕ)
  inners ps = map inner ps

  fit-from : (from end : ℕ) (ps : List (TextPart X ℕ)) → map (λ p. p.place) ps ≡ scan_of ◌+◌ from (lengths_of_pieces (inners ps))
      → map (λ p. length p.room) ps ≡ lens from end (lengths_of_pieces (inners ps)) → FitFrom from end ps
  fit-from from end [] places lengths = tt
  fit-from from end (p ∷ []) places lengths =
      let n = length (piece_of 0 (inner p)) in
      let listed : p.place ∷ [] ≡ from ∷ scan_of ◌+◌ (from + n) [] = places ∙ scan_of-cons ◌+◌ from n [] in
      let sized : length p.room ∷ [] ≡ (end - from) ∷ [] = lengths in
      (cc, cc)
  fit-from from end (p ∷ q ∷ ps) places lengths =
      let n = length (piece_of 0 (inner p)) in
      let others = lengths_of_pieces (inners (q ∷ ps)) in
      let listed : p.place ∷ map (λ (r : TextPart X ℕ). r.place) (q ∷ ps) ≡ from ∷ scan_of ◌+◌ (from + n) others = places ∙ scan_of-cons ◌+◌ from n others in
      let sized : length p.room ∷ map (λ (r : TextPart X ℕ). length r.room) (q ∷ ps) ≡ n ∷ lens (from + n) end others = lengths in
      let here : p.place ≡ from = cc in
      let there : map (λ (r : TextPart X ℕ). r.place) (q ∷ ps) ≡ scan_of ◌+◌ (from + n) others = cc in
      let long : length p.room ≡ n = cc in
      let longs : map (λ (r : TextPart X ℕ). length r.room) (q ∷ ps) ≡ lens (from + n) end others = cc in
      (here, long, fit-from (from + n) end (q ∷ ps) there longs)

  -- ---- each part puts its piece

  -- the piece of a part that has its text
  piece-is : (p : TextPart X ℕ) → HasMade p → text_piece p ≡ piece_in (length p.room) p.place (inner p)
  piece-is p (front, count, long) =
      ap (λ b. fault_if b (fault no.LengthMismatch) (piece_in (length p.room) p.place (inside_of (take p.count p.own)))) (le-ltb (length p.own) p.count long)
      ∙ ap (λ t. piece_in (length p.room) p.place (inside_of t)) front
      ∙ ap (piece_in (length p.room) p.place) (between (inner p))

  puts-piece : (p : TextPart X ℕ) → HasMade p → length p.room ≡ length (piece_of 0 (inner p)) → text_piece p ≡ Ok (piece_of p.place (inner p))
  puts-piece p made long =
      piece-is p made
      ∙ ap (λ b. if b then Ok (piece_of p.place (inner p)) else in_room (length p.room) (Ok (last_piece_of p.place (inner p))))
      (eq-eqb (length (piece_of p.place (inner p))) (length p.room) (same-length p.place (inner p) ∙ sym long))

  puts-last : (p : TextPart X ℕ) → HasMade p → p.place + length p.room ≡ text_length (p.place + length (piece_of 0 (inner p)))
      → text_piece p ≡ Ok (last_piece_of p.place (inner p))
  puts-last p made long =
      let full : length (last_piece_of p.place (inner p)) ≡ length p.room = omega (arith, long, last-long p.place (inner p)) in
      piece-is p made
      ∙ ap (λ b. if b then Ok (piece_of p.place (inner p)) else in_room (length p.room) (Ok (last_piece_of p.place (inner p))))
      (ne_eqb (length (piece_of p.place (inner p))) (length p.room)
      (λ e. omega (arith, e, long, same-length p.place (inner p), text-more (p.place + length (piece_of 0 (inner p))))))
      ∙ fits (length p.room) (last_piece_of p.place (inner p)) full

  written : (p q : TextPart X ℕ) (t : List ℕ) → Puts text_piece p q → text_piece p ≡ Ok t → q.room ≡ t
  written p q t ((status, told), alone) is = let full : Told (Ok t) status p.room q.room = subst (λ m. Told m status p.room q.room) is told in full.1

  put-all : (from end : ℕ) (p : TextPart X ℕ) (ps qs : List (TextPart X ℕ)) → AllZip (Puts text_piece) (p ∷ ps) qs → All HasMade (p ∷ ps) → FitFrom from end (p ∷ ps)
      → end ≡ text_length (from + sum (lengths_of_pieces (inners (p ∷ ps)))) → joined (map (λ q. q.room) qs) ≡ pieces_from from (inners (p ∷ ps))
  put-all from end p ps [] puts made fit ending = absurd puts
  put-all from end p [] (q ∷ r ∷ qs) puts made fit ending = absurd puts.1
  put-all from end p (s ∷ ps) (q ∷ []) puts made fit ending = absurd puts.1
  put-all from end p [] (q ∷ []) puts made fit ending =
      let n = length (piece_of 0 (inner p)) in
      let all : end ≡ text_length (from + n) = ending ∙ ap (λ m. text_length (from + m)) (omega (arith, sum-cons n [])) in
      let long : p.place + length p.room ≡ text_length (p.place + n) =
      omega (arith, fit.0, fit.1, all, text-more (from + n)) ∙ ap (λ k. text_length (k + n)) (sym fit.0) in
      append-nil q.room
      ∙ written p q (last_piece_of p.place (inner p)) puts.0 (puts-last p (All-head HasMade p [] made) long) ∙ ap (λ k. last_piece_of k (inner p)) fit.0
  put-all from end p (s ∷ ps) (q ∷ r ∷ qs) puts made fit ending =
      let n = length (piece_of 0 (inner p)) in
      let others = lengths_of_pieces (inners (s ∷ ps)) in
      let all : end ≡ text_length ((from + n) + sum others) = ending ∙ ap text_length (omega (arith, sum-cons n others)) in
      let own : q.room ≡ piece_of from (inner p) =
      written p q (piece_of p.place (inner p)) puts.0 (puts-piece p (All-head HasMade p (s ∷ ps) made) fit.1) ∙ ap (λ k. piece_of k (inner p)) fit.0 in
      let rest = put-all (from + n) end s ps (r ∷ qs) puts.1 (All-tail HasMade p (s ∷ ps) made) fit.2 all in
      (λ i. own i ++ rest i) ∙ ap (λ m. piece_of from (inner p) ++ pieces_from (from + m) (inners (s ∷ ps))) (sym (same-length from (inner p)))

  -- what the parts told says how long their pieces are
  counted : (ps : List (TextPart X ℕ)) → All HasMade ps → map piece_length (counts_of ps) ≡ lengths_of_pieces (inners ps)
  counted [] made = refl
  counted (p ∷ ps) made =
      let own : piece_length p.count ≡ length (piece_of 0 (inner p)) = ap piece_length (All-head HasMade p ps made).1 ∙ piece-long (inner p) in
      let rest = counted ps (All-tail HasMade p ps made) in λ i. own i ∷ rest i

  -- how long the text of all is
  long-all : (p : TextPart X ℕ) (ps : List (TextPart X ℕ)) → All (HasText text_of) (items_of (p ∷ ps))
      → (pieces_from 0 (inners (p ∷ ps)) ≡ vector_text text_of (items_of (p ∷ ps)))
      × (length (vector_text text_of (items_of (p ∷ ps))) ≡ text_length (sum (lengths_of_pieces (inners (p ∷ ps)))))
  long-all p ps some =
      let all : pieces_from 0 (inners (p ∷ ps)) ≡ vector_text text_of (items_of (p ∷ ps)) =
      ap (pieces_from 0) (sym (map-map (within text_of) (λ (q : TextPart X ℕ). q.items) (p ∷ ps))) ∙ text-of-all text_of p.items (map (λ q. q.items) ps) some in
      let none : 0 + sum (lengths_of_pieces (inners (p ∷ ps))) ≡ sum (lengths_of_pieces (inners (p ∷ ps))) = omega arith in
      let long = pieces-long 0 (inner p) (inners ps) in
      (all, ap length (sym all) ∙ omega arith ∙ long ∙ ap text_length none)

module _ {X : Type 0} (text_of : X → List ℕ) (call : List X → Result (List ℕ) Fault)
    (gives : (xs : List X) (t : List ℕ) → call xs ≡ Ok t → t ≡ vector_text text_of xs) where
  all-made : (start made : List (TextPart X ℕ)) → AllZip (Makes call) start made → All (HasMade text_of) made
  all-made start made first =
      keeps (Makes call) (λ own. Unit {0}) (HasMade text_of)
      (λ own left does none.
      let is = each-made call own left does in
      let text : is.made ≡ vector_text text_of left.items = gives own.items is.made is.gives ∙ ap (vector_text text_of) (sym is.same) in
      (is.front ∙ text, is.count ∙ ap length text, is.long))
      start made first (λ k d lt. tt)

  made-items : (start made : List (TextPart X ℕ)) → AllZip (Makes call) start made → map (λ p. p.items) made ≡ map (λ p. p.items) start
  made-items start made first =
      alike (Makes call) (λ (p : TextPart X ℕ). p.items) (λ (p : TextPart X ℕ). p.items) (λ own left does. (each-made call own left does).same) start made first

  -- the layout is that of the pieces
  laid : (made : List (TextPart X ℕ)) (n : ℕ) (now : Layout) → All (HasMade text_of) made → text_layout_by n (counts_of made) ≡ Ok now
      → (now.places ≡ scan_of ◌+◌ 0 (lengths_of_pieces (inners text_of made)) ++ text_length (sum (lengths_of_pieces (inners text_of made))) ∷ [])
      × (now.total ≡ text_length (sum (lengths_of_pieces (inners text_of made))))
  laid made n now has is =
      let counts = counts_of made in
      let all = placed_of piece_length text_length counts in
      let short = fault_if (not (eqb (length counts + 1) n)) (fault no.LengthMismatch) (Ok all) in
      let layout : all ≡ now =
      past_limit (not (eqb (length counts + 1) n)) (fault no.LengthMismatch) all now (past (nat_lt most_bytes (sum (map piece_length counts))) (fault no.TooLong) short now is) in
      let ns = counted text_of made has in (
        sym (ap (λ (l : Layout). l.places) layout) ∙ ap (λ ms. scan_of ◌+◌ 0 ms ++ text_length (sum ms) ∷ []) ns,
        sym (ap (λ (l : Layout). l.total) layout) ∙ ap (λ ms. text_length (sum ms)) ns,
      )

  pub fits-text : (start made : List (TextPart X ℕ)) (p : TextPart X ℕ) (ps end : List (TextPart X ℕ)) (before now : Layout) (room after : List ℕ)
      → call (items_of start) ≡ Ok (vector_text text_of (items_of start)) → All (HasText text_of) (items_of start)
      → AllZip (Makes call) start made → LaysOut text_layout_by made (length room) done before now
      → AllZip PlacedAlone made (p ∷ ps) → HavePlaces now.places (p ∷ ps) → HaveRanges now.places room (p ∷ ps)
      → AllZip (Puts text_piece) (p ∷ ps) end → HaveRanges now.places after end → SameBehind now room after
      → FrontTold (call (items_of start)) done (front_of room before.total) (front_of after now.total)
  fits-text start made p ps end before now room after is some first lays gets placed ranged last left_ranged behind =
      let items : List (TextPart X ℕ) → List (List X) = λ parts. map (λ q. q.items) parts in
      let same : items (p ∷ ps) ≡ items start =
      alike PlacedAlone (λ (q : TextPart X ℕ). q.items) (λ (q : TextPart X ℕ). q.items) (λ own left alone. ap (λ (q : TextPart X ℕ). q.items) alone) made (p ∷ ps) gets
      ∙ made-items start made first in
      let has = all-made start made first in
      let has_placed : All (HasMade text_of) (p ∷ ps) =
      keeps PlacedAlone (HasMade text_of) (HasMade text_of) (λ own left alone h. subst (HasMade text_of) (sym alone) h) made (p ∷ ps) gets has in
      let ns = lengths_of_pieces (inners text_of (p ∷ ps)) in
      let same_inner : inners text_of (p ∷ ps) ≡ inners text_of made =
      alike PlacedAlone (inner text_of) (inner text_of) (λ own left alone. ap (inner text_of) alone) made (p ∷ ps) gets in
      let out = laid-out text_layout_by made (length room) before now lays in
      let layout = laid made (length before.places) now has out.0 in
      let length_all = text_length (sum ns) in
      let places : now.places ≡ scan_of ◌+◌ 0 ns ++ length_all ∷ [] =
      layout.0 ∙ ap (λ js. scan_of ◌+◌ 0 (lengths_of_pieces js) ++ text_length (sum (lengths_of_pieces js)) ∷ []) (sym same_inner) in
      let total : now.total ≡ length_all = layout.1 ∙ ap (λ js. text_length (sum (lengths_of_pieces js))) (sym same_inner) in
      let fit : 0 + sum ns ≤ length_all = omega (arith, text-more (sum ns)) in
      let ls = lens 0 length_all ns in
      let ends_are : now.places ≡ 0 ∷ ends 0 ls = places ∙ places-are 0 length_all (length (piece_of 0 (inner text_of p))) (lengths_of_pieces (inners text_of ps)) fit in
      let sum_ls : sum ls ≡ length_all = omega (arith, sum-lens 0 length_all (length (piece_of 0 (inner text_of p))) (lengths_of_pieces (inners text_of ps)) fit) in
      let sizes : map (λ (q : TextPart X ℕ). length q.room) (p ∷ ps) ≡ ls =
      sym (map-map length (λ (q : TextPart X ℕ). q.room) (p ∷ ps)) ∙ ap (map length) (ranged ∙ ap (λ qs. ranges_of qs room) ends_are)
      ∙ length-ranges 0 ls room (omega (arith, sum_ls, total, out.1)) in
      let as_many : length (scan_of ◌+◌ 0 ns) ≡ length (p ∷ ps) =
      length-scan_of ◌+◌ 0 ns ∙ length-map (inners text_of (p ∷ ps)) (λ j. length (piece_of 0 j)) ∙ length-map (p ∷ ps) (inner text_of) in
      let begins : map (λ (q : TextPart X ℕ). q.place) (p ∷ ps) ≡ scan_of ◌+◌ 0 ns =
      placed ∙ ap (take (length (p ∷ ps))) places ∙ take_at (scan_of ◌+◌ 0 ns) (length_all ∷ []) (length (p ∷ ps)) as_many in
      let fitting = fit-from text_of 0 length_all (p ∷ ps) begins sizes in
      let some_placed : All (HasText text_of) (items_of (p ∷ ps)) = subst (λ lists. All (HasText text_of) (joined lists)) (sym same) some in
      let text = long-all text_of p ps some_placed in
      let none : sum ns ≡ 0 + sum ns = omega arith in
      let filled : joined (map (λ (q : TextPart X ℕ). q.room) end) ≡ vector_text text_of (items_of start) =
      put-all text_of 0 length_all p ps end last has_placed fitting (ap text_length none) ∙ text.0 ∙ ap (λ lists. vector_text text_of (joined lists)) same in
      let long : length (vector_text text_of (items_of start)) ≡ sum ls =
      ap (λ lists. length (vector_text text_of (joined lists))) (sym same) ∙ text.1 ∙ sym sum_ls in
      in-front (call (items_of start)) (vector_text text_of (items_of start)) before now ls room after is ends_are (total ∙ sym sum_ls) long out.1
      (ap joined (sym left_ranged) ∙ filled) behind

  pub short-text : (start : List (TextPart X ℕ)) (m : TextPart X ℕ) (ms : List (TextPart X ℕ)) (status : CvlStatus) (before now : Layout) (room : List ℕ)
      → call (items_of start) ≡ Ok (vector_text text_of (items_of start)) → All (HasText text_of) (items_of start)
      → length (vector_text text_of (items_of start)) ≤ most_bytes → length before.places ≡ length start + 1
      → AllZip (Makes call) start (m ∷ ms) → LaysOut text_layout_by (m ∷ ms) (length room) status before now → status ≢ done
      → FrontTold (call (items_of start)) status (front_of room before.total) (front_of room now.total)
  short-text start m ms status before now room is some small long first lays fails =
      let made = m ∷ ms in
      let same = made-items start made first in
      let has = all-made start made first in
      let some_made : All (HasText text_of) (items_of made) = subst (λ lists. All (HasText text_of) (joined lists)) (sym same) some in
      let text = long-all text_of m ms some_made in
      let whole : length (vector_text text_of (items_of start)) ≡ text_length (sum (lengths_of_pieces (inners text_of made))) =
      ap (λ lists. length (vector_text text_of (joined lists))) (sym same) ∙ text.1 in
      let counts = counts_of made in
      let pieces : map piece_length counts ≡ lengths_of_pieces (inners text_of made) = counted text_of made has in
      let few : sum (map piece_length counts) ≤ most_bytes =
      omega (arith, ap sum pieces, text-more (sum (lengths_of_pieces (inners text_of made))), whole, small) in
      let as_many : length counts ≡ length start =
      length-map made (λ (p : TextPart X ℕ). p.count) ∙ sym (length-map made (λ (p : TextPart X ℕ). p.items)) ∙ ap length same ∙ length-map start (λ (p : TextPart X ℕ). p.items) in
      let layout = placed_of piece_length text_length counts in
      let laid_out : text_layout_by (length before.places) counts ≡ Ok layout =
      ap (λ b. fault_if b (fault no.TooLong) (fault_if (not (eqb (length counts + 1) (length before.places))) (fault no.LengthMismatch) (Ok layout)))
      (le-ltb most_bytes (sum (map piece_length counts)) few)
      ∙ ap (λ b. fault_if (not b) (fault no.LengthMismatch) (Ok layout)) (eq-eqb (length counts + 1) (length before.places) (omega (arith, long, as_many))) in
      let short = too-short text_layout_by made (length room) status before now layout lays fails laid_out in
      let total : layout.total ≡ length (vector_text text_of (items_of start)) = ap (λ ls. text_length (sum ls)) pieces ∙ sym whole in
      not-in-front (call (items_of start)) (vector_text text_of (items_of start)) status before now room is (ap (λ (l : Layout). l.total) short.0 ∙ total)
      (omega (arith, short.1, total)) short.2
