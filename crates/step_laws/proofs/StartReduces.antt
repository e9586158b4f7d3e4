-- The reduces of the segments that start in each part, the last one joined with what goes on behind the part, are those of all segments.
use Rattle.std.proofs.Common.{◌≡◌, ◌++◌, ◌∙◌, ℕ, Bool, true, List, [], ◌∷◌, length, map, take, drop, nat_lt, Ok, refl, sym, ap, arith, subst, if◌then◌else◌}
use Rattle.std.proofs.lemmas.Bool.{lt-ltb}
use Rattle.std.proofs.lemmas.List.{drop-map, length-map, map-append, take-map}
use Rattle.std.specs.List.{AllPass}
use Rattle.call_laws.proofs.OverRanks.{joined-together, seg_reduce-over_ranks}
use Rattle.call_laws.specs.OverRanks.{followed_by, goes_on_behind, going_on, reduces_over_ranks, reduces_with, together, up_to_start}
use Rattle.cvl_base.proofs.Nests.{joined-cut, lengths-cut}
use Rattle.cvl_base.specs.Folds.{fold_of}
use Rattle.cvl_base.specs.Lists.{joined}
use Rattle.cvl_base.specs.Monoid.{MonoidLaws}
use Rattle.cvl_base.specs.Nests.{cut_of}
use Rattle.cvl_base.specs.SegmentedCalls.{seg_reduce_of}
use Rattle.segment_parts.specs.Behinds.{behind_each, goes_on}
use Rattle.segment_parts.specs.Reduces.{join_last, start_reduces_of}
use Rattle.step_laws.specs.ReduceParts.{ArePartsOf, ReducePart, behinds_of, elements_of, segments_in}
use Rattle.step_laws.proofs.SegmentLengths.{nested}

-- ---- elements read as items

module _ {X Item : Type 0} (read : X → Item) where
  -- the lists of a part
  abbrev pub read_in : List X × List (List X) → List Item × List (List Item)
  read_in lists = (map read lists.0, map (map read) lists.1)

  going_on-read : (segment : List X) (others : List (List X)) (more : List X)
      → going_on (map read segment) (map (map read) others) (map read more) ≡ map (map read) (going_on segment others more)
  going_on-read segment [] more = ap (λ xs. xs ∷ []) (sym (map-append read segment more))
  going_on-read segment (other ∷ others) more = ap (λ lists. map read segment ∷ lists) (going_on-read other others more)

  followed_by-read : (front : List X) (segments : List (List X)) (behind : List X × List (List X))
      → followed_by (map read front) (map (map read) segments) (read_in behind) ≡ read_in (followed_by front segments behind)
  followed_by-read front [] behind = ap (λ xs. (xs, map (map read) behind.1)) (sym (map-append read front behind.0))
  followed_by-read front (segment ∷ others) behind =
      ap (λ lists. (map read front, lists))
      (ap (λ lists. lists ++ map (map read) behind.1) (going_on-read segment others behind.0) ∙ sym (map-append (map read) (going_on segment others behind.0) behind.1))

  together-read : (parts : List (List X × List (List X))) → together (map read_in parts) ≡ read_in (together parts)
  together-read [] = refl
  together-read (part ∷ others) =
      ap (followed_by (map read part.0) (map (map read) part.1)) (together-read others) ∙ followed_by-read part.0 part.1 (together others)

  joined-read : (lists : List (List X)) → joined (map (map read) lists) ≡ map read (joined lists)
  joined-read [] = refl
  joined-read (xs ∷ lists) = ap (λ ys. map read xs ++ ys) (joined-read lists) ∙ sym (map-append read xs (joined lists))

  lengths-read : (lists : List (List X)) → map length (map (map read) lists) ≡ map length lists
  lengths-read [] = refl
  lengths-read (xs ∷ lists) = (λ i. length-map xs read i ∷ lengths-read lists i)

  pub cut-read : (ns : List ℕ) (xs : List X) → cut_of ns (map read xs) ≡ map (map read) (cut_of ns xs)
  cut-read [] xs = refl
  cut-read (n ∷ ns) xs = (λ i. take-map read n xs i ∷ (ap (cut_of ns) (drop-map read n xs) ∙ cut-read ns (drop n xs)) i)

  -- parts, each with its lists
  abbrev pub ranks_of : List (ReducePart X Item) → List (List Item × List (List Item))
  ranks_of parts = map read_in (map segments_in parts)

-- ---- the parts' reduces

module _ {X Item : Type 0} (join : Item → Item → Item) (unit : Item) (read : X → Item) where
  -- what a part's head joins to, beside whether a segment starts in the part
  abbrev pub head_of : ReducePart X Item → Item
  head_of p = fold_of join unit (map read (take p.head p.elements))

  abbrev pub pair_of : ReducePart X Item → Bool × Item
  pair_of p = (nat_lt 0 (length p.lengths), head_of p)

  -- the reduces of the segments that start in a part
  abbrev pub reduces_in : ReducePart X Item → List Item
  reduces_in p = start_reduces_of join unit p.behind p.head p.lengths (map read p.elements)

  with-last : (segments : List (List Item)) (more : Item) → reduces_with join unit segments more ≡ join_last join (map (fold_of join unit) segments) more
  with-last [] more = refl
  with-last (segment ∷ []) more = refl
  with-last (segment ∷ other ∷ others) more = ap (λ values. fold_of join unit segment ∷ values) (with-last (other ∷ others) more)

  to-start : (ns : List ℕ) (xs : List X) (front behind : Item)
      → up_to_start join front (map (map read) (cut_of ns xs)) behind ≡ (if nat_lt 0 (length ns) then front else join front behind)
  to-start [] xs front behind = refl
  to-start (n ∷ ns) xs front behind =
      let some : nat_lt 0 (length (n ∷ ns)) ≡ true = lt-ltb 0 (length (n ∷ ns)) (omega arith) in sym (ap (λ b. if b then front else join front behind) some)

  behind-parts : (parts : List (ReducePart X Item)) → goes_on_behind join unit (ranks_of read parts) ≡ goes_on join unit (map pair_of parts)
  behind-parts [] = refl
  behind-parts (p ∷ parts) =
      to-start p.lengths (drop p.head p.elements) (head_of p) (goes_on_behind join unit (ranks_of read parts))
      ∙ ap (λ more. if nat_lt 0 (length p.lengths) then head_of p else join (head_of p) more) (behind-parts parts)

  pub each-reduces : (parts : List (ReducePart X Item)) → behinds_of parts ≡ behind_each join unit (map pair_of parts)
      → reduces_over_ranks join unit (ranks_of read parts) ≡ joined (map reduces_in parts)
  each-reduces [] behinds = refl
  each-reduces (p ∷ parts) behinds =
      let listed : p.behind ∷ behinds_of parts ≡ goes_on join unit (map pair_of parts) ∷ behind_each join unit (map pair_of parts) = behinds in
      let first : p.behind ≡ goes_on join unit (map pair_of parts) = cc in
      let rest : behinds_of parts ≡ behind_each join unit (map pair_of parts) = cc in
      let pieces : map (map read) (cut_of p.lengths (drop p.head p.elements)) ≡ cut_of p.lengths (drop p.head (map read p.elements)) =
      sym (ap (cut_of p.lengths) (drop-map read p.head p.elements) ∙ cut-read read p.lengths (drop p.head p.elements)) in
      let more = behind-parts parts ∙ sym first in
      let own = with-last (map (map read) (cut_of p.lengths (drop p.head p.elements))) (goes_on_behind join unit (ranks_of read parts))
      ∙ (λ i. join_last join (map (fold_of join unit) (pieces i)) (more i)) in
      (λ i. own i ++ each-reduces parts rest i)

-- ---- the reduces of the whole

module _ {X Item : Type 0} {is_item : Item → Bool} {unit : Item} {join : Item → Item → Item} (laws : MonoidLaws is_item unit join) (read : X → Item) (segments : List ℕ)
    (parts : List (ReducePart X Item)) (are : ArePartsOf segments parts) (items : AllPass is_item (map read (elements_of parts))) where
  pub whole-reduces : seg_reduce_of join unit (map read (elements_of parts)) segments ≡ Ok (reduces_over_ranks join unit (ranks_of read parts))
  whole-reduces =
      let ranks = ranks_of read parts in let xs = elements_of parts in
      let lists = are.whole.0 in let nests = nested segments xs lists are.whole.1 in
      let all : together ranks ≡ ([], map (map read) lists) = together-read read (map segments_in parts) ∙ ap (read_in read) are.whole.2 in
      let none : (together ranks).0 ≡ [] = ap (λ t. t.0) all in
      let starts : (together ranks).1 ≡ map (map read) lists = ap (λ t. t.1) all in
      let elements = sym (joined-together ranks) ∙ (λ i. none i ++ joined (starts i)) ∙ joined-read read lists
      ∙ ap (map read) (ap joined nests.1 ∙ joined-cut segments xs nests.0) in
      let lengths : map length (together ranks).1 ≡ segments =
      ap (map length) starts ∙ lengths-read read lists ∙ ap (map length) nests.1 ∙ lengths-cut segments xs (omega (arith, nests.0)) in
      sym (λ i. seg_reduce_of join unit (elements i) (lengths i)) ∙ seg_reduce-over_ranks laws ranks (subst (AllPass is_item) (sym elements) items) none
