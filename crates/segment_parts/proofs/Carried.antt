-- What stands before each part: how many there are, and the step of a loop that writes them.
use Rattle.std.proofs.Common.{◌≡◌, ◌+◌, ◌<◌, ◌∙◌, ℕ, Bool, false, List, [], ◌∷◌, ◌++◌, length, map, take, get_or, zip, sym, ap, arith, if◌then◌else◌, set}
use Rattle.std.proofs.lemmas.List.{length-map, map-append, take_more, take_more_set}
use Rattle.std.proofs.lemmas.Slice.Zip.{get_or-zip, length-zip}
use Rattle.cvl_base.specs.Folds.{fold_of, scan_of}
use Rattle.cvl_base.specs.SegmentMonoid.{seg_join, seg_unit}
use Rattle.operators.proofs.FoldLaws.{fold_of_push, length-scan_of, scan_of_more}
use Rattle.segment_parts.specs.Carries.{before_each}

pub length-before_each : {Item : Type 0} (join : Item → Item → Item) (unit : Item) (starts : List Bool) (told : List Item) → length starts ≡ length told
    → length (before_each join unit starts told) ≡ length told
unfolding before_each
length-before_each join unit starts told same =
    length-map (scan_of (seg_join join) (seg_unit unit) (zip starts told)) (λ p. p.1)
    ∙ length-scan_of (seg_join join) (seg_unit unit) (zip starts told) ∙ omega (arith, length-zip starts told, same)

module _ {Item : Type 0} (join : Item → Item → Item) (unit : Item) (starts : List Bool) (told : List Item) (k : ℕ)
    (in_starts : k < length starts) (in_told : k < length told) (before : Item)
    (is : before ≡ (fold_of (seg_join join) (seg_unit unit) (take k (zip starts told))).1) where
  -- what then stands before the next part
  pub carried_more : (x next : Item) → x ≡ get_or told k x → next ≡ (if get_or starts k false then x else join before x)
      → next ≡ (fold_of (seg_join join) (seg_unit unit) (take (k + 1) (zip starts told))).1
  carried_more x next read is_next =
      let pairs = zip starts told in
      let within : k < length pairs = omega (arith, length-zip starts told) in
      let pair = get_or-zip starts told k (false, x) in_starts in_told in
      let more = take_more pairs k (false, x) within ∙ ap (λ p. take k pairs ++ p ∷ []) pair in
      is_next
      ∙ (λ i. if get_or starts k false then read i else join (is i) (read i))
      ∙ ap (λ p. p.1) (sym (ap (fold_of (seg_join join) (seg_unit unit)) more ∙ fold_of_push (seg_join join) (seg_unit unit) (take k pairs) (get_or starts k false, get_or told k x)))

  -- and what is written
  pub written_more : (out : List Item) → k < length out → take k out ≡ map (λ p. p.1) (scan_of (seg_join join) (seg_unit unit) (take k (zip starts told)))
      → take (k + 1) (set out k before) ≡ map (λ p. p.1) (scan_of (seg_join join) (seg_unit unit) (take (k + 1) (zip starts told)))
  written_more out in_out so_far =
      let pairs = zip starts told in
      let within : k < length pairs = omega (arith, length-zip starts told) in
      take_more_set out k before in_out
      ∙ (λ i. so_far i ++ is i ∷ [])
      ∙ sym (ap (map (λ p. p.1)) (scan_of_more (seg_join join) (seg_unit unit) pairs k within)
      ∙ map-append (λ p. p.1) (scan_of (seg_join join) (seg_unit unit) (take k pairs)) (fold_of (seg_join join) (seg_unit unit) (take k pairs) ∷ []))
