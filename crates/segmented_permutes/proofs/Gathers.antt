-- The second walk of a segmented back permute over a room: what the room holds, element by element and segment by segment.
use Rattle.std.proofs.Common.{◌≡◌, ◌∙◌, ℕ, ◌+◌, ◌-◌, ◌<◌, ◌≤◌, List, [], ◌∷◌, ◌++◌, length, filter_map, map, set}
use Rattle.std.proofs.Common.{sum, take, drop, get_or, refl, sym, ap, append_assoc, append-nil, arith, ℤ, pos, Option, Some, None}
use Rattle.std.specs.List.{cons_option}
use Rattle.std.proofs.lemmas.List.{drop_all, drop-drop, get_or-set_same, length-set, take-append-drop, take-set-le, take_all, take_more}
use Rattle.std.proofs.lemmas.Slice.{take-put_mid}
use borrow.Rule.Slice.PartMut.{put_mid, same_len_mid}
use Rattle.cvl_base.specs.Extracts.{element_at}
use Rattle.fresh.specs.Parts.{length_part, part}
use Rattle.fresh.specs.Places.{somes}
use Rattle.permute_walks.specs.Indices.{AreInside, elements_at, first_outside}
use Rattle.permute_walks.proofs.Outside.{all_inside, at_more, length-elements_at}
use Rattle.segdes.specs.Starts.{start_of}
use Rattle.segment_sends.proofs.AllSent.{neither}
use Rattle.segment_sends.proofs.Ranges.{length-range}
use Rattle.segment_sends.proofs.Through.{segment_within, start_more}
use Rattle.segmented_permutes.specs.Backs.{IsSegmentedBack, outside_from, values_at}
use Rattle.segmented_permutes.proofs.Listed.{length-values, values_read}
use Rattle.segmented_permutes.proofs.Runs.{segment_next}

-- one more element
pub put_more : {X : Type 0} (out : List X) (k : ℕ) (x : X) → k < length out → take (k + 1) (set out k x) ≡ take k out ++ x ∷ []
put_more out k x lt =
    take_more (set out k x) k x (omega (arith, length-set out k x, lt)) ∙ (λ i. take-set-le k out k x (omega arith) i ++ get_or-set_same out k x x lt i ∷ [])

-- a segment of one index
pub one_gathered : {X : Type 0} (source out : List X) (index : List ℤ) (d : ℕ) (x : X) → length index ≡ 1 → length out ≡ length index → get_or index 0 (pos 0) ≡ pos d → d < length source
    → x ≡ get_or source d x → set out 0 x ≡ elements_at source index
one_gathered source out index d x one long names within is =
    sym (take_all 1 (set out 0 x) (omega (arith, length-set out 0 x, long, one)))
    ∙ put_more out 0 x (omega (arith, long, one))
    ∙ sym (at_more source index 0 d x (omega (arith, one)) names within is)
    ∙ ap (elements_at source) (take_all 1 index (omega (arith, one)))

module _ {X : Type 0} where
  somes_append : (vs ws : List (Option X)) → somes (vs ++ ws) ≡ somes vs ++ somes ws
  somes_append [] ws = refl
  somes_append (None ∷ vs) ws = somes_append vs ws
  somes_append (Some x ∷ vs) ws = ap (λ xs. x ∷ xs) (somes_append vs ws)

  somes_cons : (v : Option X) (vs : List (Option X)) → somes (v ∷ vs) ≡ cons_option v (somes vs)
  somes_cons None vs = refl
  somes_cons (Some x) vs = refl

  somes_read : {I : Type 0} (read : I → Option X) (is : List I) → somes (map read is) ≡ filter_map read is
  somes_read read [] = refl
  somes_read read (i ∷ is) = somes_cons (read i) (map read is) ∙ ap (cons_option (read i)) (somes_read read is)

module _ {X : Type 0} {widths : List ℕ} {source : List X} {lengths : List ℕ} {index : List ℤ} (fits : IsSegmentedBack widths source lengths index) where
  abbrev values : List (Option X)
  values = values_at widths source lengths index

  -- no index is outside from segment s on
  abbrev AreRight : ℕ → Type 0
  AreRight s = None ≡ outside_from (start_of lengths s) (drop s widths) (drop s lengths) (drop (start_of lengths s) index)

  -- a segment, as the code reads it
  module _ (s : ℕ) (lt : s < length lengths) (first n start m : ℕ) (there : first ≡ start_of lengths s) (is : n ≡ get_or lengths s 0)
      (begins : start ≡ start_of widths s) (wide : m ≡ get_or widths s 0)
      (right : AreRight s) where
    abbrev ys : List X
    ys = take (start + m - start) (drop start source)

    abbrev js : List ℤ
    js = take (first + n - first) (drop first index)

    both : (first_outside first m js ≡ None) × (outside_from (start_of lengths (s + 1)) (drop (s + 1) widths) (drop (s + 1) lengths) (drop (start_of lengths (s + 1)) index) ≡ None)
    both = neither _ _ (sym (right ∙ segment_next widths lengths index fits.total fits.count s lt first n m there is wide))

    pub right_next : AreRight (s + 1)
    right_next = sym both.1

    pub segment_inside : AreInside (length ys) js
    segment_inside =
        all_inside first (length ys) js (sym both.0 ∙ ap (λ k. first_outside first k js) (sym (length-range widths source fits.source_total s (omega (arith, lt, fits.count)) start m begins wide)))

    taken_here : somes (part values first n) ≡ elements_at ys js
    taken_here =
        ap somes (sym (values_read fits s start m first n first n lt begins wide refl refl (omega (arith, there)) (omega (arith, there, is, start_more lengths s lt)))) ∙ somes_read (element_at ys) js

    -- its elements are written
    pub gathered_more : (out new : List X) → length out ≡ length index → take first out ++ somes (drop first values) ≡ somes values
        → new ≡ put_mid first (first + n - first) out (elements_at ys js)
        → (length new ≡ length index) × (take (first + n) new ++ somes (drop (first + n) values) ≡ somes values)
    gathered_more out new long done put =
        let within : first + n ≤ length index = omega (arith, there, is, segment_within lengths index fits.total s lt) in
        let some : length (elements_at ys js) ≡ n = length-elements_at ys js segment_inside ∙ length-range lengths index fits.total s lt first n there is in
        let split : somes (drop first values) ≡ elements_at ys js ++ somes (drop (first + n) values) =
        ap somes (sym (take-append-drop n (drop first values))) ∙ somes_append (part values first n) (drop n (drop first values))
        ∙ (λ i. taken_here i ++ somes (drop-drop n first values i)) in (
          ap length put ∙ same_len_mid first (first + n - first) out (elements_at ys js) (omega (arith, some, length_part out first (first + n - first) (omega (arith, within, long)))) ∙ long,
          ap (λ xs. take (first + n) xs ++ somes (drop (first + n) values)) put
              ∙ ap (λ xs. xs ++ somes (drop (first + n) values))
              (take-put_mid first (first + n - first) out (elements_at ys js) (first + n) (omega (arith, some)) (omega (arith, within, long)))
              ∙ append_assoc (take first out) (elements_at ys js) (somes (drop (first + n) values))
              ∙ ap (λ xs. take first out ++ xs) (sym split)
              ∙ done,
        )

  pub gathered_all : (s first : ℕ) (out : List X) → first ≡ start_of lengths s → length lengths ≤ s → length out ≡ length index → take first out ++ somes (drop first values) ≡ somes values
      → out ≡ somes values
  gathered_all s first out there past long done =
      let all : first ≡ length index = there ∙ ap sum (take_all s lengths past) ∙ fits.total in
      let none : drop first values ≡ [] = drop_all first values (omega (arith, all, length-values fits)) in
      sym (ap (λ vs. take first out ++ somes vs) none ∙ append-nil (take first out) ∙ take_all first out (omega (arith, all, long))) ∙ done
