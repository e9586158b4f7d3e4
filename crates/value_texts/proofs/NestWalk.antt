-- Texts that are appended one by one with a space before each, and then put in brackets.
use Rattle.std.proofs.Common.{◌≡◌, ℕ, suc, ◌+◌, ◌≤◌, ◌<◌, List, [], ◌∷◌, ◌++◌, length, map, sum, take, drop, refl, sym, ap, ◌∙◌, arith, append_assoc, append-nil, slice_set, ℤ, unsigned_abs}
use Rattle.std.specs.List.{join_with_byte}
use Rattle.std.proofs.lemmas.List.{take_all, length-drop, drop-drop, set_split}
use Rattle.cvl_base.specs.Nests.{cut_of}
use Rattle.cvl_base.proofs.Lists.{sum-cons}
use Rattle.value_texts.specs.Texts.{spaced, vector_text}
use Rattle.value_texts.proofs.Spaces.{join_spaced, begins_after}

-- a text that grows from one that begins with a third begins with that
pub begins_grown : (old mid more new : List ℕ) → take (length old) mid ≡ old → new ≡ mid ++ more → take (length old) new ≡ old
begins_grown old mid more new first grown = begins_after old mid more new first (ap (take (length (mid ++ more))) grown ∙ take_all (length (mid ++ more)) (mid ++ more) (omega arith))

-- a list with another element at one place
pub put_at : (xs : List ℕ) (i y : ℕ) → i < length xs → slice_set xs i y ≡ take i xs ++ (y ∷ drop (i + 1) xs)
put_at xs i y within =
    let next : suc i ≡ i + 1 = omega arith in
    set_split xs i y within ∙ ap (λ k. take i xs ++ (y ∷ drop k xs)) next

module _ {X : Type 0} (f : X → List ℕ) where
  -- one more text, with a space before it: what is left is one less
  pub one_more : (old spaced_old new whole : List ℕ) (x : X) (xs all : List X) → all ≡ x ∷ xs → old ++ spaced f all ≡ whole → spaced_old ≡ old ++ (32 ∷ []) → new ≡ spaced_old ++ f x
      → new ++ spaced f xs ≡ whole
  one_more old spaced_old new whole x xs all parts before space text =
      ap (λ t. t ++ spaced f xs) (text ∙ ap (λ t. t ++ f x) space ∙ append_assoc old (32 ∷ []) (f x)) ∙ append_assoc old (32 ∷ f x) (spaced f xs)
      ∙ ap (λ ys. old ++ spaced f ys) (sym parts) ∙ before

  -- nothing in brackets
  pub brackets_on_nothing : (old : List ℕ) (begun : ℕ) (xs : List X) → length old ≤ begun → drop begun old ≡ spaced f xs
      → old ++ (91 ∷ 93 ∷ []) ≡ take begun old ++ (91 ∷ (join_with_byte 32 (map f xs) ++ (93 ∷ [])))
  brackets_on_nothing old begun [] end nothing = ap (λ t. t ++ (91 ∷ 93 ∷ [])) (sym (take_all begun old end))
  brackets_on_nothing old begun (x ∷ xs) end nothing = absurd (omega (arith, ap length nothing, length-drop begun old))

  -- texts in brackets, of which the first stands in place of the first space
  pub brackets_on : (old new : List ℕ) (begun : ℕ) (xs : List X) → begun < length old → drop begun old ≡ spaced f xs
      → new ≡ (take begun old ++ (91 ∷ drop (begun + 1) old)) ++ (93 ∷ []) → new ≡ take begun old ++ (91 ∷ (join_with_byte 32 (map f xs) ++ (93 ∷ [])))
  brackets_on old new begun [] within texts put = absurd (omega (arith, ap length texts, length-drop begun old))
  brackets_on old new begun (x ∷ xs) within texts put =
      let place : drop 1 (drop begun old) ≡ drop (begun + 1) old = drop-drop 1 begun old ∙ ap (λ k. drop k old) (omega arith) in
      let joined : drop (begun + 1) old ≡ join_with_byte 32 (map f (x ∷ xs)) = sym place ∙ ap (drop 1) texts ∙ sym (join_spaced f x xs) in
      put ∙ append_assoc (take begun old) (91 ∷ drop (begun + 1) old) (93 ∷ []) ∙ ap (λ t. take begun old ++ (91 ∷ (t ++ (93 ∷ [])))) joined

-- a text that began as `old` and will be `all`: what is left to write are the segments of these lengths
pub record IsUnderway {X : Type 0} (f : X → List ℕ) (old all text : List ℕ) (lengths : List ℤ) (xs : List X) : Type 0 where
  pub whole : text ++ spaced (vector_text f) (cut_of (map unsigned_abs lengths) xs) ≡ all
  pub begins : take (length old) text ≡ old
  pub total : sum (map unsigned_abs lengths) ≡ length xs

-- nothing is written yet
pub underway : {X : Type 0} (f : X → List ℕ) (old : List ℕ) (lengths : List ℤ) (xs : List X) → sum (map unsigned_abs lengths) ≡ length xs
    → IsUnderway f old (old ++ spaced (vector_text f) (cut_of (map unsigned_abs lengths) xs)) old lengths xs
underway f old lengths xs total = record { whole = refl; begins = take_all (length old) old (omega arith); total = total }

module _ {X : Type 0} {f : X → List ℕ} {old all text : List ℕ} {left : List ℤ} {rest : List X} (is : IsUnderway f old all text left rest) where
  pub none_left : left ≡ [] → text ≡ all
  none_left none = sym (append-nil text) ∙ ap (λ ls. text ++ spaced (vector_text f) (cut_of (map unsigned_abs ls) rest)) (sym none) ∙ is.whole

  module _ (first : ℤ) (others : List ℤ) (n : ℕ) (parts : left ≡ first ∷ others) (count : unsigned_abs first ≡ n) where
    sizes : map unsigned_abs left ≡ n ∷ map unsigned_abs others
    sizes = ap (map unsigned_abs) parts ∙ ap (λ k. k ∷ map unsigned_abs others) count

    pub segment_within : n ≤ length rest
    segment_within = omega (arith, ap sum sizes, sum-cons n (map unsigned_abs others), is.total)

    -- one segment more is written, with a space before it
    pub segment_written : (segment behind : List X) (spaced_text new : List ℕ) → segment ≡ take n rest → behind ≡ drop n rest
        → spaced_text ≡ text ++ (32 ∷ []) → new ≡ spaced_text ++ vector_text f segment → IsUnderway f old all new others behind
    segment_written segment behind spaced_text new front back space written =
        let next = cut_of (map unsigned_abs others) behind in
        let cut : cut_of (map unsigned_abs left) rest ≡ segment ∷ next = ap (λ ls. cut_of ls rest) sizes ∙ (λ i. sym front i ∷ cut_of (map unsigned_abs others) (sym back i)) in
        record {
          whole = one_more (vector_text f) text spaced_text new all segment next (cut_of (map unsigned_abs left) rest) cut is.whole space written;
          begins = begins_grown old spaced_text (vector_text f segment) new (begins_grown old text (32 ∷ []) spaced_text is.begins space) written;
          total = omega (arith, ap sum sizes, sum-cons n (map unsigned_abs others), is.total, ap length back, length-drop n rest);
        }

  -- a segment is refused after the space before it
  pub refused_after : (spaced_text new : List ℕ) → spaced_text ≡ text ++ (32 ∷ []) → take (length spaced_text) new ≡ spaced_text → take (length old) new ≡ old
  refused_after spaced_text new space later = begins_after old text (32 ∷ []) new is.begins (rw (← space) later)
