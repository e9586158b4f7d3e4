-- How long texts are, and how many tokens bytes have.
use Rattle.std.proofs.Common.{◌≡◌, ◌+◌, ◌*◌, ◌^◌, ◌≤◌, ℕ, ℤ, suc, pos, negsuc, Bool, true, false, if◌then◌else◌, IsTrue, List, [], ◌∷◌, codes, get_or}
use Rattle.std.proofs.Common.{length, length-append, map, map-id, sum, All, refl, sym, ap, arith, subst}
use Rattle.std.proofs.lemmas.Bool.{ltb-true, false≢true}
use Rattle.std.proofs.lemmas.Fmt.{decimal_nonempty, length_signed_le}
use Rattle.std.proofs.lemmas.List.Elements.{All-head, All-tail}
use Rattle.std.specs.Fmt.{signed_decimal}
use Rattle.call_reader.specs.Inputs.{input_class, is_white_space}
use Rattle.line_reader.specs.declared.token.ByteClass.TheVariants.{Blank, InToken}
use Rattle.line_reader.specs.Tokens.{begins_in_token, is_in_token, tokens_by, with_byte}
use Rattle.cvl_base.proofs.Lists.{sum-cons}
use Rattle.cvl_base.specs.ItemWords.{is_number}
use Rattle.cvl_base.specs.Lists.{joined}
use Rattle.value_texts.specs.Texts.{boolean_text, vector_text}
use Rattle.step_laws.proofs.Parted.{all-parts}
use Rattle.step_laws.proofs.TextPieces.{HasText, within}

module _ {X : Type 0} (text_of : X → List ℕ) (size : X → ℕ) where
  -- a text that takes so much, with what stands behind it
  abbrev pub Takes : X → Type 0
  Takes x = length (text_of x) + 1 ≤ size x

  within-few : (xs : List X) → All Takes xs → length (within text_of xs) ≤ sum (map size xs)
  within-few [] few = omega arith
  within-few (x ∷ []) few = omega (arith, All-head Takes x [] few, sum-cons (size x) [])
  within-few (x ∷ y ∷ ys) few =
      omega (
        arith,
        All-head Takes x (y ∷ ys) few,
        within-few (y ∷ ys) (All-tail Takes x (y ∷ ys) few),
        sum-cons (size x) (map size (y ∷ ys)),
        length-append (text_of x) (32 ∷ within text_of (y ∷ ys)),
      )

  pub text-few : (xs : List X) → All Takes xs → length (vector_text text_of xs) ≤ sum (map size xs) + 2
  text-few xs few = omega (arith, within-few xs few, length-append (within text_of xs) (codes "]"))

pub same-sizes : {X : Type 0} (n : ℕ) (xs : List X) → sum (map (λ (x : X). n) xs) ≡ length xs * n
same-sizes n [] = omega arith
same-sizes n (x ∷ xs) = let more : suc (length xs) * n ≡ n + length xs * n = omega arith in omega (arith, same-sizes n xs, sum-cons n (map (λ y. n) xs), more)

pub segment-sizes : {X : Type 0} (n : ℕ) (segments : List (List X)) → sum (map (λ xs. length xs * n + 3) segments) ≡ length (joined segments) * n + length segments * 3
segment-sizes n [] = omega arith
segment-sizes n (xs ∷ segments) =
    let both : length (joined (xs ∷ segments)) ≡ length xs + length (joined segments) = length-append xs (joined segments) in
    let more : (length xs + length (joined segments)) * n ≡ length xs * n + length (joined segments) * n = omega arith in
    omega (arith, segment-sizes n segments, sum-cons (length xs * n + 3) (map (λ ys. length ys * n + 3) segments), ap (λ m. m * n) both, more)

-- ---- integers and booleans

pub number-has-text : (z : ℤ) → IsTrue (is_number z) → HasText signed_decimal z
number-has-text (pos n) is = decimal_nonempty n (omega (arith, ltb-true n (2 ^ 31) is))
number-has-text (negsuc n) is = omega arith

pub number-takes : (z : ℤ) → IsTrue (is_number z) → Takes signed_decimal (λ z. 12) z
number-takes (pos n) is = let few = ltb-true n (2 ^ 31) is in omega (arith, length_signed_le 10 (pos n) (omega (arith, few)) (omega (arith, few)))
number-takes (negsuc n) is = let few = ltb-true n (2 ^ 31) is in omega (arith, length_signed_le 10 (negsuc n) (omega (arith, few)) (omega (arith, few)))

pub boolean-has-text : (b : Bool) → HasText boolean_text b
boolean-has-text true = omega arith
boolean-has-text false = omega arith

pub boolean-takes : (b : Bool) → Takes boolean_text (λ b. 2) b
boolean-takes true = omega arith
boolean-takes false = omega arith

-- ---- vectors and segments

module _ {X : Type 0} (text_of : X → List ℕ) (n : ℕ) where
  pub vector-few : (xs : List X) → All (Takes text_of (λ x. n)) xs → length (vector_text text_of xs) ≤ length xs * n + 2
  vector-few xs few = omega (arith, text-few text_of (λ x. n) xs few, same-sizes n xs)

  -- each segment has its elements' property
  pub each-segment : (P : X → Type 0) (segments : List (List X)) → All P (joined segments) → All (All P) segments
  each-segment P segments holds =
      subst (All (All P)) (map-id segments) (all-parts (λ (xs : List X). xs) P segments (subst (λ lists. All P (joined lists)) (sym (map-id segments)) holds))

  pub segments-few : (segments : List (List X)) → All (Takes text_of (λ x. n)) (joined segments)
      → length (vector_text (vector_text text_of) segments) ≤ length (joined segments) * n + length segments * 3 + 2
  segments-few segments few =
      let each : All (All (Takes text_of (λ x. n))) segments = each-segment (Takes text_of (λ x. n)) segments few in
      let takes : All (Takes (vector_text text_of) (λ xs. length xs * n + 3)) segments = λ k d lt. omega (arith, vector-few (get_or segments k d) (each k d lt)) in
      omega (arith, text-few (vector_text text_of) (λ xs. length xs * n + 3) segments takes, segment-sizes n segments)

pub vector-has-text : {X : Type 0} (text_of : X → List ℕ) (xs : List X) → HasText (vector_text text_of) xs
vector-has-text text_of xs = omega arith

-- ---- tokens

-- one byte more, which is white or not; the bytes behind it begin in a token or not
one-more : (white begins : Bool) (b : ℕ) (tokens : List (List ℕ)) (n : ℕ) → 2 * length tokens ≤ n + 1 → (begins ≡ false → 2 * length tokens ≤ n)
    → (2 * length (with_byte (if white then Blank else InToken) begins b tokens) ≤ suc n + 1)
    × (is_in_token (if white then Blank else InToken) ≡ false → 2 * length (with_byte (if white then Blank else InToken) begins b tokens) ≤ suc n)
one-more true begins b tokens n few fewer = (omega (arith, few), λ none. omega (arith, few))
one-more false true b [] n few fewer = (omega arith, λ none. absurd (false≢true (sym none)))
one-more false true b (t ∷ tokens) n few fewer = (omega (arith, few), λ none. absurd (false≢true (sym none)))
one-more false false b tokens n few fewer = (omega (arith, fewer refl), λ none. absurd (false≢true (sym none)))

pub tokens-few : (bytes : List ℕ) → (2 * length (tokens_by input_class bytes) ≤ length bytes + 1)
    × (begins_in_token input_class bytes ≡ false → 2 * length (tokens_by input_class bytes) ≤ length bytes)
tokens-few [] = (omega arith, λ none. omega arith)
tokens-few (b ∷ bytes) =
    let rest = tokens-few bytes in
    one-more (is_white_space b) (begins_in_token input_class bytes) b (tokens_by input_class bytes) (length bytes) rest.0 rest.1
