-- The pieces of a text of all: one after another, with the last bracket, they are the text of all items.
use Rattle.std.proofs.Common.{◌≡◌, ◌+◌, ◌-◌, ◌<◌, ◌++◌, ◌∙◌, ℕ, zero, suc, if◌then◌else◌, List, [], ◌∷◌, append_assoc, codes, length, length-append, map}
use Rattle.std.proofs.Common.{sum, take, All, refl, sym, ap, arith, subst, drop_at}
use Rattle.std.proofs.lemmas.Bool.{lt-ltb, ne_eqb}
use Rattle.std.proofs.lemmas.List.{append-nil, map-append, take_at}
use Rattle.std.proofs.lemmas.List.Elements.{All-drop, All-head}
use Rattle.std.specs.List.{join_with_byte}
use Rattle.cvl_base.proofs.Lists.{sum-cons}
use Rattle.cvl_base.specs.Lists.{joined}
use Rattle.text_parts.specs.Pieces.{inside_of, last_piece_of, opening, piece_of}
use Rattle.text_parts.specs.Places.{piece_length, text_length}
use Rattle.text_parts.proofs.Pieced.{same-length}
use Rattle.value_texts.specs.Texts.{vector_text}

-- the pieces of parts whose texts have this between their brackets, from this place on, with the last bracket
abbrev pub pieces_from : ℕ → List (List ℕ) → List ℕ
pieces_from place [] = []
pieces_from place (j ∷ []) = last_piece_of place j
pieces_from place (j ∷ i ∷ js) = piece_of place j ++ pieces_from (place + length (piece_of place j)) (i ∷ js)

-- how many bytes a part's piece has
abbrev pub lengths_of_pieces : List (List ℕ) → List ℕ
lengths_of_pieces js = map (λ j. length (piece_of 0 j)) js

pub text-some : (n : ℕ) → 0 < n → text_length n ≡ n + 1
text-some n some = ap (λ b. if b then 2 else n + 1) (ne_eqb n 0 (λ e. omega (arith, some, e)))

pub last-long : (place : ℕ) (inside : List ℕ) → place + length (last_piece_of place inside) ≡ text_length (place + length (piece_of 0 inside))
last-long zero [] = refl
last-long (suc n) [] = omega (arith, text-some (suc n + 0) (omega arith))
last-long place (b ∷ bs) =
    omega (arith, length-append (opening place ∷ b ∷ bs) (codes "]"), text-some (place + length (piece_of 0 (b ∷ bs))) (omega arith))

pub pieces-long : (place : ℕ) (j : List ℕ) (js : List (List ℕ)) → place + length (pieces_from place (j ∷ js)) ≡ text_length (place + sum (lengths_of_pieces (j ∷ js)))
pieces-long place j [] =
    let one : length (piece_of 0 j) ≡ sum (lengths_of_pieces (j ∷ [])) = omega (arith, sum-cons (length (piece_of 0 j)) []) in
    last-long place j ∙ ap (λ n. text_length (place + n)) one
pieces-long place j (i ∷ js) =
    let own = length (piece_of place j) in let others = pieces_from (place + own) (i ∷ js) in
    let both : length (piece_of place j ++ others) ≡ own + length others = length-append (piece_of place j) others in
    let all : (place + own) + sum (lengths_of_pieces (i ∷ js)) ≡ place + sum (lengths_of_pieces (j ∷ i ∷ js)) =
    omega (arith, same-length place j, sum-cons (length (piece_of 0 j)) (lengths_of_pieces (i ∷ js))) in
    omega (arith, both) ∙ pieces-long (place + own) i js ∙ ap text_length all

-- ---- the items of all parts

texts-two : (x : List ℕ) (xs : List (List ℕ)) (y : List ℕ) (ys : List (List ℕ)) → join_with_byte 32 ((x ∷ xs) ++ (y ∷ ys)) ≡ join_with_byte 32 (x ∷ xs) ++ 32 ∷ join_with_byte 32 (y ∷ ys)
texts-two x [] y ys = refl
texts-two x (z ∷ zs) y ys = ap (λ more. x ++ 32 ∷ more) (texts-two z zs y ys) ∙ sym (append_assoc x (32 ∷ join_with_byte 32 (z ∷ zs)) (32 ∷ join_with_byte 32 (y ∷ ys)))

-- a piece with something between its brackets
pub some-piece : (place : ℕ) (j : List ℕ) → 0 < length j → piece_of place j ≡ opening place ∷ j
some-piece place [] some = absurd (omega (arith, some))
some-piece place (b ∷ bs) some = refl

pub some-last : (place : ℕ) (j : List ℕ) → 0 < length j → last_piece_of place j ≡ opening place ∷ (j ++ codes "]")
some-last place [] some = absurd (omega (arith, some))
some-last place (b ∷ bs) some = refl

-- behind a piece with something in it, the last one is a bracket, behind a space and what it has
last-behind : (place n : ℕ) (j : List ℕ) → 0 < length j → last_piece_of (place + suc n) j ≡ 32 ∷ (j ++ codes "]")
last-behind place n j some =
    let at : place + suc n ≡ suc (place + n) = omega arith in
    some-last (place + suc n) j some ∙ ap (λ k. opening k ∷ (j ++ codes "]")) at

none-behind : (place n : ℕ) → last_piece_of (place + suc n) [] ≡ codes "]"
none-behind place n = let at : place + suc n ≡ suc (place + n) = omega arith in ap (λ k. last_piece_of k []) at

-- the last piece at the front of all is the whole text
pub whole : (j : List ℕ) → last_piece_of 0 j ≡ codes "[" ++ (j ++ codes "]")
whole [] = refl
whole (b ∷ bs) = refl

pub between : (j : List ℕ) → inside_of (codes "[" ++ (j ++ codes "]")) ≡ j
between j =
    let long : length (j ++ codes "]") ≡ length j + 1 = length-append j (codes "]") in
    let less : length (codes "[" ++ (j ++ codes "]")) - 2 ≡ length j = omega (arith, long) in
    ap (λ n. take n (j ++ codes "]")) less ∙ take_at j (codes "]") (length j) refl

pub piece-long : (j : List ℕ) → piece_length (length (codes "[" ++ (j ++ codes "]"))) ≡ length (piece_of 0 j)
piece-long [] = refl
piece-long (b ∷ bs) =
    let n = length (codes "[" ++ ((b ∷ bs) ++ codes "]")) in
    let long : n ≡ length bs + 3 = omega (arith, length-append bs (codes "]")) in
    let less : n - 1 ≡ length bs + 2 = omega (arith, long) in
    ap (λ t. if t then n - 1 else 0) (lt-ltb 2 n (omega (arith, long))) ∙ less ∙ omega arith

module _ {X : Type 0} (text_of : X → List ℕ) where
  -- what stands between the brackets of a text
  abbrev pub within : List X → List ℕ
  within xs = join_with_byte 32 (map text_of xs)

  abbrev pub HasText : X → Type 0
  HasText x = 0 < length (text_of x)

  pub some-within : (x : X) (xs : List X) → HasText x → 0 < length (within (x ∷ xs))
  some-within x [] some = some
  some-within x (y ∷ ys) some = omega (arith, some, length-append (text_of x) (32 ∷ within (y ∷ ys)))

  within-two : (x : X) (xs : List X) (y : X) (ys : List X) → within ((x ∷ xs) ++ (y ∷ ys)) ≡ within (x ∷ xs) ++ 32 ∷ within (y ∷ ys)
  within-two x xs y ys =
      ap (join_with_byte 32) (map-append text_of (x ∷ xs) (y ∷ ys)) ∙ texts-two (text_of x) (map text_of xs) (text_of y) (map text_of ys)

  -- a piece, and the last one behind it
  piece-and-last : (place : ℕ) (x : X) (xs rest : List X) → HasText x → All HasText rest
      → piece_of place (within (x ∷ xs)) ++ last_piece_of (place + length (piece_of place (within (x ∷ xs)))) (within rest)
      ≡ last_piece_of place (within ((x ∷ xs) ++ rest))
  piece-and-last place x xs [] some others =
      let j = within (x ∷ xs) in let long = some-within x xs some in
      (λ i. some-piece place j long i ++ last_piece_of (place + length (some-piece place j long i)) [])
      ∙ ap (λ zs. (opening place ∷ j) ++ zs) (none-behind place (length j))
      ∙ sym (some-last place j long)
      ∙ ap (λ ys. last_piece_of place (within ys)) (sym (append-nil (x ∷ xs)))
  piece-and-last place x xs (y ∷ ys) some others =
      let j = within (x ∷ xs) in let k = within (y ∷ ys) in let long = some-within x xs some in
      let more = some-within y ys (All-head HasText y ys others) in
      (λ i. some-piece place j long i ++ last_piece_of (place + length (some-piece place j long i)) k)
      ∙ ap (λ zs. (opening place ∷ j) ++ zs) (last-behind place (length j) k more)
      ∙ ap (λ zs. opening place ∷ zs) (sym (append_assoc j (32 ∷ k) (codes "]")))
      ∙ sym (some-last place (j ++ 32 ∷ k) (omega (arith, long, length-append j (32 ∷ k))))
      ∙ ap (last_piece_of place) (sym (within-two x xs y ys))

  pub all-pieces : (place : ℕ) (own : List X) (others : List (List X)) → All HasText (joined (own ∷ others))
      → pieces_from place (map within (own ∷ others)) ≡ last_piece_of place (within (joined (own ∷ others)))
  all-pieces place own [] some = ap (λ xs. last_piece_of place (within xs)) (sym (append-nil own))
  all-pieces place [] (next ∷ others) some =
      let same : place + 0 ≡ place = omega arith in
      ap (λ k. pieces_from k (map within (next ∷ others))) same ∙ all-pieces place next others some
  all-pieces place (x ∷ xs) (next ∷ others) some =
      let j = within (x ∷ xs) in let rest = joined (next ∷ others) in
      let behind : All HasText rest = subst (All HasText) (drop_at (x ∷ xs) rest (length (x ∷ xs)) refl) (All-drop HasText (length (x ∷ xs)) ((x ∷ xs) ++ rest) some) in
      ap (λ zs. piece_of place j ++ zs) (all-pieces (place + length (piece_of place j)) next others behind)
      ∙ piece-and-last place x xs rest (All-head HasText x (xs ++ rest) some) behind

  -- the pieces of all parts, from the front, are the text of all items
  pub text-of-all : (own : List X) (others : List (List X)) → All HasText (joined (own ∷ others))
      → pieces_from 0 (map within (own ∷ others)) ≡ vector_text text_of (joined (own ∷ others))
  text-of-all own others some = all-pieces 0 own others some ∙ whole (within (joined (own ∷ others)))
