-- Texts that are appended piece by piece, with spaces and brackets.
use Rattle.std.proofs.Common.{◌≡◌, ℕ, ◌≤◌, List, [], ◌∷◌, ◌++◌, length, map, take, sym, ap, ◌∙◌, arith, append_assoc, append-nil, length-append, min}
use Rattle.std.specs.List.{join_with_byte}
use Rattle.std.proofs.lemmas.List.{length-take, take-take, take-append-le}
use Rattle.value_texts.specs.Texts.{spaced}

-- texts joined by spaces are the first text, and then the others with a space before each
pub join_spaced : {X : Type 0} (f : X → List ℕ) (x : X) (xs : List X) → join_with_byte 32 (map f (x ∷ xs)) ≡ f x ++ spaced f xs
join_spaced f x [] = sym (append-nil (f x))
join_spaced f x (y ∷ ys) = ap (λ t. f x ++ (32 ∷ t)) (join_spaced f y ys)

-- a text that begins with a longer text begins with what that one begins with
pub begins_after : (old mid more new : List ℕ) → take (length old) mid ≡ old → take (length (mid ++ more)) new ≡ mid ++ more → take (length old) new ≡ old
begins_after old mid more new first later =
    let size : min (length old) (length mid) ≡ length old = sym (length-take (length old) mid) ∙ ap length first in
    let fits : length old ≤ length mid = omega arith in
    let longer : length old ≤ length (mid ++ more) = omega (arith, length-append mid more) in
    sym (take-take (length old) (length (mid ++ more)) new longer) ∙ ap (take (length old)) later ∙ take-append-le (length old) mid more fits ∙ first

-- an opening bracket appended and then the first text: with the others, a space before each, and a closing bracket, the texts in brackets
pub opened_onto : {X : Type 0} (f : X → List ℕ) (old opened new : List ℕ) (x : X) (xs whole : List X) → whole ≡ x ∷ xs → opened ≡ old ++ (91 ∷ []) → new ≡ opened ++ f x
    → new ++ spaced f xs ++ (93 ∷ []) ≡ old ++ (91 ∷ (join_with_byte 32 (map f whole) ++ (93 ∷ [])))
opened_onto f old opened new x xs whole parts first element =
    let rest = spaced f xs ++ (93 ∷ []) in
    let joined : join_with_byte 32 (map f whole) ++ (93 ∷ []) ≡ f x ++ rest =
    ap (λ t. join_with_byte 32 (map f t) ++ (93 ∷ [])) parts ∙ ap (λ t. t ++ (93 ∷ [])) (join_spaced f x xs) ∙ append_assoc (f x) (spaced f xs) (93 ∷ []) in
    append_assoc new (spaced f xs) (93 ∷ []) ∙ ap (λ t. t ++ rest) (element ∙ ap (λ t. t ++ f x) first) ∙ append_assoc (old ++ (91 ∷ [])) (f x) rest
    ∙ append_assoc old (91 ∷ []) (f x ++ rest) ∙ ap (λ t. old ++ (91 ∷ t)) (sym joined)
