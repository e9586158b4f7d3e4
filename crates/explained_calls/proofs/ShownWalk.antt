-- The walk over bytes from character to character.
use Rattle.std.proofs.Common.{◌≡◌, ◌∙◌, ℕ, zero, suc, ◌-◌, ◌<◌, ◌≤◌, Bool, true, false, List, [], ◌∷◌, ◌++◌, length, take, drop, map, ap, sym, refl, arith, append-nil, append_assoc, length-drop}
use Rattle.std.proofs.Common.{if◌then◌else◌}
use Rattle.std.proofs.lemmas.Bool.{le-leb, lt-leb}
use Rattle.std.specs.List.{concat}
use Rattle.std.specs.Str.{is_utf8}
use Rattle.explained_calls.specs.Shown.{character_length, characters, characters_from, fitting, shown_character}

one_of_four : (a b c d : Bool) → 1 ≤ (if a then 1 else (if b then 2 else (if c then 3 else (if d then 4 else 1))))
one_of_four true b c d = omega arith
one_of_four false true c d = omega arith
one_of_four false false true d = omega arith
one_of_four false false false true = omega arith
one_of_four false false false false = omega arith

has_bytes : (bytes : List ℕ) → 1 ≤ character_length bytes
has_bytes bytes = one_of_four (is_utf8 (take 1 bytes)) (is_utf8 (take 2 bytes)) (is_utf8 (take 3 bytes)) (is_utf8 (take 4 bytes))

from_place : (place : ℕ) (bytes : List ℕ) → characters_from place bytes ≡ characters (drop place bytes)
from_place zero bytes = refl
from_place (suc place) [] = refl
from_place (suc place) (b ∷ bs) = from_place place bs

behind_first : (n b : ℕ) (bs : List ℕ) → 1 ≤ n → characters_from (n - 1) bs ≡ characters (drop n (b ∷ bs))
behind_first zero b bs some = absurd (omega (arith, some))
behind_first (suc n) b bs some = ap (λ k. characters_from k bs) (omega arith) ∙ from_place n bs

-- bytes are their first character and those behind it
pub first_and_others : (bytes first others : List ℕ) (n : ℕ) → 0 < length bytes → n ≡ character_length bytes
    → first ≡ take n bytes → others ≡ drop n bytes → characters bytes ≡ first ∷ characters others
first_and_others [] first others n some is front back = absurd (omega (arith, some))
first_and_others (b ∷ bs) first others n some is front back =
    rw (front, back, is) (ap (λ cs. take (character_length (b ∷ bs)) (b ∷ bs) ∷ cs) (behind_first (character_length (b ∷ bs)) b bs (has_bytes (b ∷ bs))))

pub others_shorter : (bytes others : List ℕ) (n : ℕ) → 0 < length bytes → n ≡ character_length bytes → others ≡ drop n bytes
    → length others < length bytes
others_shorter bytes others n some is back =
    omega (arith, some, has_bytes bytes, is, ap length back, length-drop n bytes)

-- one character more is shown
pub one_more : (text new whole c : List ℕ) (before others : List (List ℕ)) → before ≡ c ∷ others
    → text ++ concat (map shown_character before) ≡ whole → new ≡ text ++ shown_character c
    → new ++ concat (map shown_character others) ≡ whole
one_more text new whole c before others are is step =
    ap (λ t. t ++ concat (map shown_character others)) step ∙ append_assoc text (shown_character c) (concat (map shown_character others))
    ∙ ap (λ cs. text ++ concat (map shown_character cs)) (sym are) ∙ is

-- none is left
pub all_shown : (text whole : List ℕ) (rest : List (List ℕ)) → rest ≡ [] → text ++ concat (map shown_character rest) ≡ whole → text ≡ whole
all_shown text whole rest none is = sym (append-nil text) ∙ ap (λ cs. text ++ concat (map shown_character cs)) (sym none) ∙ is

-- a character that fits
pub fits : (left : ℕ) (c : List ℕ) (others before : List (List ℕ)) → before ≡ c ∷ others → length c ≤ left
    → fitting left before ≡ c ∷ fitting (left - length c) others
fits left c others before are within =
    ap (fitting left) are ∙ ap (λ b. if b then c ∷ fitting (left - length c) others else []) (le-leb (length c) left within)

-- and one that does not
pub fits_not : (left : ℕ) (c : List ℕ) (others before : List (List ℕ)) → before ≡ c ∷ others → left < length c → fitting left before ≡ []
fits_not left c others before are beyond =
    ap (fitting left) are ∙ ap (λ b. if b then c ∷ fitting (left - length c) others else []) (lt-leb (length c) left beyond)
