-- The items of the operators' monoids, and the word that stands for each: a number from -2^53 to 2^53 - 1.
-- Source: two's complement for integers; the words of booleans are this library's profile.
use Rattle.std.specs.Prelude.{◌≡◌, ◌^◌, Bool, true, IsTrue, ℤ, pos, negsuc, nat_lt}

-- the numbers from -2147483648 to 2147483647
abbrev pub is_number : ℤ → Bool
is_number (pos n) = nat_lt n (2 ^ 31)
is_number (negsuc n) = nat_lt n (2 ^ 31)

-- the numbers from -2^53 to 2^53 - 1, which 54 bits hold
abbrev pub is_word : ℤ → Bool
is_word (pos n) = nat_lt n (2 ^ 53)
is_word (negsuc n) = nat_lt n (2 ^ 53)

-- both booleans
abbrev pub is_boolean : Bool → Bool
is_boolean b = true

-- A number is its own word, and a word is read as the number of 32 bits that is congruent to it. The word of a boolean is the
-- conversions' `integer_of`, read again by `boolean_of`.
abbrev pub same_word : ℤ → ℤ
same_word z = z

-- A word for each item, from -2^53 to 2^53 - 1, from which the item is read again.
pub record WordLaws {Item : Type 0} (is_item : Item → Bool) (to_word : Item → ℤ) (from_word : ℤ → Item) : Type 0 where
  pub fits : (x : Item) → IsTrue (is_item x) → IsTrue (is_word (to_word x))
  pub inverse : (x : Item) → IsTrue (is_item x) → from_word (to_word x) ≡ x
