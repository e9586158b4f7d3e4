-- How a monoid's statuses are kept as words, and the words that are lawful at a tile.
-- Source: the status words of Merrill and Garland, Single-pass Parallel Prefix Scan with Decoupled Look-back, 2016.
use Rattle.std.specs.Prelude.{◌≡◌, ℕ, zero, suc, ◌<◌, ◌≤◌, ◌^◌, max, ℤ, Bool, IsTrue, List}
use Rattle.std.specs.Prelude.{Option, Some, None}
use Rattle.cvl_base.specs.TileSums.{own_sum, upto_tile}
use Rattle.status_word.specs.declared.status.Status.{Status}
use Rattle.status_word.specs.declared.status.Status.TheVariants.{Silent, Sum, Prefix}
use Rattle.status_word.specs.Locals.{is_item_status}
use Rattle.status_word.specs.Words.{word_of, read_word, state_of}

-- a monoid, and its statuses as words
pub record Coding (Item : Type 0) : Type 0 where
  pub join : Item → Item → Item
  pub unit : Item
  pub pack : Status Item → ℕ
  pub read : ℕ → Status Item

-- what the words of items must satisfy: 0 tells nothing, each has 64 bits and is read again, and a lesser state has a lesser word
pub record CodingLaws {Item : Type 0} (is_item : Item → Bool) (m : Coding Item) : Type 0 where
  pub silent : m.pack Silent ≡ 0
  pub fits : (status : Status Item) → IsTrue (is_item_status is_item status) → m.pack status < 2 ^ 64
  pub read_pack : (status : Status Item) → IsTrue (is_item_status is_item status) → m.read (m.pack status) ≡ status
  pub ascending : (lower upper : Status Item) → IsTrue (is_item_status is_item lower) → IsTrue (is_item_status is_item upper)
      → state_of lower < state_of upper → m.pack lower < m.pack upper

-- a status with a function on its value
abbrev pub status_by : {X Y : Type 0} → (X → Y) → Status X → Status Y
status_by f Silent = Silent
status_by f (Sum starts value) = Sum starts (f value)
status_by f (Prefix starts value) = Prefix starts (f value)

-- a status, or Silent if there is none
abbrev pub status_or_silent : {X : Type 0} → Option (Status X) → Status X
status_or_silent None = Silent
status_or_silent (Some status) = status

-- the words of a monoid whose items have words
abbrev pub coding_of : {Item : Type 0} → (Item → Item → Item) → Item → (Item → ℤ) → (ℤ → Item) → Coding Item
coding_of join unit to_word from_word = record {
  join = join;
  unit = unit;
  pack = λ status. word_of (status_by to_word status);
  read = λ word. status_by from_word (status_or_silent (read_word word));
}

-- the words of a monoid in a clause, as `coding M.Packed`
abbrev pub coding : {Item : Type 0}
    → record { is_item : Item → Bool; unit : Item; join : Item → Item → Item; to_word : Item → ℤ; from_word : ℤ → Item } → Coding Item
coding m = coding_of m.join m.unit m.to_word m.from_word

-- what a word tells of tile t in each state: nothing, the tile's sum, the sum of the tiles up to it. Each tile is given by its sum
abbrev pub told_of : {Item : Type 0} → (Item → Item → Item) → Item → List (Bool × Item) → ℕ → ℕ → Status Item
told_of join unit sums t zero = Silent
told_of join unit sums t (suc zero) = Sum (own_sum unit sums t).0 (own_sum unit sums t).1
told_of join unit sums t (suc (suc rank)) = Prefix (upto_tile join unit sums t).0 (upto_tile join unit sums t).1

-- the lawful words of tile t, by the state
abbrev pub code : {Item : Type 0} → Coding Item → List (Bool × Item) → ℕ → ℕ → ℕ
code m sums t rank = m.pack (told_of m.join m.unit sums t rank)

-- what is true of the words of all tiles: they tell nothing at first, ascend with the states, are read again, and have 64 bits
pub record CodeLaws {Item : Type 0} (is_item : Item → Bool) (m : Coding Item) (sums : List (Bool × Item)) : Type 0 where
  pub silent : (t : ℕ) → code m sums t 0 ≡ 0
  pub greater : (t a b : ℕ) → max (code m sums t a) (code m sums t b) ≡ code m sums t (max a b)
  pub read : (t rank : ℕ) → m.read (code m sums t rank) ≡ told_of m.join m.unit sums t rank
  pub fits : (t rank : ℕ) → code m sums t rank < 2 ^ 64
  pub items : (t rank : ℕ) → IsTrue (is_item_status is_item (told_of m.join m.unit sums t rank))
  -- a status that is told of its tile has the state of its word
  pub states : (t rank : ℕ) → rank ≤ 2 → state_of (told_of m.join m.unit sums t rank) ≡ rank
