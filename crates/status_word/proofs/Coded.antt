-- The lawful words of a tile, by the state: they ascend, and each is read again.
-- Source: what the definitions of Codings imply.
use Rattle.status_word.proofs.Cited.{◌≡◌, refl, ap, ℕ, zero, suc, ◌+◌, ◌<◌, ◌≤◌, max, min, Bool, List, IsTrue, arith, ⊎_elim, AllPass, cases_lt, SumsLaws, is_seg_item}
use Rattle.status_word.specs.Codings.{Coding, CodingLaws, told_of, code, CodeLaws}
use Rattle.status_word.specs.Locals.{is_item_status}
use Rattle.status_word.specs.Words.{state_of}

-- the word of a prefix is that of each state above
pub code_high : {Item : Type 0} (m : Coding Item) (sums : List (Bool × Item)) (t rank : ℕ) → 2 ≤ rank → code m sums t rank ≡ code m sums t 2
code_high m sums t zero high = absurd (omega arith)
code_high m sums t (suc zero) high = absurd (omega arith)
code_high m sums t (suc (suc rank)) high = refl

module _ {Item : Type 0} {is_item : Item → Bool} (m : Coding Item) (coded : CodingLaws is_item m)
    (laws : (ss : List (Bool × Item)) → AllPass (is_seg_item is_item) ss → SumsLaws is_item m.join m.unit ss) (sums : List (Bool × Item))
    (items : AllPass (is_seg_item is_item) sums) where
  pub told_is_item : (t rank : ℕ) → IsTrue (is_item_status is_item (told_of m.join m.unit sums t rank))
  told_is_item t zero = refl
  told_is_item t (suc zero) = (laws sums items).own t
  told_is_item t (suc (suc rank)) = (laws sums items).exclusive (t + 1)

  -- the word of each state is read as what it tells
  pub code_read : (t rank : ℕ) → m.read (code m sums t rank) ≡ told_of m.join m.unit sums t rank
  code_read t rank = coded.read_pack (told_of m.join m.unit sums t rank) (told_is_item t rank)

  told_state_of : (t rank : ℕ) → state_of (told_of m.join m.unit sums t rank) ≡ min rank 2
  told_state_of t zero = refl
  told_state_of t (suc zero) = refl
  told_state_of t (suc (suc rank)) = omega arith

  code_le : (t a b : ℕ) → a ≤ b → code m sums t a ≤ code m sums t b
  code_le t a b le =
      ⊎_elim (λ (less : min a 2 < min b 2).
      let word = coded.ascending (told_of m.join m.unit sums t a) (told_of m.join m.unit sums t b) (told_is_item t a) (told_is_item t b)
      (omega (arith, less, told_state_of t a, told_state_of t b)) in omega arith)
      (λ (same : min b 2 ≤ min a 2).
      ⊎_elim (λ (low : a < 2). let equal : a ≡ b = omega arith in omega (arith, ap (code m sums t) equal))
      (λ (high : 2 ≤ a). omega (arith, code_high m sums t a high, code_high m sums t b (omega arith)))
      (cases_lt a 2))
      (cases_lt (min a 2) (min b 2))

  -- the greater word is that of the higher state
  pub code_max : (t a b : ℕ) → max (code m sums t a) (code m sums t b) ≡ code m sums t (max a b)
  code_max t a b =
      ⊎_elim (λ (less : a < b). let top : max a b ≡ b = omega arith in omega (arith, code_le t a b (omega arith), ap (code m sums t) top))
      (λ (more : b ≤ a). let top : max a b ≡ a = omega arith in omega (arith, code_le t b a more, ap (code m sums t) top))
      (cases_lt a b)

  pub code_laws : CodeLaws is_item m sums
  code_laws = record {
    silent = λ t. coded.silent;
    greater = code_max;
    read = code_read;
    fits = λ t rank. coded.fits (told_of m.join m.unit sums t rank) (told_is_item t rank);
    items = told_is_item;
    states = λ t rank few. omega (arith, few, told_state_of t rank);
  }
