-- The words of a monoid whose items have words.
-- Source: what the definitions of Codings and Words imply.
use Rattle.status_word.proofs.Cited.{◌≡◌, refl, ap, ◌∙◌, ◌<◌, ◌^◌, ℤ, Bool, IsTrue, Some, arith}
use Rattle.cvl_base.specs.ItemWords.{WordLaws}
use Rattle.status_word.specs.declared.status.Status.{Status}
use Rattle.status_word.specs.declared.status.Status.TheVariants.{Silent, Sum, Prefix}
use Rattle.status_word.specs.Codings.{CodingLaws, coding_of, status_by, status_or_silent}
use Rattle.status_word.specs.Locals.{is_item_status}
use Rattle.status_word.specs.Words.{word_of, read_word, state_of, FitsWord}

module _ {Item : Type 0} {is_item : Item → Bool} (join : Item → Item → Item) (unit : Item) (to_word : Item → ℤ) (from_word : ℤ → Item) (words : WordLaws is_item to_word from_word) where
  -- the word of a status fits, has its state, and is read again
  coded : (s : Status Item) → IsTrue (is_item_status is_item s) → FitsWord (status_by to_word s) × (state_of (status_by to_word s) ≡ state_of s)
      × (status_by from_word (status_by to_word s) ≡ s)
  coded Silent item = (tt, refl, refl)
  coded (Sum starts value) item = (words.fits value item, refl, ap (Sum starts) (words.inverse value item))
  coded (Prefix starts value) item = (words.fits value item, refl, ap (Prefix starts) (words.inverse value item))

  pub coding_laws : ((s : Status ℤ) → FitsWord s → word_of s < 2 ^ 64) → ((s : Status ℤ) → FitsWord s → read_word (word_of s) ≡ Some s)
      → ((s t : Status ℤ) → FitsWord s → FitsWord t → state_of s < state_of t → word_of s < word_of t) → CodingLaws is_item (coding_of join unit to_word from_word)
  coding_laws fits inverse ascending = record {
    silent = refl;
    fits = λ s item. fits (status_by to_word s) (coded s item).0;
    read_pack = λ s item. ap (λ o. status_by from_word (status_or_silent o)) (inverse (status_by to_word s) (coded s item).0) ∙ (coded s item).2;
    ascending = λ s t p q less. ascending (status_by to_word s) (status_by to_word t) (coded s p).0 (coded t q).0 (omega (arith, less, (coded s p).1, (coded t q).1));
  }
