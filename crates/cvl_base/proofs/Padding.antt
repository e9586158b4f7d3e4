-- A name's bytes, written over the front of a row of zeros.
use Rattle.std.proofs.Common.{◌≡◌, ℕ, ◌≤◌, true, ◌&&◌, List, [], ◌∷◌, length, take, drop, ◌++◌, ap, sym, subst, ◌∙◌, arith, nat_le}
use Rattle.std.specs.Prelude.{replicate, IsTrue}
use Rattle.std.proofs.lemmas.Bool.{and_parts, leb-true}
use Rattle.std.proofs.lemmas.List.{drop-replicate}
use Rattle.std.proofs.Math.Seq.{take-append_seam}
use Rattle.std.specs.List.{list_all}
use Rattle.std.specs.Char.{is_ascii_alphabetic}
use Rattle.cvl_base.specs.Limits.{most_word_bytes}
use Rattle.cvl_base.specs.NameBytes.{padded}
use Rattle.cvl_base.specs.Words.{is_word, is_word_byte, is_name}

word_fits : (bytes : List ℕ) → is_word bytes ≡ true → length bytes ≤ 32
word_fits [] e = omega arith
word_fits (b ∷ bs) e = leb-true (length (b ∷ bs)) 32 (and_parts (is_ascii_alphabetic b && list_all is_word_byte bs) (nat_le (length (b ∷ bs)) most_word_bytes) e).1

-- what lies in memory of a name with these bytes
abbrev pub IsLaidOut : List ℕ → ℕ → Type 0
IsLaidOut row len = (len ≤ 32) × (row ≡ padded (take len row)) × (len ≡ length (take len row)) × IsTrue (is_name (take len row))

laid_out : (bytes : List ℕ) → is_name bytes ≡ true → IsLaidOut (bytes ++ drop (length bytes) (replicate most_word_bytes 0)) (length bytes)
laid_out bytes e =
    let front : take (length bytes) (bytes ++ drop (length bytes) (replicate most_word_bytes 0)) ≡ bytes = take-append_seam bytes _ in (
      word_fits bytes (and_parts (is_word bytes) _ e).0,
      ap (λ tail. bytes ++ tail) (drop-replicate (length bytes) most_word_bytes 0) ∙ ap padded (sym front),
      ap length (sym front),
      ap is_name front ∙ e,
    )

pub written_laid_out : (bytes written : List ℕ) → written ≡ bytes → is_name bytes ≡ true
    → IsLaidOut (written ++ drop (length bytes) (replicate most_word_bytes 0)) (length bytes)
written_laid_out bytes written same e =
    subst (λ (w : List ℕ). IsLaidOut (w ++ drop (length bytes) (replicate most_word_bytes 0)) (length bytes)) (sym same) (laid_out bytes e)
