-- The calls of one class go on with the same letters after those of their operators.
use Rattle.std.proofs.Common.{◌≡◌, ℕ, false, List, [], ◌∷◌, drop, find, bytes_eq, None, true, Bool, refl, ◌∙◌, ap, ◌-◌, min, length, take}
use Rattle.std.proofs.Math.Seq.{take-length}
use Rattle.std.proofs.lemmas.List.{drop_min, length-drop}
use Rattle.std.specs.List.{AllByRecursion}
use Rattle.std.proofs.lemmas.Slice.Eq.{bytes_eq-Decides}
use Rattle.call_table.specs.declared.operation.Op.{Op}
use Rattle.call_table.specs.Calls.{spelling_of}
use Rattle.call_table.specs.Spellings.{GoesOn, is_spelled}

-- a word that goes on otherwise is not the name of a call that goes on so
other_word : (word letters : List ℕ) (op : Op) (b : Bool) → is_spelled word op ≡ b → bytes_eq (drop 3 word) letters ≡ false → GoesOn letters op → b ≡ false
other_word word letters op true spelled otherwise goes_on =
    let same = (bytes_eq-Decides word (spelling_of op)).0 spelled in
    let settled = (bytes_eq-Decides (drop 3 word) letters).1 (ap (drop 3) same ∙ goes_on) in cc
other_word word letters op false spelled otherwise goes_on = refl

-- and so of none of them
pub of_no_call : (word letters : List ℕ) (ops : List Op) → AllByRecursion (GoesOn letters) ops → bytes_eq (drop 3 word) letters ≡ false → find (is_spelled word) ops ≡ None
of_no_call word letters [] all otherwise = refl
of_no_call word letters (op ∷ ops) all otherwise =
    rw (other_word word letters op _ refl otherwise all.0) (of_no_call word letters ops all.1 otherwise)

-- what follows the first n bytes, as a slice from there to the end
pub after_first : (n : ℕ) (word : List ℕ) → take (length word - min n (length word)) (drop (min n (length word)) word) ≡ drop n word
after_first n word =
    rw (← length-drop (min n (length word)) word, take-length (drop (min n (length word)) word)) (drop_min n word)
