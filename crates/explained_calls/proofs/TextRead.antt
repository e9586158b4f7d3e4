-- Bytes are read as a text exactly where they are UTF-8.
use Rattle.std.proofs.Common.{◌≡◌, ℕ, List, Result, Ok, Err, is_ok, sym}
use Rattle.std.specs.Result.{MatchResult}
use Rattle.std.specs.Str.{IsUtf8, is_utf8}
use Rattle.std.proofs.lemmas.Bool.{false_from_ne_true}
use Rattle.std.proofs.lemmas.Str.{IsUtf8-from_is_utf8, is_utf8-from_IsUtf8}

pub read_is_text : {X E : Type 0} (P : X → Type 0) (Q : E → Type 0) (bs : List ℕ) (r : Result X E)
    → MatchResult r (λ x. P x × IsUtf8 bs) (λ e. ¬ (IsUtf8 bs) × Q e) → is_ok r ≡ is_utf8 bs
read_is_text P Q bs (Ok x) h = sym (is_utf8-from_IsUtf8 bs h.1)
read_is_text P Q bs (Err e) h = sym (false_from_ne_true (is_utf8 bs) (λ is. h.0 (IsUtf8-from_is_utf8 bs is)))
