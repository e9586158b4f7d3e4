-- The tokens of bytes with their places, found from the front: blanks are skipped, and a longest run or a lone byte is a token.
use Rattle.std.proofs.Common.{◌≡◌, ℕ, ◌+◌, ◌<◌, ◌≤◌, true, false, List, [], ◌∷◌, ◌++◌, length, take, drop, refl, ap, sym, ◌∙◌, arith, ◌⊎◌, inl, inr, suc, zero, take-append-drop}
use Rattle.std.proofs.lemmas.List.{drop-drop, length-take-le}
use Rattle.std.proofs.lemmas.Bool.{and_parts, false≢true}
use Rattle.std.specs.List.{list_all}
use Rattle.line_reader.specs.declared.token.ByteClass.{ByteClass}
use Rattle.line_reader.specs.declared.token.ByteClass.TheVariants.{Blank, Alone, InToken}
use Rattle.line_reader.specs.Tokens.{begins_in_token, begins_with_blank, is_in_token}
use Rattle.line_reader.proofs.TokenWalk.{class_is_in_token}
use Rattle.explained_calls.specs.PlacedTokens.{onto_first_placed, placed, placed_by}

-- a run of one byte or more, after which no run goes on, is the first token
pub run_placed : (class_of : ℕ → ByteClass) (place : ℕ) (run rest : List ℕ) → list_all (λ b. is_in_token (class_of b)) run ≡ true → 0 < length run
    → begins_in_token class_of rest ≡ false
    → placed_by class_of place (run ++ rest) ≡ placed place run ∷ placed_by class_of (place + length run) rest
run_placed class_of place [] rest all some ends = absurd (omega arith)
run_placed class_of place (b ∷ []) rest all some ends =
    let e = class_is_in_token (class_of b) (and_parts (is_in_token (class_of b)) true all).0 in
    rw (e, ends) refl
run_placed class_of place (b ∷ c ∷ run) rest all some ends =
    let parts = and_parts (is_in_token (class_of b)) (list_all (λ b. is_in_token (class_of b)) (c ∷ run)) all in
    let e = class_is_in_token (class_of b) parts.0 in
    let goes_on = (and_parts (is_in_token (class_of c)) (list_all (λ b. is_in_token (class_of b)) run) parts.1).0 in
    let there : place + 1 + length (c ∷ run) ≡ place + length (b ∷ c ∷ run) = omega arith in
    rw (e, goes_on)
    (ap (onto_first_placed place b) (run_placed class_of (place + 1) (c ∷ run) rest parts.1 (omega arith) ends)
    ∙ ap (λ at. placed place (b ∷ c ∷ run) ∷ placed_by class_of at rest) there)

-- the first token of bytes that begin with part of a run of n bytes
pub run_taken_placed : (class_of : ℕ → ByteClass) (place : ℕ) (bytes : List ℕ) (first : ℕ) (others : List ℕ) (n : ℕ) → bytes ≡ first ∷ others
    → class_of first ≡ InToken → n ≤ length bytes → list_all (λ b. is_in_token (class_of b)) (take n bytes) ≡ true
    → begins_in_token class_of (drop n bytes) ≡ false
    → placed_by class_of place bytes ≡ placed place (take n bytes) ∷ placed_by class_of (place + n) (drop n bytes)
run_taken_placed class_of place bytes first others zero same part within run ends =
    let never : true ≡ false = rw (same, part) at ends in absurd (false≢true (sym never))
run_taken_placed class_of place bytes first others (suc n) same part within run ends =
    ap (placed_by class_of place) (sym (take-append-drop (suc n) bytes))
    ∙ run_placed class_of place (take (suc n) bytes) (drop (suc n) bytes) run (rw same (omega arith)) ends
    ∙ ap (λ k. placed place (take (suc n) bytes) ∷ placed_by class_of (place + k) (drop (suc n) bytes)) (length-take-le (suc n) bytes within)

lone_cons : (class_of : ℕ → ByteClass) (place b : ℕ) (bs : List ℕ) → class_of b ≡ Alone
    → placed_by class_of place (b ∷ bs) ≡ placed place (take 1 (b ∷ bs)) ∷ placed_by class_of (place + 1) (drop 1 (b ∷ bs))
lone_cons class_of place b bs e = rw e refl

-- the first token of bytes that begin with one that is neither part of a run nor blank
pub lone_taken_placed : (class_of : ℕ → ByteClass) (place : ℕ) (bytes : List ℕ) (first : ℕ) (others : List ℕ) → bytes ≡ first ∷ others
    → begins_with_blank class_of bytes ≡ false → (class_of first ≡ Alone) ⊎ (class_of first ≡ Blank)
    → placed_by class_of place bytes ≡ placed place (take 1 bytes) ∷ placed_by class_of (place + 1) (drop 1 bytes)
lone_taken_placed class_of place bytes first others same stands (inl lone) = rw same (lone_cons class_of place first others lone)
lone_taken_placed class_of place bytes first others same stands (inr blank) =
    let never : true ≡ false = rw (same, blank) at stands in absurd (false≢true (sym never))

-- the first token behind blanks
pub placed_behind : (class_of : ℕ → ByteClass) (from start n : ℕ) (bytes rest token : List ℕ)
    → placed_by class_of from (drop from bytes) ≡ placed_by class_of start (drop start bytes) → rest ≡ drop start bytes → token ≡ take n rest
    → placed_by class_of start rest ≡ placed start (take n rest) ∷ placed_by class_of (start + n) (drop n rest)
    → placed_by class_of from (drop from bytes) ≡ placed start token ∷ placed_by class_of (start + n) (drop (start + n) bytes)
placed_behind class_of from start n bytes rest token skipped rest_is token_is taken =
    skipped ∙ ap (placed_by class_of start) (sym rest_is) ∙ taken
    ∙ ap (λ t. placed start t ∷ placed_by class_of (start + n) (drop n rest)) (sym token_is)
    ∙ ap (λ others. placed start token ∷ placed_by class_of (start + n) others) (ap (drop n) rest_is ∙ drop-drop n start bytes)
