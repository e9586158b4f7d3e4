-- The tokens of bytes, found from the front: blanks are skipped, and a longest run or a lone byte is a token.
use Rattle.line_reader.proofs.Cited.{◌≡◌, ℕ, ◌<◌, ◌≤◌, Bool, true, false, List, [], ◌∷◌, ◌++◌, length, take, drop, refl, ap, sym, ◌∙◌, arith, ◌⊎◌, inl, inr, suc, zero, append-nil, take-append-drop}
use Rattle.line_reader.proofs.Cited.{and_parts, false≢true, not, if◌then◌else◌, filter, concat, list_all}
use Rattle.line_reader.specs.Numbers.{is_empty}
use Rattle.line_reader.specs.declared.token.ByteClass.{ByteClass}
use Rattle.line_reader.specs.declared.token.ByteClass.TheVariants.{Blank, Alone, InToken}
use Rattle.line_reader.specs.Tokens.{tokens_by, with_byte, onto_first, is_in_token, is_blank, begins_in_token, begins_with_blank}

pub class_is_in_token : (c : ByteClass) → is_in_token c ≡ true → c ≡ InToken
class_is_in_token InToken e = refl
class_is_in_token c e = cc

-- a run of one byte or more, after which no run goes on, is the first token
pub run_first : (class_of : ℕ → ByteClass) (run rest : List ℕ) → list_all (λ b. is_in_token (class_of b)) run ≡ true → 0 < length run
    → begins_in_token class_of rest ≡ false → tokens_by class_of (run ++ rest) ≡ run ∷ tokens_by class_of rest
run_first class_of [] rest all some ends = absurd (omega arith)
run_first class_of (b ∷ []) rest all some ends =
    let e = class_is_in_token (class_of b) (and_parts (is_in_token (class_of b)) true all).0 in
    rw (e, ends) refl
run_first class_of (b ∷ c ∷ run) rest all some ends =
    let parts = and_parts (is_in_token (class_of b)) (list_all (λ b. is_in_token (class_of b)) (c ∷ run)) all in
    let e = class_is_in_token (class_of b) parts.0 in
    let goes_on = (and_parts (is_in_token (class_of c)) (list_all (λ b. is_in_token (class_of b)) run) parts.1).0 in
    rw (e, goes_on) (ap (onto_first b) (run_first class_of (c ∷ run) rest parts.1 (omega arith) ends))

-- the first token of bytes that begin with part of a run
pub run_taken : (class_of : ℕ → ByteClass) (bytes : List ℕ) (first : ℕ) (others : List ℕ) (n : ℕ) → bytes ≡ first ∷ others → class_of first ≡ InToken
    → list_all (λ b. is_in_token (class_of b)) (take n bytes) ≡ true → begins_in_token class_of (drop n bytes) ≡ false
    → tokens_by class_of bytes ≡ take n bytes ∷ tokens_by class_of (drop n bytes)
run_taken class_of bytes first others zero same part run ends =
    let never : true ≡ false = rw (same, part) at ends in absurd (false≢true (sym never))
run_taken class_of bytes first others (suc n) same part run ends =
    ap (tokens_by class_of) (sym (take-append-drop (suc n) bytes))
    ∙ run_first class_of (take (suc n) bytes) (drop (suc n) bytes) run (rw same (omega arith)) ends

lone_cons : (class_of : ℕ → ByteClass) (b : ℕ) (bs : List ℕ) → class_of b ≡ Alone
    → tokens_by class_of (b ∷ bs) ≡ take 1 (b ∷ bs) ∷ tokens_by class_of (drop 1 (b ∷ bs))
lone_cons class_of b bs e = rw e refl

-- the first token of bytes that begin with one that is neither part of a run nor blank
pub lone_taken : (class_of : ℕ → ByteClass) (bytes : List ℕ) (first : ℕ) (others : List ℕ) → bytes ≡ first ∷ others
    → begins_with_blank class_of bytes ≡ false → (class_of first ≡ Alone) ⊎ (class_of first ≡ Blank)
    → tokens_by class_of bytes ≡ take 1 bytes ∷ tokens_by class_of (drop 1 bytes)
lone_taken class_of bytes first others same stands (inl lone) = rw same (lone_cons class_of first others lone)
lone_taken class_of bytes first others same stands (inr blank) =
    let never : true ≡ false = rw (same, blank) at stands in absurd (false≢true (sym never))

concat_with : (c : ByteClass) (runs_on : Bool) (b : ℕ) (tokens : List (List ℕ))
    → concat (with_byte c runs_on b tokens) ≡ (if not (is_blank c) then b ∷ concat tokens else concat tokens)
concat_with InToken true b [] = refl
concat_with InToken true b (token ∷ tokens) = refl
concat_with c runs_on b tokens = refl

-- the tokens' bytes are all that aren't blank
pub concat_tokens : (class_of : ℕ → ByteClass) (bytes : List ℕ) → concat (tokens_by class_of bytes) ≡ filter (λ b. not (is_blank (class_of b))) bytes
concat_tokens class_of [] = refl
concat_tokens class_of (b ∷ bs) =
    concat_with (class_of b) (begins_in_token class_of bs) b (tokens_by class_of bs)
    ∙ ap (λ others. if not (is_blank (class_of b)) then b ∷ others else others) (concat_tokens class_of bs)

some_with : (c : ByteClass) (runs_on : Bool) (b : ℕ) (tokens : List (List ℕ)) → list_all (λ token. not (is_empty token)) tokens ≡ true
    → list_all (λ token. not (is_empty token)) (with_byte c runs_on b tokens) ≡ true
some_with InToken true b [] e = refl
some_with InToken true b ([] ∷ tokens) e = absurd (false≢true e)
some_with c runs_on b tokens e = e

-- no token is empty
pub none_empty : (class_of : ℕ → ByteClass) (bytes : List ℕ) → list_all (λ token. not (is_empty token)) (tokens_by class_of bytes) ≡ true
none_empty class_of [] = refl
none_empty class_of (b ∷ bs) = some_with (class_of b) (begins_in_token class_of bs) b (tokens_by class_of bs) (none_empty class_of bs)

-- where a run begins there is a token
some_tokens_at : (c : ByteClass) (runs_on : Bool) (b : ℕ) (tokens : List (List ℕ)) → is_in_token c ≡ true → 1 ≤ length (with_byte c runs_on b tokens)
some_tokens_at InToken true b [] e = omega arith
some_tokens_at InToken true b (token ∷ tokens) e = omega arith
some_tokens_at InToken false b tokens e = omega arith
some_tokens_at c runs_on b tokens e = absurd (false≢true e)

pub some_tokens : (class_of : ℕ → ByteClass) (bs : List ℕ) → begins_in_token class_of bs ≡ true → 1 ≤ length (tokens_by class_of bs)
some_tokens class_of [] e = absurd (false≢true e)
some_tokens class_of (b ∷ bs) e = some_tokens_at (class_of b) (begins_in_token class_of bs) b (tokens_by class_of bs) e

-- a byte before tokens changes the first of them alone
with_byte_before : (c : ByteClass) (runs_on : Bool) (b : ℕ) (tokens more : List (List ℕ)) → (runs_on ≡ true → 1 ≤ length tokens)
    → with_byte c runs_on b (tokens ++ more) ≡ with_byte c runs_on b tokens ++ more
with_byte_before InToken true b [] more some = absurd (omega (arith, some refl))
with_byte_before InToken true b (token ∷ tokens) more some = refl
with_byte_before c runs_on b tokens more some = refl

-- where what stands after begins with no part of a run, it changes nothing before it
pub cut_before : (class_of : ℕ → ByteClass) (before behind : List ℕ) → begins_in_token class_of behind ≡ false
    → tokens_by class_of (before ++ behind) ≡ tokens_by class_of before ++ tokens_by class_of behind
cut_before class_of [] behind e = refl
cut_before class_of (b ∷ bs) behind e =
    let runs_on : begins_in_token class_of (bs ++ behind) ≡ begins_in_token class_of bs = begins bs in
    ap (λ (on : Bool). with_byte (class_of b) on b (tokens_by class_of (bs ++ behind))) runs_on
    ∙ ap (with_byte (class_of b) (begins_in_token class_of bs) b) (cut_before class_of bs behind e)
    ∙ with_byte_before (class_of b) (begins_in_token class_of bs) b (tokens_by class_of bs) (tokens_by class_of behind) (some_tokens class_of bs)
  where
    begins : (bs : List ℕ) → begins_in_token class_of (bs ++ behind) ≡ begins_in_token class_of bs
    begins [] = e
    begins (c ∷ cs) = refl

pub cut_at_blank : (class_of : ℕ → ByteClass) (before after : List ℕ) (b : ℕ) → class_of b ≡ Blank
    → tokens_by class_of (before ++ b ∷ after) ≡ tokens_by class_of before ++ tokens_by class_of after
cut_at_blank class_of before after b e =
    cut_before class_of before (b ∷ after) (rw e refl) ∙ ap (λ others. tokens_by class_of before ++ others) (rw e refl)

pub cut_at_lone : (class_of : ℕ → ByteClass) (before after : List ℕ) (b : ℕ) → class_of b ≡ Alone
    → tokens_by class_of (before ++ b ∷ after) ≡ tokens_by class_of before ++ (b ∷ []) ∷ tokens_by class_of after
cut_at_lone class_of before after b e =
    cut_before class_of before (b ∷ after) (rw e refl) ∙ ap (λ others. tokens_by class_of before ++ others) (rw e refl)

pub run_alone : (class_of : ℕ → ByteClass) (bs : List ℕ) → 0 < length bs → list_all (λ b. is_in_token (class_of b)) bs ≡ true → tokens_by class_of bs ≡ bs ∷ []
run_alone class_of bs some all = ap (tokens_by class_of) (sym (append-nil bs)) ∙ run_first class_of bs [] all some refl

pub ruleset token_laws = (run_alone, cut_at_blank, cut_at_lone, concat_tokens, none_empty)
