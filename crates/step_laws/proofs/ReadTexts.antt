-- Texts that are read by steps.
use Rattle.std.proofs.Common.{◌≡◌, ◌+◌, ◌<◌, ◌≤◌, ◌++◌, ◌∙◌, ℕ, ℤ, zero, suc, Bool, true, false, if◌then◌else◌, IsTrue, List, [], ◌∷◌}
use Rattle.std.proofs.Common.{length, length-append, map, Option, Some, None, Result, Ok, Err, nat_lt}
use Rattle.std.proofs.Common.{refl, sym, ap, arith, All, option_map, slice_get, ⊎_elim}
use Rattle.std.proofs.lemmas.Bool.{cases_lt, false≢true, le-ltb, lt-ltb}
use Rattle.std.proofs.lemmas.List.{append-nil, length-map}
use Rattle.std.proofs.lemmas.List.Elements.{All-head, All-tail}
use Rattle.std.proofs.lemmas.Option.{none-some, same_Some, slice_get-map}
use Rattle.call_reader.specs.Inputs.{input_class, input_within, is_white_space}
use Rattle.cvl_base.specs.declared.fault.Fault.{Fault}
use Rattle.cvl_base.specs.declared.fault.FaultNo.{FaultNo}
use Rattle.cvl_base.specs.declared.fault.FaultNo.TheVariants as no
use Rattle.cvl_base.specs.Elementwise.{values_from}
use Rattle.cvl_base.specs.Faults.{fault}
use Rattle.cvl_base.specs.Gives.{after, fault_if}
use Rattle.cvl_base.specs.Limits.{most_places}
use Rattle.cvl_base.specs.Lists.{joined}
use Rattle.cvl_base.specs.Segmented.{moved}
use Rattle.line_reader.specs.declared.token.ByteClass.TheVariants.{Blank, InToken}
use Rattle.line_reader.specs.Numbers.{written_number}
use Rattle.line_reader.specs.Tokens.{begins_in_token, is_blank, tokens_by, with_byte}
use Rattle.line_reader.proofs.TokenWalk.{cut_at_blank}
use Rattle.call_laws.proofs.TwoParts.{from_value, values-two}
use Rattle.step_laws.specs.TextParts.{AreCutAtWhite, BeginsAtWhite}

abbrev pub toks : List ℕ → List (List ℕ)
toks bytes = tokens_by input_class bytes

abbrev pub values : List (List ℕ) → Result (List ℤ) Fault
values tokens = values_from no.BadInput 0 (map written_number tokens)

-- ---- tokens of a text that is cut at white space

white : (w : Bool) → IsTrue (is_blank (if w then Blank else InToken)) → w ≡ true
white true is = refl
white false is = absurd (false≢true is)

blank : (b : ℕ) → IsTrue (is_blank (input_class b)) → input_class b ≡ Blank
blank b is = ap (λ w. if w then Blank else InToken) (white (is_white_space b) is)

tokens-joined : (first : List ℕ) (others : List (List ℕ)) → All BeginsAtWhite others → toks (first ++ joined others) ≡ toks first ++ joined (map toks others)
tokens-joined first [] cut = ap toks (append-nil first) ∙ sym (append-nil (toks first))
tokens-joined first ([] ∷ others) cut = tokens-joined first others (All-tail BeginsAtWhite [] others cut)
tokens-joined first ((b ∷ bs) ∷ others) cut =
    let is = blank b (All-head BeginsAtWhite (b ∷ bs) others cut (λ e. let none : length (b ∷ bs) ≡ 0 = ap length e in omega (arith, none))) in
    let own : toks (b ∷ bs) ≡ toks bs = ap (λ c. with_byte c (begins_in_token input_class bs) b (toks bs)) is in
    cut_at_blank input_class first (bs ++ joined others) b is
    ∙ ap (λ ts. toks first ++ ts) (tokens-joined bs others (All-tail BeginsAtWhite (b ∷ bs) others cut))
    ∙ ap (λ ts. toks first ++ (ts ++ joined (map toks others))) (sym own)

pub all-tokens : (parts : List (List ℕ)) → AreCutAtWhite parts → toks (joined parts) ≡ joined (map toks parts)
all-tokens [] cut = refl
all-tokens (first ∷ others) cut = tokens-joined first others cut

-- ---- what an input gives

pub values-long : {Y : Type 0} (n : FaultNo) (place : ℕ) (vs : List (Option Y)) (ys : List Y) → values_from n place vs ≡ Ok ys → length ys ≡ length vs
values-long n place [] ys is = let same : [] ≡ ys = cc in ap length (sym same)
values-long n place (None ∷ vs) ys is = cc
values-long n place (Some v ∷ vs) ys is =
    let found = from_value (values_from n (place + 1) vs) (λ zs. Ok (v ∷ zs)) ys is in
    let same : v ∷ found.0 ≡ ys = let made : Ok (v ∷ found.0) ≡ Ok ys = found.2 in cc in
    ap length (sym same) ∙ ap suc (values-long n (place + 1) vs found.0 found.1)

-- a check that lets a value through
pub let-through : {Y : Type 0} (most n : ℕ) (f : Fault) (r : Result Y Fault) (z : Y) → fault_if (nat_lt most n) f r ≡ Ok z → (n ≤ most) × (r ≡ Ok z)
let-through most n f r z is =
    ⊎_elim
    (λ (many : most < n). let bad : Err f ≡ Ok z = sym (ap (λ b. fault_if b f r) (lt-ltb most n many)) ∙ is in cc)
    (λ (few : n ≤ most). (few, sym (ap (λ b. fault_if b f r) (le-ltb most n few)) ∙ is))
    (cases_lt most n)

pub input-is : (bytes : List ℕ) (xs : List ℤ) → input_within most_places bytes ≡ Ok xs
    → (length (toks bytes) ≤ most_places) × (values (toks bytes) ≡ Ok xs) × (length xs ≡ length (toks bytes))
input-is bytes xs is =
    let through = let-through most_places (length (toks bytes)) (fault no.TooLong) (values (toks bytes)) xs is in
    (through.0, through.1, values-long no.BadInput 0 (map written_number (toks bytes)) xs through.1 ∙ length-map (toks bytes) written_number)

pub input-gives : (bytes : List ℕ) → length (toks bytes) ≤ most_places → input_within most_places bytes ≡ values (toks bytes)
input-gives bytes few = ap (λ b. fault_if b (fault no.TooLong) (values (toks bytes))) (le-ltb most_places (length (toks bytes)) few)

-- ---- a part with a fault

moved-back : {X : Type 0} (f : ℕ → ℕ) (r : Result X Fault) (x : X) → moved f r ≡ Ok x → r ≡ Ok x
moved-back f (Ok y) x is = is
moved-back f (Err e) x is = cc

-- if all tokens of two parts have numbers, so have those of each
both-have : (own rest : List (List ℕ)) (ys : List ℤ) → values (own ++ rest) ≡ Ok ys
    → (xs : List ℤ) × (zs : List ℤ) × (values own ≡ Ok xs) × (values rest ≡ Ok zs)
both-have own rest ys is =
    let place = λ (p : ℕ). length own + p in
    let both = from_value (values own) (λ done. after done (moved place (values rest))) ys (sym (values-two no.BadInput written_number own rest) ∙ is) in
    let behind = from_value (moved place (values rest)) (λ more. Ok (both.0 ++ more)) ys both.2 in
    (both.0, behind.0, both.1, moved-back place (values rest) behind.0 behind.1)

-- and so have those of each of many
part-has : (lists : List (List (List ℕ))) (k : ℕ) (tokens : List (List ℕ)) (ys : List ℤ) → slice_get lists k ≡ Some tokens → values (joined lists) ≡ Ok ys
    → (zs : List ℤ) × (values tokens ≡ Ok zs) × (length tokens ≤ length (joined lists))
part-has [] k tokens ys here is = absurd (none-some tokens here)
part-has (own ∷ lists) zero tokens ys here is =
    let both = both-have own (joined lists) ys is in
    let same : own ≡ tokens = same_Some own tokens here in
    (both.0, ap values (sym same) ∙ both.2, omega (arith, ap length same, length-append own (joined lists)))
part-has (own ∷ lists) (suc k) tokens ys here is =
    let both = both-have own (joined lists) ys is in
    let found = part-has lists k tokens both.1 here both.3 in
    (found.0, found.1, omega (arith, found.2, length-append own (joined lists)))

pub part-fault : (parts : List (List ℕ)) (k : ℕ) (bytes : List ℕ) (f : Fault) → AreCutAtWhite parts → slice_get parts k ≡ Some bytes
    → input_within most_places bytes ≡ Err f → (g : Fault) × (input_within most_places (joined parts) ≡ Err g)
part-fault parts k bytes f cut here fails = by-answer (input_within most_places (joined parts)) refl
  where
    by-answer : (r : Result (List ℤ) Fault) → input_within most_places (joined parts) ≡ r → (g : Fault) × (input_within most_places (joined parts) ≡ Err g)
    by-answer (Err g) is = (g, is)
    by-answer (Ok ys) is =
        let whole = input-is (joined parts) ys is in
        let tokens = all-tokens parts cut in
        let own = part-has (map toks parts) k (toks bytes) ys (slice_get-map toks parts k ∙ ap (option_map toks) here) (ap values (sym tokens) ∙ whole.1) in
        let few : length (toks bytes) ≤ most_places = omega (arith, own.2, ap length tokens, whole.0) in
        let bad : Ok own.0 ≡ Err f = sym (input-gives bytes few ∙ own.1) ∙ fails in
        cc
