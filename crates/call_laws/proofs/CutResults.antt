-- The results of segmented calls, cut again into the flat results of the segments.
use Rattle.call_laws.proofs.Cited.{◌≡◌, ◌∷◌, ◌∙◌, ◌↔◌, ◌>>=◌, ℕ, Bool, List, [], length, map, refl, sym, ap, zip, Ok, Result, map-map, if_as_long, joined, nest, count_of, beside, end_to_end}
use Rattle.call_laws.proofs.Cited.{one_each, results_from, seg_count_of, firsts-zip, seconds-zip, Fault}
use Rattle.call_laws.specs.CutAgain.{IsCutInto}
use Rattle.call_laws.proofs.Cuts.{nest-joined, nest-meaning}
use Rattle.call_laws.proofs.Segments.{counts-of, joined-meaning}
use Rattle.call_laws.proofs.Sending.{if_as_long-Ok}
use Rattle.call_laws.proofs.TwoParts.{from_value}

-- ---- any segmented call

pub cut-again : {S X : Type 0} (place : ℕ → ℕ → ℕ) (call : S → Result (List X) Fault) (segments : List S) (lists : List (List X)) (result : List X) → map call segments ≡ map (λ r. Ok r) lists
    → (end_to_end place call (Ok segments) ≡ Ok result) ↔ (nest (map length lists) result ≡ Ok lists)
cut-again place call segments lists result same =
    let whole : end_to_end place call (Ok segments) ≡ Ok (joined lists) = (joined-meaning place call segments (joined lists)).1 (lists, same, refl) in (
      λ p. let e : joined lists ≡ result = cc in rw (← e) (nest-joined lists),
      λ q. whole ∙ ap Ok ((nest-meaning (map length lists) result lists).0 q).has_elements,
    )

module _ {S X : Type 0} (place : ℕ → ℕ → ℕ) (call : S → Result (List X) Fault) (long : S → ℕ) (told : (x : S) (r : List X) → call x ≡ Ok r → length r ≡ long x) where
  -- the results' lengths, where a segment tells the length of its result
  lengths-told : (segments : List S) (lists : List (List X)) → map call segments ≡ map (λ r. Ok r) lists → map length lists ≡ map long segments
  lengths-told [] [] same = refl
  lengths-told [] (r ∷ lists) same = cc
  lengths-told (x ∷ segments) [] same = cc
  lengths-told (x ∷ segments) (r ∷ lists) same =
      let first = told x r (cc) in
      let rest = lengths-told segments lists (cc) in
      λ i. first i ∷ rest i

  cut-by : (segments : List S) (lengths : List ℕ) (result : List X) → map long segments ≡ lengths → end_to_end place call (Ok segments) ≡ Ok result → IsCutInto call segments lengths result
  cut-by segments lengths result by p =
      let parts = (joined-meaning place call segments result).0 p in
      (parts.0, parts.1, rw (← by, ← lengths-told segments parts.0 parts.1) ((cut-again place call segments parts.0 result parts.1).0 p))

-- ---- the segments of a call with several arguments

zipped : {A B : Type 0} (firsts : Result (List A) Fault) (seconds : Result (List B) Fault) (xs : List A) (ys : List B) (ss : List (A × B)) → firsts ≡ Ok xs → seconds ≡ Ok ys
    → beside firsts seconds ≡ Ok ss → (length xs ≡ length ys) × (zip xs ys ≡ ss)
zipped firsts seconds xs ys ss first second p =
    let parts = if_as_long-Ok xs ys (Ok (zip xs ys)) ss (sym (λ i. beside (first i) (second i)) ∙ p) in
    let listed = parts.1 in
    (parts.0, cc)

-- the result of a call of two lists of arguments, cut again
pub cut-two : {A B X : Type 0} {firsts : Result (List A) Fault} {seconds : Result (List B) Fault} {xs : List A} {ys : List B} (place : ℕ → ℕ → ℕ) (call : A × B → Result (List X) Fault)
    (long : A × B → ℕ) → ((x : A × B) (r : List X) → call x ≡ Ok r → length r ≡ long x) → (lengths : List ℕ) (result : List X) → firsts ≡ Ok xs → seconds ≡ Ok ys
    → (length xs ≡ length ys → map long (zip xs ys) ≡ lengths) → end_to_end place call (beside firsts seconds) ≡ Ok result → IsCutInto call (zip xs ys) lengths result
cut-two {firsts = firsts} {seconds = seconds} {xs = xs} {ys = ys} place call long told lengths result first second by p =
    let lists = from_value (one_each place call (beside firsts seconds)) (λ lists. Ok (joined lists)) result p in
    let segments = from_value (beside firsts seconds) (results_from place call 0) lists.0 lists.1 in
    let parts = zipped firsts seconds xs ys segments.0 first second segments.1 in
    let given : beside firsts seconds ≡ Ok (zip xs ys) = segments.1 ∙ ap Ok (sym parts.1) in
    cut-by place call long told (zip xs ys) lengths result (by parts.0) (sym (ap (end_to_end place call) given) ∙ p)

-- and of three
pub cut-three : {A B C X : Type 0} {firsts : Result (List A) Fault} {seconds : Result (List B) Fault} {thirds : Result (List C) Fault} {xs : List A} {ys : List B} {zs : List C}
    (place : ℕ → ℕ → ℕ) (call : (A × B) × C → Result (List X) Fault) (long : (A × B) × C → ℕ) → ((x : (A × B) × C) (r : List X) → call x ≡ Ok r → length r ≡ long x)
    → (lengths : List ℕ) (result : List X) → firsts ≡ Ok xs → seconds ≡ Ok ys → thirds ≡ Ok zs
    → (length xs ≡ length ys → length (zip xs ys) ≡ length zs → map long (zip (zip xs ys) zs) ≡ lengths)
    → end_to_end place call (beside (beside firsts seconds) thirds) ≡ Ok result → IsCutInto call (zip (zip xs ys) zs) lengths result
cut-three {firsts = firsts} {seconds = seconds} {thirds = thirds} {xs = xs} {ys = ys} place call long told lengths result first second third by p =
    let lists = from_value (one_each place call (beside (beside firsts seconds) thirds)) (λ lists. Ok (joined lists)) result p in
    let segments = from_value (beside (beside firsts seconds) thirds) (results_from place call 0) lists.0 lists.1 in
    let pairs = from_value (beside firsts seconds) (λ ps. thirds >>= λ zs. if_as_long ps zs (Ok (zip ps zs))) segments.0 segments.1 in
    let parts = zipped firsts seconds xs ys pairs.0 first second pairs.1 in
    cut-two place call long told lengths result (pairs.1 ∙ ap Ok (sym parts.1)) third (by parts.0) p

-- ---- what segments tell of their results' lengths

pub map-firsts : {A B C : Type 0} (f : A → C) (xs : List A) (ys : List B) → length xs ≡ length ys → map (λ p. f p.0) (zip xs ys) ≡ map f xs
map-firsts f xs ys same = sym (map-map f (λ p. p.0) (zip xs ys)) ∙ ap (map f) (firsts-zip xs ys (sym same))

pub map-seconds : {A B C : Type 0} (f : B → C) (xs : List A) (ys : List B) → length xs ≡ length ys → map (λ p. f p.1) (zip xs ys) ≡ map f ys
map-seconds f xs ys same = sym (map-map f (λ p. p.1) (zip xs ys)) ∙ ap (map f) (seconds-zip xs ys (sym same))

pub has-lengths : {X : Type 0} (lengths : List ℕ) (xs : List X) (lists : List (List X)) → nest lengths xs ≡ Ok lists → map length lists ≡ lengths
has-lengths lengths xs lists cut = ((nest-meaning lengths xs lists).0 cut).has_lengths

pub counts-given : (flags : List Bool) (lengths counts : List ℕ) (lists : List (List Bool)) → nest lengths flags ≡ Ok lists → seg_count_of flags lengths ≡ Ok counts → map count_of lists ≡ counts
counts-given flags lengths counts lists cut p = let counted = counts-of lengths flags lists cut in cc
