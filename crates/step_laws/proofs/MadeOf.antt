-- Calls by segments whose segments are those of some parts, one part behind another.
use Rattle.std.proofs.Common.{◌≡◌, ◌∙◌, ◌+◌, ◌≤◌, ℕ, zero, suc, get_or, List, [], ◌∷◌, ◌++◌, length, map, sum, take, drop, Result, Ok, refl, sym, ap, arith}
use Rattle.std.proofs.Common.{All, length-append, length-drop}
use mathlib.Core.List.{map-map}
use Rattle.std.proofs.lemmas.List.{map-append, take-append-le}
use Rattle.std.proofs.lemmas.List.Elements.{All-head, All-tail}
use Rattle.std.proofs.lemmas.List.Sums.{sum_by-append}
use Rattle.std.proofs.lemmas.Option.{same_Some}
use Rattle.std.specs.List.{zip}
use Rattle.std.specs.Result.{result_ok}
use Rattle.call_laws.proofs.Segments.{results-meaning}
use Rattle.call_laws.proofs.TwoParts.{from_value, joined-append, zip-append}
use Rattle.cvl_base.proofs.Elementwise.{if_as_long-fits}
use Rattle.cvl_base.proofs.Lists.{sum-cons}
use Rattle.cvl_base.proofs.Nests.{nest-fits}
use Rattle.cvl_base.specs.declared.fault.Fault.{Fault}
use Rattle.cvl_base.specs.Gives.{◌>>=◌}
use Rattle.cvl_base.specs.Lists.{joined}
use Rattle.cvl_base.specs.Nests.{cut_of, nest}
use Rattle.cvl_base.specs.Segmented.{beside, end_to_end, one_each}
use Rattle.step_laws.specs.SegmentCalls.{IsMadeBy, IsMadeOf}

-- ---- the segments of all parts

-- the segments of a whole are those of its parts
pub record Cuts {P S : Type 0} (parts : List P) (whole : Result (List S) Fault) (own : P → Result (List S) Fault) (segments : P → List S) : Type 0 where
  pub each : All (λ p. own p ≡ Ok (segments p)) parts
  pub all : whole ≡ Ok (joined (map segments parts))

-- lists that are cut where some lengths end
cut-append : {X : Type 0} (lengths more : List ℕ) (xs ys : List X) → sum lengths ≡ length xs → cut_of (lengths ++ more) (xs ++ ys) ≡ cut_of lengths xs ++ cut_of more ys
cut-append [] more [] ys add_up = refl
cut-append [] more (x ∷ xs) ys add_up = absurd (omega (arith, add_up))
cut-append (n ∷ ns) more xs ys add_up =
    let total = sum-cons n ns in
    let first : take n (xs ++ ys) ≡ take n xs = take-append-le n xs ys (omega (arith, add_up, total)) in
    let rest : drop n (xs ++ ys) ≡ drop n xs ++ ys = drop-front n xs ys (omega (arith, add_up, total)) in
    ap (λ zs. zs ∷ cut_of (ns ++ more) (drop n (xs ++ ys))) first
    ∙ ap (λ zs. take n xs ∷ cut_of (ns ++ more) zs) rest
    ∙ ap (λ lists. take n xs ∷ lists) (cut-append ns more (drop n xs) ys (omega (arith, add_up, total, length-drop n xs)))
  where
    drop-front : {Y : Type 0} (k : ℕ) (firsts seconds : List Y) → k ≤ length firsts → drop k (firsts ++ seconds) ≡ drop k firsts ++ seconds
    drop-front zero firsts seconds few = refl
    drop-front (suc k) [] seconds few = absurd (omega (arith, few))
    drop-front (suc k) (a ∷ firsts) seconds few = drop-front k firsts seconds (omega (arith, few))

module _ {P : Type 0} where
  -- lengths of the parts add up firsts those of all
  adds-up : {X : Type 0} (lengths : P → List ℕ) (xs : P → List X) (parts : List P) → All (λ p. sum (lengths p) ≡ length (xs p)) parts
      → sum (joined (map lengths parts)) ≡ length (joined (map xs parts))
  adds-up lengths xs [] fit = refl
  adds-up lengths xs (p ∷ parts) fit =
      sum_by-append (λ n. n) (lengths p) (joined (map lengths parts))
      ∙ ap (λ n. n + sum (joined (map lengths parts))) (All-head (λ q. sum (lengths q) ≡ length (xs q)) p parts fit)
      ∙ ap (λ n. length (xs p) + n) (adds-up lengths xs parts (All-tail (λ q. sum (lengths q) ≡ length (xs q)) p parts fit))
      ∙ sym (length-append (xs p) (joined (map xs parts)))

  cut-all : {X : Type 0} (lengths : P → List ℕ) (xs : P → List X) (parts : List P) → All (λ p. sum (lengths p) ≡ length (xs p)) parts
      → cut_of (joined (map lengths parts)) (joined (map xs parts)) ≡ joined (map (λ p. cut_of (lengths p) (xs p)) parts)
  cut-all lengths xs [] fit = refl
  cut-all lengths xs (p ∷ parts) fit =
      cut-append (lengths p) (joined (map lengths parts)) (xs p) (joined (map xs parts)) (All-head (λ q. sum (lengths q) ≡ length (xs q)) p parts fit)
      ∙ ap (λ lists. cut_of (lengths p) (xs p) ++ lists) (cut-all lengths xs parts (All-tail (λ q. sum (lengths q) ≡ length (xs q)) p parts fit))

  -- a vector whose parts are segments with these lengths
  pub cuts-nest : {X : Type 0} (lengths : P → List ℕ) (xs : P → List X) (parts : List P) → All (λ p. sum (lengths p) ≡ length (xs p)) parts
      → Cuts parts (nest (joined (map lengths parts)) (joined (map xs parts))) (λ p. nest (lengths p) (xs p)) (λ p. cut_of (lengths p) (xs p))
  cuts-nest lengths xs parts fit = record {
    each = λ k d within. nest-fits (lengths (get_or parts k d)) (xs (get_or parts k d)) (fit k d within);
    all = nest-fits (joined (map lengths parts)) (joined (map xs parts)) (adds-up lengths xs parts fit) ∙ ap Ok (cut-all lengths xs parts fit);
  }

  -- one value for each segment
  pub cuts-given : {X : Type 0} (values : P → List X) (parts : List P) → Cuts parts (Ok (joined (map values parts))) (λ p. Ok (values p)) values
  cuts-given values parts = record { each = λ k d within. refl; all = refl }

  pub zip-all : {A B : Type 0} (firsts : P → List A) (seconds : P → List B) (parts : List P) → All (λ p. length (firsts p) ≡ length (seconds p)) parts
      → zip (joined (map firsts parts)) (joined (map seconds parts)) ≡ joined (map (λ p. zip (firsts p) (seconds p)) parts)
  zip-all firsts seconds [] long = refl
  zip-all firsts seconds (p ∷ parts) long =
      zip-append (firsts p) (seconds p) (joined (map firsts parts)) (joined (map seconds parts)) (All-head (λ q. length (firsts q) ≡ length (seconds q)) p parts long)
      ∙ ap (λ ps. zip (firsts p) (seconds p) ++ ps) (zip-all firsts seconds parts (All-tail (λ q. length (firsts q) ≡ length (seconds q)) p parts long))

  pub as-many : {A B : Type 0} (firsts : P → List A) (seconds : P → List B) (parts : List P) → All (λ p. length (firsts p) ≡ length (seconds p)) parts
      → length (joined (map firsts parts)) ≡ length (joined (map seconds parts))
  as-many firsts seconds [] long = refl
  as-many firsts seconds (p ∷ parts) long =
      length-append (firsts p) (joined (map firsts parts))
      ∙ ap (λ n. n + length (joined (map firsts parts))) (All-head (λ q. length (firsts q) ≡ length (seconds q)) p parts long)
      ∙ ap (λ n. length (seconds p) + n) (as-many firsts seconds parts (All-tail (λ q. length (firsts q) ≡ length (seconds q)) p parts long))
      ∙ sym (length-append (seconds p) (joined (map seconds parts)))

  -- the segments of two vectors side by side
  pub cuts-beside : {A B : Type 0} (parts : List P) (whole : Result (List A) Fault) (other : Result (List B) Fault) (own : P → Result (List A) Fault) (others : P → Result (List B) Fault)
      (firsts : P → List A) (seconds : P → List B) → Cuts parts whole own firsts → Cuts parts other others seconds → All (λ p. length (firsts p) ≡ length (seconds p)) parts
      → Cuts parts (beside whole other) (λ p. beside (own p) (others p)) (λ p. zip (firsts p) (seconds p))
  cuts-beside parts whole other own others firsts seconds first second long = record {
    each = λ k d within.
        let p = get_or parts k d in
        (λ i. beside (first.each k d within i) (second.each k d within i)) ∙ if_as_long-fits (firsts p) (seconds p) _ (long k d within);
    all = (λ i. beside (first.all i) (second.all i))
        ∙ if_as_long-fits (joined (map firsts parts)) (joined (map seconds parts)) _ (as-many firsts seconds parts long) ∙ ap Ok (zip-all firsts seconds parts long);
  }

-- ---- the calls on them

-- firsts many of a list of values firsts a list in front has
parted : {S R : Type 0} (call : S → Result R Fault) (xs : List S) (others : List S) (rs : List R) → map call (xs ++ others) ≡ map (λ r. Ok r) rs
    → (first : List R) × (rest : List R) × (map call xs ≡ map (λ r. Ok r) first) × (map call others ≡ map (λ r. Ok r) rest) × (rs ≡ first ++ rest)
parted call [] others rs is = ([], rs, refl, is, refl)
parted call (x ∷ xs) others [] is = cc
parted call (x ∷ xs) others (r ∷ rs) is =
    let first : call x ≡ Ok r = cc in
    let more : map call (xs ++ others) ≡ map (λ r. Ok r) rs = cc in
    let rest = parted call xs others rs more in
    (r ∷ rest.0, rest.1, (λ i. first i ∷ rest.2 i), rest.3, (λ i. r ∷ rest.4 i))

module _ {P R : Type 0} where
  -- results of parts that are values
  pub values_of : (own : P → Result R Fault) (value : P → R) (parts : List P) → All (λ p. own p ≡ Ok (value p)) parts → map own parts ≡ map (λ r. Ok r) (map value parts)
  values_of own value [] each = refl
  values_of own value (p ∷ parts) each =
      ap (λ r. r ∷ map own parts) (All-head (λ q. own q ≡ Ok (value q)) p parts each)
      ∙ ap (λ rs. Ok (value p) ∷ rs) (values_of own value parts (All-tail (λ q. own q ≡ Ok (value q)) p parts each))

  -- functions that give the same of each part give the same lists
  same_each : (f g : P → R) (parts : List P) → All (λ p. f p ≡ g p) parts → map f parts ≡ map g parts
  same_each f g [] each = refl
  same_each f g (p ∷ parts) each =
      ap (λ r. r ∷ map f parts) (All-head (λ q. f q ≡ g q) p parts each) ∙ ap (λ rs. g p ∷ rs) (same_each f g parts (All-tail (λ q. f q ≡ g q) p parts each))

-- calls that mean the same are made of parts that mean the same
pub made_by_alike : {P V : Type 0} (together : List V → V) (parts : List P) (whole other : Result V Fault) (own others : P → Result V Fault) → other ≡ whole
    → All (λ p. others p ≡ own p) parts → IsMadeBy together whole (map own parts) → IsMadeBy together other (map others parts)
made_by_alike together parts whole other own others same alike made =
    let listed = same_each others own parts alike in
    record {
      all = λ values are. same ∙ made.all values (sym listed ∙ are);
      each = λ value is. let parted = made.each value (sym same ∙ is) in (parted.0, listed ∙ parted.1, parted.2);
    }

pub made_alike : {P Y : Type 0} (parts : List P) (whole other : Result (List Y) Fault) (own others : P → Result (List Y) Fault) → other ≡ whole
    → All (λ p. others p ≡ own p) parts → IsMadeOf whole (map own parts) → IsMadeOf other (map others parts)
made_alike parts whole other own others same alike made = made_by_alike joined parts whole other own others same alike made

module _ {P S : Type 0} where
  module _ {R : Type 0} (call : S → Result R Fault) (place : ℕ → ℕ → ℕ) (own_place : P → ℕ → ℕ → ℕ) where
    -- values on the segments of each part are values on all segments
    values-all : (segments : P → List S) (parts : List P) (lists : List (List R))
        → map (λ p. one_each (own_place p) call (Ok (segments p))) parts ≡ map (λ l. Ok l) lists
        → map call (joined (map segments parts)) ≡ map (λ r. Ok r) (joined lists)
    values-all segments [] [] are = refl
    values-all segments [] (l ∷ lists) are = cc
    values-all segments (p ∷ parts) [] are = cc
    values-all segments (p ∷ parts) (l ∷ lists) are =
        let here : one_each (own_place p) call (Ok (segments p)) ≡ Ok l = cc in
        let rest : map (λ q. one_each (own_place q) call (Ok (segments q))) parts ≡ map (λ m. Ok m) lists = cc in
        map-append call (segments p) (joined (map segments parts))
        ∙ (λ i. (results-meaning (own_place p) call (segments p) l).0 here i ++ values-all segments parts lists rest i)
        ∙ sym (map-append (λ r. Ok r) l (joined lists))

    -- and the other way round
    values-each : (segments : P → List S) (parts : List P) (rs : List R) → map call (joined (map segments parts)) ≡ map (λ r. Ok r) rs
        → (lists : List (List R)) × (map (λ p. one_each (own_place p) call (Ok (segments p))) parts ≡ map (λ l. Ok l) lists) × (rs ≡ joined lists)
    values-each segments [] [] are = ([], refl, refl)
    values-each segments [] (r ∷ rs) are = cc
    values-each segments (p ∷ parts) rs are =
        let two = parted call (segments p) (joined (map segments parts)) rs are in
        let rest = values-each segments parts two.1 two.3 in
        (two.0 ∷ rest.0, (λ i. (results-meaning (own_place p) call (segments p) two.0).1 two.2 i ∷ rest.1 i), two.4 ∙ ap (λ zs. two.0 ++ zs) rest.2)

    -- a call with a value for each segment
    pub made-values : (parts : List P) (whole : Result (List S) Fault) (own : P → Result (List S) Fault) (segments : P → List S) → Cuts parts whole own segments
        → IsMadeOf (one_each place call whole) (map (λ p. one_each (own_place p) call (own p)) parts)
    made-values parts whole own segments cuts =
        let cut : one_each place call whole ≡ one_each place call (Ok (joined (map segments parts))) = ap (one_each place call) cuts.all in
        let alike : All (λ p. one_each (own_place p) call (own p) ≡ one_each (own_place p) call (Ok (segments p))) parts =
        λ k d within. ap (one_each (own_place (get_or parts k d)) call) (cuts.each k d within) in
        made_alike parts (one_each place call (Ok (joined (map segments parts)))) (one_each place call whole)
        (λ p. one_each (own_place p) call (Ok (segments p))) (λ p. one_each (own_place p) call (own p)) cut alike
        (record {
          all = λ lists are. (results-meaning place call (joined (map segments parts)) (joined lists)).1 (values-all segments parts lists are);
          each = λ ys is. values-each segments parts ys ((results-meaning place call (joined (map segments parts)) ys).0 is);
        })

-- lists of lists that are put in a row
pub in_rows : {X : Type 0} (lists : List (List (List X))) → joined (map joined lists) ≡ joined (joined lists)
in_rows [] = refl
in_rows (l ∷ lists) = ap (λ zs. joined l ++ zs) (in_rows lists) ∙ sym (joined-append l (joined lists))

module _ {P V W : Type 0} (next : V → W) where
  -- what each part makes of its value is made of a value
  values-before : (own : P → Result V Fault) (parts : List P) (made : List W) → map (λ p. own p >>= λ v. Ok (next v)) parts ≡ map (λ w. Ok w) made
      → (values : List V) × (map own parts ≡ map (λ v. Ok v) values) × (made ≡ map next values)
  values-before own [] [] are = ([], refl, refl)
  values-before own [] (w ∷ made) are = cc
  values-before own (p ∷ parts) [] are = cc
  values-before own (p ∷ parts) (w ∷ made) are =
      let here : (own p >>= λ v. Ok (next v)) ≡ Ok w = cc in
      let more : map (λ q. own q >>= λ v. Ok (next v)) parts ≡ map (λ u. Ok u) made = cc in
      let first = from_value (own p) (λ v. Ok (next v)) w here in
      let rest = values-before own parts made more in
      let is : next first.0 ≡ w = same_Some (next first.0) w (ap result_ok first.2) in
      (first.0 ∷ rest.0, (λ i. first.1 i ∷ rest.1 i), (λ i. sym is i ∷ rest.2 i))

  values-behind : (own : P → Result V Fault) (parts : List P) (values : List V) → map own parts ≡ map (λ v. Ok v) values
      → map (λ p. own p >>= λ v. Ok (next v)) parts ≡ map (λ w. Ok w) (map next values)
  values-behind own [] [] are = refl
  values-behind own [] (v ∷ values) are = cc
  values-behind own (p ∷ parts) [] are = cc
  values-behind own (p ∷ parts) (v ∷ values) are =
      let here : own p ≡ Ok v = cc in
      let more : map own parts ≡ map (λ u. Ok u) values = cc in
      (λ i. (here i >>= λ u. Ok (next u)) ∷ values-behind own parts values more i)

  -- a call goes on from its value as the parts do from theirs, if what they make is together what it makes
  pub made-next : (together : List V → V) (also : List W → W) → ((values : List V) → also (map next values) ≡ next (together values)) → (parts : List P) (whole : Result V Fault)
      (own : P → Result V Fault) → IsMadeBy together whole (map own parts)
      → IsMadeBy also (whole >>= λ v. Ok (next v)) (map (λ p. own p >>= λ v. Ok (next v)) parts)
  made-next together also same parts whole own made = record {
    all = λ ws are.
        let values = values-before own parts ws are in
        ap (λ r. r >>= λ v. Ok (next v)) (made.all values.0 values.1) ∙ ap Ok (sym (same values.0) ∙ ap also (sym values.2));
    each = λ w is.
        let value = from_value whole (λ v. Ok (next v)) w is in
        let values = made.each value.0 value.1 in (
          map next values.0,
          values-behind own parts values.0 values.1,
          sym (same_Some (next value.0) w (ap result_ok value.2)) ∙ ap next values.2 ∙ sym (same values.0),
        );
  }

module _ {P X : Type 0} where
  -- the same for results that are lists, which are put in a row
  pub made-rows : (parts : List P) (whole : Result (List (List X)) Fault) (own : P → Result (List (List X)) Fault) → IsMadeOf whole (map own parts)
      → IsMadeOf (whole >>= λ lists. Ok (joined lists)) (map (λ p. own p >>= λ lists. Ok (joined lists)) parts)
  made-rows parts whole own made = made-next joined joined joined in_rows parts whole own made

module _ {P S X : Type 0} (call : S → Result (List X) Fault) (place : ℕ → ℕ → ℕ) (own_place : P → ℕ → ℕ → ℕ) where
  -- a call with a list for each segment
  pub made-lists : (parts : List P) (whole : Result (List S) Fault) (own : P → Result (List S) Fault) (segments : P → List S) → Cuts parts whole own segments
      → IsMadeOf (end_to_end place call whole) (map (λ p. end_to_end (own_place p) call (own p)) parts)
  made-lists parts whole own segments cuts =
      made-rows parts (one_each place call whole) (λ p. one_each (own_place p) call (own p)) (made-values call place own_place parts whole own segments cuts)

-- ---- calls that always have a value

abbrev given-values : {Z : Type 0} → List Z → List (Result Z Fault)
given-values xs = map (λ x. Ok x) xs

same-values : {Z : Type 0} (xs ys : List Z) → given-values xs ≡ given-values ys → xs ≡ ys
same-values [] [] same = refl
same-values [] (y ∷ ys) same = cc
same-values (x ∷ xs) [] same = cc
same-values (x ∷ xs) (y ∷ ys) same =
    let first : x ≡ y = cc in
    let rest : given-values xs ≡ given-values ys = cc in
    (λ i. first i ∷ same-values xs ys rest i)

pub made_by_certain : {P V : Type 0} (together : List V → V) (parts : List P) (whole : Result V Fault) (own : P → Result V Fault) (value : P → V)
    → whole ≡ Ok (together (map value parts)) → All (λ p. own p ≡ Ok (value p)) parts → IsMadeBy together whole (map own parts)
made_by_certain together parts whole own value is has =
    let listed = values_of own value parts has in
    record {
      all = λ values are. is ∙ ap (λ vs. Ok (together vs)) (same-values (map value parts) values (sym listed ∙ are));
      each = λ v whole_is. (map value parts, listed, sym (same_Some (together (map value parts)) v (ap result_ok (sym is ∙ whole_is))));
    }

pub made-certain : {P Y : Type 0} (parts : List P) (whole : Result (List Y) Fault) (own : P → Result (List Y) Fault) (value : P → List Y)
    → whole ≡ Ok (joined (map value parts)) → All (λ p. own p ≡ Ok (value p)) parts → IsMadeOf whole (map own parts)
made-certain parts whole own value is has = made_by_certain joined parts whole own value is has

-- what is made of each item is made of those of each part
pub map-joined : {P A B : Type 0} (f : A → B) (xs : P → List A) (parts : List P) → map f (joined (map xs parts)) ≡ joined (map (λ p. map f (xs p)) parts)
map-joined f xs [] = refl
map-joined f xs (p ∷ parts) = map-append f (xs p) (joined (map xs parts)) ∙ ap (λ ys. map f (xs p) ++ ys) (map-joined f xs parts)

-- so too if it is a list, and these are put in a row
pub row-joined : {P A X : Type 0} (f : A → List X) (xs : P → List A) (parts : List P) → joined (map f (joined (map xs parts))) ≡ joined (map (λ p. joined (map f (xs p))) parts)
row-joined f xs parts =
    ap joined (map-joined f xs parts) ∙ sym (in_rows (map (λ p. map f (xs p)) parts)) ∙ ap joined (map-map joined (λ p. map f (xs p)) parts)
