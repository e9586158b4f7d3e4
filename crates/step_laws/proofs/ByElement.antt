-- Families of calls by segments that have a value for each element of a list, or a fault at the first that has none.
use Rattle.std.proofs.Common.{◌≡◌, ◌∙◌, ◌+◌, ◌++◌, ◌≤◌, ℕ, ℤ, List, [], ◌∷◌, length, map, sum, Result, Ok, Option, Some, None, refl, sym, ap, arith}
use Rattle.std.proofs.Common.{All, get_or}
use Rattle.std.proofs.lemmas.Option.{none-some}
use Rattle.std.proofs.lemmas.Slice.Zip.{length-zip}
use Rattle.std.specs.List.{zip}
use Rattle.std.specs.Option.{ok_or}
use Rattle.cvl_base.proofs.Elementwise.{if_as_long-fits}
use Rattle.cvl_base.specs.CheckedSums.{fitting}
use Rattle.cvl_base.specs.declared.fault.Fault.{Fault}
use Rattle.cvl_base.specs.declared.fault.FaultNo.{FaultNo}
use Rattle.cvl_base.specs.declared.fault.FaultNo.TheVariants as no
use Rattle.cvl_base.specs.Elementwise.{if_as_long, values_from}
use Rattle.cvl_base.specs.Faults.{fault_at}
use Rattle.cvl_base.specs.Gives.{◌>>=◌, unless}
use Rattle.cvl_base.specs.Limits.{most_places}
use Rattle.cvl_base.specs.Lists.{joined}
use Rattle.cvl_base.specs.Nests.{cut_of, nest}
use Rattle.cvl_base.specs.Permutes.{first_fault}
use Rattle.cvl_base.specs.Segmented.{at_segment, moved, one_each, results_from}
use Rattle.permute_walks.specs.Indices.{first_outside, outside}
use Rattle.segment_slices.specs.Slices.{gather_segments_of, slice_within}
use Rattle.sparse_products.specs.Answers.{checked_rows_product, rows_product, rows_within}
use Rattle.sparse_products.specs.Products.{row_product, row_total}
use Rattle.c_calls.specs.Calls.{by_segments, in_limit, lengths_of}
use Rattle.call_laws.proofs.Sending.{unless-Ok}
use Rattle.step_laws.proofs.BySegments.{by-lengths, by-limit, sizes}
use Rattle.step_laws.proofs.MadeOf.{as-many, cuts-given, cuts-nest, made-certain, made-rows, made-values, made_alike, map-joined, zip-all}
use Rattle.step_laws.specs.SegmentCalls.{AddUp, AsMany, IsMadeOf, of_all}

-- ---- values of elements

module _ {A Y : Type 0} (number : FaultNo) (f : A → Option Y) where
  -- the value of an element as a call of it
  abbrev pub own-value : A → Result Y Fault
  own-value x = ok_or (f x) (fault_at number 0)

  at-place : (k : ℕ) (o : Option Y) → ok_or o (fault_at number k) ≡ moved (at_segment k) (ok_or o (fault_at number 0))
  at-place k (Some y) = refl
  at-place k None = refl

  by-element : (k : ℕ) (xs : List A) → values_from number k (map f xs) ≡ results_from at_segment own-value k xs
  by-element k [] = refl
  by-element k (x ∷ xs) = (λ i. at-place k (f x) i >>= λ y. by-element (k + 1) xs i >>= λ ys. Ok (y ∷ ys))

  -- the values of all elements are made of those of each part's
  pub made-elements : {P : Type 0} (xs : P → List A) (parts : List P)
      → IsMadeOf (values_from number 0 (map f (joined (map xs parts)))) (map (λ p. values_from number 0 (map f (xs p))) parts)
  made-elements xs parts =
      made_alike parts (one_each at_segment own-value (Ok (joined (map xs parts)))) (values_from number 0 (map f (joined (map xs parts))))
      (λ p. one_each at_segment own-value (Ok (xs p))) (λ p. values_from number 0 (map f (xs p)))
      (by-element 0 (joined (map xs parts))) (λ k d lt. by-element 0 (xs (get_or parts k d)))
      (made-values own-value at_segment (λ p. at_segment) parts (Ok (joined (map xs parts))) (λ p. Ok (xs p)) xs (cuts-given xs parts))

-- ---- slices

module _ {P X : Type 0} (parts : List P) (source : List X) (starts lengths : P → List ℤ) (segments : List ℕ) (are : lengths_of (of_all lengths parts) ≡ Ok segments)
    (few : length (of_all starts parts) ≤ most_places) (many : AsMany starts lengths parts) where
  pub gathered : IsMadeOf (by_segments (of_all lengths parts) (λ d. in_limit (of_all starts parts) (gather_segments_of source (of_all starts parts) (of_all lengths parts))))
      (map (λ p. by_segments (lengths p) (λ d. in_limit (starts p) (gather_segments_of source (starts p) (lengths p)))) parts)
  gathered =
      let slices = λ (p : P). zip (starts p) (lengths p) in
      let whole = values_from no.IndexOutOfRange 0 (map (slice_within source) (joined (map slices parts))) in
      let own : P → Result (List (List X)) Fault = λ p. values_from no.IndexOutOfRange 0 (map (slice_within source) (slices p)) in
      by-lengths lengths parts segments are (λ d. in_limit (of_all starts parts) (gather_segments_of source (of_all starts parts) (of_all lengths parts)))
      (λ p d. in_limit (starts p) (gather_segments_of source (starts p) (lengths p)))
      (by-limit starts parts (gather_segments_of source (of_all starts parts) (of_all lengths parts)) (λ p. gather_segments_of source (starts p) (lengths p)) few
      (made_alike parts (whole >>= λ ls. Ok (joined ls)) (gather_segments_of source (of_all starts parts) (of_all lengths parts))
      (λ p. own p >>= λ ls. Ok (joined ls)) (λ p. gather_segments_of source (starts p) (lengths p))
      (if_as_long-fits (of_all starts parts) (of_all lengths parts) _ (as-many starts lengths parts many)
      ∙ ap (λ zs. values_from no.IndexOutOfRange 0 (map (slice_within source) zs) >>= λ ls. Ok (joined ls)) (zip-all starts lengths parts many))
      (λ k d lt. let p = get_or parts k d in if_as_long-fits (starts p) (lengths p) _ (many k d lt))
      (made-rows parts whole own (made-elements no.IndexOutOfRange (slice_within source) slices parts))))

-- ---- checks of elements

module _ {A : Type 0} (wrong : A → Option FaultNo) where
  first-moved : (k j : ℕ) (xs : List A) → first_fault k (map wrong xs) ≡ None → first_fault j (map wrong xs) ≡ None
  first-moved k j [] is = refl
  first-moved k j (x ∷ xs) is = by (wrong x) (first-moved (k + 1) (j + 1) xs) is
    where
      by : (w : Option FaultNo) → (first_fault (k + 1) (map wrong xs) ≡ None → first_fault (j + 1) (map wrong xs) ≡ None) → first_fault k (w ∷ map wrong xs) ≡ None
          → first_fault j (w ∷ map wrong xs) ≡ None
      by None moves none = moves none
      by (Some number) moves none = absurd (none-some (fault_at number k) (sym none))

  -- nothing is wrong in two lists if nothing is in either
  first-both : (k : ℕ) (xs ys : List A) → first_fault k (map wrong xs) ≡ None → first_fault 0 (map wrong ys) ≡ None → first_fault k (map wrong (xs ++ ys)) ≡ None
  first-both k [] ys none also = first-moved 0 k ys also
  first-both k (x ∷ xs) ys none also = by (wrong x) (λ rest. first-both (k + 1) xs ys rest also) none
    where
      by : (w : Option FaultNo) → (first_fault (k + 1) (map wrong xs) ≡ None → first_fault (k + 1) (map wrong (xs ++ ys)) ≡ None) → first_fault k (w ∷ map wrong xs) ≡ None
          → first_fault k (w ∷ map wrong (xs ++ ys)) ≡ None
      by None goes_on rest = goes_on rest
      by (Some number) goes_on rest = absurd (none-some (fault_at number k) (sym rest))

  first-each : (k : ℕ) (xs ys : List A) → first_fault k (map wrong (xs ++ ys)) ≡ None → (first_fault k (map wrong xs) ≡ None) × (first_fault 0 (map wrong ys) ≡ None)
  first-each k [] ys none = (refl, first-moved k 0 ys none)
  first-each k (x ∷ xs) ys none = by (wrong x) (first-each (k + 1) xs ys) none
    where
      by : (w : Option FaultNo)
          → (first_fault (k + 1) (map wrong (xs ++ ys)) ≡ None → (first_fault (k + 1) (map wrong xs) ≡ None) × (first_fault 0 (map wrong ys) ≡ None))
          → first_fault k (w ∷ map wrong (xs ++ ys)) ≡ None → (first_fault k (w ∷ map wrong xs) ≡ None) × (first_fault 0 (map wrong ys) ≡ None)
      by None goes_on rest = goes_on rest
      by (Some number) goes_on rest = absurd (none-some (fault_at number k) (sym rest))

  -- a call after a check of elements
  abbrev checked : {Y : Type 0} → List A → Result Y Fault → Result Y Fault
  checked xs call = unless (first_fault 0 (map wrong xs)) call

  module _ {P Y : Type 0} (xs : P → List A) where
    pass-all : (own : P → Result (List Y) Fault) (parts : List P) (lists : List (List Y)) → map (λ p. checked (xs p) (own p)) parts ≡ map (λ l. Ok l) lists
        → (first_fault 0 (map wrong (joined (map xs parts))) ≡ None) × (map own parts ≡ map (λ l. Ok l) lists)
    pass-all own [] [] are = (refl, refl)
    pass-all own [] (l ∷ lists) are = cc
    pass-all own (p ∷ parts) [] are = cc
    pass-all own (p ∷ parts) (l ∷ lists) are =
        let here : checked (xs p) (own p) ≡ Ok l = cc in
        let more : map (λ q. checked (xs q) (own q)) parts ≡ map (λ m. Ok m) lists = cc in
        let first = unless-Ok (first_fault 0 (map wrong (xs p))) (own p) l here in
        let rest = pass-all own parts lists more in
        (first-both 0 (xs p) (joined (map xs parts)) first.0 rest.0, (λ i. first.1 i ∷ rest.1 i))

    pass-each : (own : P → Result (List Y) Fault) (parts : List P) → first_fault 0 (map wrong (joined (map xs parts))) ≡ None
        → map (λ p. checked (xs p) (own p)) parts ≡ map own parts
    pass-each own [] none = refl
    pass-each own (p ∷ parts) none =
        let two = first-each 0 (xs p) (joined (map xs parts)) none in
        (λ i. unless (two.0 i) (own p) ∷ pass-each own parts two.1 i)

    pub made-checked : (parts : List P) (whole : Result (List Y) Fault) (own : P → Result (List Y) Fault) → IsMadeOf whole (map own parts)
        → IsMadeOf (checked (joined (map xs parts)) whole) (map (λ p. checked (xs p) (own p)) parts)
    made-checked parts whole own made = record {
      all = λ lists are. let pass = pass-all own parts lists are in ap (λ o. unless o whole) pass.0 ∙ made.all lists pass.1;
      each = λ ys is.
          let pass = unless-Ok (first_fault 0 (map wrong (joined (map xs parts)))) whole ys is in
          let each = made.each ys pass.1 in (each.0, pass-each own parts pass.0 ∙ each.1, each.2);
    }

-- what follows a check follows a call that is checked
after-check : {X Y : Type 0} (o : Option Fault) (call : Result X Fault) (next : X → Result Y Fault) → (unless o call >>= next) ≡ unless o (call >>= next)
after-check None call next = refl
after-check (Some f) call next = refl

-- ---- products

module _ {P : Type 0} (parts : List P) (lengths columns values : P → List ℤ) (x : List ℤ) (segments : List ℕ) (are : lengths_of (of_all lengths parts) ≡ Ok segments)
    (few : length (of_all columns parts) ≤ most_places) (entries : AddUp lengths columns parts) (many : AsMany values columns parts) where
  abbrev pairs : P → List (ℤ × ℤ)
  pairs p = zip (columns p) (values p)

  columns-many : AsMany columns values parts
  columns-many = λ k d lt. sym (many k d lt)

  pairs-add-up : All (λ p. sum (sizes lengths p) ≡ length (pairs p)) parts
  pairs-add-up = λ k d lt. let p = get_or parts k d in omega (arith, entries k d lt, many k d lt, length-zip (columns p) (values p))

  -- what follows from the rows of parts
  pub made-product : (next : List (List (ℤ × ℤ)) → Result (List ℤ) Fault)
      → IsMadeOf (nest (joined (map (sizes lengths) parts)) (joined (map pairs parts)) >>= next) (map (λ p. nest (sizes lengths p) (pairs p) >>= next) parts)
      → IsMadeOf (by_segments (of_all lengths parts) (λ d. in_limit (of_all columns parts) (rows_within (length x) d (of_all columns parts) (of_all values parts) >>= next)))
      (map (λ p. by_segments (lengths p) (λ d. in_limit (columns p) (rows_within (length x) d (columns p) (values p) >>= next))) parts)
  made-product next made =
      let all = joined (map (sizes lengths) parts) in
      let C = of_all columns parts in let V = of_all values parts in
      let cut : (if_as_long V C (nest all (zip C V)) >>= next) ≡ (nest all (joined (map pairs parts)) >>= next) =
      ap (λ r. r >>= next) (if_as_long-fits V C _ (as-many values columns parts many) ∙ ap (nest all) (zip-all columns values parts columns-many)) in
      by-lengths lengths parts segments are (λ d. in_limit C (rows_within (length x) d C V >>= next)) (λ p d. in_limit (columns p) (rows_within (length x) d (columns p) (values p) >>= next))
      (by-limit columns parts (rows_within (length x) all C V >>= next) (λ p. rows_within (length x) (sizes lengths p) (columns p) (values p) >>= next) few
      (made_alike parts (unless (first_outside 0 (length x) C) (nest all (joined (map pairs parts)) >>= next)) (rows_within (length x) all C V >>= next)
      (λ p. unless (first_outside 0 (length x) (columns p)) (nest (sizes lengths p) (pairs p) >>= next)) (λ p. rows_within (length x) (sizes lengths p) (columns p) (values p) >>= next)
      (after-check (first_outside 0 (length x) C) (if_as_long V C (nest all (zip C V))) next ∙ ap (unless (first_outside 0 (length x) C)) cut)
      (λ k d lt. let p = get_or parts k d in
      after-check (first_outside 0 (length x) (columns p)) (if_as_long (values p) (columns p) (nest (sizes lengths p) (pairs p))) next
      ∙ ap (λ r. unless (first_outside 0 (length x) (columns p)) (r >>= next)) (if_as_long-fits (values p) (columns p) _ (many k d lt)))
      (made-checked (outside (length x)) columns parts (nest all (joined (map pairs parts)) >>= next) (λ p. nest (sizes lengths p) (pairs p) >>= next) made)))

  pub product : IsMadeOf (by_segments (of_all lengths parts) (λ d. in_limit (of_all columns parts) (rows_product d (of_all columns parts) (of_all values parts) x)))
      (map (λ p. by_segments (lengths p) (λ d. in_limit (columns p) (rows_product d (columns p) (values p) x))) parts)
  product =
      let cuts = cuts-nest (sizes lengths) pairs parts pairs-add-up in
      made-product (λ rows. Ok (map (row_product x) rows))
      (made-certain parts (nest (joined (map (sizes lengths) parts)) (joined (map pairs parts)) >>= λ rows. Ok (map (row_product x) rows))
      (λ p. nest (sizes lengths p) (pairs p) >>= λ rows. Ok (map (row_product x) rows)) (λ p. map (row_product x) (cut_of (sizes lengths p) (pairs p)))
      (ap (λ r. r >>= λ rows. Ok (map (row_product x) rows)) cuts.all ∙ ap Ok (map-joined (row_product x) (λ p. cut_of (sizes lengths p) (pairs p)) parts))
      (λ k d lt. ap (λ r. r >>= λ rows. Ok (map (row_product x) rows)) (cuts.each k d lt)))

  pub checked-product : IsMadeOf (by_segments (of_all lengths parts) (λ d. in_limit (of_all columns parts) (checked_rows_product d (of_all columns parts) (of_all values parts) x)))
      (map (λ p. by_segments (lengths p) (λ d. in_limit (columns p) (checked_rows_product d (columns p) (values p) x))) parts)
  checked-product =
      let cuts = cuts-nest (sizes lengths) pairs parts pairs-add-up in
      let rows = λ (p : P). cut_of (sizes lengths p) (pairs p) in
      let total : List (ℤ × ℤ) → Option ℤ = λ row. fitting (row_total x row) in
      made-product (λ rs. values_from no.Overflow 0 (map total rs))
      (made_alike parts (values_from no.Overflow 0 (map total (joined (map rows parts))))
      (nest (joined (map (sizes lengths) parts)) (joined (map pairs parts)) >>= λ rs. values_from no.Overflow 0 (map total rs))
      (λ p. values_from no.Overflow 0 (map total (rows p))) (λ p. nest (sizes lengths p) (pairs p) >>= λ rs. values_from no.Overflow 0 (map total rs))
      (ap (λ r. r >>= λ rs. values_from no.Overflow 0 (map total rs)) cuts.all) (λ k d lt. ap (λ r. r >>= λ rs. values_from no.Overflow 0 (map total rs)) (cuts.each k d lt))
      (made-elements no.Overflow total rows parts))
