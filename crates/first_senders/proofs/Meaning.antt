-- The segmented definition, told by the two walks through the segments.
use Rattle.first_senders.proofs.Cited.{◌≡◌, ◌≢◌, ◌∙◌, ℕ, ◌+◌, List, [], ◌∷◌, length, map, sum, take, drop, refl, sym, ap, length-append, arith, ℤ, Option, Ok, Err, zip, length-map-range_with_len}
use Rattle.first_senders.proofs.Cited.{LengthMismatch, fault, IsTold}
use Rattle.cvl_base.specs.Elementwise.{if_as_long}
use Rattle.cvl_base.specs.Gives.{◌>>=◌, unless}
use Rattle.cvl_base.specs.Lists.{joined}
use Rattle.cvl_base.specs.Nests.{cut_of, nest}
use Rattle.cvl_base.specs.Segmented.{beside, end_to_end, in_vector, of_two, results_from}
use Rattle.cvl_base.proofs.Elementwise.{if_as_long-fits, if_as_long-misfits}
use Rattle.cvl_base.proofs.Lists.{sum-cons}
use Rattle.cvl_base.proofs.Nests.{length-cut, nest-fits}
use Rattle.permute_walks.proofs.EndToEnd.{front, left_more}
use Rattle.first_senders.specs.FirstSenders.{first_sender, first_senders, first_senders_to, seg_first_senders_to, wrong_in}
use Rattle.first_senders.specs.Walks.{fault_by, senders_by}

module _ (lengths : List ℕ) where
  walked : (s place : ℕ) (left ms : List ℕ) (ts : List (Option ℤ)) → drop s lengths ≡ left → sum (take s lengths) ≡ place → length left ≡ length ms
      → (results_from (in_vector lengths) (of_two first_senders_to) s (zip (cut_of left ts) ms) >>= λ lists. Ok (joined lists))
      ≡ unless (fault_by place left ms ts) (Ok (senders_by left ms ts))
  walked s place [] ms ts lefts there count = refl
  walked s place (n ∷ ns) [] ts lefts there count = absurd (omega (arith, count))
  walked s place (n ∷ ns) (m ∷ ms) ts lefts there count =
      let on = left_more lengths s n ns lefts in
      front lengths s place (first_senders_to (take n ts) m) (map (wrong_in m) (take n ts)) (first_senders (take n ts) 0 m) (senders_by ns ms (drop n ts))
      (results_from (in_vector lengths) (of_two first_senders_to) (s + 1) (zip (cut_of ns (drop n ts)) ms)) (fault_by (place + n) ns ms (drop n ts)) there refl
      (walked (s + 1) (place + n) ns ms (drop n ts) on.0 (omega (arith, on.1, there)) (omega (arith, count)))

-- the segments of the result, one after another
senders_long : (ns ms : List ℕ) (ts : List (Option ℤ)) → length ns ≡ length ms → length (senders_by ns ms ts) ≡ sum ms
senders_long [] [] ts count = refl
senders_long [] (m ∷ ms) ts count = absurd (omega (arith, count))
senders_long (n ∷ ns) [] ts count = absurd (omega (arith, count))
senders_long (n ∷ ns) (m ∷ ms) ts count =
    length-append (first_senders (take n ts) 0 m) (senders_by ns ms (drop n ts))
    ∙ omega (arith, length-map-range_with_len (first_sender (take n ts)) 0 m, senders_long ns ms (drop n ts) (omega (arith, count)), sum-cons m ms)

-- where the lengths are those of the vector
module _ (lengths ms : List ℕ) (ts : List (Option ℤ)) (total : sum lengths ≡ length ts) where
  nested : beside (nest lengths ts) (Ok ms) ≡ if_as_long (cut_of lengths ts) ms (Ok (zip (cut_of lengths ts) ms))
  nested = ap (λ lists. beside lists (Ok ms)) (nest-fits lengths ts total)

  pub count-differs : length lengths ≢ length ms → seg_first_senders_to ts lengths ms ≡ Err (fault LengthMismatch)
  count-differs differ =
      ap (end_to_end (in_vector lengths) (of_two first_senders_to))
      (nested ∙ if_as_long-misfits (cut_of lengths ts) ms (Ok (zip (cut_of lengths ts) ms)) (λ same. differ (sym (length-cut lengths ts) ∙ same)))

  pub seg_told : length lengths ≡ length ms → IsTold (seg_first_senders_to ts lengths ms) (fault_by 0 lengths ms ts) (senders_by lengths ms ts) (sum ms)
  seg_told count = record {
    is = ap (end_to_end (in_vector lengths) (of_two first_senders_to))
        (nested ∙ if_as_long-fits (cut_of lengths ts) ms (Ok (zip (cut_of lengths ts) ms)) (length-cut lengths ts ∙ count))
        ∙ walked lengths 0 0 lengths ms ts refl refl count;
    long = λ none. senders_long lengths ms ts count;
  }
