-- The walk that writes and marks one range of a permute's result: what it leaves, and that two ranges side by side are one.
use Rattle.permute_walks.proofs.Cited.{◌≡◌, ◌∙◌, ℕ, ◌+◌, ◌*◌, ◌<◌, ◌≤◌, Bool, true, false, not, List, [], ◌∷◌, ◌++◌, ◌==◌, length, take, drop, get_or, set, replicate, refl, sym, ap, arith, subst, ℤ}
use Rattle.permute_walks.proofs.Cited.{pos, slice_get, unwrap_or, Option, Some, None, drop_all, drop_more, drop-replicate, length-map, take-replicate, count_by-le-length, sum_by-append, most_places}
use Rattle.permute_walks.proofs.Cited.{nobody_sent, is_sent, mark_words, words_for, IsWrittenTo, count_sent, is_between, last_senders, nobody, sent_marks, written_over}
use Rattle.permute_walks.proofs.LastSent.{between_out, lasts_both, lasts_other, lasts_set, length-last_senders}
use Rattle.permute_walks.proofs.Listed.{IsNext, IsRest, at_end, at_next}
use Rattle.permute_walks.proofs.MarkWords.{no_marks}
use Rattle.permute_walks.proofs.Scattered.{marked_set, nobody_written, none_marked, written_set}

module _ {X : Type 0} (source : List X) (ts : List (Option ℤ)) (lowest : ℕ) where
  pub range_none : length source ≤ nobody → (old : List X) (marks : List ℕ) → marks ≡ replicate (words_for (length old)) 0 → IsWrittenTo source ts lowest old 0 old marks
  range_none few old marks unmarked = record {
    written = sym (nobody_written source old lowest few);
    marked = unmarked ∙ sym (ap mark_words (ap sent_marks (nobody_sent lowest (length old)) ∙ none_marked (length old)) ∙ no_marks (length old));
  }

  -- what the places from `first` on make of a room of n places and its marks
  module _ (n first : ℕ) (room₀ : List X) (marks₀ : List ℕ) where
    abbrev pub Leaves : ℕ → List X → List ℕ → Type 0
    Leaves k room marks = (old : List X) → length old ≡ n → IsWrittenTo source ts lowest old first room₀ marks₀ → IsWrittenTo source ts lowest old k room marks

    module _ (k : ℕ) (room : List X) (marks : List ℕ) (lt : k < length ts) (leaves : Leaves k room marks) where
      pub leaves_more : length ts ≤ most_places → (d : ℕ) (x : X) → get_or ts k None ≡ Some (pos (lowest + d)) → d < n → slice_get source k ≡ Some x
          → (marks₁ : List ℕ) → ((flags : List Bool) → d < length flags → marks ≡ mark_words flags → marks₁ ≡ mark_words (set flags d true)) → Leaves (k + 1) (set room d x) marks₁
      leaves_more few d x is inside reads marks₁ mark old same given =
          let to = leaves old same given in
          let lasts = last_senders 0 (take k ts) lowest (length old) in
          let sets : last_senders 0 (take (k + 1) ts) lowest (length old) ≡ set lasts d k =
          lasts_set 0 ts lowest (length old) k lt d (lowest + d) (omega (arith, same, inside)) refl is ∙ ap (set lasts d) (omega arith) in
          record {
            written = ap (λ xs. set xs d x) to.written ∙ sym (written_set source lasts old d k x reads) ∙ ap (λ ss. written_over source ss old) (sym sets);
            marked = mark (sent_marks lasts) (omega (arith, length-map lasts (λ s. not (s == nobody)), length-last_senders 0 (take k ts) lowest (length old), same, inside)) to.marked
                ∙ ap mark_words (sym (marked_set lasts d k (λ all. omega (arith, all, few))) ∙ ap sent_marks (sym sets));
          }

      pub leaves_other : is_between lowest (lowest + n) (get_or ts k None) ≡ false → Leaves (k + 1) room marks
      leaves_other out_of old same given =
          let to = leaves old same given in
          let as_before = sym (lasts_other 0 ts lowest (length old) k lt (λ d from below. between_out lowest (lowest + n) (get_or ts k None) out_of d from (omega (arith, same, below)))) in
          record {
            written = to.written ∙ ap (λ ss. written_over source ss old) as_before;
            marked = to.marked ∙ ap (λ ss. mark_words (sent_marks ss)) as_before;
          }

    pub leaves_at : (k k₁ : ℕ) (room room₁ : List X) (marks marks₁ : List ℕ) → k ≡ k₁ → room₁ ≡ room → marks₁ ≡ marks → Leaves k room marks → Leaves k₁ room₁ marks₁
    leaves_at k k₁ room room₁ marks marks₁ at room_is marks_are leaves old same given =
        let to = leaves old same given in
        record {
          written = room_is ∙ to.written ∙ ap (λ j. written_over source (last_senders 0 (take j ts) lowest (length old)) old) at;
          marked = marks_are ∙ to.marked ∙ ap (λ j. mark_words (sent_marks (last_senders 0 (take j ts) lowest (length old)))) at;
        }

    abbrev pub is_own : ℕ → Bool
    is_own k = is_between lowest (lowest + n) (get_or ts k None)

    -- a walk over a list of places that are sent to the range, up to place q of the list
    module _ (end : ℕ) (within : end ≤ length ts) (room : List X) (marks : List ℕ) (own : List ℕ) (q : ℕ) (left : IsRest is_own (λ k. Leaves k room marks) (drop q own) end) where
      pub leaves_next : q < length own → IsNext is_own (λ k. Leaves k room marks) end (get_or own q 0) (drop (q + 1) own)
      leaves_next lt =
          at_next is_own (λ k. Leaves k room marks) end (λ k lt out leaves. leaves_other k room marks (omega arith) leaves out) (get_or own q 0) (drop (q + 1) own)
          (subst (λ ns. IsRest is_own (λ k. Leaves k room marks) ns end) (drop_more own q 0 lt) left)

      pub leaves_end : length own ≤ q → Leaves end room marks
      leaves_end ge =
          at_end is_own (λ k. Leaves k room marks) end (λ k lt out leaves. leaves_other k room marks (omega arith) leaves out)
          (subst (λ ns. IsRest is_own (λ k. Leaves k room marks) ns end) (drop_all q own ge) left)

-- ---- two ranges side by side are one

pub written_both : {X : Type 0} (source : List X) (senders others : List ℕ) (values rest : List X) → length senders ≡ length values
    → written_over source senders values ++ written_over source others rest ≡ written_over source (senders ++ others) (values ++ rest)
written_both source [] others [] rest long = refl
written_both source [] others (v ∷ values) rest long = absurd (omega (arith, long))
written_both source (s ∷ senders) others [] rest long = absurd (omega (arith, long))
written_both source (s ∷ senders) others (v ∷ values) rest long = ap (λ more. unwrap_or (slice_get source s) v ∷ more) (written_both source senders others values rest (omega (arith, long)))

-- where the seam lies between two words
pub unmarked_both : (n m k w : ℕ) (marks low high : List ℕ) → marks ≡ replicate (words_for n) 0 → low ≡ take w marks → high ≡ drop w marks → w * 32 ≡ m → m + k ≡ n
    → (low ≡ replicate (words_for m) 0) × (high ≡ replicate (words_for k) 0)
unmarked_both n m k w marks low high unmarked front back seam all = (
  front ∙ ap (take w) unmarked ∙ take-replicate w (words_for n) 0 (omega (arith, seam, all)) ∙ ap (λ j. replicate j 0) (omega (arith, seam)),
  back ∙ ap (drop w) unmarked ∙ drop-replicate w (words_for n) 0 ∙ ap (λ j. replicate j 0) (omega (arith, seam, all)),
)

pub count_both : (place : ℕ) (ts : List (Option ℤ)) (lowest n m : ℕ)
    → count_sent (last_senders place ts lowest n) + count_sent (last_senders place ts (lowest + n) m) ≡ count_sent (last_senders place ts lowest (n + m))
count_both place ts lowest n m = cc (sum_by-append is_sent (last_senders place ts lowest n) (last_senders place ts (lowest + n) m), lasts_both place ts lowest n m)

-- so many are marked at most
pub count_within : (place : ℕ) (ts : List (Option ℤ)) (lowest n : ℕ) → count_sent (last_senders place ts lowest n) ≤ n
count_within place ts lowest n = omega (arith, count_by-le-length, length-last_senders)
