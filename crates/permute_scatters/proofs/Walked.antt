-- The walks of a permute by one thread: what the marks hold before the first index, the room behind the last, and what one walk made.
use Rattle.permute_walks.proofs.Cited.{◌≡◌, ◌∙◌, ℕ, ◌+◌, ◌≤◌, Bool, List, [], length, take, replicate, sym, ap, arith, ℤ, None, count_of, take_all, all_destinations, first_fault, wrongs, nobody_sent}
use Rattle.permute_walks.proofs.Cited.{mark_words, words_for, last_senders, nobody, senders_of, sent_marks, written_over}
use Rattle.cvl_base.proofs.Permutes.{length-all_destinations}
use Rattle.permute_walks.proofs.LastSent.{lasts_stored}
use Rattle.permute_walks.proofs.MarkWords.{no_marks}
use Rattle.permute_walks.proofs.Scattered.{marks_tell, none_marked}

pub marked_none : (m : ℕ) (marks : List ℕ) → marks ≡ replicate (words_for m) 0 → marks ≡ mark_words (sent_marks (last_senders 0 [] 0 m))
marked_none m marks unmarked = unmarked ∙ sym (ap mark_words (ap sent_marks (nobody_sent 0 m) ∙ none_marked m) ∙ no_marks m)

pub room_all : {X : Type 0} (source old room : List X) (index : List ℤ) (m k : ℕ) → length index ≤ nobody → length index ≤ k
    → None ≡ first_fault 0 (wrongs m (all_destinations index)) → room ≡ written_over source (last_senders 0 (take k (all_destinations index)) 0 m) old
    → room ≡ written_over source (senders_of 0 (all_destinations index) m) old
room_all source old room index m k few ge right are =
    let ts = all_destinations index in
    let long = length-all_destinations index in
    let small : 0 + length ts ≤ nobody = omega (arith, few, long) in
    let stored = lasts_stored 0 ts m small in
    are ∙ ap (λ us. written_over source (last_senders 0 us 0 m) old) (take_all k ts (omega (arith, ge, long)))
    ∙ ap (λ ss. written_over source ss old) (stored.are_first (stored.apart right))

-- one walk left these elements and marks, and there are as many marks as indices
module _ {X : Type 0} (source old left : List X) (marks : List Bool) (index : List ℤ) (n places : ℕ) (few : length index ≤ nobody) (long : n ≡ places)
    (marked : marks ≡ sent_marks (last_senders 0 (all_destinations index) 0 n)) (counted : count_of marks ≡ length index) where
  pub right_at_once : None ≡ first_fault 0 (wrongs places (all_destinations index))
  right_at_once =
      marks_tell index n few (ap count_of (sym marked) ∙ counted)
      ∙ ap (λ m. first_fault 0 (wrongs m (all_destinations index))) long

  pub made_at_once : left ≡ written_over source (last_senders 0 (all_destinations index) 0 n) old → left ≡ written_over source (senders_of 0 (all_destinations index) places) old
  made_at_once written =
      let ts = all_destinations index in
      let small : 0 + length ts ≤ nobody = omega (arith, few, length-all_destinations index) in
      let stored = lasts_stored 0 ts places small in
      written ∙ ap (λ m. written_over source (last_senders 0 ts 0 m) old) long
      ∙ ap (λ ss. written_over source ss old) (stored.are_first (stored.apart right_at_once))
