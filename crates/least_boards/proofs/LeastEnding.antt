-- What the words of a closed least board say, from the rule and from the one pass that stands for all seats.
-- Source: the laws of the crate `status_word` on the hand that stands for all workers.
use Rattle.least_boards.proofs.Cited.{◌≡◌, refl, sym, ap, ◌∙◌, ℕ, ◌+◌, ◌<◌, ◌≤◌, min, ltb, List, [], length, map, take, get_or, Option, Some, None, arith, ⊎_elim, cases_lt, cond_both, ltb-false}
use Rattle.least_boards.proofs.Cited.{ltb-true, get_or-map, get_or-take, get_or_past, length-map, length-take, length-take-le, some, get_elem?, State, WholeDeals, element_at, one_alone, others_none}
use Rattle.std.proofs.lemmas.Option.{cond_some, none-some}
use Rattle.cvl_base.specs.Limits.{most_elements}
use Rattle.least_boards.specs.declared.least_pass.LeastPass.{LeastPass}
use Rattle.least_boards.specs.Seats.{Seated}
use Rattle.least_boards.specs.Joined.{AreLeastsJoined}
use Rattle.least_boards.specs.LeastBoards.{IsLeastEnd, LeastView}
use Rattle.least_boards.specs.LeastPasses.{lowered_in, lowest, lowest_of, no_place, place_of_word, seen_in, word_of_place}
use Rattle.least_boards.specs.LeastRules.{IsLeastFair, IsLeastRuled, IsOfSlot}
use Rattle.least_boards.proofs.Ending.{given_once}
use Rattle.least_boards.proofs.LeastSteps.{least_of_slot}
use Rattle.least_boards.proofs.Lowest.{lowest_at, lowest_most}

-- a place that has a slot is one of the places
pub target_within : (targets : List (Option ℕ)) (place slot : ℕ) → get_or targets place None ≡ Some slot → place < length targets
target_within targets place slot is =
    ⊎_elim (λ within. within) (λ past. absurd (none-some slot (sym (get_or_past targets place None past) ∙ is))) (cases_lt place (length targets))

-- a word that is a place of its slot, or no place, is read as such
told_back : (targets : List (Option ℕ)) (slot word : ℕ) → length targets ≤ most_elements → IsOfSlot targets slot word → word_of_place (place_of_word word) ≡ word
told_back targets slot word few is =
    cond_both (ltb word 4294967296) (Some word) None (λ o. word_of_place o ≡ word)
    (λ _. refl)
    (λ past. ⊎_elim (λ none. sym none) (λ target. absurd (omega (arith, few, target_within targets word slot target, ltb-false word 4294967296 past))) is)

-- and where that is a place, it is one of the slot
told_slot : (targets : List (Option ℕ)) (slot word place : ℕ) → IsOfSlot targets slot word → place_of_word word ≡ Some place → get_or targets place None ≡ Some slot
told_slot targets slot word place is told =
    let found = cond_some (ltb word 4294967296) word place told in
    ⊎_elim (λ none. absurd (omega (arith, none, ltb-true word 4294967296 found.0))) (λ target. ap (λ n. get_or targets n None) (sym found.1) ∙ target) is

-- what is read of a slot is what its word stands for
pub told_at_slot : (words : List ℕ) (slots s : ℕ) → s < slots → slots < length words → get_or (map place_of_word (take slots words)) s None ≡ place_of_word (get_or words s 0)
told_at_slot words slots s below within = get_or-map place_of_word (take slots words) s 0 None (omega (arith, length-take slots words)) ∙ ap place_of_word (get_or-take slots words s 0 below)

-- what its seats did in all, and the least places that its words say
pub least_ended : WholeDeals {P = LeastPass} (λ p. p.hand) → (board : LeastView) (id : ℕ) (s : State (Unit {0}) LeastPass) (words : List ℕ) (p : LeastPass) (seats : List (Seated LeastPass))
    → length board.targets ≤ most_elements → length seats ≡ board.workers → IsLeastRuled board.targets board.slots board.tiles board.workers s → get_elem? s.views id ≡ some p
    → s.words ≡ words → AreLeastsJoined p [] seats → IsLeastEnd board seats (map place_of_word (take board.slots words))
least_ended whole board id s words p seats few as_many ruled at same_words joined =
    let kept = ruled.kept in
    let share : p.hand.share ≡ board.workers = omega (arith, joined.hands.shares) in
    let idle = others_none (λ q. q.hand.share) s.views id p at (kept.dealt.shares ∙ sym share) in
    let hand = whole board.tiles board.workers (get_or s.words board.slots 0) s.views id p kept.dealt at share in
    let long : length words ≡ board.slots + 1 = ap length (sym same_words) ∙ ruled.long in
    let told : (t : ℕ) → t < board.slots → get_or (map place_of_word (take board.slots words)) t None ≡ place_of_word (lowest_of (lowered_in t) s.views) = λ t below.
    told_at_slot words board.slots t below (omega arith) ∙ ap (λ ws. place_of_word (get_or ws t 0)) (sym same_words) ∙ ap place_of_word (kept.words t below) in
    let placed : (t : ℕ) → IsOfSlot board.targets t (lowest_of (lowered_in t) s.views) = λ t. least_of_slot board.targets board.tiles t s.views kept.fair in
    let least : (t : ℕ) → t < board.slots → word_of_place (get_or (map place_of_word (take board.slots words)) t None) ≡ lowest_of (lowered_in t) s.views = λ t below.
    ap word_of_place (told t below) ∙ told_back board.targets t (lowest_of (lowered_in t) s.views) few (placed t) in
    record {
      given = given_once (λ q. q.hand) board.tiles (get_or s.words board.slots 0) p seats hand joined.hands;
      as_many = length-map (take board.slots words) place_of_word ∙ length-take-le board.slots words (omega arith);
      least = λ t below. least t below
          ∙ one_alone (lowest_of (lowered_in t)) (lowered_in t) min no_place refl (λ q qs. refl) (λ qs. omega (arith, lowest_most (lowered_in t) qs)) s.views id p at
          (λ j q differ there. ap (lowest t) ((element_at (IsLeastFair board.targets board.tiles) s.views kept.fair j q there).empty (idle j q differ there)).0)
          ∙ joined.lowered t;
      of_slot = λ t place below is. told_slot board.targets t (lowest_of (lowered_in t) s.views) place (placed t) (sym (told t below) ∙ is);
      seen = λ t below. omega (arith, lowest_at (seen_in t) s.views id p at, lowest_most (lowered_in t) s.views, least t below, kept.seen t, joined.seen t);
    }
