-- What the seats of a scan board did in all, from the rule and from the one pass that stands for all of them.
-- Source: the laws of the crate `status_word` on the pass that stands for all workers.
use Rattle.boards.proofs.Cited.{◌≡◌, ap, ◌∙◌, ℕ, ◌≤◌, min, Bool, List, [], length, get_or, arith, some, get_elem?, State, Pass, Coding, code, WholeKnows, read_at, Seated}
use Rattle.least_boards.proofs.Ending.{given_once, one_done}
use Rattle.boards.specs.Answers.{IsEnd}
use Rattle.boards.specs.Joined.{AreJoined}
use Rattle.boards.specs.Rules.{IsRuled}

module _ {Item : Type 0} (m : Coding Item) (sums : List (Bool × Item)) where
  pub all_ended : WholeKnows Item → (workers claims given id : ℕ) (s : State (Unit {0}) (Pass Item)) (words : List ℕ) (p : Pass Item) (seats : List (Seated (Pass Item)))
      → 1 ≤ workers → length seats ≡ workers → IsRuled m sums workers s → get_elem? s.views id ≡ some p → s.words ≡ words → get_elem? words (length sums) ≡ some claims
      → given ≡ min claims (length sums) → AreJoined p [] seats → IsEnd (length sums) seats given
  all_ended whole workers claims given id s words p seats several as_many ruled at same_words claimed is_given gathered =
      let here : get_or s.words (length sums) 0 ≡ claims = ap (λ ws. get_or ws (length sums) 0) same_words ∙ (read_at words (length sums) claims 0 claimed).1 in
      let known = whole (code m sums) sums workers (get_or s.words (length sums) 0) (λ x. get_or s.words x 0) s.views id p ruled.kept at (omega (arith, gathered.hands.shares)) in
      let hand = known.0 in
      record {
        once = given_once (λ q. q.hand) (length sums) (get_or s.words (length sums) 0) p seats hand gathered.hands;
        counted = omega (arith, gathered.hands.count, hand.count);
        every = λ found. omega (arith, gathered.hands.count, hand.count, hand.full (one_done (λ q. q.hand) p seats gathered.hands found));
        seen = λ t. omega (arith, gathered.seen t, gathered.told t, known.1 t);
      }
