-- What one pass has that gathers several of a scan board.
-- Source: what the definitions of Joined imply.
use Rattle.boards.proofs.Cited.{◌≡◌, refl, sym, ap, subst, List, [], ◌∷◌, ◌++◌, arith, Pass, passes_joined, seen_at, told_at, JoinAdds, highest_push, Seated, IsSeatPass, hands_first, hands_more}
use Rattle.boards.specs.Joined.{AreJoined}

module _ {Item : Type 0} where
  pub joined_first : (seats rest : List (Seated (Pass Item))) (first : Seated (Pass Item)) (p : Pass Item) → seats ≡ rest ++ first ∷ [] → IsSeatPass (λ q. q.hand) first p
      → AreJoined p rest seats
  joined_first seats rest first p taken is = subst (AreJoined p rest) (sym taken) record {
    hands = hands_first (λ q. q.hand) rest first p is;
    told = λ t. omega (arith, highest_push (λ s. told_at t s.pass) rest first, ap (told_at t) is.0);
    seen = λ t. omega (arith, highest_push (λ s. seen_at t s.pass) rest first, ap (seen_at t) is.0);
  }

  pub joined_more : (seats rest all : List (Seated (Pass Item))) (next : Seated (Pass Item)) (p whole now : Pass Item) → seats ≡ rest ++ next ∷ [] → IsSeatPass (λ q. q.hand) next p
      → now ≡ passes_joined whole p → JoinAdds whole p → AreJoined whole seats all → AreJoined now rest all
  joined_more seats rest all next p whole now taken is both adds all_of =
      let so_far = subst (λ xs. AreJoined whole xs all) taken all_of in
      subst (λ q. AreJoined q rest all) (sym both) record {
        hands = hands_more (λ q. q.hand) rest all next p whole (passes_joined whole p) is refl so_far.hands;
        told = λ t. omega (arith, highest_push (λ s. told_at t s.pass) rest next, ap (told_at t) is.0, adds.told t, so_far.told t);
        seen = λ t. omega (arith, highest_push (λ s. seen_at t s.pass) rest next, ap (seen_at t) is.0, adds.seen t, so_far.seen t);
      }
