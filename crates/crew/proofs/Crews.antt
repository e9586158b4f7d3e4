-- What a crew of one worker gives, and what two crews of one work give together.
-- Source: what the definitions of Crews imply.
use Rattle.std.proofs.Common.{◌≡◌, sym, ℕ, ◌+◌, ◌<◌, ◌≤◌, Bool, IsTrue, Result, Ok, Err, IfOk, List, [], ◌∷◌, ◌++◌, length, take, drop, set}
use Rattle.std.proofs.Common.{map, arith, length-append}
use Rattle.std.proofs.lemmas.List.{length-take, length-drop}
use Rattle.std.proofs.lemmas.List.Elements.{All-nil, All-cons, All-append, All-take, All-drop}
use Rattle.crew.specs.Crews.{AreNewSeats, IsCrewed}
use Rattle.crew.specs.Facts.{HasFacts}
use Rattle.boards.specs.Passes.{times}
use Rattle.crew.specs.Pieces.{ArePiecesOf}
use Rattle.crew.proofs.Pieces.{given_as, of_both}

-- new seats that are cut in two are new seats
module _ {Seat : Type 0} (IsSeat : Seat → Type 0) (given : Seat → List ℕ) (seats : List Seat) (half : ℕ) where
  pub new_front : 1 ≤ half → half < length seats → AreNewSeats IsSeat given seats → AreNewSeats IsSeat given (take half seats)
  new_front some others new = record {
    some = omega (arith, length-take half seats);
    of_board = All-take IsSeat half seats new.of_board;
    fresh = All-take (λ seat. given seat ≡ []) half seats new.fresh;
  }

  pub new_back : half < length seats → AreNewSeats IsSeat given seats → AreNewSeats IsSeat given (drop half seats)
  new_back others new = record {
    some = omega (arith, length-drop half seats);
    of_board = All-drop IsSeat half seats new.of_board;
    fresh = All-drop (λ seat. given seat ≡ []) half seats new.fresh;
  }

module _ {Seat Item P : Type 0} (count : ℕ) (items : ℕ → List Item) (IsSeat : Seat → Type 0) (HasFact : Seat → ℕ → Type 0)
    (given : Seat → List ℕ) (is_done : Seat → Bool) (with_pieces : Bool) (view : P → ℕ × List Item) where
  -- the seats and the pieces of both, one list after the other
  abbrev pub Ends : ℕ → List Seat → List P → Type 0
  Ends workers seats pieces = IsCrewed count items IsSeat HasFact given is_done workers with_pieces seats (map view pieces)

  -- the one worker of a crew, whose seat is as it was left
  pub one_ends : (workers : ℕ) (seats : List Seat) (seat : Seat) (pieces : List P) → length seats ≡ workers → workers ≡ 1
      → IsSeat seat → IsTrue (is_done seat) → HasFacts HasFact given seat
      → (IsTrue with_pieces → ArePiecesOf count items (λ t. times t (given seat)) (map view pieces)) → Ends workers (set seats 0 seat) pieces
  one_ends workers [] seat pieces long one here done facts made = absurd (omega arith)
  one_ends workers (old ∷ []) seat pieces long one here done facts made = record {
    as_many = long;
    of_board = All-cons IsSeat seat [] here (All-nil IsSeat);
    done = All-cons (λ s. IsTrue (is_done s)) seat [] done (All-nil (λ s. IsTrue (is_done s)));
    facts = All-cons (HasFacts HasFact given) seat [] facts (All-nil (HasFacts HasFact given));
    of_tiles = λ kept. given_as count items _ _ (map view pieces) (λ t. omega arith) (made kept);
  }
  one_ends workers (old ∷ other ∷ seats) seat pieces long one here done facts made = absurd (omega arith)

  both_end : (m n : ℕ) (front back : List Seat) (xs ys : List P) → Ends m front xs → Ends n back ys → Ends (m + n) (front ++ back) (xs ++ ys)
  both_end m n front back xs ys first second = record {
    as_many = let x = first.as_many in let y = second.as_many in omega (arith, length-append front back);
    of_board = All-append IsSeat front back first.of_board second.of_board;
    done = All-append (λ seat. IsTrue (is_done seat)) front back first.done second.done;
    facts = All-append (HasFacts HasFact given) front back first.facts second.facts;
    of_tiles = λ kept. of_both count items view given xs ys front back (first.of_tiles kept) (second.of_tiles kept);
  }

  pub crewed_both : {C E : Type 0} (result : Result C E) (seats_of : C → List Seat) (pieces_of : C → List P)
      (m n workers : ℕ) (front back : List Seat) (xs ys : List P)
      → IfOk result (λ c. seats_of c ≡ front ++ back) → IfOk result (λ c. pieces_of c ≡ xs ++ ys) → m + n ≡ workers
      → Ends m front xs → Ends n back ys → IfOk result (λ c. Ends workers (seats_of c) (pieces_of c))
  crewed_both (Ok c) seats_of pieces_of m n workers front back xs ys seats pieces as_many first second =
      rw (seats, pieces, sym as_many) (both_end m n front back xs ys first second)
  crewed_both (Err e) seats_of pieces_of m n workers front back xs ys seats pieces as_many first second = tt
