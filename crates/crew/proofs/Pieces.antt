-- How the pieces of tiles come together: one by one, and those of two crews.
-- Source: what the definitions of Pieces imply.
use Rattle.std.proofs.Common.{◌≡◌, sym, ap, ◌∙◌, subst, ℕ, ◌+◌, ◌<◌, cond, eqb, List, [], ◌∷◌, ◌++◌, map, arith}
use Rattle.std.proofs.lemmas.List.{map-append}
use Rattle.std.proofs.lemmas.List.Elements.{All-nil, All-cons, All-append}
use Rattle.std.proofs.lemmas.List.Sums.{sum_by-append}
use Rattle.boards.specs.Passes.{times}
use Rattle.crew.specs.Pieces.{ArePiecesOf, given_to}

module _ {Item : Type 0} (count : ℕ) (items : ℕ → List Item) where
  both_pieces : (f g h : ℕ → ℕ) (xs ys all : List (ℕ × List Item)) → ((t : ℕ) → f t + g t ≡ h t) → all ≡ xs ++ ys → ArePiecesOf count items f xs → ArePiecesOf count items g ys
      → ArePiecesOf count items h all
  both_pieces f g h xs ys all adds is front back = subst (ArePiecesOf count items h) (sym is) record {
    one_each = λ t. omega (arith, sum_by-append (λ (p : ℕ × List Item). cond (eqb p.0 t) 1 0) xs ys, front.one_each t, back.one_each t, adds t);
    of_work = All-append (λ p. p.0 < count) xs ys front.of_work back.of_work;
    as_meant = All-append (λ p. p.1 ≡ items p.0) xs ys front.as_meant back.as_meant;
  }

  one_piece : (t : ℕ) (made : List Item) → t < count → made ≡ items t → ArePiecesOf count items (λ k. cond (eqb t k) 1 0) ((t, made) ∷ [])
  one_piece t made below same = record {
    one_each = λ k. omega arith;
    of_work = All-cons (λ p. p.0 < count) (t, made) [] below (All-nil (λ p. p.0 < count));
    as_meant = All-cons (λ p. p.1 ≡ items p.0) (t, made) [] same (All-nil (λ p. p.1 ≡ items p.0));
  }

  -- the same tiles, counted in another way
  pub given_as : (f g : ℕ → ℕ) (ps : List (ℕ × List Item)) → ((t : ℕ) → f t ≡ g t) → ArePiecesOf count items f ps → ArePiecesOf count items g ps
  given_as f g ps same pieces = record { one_each = λ t. pieces.one_each t ∙ same t; of_work = pieces.of_work; as_meant = pieces.as_meant }

  -- one tile more, and its piece
  pub one_more : (given after : List ℕ) (t : ℕ) (made : List Item) (ps all : List (ℕ × List Item)) → after ≡ t ∷ given → t < count → made ≡ items t → all ≡ ps ++ (t, made) ∷ []
      → ArePiecesOf count items (λ k. times k given) ps → ArePiecesOf count items (λ k. times k after) all
  one_more given after t made ps all more below same is_all pieces =
      both_pieces (λ k. times k given) (λ k. cond (eqb t k) 1 0) (λ k. times k after) ps ((t, made) ∷ []) all (λ k. omega (arith, ap (times k) more)) is_all
      pieces (one_piece t made below same)

  module _ {P : Type 0} (view : P → ℕ × List Item) where
    -- the pieces of two crews are those of the seats of both
    pub of_both : {Seat : Type 0} (given : Seat → List ℕ) (xs ys : List P) (front back : List Seat)
        → ArePiecesOf count items (given_to given front) (map view xs) → ArePiecesOf count items (given_to given back) (map view ys)
        → ArePiecesOf count items (given_to given (front ++ back)) (map view (xs ++ ys))
    of_both given xs ys front back =
        both_pieces (given_to given front) (given_to given back) (given_to given (front ++ back)) (map view xs) (map view ys) (map view (xs ++ ys))
        (λ t. sym (sum_by-append (λ seat. times t (given seat)) front back)) (map-append view xs ys)
