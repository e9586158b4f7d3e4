use Rattle.std.proofs.Common.{◌≡◌, ◌∙◌, ◌++◌, ◌∷◌, [], ℕ, List, Ok, ap, arith, refl, length, slice_set, sym}
use Rattle.text_parts.specs.Pieces.{last_piece_of}
use Rattle.text_parts.proofs.Pieced.{last-fills, last-has-some, last-in-two}
use Rattle.text_parts.proofs.pieces.put_piece.Goals as goal

one-set : (xs : List ℕ) (y : ℕ) → length xs ≡ 1 → slice_set xs 0 y ≡ y ∷ []
one-set [] y long = absurd (omega (arith, long))
one-set (x ∷ []) y long = refl
one-set (x ∷ z ∷ xs) y long = absurd (omega (arith, long))

pub returns : goal.returns
returns c =
    let place = c.args.place in let inside = c.args.inside.now in let room = length c.args.out.now in
    let front = c.split_at_mut-front.result.0.now in let back = c.split_at_mut-front.result.1.now in
    let long : room ≡ length (last_piece_of place inside) = c.if-out-last_piece_length.false ∙ c.last_piece_length.ensures in
    let split = c.split_at_mut-front.ensures in let some = last-has-some place inside in
    last-fills place room inside (λ e. c.if-out-piece_length.false (e ∙ sym c.piece_length.ensures)) long
    ∙ ap Ok (sym (last-in-two place inside (length front) (omega (arith, long, some, split.front_len))))
    ∙ ap Ok (ap (λ xs. xs ++ 93 ∷ []) (sym c.put_opened-2.ensures) ∙ ap (λ ys. c.put_opened-2.new.room ++ ys) (sym (one-set back 93 (omega (arith, long, some, split.back_len)))))
