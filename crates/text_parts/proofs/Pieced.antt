-- A piece of a text in its room.
use Rattle.std.proofs.Common.{◌≡◌, ◌≢◌, ◌∙◌, ◌+◌, ◌++◌, ◌<◌, ◌∷◌, [], ℕ, zero, suc, List, Ok, ap, arith, codes, if◌then◌else◌, length, length-append, sym, take}
use Rattle.std.proofs.lemmas.Bool.{ne_eqb}
use Rattle.std.proofs.lemmas.List.{take_all}
use Rattle.cvl_base.proofs.Rooms.{fits}
use Rattle.cvl_base.specs.Rooms.{in_room}
use Rattle.text_parts.specs.Pieces.{last_piece_of, opening, piece_in, piece_of}

pub same-length : (place : ℕ) (inside : List ℕ) → length (piece_of place inside) ≡ length (piece_of 0 inside)
same-length place [] = omega arith
same-length place (b ∷ bs) = omega arith

-- the last piece is a room's front, and the last bracket
pub last-in-two : (place : ℕ) (inside : List ℕ) (n : ℕ) → n + 1 ≡ length (last_piece_of place inside) → take n (opening place ∷ inside) ++ 93 ∷ [] ≡ last_piece_of place inside
last-in-two zero [] n long =
    let one : n ≡ 1 = omega (arith, long) in ap (λ m. take m (91 ∷ []) ++ 93 ∷ []) one
last-in-two (suc place) [] n long =
    let none : n ≡ 0 = omega (arith, long) in ap (λ m. take m (32 ∷ []) ++ 93 ∷ []) none
last-in-two place (b ∷ bs) n long =
    let whole = opening place ∷ b ∷ bs in
    let both : length (whole ++ codes "]") ≡ length whole + 1 = length-append whole (codes "]") in
    ap (λ xs. xs ++ 93 ∷ []) (take_all n whole (omega (arith, long, both)))

pub last-fills : (place room : ℕ) (inside : List ℕ) → room ≢ length (piece_of 0 inside) → room ≡ length (last_piece_of place inside)
    → piece_in room place inside ≡ Ok (last_piece_of place inside)
last-fills place room inside differs same =
    ap (λ b. if b then Ok (piece_of place inside) else in_room room (Ok (last_piece_of place inside)))
    (ne_eqb (length (piece_of place inside)) room (λ e. differs (sym e ∙ same-length place inside)))
    ∙ fits room (last_piece_of place inside) (sym same)

pub last-has-some : (place : ℕ) (inside : List ℕ) → 0 < length (last_piece_of place inside)
last-has-some zero [] = omega arith
last-has-some (suc place) [] = omega arith
last-has-some place (b ∷ bs) = omega (arith, length-append (piece_of place (b ∷ bs)) (codes "]"))
