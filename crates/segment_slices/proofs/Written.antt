-- Lists written one behind another over a room: behind those before list s the others are still to come.
use Rattle.std.proofs.Common.{◌≡◌, ◌∙◌, ℕ, ◌+◌, ◌<◌, ◌≤◌, List, [], ◌∷◌, ◌++◌, length, take, drop, get_or, refl, sym, ap, arith, append-nil, append_assoc, length-append, length-take-le, take_all}
use Rattle.std.proofs.lemmas.List.{drop_all, drop_more}
use Rattle.cvl_base.specs.Lists.{joined}

-- what a room holds up to `end`, and the lists from s on, are all of them
pub record IsWritten {X : Type 0} (lists : List (List X)) (s end : ℕ) (out : List X) : Type 0 where
  pub as_long : length out ≡ length (joined lists)
  pub within : end ≤ length out
  pub so_far : take end out ++ joined (drop s lists) ≡ joined lists

pub written_none : {X : Type 0} (lists : List (List X)) (out : List X) → length out ≡ length (joined lists) → IsWritten lists 0 0 out
written_none lists out long = record { as_long = long; within = omega arith; so_far = refl }

module _ {X : Type 0} {lists : List (List X)} {s end : ℕ} {out : List X} (to : IsWritten lists s end out) where
  module _ (list : List X) (lt : s < length lists) (is : list ≡ get_or lists s []) where
    lists_left : drop s lists ≡ list ∷ drop (s + 1) lists
    lists_left = drop_more lists s [] lt ∙ ap (λ l. l ∷ drop (s + 1) lists) (sym is)

    so_far : take end out ++ (list ++ joined (drop (s + 1) lists)) ≡ joined lists
    so_far = ap (λ ls. take end out ++ joined ls) (sym lists_left) ∙ to.so_far

    -- the next list has its places in the room
    pub next_fits : end + length list ≤ length out
    next_fits =
        let others = joined (drop (s + 1) lists) in
        omega (arith, to.as_long, ap length so_far, length-append (take end out) (list ++ others), length-append list others, length-take-le end out to.within)

    -- and is written to them
    pub written_more : (new : List X) (n : ℕ) → length new ≡ length out → n ≡ length list → take (end + n) new ≡ take end out ++ list → IsWritten lists (s + 1) (end + n) new
    written_more new n same wide now = record {
      as_long = same ∙ to.as_long;
      within = omega (arith, next_fits, same, wide);
      so_far = ap (λ front. front ++ joined (drop (s + 1) lists)) now ∙ append_assoc (take end out) list (joined (drop (s + 1) lists)) ∙ so_far;
    }

  -- no list is left
  pub written_all : length lists ≤ s → out ≡ joined lists
  written_all past =
      let front : take end out ≡ joined lists = sym (append-nil (take end out)) ∙ ap (λ ls. take end out ++ joined ls) (sym (drop_all s lists past)) ∙ to.so_far in
      let full : length out ≤ end = omega (arith, ap length front, length-take-le end out to.within, to.as_long) in
      sym (take_all end out full) ∙ front
