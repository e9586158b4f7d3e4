-- The least board's rule is kept by each kind of step, and what it implies of a word.
-- Source: what the definitions of LeastRules and LeastPasses imply.
use Rattle.least_boards.proofs.Cited.{◌≡◌, ◌≢◌, refl, sym, ap, ◌∙◌, subst, ℕ, ◌<◌, ◌≤◌, min, cond, eqb, inl, inr, List, [], ◌∷◌, ◌++◌, get_or, set, Option, Some, None, arith, ⊎_elim, All, cond_both}
use Rattle.least_boards.proofs.Cited.{eqb-false, eqb-true, All-nil, All-cons, All-append, All-head, All-push, All-set, All-tail, some, get_elem?, AreDealt, Hand, FirstDeals, JoinDeals, SameDeals}
use Rattle.least_boards.proofs.Cited.{SplitDeals, element_at, set_else}
use Rattle.std.proofs.lemmas.Bool.Decides.{leb_tells}
use Rattle.least_boards.specs.declared.least_pass.LeastPass.{LeastPass}
use Rattle.least_boards.specs.declared.least_pass.Low.{Low}
use Rattle.least_boards.specs.LeastPasses.{first_least_pass, known_in, least_passes_joined, lowered_in, lowest, lowest_of, no_place, on_least_hand, place_lowered, place_seen, seen_in}
use Rattle.least_boards.specs.LeastPasses.{spent_least_pass, split_least_left, split_least_right}
use Rattle.least_boards.specs.LeastRules.{IsLeastFair, IsLeastKept, IsOfSlot, IsPlaced}
use Rattle.least_boards.proofs.Lowest.{lowest_at, lowest_joined, lowest_most, lowest_push, lowest_same, lowest_set, lows-append}

module _ (targets : List (Option ℕ)) (slots tiles workers : ℕ) where
  abbrev Kept : ℕ → (ℕ → ℕ) → List LeastPass → Type 0
  Kept = IsLeastKept targets slots tiles workers

  -- a pass that has a share is fair where it has the board's targets and tiles
  fair_with : (q : LeastPass) → (q.targets ≡ targets) × (q.tiles ≡ tiles) → 1 ≤ q.hand.share → All (IsPlaced targets) q.lowered → IsLeastFair targets tiles q
  fair_with q same share placed = record { board = λ some_share. same; empty = λ none. absurd (omega arith); placed = placed }

  pub first_keeps : FirstDeals {P = LeastPass} (λ p. p.hand) → (word : ℕ → ℕ) → ((s : ℕ) → s < slots → word s ≡ no_place) → Kept 0 word (first_least_pass targets tiles workers ∷ [])
  first_keeps deals word none = record {
    words = λ s below. omega (arith, none s below);
    seen = λ s. omega arith;
    dealt = deals tiles workers (first_least_pass targets tiles workers) refl;
    fair = All-cons (IsLeastFair targets tiles) (first_least_pass targets tiles workers) []
        (record { board = λ share. (refl, refl); empty = λ none_left. (refl, refl); placed = All-nil (IsPlaced targets) })
        (All-nil (IsLeastFair targets tiles));
  }

  -- a step of a seat that has a share
  module _ (claims : ℕ) (word : ℕ → ℕ) (passes : List LeastPass) (id : ℕ) (p : LeastPass) (kept : Kept claims word passes) (here : get_elem? passes id ≡ some p) (share : 1 ≤ p.hand.share) where
    was : IsLeastFair targets tiles p
    was = element_at (IsLeastFair targets tiles) passes kept.fair id p here

    -- passes that lowered the same as before, and none of which saw a lesser place
    as_lowered : (next : ℕ) (now : ℕ → ℕ) (others : List LeastPass) → ((s : ℕ) → s < slots → now s ≡ word s) → ((s : ℕ) → lowest_of (lowered_in s) others ≡ lowest_of (lowered_in s) passes)
        → ((s : ℕ) → lowest_of (lowered_in s) passes ≤ lowest_of (seen_in s) others) → AreDealt (λ r. r.hand) tiles workers next others → All (IsLeastFair targets tiles) others
        → Kept next now others
    as_lowered next now others same lowered seen dealt fair = record {
      words = λ s below. same s below ∙ kept.words s below ∙ sym (lowered s);
      seen = λ s. omega (arith, lowered s, seen s);
      dealt = dealt;
      fair = fair;
    }

    -- its pass has another hand
    pub hand_keeps : (next : ℕ) (now : ℕ → ℕ) (change : Hand → Hand) → 1 ≤ (change p.hand).share → ((s : ℕ) → s < slots → now s ≡ word s)
        → AreDealt (λ r. r.hand) tiles workers next (set passes id (on_least_hand change p)) → Kept next now (set passes id (on_least_hand change p))
    hand_keeps next now change has same dealt =
        let q = on_least_hand change p in
        as_lowered next now (set passes id q) same
        (λ s. lowest_same (lowered_in s) passes id p q here refl)
        (λ s. omega (arith, lowest_same (seen_in s) passes id p q here refl, kept.seen s))
        dealt (All-set (IsLeastFair targets tiles) passes id q (fair_with q (was.board share) has was.placed) kept.fair)

    pub lower_keeps : SameDeals {P = LeastPass} (λ p. p.hand) → (now : ℕ → ℕ) (slot place : ℕ) → slot < slots → get_or targets place None ≡ Some slot → now slot ≡ min (word slot) place
        → ((x : ℕ) → x < slots → ¬ (x ≡ slot) → now x ≡ word x) → Kept claims now (set passes id (place_lowered p slot place))
    lower_keeps deals now slot place below target lowered others =
        let q = place_lowered p slot place in
        let least : (x : ℕ) → lowest_of (lowered_in x) (set passes id q) ≡ min (lowest_of (lowered_in x) passes) (cond (eqb slot x) place no_place) = λ x.
        lowest_set (lowered_in x) passes id p q (cond (eqb slot x) place no_place) here (omega arith) in
        record {
          words = λ x within.
              cond_both (eqb slot x) place no_place (λ n. now x ≡ min (lowest_of (lowered_in x) passes) n)
              (λ is. subst (λ y. now y ≡ min (lowest_of (lowered_in y) passes) place) (eqb-true slot x is) (lowered ∙ ap (λ w. min w place) (kept.words slot below)))
              (λ other. omega (arith, others x within (λ e. eqb-false slot x other (sym e)), kept.words x within, lowest_most (lowered_in x) passes))
              ∙ sym (least x);
          seen = λ x. omega (arith, least x, lowest_same (seen_in x) passes id p q here refl, kept.seen x);
          dealt = deals tiles workers claims passes id p q kept.dealt here refl;
          fair = All-set (IsLeastFair targets tiles) passes id q
              (fair_with q (was.board share) share (All-cons (IsPlaced targets) record { slot = slot; place = place } p.lowered target was.placed))
              kept.fair;
        }

    pub least_keeps : SameDeals {P = LeastPass} (λ p. p.hand) → (slot : ℕ) → slot < slots → Kept claims word (set passes id (place_seen p slot (word slot))) × (word slot ≤ known_in slot p)
    least_keeps deals slot below =
        let q = place_seen p slot (word slot) in
        let is_least = kept.words slot below in
        let least : (x : ℕ) → lowest_of (lowered_in x) passes ≤ cond (eqb slot x) (word slot) no_place = λ x.
        cond_both (eqb slot x) (word slot) no_place (λ n. lowest_of (lowered_in x) passes ≤ n)
        (λ is. subst (λ y. lowest_of (lowered_in y) passes ≤ word slot) (eqb-true slot x is) (omega (arith, is_least)))
        (λ _. lowest_most (lowered_in x) passes) in (
          as_lowered claims word (set passes id q) (λ s within. refl)
              (λ x. lowest_same (lowered_in x) passes id p q here refl)
              (λ x. omega (arith, lowest_set (seen_in x) passes id p q (cond (eqb slot x) (word slot) no_place) here (omega arith), kept.seen x, least x))
              (deals tiles workers claims passes id p q kept.dealt here refl)
              (All-set (IsLeastFair targets tiles) passes id q (fair_with q (was.board share) share was.placed) kept.fair),
          omega (arith, is_least, lowest_at (lowered_in slot) passes id p here, lowest_at (seen_in slot) passes id p here, kept.seen slot),
        )

    pub split_keeps : SplitDeals {P = LeastPass} (λ p. p.hand) → 2 ≤ p.hand.share → p.hand.done < p.hand.share → Kept claims word (set passes id (split_least_left p) ++ split_least_right p ∷ [])
    split_keeps deals many room =
        let left = split_least_left p in
        let right = split_least_right p in
        as_lowered claims word (set passes id left ++ right ∷ []) (λ s within. refl)
        (λ s. omega (arith, lowest_same (lowered_in s) passes id p left here refl, lowest_push (lowered_in s) (set passes id left) right, lowest_most (lowered_in s) passes))
        (λ s. omega (arith, lowest_same (seen_in s) passes id p left here refl, lowest_push (seen_in s) (set passes id left) right, lowest_most (lowered_in s) passes, kept.seen s))
        (deals tiles workers claims passes id p left right kept.dealt here refl refl many room)
        (All-push (IsLeastFair targets tiles) (set passes id left) right
        (All-set (IsLeastFair targets tiles) passes id left (fair_with left (was.board share) (omega arith) was.placed) kept.fair)
        (fair_with right (was.board share) (omega arith) (All-nil (IsPlaced targets))))

    pub join_keeps : JoinDeals {P = LeastPass} (λ p. p.hand) → (other : ℕ) (q : LeastPass) → other ≢ id → get_elem? (set passes id (least_passes_joined p q)) other ≡ some q
        → Kept claims word (set (set passes id (least_passes_joined p q)) other spent_least_pass)
    join_keeps deals other q differ there =
        let both = least_passes_joined p q in
        let its = element_at (IsLeastFair targets tiles) passes kept.fair other q (sym (set_else passes id other both differ) ∙ there) in
        as_lowered claims word (set (set passes id both) other spent_least_pass) (λ s within. refl)
        (λ s. lowest_joined (lowered_in s) passes id other p q both spent_least_pass here differ there (lows-append s p.lowered q.lowered) refl)
        (λ s. omega (arith, lowest_joined (seen_in s) passes id other p q both spent_least_pass here differ there (lows-append s p.seen q.seen) refl, kept.seen s))
        (deals tiles workers claims passes id other p q both spent_least_pass kept.dealt here differ there refl refl)
        (All-set (IsLeastFair targets tiles) (set passes id both) other spent_least_pass
        (record { board = λ some_share. absurd (omega arith); empty = λ none. (refl, refl); placed = All-nil (IsPlaced targets) })
        (All-set (IsLeastFair targets tiles) passes id both (fair_with both (was.board share) (omega arith) (All-append (IsPlaced targets) p.lowered q.lowered was.placed its.placed)) kept.fair))

-- ---- a word is a place of its slot, or none

lesser_of_slot : (targets : List (Option ℕ)) (slot a b : ℕ) → IsOfSlot targets slot a → IsOfSlot targets slot b → IsOfSlot targets slot (min a b)
lesser_of_slot targets slot a b left right = ⊎_elim (λ h. let same : a ≡ min a b = omega arith in subst (IsOfSlot targets slot) same left)
    (λ h. let same : b ≡ min a b = omega arith in subst (IsOfSlot targets slot) same right)
    (leb_tells a b)

lows_of_slot : (targets : List (Option ℕ)) (slot : ℕ) (lows : List Low) → All (IsPlaced targets) lows → IsOfSlot targets slot (lowest slot lows)
lows_of_slot targets slot [] placed = inl refl
lows_of_slot targets slot (low ∷ lows) placed = lesser_of_slot targets slot (cond (eqb low.slot slot) low.place no_place) (lowest slot lows)
    (cond_both (eqb low.slot slot) low.place no_place (IsOfSlot targets slot)
    (λ is. inr (All-head (IsPlaced targets) low lows placed ∙ ap Some (eqb-true low.slot slot is)))
    (λ _. inl refl))
    (lows_of_slot targets slot lows (All-tail (IsPlaced targets) low lows placed))

pub least_of_slot : (targets : List (Option ℕ)) (tiles slot : ℕ) (passes : List LeastPass) → All (IsLeastFair targets tiles) passes → IsOfSlot targets slot (lowest_of (lowered_in slot) passes)
least_of_slot targets tiles slot [] fair = inl refl
least_of_slot targets tiles slot (p ∷ passes) fair = lesser_of_slot targets slot (lowered_in slot p) (lowest_of (lowered_in slot) passes)
    (lows_of_slot targets slot p.lowered (All-head (IsLeastFair targets tiles) p passes fair).placed)
    (least_of_slot targets tiles slot passes (All-tail (IsLeastFair targets tiles) p passes fair))
