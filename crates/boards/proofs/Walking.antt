-- What a look-back has done after each of its looks.
-- Source: what the definitions of Walks imply.
use Rattle.boards.proofs.Cited.{◌≡◌, refl, ◌∙◌, ℕ, suc, ◌+◌, ◌-◌, ◌<◌, ◌≤◌, ◌≢◌, ◌⊎◌, inl, inr, max, arith, ⊎_elim, sym, ap, subst, cond, eqb, eq-eqb, false, List, ◌∷◌, ne_eqb, Pass, highest_mark}
use Rattle.boards.proofs.Cited.{known_at, looked, seen_at, told_at, told_state}
use Rattle.std.proofs.lemmas.Bool.{cases_eq}
use Rattle.status_word.specs.declared.pass.Mark.{Mark}
use Rattle.boards.specs.Answers.{IsLookBack, IsOutside}
use Rattle.boards.specs.Walks.{IsOneLook, IsWalk}

-- the highest of the marks of a tile, after one more of that tile, and of another
mark_here : (t rank looks : ℕ) (marks : List Mark) → highest_mark t (record { tile = t; rank = rank; looks = looks } ∷ marks) ≡ max rank (highest_mark t marks)
mark_here t rank looks marks = ap (λ b. max (cond b rank 0) (highest_mark t marks)) (eq-eqb t t refl)

mark_elsewhere : (t x rank looks : ℕ) (marks : List Mark) → x ≢ t → highest_mark x (record { tile = t; rank = rank; looks = looks } ∷ marks) ≡ highest_mark x marks
mark_elsewhere t x rank looks marks differ =
    let other : eqb t x ≡ false = ne_eqb t x (λ e. differ (sym e)) in
    ap (λ b. max (cond b rank 0) (highest_mark x marks)) other ∙ omega arith

module _ {Item : Type 0} where
  -- a look at a tile of which nothing was published, and then its sum was
  pub find_silent : (at : ℕ) (old now : Pass Item) → now ≡ told_state (looked old at 0) at 1 → known_at at old ≤ 0 → IsOneLook at 1 old now
  find_silent at old now is risen =
      let seen = mark_here at 0 old.looks old.seen in
      let told = mark_here at 1 (old.looks + 1) old.told in
      subst (IsOneLook at 1 old) (sym is) record {
        looks = refl;
        known = omega (arith, told, seen, risen);
        told = omega (arith, told);
        seen = omega (arith, seen);
        others = λ x differ. (mark_elsewhere at x 1 (old.looks + 1) old.told differ, mark_elsewhere at x 0 old.looks old.seen differ);
        kept = λ x rank when there. (suc (there.0), omega (arith, there.1), there.2);
        hand = refl;
        sums = refl;
      }

-- one look more, at the tile before those that were passed
module _ {Item : Type 0} (t at next rank : ℕ) (old mid now : Pass Item) (one : at ≡ next + 1) (within : at ≤ t) (walk : IsWalk t at old mid) (found : IsOneLook next rank mid now) where
  -- of each tile that was passed the same is known
  known_still : (x : ℕ) → next < x → x < t → known_at x now ≡ 1
  known_still x from to = omega (arith, found.others x (λ e. omega arith), walk.known x (omega arith) to)

  told_still : (x : ℕ) → (told_at x old ≤ told_at x now) × (told_at x now ≤ max (told_at x old) 1) × (seen_at x old ≤ seen_at x now)
  told_still x =
      ⊎_elim
      (λ (same : x ≡ next). subst (λ y. (told_at y old ≤ told_at y now) × (told_at y now ≤ max (told_at y old) 1) × (seen_at y old ≤ seen_at y now)) (sym same)
      (omega (arith, walk.others next (inl (omega arith)), found.told, found.seen)))
      (λ (differ : x ≢ next). omega (arith, found.others x differ, walk.told x, walk.seen x))
      (cases_eq x next)

  others_still : (x : ℕ) → (x < next) ⊎ (t ≤ x) → (told_at x now ≡ told_at x old) × (seen_at x now ≡ seen_at x old)
  others_still x outside =
      let before = walk.others x (⊎_elim (λ (low : x < next). inl (omega arith)) (λ (high : t ≤ x). inr high) outside) in
      omega (arith, before, found.others x (λ e. omega arith))

  -- it is one more sum
  pub walk_more : rank ≡ 1 → IsWalk t next old now
  walk_more sum = record {
    looks = omega (arith, walk.looks, found.looks);
    known = λ x from to. ⊎_elim (λ (same : x ≡ next). ap (λ y. known_at y now) same ∙ found.known ∙ sum) (λ (differ : x ≢ next). known_still x (omega arith) to) (cases_eq x next);
    told = λ x. ((told_still x).0, (told_still x).1);
    seen = λ x. (told_still x).2;
    others = others_still;
    kept = λ x rank when there. found.kept x rank when (walk.kept x rank when there);
    hand = found.hand ∙ walk.hand;
    sums = found.sums ∙ walk.sums;
  }

  -- it is a prefix, which ends the look-back
  pub walk_met : (looks : ℕ) → rank ≡ 2 → looks ≡ t - next → IsLookBack t looks old now
  walk_met looks prefix count =
      let first : t - looks ≡ next = omega arith in
      let beyond : (x : ℕ) → IsOutside t looks x → (x < next) ⊎ (t ≤ x) = λ x outside. ⊎_elim (λ (low : x < t - looks). inl (omega arith)) (λ (high : t ≤ x). inr high) outside in
      record {
        at_most = omega arith;
        at_least = λ some. omega arith;
        counted = omega (arith, walk.looks, found.looks);
        known = λ x from to. ⊎_elim (λ (same : x ≡ next). subst (λ y. 1 ≤ known_at y now) (sym same) (omega (arith, found.known)))
            (λ (differ : x ≢ next). omega (arith, known_still x (omega arith) to)) (cases_eq x next);
        met = λ fewer. ap (λ y. known_at y now) first ∙ found.known ∙ prefix;
        passed = λ x from to. omega (arith, known_still x (omega arith) to);
        told = λ x. ((told_still x).0, (told_still x).1);
        told_outside = λ x outside. (others_still x (beyond x outside)).0;
        kept = λ x rank when there. found.kept x rank when (walk.kept x rank when there);
        seen = λ x. (told_still x).2;
        seen_outside = λ x outside. (others_still x (beyond x outside)).1;
        hand = found.hand ∙ walk.hand;
        sums = found.sums ∙ walk.sums;
      }
