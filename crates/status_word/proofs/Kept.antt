-- The scan board's rule is kept by each kind of step, and what it implies.
-- Source: what the definitions of Passes imply.
use Rattle.status_word.proofs.Cited.{◌≡◌, refl, sym, ap, ◌∙◌, subst, ℕ, ◌≤◌, max, Bool, cond, eqb, List, [], ◌∷◌, ◌++◌, length, set, arith, cond_both, eqb-false, eqb-true, length-append, some}
use Rattle.status_word.proofs.Cited.{some-ne-none, get_elem?}
use Rattle.status_word.specs.declared.pass.Mark.{Mark}
use Rattle.status_word.specs.declared.pass.Pass.{Pass}
use Rattle.status_word.specs.Hands.{AreDealt}
use Rattle.status_word.specs.Passes.{first_pass, spent_pass, given_tile, told_done, looked, told_state, split_left, split_right, passes_joined, highest_mark, told_at, seen_at, highest, IsFair}
use Rattle.status_word.specs.Passes.{IsRuleKept}
use Rattle.status_word.specs.RuleSteps.{AreSame, FirstKeeps, ClaimKeeps, DoneKeeps, LookKeeps, TellKeeps, SplitKeeps, JoinKeeps, FewClaimed, WholeKnows, JoinAdds}
use Rattle.status_word.proofs.Dealt.{times-append, first_deals, claim_deals, done_deals, same_deals, split_deals, join_deals, few_claims, others_idle, whole_deals}
use Rattle.status_word.proofs.Places.{each_set, each_push, highest_at, highest_set, highest_same, highest_push, highest_joined, one_alone}

marks-append : (t : ℕ) (xs ys : List Mark) → highest_mark t (xs ++ ys) ≡ max (highest_mark t xs) (highest_mark t ys)
marks-append t [] ys = omega arith
marks-append t (x ∷ xs) ys = omega (arith, marks-append t xs ys)

module _ {Item : Type 0} where
  pub join_adds : (p other : Pass Item) → JoinAdds p other
  join_adds p other = record {
    given = λ t. times-append t p.hand.given other.hand.given;
    count = length-append p.hand.given other.hand.given;
    told = λ t. marks-append t p.told other.told;
    seen = λ t. marks-append t p.seen other.seen;
  }

  -- a pass that has a share is fair where its sums are the board's
  fair_with : {sums : List (Bool × Item)} (q : Pass Item) → q.sums ≡ sums → 1 ≤ q.hand.share → IsFair sums q
  fair_with q same share = record { tiles = λ some_share. same; empty = λ none. absurd (omega arith) }

  pub first_keeps : FirstKeeps Item
  first_keeps code sums workers word silent = record {
    words = λ t tile. silent t tile ∙ ap (code t) (let none : 0 ≡ highest (told_at t) (first_pass sums workers ∷ []) = omega arith in none);
    states = λ t. omega arith;
    seen = λ t. omega arith;
    dealt = first_deals (λ p. p.hand) (length sums) workers (first_pass sums workers) refl;
    fair = each_push (IsFair sums) [] (first_pass sums workers) (λ j z there. absurd (some-ne-none z (sym there)))
        (record { tiles = λ share. refl; empty = λ none. (refl, refl, refl) });
  }

  -- a step of a seat that has a share
  module _ (code : ℕ → ℕ → ℕ) (sums : List (Bool × Item)) (workers claims : ℕ) (word : ℕ → ℕ) (passes : List (Pass Item)) (id : ℕ) (p : Pass Item)
      (kept : IsRuleKept code sums workers claims word passes) (here : get_elem? passes id ≡ some p) (share : 1 ≤ p.hand.share) where
    tiles : p.sums ≡ sums
    tiles = (kept.fair id p here).tiles share

    -- passes of which the same is told as before, and none saw what was not told
    as_told : (next : ℕ) (now : ℕ → ℕ) (others : List (Pass Item)) → AreSame (length sums) word now → ((t : ℕ) → highest (told_at t) others ≡ highest (told_at t) passes)
        → ((t : ℕ) → highest (seen_at t) others ≤ highest (told_at t) passes) → AreDealt (λ r. r.hand) (length sums) workers next others
        → ((j : ℕ) (q : Pass Item) → get_elem? others j ≡ some q → IsFair sums q) → IsRuleKept code sums workers next now others
    as_told next now others same told seen dealt fair = record {
      words = λ t tile. same t tile ∙ kept.words t tile ∙ ap (code t) (sym (told t));
      states = λ t. omega (arith, told t, kept.states t);
      seen = λ t. omega (arith, told t, seen t);
      dealt = dealt;
      fair = fair;
    }

    -- a step that tells nothing and sees nothing
    quiet : (next : ℕ) (now : ℕ → ℕ) (q : Pass Item) → q.told ≡ p.told → q.seen ≡ p.seen → q.sums ≡ p.sums → 1 ≤ q.hand.share → AreSame (length sums) word now
        → AreDealt (λ r. r.hand) (length sums) workers next (set passes id q) → IsRuleKept code sums workers next now (set passes id q)
    quiet next now q same_told same_seen same_sums has same dealt =
        as_told next now (set passes id q) same
        (λ t. highest_same (told_at t) passes id p q here (ap (highest_mark t) same_told))
        (λ t. omega (arith, highest_same (seen_at t) passes id p q here (ap (highest_mark t) same_seen), kept.seen t))
        dealt (each_set (IsFair sums) passes id q kept.fair (fair_with q (same_sums ∙ tiles) has))

    -- a state that was told is seen
    pub saw_keeps : (now : ℕ → ℕ) (t rank : ℕ) → AreSame (length sums) word now → rank ≤ highest (told_at t) passes → IsRuleKept code sums workers claims now (set passes id (looked p t rank))
    saw_keeps now t rank same known =
        let q : Pass Item = looked p t rank in
        as_told claims now (set passes id q) same
        (λ x. highest_same (told_at x) passes id p q here refl)
        (λ x.
        let told = cond_both (eqb t x) rank 0 (λ n. n ≤ highest (told_at x) passes) (λ is. subst (λ y. rank ≤ highest (told_at y) passes) (eqb-true t x is) known) (λ _. omega arith) in
        omega (arith, highest_set (seen_at x) passes id p q (cond (eqb t x) rank 0) here (omega arith), kept.seen x, told))
        (same_deals (λ r. r.hand) (length sums) workers claims passes id p q kept.dealt here refl)
        (each_set (IsFair sums) passes id q kept.fair (fair_with q tiles share))

  pub claim_keeps : ClaimKeeps Item
  claim_keeps code sums workers claims next word now passes id p kept here below share next_is same =
      let dealt = claim_deals (λ r. r.hand) (length sums) workers claims next passes id p (given_tile p claims) kept.dealt here refl below share next_is in
      (quiet code sums workers claims word passes id p kept here share next now (given_tile p claims) refl refl refl share same dealt.0, dealt.1)

  pub done_keeps : DoneKeeps Item
  done_keeps code sums workers claims next word now passes id p kept here past room next_is same =
      let share : 1 ≤ p.hand.share = omega arith in
      quiet code sums workers claims word passes id p kept here share next now (told_done p) refl refl refl share same
      (done_deals (λ r. r.hand) (length sums) workers claims next passes id p (told_done p) kept.dealt here refl past room next_is)

  pub look_keeps : LookKeeps Item
  look_keeps code sums workers claims word now passes id p t kept here share same = (
    saw_keeps code sums workers claims word passes id p kept here share now t (highest (told_at t) passes) same (omega arith),
    omega (arith, highest_at (told_at t) passes id p here, highest_at (seen_at t) passes id p here, kept.seen t),
    kept.states t,
    kept.words t,
  )

  pub tell_keeps : TellKeeps Item
  tell_keeps code ascends sums workers claims word now passes id p t rank kept here share tile state raised =
      let q : Pass Item = told_state p t rank in
      let top : (x : ℕ) → highest (told_at x) (set passes id q) ≡ max (highest (told_at x) passes) (cond (eqb t x) rank 0) = λ x.
      highest_set (told_at x) passes id p q (cond (eqb t x) rank 0) here (omega arith) in
      let told : now t ≡ code t (max (highest (told_at t) passes) rank) = raised.here ∙ ap (λ w. max w (code t rank)) (kept.words t tile) ∙ ascends t (highest (told_at t) passes) rank in
      record {
        words = λ x is_tile.
            cond_both (eqb t x) rank 0 (λ n. now x ≡ code x (max (highest (told_at x) passes) n))
            (λ is. subst (λ y. now y ≡ code y (max (highest (told_at y) passes) rank)) (eqb-true t x is) told)
            (λ other. raised.others x is_tile (λ e. eqb-false t x other (sym e)) ∙ kept.words x is_tile ∙ ap (code x) (omega arith))
            ∙ ap (code x) (sym (top x));
        states = λ x. omega (arith, top x, kept.states x, cond_both (eqb t x) rank 0 (λ n. n ≤ 2) (λ _. state) (λ _. omega arith));
        seen = λ x. omega (arith, top x, highest_same (seen_at x) passes id p q here refl, kept.seen x);
        dealt = same_deals (λ r. r.hand) (length sums) workers claims passes id p q kept.dealt here refl;
        fair = each_set (IsFair sums) passes id q kept.fair (fair_with q ((kept.fair id p here).tiles share) share);
      }

  pub split_keeps : SplitKeeps Item
  split_keeps code sums workers claims word passes id p kept here many room =
      let left : Pass Item = split_left p in
      let right : Pass Item = split_right p in
      let same : p.sums ≡ sums = (kept.fair id p here).tiles (omega arith) in
      as_told code sums workers claims word passes id p kept here (omega arith) claims word (set passes id left ++ right ∷ []) (λ t tile. refl)
      (λ t. omega (arith, highest_same (told_at t) passes id p left here refl, highest_push (told_at t) (set passes id left) right))
      (λ t. omega (arith, highest_same (seen_at t) passes id p left here refl, highest_push (seen_at t) (set passes id left) right, kept.seen t))
      (split_deals (λ r. r.hand) (length sums) workers claims passes id p left right kept.dealt here refl refl many room)
      (each_push (IsFair sums) (set passes id left) right (each_set (IsFair sums) passes id left kept.fair (fair_with left same (omega arith))) (fair_with right same (omega arith)))

  pub join_keeps : JoinKeeps Item
  join_keeps code sums workers claims word passes id other p q kept here differ there share =
      let both : Pass Item = passes_joined p q in
      let adds = join_adds p q in
      as_told code sums workers claims word passes id p kept here share claims word (set (set passes id both) other spent_pass) (λ t tile. refl)
      (λ t. highest_joined (told_at t) passes id other p q both spent_pass here differ there (adds.told t) refl)
      (λ t. omega (arith, highest_joined (seen_at t) passes id other p q both spent_pass here differ there (adds.seen t) refl, kept.seen t))
      (join_deals (λ r. r.hand) (length sums) workers claims passes id other p q both spent_pass kept.dealt here differ there refl refl)
      (each_set (IsFair sums) (set passes id both) other spent_pass
      (each_set (IsFair sums) passes id both kept.fair (fair_with both ((kept.fair id p here).tiles share) (omega arith)))
      (record { tiles = λ some_share. absurd (omega arith); empty = λ none. (refl, refl, refl) }))

  pub few_claimed : FewClaimed Item
  few_claimed code sums workers claims word passes kept = few_claims (λ r. r.hand) (length sums) workers claims passes kept.dealt

  pub whole_knows : WholeKnows Item
  whole_knows code sums workers claims word passes id p kept here all =
      let idle = others_idle (λ r. r.hand) (length sums) workers claims passes id p kept.dealt here all in (
        whole_deals (λ r. r.hand) (length sums) workers claims passes id p kept.dealt here all,
        (λ t.
            let told = one_alone (highest (told_at t)) (told_at t) max 0 refl (λ q qs. refl) (λ qs. omega arith) passes id p here
            (λ j z differ there. ap (highest_mark t) ((kept.fair j z there).empty (idle j z differ there)).0) in
            omega (arith, told, highest_at (seen_at t) passes id p here, kept.seen t)),
        (λ some_worker. (kept.fair id p here).tiles (omega arith)),
      )
