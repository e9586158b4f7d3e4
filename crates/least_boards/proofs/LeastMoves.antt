-- Each step of a seat keeps the rule of a least board's table, in the form that the table asks for.
-- Source: the steps of a least board's rule, and the law of the crate `status_word` on hands.
use Rattle.least_boards.proofs.Cited.{◌≡◌, refl, sym, subst, ℕ, ◌+◌, ◌<◌, ◌≤◌, min, List, get_or, set, length-set, Option, Some, None, arith, none, get_or-set_other, set-get_or, Allows, State, step}
use Rattle.least_boards.proofs.Cited.{keeps, hand_done, hand_given, ClaimDeals, DoneDeals, FewClaims, SameDeals}
use Rattle.std.proofs.lemmas.Grind.{get_or-set_at}
use Rattle.least_boards.specs.declared.least_pass.LeastPass.{LeastPass}
use Rattle.least_boards.specs.LeastPasses.{on_least_hand, place_lowered, place_seen}
use Rattle.least_boards.specs.LeastRules.{IsLeastKept, IsLeastRuled, IsOfSlot, LeastGives, LeastPassOf, LowerGives}
use Rattle.least_boards.proofs.Claiming.{AllowsClaims}
use Rattle.least_boards.proofs.LeastSteps.{hand_keeps, least_keeps, least_of_slot, lower_keeps}

module _ (targets : List (Option ℕ)) (slots tiles workers : ℕ) where
  abbrev Ruled : State (Unit {0}) LeastPass → Type 0
  Ruled = IsLeastRuled targets slots tiles workers

  pub allows_claims : ClaimDeals {P = LeastPass} (λ p. p.hand) → DoneDeals {P = LeastPass} (λ p. p.hand) → FewClaims {P = LeastPass} (λ p. p.hand)
      → AllowsClaims (λ p. p.hand) on_least_hand Ruled slots tiles workers
  allows_claims claim done few = record {
    few = λ s ruled. few tiles workers (get_or s.words slots 0) s.views ruled.kept.dealt;
    gives = λ s id p ruled at below share.
        let found = get_or s.words slots 0 in
        let words = set s.words slots (found + 1) in
        let dealt = claim tiles workers found (get_or words slots 0) s.views id p (on_least_hand (λ h. hand_given h found) p) ruled.kept.dealt at refl below share
        (get_or-set_at s.words slots slots (found + 1) 0 refl (omega (arith, ruled.long))) in
        let kept = hand_keeps targets slots tiles workers found (λ x. get_or s.words x 0) s.views id p ruled.kept at share (get_or words slots 0) (λ x. get_or words x 0)
        (λ h. hand_given h found) share
        (λ x within. get_or-set_other s.words slots x (found + 1) 0 (λ e. omega arith)) dealt.0 in
        (record { long = omega (arith, length-set {A = ℕ}, ruled.long); kept = kept }, dealt.1);
    ends = λ s id p ruled at past room.
        let found = get_or s.words slots 0 in
        let words = set s.words slots (found + 1) in
        let share : 1 ≤ p.hand.share = omega arith in
        let dealt = done tiles workers found (get_or words slots 0) s.views id p (on_least_hand hand_done p) ruled.kept.dealt at refl past room
        (get_or-set_at s.words slots slots (found + 1) 0 refl (omega (arith, ruled.long))) in
        let kept = hand_keeps targets slots tiles workers found (λ x. get_or s.words x 0) s.views id p ruled.kept at share (get_or words slots 0) (λ x. get_or words x 0) hand_done share
        (λ x within. get_or-set_other s.words slots x (found + 1) 0 (λ e. omega arith)) dealt in
        record { long = omega (arith, length-set {A = ℕ}, ruled.long); kept = kept };
  }

  pub lower_allowed : SameDeals {P = LeastPass} (λ p. p.hand) → (homes id : ℕ) (me : LeastPassOf) (slot place : ℕ) → slot < slots → get_or targets place None ≡ Some slot
      → me.0.hand.share ≡ 1 → Allows Ruled homes id me slot (λ n. min n place) (LowerGives (step homes slot place 0 none) me)
  lower_allowed same homes id me slot place below target one s ruled home at fits =
      let v = min (get_or s.words slot 0) place in
      let claims = get_or s.words slots 0 in
      let kept = lower_keeps targets slots tiles workers claims (λ x. get_or s.words x 0) s.views id me.0 ruled.kept at (omega arith) same
      (λ x. get_or (set s.words slot v) x 0) slot place below target
      (get_or-set_at s.words slot slot v 0 refl (omega (arith, ruled.long))) (λ x within differ. get_or-set_other s.words slot x v 0 differ) in
      let stays : get_or (set s.words slot v) slots 0 ≡ claims = get_or-set_other s.words slot slots v 0 (λ e. omega arith) in (
        place_lowered me.0 slot place,
        keeps,
        tt,
        record {
          long = omega (arith, length-set {A = ℕ}, ruled.long);
          kept = subst (λ c. IsLeastKept targets slots tiles workers c (λ x. get_or (set s.words slot v) x 0) (set s.views id (place_lowered me.0 slot place))) (sym stays) kept;
        },
        refl,
      )

  pub least_allowed : SameDeals {P = LeastPass} (λ p. p.hand) → (homes id : ℕ) (me : LeastPassOf) (slot : ℕ) → slot < slots → me.0.targets ≡ targets
      → me.0.hand.share ≡ 1 → Allows Ruled homes id me slot (λ n. n) (LeastGives (step homes slot 0 0 none) me)
  least_allowed same homes id me slot below same_targets one s ruled home at fits =
      let found = get_or s.words slot 0 in
      let kept = least_keeps targets slots tiles workers (get_or s.words slots 0) (λ x. get_or s.words x 0) s.views id me.0 ruled.kept at (omega arith) same slot below in
      let after = set s.views id (place_seen me.0 slot found) in
      let seen : Ruled record { words = s.words; homes = s.homes; views = after } = record { long = ruled.long; kept = kept.0 } in
      let placed : IsOfSlot targets slot found = subst (IsOfSlot targets slot) (sym (ruled.kept.words slot below)) (least_of_slot targets tiles slot s.views ruled.kept.fair) in (
        place_seen me.0 slot found,
        keeps,
        tt,
        subst (λ ws. Ruled record { words = ws; homes = s.homes; views = after }) (sym (set-get_or s.words slot 0)) seen,
        (subst (λ ts. IsOfSlot ts slot found) (sym same_targets) placed, kept.1, refl),
      )
