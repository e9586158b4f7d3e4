-- The step on the claim word, by whether a tile was left: for the passes of any board, each of which has a hand that may change alone.
-- Source: what the definitions of the rule's steps imply.
use Rattle.least_boards.proofs.Cited.{◌≡◌, refl, sym, subst, ℕ, ◌+◌, ◌%◌, ◌^◌, ◌<◌, ◌≤◌, ltb, get_or, set, ltb-true, arith, none, some, get_elem?, cond_both, ltb-false, Allows, Me, State, step}
use Rattle.least_boards.proofs.Cited.{keeps, Hand, hand_done, hand_given, times}
use Rattle.least_boards.specs.ClaimSteps.{ClaimGives, after_claim}

module _ {P : Type 0} (hand : P → Hand) (on_hand : (Hand → Hand) → P → P) where
  -- the state after a claim that found this number in the word, where the pass changes so
  abbrev pub claimed : State (Unit {0}) P → ℕ → ℕ → P → State (Unit {0}) P
  claimed s last id q = record { words = set s.words last (get_or s.words last 0 + 1); homes = s.homes; views = set s.views id q }

  -- what a board's rule has to say of its claim word
  pub record AllowsClaims (holds : State (Unit {0}) P → Type 0) (last tiles workers : ℕ) : Type 0 where
    pub few : (s : State (Unit {0}) P) → holds s → get_or s.words last 0 ≤ tiles + workers
    pub gives : (s : State (Unit {0}) P) (id : ℕ) (p : P) → holds s → get_elem? s.views id ≡ some p → get_or s.words last 0 < tiles → 1 ≤ (hand p).share
        → holds (claimed s last id (on_hand (λ h. hand_given h (get_or s.words last 0)) p)) × (times (get_or s.words last 0) (hand p).given ≡ 0)
    pub ends : (s : State (Unit {0}) P) (id : ℕ) (p : P) → holds s → get_elem? s.views id ≡ some p → tiles ≤ get_or s.words last 0 → (hand p).done < (hand p).share
        → holds (claimed s last id (on_hand hand_done p))

  pub claim_allowed : (tiles_of : P → ℕ) (holds : State (Unit {0}) P → Type 0) (last word tiles workers slots id : ℕ) → AllowsClaims holds last tiles workers → word ≡ last
      → (me : Me (Unit {0}) P) → tiles + workers < 2 ^ 63 → tiles_of me.0 ≡ tiles → (hand me.0).done ≡ 0 → (hand me.0).share ≡ 1
      → Allows holds slots id me word (λ n. (n + 1) % 2 ^ 64) (ClaimGives hand on_hand tiles_of (step slots word 1 0 none) me)
  claim_allowed tiles_of holds last word tiles workers slots id allows is_last me small same_tiles unmarked one =
      subst (λ w. Allows holds slots id me w (λ n. (n + 1) % 2 ^ 64) (ClaimGives hand on_hand tiles_of (step slots w 1 0 none) me)) (sym is_last) (λ s ruled homes at fits.
      let found = get_or s.words last 0 in
      let next : found + 1 ≡ (found + 1) % 2 ^ 64 = omega (arith, allows.few s ruled) in
      let gives = λ (below : found < tiles_of me.0). allows.gives s id me.0 ruled at (omega (arith, below, same_tiles)) (omega arith) in
      let q = after_claim on_hand (tiles_of me.0) me.0 found in
      let kept : holds (claimed s last id q) =
      cond_both (ltb found (tiles_of me.0)) (on_hand (λ h. hand_given h found) me.0) (on_hand hand_done me.0) (λ x. holds (claimed s last id x))
      (λ below. (gives (ltb-true found (tiles_of me.0) below)).0)
      (λ past. allows.ends s id me.0 ruled at (omega (arith, ltb-false found (tiles_of me.0) past, same_tiles)) (omega arith)) in
      (q, keeps, tt, subst (λ n. holds record { words = set s.words last n; homes = s.homes; views = set s.views id q }) next kept, (refl, λ below. (gives below).1)))
