-- The kinds of step of a board, each as the sentence that it keeps the board's rule.
-- Source: the atomic steps of Merrill and Garland's decoupled look-back, 2016; cutting and joining what is known of the workers is this
-- library's profile.
use Rattle.std.specs.Prelude.{◌≡◌, ℕ, ◌+◌, ◌<◌, ◌≤◌, max, Bool, List, [], ◌∷◌, ◌++◌, length, slice_set}
use mathlib.Core.Option.{some}
use lib.ListN.{get_elem?}
use Rattle.status_word.specs.declared.pass.Hand.{Hand}
use Rattle.status_word.specs.declared.pass.Pass.{Pass}
use Rattle.status_word.specs.Hands.{new_hand, hand_given, hand_done, hand_dealt, hands_joined, times, AreDealt, IsWhole}
use Rattle.status_word.specs.Passes.{first_pass, spent_pass, given_tile, told_done, looked, told_state, split_left, split_right}
use Rattle.status_word.specs.Passes.{passes_joined, told_at, seen_at, known_at, highest, IsRuleKept}

-- ---- the hands, of passes P of any board: pass p at the place id becomes q

module _ {P : Type 0} (hand : P → Hand) where
  -- the first pass keeps the rule of the hands
  abbrev pub FirstDeals : Type 0
  FirstDeals = (tiles workers : ℕ) (p : P) →
      hand p ≡ new_hand workers →
      AreDealt hand tiles workers 0 (p ∷ [])

  -- a claim that gives a tile, which was not given to this pass before
  abbrev pub ClaimDeals : Type 0
  ClaimDeals = (tiles workers claims next : ℕ) (passes : List P) (id : ℕ) (p q : P) →
      AreDealt hand tiles workers claims passes → get_elem? passes id ≡ some p →
      hand q ≡ hand_given (hand p) claims → claims < tiles → 1 ≤ (hand p).share → next ≡ claims + 1 →
      AreDealt hand tiles workers next (slice_set passes id q) × (times claims (hand p).given ≡ 0)

  -- a claim when no tile is left
  abbrev pub DoneDeals : Type 0
  DoneDeals = (tiles workers claims next : ℕ) (passes : List P) (id : ℕ) (p q : P) →
      AreDealt hand tiles workers claims passes → get_elem? passes id ≡ some p →
      hand q ≡ hand_done (hand p) → tiles ≤ claims → (hand p).done < (hand p).share → next ≡ claims + 1 →
      AreDealt hand tiles workers next (slice_set passes id q)

  -- any other step
  abbrev pub SameDeals : Type 0
  SameDeals = (tiles workers claims : ℕ) (passes : List P) (id : ℕ) (p q : P) →
      AreDealt hand tiles workers claims passes → get_elem? passes id ≡ some p →
      hand q ≡ hand p →
      AreDealt hand tiles workers claims (slice_set passes id q)

  -- a split of a pass keeps the rule of the hands
  abbrev pub SplitDeals : Type 0
  SplitDeals = (tiles workers claims : ℕ) (passes : List P) (id : ℕ) (p left right : P) →
      AreDealt hand tiles workers claims passes → get_elem? passes id ≡ some p →
      hand left ≡ hand_dealt (hand p) → hand right ≡ new_hand 1 → 2 ≤ (hand p).share → (hand p).done < (hand p).share →
      AreDealt hand tiles workers claims (slice_set passes id left ++ right ∷ [])

  -- a join of two passes keeps the rule of the hands
  abbrev pub JoinDeals : Type 0
  JoinDeals = (tiles workers claims : ℕ) (passes : List P) (id other : ℕ) (p q both spent : P) →
      AreDealt hand tiles workers claims passes → get_elem? passes id ≡ some p →
      ¬ (other ≡ id) → get_elem? (slice_set passes id both) other ≡ some q →
      hand both ≡ hands_joined (hand p) (hand q) → hand spent ≡ new_hand 0 →
      AreDealt hand tiles workers claims (slice_set (slice_set passes id both) other spent)

  -- the claim word never gets far above the tiles
  abbrev pub FewClaims : Type 0
  FewClaims = (tiles workers claims : ℕ) (passes : List P) →
      AreDealt hand tiles workers claims passes →
      claims ≤ tiles + workers

  -- the pass that stands for all workers knows all that was given
  abbrev pub WholeDeals : Type 0
  WholeDeals = (tiles workers claims : ℕ) (passes : List P) (id : ℕ) (p : P) →
      AreDealt hand tiles workers claims passes → get_elem? passes id ≡ some p →
      (hand p).share ≡ workers →
      IsWhole tiles claims (hand p)

-- ---- a scan board

-- the words of the tiles are as they were
abbrev pub AreSame : ℕ → (ℕ → ℕ) → (ℕ → ℕ) → Type 0
AreSame tiles word now = (t : ℕ) → t < tiles → now t ≡ word t

-- the word of tile t is the greater of what it was and another, and the others are as they were
pub record AreRaised (tiles t other : ℕ) (word now : ℕ → ℕ) : Type 0 where
  pub here : now t ≡ max (word t) other
  pub others : (x : ℕ) → x < tiles → ¬ (x ≡ t) → now x ≡ word x

-- of two words of a tile the greater is that of the higher state
abbrev pub Ascends : (ℕ → ℕ → ℕ) → Type 0
Ascends code = (t a b : ℕ) → max (code t a) (code t b) ≡ code t (max a b)

-- what two passes knew, the joined pass knows
pub record JoinAdds {Item : Type 0} (p other : Pass Item) : Type 0 where
  pub given : (t : ℕ) → times t (passes_joined p other).hand.given ≡ times t p.hand.given + times t other.hand.given
  pub count : length (passes_joined p other).hand.given ≡ length p.hand.given + length other.hand.given
  pub told : (t : ℕ) → told_at t (passes_joined p other) ≡ max (told_at t p) (told_at t other)
  pub seen : (t : ℕ) → seen_at t (passes_joined p other) ≡ max (seen_at t p) (seen_at t other)

module _ (Item : Type 0) where
  -- the first pass keeps the rule of a scan board
  abbrev pub FirstKeeps : Type 0
  FirstKeeps = (code : ℕ → ℕ → ℕ) (sums : List (Bool × Item)) (workers : ℕ) (word : ℕ → ℕ) →
      ((t : ℕ) → t < length sums → word t ≡ code t 0) →
      IsRuleKept code sums workers 0 word (first_pass sums workers ∷ [])

  -- a claim that gives a tile, which was not given to this pass before
  abbrev pub ClaimKeeps : Type 0
  ClaimKeeps = (code : ℕ → ℕ → ℕ) (sums : List (Bool × Item)) (workers claims next : ℕ) (word now : ℕ → ℕ)
      (passes : List (Pass Item)) (id : ℕ) (p : Pass Item) →
      IsRuleKept code sums workers claims word passes → get_elem? passes id ≡ some p →
      claims < length sums → 1 ≤ p.hand.share → next ≡ claims + 1 → AreSame (length sums) word now →
      IsRuleKept code sums workers next now (slice_set passes id (given_tile p claims)) × (times claims p.hand.given ≡ 0)

  -- a claim when no tile is left
  abbrev pub DoneKeeps : Type 0
  DoneKeeps = (code : ℕ → ℕ → ℕ) (sums : List (Bool × Item)) (workers claims next : ℕ) (word now : ℕ → ℕ)
      (passes : List (Pass Item)) (id : ℕ) (p : Pass Item) →
      IsRuleKept code sums workers claims word passes → get_elem? passes id ≡ some p →
      length sums ≤ claims → p.hand.done < p.hand.share → next ≡ claims + 1 → AreSame (length sums) word now →
      IsRuleKept code sums workers next now (slice_set passes id (told_done p))

  -- a look finds the highest state that was told, which is at least what the pass knows
  abbrev pub LookKeeps : Type 0
  LookKeeps = (code : ℕ → ℕ → ℕ) (sums : List (Bool × Item)) (workers claims : ℕ) (word now : ℕ → ℕ)
      (passes : List (Pass Item)) (id : ℕ) (p : Pass Item) (t : ℕ) →
      IsRuleKept code sums workers claims word passes → get_elem? passes id ≡ some p →
      1 ≤ p.hand.share → AreSame (length sums) word now →
      let rank : ℕ = highest (told_at t) passes in
      IsRuleKept code sums workers claims now (slice_set passes id (looked p t rank))
      × (known_at t p ≤ rank) × (rank ≤ 2) × (t < length sums → word t ≡ code t rank)

  -- telling a state of a tile raises its word
  abbrev pub TellKeeps : Type 0
  TellKeeps = (code : ℕ → ℕ → ℕ) → Ascends code →
      (sums : List (Bool × Item)) (workers claims : ℕ) (word now : ℕ → ℕ)
      (passes : List (Pass Item)) (id : ℕ) (p : Pass Item) (t rank : ℕ) →
      IsRuleKept code sums workers claims word passes → get_elem? passes id ≡ some p →
      1 ≤ p.hand.share → t < length sums → rank ≤ 2 → AreRaised (length sums) t (code t rank) word now →
      IsRuleKept code sums workers claims now (slice_set passes id (told_state p t rank))

  -- a split of a pass keeps the rule of a scan board
  abbrev pub SplitKeeps : Type 0
  SplitKeeps = (code : ℕ → ℕ → ℕ) (sums : List (Bool × Item)) (workers claims : ℕ) (word : ℕ → ℕ)
      (passes : List (Pass Item)) (id : ℕ) (p : Pass Item) →
      IsRuleKept code sums workers claims word passes → get_elem? passes id ≡ some p →
      2 ≤ p.hand.share → p.hand.done < p.hand.share →
      IsRuleKept code sums workers claims word (slice_set passes id (split_left p) ++ split_right p ∷ [])

  -- a join of two passes keeps the rule of a scan board
  abbrev pub JoinKeeps : Type 0
  JoinKeeps = (code : ℕ → ℕ → ℕ) (sums : List (Bool × Item)) (workers claims : ℕ) (word : ℕ → ℕ)
      (passes : List (Pass Item)) (id other : ℕ) (p q : Pass Item) →
      IsRuleKept code sums workers claims word passes → get_elem? passes id ≡ some p →
      ¬ (other ≡ id) → get_elem? (slice_set passes id (passes_joined p q)) other ≡ some q → 1 ≤ p.hand.share →
      IsRuleKept code sums workers claims word (slice_set (slice_set passes id (passes_joined p q)) other spent_pass)

  -- the claim word never gets far above the tiles
  abbrev pub FewClaimed : Type 0
  FewClaimed = (code : ℕ → ℕ → ℕ) (sums : List (Bool × Item)) (workers claims : ℕ) (word : ℕ → ℕ) (passes : List (Pass Item)) →
      IsRuleKept code sums workers claims word passes →
      claims ≤ length sums + workers

  -- the pass that stands for all workers knows all that was given, and nobody saw what was not told
  abbrev pub WholeKnows : Type 0
  WholeKnows = (code : ℕ → ℕ → ℕ) (sums : List (Bool × Item)) (workers claims : ℕ) (word : ℕ → ℕ)
      (passes : List (Pass Item)) (id : ℕ) (p : Pass Item) →
      IsRuleKept code sums workers claims word passes → get_elem? passes id ≡ some p →
      p.hand.share ≡ workers →
      IsWhole (length sums) claims p.hand × ((t : ℕ) → seen_at t p ≤ told_at t p) × (1 ≤ workers → p.sums ≡ sums)
