-- A world and its passes stand: each worker agrees with its pass, and the passes keep the board's rule. Each step keeps this.
-- Source: what the definitions of Worlds and Passes imply.
use Rattle.status_word.proofs.Cited.{some, get_elem?, ◌≡◌, ◌≢◌, refl, sym, ap, ◌∙◌, subst, ℕ, zero, suc, ◌+◌, ◌-◌, ◌<◌, ◌≤◌, max, Bool, true, false, cond, eqb, ltb, List, length, take, get_or, set}
use Rattle.status_word.proofs.Cited.{arith, length-set, ⊎_elim, AllPass, get_or-set_other, get_or-set_same, get_or-set_at, ltb-true, ltb-false, eqb_tells, is_seg_item, seg_unit, seg_join, own_sum}
use Rattle.status_word.proofs.Cited.{before_tile, between_tiles, SumsLaws}
use Rattle.cvl_base.specs.Folds.{fold_of}
use Rattle.status_word.specs.declared.status.Status.{Status}
use Rattle.status_word.specs.declared.status.Status.TheVariants.{Silent}
use Rattle.status_word.specs.declared.action.Action.TheVariants.{Claim, TellSum, TellPrefix}
use Rattle.status_word.specs.declared.action.Answer.TheVariants.{Tile, Done}
use Rattle.status_word.specs.declared.local.Local.{Local}
use Rattle.status_word.specs.declared.local.Local.TheVariants.{Ready, Summing, Looking, Helping, Publishing, Stopped}
use Rattle.status_word.specs.Codings.{Coding, CodingLaws, told_of, code}
use Rattle.status_word.specs.Locals.{action_of, next_of, after_look, added_up_to}
use Rattle.status_word.specs.declared.pass.Pass.{Pass}
use Rattle.status_word.specs.Hands.{times}
use Rattle.status_word.specs.Passes.{new_pass, given_tile, told_done, looked, told_state, told_at, highest, IsRuleKept}
use Rattle.status_word.specs.RuleSteps.{AreRaised}
use Rattle.status_word.specs.Worlds.{Scene, acted, passed, pass_after, words_after, as_prefix, takes, tiles_held, IsRight}
use Rattle.status_word.specs.Words.{state_of}
use Rattle.status_word.proofs.Coded.{code_max, code_read}
use Rattle.status_word.proofs.Kept.{claim_keeps, done_keeps, saw_keeps, tell_keeps}
use Rattle.status_word.proofs.Places.{place_of}

-- one worker and its pass: the tiles that it holds were given to it, of the others that were given to it the prefix was told, and it was told once that
-- no tile is left where it has stopped
pub record Agrees {Item : Type 0} (m : Coding Item) (sums : List (Bool × Item)) (l : Local Item) (p : Pass Item) : Type 0 where
  pub right : IsRight m sums l
  pub holds : (t : ℕ) → times t (tiles_held l) ≤ times t p.hand.given
  pub told : (t : ℕ) → times t (tiles_held l) < times t p.hand.given → 2 ≤ told_at t p
  pub done : p.hand.done + takes l ≡ 1
  pub share : p.hand.share ≡ 1

pub record Stands {Item : Type 0} (m : Coding Item) (workers : ℕ) (w : Scene Item) (passes : List (Pass Item)) : Type 0 where
  pub long : length w.words ≡ length w.sums
  pub actors : length w.locals ≡ workers
  pub one_each : length passes ≡ workers
  pub agree : (a : ℕ) → a < workers → Agrees m w.sums (get_or w.locals a Stopped) (get_or passes a (new_pass w.sums))
  pub kept : IsRuleKept (code m w.sums) w.sums workers w.claims (λ t. get_or w.words t 0) passes

-- the state that follows holds the same tile, and takes a step where the one before it did
abbrev Follows : {Item : Type 0} → Local Item → Local Item → Type 0
Follows l next = (tiles_held next ≡ tiles_held l) × (takes next ≡ takes l)

-- a worker that still holds what it held agrees with its pass, where no less is told
still : {Item : Type 0} (m : Coding Item) (sums : List (Bool × Item)) (l next : Local Item) (p after : Pass Item) → Agrees m sums l p → IsRight m sums next
    → Follows l next → after.hand ≡ p.hand → ((t : ℕ) → told_at t p ≤ told_at t after) → Agrees m sums next after
still m sums l next p after agrees right same same_hand more = record {
  right = right;
  holds = λ t. omega (arith, agrees.holds t, ap (times t) same.0, ap (λ hand. times t hand.given) same_hand);
  told = λ t less. omega (arith, agrees.told t (omega (arith, less, ap (times t) same.0, ap (λ hand. times t hand.given) same_hand)), more t);
  done = omega (arith, ap (λ hand. hand.done) same_hand, agrees.done, same.1);
  share = ap (λ hand. hand.share) same_hand ∙ agrees.share;
}

added_follows : {Item : Type 0} (t at : ℕ) (sum : Bool × Item) → Follows (Summing t) (added_up_to t at sum)
added_follows t zero sum = (refl, refl)
added_follows t (suc at) sum = (refl, refl)

-- the tiles from `at` to before t are added up
right_added : {Item : Type 0} (m : Coding Item) (sums : List (Bool × Item)) (t at : ℕ) (sum : Bool × Item) → t < length sums → at ≤ t
    → sum ≡ between_tiles m.join m.unit sums at t → IsRight m sums (added_up_to t at sum)
right_added m sums t zero sum tile within same = let all : t - 0 ≡ t = omega arith in (tile, same ∙ ap (λ k. fold_of (seg_join m.join) (seg_unit m.unit) (take k sums)) all)
right_added m sums t (suc at) sum tile within same = let next : suc at ≡ at + 1 = omega arith in (tile, omega arith, same ∙ ap (λ k. between_tiles m.join m.unit sums k t) next)

module _ {Item : Type 0} {is_item : Item → Bool} (m : Coding Item) (coded : CodingLaws is_item m)
    (laws : (ss : List (Bool × Item)) → AllPass (is_seg_item is_item) ss → SumsLaws is_item m.join m.unit ss) (workers : ℕ) (w : Scene Item) (passes : List (Pass Item))
    (items : AllPass (is_seg_item is_item) w.sums) (stands : Stands m workers w passes) (a : ℕ) (is_worker : a < workers) where
  abbrev p : Pass Item
  p = get_or passes a (new_pass w.sums)

  abbrev words : ℕ → ℕ
  words = λ t. get_or w.words t 0

  -- the world stands where the worker has this state now, and its pass is this
  abbrev Leads : ℕ → List ℕ → Local Item → Pass Item → Type 0
  Leads claims now l q = Stands m workers (record { sums = w.sums; claims = claims; words = now; locals = set w.locals a l }) (set passes a q)

  -- one worker changes, and its pass with it
  after : (claims : ℕ) (now : List ℕ) (l : Local Item) (q : Pass Item) → length now ≡ length w.sums → Agrees m w.sums l q
      → IsRuleKept (code m w.sums) w.sums workers claims (λ t. get_or now t 0) (set passes a q) → Leads claims now l q
  after claims now l q long agrees kept = record {
    long = long;
    actors = length-set w.locals a l ∙ stands.actors;
    one_each = length-set passes a q ∙ stands.one_each;
    agree = λ b is_one.
        ⊎_elim (λ (same : (eqb b a ≡ true) × (b ≡ a)).
        rw (get_or-set_at w.locals a b l Stopped same.1 (omega (arith, stands.actors)), get_or-set_at passes a b q (new_pass w.sums) same.1 (omega (arith, stands.one_each))) agrees)
        (λ (differ : (eqb b a ≡ false) × (b ≢ a)).
        rw (get_or-set_other w.locals a b l Stopped differ.1, get_or-set_other passes a b q (new_pass w.sums) differ.1) (stands.agree b is_one))
        (eqb_tells b a);
    kept = kept;
  }

  here : get_elem? passes a ≡ some p
  here = place_of passes a (new_pass w.sums) (omega (arith, stands.one_each))

  claimed : Agrees m w.sums Ready p → w.claims < length w.sums → Leads (w.claims + 1) w.words (Summing w.claims) (given_tile p w.claims)
  claimed agrees below =
      after (w.claims + 1) w.words (Summing w.claims) (given_tile p w.claims) stands.long
      (record { right = below; holds = λ t. omega arith; told = λ t less. agrees.told t (omega arith); done = agrees.done; share = agrees.share })
      (claim_keeps (code m w.sums) w.sums workers w.claims (w.claims + 1) words words passes a p stands.kept here below (omega (arith, agrees.share)) refl (λ t tile. refl)).0

  stopped : Agrees m w.sums Ready p → length w.sums ≤ w.claims → Leads (w.claims + 1) w.words Stopped (told_done p)
  stopped agrees past =
      after (w.claims + 1) w.words Stopped (told_done p) stands.long
      (record { right = tt; holds = agrees.holds; told = agrees.told; done = omega (arith, agrees.done); share = agrees.share })
      (done_keeps (code m w.sums) w.sums workers w.claims (w.claims + 1) words words passes a p stands.kept here past (omega (arith, agrees.share, agrees.done)) refl (λ t tile. refl))

  -- a claim answers by the test of the claim word
  ready_by : (b : Bool) → ltb w.claims (length w.sums) ≡ b → Agrees m w.sums Ready p
      → Leads (w.claims + 1) w.words (next_of m.join m.unit Ready (cond b (Tile w.claims) Done)) (pass_after m p Claim (cond b (Tile w.claims) Done))
  ready_by true test agrees = claimed agrees (ltb-true w.claims (length w.sums) test)
  ready_by false test agrees = stopped agrees (ltb-false w.claims (length w.sums) test)

  -- a state of tile t is told: its word becomes the greater of itself and that of the state
  told : (t rank : ℕ) (l next : Local Item) → Agrees m w.sums l p → t < length w.sums → rank ≤ 2 → Agrees m w.sums next (told_state p t rank)
      → Leads w.claims (set w.words t (max (get_or w.words t 0) (code m w.sums t rank))) next (told_state p t rank)
  told t rank l next agrees below state agreed =
      let v = max (get_or w.words t 0) (code m w.sums t rank) in
      let raised : AreRaised (length w.sums) t (code m w.sums t rank) words (λ x. get_or (set w.words t v) x 0) =
      record { here = get_or-set_same w.words t v 0 (omega (arith, stands.long)); others = λ x tile differ. get_or-set_other w.words t x v 0 differ } in
      after w.claims (set w.words t v) next (told_state p t rank) (length-set w.words t v ∙ stands.long) agreed
      (tell_keeps (code m w.sums) (code_max m coded laws w.sums items) w.sums workers w.claims words (λ x. get_or (set w.words t v) x 0) passes a p t rank stands.kept here
      (omega (arith, agrees.share)) below state raised)

  -- the sum of a tile is told
  told_sum : (l next : Local Item) (t : ℕ) → Agrees m w.sums l p → t < length w.sums → IsRight m w.sums next → Follows l next
      → Leads w.claims (words_after m w.sums w.words (TellSum t)) next (told_state p t 1)
  told_sum l next t agrees below right follows =
      told t 1 l next agrees below (omega arith) (still m w.sums l next p (told_state p t 1) agrees right follows refl (λ x. omega arith))

  -- the prefix of a tile is told
  told_prefix : (t : ℕ) (prior : Bool × Item) → Agrees m w.sums (Publishing t prior) p → Leads w.claims (words_after m w.sums w.words (TellPrefix t prior)) Ready (told_state p t 2)
  told_prefix t prior agrees =
      let below : t < length w.sums = agrees.right.0 in
      let sum : before_tile m.join m.unit w.sums (t + 1) ≡ seg_join m.join prior (own_sum m.unit w.sums t) = (laws w.sums items).before_next t below
      ∙ ap (λ s. seg_join m.join s (own_sum m.unit w.sums t)) (sym agrees.right.1) in
      let agreed : Agrees m w.sums Ready (told_state p t 2) = record {
        right = tt;
        holds = λ x. omega arith;
        told = λ x is_given.
            ⊎_elim (λ (same : (eqb t x ≡ true) × (t ≡ x)). let now : cond {A = ℕ} (eqb t x) 2 0 ≡ 2 = ap (λ b. cond b 2 0) same.0 in omega arith)
            (λ (differ : (eqb t x ≡ false) × (t ≢ x)).
            let none : cond {A = ℕ} (eqb t x) 1 0 ≡ 0 = ap (λ b. cond b 1 0) differ.0 in
            omega (arith, agrees.told x (omega (arith, is_given, none))))
            (eqb_tells t x);
        done = agrees.done;
        share = agrees.share;
      } in
      subst (λ s. Leads w.claims (set w.words t (max (get_or w.words t 0) (m.pack (as_prefix m s)))) Ready (told_state p t 2)) sum
      (told t 2 (Publishing t prior) Ready agrees below (omega arith) agreed)

  -- a tile is looked at, and the status seen is one that was told
  saw : (t at : ℕ) (sum : Bool × Item) (status : Status Item) → Agrees m w.sums (Looking t at sum) p → state_of status ≤ highest (told_at at) passes
      → IsRight m w.sums (after_look m.join t at sum status) → Follows (Looking t at sum) (after_look m.join t at sum status)
      → Leads w.claims w.words (after_look m.join t at sum status) (looked p at (state_of status))
  saw t at sum status agrees known right follows =
      after w.claims w.words (after_look m.join t at sum status) (looked p at (state_of status)) stands.long
      (still m w.sums (Looking t at sum) (after_look m.join t at sum status) p (looked p at (state_of status)) agrees right follows refl (λ x. omega arith))
      (saw_keeps (code m w.sums) w.sums workers w.claims words passes a p stands.kept here (omega (arith, agrees.share)) words at (state_of status) (λ x tile. refl) known)

  -- the sum of tile `at` is added up before that of the tiles after it
  added : (t at : ℕ) (sum : Bool × Item) → IsRight m w.sums (Looking t at sum) → IsRight m w.sums (added_up_to t at (seg_join m.join (own_sum m.unit w.sums at) sum))
  added t at sum right =
      right_added m w.sums t at (seg_join m.join (own_sum m.unit w.sums at) sum) right.0 (omega (arith, right.1))
      (ap (seg_join m.join (own_sum m.unit w.sums at)) right.2 ∙ sym ((laws w.sums items).one_more at t right.1 (omega (arith, right.0))))

  saw_told : (t at : ℕ) (sum : Bool × Item) (rank : ℕ) → rank ≡ highest (told_at at) passes → Agrees m w.sums (Looking t at sum) p
      → Leads w.claims w.words (after_look m.join t at sum (told_of m.join m.unit w.sums at rank)) (looked p at (state_of (told_of m.join m.unit w.sums at rank)))
  saw_told t at sum zero top agrees = saw t at sum Silent agrees (omega arith) agrees.right (refl, refl)
  saw_told t at sum (suc zero) top agrees =
      saw t at sum (told_of m.join m.unit w.sums at 1) agrees (omega arith) (added t at sum agrees.right) (added_follows t at (seg_join m.join (own_sum m.unit w.sums at) sum))
  saw_told t at sum (suc (suc rank)) top agrees =
      saw t at sum (told_of m.join m.unit w.sums at (suc (suc rank))) agrees (omega arith)
      (agrees.right.0, ap (seg_join m.join (before_tile m.join m.unit w.sums (at + 1))) agrees.right.2 ∙ (laws w.sums items).met (at + 1) t (omega (arith, agrees.right.1)))
      (refl, refl)

  looking : (t at : ℕ) (sum : Bool × Item) → Agrees m w.sums (Looking t at sum) p
      → Leads w.claims w.words (after_look m.join t at sum (m.read (get_or w.words at 0))) (looked p at (state_of (m.read (get_or w.words at 0))))
  looking t at sum agrees =
      let rank = highest (told_at at) passes in
      let status : told_of m.join m.unit w.sums at rank ≡ m.read (get_or w.words at 0) =
      sym (ap m.read (stands.kept.words at (omega (arith, agrees.right.0, agrees.right.1))) ∙ code_read m coded laws w.sums items at rank) in
      subst (λ s. Leads w.claims w.words (after_look m.join t at sum s) (looked p at (state_of s))) status (saw_told t at sum rank refl agrees)

  -- the step of a worker in any state that agrees with its pass
  pub stepped : (l : Local Item) → Agrees m w.sums l p → Stands m workers (acted m w a l (action_of l)) (passed m w a passes (action_of l))
  stepped Ready agrees = ready_by (ltb w.claims (length w.sums)) refl agrees
  stepped (Summing t) agrees =
      told_sum (Summing t) (added_up_to t t (seg_unit m.unit)) t agrees agrees.right
      (right_added m w.sums t t (seg_unit m.unit) agrees.right (omega arith) (sym ((laws w.sums items).none_between t)))
      (added_follows t t (seg_unit m.unit))
  stepped (Looking t at sum) agrees = looking t at sum agrees
  stepped (Helping t at sum) agrees =
      told_sum (Helping t at sum) (added_up_to t at (seg_join m.join (own_sum m.unit w.sums at) sum)) at agrees (omega (arith, agrees.right.0, agrees.right.1))
      (added t at sum agrees.right) (added_follows t at (seg_join m.join (own_sum m.unit w.sums at) sum))
  stepped (Publishing t prior) agrees = told_prefix t prior agrees
  stepped Stopped agrees = stands
