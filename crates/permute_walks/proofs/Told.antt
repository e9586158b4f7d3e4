-- What the definition of a call is told to be by its walks, and what follows for the answers of the call.
use Rattle.permute_walks.proofs.Cited.{rules, ◌≡◌, ◌≢◌, ◌∙◌, ℕ, ◌<◌, List, ◌++◌, length, filter_map, take, drop, refl, sym, ap, subst, slice_get, Option, Some, None, Result, Ok, Err, IfSome, All}
use Rattle.permute_walks.proofs.Cited.{IsErrAnd, take_at, Fault, LengthMismatch, fault, Gives, unless, Before, IsPermuted, MayStand, values_of, written_of, written_over}
use Rattle.cvl_base.specs.declared.refused.Refused.{Refused}
use Rattle.cvl_base.specs.declared.refused.Refused.TheVariants as refused
use Rattle.cvl_base.specs.Rooms.{Overwrites, OverwritesOr, in_room}
use Rattle.cvl_base.proofs.Rooms.{differs, fits, told}
use Rattle.permute_walks.specs.declared.before.Before.TheVariants as before
use Rattle.permute_walks.proofs.Scattered.{written_all}
use Rattle.permute_walks.proofs.Standing.{length-before, length-written}
use Rattle.permute_walks.proofs.Taken.{length-taken}

-- ---- a fault or senders

-- the walk left senders in a vector
pub found_ok : (fault : Option Fault) (senders left held : List ℕ) (n : ℕ) → None ≡ fault → left ≡ senders → n ≡ length left → unless fault (Ok senders) ≡ Ok (take n (left ++ drop (length left) held))
found_ok fault senders left held n none are long = ap (λ o. unless o (Ok senders)) (sym none) ∙ ap Ok (sym (take_at left (drop (length left) held) n (sym long) ∙ are))

-- it told a fault
pub found_fault : (fault : Option Fault) (senders : List ℕ) (f : Fault) → Some f ≡ fault → unless fault (Ok senders) ≡ Err f
found_fault fault senders f is = ap (λ o. unless o (Ok senders)) (sym is)

-- what was found is what was meant
pub found_are : (first : Option Fault) (senders found : List ℕ) → unless first (Ok senders) ≡ Ok found → (first ≡ None) × (found ≡ senders)
found_are None senders found same = let are : senders ≡ found = cc in (refl, sym are)
found_are (Some f) senders found same = absurd (cc)

-- what holds of what was found
pub found_gives : {V : Type 0} (P : V → Type 0) (found : Option V) (v : V) → found ≡ Some v → IfSome found P → P v
found_gives P found v is given = subst (λ o. IfSome o P) is given

-- a refusal of a walk or of a check, as that of the call
pub refused_told : {V W X Y : Type 0} (view : V → X) (see : W → Y) (first : Option Fault) (x : X) (y : Y) (e : Refused) → Gives view (Err e) (unless first (Ok x))
    → Gives see (Err e) (unless first (Ok y))
refused_told view see (Some g) x y (refused.Fault f) given = let is : g ≡ f = cc in ap Err is
refused_told view see None x y (refused.Fault f) given = absurd (cc)
refused_told view see first x y refused.NoResources given = tt {0}

-- a refusal is told before the room is looked at
refused_over : {X : Type 0} (meaning : Result (List X) Fault) (e : Refused) (before : List X)
    → Gives (λ (xs : List X). xs) (Err e) meaning → OverwritesOr (in_room (length before) meaning) (Err e) before before
refused_over meaning (refused.Fault f) before is = (ap (in_room (length before)) is, refl)
refused_over meaning refused.NoResources before given = (tt {0}, refl)

-- the call tells what a step before the second walk told
pub told_or : {X : Type 0} (meaning : Result (List X) Fault) (answer : Result (Unit {0}) Refused) (e : Refused) (before : List X) → IsErrAnd answer (λ y. y ≡ e)
    → OverwritesOr meaning (Err e) before before
    → OverwritesOr meaning answer before before
told_or meaning (Ok done) e before is given = absurd is
told_or meaning (Err y) e before is given = subst (λ z. OverwritesOr meaning (Err z) before before) (sym is) given

-- ---- the first fault, or else the items, so many of them

pub record IsTold {X : Type 0} (meaning : Result (List X) Fault) (first : Option Fault) (items : List X) (places : ℕ) : Type 0 where
  pub is : meaning ≡ unless first (Ok items)
  pub long : None ≡ first → length items ≡ places

module _ {X : Type 0} {meaning : Result (List X) Fault} {first : Option Fault} {items : List X} {places : ℕ} (call : IsTold meaning first items places) where
  pub told_ok : None ≡ first → (given : List X) → given ≡ items → meaning ≡ Ok given
  told_ok none given are = call.is ∙ ap (λ o. unless o (Ok items)) (sym none) ∙ ap Ok (sym are)

  pub told_err : (f : Fault) → Some f ≡ first → meaning ≡ Err f
  told_err f some = call.is ∙ ap (λ o. unless o (Ok items)) (sym some)

  -- a check refused
  pub told_refused : {V : Type 0} (view : V → List X) (e : Refused) → Gives {X = Unit {0}} {Y = Unit {0}} (λ u. u) (Err e) (unless first (Ok (tt {0}))) → Gives view (Err e) meaning
  told_refused view e given = subst (Gives view (Err e)) (sym call.is) (refused_told (λ (u : Unit {0}). u) view first tt items e given)

  -- over a room, which is as long as the items, or not
  pub fits_in_room : (room : ℕ) → None ≡ first → places ≡ room → in_room room meaning ≡ Ok items
  fits_in_room room none same = ap (in_room room) (told_ok none items refl) ∙ fits room items (call.long none ∙ same)

  module _ (f : Fault) (before : List X) (none : None ≡ first) (differ : (f ≡ fault LengthMismatch) × (places ≢ length before)) where
    differs_in_room : in_room (length before) meaning ≡ Err f
    differs_in_room = cc (told_ok none items refl, differs (length before) items (λ same. differ.1 (sym (call.long none) ∙ same)), differ.0)

    pub mismatch : (answer : Result (Unit {0}) Fault) → IsErrAnd answer (λ y. y ≡ f) → Overwrites (in_room (length before) meaning) answer before before
    mismatch answer is = told (in_room (length before) meaning) answer f before is differs_in_room

    pub mismatch_or : (answer : Result (Unit {0}) Refused) → IsErrAnd answer (λ y. y ≡ refused.Fault f) → OverwritesOr (in_room (length before) meaning) answer before before
    mismatch_or answer is = told_or (in_room (length before) meaning) answer (refused.Fault f) before is (differs_in_room, refl)

-- ---- the first fault, or else the elements of the senders, all of whom are places of the source

-- where there is no fault, each sender is one of so many elements
abbrev pub AreAllSent : Option Fault → ℕ → List ℕ → Type 0
AreAllSent fault elements senders = fault ≡ None → All (λ s. s < elements) senders

pub record IsSent {X : Type 0} (source : List X) (meaning : Result (List X) Fault) (first : Option Fault) (senders : List ℕ) (places : ℕ) : Type 0 where
  pub is : meaning ≡ unless first (Ok (filter_map (slice_get source) senders))
  pub sent : AreAllSent first (length source) senders
  pub as_many : length senders ≡ places

unless_same : {Y : Type 0} (first : Option Fault) (x y : Y) → (first ≡ None → x ≡ y) → unless first (Ok x) ≡ unless first (Ok y)
unless_same None x y same = ap Ok (same refl)
unless_same (Some f) x y same = refl

stands_long : {X : Type 0} (b : Before X) (stands : List X) → MayStand b stands → length stands ≡ length (values_of b)
stands_long (before.Any values) stands may = may
stands_long (before.Defaults values) stands may = ap length may

module _ {X : Type 0} {source : List X} {meaning : Result (List X) Fault} {first : Option Fault} {senders : List ℕ} {places : ℕ} (call : IsSent source meaning first senders places) where
  pub sent_told : IsTold meaning first (filter_map (slice_get source) senders) places
  sent_told = record { is = call.is; long = λ none. length-taken source senders (call.sent (sym none)) ∙ call.as_many }

  -- whatever stands before is written over
  pub sent_permuted : (b : Before X) → length (values_of b) ≡ places → IsPermuted source b meaning first senders
  sent_permuted b long = record {
    is = λ stands may.
        call.is ∙ unless_same first (filter_map (slice_get source) senders) (written_over source senders stands)
        (λ none. sym (written_all source senders stands (call.as_many ∙ sym (stands_long b stands may ∙ long)) (call.sent none)));
    as_many = call.as_many ∙ sym long;
  }

-- ---- the first fault, or else the elements of the senders over what may stand there

may_stand : {X : Type 0} (b : Before X) → MayStand b (written_of b)
may_stand (before.Any values) = length-written (before.Any values)
may_stand (before.Defaults values) = refl

module _ {X : Type 0} {source : List X} {b : Before X} {meaning : Result (List X) Fault} {first : Option Fault} {senders : List ℕ} (call : IsPermuted source b meaning first senders) where
  -- over what is written there
  pub permuted_told : IsTold meaning first (written_over source senders (written_of b)) (length (values_of b))
  permuted_told = record { is = call.is (written_of b) (may_stand b); long = λ none. length-before source senders b call.as_many }

  -- no senders were found
  module _ {V : Type 0} (view : V → List ℕ) (found : Result V Refused) (e : Refused) (is : found ≡ Err e) (gave : Gives view found (unless first (Ok senders))) where
    pub permuted_refused : {W : Type 0} (see : W → List X) → Gives see (Err e) meaning
    permuted_refused see = search (rules, permuted_told, refused_told)

    pub permuted_refused_over : (before : List X) → OverwritesOr (in_room (length before) meaning) (Err e) before before
    permuted_refused_over before = refused_over meaning e before (permuted_refused (λ xs. xs))

  -- in one walk
  pub permuted_in_one : (stands items : List X) → MayStand b stands → None ≡ first → items ≡ written_over source senders stands → meaning ≡ Ok items
  permuted_in_one stands items may right are = call.is stands may ∙ ap (λ o. unless o (Ok (written_over source senders stands))) (sym right) ∙ ap Ok (sym are)

-- what one walk found, over what stands there
values_stand : {X : Type 0} (b : Before X) → MayStand b (values_of b)
values_stand (before.Any values) = refl
values_stand (before.Defaults values) = refl

module _ {X V : Type 0} (view : V → List X) (source : List X) (b : Before X) (first : Option Fault) (senders : List ℕ) (stands : List X) (are : stands ≡ values_of b) where
  pub found_in_one : (found : Option V) → IfSome found (λ _. None ≡ first) → IfSome found (λ v. view v ≡ written_over source senders stands)
      → IfSome found (λ v. (meaning : Result (List X) Fault) → IsPermuted source b meaning first senders → meaning ≡ Ok (view v))
  found_in_one (Some v) right written = λ meaning call. permuted_in_one call stands (view v) (subst (MayStand b) (sym are) (values_stand b)) right written
  found_in_one None right written = tt
