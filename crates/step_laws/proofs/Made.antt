-- What parts make at the front of their ranges of a memory, and what is left in a room if they put all of it there.
use Rattle.std.proofs.Common.{◌≡◌, ◌≢◌, ◌+◌, ◌<◌, ◌≤◌, ◌++◌, ◌∙◌, inl, inr, ℕ, Bool, true, false, List, ◌∷◌, length, length-append, sum, take, drop}
use Rattle.std.proofs.Common.{Result, Ok, Err, refl, sym, ap, arith, subst, take_at, ⊎_elim}
use Rattle.std.proofs.lemmas.Bool.{cases_lt, le-ltb, lt-ltb}
use Rattle.std.proofs.lemmas.List.{take-append-drop}
use Rattle.cvl_base.specs.declared.fault.Fault.{Fault}
use Rattle.cvl_base.specs.declared.fault.FaultNo.TheVariants as no
use Rattle.cvl_base.specs.Faults.{fault}
use Rattle.cvl_base.specs.Gives.{◌>>=◌, fault_if}
use Rattle.cvl_base.specs.Lists.{joined}
use Rattle.part_records.specs.Places.{Layout, fits_room, fitted, layout_or}
use Rattle.c_calls.specs.Told.{FrontTold, Told, at_front, count_or, done, front_of, status_of_fault}
use Rattle.c_calls.specs.declared.status.CvlStatus.{CvlStatus}
use Rattle.call_laws.proofs.TwoParts.{from_value}
use Rattle.step_laws.specs.PackSteps.{SameBehind, ranges_of}
use Rattle.step_laws.specs.TextParts.{MakesAlone, TextPart, counts_of}
use Rattle.step_laws.specs.TextSteps.{LaysOut, Makes}
use Rattle.step_laws.proofs.Answered.{is_given, past_limit}
use Rattle.step_laws.proofs.Packed.{at-front, ends, has-room, joined-ranges}

-- a call that has a value behind a check has passed it
pub past : {Y : Type 0} (b : Bool) (f : Fault) (r : Result Y Fault) (z : Y) → fault_if b f r ≡ Ok z → r ≡ Ok z
past true f r z is = cc
past false f r z is = is

module _ {X Y : Type 0} (call : List X → Result (List Y) Fault) where
  -- a part that made something without a fault has it in front
  pub record IsMade (own left : TextPart X Y) : Type 0 where
    pub made : List Y
    pub gives : call own.items ≡ Ok made
    pub front : take left.count left.own ≡ made
    pub count : left.count ≡ length made
    pub long : left.count ≤ length left.own
    pub same : left.items ≡ own.items

  made-part : (own left : TextPart X Y) → FrontTold (call own.items) done (front_of own.own own.count) (front_of left.own left.count) → MakesAlone own left → IsMade own left
  made-part own left (told, counted) alone =
      let found = from_value (call own.items) (at_front own.own) left.own (is_given (call own.items >>= at_front own.own) own.own left.own told) in
      let t = found.0 in
      let written : t ++ drop (length t) own.own ≡ left.own = past_limit _ _ (t ++ drop (length t) own.own) left.own found.2 in
      let count : left.count ≡ length t = counted ∙ ap (λ r. count_or own.count r) found.1 in
      let long : length left.own ≡ length t + length (drop (length t) own.own) = ap length (sym written) ∙ length-append t (drop (length t) own.own) in
      record {
        made = t;
        gives = found.1;
        front = (λ i. take (count i) (sym written i)) ∙ take_at t (drop (length t) own.own) (length t) refl;
        count = count;
        long = omega (arith, count, long);
        same = ap (λ (p : TextPart X Y). p.items) alone;
      }

  pub each-made : (own left : TextPart X Y) → Makes call own left → IsMade own left
  each-made own left (inl told, alone) = made-part own left told alone
  each-made own left (inr (none, same), alone) = let bad : 0 ≡ 100 = ap (λ (s : CvlStatus). s.number) none in absurd (omega (arith, bad))

module _ {X Y : Type 0} (layout_by : ℕ → List ℕ → Result Layout Fault) where
  -- what is laid out if the answer is that all is done
  pub laid-out : (made : List (TextPart X Y)) (room : ℕ) (before now : Layout) → LaysOut layout_by made room done before now
      → (layout_by (length before.places) (counts_of made) ≡ Ok now) × (now.total ≤ room)
  laid-out made room before now (told, lays) =
      let meaning = layout_by (length before.places) (counts_of made) in
      let found = from_value meaning (fits_room room) tt (is_given (fitted room meaning) tt tt told) in
      let is : now ≡ found.0 = lays ∙ ap (layout_or before) found.1 in
      let room-told : Told (fits_room room found.0) done tt tt = subst (λ m. Told (m >>= fits_room room) done tt tt) found.1 told in
      (found.1 ∙ ap Ok (sym is), subst (λ (l : Layout). l.total ≤ room) (sym is) (has-room room found.0 room-told))

  -- and if it is not
  pub too-short : (made : List (TextPart X Y)) (room : ℕ) (status : CvlStatus) (before now layout : Layout) → LaysOut layout_by made room status before now → status ≢ done
      → layout_by (length before.places) (counts_of made) ≡ Ok layout
      → (now ≡ layout) × (room < layout.total) × (status ≡ status_of_fault (fault no.LengthMismatch))
  too-short made room status before now layout (told, lays) fails is =
      let answer : Told (fits_room room layout) status tt tt = subst (λ m. Told (m >>= fits_room room) status tt tt) is told in
      ⊎_elim
      (λ (short : room < layout.total).
      let none : Told (Err (fault no.LengthMismatch)) status tt tt = subst (λ b. Told (fault_if b (fault no.LengthMismatch) (Ok tt)) status tt tt) (lt-ltb room layout.total short) answer in
      (lays ∙ ap (layout_or before) is, short, none.0))
      (λ (fit : layout.total ≤ room).
      let ok : Told (Ok tt) status tt tt = subst (λ b. Told (fault_if b (fault no.LengthMismatch) (Ok tt)) status tt tt) (le-ltb room layout.total fit) answer in
      absurd (fails ok.0))
      (cases_lt room layout.total)

module _ {Y : Type 0} where
  -- what a call gives stands at the front of the room
  pub in-front : (meaning : Result (List Y) Fault) (all : List Y) (before now : Layout) (ls : List ℕ) (room after : List Y) → meaning ≡ Ok all
      → now.places ≡ 0 ∷ ends 0 ls → now.total ≡ sum ls → length all ≡ sum ls → now.total ≤ length room → joined (ranges_of now.places after) ≡ all
      → SameBehind now room after → FrontTold meaning done (front_of room before.total) (front_of after now.total)
  in-front meaning all before now ls room after is places total long fit filled behind =
      let front : take (sum ls) after ≡ all = sym (joined-ranges 0 ls after) ∙ ap (λ ps. joined (ranges_of ps after)) (sym places) ∙ filled in
      let back : drop (sum ls) after ≡ drop (length all) room = ap (λ n. drop n after) (sym total) ∙ behind ∙ ap (λ n. drop n room) (total ∙ sym long) in
      let written : after ≡ all ++ drop (length all) room = sym (take-append-drop (sum ls) after) ∙ (λ i. front i ++ drop (sum ls) after) ∙ ap (λ zs. all ++ zs) back in
      let told : FrontTold (Ok all) done (front_of room before.total) (front_of after now.total) =
      (subst (λ r. Told r done room after) (sym (at-front room all (omega (arith, long, total, fit)))) (refl, written), total ∙ sym long) in
      subst (λ m. FrontTold m done (front_of room before.total) (front_of after now.total)) (sym is) told

  -- or the room is too short
  pub not-in-front : (meaning : Result (List Y) Fault) (all : List Y) (status : CvlStatus) (before now : Layout) (room : List Y) → meaning ≡ Ok all
      → now.total ≡ length all → length room < length all → status ≡ status_of_fault (fault no.LengthMismatch)
      → FrontTold meaning status (front_of room before.total) (front_of room now.total)
  not-in-front meaning all status before now room is total short none =
      let no_front : at_front room all ≡ Err (fault no.LengthMismatch) =
      ap (λ b. fault_if b (fault no.LengthMismatch) (Ok (all ++ drop (length all) room))) (lt-ltb (length room) (length all) short) in
      let told : FrontTold (Ok all) status (front_of room before.total) (front_of room now.total) =
      (subst (λ r. Told r status room room) (sym no_front) (none, refl), total) in
      subst (λ m. FrontTold m status (front_of room before.total) (front_of room now.total)) (sym is) told
