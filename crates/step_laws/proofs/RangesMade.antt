-- What parts make together each of which writes a range of the result.
use Rattle.std.proofs.Common.{◌≡◌, ◌≢◌, ◌+◌, ◌-◌, ◌/◌, ◌++◌, ◌≤◌, ◌∙◌, ℕ, List, [], ◌∷◌, drop, length, length-append, map, sum, take, Result, Ok, Err, All, refl, sym, ap, arith, subst}
use Rattle.std.proofs.Common.{⊎_elim, eqb, eq-eqb, ne_eqb, length-drop, length-take-le, true, false}
use Rattle.std.proofs.lemmas.Bool.Decides.{eqb_tells}
use Rattle.std.proofs.lemmas.List.Elements.{All-cons, All-nil}
use Rattle.std.proofs.lemmas.Option.{none-some}
use Rattle.std.specs.List.{enumerate_from}
use Rattle.std.specs.Result.{result_ok}
use Rattle.cvl_base.proofs.Rooms.{fits}
use Rattle.cvl_base.specs.declared.fault.Fault.{Fault}
use Rattle.cvl_base.specs.declared.fault.FaultNo.TheVariants.{LengthMismatch}
use Rattle.cvl_base.specs.Faults.{fault}
use Rattle.c_calls.specs.Told.{Told, done, in_room}
use Rattle.c_calls.specs.declared.status.CvlStatus.{CvlStatus}
use Rattle.permute_parts.specs.Counts.{all_sent_of}
use Rattle.permute_parts.specs.Marks.{mark_place, mark_places_of}
use Rattle.permute_walks.specs.Marks.{words_for}
use Rattle.step_laws.proofs.Answered.{numbered, past_limit, fills}
use Rattle.step_laws.specs.PackSteps.{ranges_of}
use Rattle.step_laws.specs.PermuteSteps.{PlacesMarks}
use Rattle.step_laws.specs.RangeParts.{BeginAt, HaveMarks, RangePart, Settles, bounds_of, room_of}

-- ---- what a last check says

-- a call that has no value has a fault
pub has_fault : {Y : Type 0} (call : Result Y Fault) → ((y : Y) → call ≡ Ok y → ⊥) → (f : Fault) × (call ≡ Err f)
has_fault (Ok y) none = absurd (none y refl)
has_fault (Err f) none = (f, refl)

-- a call that fills a room has a value
pub fills_room : {X : Type 0} (n : ℕ) (call : Result (List X) Fault) (xs : List X) → in_room n call ≡ Ok xs → (ys : List X) × (call ≡ Ok ys)
fills_room n (Ok ys) xs is = (ys, refl)
fills_room n (Err f) xs is = absurd (none-some xs (ap result_ok is))

checked : (counts : List ℕ) (wanted : ℕ) → sum counts ≡ wanted → all_sent_of counts wanted ≡ Ok tt
checked counts wanted same = rw (eq-eqb (sum counts) wanted same) refl

unchecked : (counts : List ℕ) (wanted : ℕ) → sum counts ≢ wanted → all_sent_of counts wanted ≡ Err (fault LengthMismatch)
unchecked counts wanted other = rw (ne_eqb (sum counts) wanted other) refl

-- a check that is not done says that the counts add up to another number, and one that is done that they add up to this one
pub adds_up : (counts : List ℕ) (wanted : ℕ) → Told (all_sent_of counts wanted) done tt tt → sum counts ≡ wanted
adds_up counts wanted told =
    ⊎_elim
    (λ (is : (eqb (sum counts) wanted ≡ true) × (sum counts ≡ wanted)). is.1)
    (λ (is : (eqb (sum counts) wanted ≡ false) × (sum counts ≢ wanted)).
    let none : Told (Err (fault LengthMismatch)) done tt tt = subst (λ m. Told m done tt tt) (unchecked counts wanted is.1) told in
    absurd (numbered LengthMismatch (sym (ap (λ (s : CvlStatus). s.number) none.0))))
    (eqb_tells (sum counts) wanted)

pub adds_up_else : (counts : List ℕ) (wanted : ℕ) (status : CvlStatus) → Told (all_sent_of counts wanted) status tt tt → status ≢ done → sum counts ≢ wanted
adds_up_else counts wanted status told other same =
    let all : Told (Ok tt) status tt tt = subst (λ m. Told m status tt tt) (checked counts wanted same) told in
    other all.0

module _ {X : Type 0} (call : Result (List X) Fault) (before now : List X) (counts : List ℕ) (wanted : ℕ) (status : CvlStatus)
    (told : Told (all_sent_of counts wanted) status tt tt) where
  -- where the counts add up exactly if the call has a value, which is what the parts have made
  pub settles : (sum counts ≡ wanted → call ≡ Ok now) → ((xs : List X) → call ≡ Ok xs → sum counts ≡ wanted) → Settles status call before now
  settles made counted = (
    λ is.
        let same : sum counts ≡ wanted = adds_up counts wanted (subst (λ s. Told (all_sent_of counts wanted) s tt tt) is told) in
        subst (λ m. Told m done before now) (sym (made same)) (refl, refl),
    λ other. has_fault call (λ xs is. adds_up_else counts wanted status told other (counted xs is)),
  )

  -- the same of a room that the call has to fill
  pub settles_room : length now ≡ length before → (sum counts ≡ wanted → call ≡ Ok now) → ((xs : List X) → call ≡ Ok xs → sum counts ≡ wanted)
      → Settles status (in_room (length before) call) before now
  settles_room long made counted = (
    λ is.
        let same : sum counts ≡ wanted = adds_up counts wanted (subst (λ s. Told (all_sent_of counts wanted) s tt tt) is told) in
        subst (λ m. Told m done before now) (sym (ap (in_room (length before)) (made same) ∙ fits (length before) now long)) (refl, refl),
    λ other. has_fault (in_room (length before) call) (λ xs is.
        let value = fills_room (length before) call xs is in
        adds_up_else counts wanted status told other (counted value.0 value.1)),
  )

-- ---- words of marks

-- between the places of two neighbours there are words enough
enough : (low high i n : ℕ) (marks : List ℕ) → high ≡ low + n → high / 32 + (i + 1) ≤ length marks
    → words_for n ≤ length (take (mark_place (i + 1) high - mark_place i low) (drop (mark_place i low) marks))
enough low high i n marks is within =
    let some : mark_place (i + 1) high - mark_place i low ≤ length (drop (mark_place i low) marks) = omega (arith, length-drop (mark_place i low) marks, within) in
    omega (arith, is, length-take-le (mark_place (i + 1) high - mark_place i low) (drop (mark_place i low) marks) some)

-- the places of words behind i others
abbrev places_with : ℕ → List ℕ → List ℕ
places_with i bounds = map (λ p. mark_place p.0 p.1) (enumerate_from i bounds)

module _ {X : Type 0} where
  -- ---- ranges one behind another

  room-cons : (p : RangePart X) (parts : List (RangePart X)) → length (room_of (p ∷ parts)) ≡ length p.room + length (room_of parts)
  room-cons p parts = length-append p.room (room_of parts)

  -- each range ends within what all of them end within
  pub ends-within : (most place : ℕ) (parts : List (RangePart X)) → BeginAt place parts → place + length (room_of parts) ≤ most
      → All (λ p. p.from + length p.room ≤ most) parts
  ends-within most place [] at within = All-nil (λ p. p.from + length p.room ≤ most)
  ends-within most place (p ∷ parts) at within =
      let all = room-cons p parts in
      All-cons (λ p. p.from + length p.room ≤ most) p parts (omega (arith, at.0, all, within))
      (ends-within most (place + length p.room) parts at.1 (omega (arith, all, within)))

  -- ---- each part's words

  abbrev bounds_with : ℕ → List (RangePart X) → List ℕ
  bounds_with end parts = map (λ p. p.from) parts ++ end ∷ []

  abbrev pub HasWords : RangePart X → Type 0
  HasWords p = words_for (length p.room) ≤ length p.marks

  words-from : (i place end : ℕ) (marks : List ℕ) (parts : List (RangePart X)) → BeginAt place parts → end ≡ place + length (room_of parts)
      → end / 32 + (i + length parts) ≤ length marks → map (λ p. p.marks) parts ≡ ranges_of (places_with i (bounds_with end parts)) marks → All HasWords parts
  words-from i place end marks [] at is within same = All-nil HasWords
  words-from i place end marks (p ∷ []) at is within same =
      let here : p.marks ∷ [] ≡ take (mark_place (i + 1) end - mark_place i p.from) (drop (mark_place i p.from) marks) ∷ [] = same in
      let own : p.marks ≡ take (mark_place (i + 1) end - mark_place i p.from) (drop (mark_place i p.from) marks) = cc in
      let high : end ≡ p.from + length p.room = omega (arith, at.0, is, room-cons p []) in
      All-cons HasWords p [] (subst (λ ws. words_for (length p.room) ≤ length ws) (sym own) (enough p.from end i (length p.room) marks high (omega (arith, within)))) (All-nil HasWords)
  words-from i place end marks (p ∷ (q ∷ parts)) at is within same =
      let room = take (mark_place (i + 1) q.from - mark_place i p.from) (drop (mark_place i p.from) marks) in
      let here : p.marks ∷ map (λ p. p.marks) (q ∷ parts) ≡ room ∷ ranges_of (places_with (i + 1) (bounds_with end (q ∷ parts))) marks = same in
      let own : p.marks ≡ room = cc in
      let others : map (λ p. p.marks) (q ∷ parts) ≡ ranges_of (places_with (i + 1) (bounds_with end (q ∷ parts))) marks = cc in
      let high : q.from ≡ p.from + length p.room = omega (arith, at.0, at.1.0) in
      let all = room-cons p (q ∷ parts) in
      All-cons HasWords p (q ∷ parts)
      (subst (λ ws. words_for (length p.room) ≤ length ws) (sym own) (enough p.from q.from i (length p.room) marks high (omega (arith, at.0, at.1.0, is, all, within))))
      (words-from (i + 1) (place + length p.room) end marks (q ∷ parts) at.1 (omega (arith, is, all)) (omega (arith, within)) others)

  pub words-each : (parts : List (RangePart X)) (before places marks : List ℕ) → BeginAt 0 parts → PlacesMarks parts before places → HaveMarks places marks parts → All HasWords parts
  words-each parts before places marks at lays have =
      let given = (fills _ before places lays).0 in
      let are : mark_places_of (bounds_of parts) ≡ places = past_limit _ _ (mark_places_of (bounds_of parts)) places given in
      words-from 0 0 (length (room_of parts)) marks parts at (omega arith) (omega (arith, have.1)) (have.0 ∙ ap (λ ps. ranges_of ps marks) (sym are))
