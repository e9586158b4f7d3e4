-- First senders by steps: what the parts write and count together, and that it is the call's.
use Rattle.std.proofs.Common.{◌≡◌, ◌+◌, ◌++◌, ◌≤◌, ◌∙◌, ℕ, ℤ, List, [], ◌∷◌, count_by, length, length-append, map, sum, Option, Result, Ok, All, refl, sym, ap, arith, subst, le-ltb}
use Rattle.std.specs.List.{AllZip}
use Rattle.call_laws.proofs.FirstSent.{named-all, named-parts, senders-ranges}
use Rattle.call_laws.proofs.Sending.{unless-Ok}
use Rattle.cvl_base.proofs.Lists.{sum-cons}
use Rattle.cvl_base.specs.declared.fault.Fault.{Fault}
use Rattle.cvl_base.specs.Gives.{unless}
use Rattle.cvl_base.specs.Limits.{most_places}
use Rattle.cvl_base.specs.Lists.{joined}
use Rattle.cvl_base.specs.Permutes.{first_fault}
use Rattle.c_calls.specs.Told.{Told}
use Rattle.c_calls.specs.declared.status.CvlStatus.{CvlStatus}
use Rattle.first_senders.specs.FirstSenders.{first_senders, first_senders_to, wrong_in}
use Rattle.part_calls.specs.Limits.{range_within}
use Rattle.permute_parts.specs.Counts.{all_sent_of}
use Rattle.permute_walks.specs.Senders.{count_destinations, is_between}
use Rattle.step_laws.proofs.Parted.{alike_where}
use Rattle.step_laws.proofs.RangesMade.{settles}
use Rattle.step_laws.specs.RangeParts.{BeginAt, RangePart, Settles, counts_of, room_of}
use Rattle.step_laws.specs.SenderSteps.{FindsSenders}

-- a part's call, once neither its indices nor its range go too far
pub ranged : {Y : Type 0} (items from places : ℕ) (call : Result Y Fault) → items ≤ most_places → from + places ≤ most_places → range_within items from places call ≡ call
ranged items from places call few within = rw (le-ltb most_places items few, le-ltb most_places (from + places) within) refl

module _ (ts : List (Option ℤ)) where
  -- how many destinations are among n places from one on
  abbrev named : ℕ → ℕ → ℕ
  named low n = count_by (is_between low (low + n)) ts

  named-none : (place : ℕ) → named place 0 ≡ 0
  named-none place =
      let again : named (place + 0) 0 ≡ named place 0 = ap (λ n. named n 0) (omega arith) in
      omega (arith, named-parts ts place 0 0, again)

  found-from : (place : ℕ) (parts : List (RangePart ℤ)) → BeginAt place parts
      → joined (map (λ p. first_senders ts p.from (length p.room)) parts) ≡ first_senders ts place (length (room_of parts))
  found-from place [] at = refl
  found-from place (p ∷ parts) at =
      ap (λ n. first_senders ts n (length p.room) ++ joined (map (λ p. first_senders ts p.from (length p.room)) parts)) at.0
      ∙ ap (λ zs. first_senders ts place (length p.room) ++ zs) (found-from (place + length p.room) parts at.1)
      ∙ sym (senders-ranges ts place (length p.room) (length (room_of parts)))
      ∙ ap (first_senders ts place) (sym (length-append p.room (room_of parts)))

  named-from : (place : ℕ) (parts : List (RangePart ℤ)) → BeginAt place parts → sum (map (λ p. named p.from (length p.room)) parts) ≡ named place (length (room_of parts))
  named-from place [] at = sym (named-none place)
  named-from place (p ∷ parts) at =
      sum-cons (named p.from (length p.room)) (map (λ p. named p.from (length p.room)) parts)
      ∙ ap (λ n. named n (length p.room) + sum (map (λ p. named p.from (length p.room)) parts)) at.0
      ∙ ap (λ n. named place (length p.room) + n) (named-from (place + length p.room) parts at.1)
      ∙ sym (named-parts ts place (length p.room) (length (room_of parts)))
      ∙ ap (named place) (sym (length-append p.room (room_of parts)))

  module _ (call : RangePart ℤ → Result (List ℤ × ℕ) Fault) where
    -- a part's call has the first senders of its range
    abbrev pub HasSenders : RangePart ℤ → Type 0
    HasSenders p = call p ≡ Ok (first_senders ts p.from (length p.room), named p.from (length p.room))

    given : (own left : RangePart ℤ) → FindsSenders call own left → HasSenders own
        → ◌≡◌ {A = List ℤ × ℕ} (left.room, left.count) (first_senders ts own.from (length own.room), named own.from (length own.room))
    given own left ((status, told), alone) is =
        let has : Told (Ok (first_senders ts own.from (length own.room), named own.from (length own.room))) status (own.room, own.count) (left.room, left.count) =
        subst (λ m. Told m status (own.room, own.count) (left.room, left.count)) is told in
        has.1

    -- the counts add up to those that take part exactly if none of these is out of range, and then the room is the call's
    pub found : (start end : List (RangePart ℤ)) (status : CvlStatus) (meaning : Result (List ℤ) Fault) → meaning ≡ first_senders_to ts (length (room_of start)) → BeginAt 0 start
        → All HasSenders start → AllZip (FindsSenders call) start end → Told (all_sent_of (counts_of end) (count_destinations ts)) status tt tt
        → Settles status meaning (room_of start) (room_of end)
    found start end status meaning means at are finds told =
        let m = length (room_of start) in
        let faults = first_fault 0 (map (wrong_in m) ts) in
        let rooms : room_of end ≡ first_senders ts 0 m =
        ap joined (alike_where (FindsSenders call) HasSenders (λ p. first_senders ts p.from (length p.room)) (λ p. p.room)
        (λ own left does is. ap (λ (t : List ℤ × ℕ). t.0) (given own left does is)) start end finds are)
        ∙ found-from 0 start at in
        let from_none : 0 + m ≡ m = omega arith in
        let counts : sum (counts_of end) ≡ count_by (is_between 0 m) ts =
        ap sum (alike_where (FindsSenders call) HasSenders (λ p. named p.from (length p.room)) (λ p. p.count)
        (λ own left does is. ap (λ (t : List ℤ × ℕ). t.1) (given own left does is)) start end finds are)
        ∙ named-from 0 start at ∙ ap (λ n. count_by (is_between 0 n) ts) from_none in
        settles meaning (room_of start) (room_of end) (counts_of end) (count_destinations ts) status told
        (λ same. means ∙ ap (λ o. unless o (Ok (first_senders ts 0 m))) ((named-all m 0 ts).0 (sym counts ∙ same)) ∙ ap Ok (sym rooms))
        (λ xs is. counts ∙ (named-all m 0 ts).1 (unless-Ok faults (Ok (first_senders ts 0 m)) xs (sym means ∙ is)).0)
