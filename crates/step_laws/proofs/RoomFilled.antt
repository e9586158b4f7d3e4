-- A flat distribute and an index by steps.
use Rattle.std.proofs.Common.{◌≡◌, ◌++◌, ◌+◌, ◌≤◌, ◌∙◌, ℕ, ℤ, pos, List, [], ◌∷◌, length, map, replicate, Result, Ok, refl, sym, ap, arith, subst, All}
use Rattle.std.proofs.Common.{length-append}
use Rattle.std.proofs.lemmas.Bool.{le-ltb}
use Rattle.std.proofs.lemmas.List.{length-replicate, replicate-append-replicate}
use Rattle.std.proofs.lemmas.List.Elements.{All-cons, All-nil}
use Rattle.std.specs.List.{AllZip}
use Rattle.cvl_base.specs.Distributes.{distribute_within, index_within}
use Rattle.cvl_base.specs.Limits.{most_places}
use Rattle.cvl_base.specs.Lists.{joined}
use Rattle.cvl_base.specs.declared.fault.Fault.{Fault}
use Rattle.pack_dist.specs.Progressions.{numbers_from}
use Rattle.segment_fills.specs.Numbers.{numbers_after_of}
use Rattle.c_calls.specs.Told.{RoomTold, Told, done}
use Rattle.step_laws.specs.RoomFills.{AreBehind, CopiesOf, NumbersOf, RoomPart, room_of}
use Rattle.step_laws.proofs.Answered.{is_done, tells_done}
use Rattle.step_laws.proofs.FilledByNumbers.{long-numbers, more-numbers}
use Rattle.step_laws.proofs.Parted.{alike_where, some-fewer}

-- a call whose value is as long as its room, and what its parts left
whole : {Y : Type 0} (meaning : Result (List Y) Fault) (ys before now : List Y) → meaning ≡ Ok ys → length ys ≡ length before → now ≡ ys → RoomTold meaning done before now
whole meaning ys before now is long same =
    subst (λ m. RoomTold m done before now) (sym is) (subst (λ zs. RoomTold (Ok ys) done before zs) (sym same) (tells_done ys before long))

module _ {Y : Type 0} (value : Y) where
  copies-fit : (n : ℕ) → n ≤ most_places → distribute_within most_places value (pos n) ≡ Ok (replicate n value)
  copies-fit n few = rw (le-ltb most_places n few) refl

  copied : (own left : RoomPart Y) → CopiesOf value own left → length own.room ≤ most_places → left.room ≡ replicate (length own.room) value
  copied own left does few =
      let n = length own.room in
      is_done (replicate n value) own.room left.room does.0.0 (length-replicate n value)
      (subst (λ m. RoomTold m does.0.0 own.room left.room) (copies-fit n few) does.0.1)

  all-copies : (parts : List (RoomPart Y)) → joined (map (λ p. replicate (length p.room) value) parts) ≡ replicate (length (room_of parts)) value
  all-copies [] = refl
  all-copies (p ∷ parts) =
      ap (λ ys. replicate (length p.room) value ++ ys) (all-copies parts) ∙ replicate-append-replicate (length p.room) (length (room_of parts)) value
      ∙ ap (λ n. replicate n value) (sym (length-append p.room (room_of parts)))

  pub distributes : (start end : List (RoomPart Y)) → length (room_of start) ≤ most_places → AllZip (CopiesOf value) start end
      → RoomTold (distribute_within most_places value (pos (length (room_of start)))) done (room_of start) (room_of end)
  distributes start end few zipped =
      let n = length (room_of start) in
      let each = alike_where (CopiesOf value) (λ p. length p.room ≤ most_places) (λ p. replicate (length p.room) value) (λ p. p.room) copied start end zipped
      (some-fewer (λ p. p.room) most_places start few) in
      whole (distribute_within most_places value (pos n)) (replicate n value) (room_of start) (room_of end) (copies-fit n few) (length-replicate n value)
      (ap joined each ∙ all-copies start)

module _ (init stride : ℤ) where
  abbrev own_numbers : RoomPart ℤ → List ℤ
  own_numbers p = numbers_from init stride p.before (length p.room)

  -- its numbers are not too many
  abbrev Fits : RoomPart ℤ → Type 0
  Fits p = p.before + length p.room ≤ most_places

  numbered : (own left : RoomPart ℤ) → NumbersOf init stride own left → Fits own → left.room ≡ own_numbers own
  numbered own left does fits =
      let n = length own.room in
      let meaning : numbers_after_of own.before init stride n ≡ Ok (own_numbers own) = rw (le-ltb most_places (own.before + n) fits) refl in
      let told : Told (Ok (own_numbers own)) does.0.0 own.room left.room = subst (λ m. Told m does.0.0 own.room left.room) meaning does.0.1 in
      told.1

  all-fit : (before : ℕ) (parts : List (RoomPart ℤ)) → AreBehind before parts → before + length (room_of parts) ≤ most_places → All Fits parts
  all-fit before [] are few = All-nil Fits
  all-fit before (p ∷ parts) are few =
      let total = length-append p.room (room_of parts) in
      All-cons Fits p parts (omega (arith, are.0, total, few)) (all-fit (before + length p.room) parts are.1 (omega (arith, total, few)))

  all-numbers : (before : ℕ) (parts : List (RoomPart ℤ)) → AreBehind before parts → joined (map own_numbers parts) ≡ numbers_from init stride before (length (room_of parts))
  all-numbers before [] are = refl
  all-numbers before (p ∷ parts) are =
      let n = length p.room in
      let rest = all-numbers (before + n) parts are.1 in
      let both : own_numbers p ++ joined (map own_numbers parts) ≡ numbers_from init stride before n ++ numbers_from init stride (before + n) (length (room_of parts)) =
      λ i. numbers_from init stride (are.0 i) n ++ rest i in
      both ∙ more-numbers (init, stride) before n (length (room_of parts))
      ∙ ap (λ m. numbers_from init stride before m) (sym (length-append p.room (room_of parts)))

  pub indexes : (start end : List (RoomPart ℤ)) → length (room_of start) ≤ most_places → AreBehind 0 start → AllZip (NumbersOf init stride) start end
      → RoomTold (index_within most_places init stride (pos (length (room_of start)))) done (room_of start) (room_of end)
  indexes start end few are zipped =
      let n = length (room_of start) in
      let meaning : index_within most_places init stride (pos n) ≡ Ok (numbers_from init stride 0 n) = rw (le-ltb most_places n few) refl in
      let each = alike_where (NumbersOf init stride) Fits own_numbers (λ p. p.room) numbered start end zipped (all-fit 0 start are (omega (arith, few))) in
      whole (index_within most_places init stride (pos n)) (numbers_from init stride 0 n) (room_of start) (room_of end) meaning (long-numbers (init, stride) 0 n)
      (ap joined each ∙ all-numbers 0 start are)
