-- Calls by segments that are made by parts.
use Rattle.std.proofs.Common.{◌≡◌, ◌∙◌, List, [], ◌∷◌, length, map, Result, Ok, refl, sym, ap, arith, subst, All}
use Rattle.std.proofs.Common.{length-append, ⊎_elim}
use mathlib.Core.List.{map-map}
use Rattle.std.proofs.lemmas.List.Elements.{All-cons, All-nil}
use Rattle.std.specs.List.{AllZip}
use Rattle.cvl_base.specs.declared.fault.Fault.{Fault}
use Rattle.cvl_base.specs.Lists.{joined}
use Rattle.c_calls.specs.Told.{RoomTold, RoomToldOr, Told, ToldOr, done, no_resources}
use Rattle.c_calls.specs.declared.status.CvlStatus.{CvlStatus}
use Rattle.step_laws.proofs.Answered.{fills, is_given, tells_done}
use Rattle.step_laws.proofs.Parted.{alike}
use Rattle.step_laws.specs.SegmentCalls.{AreMadeOf, CallPart, IsMadeBy, IsMadeOf, Makes, MakesOver, MakesOverBoth, TwoRoomPart, both_joined, room_of, rooms_in, rooms_of}

-- what is done did not lack memory
had_memory : {X : Type 0} (meaning : Result X Fault) (before now : X) → ToldOr meaning done before now → Told meaning done before now
had_memory meaning before now told =
    ⊎_elim
    (λ (is : Told meaning done before now). is)
    (λ (refused : (done ≡ no_resources) × (now ≡ before)). absurd (omega (arith, ap (λ (s : CvlStatus). s.number) refused.0)))
    told

-- rooms that are as long as others in pairs are as long together
as-long-joined : {X : Type 0} (lists others : List (List X)) → map length lists ≡ map length others → length (joined lists) ≡ length (joined others)
as-long-joined [] [] same = refl
as-long-joined [] (o ∷ others) same = cc
as-long-joined (l ∷ lists) [] same = cc
as-long-joined (l ∷ lists) (o ∷ others) same =
    let first : length l ≡ length o = cc in
    let rest : map length lists ≡ map length others = cc in
    omega (arith, length-append l (joined lists), length-append o (joined others), first, as-long-joined lists others rest)

-- a call that goes on from what stands in its rooms, and each of whose parts is done, is done
made-over : {P V : Type 0} (together : List V → V) (does : P → P → Type 0) (rooms : P → V) (call : P → Result V Fault)
    → ((own left : P) → does own left → ToldOr (call own) done (rooms own) (rooms left)) → (whole : Result V Fault) (start end : List P)
    → IsMadeBy together whole (map call start) → AllZip does start end → Told whole done (together (map rooms start)) (together (map rooms end))
made-over together does rooms call tells whole start end made makes =
    let values : map (λ p. Ok (rooms p)) end ≡ map call start =
    alike does call (λ p. Ok (rooms p))
    (λ own left made_own. sym (is_given (call own) (rooms own) (rooms left) (had_memory (call own) (rooms own) (rooms left) (tells own left made_own)))) start end makes in
    let is : whole ≡ Ok (together (map rooms end)) = made.all (map rooms end) (sym values ∙ sym (map-map (λ r. Ok r) rooms end)) in
    subst (λ m. Told m done (together (map rooms start)) (together (map rooms end))) (sym is) (refl, refl)

module _ {I Y : Type 0} where
  rooms : List (CallPart I Y) → List (List Y)
  rooms parts = map (λ p. p.room) parts

  pub into : (call : I → Result (List Y) Fault) (whole : Result (List Y) Fault) (start end : List (CallPart I Y)) → IsMadeOf whole (map (λ p. call p.operands) start)
      → AllZip (Makes call) start end → RoomTold whole done (room_of start) (room_of end)
  into call whole start end made makes =
      let given : (own left : CallPart I Y) → Makes call own left → (call own.operands ≡ Ok left.room) × (length left.room ≡ length own.room) =
      λ own left does. fills (call own.operands) own.room left.room (had-room own left does.0) in
      let values : map (λ (p : CallPart I Y). Ok p.room) end ≡ map (λ (p : CallPart I Y). call p.operands) start =
      alike (Makes call) (λ (p : CallPart I Y). call p.operands) (λ (p : CallPart I Y). Ok p.room) (λ own left does. sym (given own left does).0) start end makes in
      let long : map (λ (p : CallPart I Y). length p.room) end ≡ map (λ (p : CallPart I Y). length p.room) start =
      alike (Makes call) (λ (p : CallPart I Y). length p.room) (λ (p : CallPart I Y). length p.room) (λ own left does. (given own left does).1) start end makes in
      let is : whole ≡ Ok (room_of end) = made.all (map (λ p. p.room) end) (sym values ∙ sym (map-map (λ r. Ok r) (λ (p : CallPart I Y). p.room) end)) in
      let full : length (room_of end) ≡ length (room_of start) =
      as-long-joined (map (λ p. p.room) end) (map (λ p. p.room) start)
      (map-map length (λ (p : CallPart I Y). p.room) end ∙ long ∙ sym (map-map length (λ (p : CallPart I Y). p.room) start)) in
      subst (λ m. RoomTold m done (room_of start) (room_of end)) (sym is) (tells_done (room_of end) (room_of start) full)
    where
      had-room : (own left : CallPart I Y) → RoomToldOr (call own.operands) done own.room left.room → RoomTold (call own.operands) done own.room left.room
      had-room own left told = had_memory _ own.room left.room told

  pub over : (call : I → List Y → Result (List Y) Fault) (whole : Result (List Y) Fault) (start end : List (CallPart I Y))
      → IsMadeOf whole (map (λ p. call p.operands p.room) start) → AllZip (MakesOver call) start end → Told whole done (room_of start) (room_of end)
  over call whole start end made makes =
      made-over joined (MakesOver call) (λ p. p.room) (λ p. call p.operands p.room) (λ own left does. does.0) whole start end made makes

module _ {I Y Z : Type 0} where
  pub over-both : (call : I → List Y × List Z → Result (List Y × List Z) Fault) (whole : Result (List Y × List Z) Fault) (start end : List (TwoRoomPart I Y Z))
      → AreMadeOf whole (map (λ p. call p.operands (rooms_in p)) start) → AllZip (MakesOverBoth call) start end → Told whole done (rooms_of start) (rooms_of end)
  over-both call whole start end made makes =
      made-over both_joined (MakesOverBoth call) rooms_in (λ p. call p.operands (rooms_in p)) (λ own left does. does.0) whole start end made makes

-- values of all parts are values of each
each-value : {P V : Type 0} (own : P → Result V Fault) (parts : List P) (values : List V) → map own parts ≡ map (λ v. Ok v) values → All (λ p. (v : V) × (own p ≡ Ok v)) parts
each-value {V = V} own [] values are = All-nil (λ p. (v : V) × (own p ≡ Ok v))
each-value own (p ∷ parts) [] are = cc
each-value {V = V} own (p ∷ parts) (v ∷ values) are =
    let first : own p ≡ Ok v = cc in
    let rest : map own parts ≡ map (λ u. Ok u) values = cc in
    All-cons (λ q. (u : V) × (own q ≡ Ok u)) p parts (v, first) (each-value own parts values rest)

pub exactly : {P V : Type 0} (together : List V → V) (whole : Result V Fault) (own : P → Result V Fault) (parts : List P) (value : V) → IsMadeBy together whole (map own parts)
    → whole ≡ Ok value → All (λ p. (v : V) × (own p ≡ Ok v)) parts
exactly together whole own parts value made is = let values = made.each value is in each-value own parts values.0 values.1
