-- Combining permutes by rooms of the parts' own, of an operator that is known or not, for integers and booleans alike.
use Rattle.std.proofs.Common.{◌≡◌, ◌∙◌, ◌+◌, ◌++◌, ◌<◌, ◌≤◌, ◌∷◌, ℕ, ℤ, Bool, true, List, [], All, ap, arith, get_or, length, map, not, refl, replicate, subst, sym, take, zip, None, Result, Ok, Err}
use mathlib.Core.List.{map-map}
use Rattle.std.proofs.lemmas.List.{length-map, length-replicate, length-take}
use Rattle.std.proofs.lemmas.List.Elements.{All-cons, All-head, All-map, All-nil, All-tail}
use Rattle.std.proofs.lemmas.List.FromFn.{length-enumerate_from}
use Rattle.std.specs.List.{AllPass, AllZip, enumerate_from}
use Rattle.c_calls.specs.Calls.{by_operator, in_limit}
use Rattle.c_calls.specs.Told.{Told, done}
use Rattle.c_calls.specs.declared.status.CvlStatus.{CvlStatus}
use Rattle.call_laws.proofs.CombinedRooms.{joined-rooms, outside-rooms}
use Rattle.call_laws.specs.InRooms.{own_room}
use Rattle.call_laws.proofs.TwoParts.{zip-append}
use Rattle.combine_parts.specs.OwnRooms.{OwnTold, own_room_of}
use Rattle.combine_parts.specs.RoomJoins.{joined_share_of, lie_within, shares_of, starts_of, with_rooms}
use Rattle.combining_permutes.specs.CombiningPermutes.{combine_of, combined, sent_there}
use Rattle.cvl_base.proofs.Elementwise.{if_as_long-fits}
use Rattle.cvl_base.specs.declared.fault.Fault.{Fault}
use Rattle.cvl_base.specs.declared.fault.FaultNo.TheVariants.{LengthMismatch}
use Rattle.cvl_base.specs.Faults.{fault}
use Rattle.cvl_base.specs.Folds.{fold_of}
use Rattle.cvl_base.specs.Gives.{fault_if, unless}
use Rattle.cvl_base.specs.Limits.{most_places}
use Rattle.cvl_base.specs.Lists.{joined}
use Rattle.cvl_base.specs.Monoid.{MonoidLaws}
use Rattle.exact_combines.proofs.Same.{zip_items}
use Rattle.permute_walks.specs.Indices.{first_outside}
use Rattle.step_laws.proofs.Answered.{numbered, within}
use Rattle.step_laws.proofs.OwnGiven.{combine_given, own_given, owns}
use Rattle.step_laws.proofs.Parted.{alike, alike_where, all-parts, as-long, keeps}
use Rattle.step_laws.proofs.RoomShares.{known_shares, places_of_share, shares_joined, shares_within}
use Rattle.step_laws.specs.CombineParts.{BeginAt, Block, HaveMemory, OwnAlone, RoomAlone, Share, elements_of, index_of, room_of}

-- what each first of a pair has
pub left_of_each : {A B : Type 0} {R : A → B → Type 0} {P : A → Type 0} → ((x : A) (y : B) → R x y → P x) → (xs : List A) (ys : List B) → AllZip R xs ys → All P xs
left_of_each {P = P} step [] [] zipped = All-nil P
left_of_each step [] (y ∷ ys) zipped = absurd zipped
left_of_each step (x ∷ xs) [] zipped = absurd zipped
left_of_each {P = P} step (x ∷ xs) (y ∷ ys) zipped = All-cons P x xs (step x y zipped.0) (left_of_each step xs ys zipped.1)

-- a part's indices, each beside its element
abbrev pub sends_of : {X Y : Type 0} → Block X Y → List (ℤ × X)
sends_of b = zip b.index b.elements

pub sends-joined : {X Y : Type 0} (blocks : List (Block X Y)) → All (λ b. length b.elements ≡ length b.index) blocks
    → joined (map sends_of blocks) ≡ zip (index_of blocks) (elements_of blocks)
sends-joined [] long = refl
sends-joined {X} {Y} (b ∷ blocks) long =
    ap (λ sends. zip b.index b.elements ++ sends) (sends-joined blocks (All-tail (λ (b : Block X Y). length b.elements ≡ length b.index) b blocks long))
    ∙ sym (zip-append b.index b.elements (index_of blocks) (elements_of blocks) (sym (All-head (λ (b : Block X Y). length b.elements ≡ length b.index) b blocks long)))

items_of_each : {X Y : Type 0} (is_item : X → Bool) (blocks : List (Block X Y)) → All (All (λ x. is_item x ≡ true)) (map (λ b. b.elements) blocks)
    → All (λ b. AllPass (λ p. is_item p.1) (sends_of b)) blocks
items_of_each {X} {Y} is_item [] items = All-nil (λ (b : Block X Y). AllPass (λ p. is_item p.1) (sends_of b))
items_of_each {X} {Y} is_item (b ∷ blocks) items =
    All-cons (λ (c : Block X Y). AllPass (λ p. is_item p.1) (sends_of c)) b blocks
    (zip_items is_item b.index b.elements (All-head (All (λ x. is_item x ≡ true)) b.elements (map (λ c. c.elements) blocks) items))
    (items_of_each is_item blocks (All-tail (All (λ x. is_item x ≡ true)) b.elements (map (λ c. c.elements) blocks) items))

-- a share that is joined holds what the rooms make of what it begins with
pub join_told : {X : Type 0} (join : X → X → X) (boundaries : List ℕ) (memory : List X) (from : ℕ) (base before now : List X) (status : CvlStatus)
    → lie_within (length memory) from (length base) (starts_of boundaries) ≡ true → Told (joined_share_of join from boundaries memory base) status before now
    → now ≡ with_rooms join base (shares_of from (length base) memory (starts_of boundaries))
join_told {X} join boundaries memory from base before now status lies told =
    let rooms : Result (List X) Fault = Ok (with_rooms join base (shares_of from (length base) memory (starts_of boundaries))) in
    let full : Told rooms status before now = subst (λ b. Told (fault_if (not b) (fault LengthMismatch) rooms) status before now) lies told in
    full.1

module _ {Item : Type 0} {is_item : Item → Bool} {unit : Item} {join : Item → Item → Item} (laws : MonoidLaws is_item unit join) where
  -- a part has made its room
  abbrev pub Made : ℕ → Block Item Item → Block Item Item → Type 0
  Made places own left = OwnTold places (own_room_of join unit places (length own.own) own.elements own.index) done own.own left.own × OwnAlone own left

  -- what is known of a part that has made its room, and of the room
  pub record Known (places : ℕ) (own left : Block Item Item) : Type 0 where
    pub as_many : length own.elements ≡ length own.index
    pub inside : first_outside 0 places own.index ≡ None
    pub long : places ≤ length left.own
    pub room : take places left.own ≡ own_room join unit 0 places (sends_of own)

  length-own_room : (places : ℕ) (sends : List (ℤ × Item)) → length (own_room join unit 0 places sends) ≡ places
  length-own_room places sends =
      length-map (enumerate_from 0 (replicate places unit)) (λ p. fold_of join p.1 (sent_there sends p.0))
      ∙ length-enumerate_from 0 (replicate places unit) ∙ length-replicate places unit

  pub known : (places : ℕ) (own left : Block Item Item) → Made places own left → Known places own left
  known places own left made =
      let begun = replicate places unit in
      let given = own_given places _ own.own left.own made.0 in
      let may = owns places (length own.elements) (length own.index) (length own.own) (combine_of join own.elements own.index begun) (take places left.own) given in
      let both = combine_given join own.elements own.index begun (take places left.own) may.1 in
      record {
        as_many = may.0.as_many;
        inside = ap (λ n. first_outside 0 n own.index) (sym (length-replicate places unit)) ∙ both.0;
        long = omega (arith, length-take places left.own, ap length (sym both.1) ∙ length-own_room places (sends_of own));
        room = sym both.1;
      }

  -- a share is joined with the rooms
  abbrev pub Joins : List ℕ → List Item → Share Item → Share Item → Type 0
  Joins boundaries memory own left =
      ((status : CvlStatus) × Told (joined_share_of join own.from boundaries memory own.room) status own.room left.room) × RoomAlone own left

  module _ (boundaries : List ℕ) (memory : List Item) (start made : List (Block Item Item)) (before after : List (Share Item))
      (items : AllPass is_item (elements_of start)) (was : AllPass is_item (room_of before)) (begin : BeginAt 0 before)
      (mades : AllZip (Made (length (room_of before))) start made) (has : HaveMemory boundaries memory made) (joins : AllZip (Joins boundaries memory) before after) where
    abbrev pub places : ℕ
    places = length (room_of before)

    abbrev pub blocks : List (List (ℤ × Item))
    blocks = map sends_of start

    abbrev pub own_rooms : List (List Item)
    own_rooms = map (own_room join unit 0 places) blocks

    pub as_many : All (λ b. length b.elements ≡ length b.index) start
    as_many = left_of_each (λ own left does. (known places own left does).as_many) start made mades

    pub none_outside : first_outside 0 places (index_of start) ≡ None
    none_outside =
        (outside-rooms (map (λ b. b.index) start) places).1
        (All-map (λ index. first_outside 0 places index ≡ None) (λ (b : Block Item Item). b.index) start
        (left_of_each (λ own left does. (known places own left does).inside) start made mades))

    pub long : All (λ own. places ≤ length own) (map (λ b. b.own) made)
    long =
        All-map (λ own. places ≤ length own) (λ (b : Block Item Item). b.own) made
        (keeps (Made places) (λ b. Unit {0}) (λ b. places ≤ length b.own) (λ own left does none. (known places own left does).long) start made mades (λ k d lt. tt))

    pub rooms_made : map (take places) (map (λ b. b.own) made) ≡ own_rooms
    rooms_made =
        map-map (take places) (λ (b : Block Item Item). b.own) made
        ∙ alike (Made places) (λ b. own_room join unit 0 places (sends_of b)) (λ b. take places b.own) (λ own left does. (known places own left does).room) start made mades
        ∙ sym (map-map (own_room join unit 0 places) sends_of start)

    written : map (λ s. s.room) after ≡ map (λ s. with_rooms join s.room (places_of_share join s own_rooms)) before
    written =
        alike_where (Joins boundaries memory) (λ s. s.from + length s.room ≤ 0 + places) (λ s. with_rooms join s.room (places_of_share join s own_rooms)) (λ s. s.room)
        (λ own left does fits.
        let found = known_shares places memory boundaries (map (λ b. b.own) made) own_rooms has.0 has.1 long rooms_made own.from (length own.room) (omega (arith, fits)) in
        join_told join boundaries memory own.from own.room own.room left.room does.0.0 found.0 does.0.1 ∙ ap (with_rooms join own.room) found.1)
        before after joins (shares_within before 0 begin)

    pub joined_all : room_of after ≡ combined join (zip (index_of start) (elements_of start)) 0 (room_of before)
    joined_all =
        let each : All (λ room. places ≡ length room) own_rooms =
        All-map (λ room. places ≡ length room) (own_room join unit 0 places) blocks (λ k d lt. sym (length-own_room places (get_or blocks k d))) in
        let own_items : All (AllPass (λ p. is_item p.1)) blocks =
        All-map (AllPass (λ p. is_item p.1)) sends_of start
        (items_of_each is_item start (all-parts (λ b. b.elements) (λ x. is_item x ≡ true) start items)) in
        ap joined written ∙ shares_joined join (λ s. s.room) (λ s. refl) before own_rooms begin each
        ∙ sym (joined-rooms laws blocks 0 (room_of before) own_items was)
        ∙ ap (λ sends. combined join sends 0 (room_of before)) (sends-joined start as_many)

-- ---- by an operator that may be none

module _ {Operator Item : Type 0} {is_item : Item → Bool} (unit : Operator → Item) (join : Operator → Item → Item → Item)
    (laws : (o : Operator) → MonoidLaws is_item (unit o) (join o)) where
  abbrev MakesOwnBy : Result Operator Fault → ℕ → Block Item Item → Block Item Item → Type 0
  MakesOwnBy operator places own left =
      OwnTold places (by_operator operator (λ o. own_room_of (join o) (unit o) places (length own.own) own.elements own.index)) done own.own left.own × OwnAlone own left

  abbrev JoinsBy : Result Operator Fault → List ℕ → List Item → Share Item → Share Item → Type 0
  JoinsBy operator boundaries memory own left =
      ((status : CvlStatus) × Told (by_operator operator (λ o. joined_share_of (join o) own.from boundaries memory own.room)) status own.room left.room) × RoomAlone own left

  abbrev whole : Result Operator Fault → List Item → List ℤ → List Item → Result (List Item) Fault
  whole operator source index before = by_operator operator (λ o. in_limit index (in_limit before (combine_of (join o) source index before)))

  -- the whole call, if no index is out of range
  pub whole-given : (o : Operator) (source : List Item) (index : List ℤ) (before : List Item) → length source ≡ length index → length index ≤ most_places
      → length before ≤ most_places → first_outside 0 (length before) index ≡ None → whole (Ok o) source index before ≡ Ok (combined (join o) (zip index source) 0 before)
  whole-given o source index before agree few few_places inside =
      within index _ few ∙ within before _ few_places ∙ if_as_long-fits source index _ agree
      ∙ ap (λ f. unless f (Ok (combined (join o) (zip index source) 0 before))) inside

  pub by_rooms : (operator : Result Operator Fault) (boundaries : List ℕ) (memory : List Item) (start made : List (Block Item Item)) (before after : List (Share Item))
      → 0 < length start → AllPass is_item (elements_of start) → AllPass is_item (room_of before) → length (index_of start) ≤ most_places
      → length (room_of before) ≤ most_places → BeginAt 0 before → AllZip (MakesOwnBy operator (length (room_of before))) start made → HaveMemory boundaries memory made
      → AllZip (JoinsBy operator boundaries memory) before after
      → Told (whole operator (elements_of start) (index_of start) (room_of before)) done (room_of before) (room_of after)
  by_rooms (Err f) boundaries memory [] made before after some items was few few_places begin mades has joins = absurd (omega (arith, some))
  by_rooms (Err f) boundaries memory (b ∷ start) [] before after some items was few few_places begin mades has joins = absurd mades
  by_rooms (Err f) boundaries memory (b ∷ start) (m ∷ made) before after some items was few few_places begin mades has joins =
      absurd (numbered f.number (sym (ap (λ (s : CvlStatus). s.number) mades.0.0.0)))
  by_rooms (Ok o) boundaries memory start made before after some items was few few_places begin mades has joins =
      let many = as_many (laws o) boundaries memory start made before after items was begin mades has joins in
      let long : length (elements_of start) ≡ length (index_of start) = as-long (λ b. b.index) (λ b. b.elements) start many in
      let all = joined_all (laws o) boundaries memory start made before after items was begin mades has joins in
      let inside = none_outside (laws o) boundaries memory start made before after items was begin mades has joins in
      subst (λ m. Told m done (room_of before) (room_of after))
      (sym (whole-given o (elements_of start) (index_of start) (room_of before) long few few_places inside)) (refl, all)
