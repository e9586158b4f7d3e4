-- Shares of a room that are joined with the same places of some rooms, one after another, are the whole that is joined with these rooms.
use Rattle.std.proofs.Common.{◌≡◌, ◌∙◌, ◌+◌, ◌-◌, ◌++◌, ◌∷◌, ◌≤◌, ℕ, List, [], All, ap}
use Rattle.std.proofs.Common.{arith, drop, drop-drop, get_or, length, length-append, length-drop, map, map-id, refl, subst, suc, sym, take}
use mathlib.Core.List.{map-map}
use Rattle.std.proofs.lemmas.Bool.{le-leb}
use Rattle.std.proofs.lemmas.List.{drop-take, length-take, length-take-le, take-take}
use Rattle.std.proofs.lemmas.List.Elements.{All-cons, All-head, All-map, All-nil, All-tail}
use Rattle.std.proofs.lemmas.List.Sums.{list_all-from_AllPass}
use Rattle.std.specs.Prelude.{nat_le, true}
use Rattle.combine_parts.specs.RoomJoins.{lie_within, shares_of, starts_of, with_room, with_rooms}
use Rattle.cvl_base.specs.Lists.{joined}
use Rattle.step_laws.proofs.Parted.{as-long}
use Rattle.step_laws.specs.CombineParts.{BeginAt, Share, room_of}
use Rattle.step_laws.specs.PackSteps.{ranges_of, ranges_on}

-- ---- rooms that are joined in two parts

module _ {X : Type 0} (join : X → X → X) where
  with_both : (xs ys room : List X) → length xs + length ys ≡ length room
      → with_room join (xs ++ ys) room ≡ with_room join xs (take (length xs) room) ++ with_room join ys (drop (length xs) room)
  with_both [] ys room long = refl
  with_both (x ∷ xs) ys [] long = absurd (omega (arith, long))
  with_both (x ∷ xs) ys (y ∷ room) long = ap (λ zs. join x y ∷ zs) (with_both xs ys room (omega (arith, long)))

  with_long : (xs room : List X) → length room ≡ length xs → length (with_room join xs room) ≡ length xs
  with_long [] room long = refl
  with_long (x ∷ xs) [] long = absurd (omega (arith, long))
  with_long (x ∷ xs) (y ∷ room) long = ap suc (with_long xs room (omega (arith, long)))

  rooms_both : (rooms : List (List X)) (xs ys : List X) → All (λ room. length xs + length ys ≡ length room) rooms
      → with_rooms join (xs ++ ys) rooms ≡ with_rooms join xs (map (take (length xs)) rooms) ++ with_rooms join ys (map (drop (length xs)) rooms)
  rooms_both [] xs ys long = refl
  rooms_both (room ∷ rooms) xs ys long =
      let own = All-head (λ r. length xs + length ys ≡ length r) room rooms long in
      let others = All-tail (λ r. length xs + length ys ≡ length r) room rooms long in
      let front = with_room join xs (take (length xs) room) in
      let back = with_room join ys (drop (length xs) room) in
      let front_long : length front ≡ length xs = with_long xs (take (length xs) room) (length-take-le (length xs) room (omega (arith, own))) in
      let back_long : length back ≡ length ys = with_long ys (drop (length xs) room) (omega (arith, own, length-drop (length xs) room)) in
      ap (λ zs. with_rooms join zs rooms) (with_both xs ys room own)
      ∙ rooms_both rooms front back (λ k d lt. let at = others k d lt in omega (arith, at, front_long, back_long))
      ∙ ap (λ n. with_rooms join front (map (take n) rooms) ++ with_rooms join back (map (drop n) rooms)) front_long

  no_places : (rooms : List (List X)) → with_rooms join [] rooms ≡ []
  no_places [] = refl
  no_places (room ∷ rooms) = no_places rooms

  -- the same places of a share, of all rooms
  abbrev pub places_of_share : Share X → List (List X) → List (List X)
  places_of_share s rooms = map (λ room. take (length s.room) (drop s.from room)) rooms

  -- shares may begin with something else that is as long
  module _ (base : Share X → List X) (base_long : (s : Share X) → length (base s) ≡ length s.room) where
    shares_from : (shares : List (Share X)) (from : ℕ) (rooms : List (List X)) → BeginAt from shares → All (λ room. from + length (room_of shares) ≡ length room) rooms
        → joined (map (λ s. with_rooms join (base s) (places_of_share s rooms)) shares) ≡ with_rooms join (joined (map base shares)) (map (drop from) rooms)
    shares_from [] from rooms begin long = sym (no_places (map (drop from) rooms))
    shares_from (s ∷ shares) from rooms begin long =
        let n = length s.room in
        let own = base s in
        let rest = joined (map base shares) in
        let others_room = room_of shares in
        let own_long : length own ≡ n = base_long s in
        let rest_long : length rest ≡ length others_room = as-long (λ t. t.room) base shares (λ k d lt. base_long (get_or shares k d)) in
        let whole : length (s.room ++ others_room) ≡ n + length others_room = length-append s.room others_room in
        let others = shares_from shares (from + n) rooms begin.1 (λ k d lt. let at = long k d lt in omega (arith, at, whole)) in
        let here : with_rooms join own (places_of_share s rooms) ≡ with_rooms join own (map (take (length own)) (map (drop from) rooms)) =
        ap (λ f. with_rooms join own (map (λ room. take n (drop f room)) rooms)) begin.0
        ∙ ap (with_rooms join own) (sym (map-map (take n) (drop from) rooms) ∙ ap (λ m. map (take m) (map (drop from) rooms)) (sym own_long)) in
        let behind : with_rooms join rest (map (drop (from + n)) rooms) ≡ with_rooms join rest (map (drop (length own)) (map (drop from) rooms)) =
        ap (with_rooms join rest)
        ((λ t. map (λ (room : List X). sym (drop-drop n from room) t) rooms) ∙ sym (map-map (drop n) (drop from) rooms)
        ∙ ap (λ m. map (drop m) (map (drop from) rooms)) (sym own_long)) in
        ap (λ zs. zs ++ joined (map (λ s. with_rooms join (base s) (places_of_share s rooms)) shares)) here
        ∙ ap (λ zs. with_rooms join own (map (take (length own)) (map (drop from) rooms)) ++ zs) (others ∙ behind)
        ∙ sym (rooms_both (map (drop from) rooms) own rest
        (All-map (λ room. length own + length rest ≡ length room) (drop from) rooms
        (λ k d lt. let at = long k d lt in omega (arith, at, whole, own_long, rest_long, length-drop from (get_or rooms k d)))))

    pub shares_joined : (shares : List (Share X)) (rooms : List (List X)) → BeginAt 0 shares → All (λ room. length (room_of shares) ≡ length room) rooms
        → joined (map (λ s. with_rooms join (base s) (places_of_share s rooms)) shares) ≡ with_rooms join (joined (map base shares)) rooms
    shares_joined shares rooms begin long =
        shares_from shares 0 rooms begin (λ k d lt. let at = long k d lt in omega (arith, at)) ∙ ap (with_rooms join (joined (map base shares))) (map-id rooms)

-- ---- where shares lie

module _ {X : Type 0} where
  pub shares_within : (shares : List (Share X)) (from : ℕ) → BeginAt from shares → All (λ s. s.from + length s.room ≤ from + length (room_of shares)) shares
  shares_within [] from begin = All-nil (λ s. s.from + length s.room ≤ from + length (room_of {Y = X} []))
  shares_within (s ∷ shares) from begin =
      let whole = length-append s.room (room_of shares) in
      let others = shares_within shares (from + length s.room) begin.1 in
      All-cons (λ t. t.from + length t.room ≤ from + length (room_of (s ∷ shares))) s shares (omega (arith, begin.0, whole))
      (λ k d lt. let at = others k d lt in omega (arith, at, whole))

-- ---- the rooms in the memory of all parts

-- where ranges begin
abbrev pub begins_on : ℕ → List ℕ → List ℕ
begins_on from [] = []
begins_on from (to ∷ ends) = from ∷ begins_on to ends

pub begins : (from : ℕ) (ends : List ℕ) → starts_of (from ∷ ends) ≡ begins_on from ends
begins from [] = refl
begins from (to ∷ ends) =
    let more : length (from ∷ to ∷ ends) - 1 ≡ suc (length ends) = omega arith in
    let less : length (to ∷ ends) - 1 ≡ length ends = omega arith in
    ap (λ n. take n (from ∷ to ∷ ends)) more ∙ ap (λ starts. from ∷ starts) (ap (λ n. take n (to ∷ ends)) (sym less) ∙ begins to ends)

module _ {X : Type 0} (places : ℕ) (memory : List X) where
  -- the room that begins there
  abbrev pub room_at : ℕ → List X
  room_at start = take places (drop start memory)

  -- places of a room are those of the memory
  pub share_in : (from n start : ℕ) → from + n ≤ places → take n (drop (start + from) memory) ≡ take n (drop from (room_at start))
  share_in from n start within =
      let zs = drop start memory in
      let more = places - from in
      let all : places ≡ from + more = omega (arith, within) in
      ap (take n) (sym (drop-drop from start memory))
      ∙ sym (take-take n more (drop from zs) (omega (arith, within)))
      ∙ ap (take n) (sym (drop-take from more zs) ∙ ap (λ p. drop from (take p zs)) (sym all))

  pub shares_in : (from n : ℕ) (starts : List ℕ) → from + n ≤ places
      → shares_of from n memory starts ≡ map (λ room. take n (drop from room)) (map room_at starts)
  shares_in from n starts within =
      (λ t. map (λ start. share_in from n start within t) starts) ∙ sym (map-map (λ room. take n (drop from room)) room_at starts)

  pub lie_in : (from n : ℕ) (starts : List ℕ) → from + n ≤ places → All (λ start. start + places ≤ length memory) starts → lie_within (length memory) from n starts ≡ true
  lie_in from n starts within all =
      list_all-from_AllPass (λ start. nat_le (start + from + n) (length memory)) starts
      (λ k d lt. let at = all k d lt in le-leb _ (length memory) (omega (arith, at, within)))

  owned_on : (from : ℕ) (ends : List ℕ) → All (λ b. b ≤ length memory) (from ∷ ends) → All (λ own. places ≤ length own) (ranges_on from ends memory)
      → (map (take places) (ranges_on from ends memory) ≡ map room_at (begins_on from ends)) × All (λ start. start + places ≤ length memory) (begins_on from ends)
  owned_on from [] inside long = (refl, All-nil (λ start. start + places ≤ length memory))
  owned_on from (to ∷ ends) inside long =
      let behind = drop from memory in
      let own = take (to - from) behind in
      let own_long : places ≤ length own = All-head (λ zs. places ≤ length zs) own (ranges_on to ends memory) long in
      let cut = length-take (to - from) behind in
      let left = length-drop from memory in
      let here : from ≤ length memory = All-head (λ b. b ≤ length memory) from (to ∷ ends) inside in
      let few : places ≤ to - from = omega (arith, own_long, cut) in
      let fits : from + places ≤ length memory = omega (arith, own_long, cut, left, here) in
      let others = owned_on to ends (All-tail (λ b. b ≤ length memory) from (to ∷ ends) inside) (All-tail (λ zs. places ≤ length zs) own (ranges_on to ends memory) long) in (
        ap (λ room. room ∷ map (take places) (ranges_on to ends memory)) (take-take places (to - from) behind few) ∙ ap (λ rooms. room_at from ∷ rooms) others.0,
        All-cons (λ start. start + places ≤ length memory) from (begins_on to ends) fits others.1,
      )

  pub owned : (boundaries : List ℕ) → All (λ b. b ≤ length memory) boundaries → All (λ own. places ≤ length own) (ranges_of boundaries memory)
      → (map (take places) (ranges_of boundaries memory) ≡ map room_at (starts_of boundaries)) × All (λ start. start + places ≤ length memory) (starts_of boundaries)
  owned [] inside long = (refl, All-nil (λ start. start + places ≤ length memory))
  owned (from ∷ ends) inside long =
      subst (λ starts. (map (take places) (ranges_on from ends memory) ≡ map room_at starts) × All (λ start. start + places ≤ length memory) starts)
      (sym (begins from ends)) (owned_on from ends inside long)

-- what shares find in the memory of the parts that have made these rooms
pub known_shares : {X : Type 0} (places : ℕ) (memory : List X) (boundaries : List ℕ) (owns rooms : List (List X)) → All (λ b. b ≤ length memory) boundaries
    → owns ≡ ranges_of boundaries memory → All (λ own. places ≤ length own) owns → map (take places) owns ≡ rooms → (from n : ℕ) → from + n ≤ places
    → (lie_within (length memory) from n (starts_of boundaries) ≡ true) × (shares_of from n memory (starts_of boundaries) ≡ map (λ room. take n (drop from room)) rooms)
known_shares places memory boundaries owns rooms inside ranges long are from n within =
    let found = owned places memory boundaries inside (subst (All (λ own. places ≤ length own)) ranges long) in
    let made : map (room_at places memory) (starts_of boundaries) ≡ rooms = sym found.0 ∙ ap (map (take places)) (sym ranges) ∙ are in (
      lie_in places memory from n (starts_of boundaries) within found.1,
      shares_in places memory from n (starts_of boundaries) within ∙ ap (map (λ room. take n (drop from room))) made,
    )
