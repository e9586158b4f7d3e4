-- The ranges of a cut, one after another, are the room; and what is joined in each is what the whole is joined to.
use Rattle.std.proofs.Common.{◌≡◌, ◌∙◌, ◌+◌, ◌-◌, ◌<◌, ◌++◌, ◌∷◌, ◌≤◌, ℕ, ℤ, List, [], ap, arith, drop, drop-drop, get_or, length, length-drop, map, refl, subst, suc, sym, take, take-append-drop}
use Rattle.std.proofs.lemmas.List.{drop_all, length-append, length-take-le}
use Rattle.call_laws.proofs.CombinedRanges.{counts-ranges, joined-ranges}
use Rattle.combine_parts.specs.Cuts.{IsCut}
use Rattle.combining_permutes.specs.CombiningPermutes.{combined, place_counts}
use Rattle.cvl_base.specs.Lists.{joined}
use Rattle.step_laws.proofs.RoomShares.{begins, begins_on}
use Rattle.step_laws.specs.CombineParts.{BeginAt, HaveRanges, Share, room_of}
use Rattle.step_laws.specs.PackSteps.{ranges_on}

-- ---- cuts

-- none of them falls
abbrev Ascend : List ℕ → Type 0
Ascend cuts = (k : ℕ) → k + 1 < length cuts → get_or cuts k 0 ≤ get_or cuts (k + 1) 0

behind_first : (from : ℕ) (ends : List ℕ) → Ascend (from ∷ ends) → Ascend ends
behind_first from ends ascend k below =
    let next : suc k + 1 ≡ suc (k + 1) = omega arith in
    let here = ascend (suc k) (omega (arith, below)) in
    let same : get_or (from ∷ ends) (suc k + 1) 0 ≡ get_or ends (k + 1) 0 = ap (λ j. get_or (from ∷ ends) j 0) next in
    omega (arith, here, same)

last_of : List ℕ → ℕ
last_of cuts = get_or cuts (length cuts - 1) 0

unfold_last : (from to : ℕ) (ends : List ℕ) → last_of (from ∷ to ∷ ends) ≡ last_of (to ∷ ends)
unfolding last_of
unfold_last from to ends =
    let more : length (from ∷ to ∷ ends) - 1 ≡ suc (length (to ∷ ends) - 1) = omega arith in
    ap (λ j. get_or (from ∷ to ∷ ends) j 0) more

only_last : (from : ℕ) → last_of (from ∷ []) ≡ from
unfolding last_of
only_last from = refl

first_le : (from to : ℕ) (ends : List ℕ) → Ascend (from ∷ to ∷ ends) → from ≤ to
first_le from to ends ascend =
    let here = ascend 0 (omega arith) in
    let next : get_or (from ∷ to ∷ ends) (0 + 1) 0 ≡ to = refl in
    omega (arith, here, next)

below_last : (from : ℕ) (ends : List ℕ) → Ascend (from ∷ ends) → from ≤ last_of (from ∷ ends)
below_last from [] ascend = omega (arith, only_last from)
below_last from (to ∷ ends) ascend =
    omega (arith, first_le from to ends ascend, below_last to ends (behind_first from (to ∷ ends) ascend), unfold_last from to ends)

module _ {X : Type 0} (room : List X) where
  shares_cut : (from : ℕ) (ends : List ℕ) (shares : List (Share X)) → Ascend (from ∷ ends) → last_of (from ∷ ends) ≡ length room
      → map (λ s. s.from) shares ≡ begins_on from ends → map (λ s. s.room) shares ≡ ranges_on from ends room
      → BeginAt from shares × (room_of shares ≡ drop from room)
  shares_cut from [] [] ascend last begin ranges = (tt, sym (drop_all from room (omega (arith, last, only_last from))))
  shares_cut from [] (s ∷ shares) ascend last begin ranges = let long = ap length begin in absurd (omega (arith, long))
  shares_cut from (to ∷ ends) [] ascend last begin ranges = let long = ap length begin in absurd (omega (arith, long))
  shares_cut from (to ∷ ends) (s ∷ shares) ascend last begin ranges =
      let begun : s.from ∷ map (λ t. t.from) shares ≡ from ∷ begins_on to ends = begin in
      let first : s.from ≡ from = cc in
      let firsts : map (λ t. t.from) shares ≡ begins_on to ends = cc in
      let cut : s.room ∷ map (λ t. t.room) shares ≡ take (to - from) (drop from room) ∷ ranges_on to ends room = ranges in
      let own : s.room ≡ take (to - from) (drop from room) = cc in
      let others : map (λ t. t.room) shares ≡ ranges_on to ends room = cc in
      let later = behind_first from (to ∷ ends) ascend in
      let above : from ≤ to = first_le from to ends ascend in
      let end : to ≤ length room = omega (arith, below_last to ends later, unfold_last from to ends, last) in
      let long : length s.room ≡ to - from = ap length own ∙ length-take-le (to - from) (drop from room) (omega (arith, end, length-drop from room)) in
      let rest = shares_cut to ends shares later (sym (unfold_last from to ends) ∙ last) firsts others in
      let next : from + length s.room ≡ to = omega (arith, long, above) in
      let behind : drop to room ≡ drop (to - from) (drop from room) = ap (λ n. drop n room) (omega (arith, above)) ∙ sym (drop-drop (to - from) from room) in (
        (first, subst (λ n. BeginAt n shares) (sym next) rest.0),
        (λ t. own t ++ (rest.1 ∙ behind) t) ∙ take-append-drop (to - from) (drop from room),
      )

  -- the shares of a cut begin one where the other ends, and are the room
  pub cut_shares : (cuts : List ℕ) (shares : List (Share X)) → 0 < length cuts → IsCut (length room) cuts → HaveRanges cuts room shares
      → BeginAt 0 shares × (room_of shares ≡ room)
  unfolding last_of
  cut_shares [] shares some cut has = absurd (omega (arith, some))
  cut_shares (from ∷ ends) shares some cut has =
      let first : from ≡ 0 = cut.first in
      let both = shares_cut from ends shares cut.ascending cut.last (has.0 ∙ begins from ends) has.1 in
      (subst (λ n. BeginAt n shares) first both.0, both.1 ∙ ap (λ n. drop n room) first)

-- ---- what is joined, and counted

pub ranges_joined : {X : Type 0} (join : X → X → X) (sends : List (ℤ × X)) (shares : List (Share X)) (from : ℕ) → BeginAt from shares
    → joined (map (λ s. combined join sends s.from s.room) shares) ≡ combined join sends from (room_of shares)
ranges_joined join sends [] from begin = refl
ranges_joined join sends (s ∷ shares) from begin =
    (λ t. combined join sends (begin.0 t) s.room ++ ranges_joined join sends shares (from + length s.room) begin.1 t)
    ∙ sym (joined-ranges join sends from s.room (room_of shares))

pub ranges_counted : (index : List ℤ) (shares : List (Share ℤ)) (from : ℕ) → BeginAt from shares
    → joined (map (λ s. place_counts index s.from (length s.room)) shares) ≡ place_counts index from (length (room_of shares))
ranges_counted index [] from begin = refl
ranges_counted index (s ∷ shares) from begin =
    (λ t. place_counts index (begin.0 t) (length s.room) ++ ranges_counted index shares (from + length s.room) begin.1 t)
    ∙ sym (counts-ranges index from (length s.room) (length (room_of shares)))
    ∙ ap (place_counts index from) (sym (length-append s.room (room_of shares)))
