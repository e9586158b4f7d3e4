-- A back permute in one walk, block by block: the elements of a block none of whose indices is outside, and what is left to take.
use Rattle.permute_walks.proofs.Cited.{◌≡◌, ◌∙◌, ℕ, ◌+◌, ◌-◌, ◌≤◌, List, [], ◌∷◌, ◌++◌, length, map, refl, sym, ap, arith, true, false≢true, ℤ, is_some, Option, Some, None, unwrap_or}
use Rattle.permute_walks.proofs.Cited.{option_or, cons_option, length-append, length-map, map-append, All-head, All-tail, first_without}
use Rattle.permute_walks.proofs.Cited.{first_of_both, Stretch, with_items, element_at, is_place, AreInside, elements_at, each_or}
use Rattle.fresh.proofs.Written.{nothing_written, written_twice}
use Rattle.permute_walks.proofs.Outside.{tells}

module _ {X : Type 0} (source : List X) (other : X) where
  abbrev value : ℤ → Option X
  value = element_at source

  taken_on : (v : Option X) (xs ys : List X) → is_some v ≡ true → xs ≡ ys → cons_option v xs ≡ unwrap_or v other ∷ ys
  taken_on (Some x) xs ys some same = ap (λ zs. x ∷ zs) same
  taken_on None xs ys some same = absurd (false≢true some)

  -- where each index is inside, all that is written is their elements
  pub each_inside : (index : List ℤ) → AreInside (length source) index → elements_at source index ≡ each_or other (map value index)
  each_inside [] inside = refl
  each_inside (i ∷ index) inside =
      let inside_i = All-head (λ j. is_place (length source) j ≡ true) i index inside in
      let inside_others = All-tail (λ j. is_place (length source) j ≡ true) i index inside in
      taken_on (value i) (elements_at source index) (each_or other (map value index)) (tells source i ∙ inside_i) (each_inside index inside_others)

  found_on : (place : ℕ) (v : Option X) (vs : List (Option X)) → is_some v ≡ true → None ≡ first_without (place + 1) vs → None ≡ first_without place (v ∷ vs)
  found_on place (Some x) vs some none = none
  found_on place None vs some none = absurd (false≢true some)

  -- and none takes nothing
  pub none_missing : (place : ℕ) (index : List ℤ) → AreInside (length source) index → None ≡ first_without place (map value index)
  none_missing place [] inside = refl
  none_missing place (i ∷ index) inside =
      let inside_i = All-head (λ j. is_place (length source) j ≡ true) i index inside in
      let inside_others = All-tail (λ j. is_place (length source) j ≡ true) i index inside in
      found_on place (value i) (map value index) (tells source i ∙ inside_i) (none_missing (place + 1) index inside_others)

  -- ---- how far the blocks are

  length-taken : (index : List ℤ) → length (each_or other (map value index)) ≡ length index
  length-taken index = length-map (map value index) (λ v. unwrap_or v other) ∙ length-map index value

  -- what is left makes the run whole, and finds the first index that takes nothing
  pub record IsLeft (index : List ℤ) (begun : Stretch X) (rest : List ℤ) (run : Stretch X) (found : Option ℕ) : Type 0 where
    pub written : with_items run (each_or other (map value rest)) ≡ with_items begun (each_or other (map value index))
    pub missing : option_or found (first_without (run.first + length run.items) (map value rest)) ≡ first_without (begun.first + length begun.items) (map value index)
    pub fits : length rest ≤ run.room

  module _ (index : List ℤ) (begun : Stretch X) where
    pub all_left : length index ≤ begun.room → IsLeft index begun index begun None
    all_left within = record { written = refl; missing = refl; fits = within }

    module _ (rest block others : List ℤ) (run next : Stretch X) (found here now : Option ℕ) (left : IsLeft index begun rest run found) (cut : rest ≡ block ++ others)
        (taken : next ≡ with_items run (each_or other (map value block))) (told : here ≡ first_without (run.first + length run.items) (map value block)) (either : now ≡ option_or found here) where
      first : next.first ≡ run.first
      first = ap (λ (s : Stretch X). s.first) taken

      items : length next.items ≡ length run.items + length block
      items = ap (λ (s : Stretch X). length s.items) taken ∙ length-append run.items _ ∙ ap (λ n. length run.items + n) (length-taken block)

      room : next.room ≡ run.room - length block
      room = ap (λ (s : Stretch X). s.room) taken ∙ ap (λ n. run.room - n) (length-taken block)

      long : length rest ≡ length block + length others
      long = ap length cut ∙ length-append block others

      pub one_less : IsLeft index begun others next now
      one_less = record {
        written = ap (λ s. with_items s (each_or other (map value others))) taken
            ∙ written_twice run (each_or other (map value block)) (each_or other (map value others))
            ∙ ap (with_items run) (sym (map-append (λ v. unwrap_or v other) (map value block) (map value others)) ∙ ap (each_or other) (sym (map-append value block others) ∙ ap (map value) (sym cut)))
            ∙ left.written;
        missing = found_now;
        fits = omega (arith, left.fits, room, long);
      }
        where
          or_again : (a b c : Option ℕ) → option_or (option_or a b) c ≡ option_or a (option_or b c)
          or_again None b c = refl
          or_again (Some x) b c = refl

          start : next.first + length next.items ≡ run.first + length run.items + length (map value block)
          start = omega (arith, first, items, length-map block value)

          found_now : option_or now (first_without (next.first + length next.items) (map value others)) ≡ first_without (begun.first + length begun.items) (map value index)
          found_now =
              ap (λ o. option_or o (first_without (next.first + length next.items) (map value others))) (either ∙ ap (option_or found) told)
              ∙ ap (λ p. option_or (option_or found (first_without (run.first + length run.items) (map value block))) (first_without p (map value others))) start
              ∙ or_again found _ _
              ∙ ap (option_or found) (sym (first_of_both (run.first + length run.items) (map value block) (map value others))
              ∙ ap (first_without (run.first + length run.items)) (sym (map-append value block others) ∙ ap (map value) (sym cut)))
              ∙ left.missing

    module _ (run : Stretch X) (found : Option ℕ) (left : IsLeft index begun [] run found) where
      pub taken_all : run ≡ with_items begun (each_or other (map value index))
      taken_all = sym (nothing_written run) ∙ left.written

      or_none : (o : Option ℕ) → o ≡ option_or o None
      or_none None = refl
      or_none (Some x) = refl

      pub found_all : found ≡ first_without (begun.first + length begun.items) (map value index)
      found_all = or_none found ∙ left.missing
