-- What goes on behind each part: how many values there are, and the step of a loop that writes them, from the last part on.
use Rattle.std.proofs.Common.{◌≡◌, ◌+◌, ◌<◌, ◌∙◌, ℕ, suc, Bool, false, List, [], ◌∷◌, length, drop, get_or, zip, refl, sym, ap, arith, if◌then◌else◌, set}
use Rattle.std.proofs.lemmas.List.{drop-set, drop_more}
use Rattle.std.proofs.lemmas.Slice.Zip.{get_or-zip, length-zip}
use Rattle.segment_parts.specs.Behinds.{behind_each, goes_on}

module _ {Item : Type 0} (join : Item → Item → Item) (unit : Item) where
  pub length-behind_each : (parts : List (Bool × Item)) → length (behind_each join unit parts) ≡ length parts
  length-behind_each [] = refl
  length-behind_each (part ∷ parts) = ap suc (length-behind_each parts)

  module _ (starts : List Bool) (told : List Item) (k : ℕ) (in_starts : k < length starts) (in_told : k < length told) where
    -- the part, and those behind it
    from_part : (x : Item) → drop k (zip starts told) ≡ (get_or starts k false, get_or told k x) ∷ drop (k + 1) (zip starts told)
    from_part x =
        let within : k < length (zip starts told) = omega (arith, length-zip starts told) in
        drop_more (zip starts told) k (false, x) within ∙ ap (λ p. p ∷ drop (k + 1) (zip starts told)) (get_or-zip starts told k (false, x) in_starts in_told)

    module _ (behind : Item) (is : behind ≡ goes_on join unit (drop (k + 1) (zip starts told))) where
      -- what goes on where it begins
      pub goes_on_before : (x next : Item) → x ≡ get_or told k x → next ≡ (if get_or starts k false then x else join x behind)
          → next ≡ goes_on join unit (drop k (zip starts told))
      goes_on_before x next read is_next =
          is_next ∙ (λ i. if get_or starts k false then read i else join (read i) (is i)) ∙ sym (ap (goes_on join unit) (from_part x))

      -- and what is written
      pub written_before : (out : List Item) → k < length out → drop (k + 1) out ≡ behind_each join unit (drop (k + 1) (zip starts told))
          → drop k (set out k behind) ≡ behind_each join unit (drop k (zip starts told))
      written_before out in_out so_far =
          drop-set out k behind in_out ∙ (λ i. is i ∷ so_far i) ∙ sym (ap (behind_each join unit) (from_part behind))
