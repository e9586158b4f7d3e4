-- A whole in parts: its items are those of the parts, and the first without a value is the first of the parts' first ones.
use Rattle.std.proofs.Common.{◌≡◌, ℕ, ◌+◌, List, [], ◌∷◌, ◌++◌, length, refl, ap, sym, ◌∙◌, subst, arith, append_assoc, Option, Some, None}
use Rattle.std.specs.List.{flat_map}
use Rattle.std.specs.Option.{option_or}
use Rattle.std.proofs.lemmas.List.{append-nil}
use Rattle.fresh.specs.Counted.{found_in}
use Rattle.value_texts.specs.Parts.{AreCutInTurn, AreParts}

or_none : (o : Option ℕ) → option_or o None ≡ o
or_none None = refl
or_none (Some place) = refl

module _ {P X : Type 0} (items : P → List X) (found : P → ℕ → Option ℕ) where
  pub whole_alone : (whole : P) → AreParts items found ([] ++ whole ∷ []) whole
  whole_alone whole = record { items_are = append-nil (items whole); found_is = λ first. or_none (found whole first) }

  -- the last part is cut in two
  pub one_part_more : (parts : List P) (front others rest whole : P) → items front ++ items others ≡ items rest
      → ((first : ℕ) → option_or (found front first) (found others (first + length (items front))) ≡ found rest first)
      → AreParts items found (parts ++ rest ∷ []) whole → AreParts items found ((parts ++ front ∷ []) ++ others ∷ []) whole
  one_part_more parts front others rest whole cut cut_found are = record {
    items_are = same_items parts ∙ are.items_are;
    found_is = λ first. same_found parts first ∙ are.found_is first;
  }
    where
      same_items : (parts : List P) → flat_map items ((parts ++ front ∷ []) ++ others ∷ []) ≡ flat_map items (parts ++ rest ∷ [])
      same_items [] = sym (append_assoc (items front) (items others) []) ∙ ap (λ l. l ++ []) cut
      same_items (part ∷ parts) = ap (λ l. items part ++ l) (same_items parts)

      same_found : (parts : List P) (first : ℕ) → found_in items found ((parts ++ front ∷ []) ++ others ∷ []) first ≡ found_in items found (parts ++ rest ∷ []) first
      same_found [] first = ap (option_or (found front first)) (or_none (found others (first + length (items front)))) ∙ cut_found first ∙ sym (or_none (found rest first))
      same_found (part ∷ parts) first = ap (option_or (found part first)) (same_found parts (first + length (items part)))

module _ {P : Type 0} (IsCut : P → ℕ → P → P → Type 0) where
  -- a part is cut off before others that were cut in turn
  cut_before : (whole front rest : P) (left : ℕ) (parts : List P) → IsCut whole left front rest → left ≡ length parts + 1 → AreCutInTurn IsCut rest parts → AreCutInTurn IsCut whole (front ∷ parts)
  cut_before whole front rest left [] cut long are = absurd are
  cut_before whole front rest left (next ∷ parts) cut long are = (rest, subst (λ n. IsCut whole n front rest) (omega (arith, long)) cut, are)

  -- so it is one more of those before them
  pub one_cut_more : (whole front rest others : P) (left : ℕ) (parts : List P) → IsCut rest left front others
      → ((more : List P) → length more ≡ left → AreCutInTurn IsCut rest more → AreCutInTurn IsCut whole (parts ++ more))
      → (more : List P) → length more + 1 ≡ left → AreCutInTurn IsCut others more → AreCutInTurn IsCut whole ((parts ++ front ∷ []) ++ more)
  one_cut_more whole front rest others left parts cut so_far more long are =
      subst (AreCutInTurn IsCut whole) (sym (append_assoc parts (front ∷ []) more))
      (so_far (front ∷ more) (omega (arith, long)) (cut_before rest front others left more cut (omega (arith, long)) are))
