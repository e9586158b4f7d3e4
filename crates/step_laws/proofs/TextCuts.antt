-- The parts of a text that is cut at white space.
use Rattle.std.proofs.Common.{◌≡◌, ◌∙◌, ◌-◌, ◌≤◌, ◌⊎◌, ℕ, zero, suc, IsTrue, List, [], ◌∷◌, ◌++◌, All, drop, get_or, length, take, ap, arith, inl, inr, refl, sym}
use Rattle.std.specs.Prelude.{Bool, true, if◌then◌else◌}
use Rattle.std.proofs.lemmas.Bool.{cases_lt}
use Rattle.std.proofs.lemmas.List.{at_drop_all, at_drop_more, drop-drop, take-append-drop}
use Rattle.std.proofs.lemmas.List.Elements.{All-cons, All-nil}
use Rattle.call_reader.specs.Inputs.{input_class, is_white_space}
use Rattle.cvl_base.specs.Lists.{joined}
use Rattle.line_reader.specs.declared.token.ByteClass.TheVariants.{Blank, InToken}
use Rattle.line_reader.specs.Tokens.{begins_with_blank, is_blank}
use Rattle.part_cuts.specs.White.{IsCutAtWhite}
use Rattle.step_laws.specs.PackSteps.{ranges_of, ranges_on}
use Rattle.step_laws.specs.TextParts.{AreCutAtWhite, BeginsAtWhite}

blank : (white : Bool) → white ≡ true → is_blank (if white then Blank else InToken) ≡ true
blank white is = ap (λ w. is_blank (if w then Blank else InToken)) is

nothing : (n : ℕ) → take {A = ℕ} n [] ≡ []
nothing zero = refl
nothing (suc n) = refl

-- what a text has from its end on is nothing, and from white space on begins there
begins : (text : List ℕ) (from n : ℕ) → (from ≡ length text) ⊎ IsTrue (is_white_space (get_or text from 0)) → BeginsAtWhite (take n (drop from text))
begins text from zero (inl ends) some = absurd (some refl)
begins text from zero (inr white) some = absurd (some refl)
begins text from (suc n) (inl ends) some = absurd (some (at_drop_all (take (suc n)) text from (omega (arith, ends)) ∙ nothing (suc n)))
begins text from (suc n) (inr white) some =
    elim (cases_lt from (length text)) [
      | inl inside ↦ at_drop_more (λ bytes. begins_with_blank input_class (take (suc n) bytes)) text from 0 inside ∙ blank (is_white_space (get_or text from 0)) white
      | inr behind ↦ absurd (some (at_drop_all (take (suc n)) text from behind ∙ nothing (suc n)))
    ]

-- so does each range from one of these places
ranges_begin : (text : List ℕ) (from : ℕ) (places : List ℕ)
    → ((k : ℕ) → k ≤ length places → (get_or (from ∷ places) k 0 ≡ length text) ⊎ IsTrue (is_white_space (get_or text (get_or (from ∷ places) k 0) 0)))
    → All BeginsAtWhite (ranges_on from places text)
ranges_begin text from [] each = All-nil BeginsAtWhite
ranges_begin text from (to ∷ places) each =
    All-cons BeginsAtWhite (take (to - from) (drop from text)) (ranges_on to places text) (begins text from (to - from) (each zero (omega arith)))
    (ranges_begin text to places (λ k within. each (suc k) (omega (arith, within))))

-- the ranges between places that ascend to the text's end are the text from the first place on
ranges_join : (text : List ℕ) (from : ℕ) (places : List ℕ)
    → ((i j : ℕ) → i ≤ j → j ≤ length places → get_or (from ∷ places) i 0 ≤ get_or (from ∷ places) j 0)
    → get_or (from ∷ places) (length places) 0 ≡ length text → joined (ranges_on from places text) ≡ drop from text
ranges_join text from [] ascends ends = sym (at_drop_all (λ bytes. bytes) text from (omega (arith, ends)))
ranges_join text from (to ∷ places) ascends ends =
    let le : from ≤ to = ascends zero (suc zero) (omega arith) (omega arith) in
    ap (λ bytes. take (to - from) (drop from text) ++ bytes)
    (ranges_join text to places (λ i j before within. ascends (suc i) (suc j) (omega (arith, before)) (omega (arith, within))) ends
    ∙ ap (λ n. drop n text) (omega (arith, le)) ∙ sym (drop-drop (to - from) from text))
    ∙ take-append-drop (to - from) (drop from text)

pub cut_at_white : (text places : List ℕ) → IsCutAtWhite text places → AreCutAtWhite (ranges_of places text)
cut_at_white text [] cut = tt
cut_at_white text (from ∷ []) cut = tt
cut_at_white text (from ∷ to ∷ places) cut = ranges_begin text to places (λ k within. cut.at_white (suc k) (omega arith) (omega (arith, within)))

pub cut_whole : (text places : List ℕ) → IsCutAtWhite text places → joined (ranges_of places text) ≡ text
cut_whole text [] cut = sym (at_drop_all (λ bytes. bytes) text 0 (omega (arith, cut.ends)))
cut_whole text (from ∷ places) cut =
    ranges_join text from places (λ i j le within. cut.ascends i j le (omega (arith, within))) (ap (λ k. get_or (from ∷ places) k 0) (omega arith) ∙ cut.ends)
    ∙ ap (λ n. drop n text) cut.begins
