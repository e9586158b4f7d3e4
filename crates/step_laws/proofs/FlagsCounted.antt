-- True flags that the parts count in their shares.
use Rattle.std.proofs.Common.{◌≡◌, ◌≢◌, ◌≤◌, ◌∙◌, ℕ, ℤ, pos, List, length, map, sum, unsigned_abs, Ok, sym, ap, arith, subst}
use mathlib.Core.List.{map-map}
use Rattle.std.proofs.lemmas.List.{length-map}
use Rattle.std.specs.List.{AllZip}
use Rattle.cvl_base.proofs.Descriptors.{abs_pos}
use Rattle.cvl_base.specs.Descriptors.{descriptor_within}
use Rattle.cvl_base.specs.Gives.{◌>>=◌}
use Rattle.cvl_base.specs.Limits.{most_places}
use Rattle.cvl_base.specs.Packs.{count_of}
use Rattle.segdes.proofs.Checked.{lengths_made}
use Rattle.c_calls.specs.Calls.{lengths_of}
use Rattle.c_calls.specs.Told.{Told, done}
use Rattle.c_calls.specs.declared.status.CvlStatus.{CvlStatus}
use Rattle.flag_calls.specs.Flags.{flags_of}
use Rattle.permute_parts.specs.Counts.{all_flagged_of, all_sent_of, trues_fit_of}
use Rattle.step_laws.proofs.Answered.{is_given, past_limit, within}
use Rattle.step_laws.proofs.Counted.{counted-parts, no-more}
use Rattle.step_laws.proofs.Parted.{alike}
use Rattle.step_laws.proofs.RangesMade.{adds_up, adds_up_else}
use Rattle.step_laws.specs.CountSteps.{Counts}
use Rattle.step_laws.specs.Parts.{Part, elements_of, told_of}

module _ (shares counted : List (Part ℕ ℤ ℤ)) (few : length (elements_of shares) ≤ most_places) (few_parts : length shares ≤ most_places) (counts : AllZip Counts shares counted) where
  abbrev trues : List ℕ
  trues = map (λ p. count_of (flags_of p.elements)) shares

  told-trues : told_of counted ≡ map pos trues
  told-trues =
      alike Counts (λ (p : Part ℕ ℤ ℤ). pos (count_of (flags_of p.elements))) (λ (p : Part ℕ ℤ ℤ). p.told)
      (λ own left does. sym (past_limit _ _ (pos (count_of (flags_of own.elements))) left.told (is_given _ own.told left.told does.0)))
      shares counted counts
      ∙ sym (map-map pos (λ (p : Part ℕ ℤ ℤ). count_of (flags_of p.elements)) shares)

  total-trues : sum trues ≡ count_of (flags_of (elements_of shares))
  total-trues =
      ap sum (sym (map-map (λ bytes. count_of (flags_of bytes)) (λ (p : Part ℕ ℤ ℤ). p.elements) shares))
      ∙ sym (counted-parts (map (λ (p : Part ℕ ℤ ℤ). p.elements) shares))

  -- their counts are those of a vector's parts
  read-trues : lengths_of (told_of counted) ≡ Ok trues
  read-trues =
      let zs = map pos trues in
      let parts : length zs ≡ length shares = length-map trues pos ∙ length-map shares (λ (p : Part ℕ ℤ ℤ). count_of (flags_of p.elements)) in
      let small : sum (map unsigned_abs zs) ≤ most_places = omega (arith, ap sum (abs_pos trues), total-trues, no-more (elements_of shares), few) in
      ap lengths_of told-trues
      ∙ within zs (descriptor_within most_places zs) (omega (arith, parts, few_parts))
      ∙ lengths_made most_places zs (ap (map pos) (sym (abs_pos trues))) small ∙ ap Ok (abs_pos trues)

  -- a check of the room says whether it has as many places
  pub trues-fit : (room : ℕ) → Told (trues_fit_of (told_of counted) room) done tt tt → count_of (flags_of (elements_of shares)) ≡ room
  trues-fit room told =
      sym total-trues ∙ adds_up trues room (subst (λ m. Told m done tt tt) (ap (λ r. r >>= λ ns. all_sent_of ns room) read-trues) told)

  pub trues-misfit : (room : ℕ) (status : CvlStatus) → Told (trues_fit_of (told_of counted) room) status tt tt → status ≢ done
      → count_of (flags_of (elements_of shares)) ≢ room
  trues-misfit room status told other same =
      adds_up_else trues room status (subst (λ m. Told m status tt tt) (ap (λ r. r >>= λ ns. all_sent_of ns room) read-trues) told) other (total-trues ∙ same)

  -- a last check of the parts' counts is one against this number
  pub all-flagged : (ns : List ℕ) (status : CvlStatus) → Told (all_flagged_of ns (told_of counted)) status tt tt
      → Told (all_sent_of ns (count_of (flags_of (elements_of shares)))) status tt tt
  all-flagged ns status told =
      subst (λ m. Told m status tt tt) (ap (λ r. r >>= λ flagged. all_sent_of ns (sum flagged)) read-trues ∙ ap (all_sent_of ns) total-trues) told
