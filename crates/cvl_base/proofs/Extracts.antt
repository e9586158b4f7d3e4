-- What an extract and a replace give where an index names a place of the list, and where it names none.
use Rattle.std.proofs.Common.{◌≡◌, ◌∙◌, ℕ, ◌+◌, ◌<◌, ◌≤◌, ℤ, pos, negsuc, List, length, get_or, set, refl, ap, Some, None, Ok, Err}
use Rattle.std.specs.Prelude.{if◌then◌else◌}
use Rattle.std.specs.Option.{ok_or}
use Rattle.std.proofs.lemmas.Bool.{lt-ltb, le-ltb}
use Rattle.std.proofs.lemmas.Option.{slice_get_read, slice_get_past}
use Rattle.cvl_base.specs.declared.fault.FaultNo.TheVariants as no
use Rattle.cvl_base.specs.Extracts.{extract_of, replace_of}
use Rattle.cvl_base.specs.Faults.{fault_at}

-- an index that names one of so many places, which stand from `start` on
abbrev pub Names : ℕ → ℤ → ℕ → ℕ → Type 0
Names count index start place = (k : ℕ) × (k < count) × (index ≡ pos k) × (place ≡ start + k)

-- an index that names none of them
abbrev pub NamesNone : ℕ → ℤ → Type 0
NamesNone count index = (k : ℕ) → index ≡ pos k → count ≤ k

module _ {X : Type 0} (xs : List X) where
  pub extract_some : (index : ℤ) (k : ℕ) (x : X) → index ≡ pos k → k < length xs → x ≡ get_or xs k x → extract_of xs index ≡ Ok x
  extract_some index k x names within read =
      ap (extract_of xs) names ∙ ap (λ o. ok_or o (fault_at no.IndexOutOfRange 0)) (slice_get_read xs (length xs) k x refl within read)

  pub extract_none : (index : ℤ) → NamesNone (length xs) index → extract_of xs index ≡ Err (fault_at no.IndexOutOfRange 0)
  extract_none (pos k) none = ap (λ o. ok_or o (fault_at no.IndexOutOfRange 0)) (slice_get_past xs k (none k refl))
  extract_none (negsuc k) none = refl

  pub replace_some : (index : ℤ) (k : ℕ) (x : X) → index ≡ pos k → k < length xs → replace_of xs index x ≡ Ok (set xs k x)
  replace_some index k x names within =
      ap (λ i. replace_of xs i x) names
      ∙ ap (λ b. ok_or (if b then Some (set xs k x) else None) (fault_at no.IndexOutOfRange 0)) (lt-ltb k (length xs) within)

  pub replace_none : (index : ℤ) (x : X) → NamesNone (length xs) index → replace_of xs index x ≡ Err (fault_at no.IndexOutOfRange 0)
  replace_none (pos k) x none = ap (λ b. ok_or (if b then Some (set xs k x) else None) (fault_at no.IndexOutOfRange 0)) (le-ltb k (length xs) (none k refl))
  replace_none (negsuc k) x none = refl
