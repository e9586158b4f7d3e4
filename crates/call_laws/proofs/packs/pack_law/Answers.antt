use Rattle.call_laws.proofs.Cited.{◌≡◌, ◌∷◌, ◌∙◌, if◌then◌else◌, Bool, true, false, [], length, map, refl, sym, ap, Ok, length-map, pack_of, if_as_long-fits, if_as_long-misfits, in_two}
use Rattle.call_laws.proofs.Packing.{kept-filter, kept_of, pack-counted, pack-two}
use Rattle.call_laws.proofs.Sending.{if_as_long-Ok}
use Rattle.call_laws.proofs.packs.pack_law.Goals as goal

pack-one : {X : Type 0} (x : X) (flag : Bool) → pack_of (x ∷ []) (flag ∷ []) ≡ Ok (if flag then x ∷ [] else [])
pack-one x true = refl
pack-one x false = refl

pub returns : goal.returns
returns g c = record {
  filter = λ xs test. rw (if_as_long-fits xs (map test xs) _ (sym (length-map xs test))) (ap Ok (kept-filter test xs));
  nothing = refl;
  one_more = λ xs flags kept x flag p.
      pack-two xs (x ∷ []) flags (flag ∷ []) (if_as_long-Ok xs flags (Ok (kept_of xs flags)) kept p).0 refl ∙ (λ i. in_two (length xs) (p i) (pack-one x flag i));
  counted = pack-counted;
  mismatch = λ xs flags differ. if_as_long-misfits xs flags _ differ;
}
