use Rattle.call_laws.proofs.Cited.{◌≡◌, length, le-ltb, refl, pos, negsuc, ℤ, List, Ok, extract_of, replace_of}
use Rattle.call_laws.proofs.ElementPlaces.{extract-meaning, replace-inside, replace-meaning}
use Rattle.call_laws.proofs.extracts.replace_law.Goals as goal

read-back : {X : Type 0} (xs : List X) (index : ℤ) (x : X) (result : List X) → replace_of xs index x ≡ Ok result → extract_of result index ≡ Ok x
read-back xs (pos k) x result p = (extract-meaning result k x).1 ((replace-meaning xs k x result).0 p).1
read-back xs (negsuc k) x result p = cc

pub returns : goal.returns
returns g c = record {
  meaning = replace-meaning;
  exists = λ xs k x within. rw (replace-inside xs k x within);
  past_end = λ xs k x past. rw (le-ltb k (length xs) past);
  negative = λ xs k x. refl;
  read_back = read-back;
}
