-- Slices and appends in two parts.
use Rattle.call_laws.proofs.Cited.{rules, ◌≡◌, ◌++◌, ◌∙◌, ◌>>=◌, ℕ, ℤ, List, length, ap, Ok, Result, length-zip, map, map-append, joined, Fault, in_turn, in_two}
use Rattle.call_laws.proofs.PlaceByPlace.{as_long-two}
use Rattle.call_laws.proofs.TwoParts.{AreTwo, joined-append, joined-two, values-two, zip-append}
use Rattle.segment_slices.specs.Slices.{gather_segments_of}

pub gather-two : {X : Type 0} (source : List X) (starts more lengths later : List ℤ) → length starts ≡ length lengths → length more ≡ length later
    → gather_segments_of source (starts ++ more) (lengths ++ later)
    ≡ in_two (length starts) (gather_segments_of source starts lengths) (gather_segments_of source more later)
gather-two source starts more lengths later long also_long = search (rules, length-zip, as_long-two, zip-append, values-two, joined-two)

-- what is made of each pair of lists that come in two parts, end to end
pub pairs-joined : {S X : Type 0} {whole first second : Result (List S) Fault} {k l : ℕ} (call : S → List X) → AreTwo whole first second k l
    → (whole >>= λ pairs. Ok (joined (map call pairs)))
    ≡ in_turn (first >>= λ pairs. Ok (joined (map call pairs))) (second >>= λ pairs. Ok (joined (map call pairs)))
pairs-joined call two =
    rw (two.together, two.one, two.other) (ap Ok (ap joined (map-append call two.before two.others) ∙ joined-append (map call two.before) (map call two.others)))
