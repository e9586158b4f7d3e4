use Rattle.call_laws.proofs.Cited.{◌≡◌, ◌+◌, ◌∷◌, ◌++◌, ◌∙◌, Bool, cond, [], take, drop, map, sym, Ok, sum, map-append, same_from_push, sum_by-append, cut_of, count_of}
use Rattle.call_laws.proofs.Carries.{nest-first, nest-inside, nest-second}
use Rattle.call_laws.proofs.Packing.{pack-two}
use Rattle.call_laws.proofs.Segments.{counts-of}
use Rattle.call_laws.proofs.packs.pack_in_parts.Goals as goal

pub returns : goal.returns
returns g c =
    let count_two = sum_by-append (λ (flag : Bool). cond flag 1 0) in
    record {
      pack = pack-two;
      count = count_two;
      -- of a segment that is cut the two counts are added
      segments = λ flags more_flags lengths more closed rest m n a b total also_total first second.
          let before = cut_of lengths flags in
          let front = drop (sum lengths) flags in
          let back = take n more_flags in
          let behind = cut_of more (drop n more_flags) in
          let found : Ok (map count_of (before ++ front ∷ [])) ≡ Ok (closed ++ a ∷ []) =
          sym (counts-of (lengths ++ m ∷ []) flags (before ++ front ∷ []) (nest-first lengths m flags total)) ∙ first in
          let listed : map count_of (before ++ front ∷ []) ≡ closed ++ a ∷ [] = cc in
          let parts = same_from_push (map count_of before) closed (count_of front) a (sym (map-append count_of before (front ∷ [])) ∙ listed) in
          let also_found : Ok (count_of back ∷ map count_of behind) ≡ Ok (b ∷ rest) =
          sym (counts-of (n ∷ more) more_flags (back ∷ behind) (nest-second n more more_flags also_total)) ∙ second in
          let is_b : count_of back ≡ b = cc in
          let is_rest : map count_of behind ≡ rest = cc in
          counts-of (lengths ++ (m + n) ∷ more) (flags ++ more_flags) (before ++ (front ++ back) ∷ behind) (nest-inside lengths m flags total n more more_flags also_total)
          ∙ rw (map-append count_of before ((front ++ back) ∷ behind), count_two front back, parts.0, parts.1, is_b, is_rest);
    }
