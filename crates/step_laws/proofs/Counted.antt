-- Counts that are added up do not wrap.
use Rattle.std.proofs.Common.{◌≡◌, ◌+◌, ◌≤◌, ◌∙◌, ℕ, pos, List, [], ◌∷◌, length, map, sum, refl, sym, ap, arith, fold, subst, cond}
use Rattle.std.proofs.lemmas.Int.{ints, int_wrap_fits}
use Rattle.std.proofs.lemmas.List.{length-map, map-append}
use Rattle.std.proofs.lemmas.List.Sums.{count_by-le-length, sum_by-append}
use Rattle.std.specs.Int.{w32}
use Rattle.cvl_base.proofs.Lists.{sum-cons}
use Rattle.cvl_base.specs.Integers.{sum_of}
use Rattle.cvl_base.specs.Limits.{most_places}
use Rattle.cvl_base.specs.Lists.{joined}
use Rattle.cvl_base.specs.Packs.{count_of}
use Rattle.flag_calls.specs.Flags.{flag_of, flags_of}
use Rattle.std.proofs.Common.{Bool}

pub added : (a : ℕ) (counts : List ℕ) → a + sum counts ≤ most_places → fold sum_of (pos a) (map pos counts) ≡ pos (a + sum counts)
added a [] few = ap pos (omega arith)
added a (n ∷ counts) few =
    let all : a + (n + sum counts) ≤ most_places = subst (λ s. a + s ≤ most_places) (sum-cons n counts) few in
    let more : (a + n) + sum counts ≤ most_places = omega (arith, all) in
    let next : sum_of (pos a) (pos n) ≡ pos (a + n) = int_wrap_fits w32 (pos (a + n)) (omega (arith, ints, all)) in
    ap (λ z. fold sum_of z (map pos counts)) next ∙ added (a + n) counts more ∙ ap pos (omega (arith, sum-cons n counts))

-- the flags of all parts
pub counted-parts : (parts : List (List ℕ)) → count_of (flags_of (joined parts)) ≡ sum (map (λ bytes. count_of (flags_of bytes)) parts)
counted-parts [] = refl
counted-parts (bytes ∷ parts) =
    ap count_of (map-append flag_of bytes (joined parts)) ∙ sum_by-append (λ (f : Bool). cond f 1 0) (flags_of bytes) (flags_of (joined parts))
    ∙ ap (λ n. count_of (flags_of bytes) + n) (counted-parts parts) ∙ sym (sum-cons (count_of (flags_of bytes)) (map (λ bs. count_of (flags_of bs)) parts))

pub no-more : (bytes : List ℕ) → count_of (flags_of bytes) ≤ length bytes
no-more bytes = subst (λ n. count_of (flags_of bytes) ≤ n) (length-map bytes flag_of) (count_by-le-length (λ (f : Bool). f) (flags_of bytes))
