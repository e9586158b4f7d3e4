use Rattle.call_laws.proofs.Cited.{◌≡◌, ◌+ℤ◌, ◌*ℤ◌, ◌∙◌, ◌>>=◌, ℕ, ℤ, List, length, map, zip, refl, pos, negsuc, replicate, sym, ap, Bool, true, false, Ok, range_with_len, length-replicate}
use Rattle.call_laws.proofs.Cited.{length-map-range_with_len, distribute_of, index_of, replace_of, fault_if, wrap, count_of, pack_of, at_segment, in_vector, of_two, of_three, map-id, Fault}
use Rattle.call_laws.proofs.CutResults.{counts-given, cut-three, cut-two, has-lengths, map-firsts, map-seconds}
use Rattle.call_laws.proofs.ElementPlaces.{replace-meaning}
use Rattle.call_laws.proofs.Packing.{pack-counted}
use Rattle.call_laws.proofs.segmented.result_cut_again.Goals as goal

made-if : {X : Type 0} (b : Bool) (f : Fault) (made : ℕ → List X) (n : ℕ) (r : List X) → (fault_if b f (Ok n) >>= λ n. Ok (made n)) ≡ Ok r → made n ≡ r
made-if true f made n r p = cc
made-if false f made n r p = cc

replaced-length : {X : Type 0} (xs : List X) (index : ℤ) (x : X) (r : List X) → replace_of xs index x ≡ Ok r → length r ≡ length xs
replaced-length xs (pos k) x r p = ((replace-meaning xs k x r).0 p).0
replaced-length xs (negsuc k) x r p = cc

pub returns : goal.returns
returns g c = record {
  distribute = λ values result lengths p.
      cut-two {firsts = Ok values} {seconds = Ok lengths} (in_vector lengths) (of_two (λ value n. distribute_of value (pos n))) (λ s. s.1)
      (λ s r q. ap length (sym (made-if _ _ (λ n. replicate n s.0) s.1 r q)) ∙ length-replicate s.1 s.0)
      lengths result refl refl (λ same. map-seconds (λ n. n) values lengths same ∙ map-id lengths) p;
  index = λ inits strides result lengths p.
      let value = λ (init stride : ℤ) (k : ℕ). wrap (init +ℤ pos k *ℤ stride) in
      cut-three {firsts = Ok inits} {seconds = Ok strides} {thirds = Ok lengths} (in_vector lengths) (of_three (λ init stride n. index_of init stride (pos n))) (λ s. s.1)
      (λ s r q. ap length (sym (made-if _ _ (λ n. map (value s.0.0 s.0.1) (range_with_len 0 n)) s.1 r q)) ∙ length-map-range_with_len (value s.0.0 s.0.1) 0 s.1)
      lengths result refl refl refl (λ _ same. map-seconds (λ n. n) (zip inits strides) lengths same ∙ map-id lengths) p;
  replace = λ xs values result index lengths lists cut p.
      cut-three {seconds = Ok index} {thirds = Ok values} at_segment (of_three replace_of) (λ s. length s.0.0) (λ s r q. replaced-length s.0.0 s.0.1 s.1 r q) lengths result cut refl refl
      (λ first second. map-firsts (λ s. length s.0) (zip lists index) values second ∙ map-firsts length lists index first ∙ has-lengths lengths xs lists cut) p;
  pack = λ xs result flags lengths counts lists flag_lists cut cut_flags counted p.
      cut-two (in_vector lengths) (of_two pack_of) (λ s. count_of s.1) (λ s r q. pack-counted s.0 s.1 r q) counts result cut cut_flags
      (λ same. map-seconds count_of lists flag_lists same ∙ counts-given flags lengths counts flag_lists cut_flags counted) p;
}
