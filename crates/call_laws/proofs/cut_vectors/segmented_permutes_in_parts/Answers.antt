use Rattle.call_laws.proofs.Cited.{refl, sym, pack_of, back_of, default_of, select_of, simple_of, of_three, of_two}
use Rattle.call_laws.proofs.SegmentsInTwo.{cut, in_order}
use Rattle.call_laws.proofs.TwoParts.{both}
use Rattle.call_laws.proofs.cut_vectors.segmented_permutes_in_parts.Goals as goal

pub returns : goal.returns
returns g c = record {
  simple = λ source more index others lengths later p q r s.
      in_order (both (cut lengths later source more p r refl refl) (cut lengths later index others q s refl refl)) (of_two simple_of) lengths later refl;
  back = λ source more index others lengths later index_lengths index_later p q r s many also_many.
      in_order (both (cut lengths later source more p r many also_many) (cut index_lengths index_later index others q s refl refl)) (of_two back_of) index_lengths index_later refl;
  select = λ source more index others lengths later p q r s flags more_flags t u.
      in_order (both (both (cut lengths later source more p r refl refl) (cut lengths later index others q s refl refl)) (cut lengths later flags more_flags t u refl refl))
      (of_three select_of) lengths later refl;
  default_into = λ source more index others lengths later p q r s defaults more_defaults default_lengths default_later t u many also_many.
      in_order (both (both (cut lengths later source more p r refl refl) (cut lengths later index others q s refl refl))
      (cut default_lengths default_later defaults more_defaults t u (sym many) (sym also_many)))
      (of_three default_of) lengths later refl;
  pack = λ xs more flags more_flags lengths later p q r s.
      in_order (both (cut lengths later xs more p r refl refl) (cut lengths later flags more_flags q s refl refl)) (of_two pack_of) lengths later refl;
}
