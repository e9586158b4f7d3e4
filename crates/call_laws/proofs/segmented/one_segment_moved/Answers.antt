use Rattle.call_laws.proofs.Cited.{◌∙◌, ◌∷◌, length, refl, [], pack_of, simple_of, back_of, select_of, default_of, if_as_long-fits, if_as_long-misfits}
use Rattle.call_laws.proofs.Segments.{nest_one, three-again, two-again}
use Rattle.call_laws.proofs.segmented.one_segment_moved.Goals as goal

pub returns : goal.returns
returns g c = record {
  simple = λ source index. two-again (length source ∷ []) simple_of source (length source) index (if_as_long-misfits source index _);
  back = λ source index. two-again (length index ∷ []) back_of source (length index) index (λ differ. absurd (differ refl));
  select = λ source index flags. three-again select_of source index (length source) flags (if_as_long-misfits source index _)
      (λ same differ. if_as_long-fits source index _ same ∙ if_as_long-misfits index flags _ (λ long. differ (same ∙ long)));
  default_into = λ source index defaults. three-again default_of source index (length defaults) defaults (if_as_long-misfits source index _) (λ same differ. absurd (differ refl));
  pack = λ xs flags. two-again (length xs ∷ []) pack_of xs (length xs) flags (if_as_long-misfits xs flags _);
  count = λ flags. rw (nest_one flags);
}
