use Rattle.step_laws.proofs.Families.{each-value, extracted, extracted-flags, replaced}
use Rattle.step_laws.proofs.segment_families.values_go_by_segments.Goals as goal

pub returns : goal.returns
returns g c = record {
  each = λ value parts xs lengths segments are fit. each-value parts lengths segments are value xs fit;
  extract = λ parts xs index lengths segments are fit many. extracted parts lengths segments are xs index fit many;
  extract_flags = λ parts bytes index lengths segments are fit many. extracted-flags parts lengths segments are bytes index fit many;
  replace = λ parts xs values index lengths segments are fit many also_many. replaced parts lengths segments are xs index fit many values also_many;
}
