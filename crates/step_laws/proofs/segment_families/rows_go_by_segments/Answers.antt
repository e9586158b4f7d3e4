use Rattle.step_laws.proofs.ByElement.{checked-product, gathered, product}
use Rattle.step_laws.proofs.segment_families.rows_go_by_segments.Goals as goal

pub returns : goal.returns
returns g c = record {
  gather = λ source parts starts lengths segments are few many. gathered parts source starts lengths segments are few many;
  product = λ x parts lengths columns values segments are few entries many. product parts lengths columns values x segments are few entries many;
  checked_product = λ x parts lengths columns values segments are few entries many. checked-product parts lengths columns values x segments are few entries many;
}
