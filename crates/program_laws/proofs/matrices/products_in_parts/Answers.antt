use Rattle.program_laws.proofs.RowsInTwo.{checked-two, product-two}
use Rattle.program_laws.proofs.matrices.products_in_parts.Goals as goal

pub returns : goal.returns
returns c = record { wrapped = product-two; checked = λ x columns more values others sums rest lengths later p q r s. checked-two x columns more values others lengths later p q r s sums rest }
