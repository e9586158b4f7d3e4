use Rattle.std.proofs.Common.{arith, get_or}
use Rattle.std.specs.Fmt.{signed_decimal}
use Rattle.cvl_base.specs.Lists.{joined}
use Rattle.value_texts.specs.Texts.{boolean_text}
use Rattle.step_laws.proofs.TextBounds.{boolean-takes, number-takes, segments-few, tokens-few, vector-few}
use Rattle.step_laws.proofs.texts.parts_have_room.Goals as goal

pub returns : goal.returns
returns c = record {
  integers = λ k start first xs numbers. omega (arith, vector-few signed_decimal 12 xs (λ i d lt. number-takes (get_or xs i d) (numbers i d lt)));
  booleans = λ k start first bs. omega (arith, vector-few boolean_text 2 bs (λ i d lt. boolean-takes (get_or bs i d)));
  integer_segments = λ k start first segments numbers.
      omega (arith, segments-few signed_decimal 12 segments (λ i d lt. number-takes (get_or (joined segments) i d) (numbers i d lt)));
  boolean_segments = λ k start first segments.
      omega (arith, segments-few boolean_text 2 segments (λ i d lt. boolean-takes (get_or (joined segments) i d)));
  read = λ k from bytes. omega (arith, (tokens-few bytes).0);
}
