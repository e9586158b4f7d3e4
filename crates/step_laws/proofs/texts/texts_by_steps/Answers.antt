use Rattle.std.specs.Fmt.{signed_decimal}
use Rattle.value_texts.specs.Texts.{boolean_text, vector_text}
use Rattle.step_laws.specs.TextSteps.{OfBooleanSegments, OfBooleans, OfIntegerSegments, OfIntegers, booleans_text, integers_text, nested_text}
use Rattle.step_laws.proofs.TextKinds.{all-boolean-segments, all-booleans, all-integer-segments, all-integers, booleans-give, integers-give, segments-give}
use Rattle.step_laws.proofs.TextKinds.{made-by-steps, short-by-steps}
use Rattle.step_laws.proofs.texts.texts_by_steps.Goals as goal

pub returns : goal.returns
returns c = record {
  integers = made-by-steps signed_decimal integers_text integers-give OfIntegers all-integers;
  integers_short = short-by-steps signed_decimal integers_text integers-give OfIntegers all-integers;
  booleans = made-by-steps boolean_text booleans_text booleans-give OfBooleans all-booleans;
  booleans_short = short-by-steps boolean_text booleans_text booleans-give OfBooleans all-booleans;
  integer_segments = made-by-steps (vector_text signed_decimal) (nested_text signed_decimal) (segments-give signed_decimal) OfIntegerSegments all-integer-segments;
  integer_segments_short = short-by-steps (vector_text signed_decimal) (nested_text signed_decimal) (segments-give signed_decimal) OfIntegerSegments all-integer-segments;
  boolean_segments = made-by-steps (vector_text boolean_text) (nested_text boolean_text) (segments-give boolean_text) OfBooleanSegments all-boolean-segments;
  boolean_segments_short = short-by-steps (vector_text boolean_text) (nested_text boolean_text) (segments-give boolean_text) OfBooleanSegments all-boolean-segments;
}
