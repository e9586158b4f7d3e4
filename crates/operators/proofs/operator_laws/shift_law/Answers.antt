use Rattle.std.proofs.Common.{◌^◌, refl, ltb}
use Rattle.std.proofs.lemmas.Bool.{cond-false, cond-true, le-ltb, lt-ltb}
use Rattle.std.proofs.lemmas.Nat.{pow_pos}
use Rattle.operators.specs.Integers.{floor_of}
use Rattle.operators.proofs.Flooring.{is_floor}
use Rattle.operators.proofs.operator_laws.shift_law.Goals as goal

pub returns : goal.returns
returns c = record {
  left = λ a s below. cond-true (ltb s 32) _ _ (lt-ltb s 32 below);
  right = λ a s below. (floor_of a (2 ^ s), cond-true (ltb s 32) _ _ (lt-ltb s 32 below), is_floor a (2 ^ s) (pow_pos s));
  no_left = λ a s above. cond-false (ltb s 32) _ _ (le-ltb s 32 above);
  no_right = λ a s above. cond-false (ltb s 32) _ _ (le-ltb s 32 above);
  no_left_by_less = λ a n. refl;
  no_right_by_less = λ a n. refl;
}
