use Rattle.line_reader.proofs.Cited.{◌≡◌, ◌+◌, ◌*◌, ◌<◌, ◌^◌, take, drop, true, list_all, prefix_len, is_ascii_digit, digits_value}
use Rattle.line_reader.proofs.number.walked_digits.Given as goal

abbrev pub invariant-loop-i : goal.invariant-loop-i
invariant-loop-i l = record {
  small : l.value < 11 * 2 ^ 31;
  digits : list_all is_ascii_digit (take l.i l.bytes) ≡ true;
  value : l.value ≡ digits_value 10 (take l.i l.bytes);
  whole : prefix_len is_ascii_digit l.bytes ≡ l.i + prefix_len is_ascii_digit (drop l.i l.bytes);
}
