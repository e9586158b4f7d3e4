use Rattle.status_word.proofs.Kept.{first_keeps, claim_keeps, done_keeps, look_keeps, tell_keeps, split_keeps, join_keeps, few_claimed, whole_knows, join_adds}
use Rattle.status_word.proofs.rules.rule_law.Goals as goal

pub returns : goal.returns
returns g c = record {
  first = first_keeps;
  claim = claim_keeps;
  done = done_keeps;
  look = look_keeps;
  tell = tell_keeps;
  split = split_keeps;
  join = join_keeps;
  few = few_claimed;
  whole = whole_knows;
  added = join_adds;
}
