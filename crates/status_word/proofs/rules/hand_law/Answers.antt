use Rattle.status_word.proofs.Dealt.{first_deals, claim_deals, done_deals, same_deals, split_deals, join_deals, few_claims, whole_deals}
use Rattle.status_word.proofs.rules.hand_law.Goals as goal

pub returns : goal.returns
returns g c = record {
  first = first_deals;
  claim = claim_deals;
  done = done_deals;
  same = same_deals;
  split = split_deals;
  join = join_deals;
  few = few_claims;
  whole = whole_deals;
}
