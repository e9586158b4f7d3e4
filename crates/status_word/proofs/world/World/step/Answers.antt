use Rattle.status_word.proofs.Cited.{rules}
use Rattle.status_word.proofs.Reaching.{step_allowed, reached_by, room}
use Rattle.status_word.proofs.world.World.step.Goals as goal

pub answer_to-answer-requires : goal.answer_to-answer-requires
answer_to-answer-requires g c =
    rw (c.as_slice.ensures.value, c.as_slice-in-Some.ensures.value)
    (step_allowed _ c.know_coding.ensures.coded c.know_coding.ensures.sums _ c.self.invariant c.args.actor (search rules) c.index.result.now c.in-Some.action c.index.ensures c.in-Some.ensures).answer

pub claims_after-self-inside-requires : goal.claims_after-self-inside-requires
claims_after-self-inside-requires g c = room _ c.know_coding.ensures.coded c.know_coding.ensures.sums _ c.self.invariant

pub write_word-requires-after_bounds : goal.write_word-requires-after_bounds
write_word-requires-after_bounds g c κs within =
    rw c.as_slice-in-Some-2.ensures.value
    (step_allowed _ c.know_coding.ensures.coded c.know_coding.ensures.sums _ c.self.invariant c.args.actor (search rules) c.index.result.now c.in-Some.action c.index.ensures c.in-Some.ensures).tell

pub next-requires-clause-held : goal.next-requires-clause-held
next-requires-clause-held g c =
    (step_allowed _ c.know_coding.ensures.coded c.know_coding.ensures.sums _ c.self.invariant c.args.actor (search rules) c.index.result.now c.in-Some.action c.index.ensures c.in-Some.ensures).held

pub next-requires-clause-told : goal.next-requires-clause-told
next-requires-clause-told g c =
    rw (c.answer_to-answer.ensures, c.as_slice.ensures.value, c.as_slice-in-Some.ensures.value)
    (step_allowed _ c.know_coding.ensures.coded c.know_coding.ensures.sums _ c.self.invariant c.args.actor (search rules) c.index.result.now c.in-Some.action c.index.ensures c.in-Some.ensures).told

pub invariant_of-self : goal.invariant_of-self
invariant_of-self g c =
    let answer = rw (c.as_slice.ensures.value, c.as_slice-in-Some.ensures.value) at c.answer_to-answer.ensures in
    let words = rw c.as_slice-in-Some-2.ensures.value at c.write_word.ensures in
    reached_by _ _ c.self.invariant c.args.actor (search rules) c.index.result.now c.in-Some.action c.index.ensures c.in-Some.ensures _ _ _ _ c.claims_after-self-inside.ensures words answer
    c.next.ensures
