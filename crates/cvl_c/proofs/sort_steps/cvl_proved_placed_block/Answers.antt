use Rattle.cvl_c.proofs.sort_steps.cvl_proved_placed_block.Goals as goal

pub returns-clause-done : goal.returns-clause-done
returns-clause-done c = λ agree. c.told_step.ensures.done (c.key_block.ensures.done agree)

pub returns-clause-room : goal.returns-clause-room
returns-clause-room c = λ done. c.key_block.ensures.room (c.told_step.ensures.agree done)

pub returns-clause-ends : goal.returns-clause-ends
returns-clause-ends c = λ done. c.key_block.ensures.ends (c.told_step.ensures.agree done)

pub returns-clause-as_before : goal.returns-clause-as_before
returns-clause-as_before c = λ refused. c.key_block.ensures.as_before (c.told_step.ensures.differ refused)
