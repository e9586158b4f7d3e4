use Rattle.std.proofs.Common.{rules}
use Rattle.value_texts.proofs.NestWalk.{refused_after, segment_written}
use Rattle.value_texts.proofs.nest_text.put_segments_alone.Goals as goal

pub returns-in_err-put_vector_alone : goal.returns-in_err-put_vector_alone
returns-in_err-put_vector_alone g c = (search rules, refused_after c.loop-first.invariant _ _ c.in_ok-push.ensures.items c.put_vector_alone.ensures.1)

pub loop-first-preserved : goal.loop-first-preserved
loop-first-preserved g c =
    segment_written c.loop-first.invariant _ _ _ c.in-Some.ensures.cases.0 (search rules) _ _ _ _
    c.split_at.ensures.front c.split_at.ensures.back c.in_ok-push.ensures.items c.in_ok-put_vector_alone.ensures.0
