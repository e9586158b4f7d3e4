use Rattle.std.proofs.Common.{◌∙◌}
use Rattle.explanations.proofs.Walks.{spelled_more}
use Rattle.explanations.proofs.call_faults.spelled.Goals as goal

pub loop-place-preserved : goal.loop-place-preserved
loop-place-preserved g c =
    c.in_ok-push.ensures.items
    ∙ spelled_more c.args.session.now.names c.args.args.now c.args.words.now (λ word. word.items) c.loop-place.place c.index-args-place.result c.index-words-place.result c.new.result
    c.loop-place.arguments.items c.requires c.loop-place-test.true c.index-args-place.is c.index-words-place.is
    (c.new.ensures.word ∙ c.as_slice-word.ensures.value) (c.new.ensures.value ∙ c.holding_of.ensures) c.loop-place.invariant
