use Rattle.status_word.proofs.Cited.{rules, ◌≡◌, ◌∙◌, ap, length, replicate}
use Rattle.status_word.proofs.Reaching.{reached_first}
use Rattle.status_word.proofs.world.World.new.Goals as goal

pub invariant_of-result : goal.invariant_of-result
invariant_of-result g c =
    let count : c.len.result ≡ length c.args.sums.items = search rules in
    reached_first _ c.args.sums.items c.args.actors c.requires.few c.ranges.actors.fits c.requires.items _ _ (c.in_ok-words.ensures ∙ ap (λ n. replicate n 0) count) c.in_ok-locals.ensures
