use Rattle.elementwise.proofs.Cited.{sym, values_long}
use Rattle.elementwise.proofs.values.values_on_pairs.Goals as goal

pub written_by_rayon-requires-after_bounds : goal.written_by_rayon-requires-after_bounds
written_by_rayon-requires-after_bounds g c κs within =
    rw (c.new.ensures.first, c.new.ensures.second) (sym (values_long (λ p. g.O.Binary.value p.0 p.1) c.args.a.now c.args.b.now c.in_ok-check_agree.ensures))
