use Rattle.fresh.proofs.Cited.{◌≡◌, ◌-◌, List, ◌++◌, take, AllZip, zip, stretch}
use Rattle.fresh.proofs.run.Run.fill_each_from_both.Given as goal

abbrev pub invariant-loop-k : goal.invariant-loop-k
invariant-loop-k g l =
    (zs : List _) × AllZip (λ p. goal.F-post g l.f p.0 p.1) (take l.k (zip l.xs l.ys)) zs × (l.self ≡ stretch l.fn.self.block l.fn.self.first (l.fn.self.items ++ zs) (l.fn.self.room - l.k))
