use Rattle.std.proofs.Common.{◌≡◌, ◌∙◌, ◌+◌, ◌+ℤ◌, ◌*ℤ◌, pos, ap, arith, rules}
use Rattle.std.proofs.lemmas.Int.{wraps}
use Rattle.cvl_base.specs.Integers.{wrap}
use Rattle.pack_dist.proofs.Progressed.{next_more}
use Rattle.segment_fills.proofs.fronts.StepsItemsI32.after.Goals as goal

pub returns : goal.returns
returns c = λ place is.
    let init = c.args.self.now.init in let stride = c.args.self.now.stride in
    let here : place ≡ 0 + place = omega arith in
    let next : 0 + (place + 1) ≡ place + 1 = omega arith in
    next_more init stride c.args.item _ 0 place (is ∙ ap (λ k. wrap (init +ℤ pos k *ℤ stride)) here) (search (rules, wraps))
    ∙ ap (λ k. wrap (init +ℤ pos k *ℤ stride)) next
