use Rattle.fresh.proofs.Cited.{◌≡◌, ◌-◌, ◌<◌, ◌++◌, length, take, sym, ◌∙◌, subst, arith, take_all, get_or-zip, length-zip, AllZip, zip, stretch}
use Rattle.fresh.proofs.Maps.{one_more}
use Rattle.fresh.proofs.run.Run.fill_each_from_both.Goals as goal

pub loop-k-preserved : goal.loop-k-preserved
loop-k-preserved g c =
    let xs = c.args.xs.now in let ys = c.args.ys.now in let k = c.loop-k.k in let asked = c.requires.as_long in
    let lt : k < length xs = c.loop-k-test.true in let long = length-zip xs ys in
    one_more (λ p z. g.F.Fn.post c.args.f (p.0, (p.1, tt)) z) (zip xs ys) k (c.index-xs-k.result, c.index-ys-k.result) c.f.result c.args.self c.loop-k.self c.push.new.self (omega arith)
    ((λ i. (c.index-xs-k.is i, c.index-ys-k.is i)) ∙ sym (get_or-zip xs ys k (c.index-xs-k.result, c.index-ys-k.result) lt (omega arith))) c.f.ensures c.loop-k.invariant c.push.ensures

pub returns : goal.returns
returns g c =
    let xs = c.args.xs.now in let ys = c.args.ys.now in let k = c.loop-k.k in let asked = c.requires.as_long in
    let long = length-zip xs ys in let all = c.loop-k.invariant in
    let whole : take k (zip xs ys) ≡ zip xs ys = take_all k (zip xs ys) (omega (arith, c.loop-k-test.false)) in
    let none : c.args.self.room - k ≡ 0 = omega (arith, c.loop-k-test.false, asked.0) in
    (all.0, subst (λ l. AllZip (λ p z. g.F.Fn.post c.args.f (p.0, (p.1, tt)) z) l all.0) whole all.1, all.2 ∙ λ i. stretch c.args.self.block c.args.self.first (c.args.self.items ++ all.0) (none i))
