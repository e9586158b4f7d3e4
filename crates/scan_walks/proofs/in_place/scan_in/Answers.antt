use Rattle.scan_walks.proofs.Cited.{◌≡◌, ◌∙◌, ◌<◌, ◌∷◌, ◌++◌, [], IsTrue, arith, true, get_or, length, rules, subst, sym, take_more_set, All-get_or, scan_of_more}
use Rattle.range_walks.proofs.Scanned.{joined_more}
use Rattle.scan_walks.proofs.InPlace.{still_at, still_behind}
use Rattle.scan_walks.proofs.in_place.scan_in.Goals as goal

pub join-so_far-requires-clause-second : goal.join-so_far-requires-clause-second
join-so_far-requires-clause-second g c =
    let m = g.M.Monoid in let a = c.args.a.now in let i = c.loop-place.place in let x = c.index-a-place.result in
    let within : i < length a = omega (arith, c.loop-place-test.true) in
    let same : x ≡ get_or a i x = c.index-a-place.is ∙ still_at c.loop-place.a a i c.loop-place.invariant.left x in
    subst (λ y. IsTrue (m.is_item y)) (sym same) (All-get_or (λ y. m.is_item y ≡ true) a i x within c.requires.items)

pub loop-place-preserved : goal.loop-place-preserved
loop-place-preserved g c =
    let m = g.M.Monoid in let a = c.args.a.now in let i = c.loop-place.place in let x = c.index-a-place.result in
    let before = c.loop-place.invariant in
    let within : i < length a = omega (arith, c.loop-place-test.true) in
    let same : x ≡ get_or a i x = c.index-a-place.is ∙ still_at c.loop-place.a a i before.left x in
    record {
      item = search rules;
      sum = joined_more m.join c.args.before c.loop-place.so_far x _ a i within same before.sum c.join-so_far.ensures;
      scanned = take_more_set c.loop-place.a i c.loop-place.so_far (omega (arith, within))
          ∙ (λ t. before.scanned t ++ before.sum t ∷ []) ∙ sym (scan_of_more m.join c.args.before a i within);
      left = still_behind c.loop-place.a a i before.left c.loop-place.so_far;
    }
