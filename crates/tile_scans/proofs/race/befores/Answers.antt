use Rattle.tile_scans.proofs.Cited.{ℕ, ◌++◌, ◌∷◌, [], arith, map, sym, ap, ◌∙◌, rules, range_with_len, map-range_with_len_more, before_tile}
use Rattle.tile_scans.proofs.race.befores.Goals as goal

pub loop-t-preserved : goal.loop-t-preserved
loop-t-preserved g c =
    let m = g.T.M.Monoid in
    let sums = c.args.board.now.sums in
    let t = c.loop-t.t in
    let at = λ (t : ℕ). (before_tile m.join m.unit sums t).1 in
    record {
      seat = search rules;
      long = search rules;
      room = search rules;
      known = c.push_reserved.ensures.items
          ∙ ap (λ items. items ++ c.look_back.result.before.1 ∷ []) c.loop-t.invariant.known
          ∙ ap (λ (w : _ × _). map at (range_with_len 0 t) ++ w.1 ∷ []) c.look_back.ensures.before
          ∙ sym (map-range_with_len_more at 0 t t (omega arith));
    }
