use Rattle.combining_permutes.proofs.Cited.{ℕ, ◌+◌, ◌∙◌, ◌∷◌, [], Some, arith, ap, get_or, is_between, length, length-append, pos, sym, those_between}
use Rattle.permute_walks.proofs.Listed.{listed_more}
use Rattle.combining_permutes.proofs.ranges.count_block.Goals as goal
use Rattle.combining_permutes.proofs.ranges.count_block.Goals.{then-names_between, else-names_between}

pub loop-k-preserved : goal.loop-k-preserved
loop-k-preserved c =
    let l = c.loop-k in
    let k = c.args.first + l.k in
    let p = λ (j : ℕ). is_between c.args.lowest (c.args.lowest + c.args.places) (Some (get_or c.args.index.now j (pos 0))) in
    let before = those_between c.args.index.now c.args.lowest (c.args.lowest + c.args.places) c.args.first l.k in
    elim c.if-names_between.branch [
      | then-names_between w ↦
          let more = ap length (listed_more p c.args.first l.k _ (sym c.names_between.ensures ∙ w.if-names_between.true)) in
          record { count_is = omega (arith, more, length-append before (k ∷ []), l.invariant.count_is, w.count-is); in_length = omega arith }
      | else-names_between w ↦
          let more = ap length (listed_more p c.args.first l.k _ (sym c.names_between.ensures ∙ w.if-names_between.false)) in
          record { count_is = omega (arith, more, length-append before [], l.invariant.count_is, w.count-is); in_length = omega arith }
    ]
