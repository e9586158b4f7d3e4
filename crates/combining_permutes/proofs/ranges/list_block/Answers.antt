use Rattle.combining_permutes.proofs.Cited.{ℕ, ◌+◌, ◌<◌, ◌∙◌, ◌++◌, ◌∷◌, [], Some, ap, append-nil, arith, get_or, is_between, length, pos, set, sym, take, take-set, take_more_set}
use Rattle.permute_walks.proofs.Listed.{listed_more}
use Rattle.combining_permutes.proofs.ranges.list_block.Goals as goal
use Rattle.combining_permutes.proofs.ranges.list_block.Goals.{then-names_between, else-names_between}

pub loop-k-preserved : goal.loop-k-preserved
loop-k-preserved c =
    let l = c.loop-k in
    let k = c.args.first + l.k in
    let p = λ (j : ℕ). is_between c.args.lowest (c.args.lowest + c.args.places) (Some (get_or c.args.index.now j (pos 0))) in
    let within : l.count < length l.list = omega arith in
    elim c.if-names_between.branch [
      | then-names_between w ↦ record {
        listed = ap (λ n. take n (set l.list l.count k)) w.count-is ∙ take_more_set l.list l.count k within ∙ ap (λ ns. ns ++ k ∷ []) l.invariant.listed
            ∙ sym (listed_more p c.args.first l.k _ (sym c.names_between.ensures ∙ w.if-names_between.true));
        in_length = omega arith;
      }
      | else-names_between w ↦ record {
        listed = ap (λ n. take n (set l.list l.count k)) w.count-is ∙ take-set l.list l.count k ∙ l.invariant.listed ∙ sym (append-nil _)
            ∙ sym (listed_more p c.args.first l.k _ (sym c.names_between.ensures ∙ w.if-names_between.false));
        in_length = omega arith;
      }
    ]
