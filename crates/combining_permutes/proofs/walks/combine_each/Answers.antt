use Rattle.combining_permutes.proofs.Cited.{◌≡◌, ◌∙◌, ◌+◌, ◌<◌, All, All-get_or, All-set, IsTrue, Some, ap, arith, false, get_or, get_or-map}
use Rattle.combining_permutes.proofs.Cited.{length, length-map, map, pos, set, subst, sym, true, is_between}
use Rattle.combining_permutes.proofs.Joined.{IsCombinedTo, walked_all, walked_here, walked_past}
use Rattle.combining_permutes.proofs.Named.{names_none}
use Rattle.combining_permutes.proofs.walks.combine_each.Goals as goal
use Rattle.combining_permutes.proofs.walks.combine_each.Goals.{then-place-out, else-place-out}

pub loop-k-preserved : goal.loop-k-preserved
loop-k-preserved g c =
    let m = g.M.Monoid in
    let item = g.E.Reading.item in
    let source = c.args.source.now in
    let index = c.args.index.now in
    let elements = map item source in
    let places = length c.args.out.now in
    let l = c.loop-k in
    let lt : l.k < length index = omega (arith, c.loop-k-test.true) in
    let long : length elements ≡ length index = length-map source item ∙ c.requires.as_long in
    elim c.if-place-out.branch [
      | then-place-out w ↦
          let named : get_or index l.k (pos 0) ≡ pos (0 + c.place_named-place.result) =
          c.place_named-place.ensures.inside places c.requires.in_limit (omega (arith, w.if-place-out.true, l.auto.out)) ∙ ap (λ n. pos n) (omega arith) in
          let x = w.item.result in let y = w.index-out-place.result in
          let element : get_or elements l.k x ≡ x =
          ap (get_or elements l.k) w.item.ensures ∙ get_or-map item source l.k w.index-source-k.result (item w.index-source-k.result) (omega (arith, lt, c.requires.as_long))
          ∙ ap item (sym w.index-source-k.is) ∙ sym w.item.ensures in
          let x_item : IsTrue (m.is_item x) =
          ap m.is_item w.item.ensures
          ∙ subst (λ v. m.is_item (item v) ≡ true) (sym w.index-source-k.is)
          (All-get_or (λ v. m.is_item (item v) ≡ true) source l.k w.index-source-k.result (omega (arith, lt, c.requires.as_long)) c.requires.elements) in
          let y_item : IsTrue (m.is_item y) =
          subst (λ v. m.is_item v ≡ true) (sym w.index-out-place.is) (All-get_or (λ v. m.is_item v ≡ true) l.out c.place_named-place.result y w.if-place-out.true l.invariant.items) in
          let new = w.out-is ∙ ap (set l.out c.place_named-place.result) w.join.ensures in
          record {
            joined = walked_here m.join index elements _ 0 l.k long lt l.out l.invariant.joined x element c.place_named-place.result y c.if-place-out.out named w.if-place-out.true
                w.index-out-place.is new;
            items = subst (All (λ v. m.is_item v ≡ true)) (sym new)
                (All-set (λ v. m.is_item v ≡ true) l.out c.place_named-place.result (m.join y x) (c.know_laws.ensures.join_is_item y x y_item x_item) l.invariant.items);
          }
      | else-place-out w ↦
          let away : is_between 0 (0 + places) (Some (get_or index l.k (pos 0))) ≡ false =
          ap (λ n. is_between 0 n (Some (get_or index l.k (pos 0)))) (omega arith)
          ∙ c.place_named-place.ensures.outside places c.requires.in_limit (omega (arith, w.if-place-out.false, l.auto.out)) in
          let past = walked_past m.join index elements _ 0 l.k long lt l.out l.invariant.joined
          (λ d from below. names_none 0 places (get_or index l.k (pos 0)) away d from (omega (arith, below, l.auto.out))) in
          subst (IsCombinedTo m.is_item m.join index elements c.args.out.now (l.k + 1)) (sym w.out-is) (record { joined = past; items = l.invariant.items })
    ]

pub returns-clause-joined : goal.returns-clause-joined
returns-clause-joined g c =
    let item = g.E.Reading.item in
    sym (walked_all g.M.Monoid.join c.args.index.now (map item c.args.source.now) 0 c.loop-k.k c.loop-k.out (omega (arith, c.loop-k-test.false)))
    ∙ sym c.loop-k.invariant.joined
