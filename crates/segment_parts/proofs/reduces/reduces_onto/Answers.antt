use Rattle.std.proofs.Common.{◌≡◌, ◌∙◌, ◌++◌, ◌∷◌, [], IsTrue, ap, arith, drop, length, map, subst, sum, sym, true, unsigned_abs}
use Rattle.std.proofs.lemmas.List.{drop-map, length-map}
use Rattle.std.proofs.lemmas.List.Elements.{All-drop, All-map}
use Rattle.std.specs.List.{AllPass}
use Rattle.cvl_base.specs.Folds.{fold_of}
use Rattle.fresh.proofs.Written.{one_written}
use Rattle.fresh.specs.Places.{with_items}
use Rattle.operators.proofs.FoldLaws.{fold_of_is_item}
use Rattle.range_walks.specs.Ranges.{reduces_of}
use Rattle.scan_walks.proofs.Segmented.{length-reduces_of}
use Rattle.segment_parts.proofs.Starts.{reduces-last, whole_lengths}
use Rattle.segment_parts.specs.Reduces.{but_last}
use Rattle.segment_parts.proofs.reduces.reduces_onto.Goals as goal

pub reduces_into-run-requires-clause-lengths : goal.reduces_into-run-requires-clause-lengths
reduces_into-run-requires-clause-lengths g c =
    whole_lengths c.lengths.result.now c.in-Some.whole.now c.in-Some._last.now c.args.lengths.now c.lengths.ensures.read c.in-Some.ensures.cases.0
    c.lengths.ensures.value c.lengths.ensures.lengths

pub join-requires-clause-first : goal.join-requires-clause-first
join-requires-clause-first g c =
    let m = g.M.Monoid in let item = g.E.Reading.item in let left = c.split_at.result.1.now in
    let all : AllPass (λ x. m.is_item (item x)) left =
    subst (AllPass (λ x. m.is_item (item x))) (sym c.split_at.ensures.back)
    (All-drop (λ x. m.is_item (item x) ≡ true) c.total_but_last.result c.args.a.now c.requires.items) in
    let sum : fold_of m.join m.unit (map item left) ≡ c.sum_from.result = ap (λ u. fold_of m.join u (map item left)) (sym c.unit.ensures) ∙ sym c.sum_from.ensures in
    subst (λ x. IsTrue (m.is_item x)) sum (fold_of_is_item c.know_laws.ensures (map item left) (All-map (λ y. m.is_item y ≡ true) item left all))

pub push-requires : goal.push-requires
push-requires g c =
    let m = g.M.Monoid in let item = g.E.Reading.item in let whole = c.in-Some.whole.now in
    let long = length-reduces_of m.join m.unit (map item c.args.a.now) (map unsigned_abs whole) in
    let written = ap (λ s. s.room) c.reduces_into-run.ensures in
    omega (
      arith,
      long,
      written,
      c.requires.room,
      length-map whole unsigned_abs,
      c.in-Some.ensures.cases.1,
      ap length c.lengths.ensures.read,
      length-map c.lengths.result.now unsigned_abs,
    )

pub returns : goal.returns
returns g c =
    let m = g.M.Monoid in let item = g.E.Reading.item in let a = c.args.a.now in let lengths = c.args.lengths.now in let whole = c.in-Some.whole.now in
    let values = reduces_of m.join m.unit (map unsigned_abs whole) (map item a) in
    let left : map item c.split_at.result.1.now ≡ drop (sum (but_last lengths)) (map item a) =
    ap (map item) (c.split_at.ensures.back ∙ ap (λ k. drop k a) c.total_but_last.ensures) ∙ sym (drop-map item (sum (but_last lengths)) a) in
    let sum_is : c.join.result ≡ m.join (fold_of m.join m.unit (drop (sum (but_last lengths)) (map item a))) c.args.behind =
    c.join.ensures ∙ ap (λ x. m.join x c.args.behind) (c.sum_from.ensures ∙ (λ i. fold_of m.join (c.unit.ensures i) (left i))) in
    one_written c.args.run c.reduces_into-run.result c.push.new.self values c.join.result c.reduces_into-run.ensures c.push.ensures
    ∙ ap (with_items c.args.run)
    (ap (λ x. values ++ x ∷ []) sum_is
    ∙ sym (reduces-last c.lengths.result.now whole c.in-Some._last.now lengths c.lengths.ensures.read c.in-Some.ensures.cases.0 m.join m.unit c.args.behind (map item a)
    (omega (arith, length-map a item, c.requires.all))))
