use Rattle.combining_permutes.proofs.Cited.{◌≡◌, ◌∙◌, ◌+◌, ◌<◌, All, All-get_or, All-set, ap, arith, get_or, get_or-map, get_or_from_slice_get, IsTrue, length, length-map, map, set, subst, sym, true}
use Rattle.combining_permutes.proofs.Joined.{walked_here}
use Rattle.combining_permutes.proofs.Owned.{leaves_end, leaves_next}
use Rattle.combining_permutes.proofs.ranges.join_block.Goals as goal

pub sent_from-place-requires : goal.sent_from-place-requires
sent_from-place-requires g c =
    let item = g.E.Reading.item in
    let elements = map item c.args.source.now in
    let l = c.loop-listed in
    let next = leaves_next g.M.Monoid.join c.args.index.now elements _ c.args.lowest (length c.args.out.now) (length-map c.args.source.now item ∙ c.requires.as_long) _
    c.requires.block l.out l.auto.out c.split_at.result.0.now l.listed-index l.invariant.left c.loop-listed-test.true in
    record {
      as_long = c.requires.as_long;
      inside = omega (arith, next.ends, c.requires.block);
      within = c.requires.within;
      named = next.passes;
    }

pub loop-listed-preserved : goal.loop-listed-preserved
loop-listed-preserved g c =
    let m = g.M.Monoid in
    let item = g.E.Reading.item in
    let source = c.args.source.now in
    let elements = map item source in
    let l = c.loop-listed in
    let long : length elements ≡ length c.args.index.now = length-map source item ∙ c.requires.as_long in
    let next = leaves_next m.join c.args.index.now elements _ c.args.lowest (length c.args.out.now) long _ c.requires.block l.out l.auto.out c.split_at.result.0.now l.listed-index l.invariant.left
    c.loop-listed-test.true in
    let k = get_or c.split_at.result.0.now l.listed-index 0 in
    let told = c.sent_from-place in
    let v = told.result.1 in
    let x = c.item.result in
    let y = c.index-out-place.result in
    let lt : k < length c.args.index.now = omega (arith, next.ends, c.requires.block) in
    let there : k < length source = omega (arith, lt, c.requires.as_long) in
    let inside : told.result.0 < length l.out = omega (arith, told.ensures.inside, l.auto.out) in
    let read : get_or source k v ≡ v = get_or_from_slice_get source k v v told.ensures.element in
    let element : get_or elements k x ≡ x = get_or-map item source k v x there ∙ ap item read ∙ sym c.item.ensures in
    let x_item : IsTrue (m.is_item x) = ap m.is_item c.item.ensures ∙ subst (λ w. m.is_item (item w) ≡ true) read (All-get_or (λ w. m.is_item (item w) ≡ true) source k v there c.requires.elements) in
    let y_item : IsTrue (m.is_item y) = subst (λ w. m.is_item w ≡ true) (sym c.index-out-place.is) (All-get_or (λ w. m.is_item w ≡ true) l.out told.result.0 y inside l.invariant.items) in
    record {
      left = record {
        from = k + 1;
        many = next.many;
        ends = next.ends;
        listed = next.listed;
        holds = walked_here m.join c.args.index.now elements _ c.args.lowest k long lt l.out next.holds x element told.result.0 y _ told.ensures.place inside c.index-out-place.is
            (ap (set l.out told.result.0) c.join.ensures);
      };
      items = subst (λ w. All (λ u. m.is_item u ≡ true) (set l.out told.result.0 w)) (sym c.join.ensures)
          (All-set (λ u. m.is_item u ≡ true) l.out told.result.0 (m.join y x) (c.know_laws.ensures.join_is_item y x y_item x_item) l.invariant.items);
    }

pub returns-clause-joined : goal.returns-clause-joined
returns-clause-joined g c =
    let item = g.E.Reading.item in
    let elements = map item c.args.source.now in
    let l = c.loop-listed in
    leaves_end g.M.Monoid.join c.args.index.now elements _ c.args.lowest (length c.args.out.now) (length-map c.args.source.now item ∙ c.requires.as_long) _
    c.requires.block l.out l.auto.out c.split_at.result.0.now l.listed-index l.invariant.left c.loop-listed-test.false
