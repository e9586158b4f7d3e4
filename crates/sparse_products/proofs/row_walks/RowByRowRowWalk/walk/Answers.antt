use Rattle.sparse_products.proofs.Cited.{rules, ◌≡◌, ◌+◌, ◌-◌, ◌∷◌, [], length, length-append, drop, map, of_z, pos, to_z, unsigned_abs, w32, ap, ◌∙◌, arith, unwrap_or, zip, to_z-of_z}
use Rattle.sparse_products.proofs.Cited.{sum_by-take-drop, cut_of, cut_more, read_at, length_here, written_more, row_item, zip_drop, zip_take}
use Rattle.sparse_products.proofs.Answered.{found_more}
use Rattle.sparse_products.proofs.row_walks.RowByRowRowWalk.walk.Goals as goal

pub overflow_cast-entries : goal.overflow_cast-entries
overflow_cast-entries g c = (length_here c.args.rows.now.are_lengths c.loop-length-test.true).fits

pub split_at-requires : goal.split_at-requires
split_at-requires g c = let here = length_here c.args.rows.now.are_lengths c.loop-length-test.true in omega (arith, here.left, c.loop-length.invariant.covered)

pub value-value-requires-clause-few : goal.value-value-requires-clause-few
value-value-requires-clause-few g c = search (rules, length_here, sum_by-take-drop)

pub loop-length-preserved : goal.loop-length-preserved
loop-length-preserved g c =
    let rule = g.S.RowSum.rule in
    let x = c.args.x.now in
    let row = c.args.rows.now.lengths.now in
    let lengths = map unsigned_abs row in
    let s = c.loop-length.length-index in
    let n = read_at row s in
    let run = c.loop-length.run in
    let here = length_here c.args.rows.now.are_lengths c.loop-length-test.true in
    let cs = c.loop-length.columns_left.now in
    let vs = c.loop-length.values_left.now in
    let front = zip c.split_at.result.0.now c.split_at-in-loop-length.result.0.now in
    let others = zip c.split_at.result.1.now c.split_at-in-loop-length.result.1.now in
    let later = cut_of (drop (s + 1) lengths) others in
    let cut : cut_of (drop s lengths) (zip cs vs) ≡ front ∷ later = search (rules, cut_more, zip_take, zip_drop) in
    let pushed = to_z w32 (of_z w32 c.unwrap_or.result) in
    let narrow : pushed ≡ c.unwrap_or.result = grind (arith, to_z-of_z) in
    let item : pushed ≡ row_item rule x front = narrow ∙ c.unwrap_or.ensures ∙ ap (λ v. unwrap_or v (pos 0)) c.value-value.ensures in
    let place : c.next_place.result ≡ run.first + length run.items = c.next_place.ensures.place in
    let after : c.push.new.self.first + length c.push.new.self.items ≡ (run.first + length run.items) + 1 =
    omega (arith, ap (λ r. r.first) c.push.ensures, ap (λ r. length r.items) c.push.ensures, length-append run.items (pushed ∷ [])) in
    let left : c.push.new.self.room ≡ run.room - 1 = ap (λ r. r.room) c.push.ensures in
    record {
      whole = search (rules, written_more);
      found = search (rules, found_more);
      as_many = omega (arith, c.split_at.ensures.back_len, c.split_at-in-loop-length.ensures.back_len, c.loop-length.invariant.as_many);
      covered = omega (arith, here.left, c.split_at.ensures.back_len, c.loop-length.invariant.covered);
      room = omega (arith, left, c.loop-length.invariant.room, c.loop-length-test.true);
    }
