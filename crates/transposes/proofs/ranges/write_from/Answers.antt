use Rattle.std.proofs.Common.{◌≡◌, ◌∙◌, ℕ, ◌+◌, ◌-◌, ◌*◌, ◌/◌, ◌<◌, ◌≤◌, List, inl, min, get_or, length, length-drop, length-take-le, take, drop, sym, refl, ap, arith}
use Rattle.transposes.proofs.ColumnRuns.{AreRuns, AreWritten, all_turned, column_below, head_below, last_below, last_short, put_long, whole_fits, whole_within}
use Rattle.transposes.proofs.Shapes.{element_within}
use Rattle.transposes.proofs.ranges.write_from.Goals as goal

runs : (rows columns column row n old head elements : ℕ) → n ≡ old → row < rows → 0 < old → rows * columns ≡ elements → column * rows + row + old ≤ elements
    → head ≡ min old (rows - row) → AreRuns rows columns column row n head ((n - head) / rows)
runs rows columns column row n old head elements same lt some long within is = record {
  lt = lt;
  some = omega (arith, some, same);
  fits = omega (arith, within, long, same);
  head_is = is ∙ ap (λ k. min k (rows - row)) (sym same);
  whole_is = refl;
}

pub write_strided-requires-clause-within : goal.write_strided-requires-clause-within
write_strided-requires-clause-within g c =
    let a = c.args in let m = a.matrix.now in let r = c.requires in let n = length a.out.now in
    let cut = runs m.rows m.columns a.column a.row n n c.min-head.result (length m.elements.now) refl r.row r.some m.long r.within c.min-head.ensures in
    λ k lt. omega (arith, m.long, element_within m.rows m.columns (a.row + k) a.column (head_below cut k lt) (column_below cut))

pub transpose_columns-requires-clause-columns_within : goal.transpose_columns-requires-clause-columns_within
transpose_columns-requires-clause-columns_within g c =
    let a = c.args in let m = a.matrix.now in let r = c.requires in
    whole_fits
    (runs m.rows m.columns a.column a.row (length c.write_strided.new.out) (length a.out.now) c.min-head.result (length m.elements.now)
    c.write_strided.auto.out r.row r.some m.long r.within c.min-head.ensures)

-- the middle of a room, from its head to its tail
middle_of : {X : Type 0} (rows columns column row n head whole : ℕ) (first middle : List X) → AreRuns rows columns column row n head whole → length first ≡ n
    → length middle ≡ length (take (head + whole * rows - head) (drop head first)) → length middle ≡ whole * rows
middle_of rows columns column row n head whole first middle cut long is =
    omega (arith, is, length-take-le (head + whole * rows - head) (drop head first) (omega (arith, length-drop head first, long, whole_within cut)))

pub write_strided-requires-2-clause-within : goal.write_strided-requires-2-clause-within
write_strided-requires-2-clause-within g c = λ k lt.
    let a = c.args in let m = a.matrix.now in let q = c.requires in let first = c.write_strided.new.out in
    let head = c.min-head.result in let whole = (length first - head) / m.rows in
    let cut = runs m.rows m.columns a.column a.row (length first) (length a.out.now) head (length m.elements.now)
    c.write_strided.auto.out q.row q.some m.long q.within c.min-head.ensures in
    let middle = middle_of m.rows m.columns a.column a.row (length first) head whole first c.transpose_columns.new.out cut refl c.transpose_columns.auto.out in
    let inside = put_long cut first c.transpose_columns.new.out (head + whole * m.rows) refl middle refl in
    let before : head + whole * m.rows < length first = omega (arith, lt, inside) in
    omega (
      arith,
      m.long,
      element_within m.rows m.columns k (a.column + 1 + whole) (omega (arith, lt, inside, last_short cut)) (last_below cut before),
    )

pub returns : goal.returns
returns g c = λ r col d within from to.
    let a = c.args in let m = a.matrix.now in let q = c.requires in let first = c.write_strided.new.out in let out = c.write_strided-2.new.out in
    let head = c.min-head.result in let whole = (length first - head) / m.rows in
    let cut = runs m.rows m.columns a.column a.row (length first) (length a.out.now) head (length m.elements.now)
    c.write_strided.auto.out q.row q.some m.long q.within c.min-head.ensures in
    let middle = middle_of m.rows m.columns a.column a.row (length first) head whole first c.transpose_columns.new.out cut refl c.transpose_columns.auto.out in
    let inside = put_long cut first c.transpose_columns.new.out (head + whole * m.rows) refl middle refl in
    let written : AreWritten m.rows m.columns a.column a.row (length first) head whole (head + whole * m.rows) m.elements.now first c.transpose_columns.new.out out =
    record {
      long = refl;
      middle_long = middle;
      tail_is = refl;
      started = λ k e lt. ap (λ j. get_or first j e) (omega arith) ∙ c.write_strided.ensures.written k e lt;
      turned = c.transpose_columns.ensures.moved;
      ended = λ k e lt. c.write_strided-2.ensures.written k e (omega (arith, lt, inside));
      others = λ i e lt. c.write_strided-2.ensures.others i e (inl lt);
    } in
    all_turned cut written r col d within from (omega (arith, to, c.write_strided-2.auto.out, inside))
