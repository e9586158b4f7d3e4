use Rattle.sparse_products.proofs.Cited.{rules, ◌≡◌, ◌+◌, ◌≤◌, length, drop, map, pos, take, unsigned_abs, sym, subst, ap, ◌∙◌, arith, List, ℕ, ℤ, sum, zip, length-map, sum_by-take-drop}
use Rattle.sparse_products.proofs.Cited.{sum_by-take-le, most_places, cut_of, length-cut, first_without, part, range_lengths, range_read, start_of, row_item, row_value, zip_drop}
use Rattle.cvl_base.specs.Descriptors.{AreLengthsWithin}
use Rattle.sparse_products.proofs.Cuts.{part_written, rows_long, rows_shared}
use Rattle.sparse_products.proofs.row_walks.RowValuesCheckedWriterI32.write.Goals as goal

-- the rows of one thread's share: their lengths, and where the first of them starts
record IsShare (row own : List ℤ) (d : List ℕ) (first count start : ℕ) : Type 0 where
  are : own ≡ take count (drop first row)
  read : map unsigned_abs own ≡ take count (drop first d)
  starts : start ≡ start_of d first

is_share : {row before behind own : List ℤ} {start : ℕ} (d : List ℕ) (first count : ℕ) → row ≡ map pos d → before ≡ take first row → behind ≡ drop first row → own ≡ take count behind
    → start ≡ sum (map unsigned_abs before) → IsShare row own d first count start
is_share {row = row} d first count value front back is starts =
    let are = is ∙ ap (take count) back in
    record {
      are = are;
      read = ap (map unsigned_abs) are ∙ range_read row d first count value;
      starts = starts ∙ ap (λ ls. sum (map unsigned_abs ls)) front ∙ ap sum (range_read row d 0 first value);
    }

-- what a function gives of the rows of a share
of_share : {Z : Type 0} (f : List (ℤ × ℤ) → Z) {row own : List ℤ} {d : List ℕ} {first count start : ℕ} → IsShare row own d first count start → (columns values : List ℤ)
    {own_columns own_values : List ℤ} → first ≤ length d → own_columns ≡ drop start columns → own_values ≡ drop start values
    → map f (cut_of (map unsigned_abs own) (zip own_columns own_values)) ≡ part (map f (cut_of d (zip columns values))) first count
of_share f share columns values le are too =
    rows_shared f _ _ (zip columns values) _ _ _ _ le share.read share.starts ((λ i. zip (are i) (too i)) ∙ zip_drop columns values _)

pub split_at-requires : goal.split_at-requires
split_at-requires g c = search (rules, rows_long)

pub split_at-requires-2 : goal.split_at-requires-2
split_at-requires-2 g c = search (rules, rows_long)

pub entries_of-start-requires : goal.entries_of-start-requires
entries_of-start-requires g c =
    subst (AreLengthsWithin most_places) (sym c.split_at.ensures.front)
    (range_lengths c.lengths.result.now c.args.self.now.rows.now 0 c.next_place-first.result c.lengths.ensures.value c.lengths.ensures.lengths)

pub split_at-requires-3 : goal.split_at-requires-3
split_at-requires-3 g c =
    let d = c.args.self.now.rows.now in
    let first = c.next_place-first.result in
    let share = is_share d first c.room-count.result c.lengths.ensures.value c.split_at.ensures.front c.split_at.ensures.back c.split_at-2.ensures.front c.entries_of-start.ensures in
    omega (arith, share.starts, sum_by-take-le (λ x. x) d first, c.args.self.now.covered)

pub split_at-requires-4 : goal.split_at-requires-4
split_at-requires-4 g c = search (rules, is_share, sum_by-take-le)

pub invariant_of-rows : goal.invariant_of-rows
invariant_of-rows g c =
    let d = c.args.self.now.rows.now in
    let first = c.next_place-first.result in
    let count = c.room-count.result in
    let share = is_share d first count c.lengths.ensures.value c.split_at.ensures.front c.split_at.ensures.back c.split_at-2.ensures.front c.entries_of-start.ensures in
    record {
      are_lengths = search (rules, range_lengths);
      as_many = omega (arith, c.split_at-3.ensures.back_len, c.split_at-4.ensures.back_len, c.args.self.now.as_many);
      covered = omega (
        arith,
        ap sum share.read,
        sum_by-take-drop (λ x. x) d first,
        sum_by-take-drop (λ x. x) (drop first d) count,
        share.starts,
        c.split_at-3.ensures.back_len,
        c.args.self.now.covered,
      );
    }

pub returns : goal.returns
returns g c =
    let m = c.args.self.now in
    let run = c.args.run in
    let rows = cut_of m.rows.now (zip m.columns.now m.values.now) in
    let item = row_item g.S.RowWalk.rule m.x.now in
    let value = row_value g.S.RowWalk.rule m.x.now in
    let first = c.next_place-first.result in
    let at : first ≡ run.first = omega (arith, c.next_place-first.ensures.place, ap length c.requires.empty) in
    let le : first ≤ length m.rows.now = omega (arith, at, c.requires.within, length-map rows item, length-cut m.rows.now (zip m.columns.now m.values.now)) in
    let share = is_share m.rows.now first c.room-count.result c.lengths.ensures.value c.split_at.ensures.front c.split_at.ensures.back c.split_at-2.ensures.front c.entries_of-start.ensures in
    let place : run.first + length run.items ≡ run.first = omega (arith, ap length c.requires.empty) in
    let items = of_share item share m.columns.now m.values.now le c.split_at-3.ensures.back c.split_at-4.ensures.back ∙ (λ i. part (map item rows) (at i) (c.room-count.ensures i)) in
    let values = of_share value share m.columns.now m.values.now le c.split_at-3.ensures.back c.split_at-4.ensures.back ∙ (λ i. part (map value rows) (at i) (c.room-count.ensures i)) in
    record {
      run = part_written run c.walk.result.0 (map item rows) _ c.requires.empty c.requires.within items c.walk.ensures.run;
      found = c.walk.ensures.found ∙ (λ i. first_without (place i) (values i));
    }
