use Rattle.sparse_products.proofs.Cited.{◌≡◌, ◌∙◌, ℕ, ◌-◌, List, length, map, unsigned_abs, ap, arith, inl, inr, sum, leb_tells, length-map, take_all, start_of}
use Rattle.sparse_products.proofs.Cited.{length_here}
use Rattle.segdes.proofs.Searched.{start_of_mono}
use Rattle.sharing.specs.Shares.{share_of_first}
use Rattle.sparse_products.proofs.row_counts.rows_of_share.Goals as goal

-- all entries, as the share counts them
all_entries : (lengths : List ℕ) (n entries : ℕ) → n ≡ length lengths → entries ≡ sum lengths → entries ≡ start_of lengths n - start_of lengths 0
all_entries lengths n entries long is = omega (arith, is, ap sum (take_all n lengths (omega (arith, long))))

pub overflow_cast-start : goal.overflow_cast-start
overflow_cast-start c = (length_here {s = c.loop-rows.rows} c.requires.lengths (omega arith)).fits

pub loop-rows-preserved : goal.loop-rows-preserved
loop-rows-preserved c =
    let lengths = map unsigned_abs c.args.lengths.now in
    let rows = c.loop-rows.rows in
    let here = length_here {s = rows} c.requires.lengths (omega arith) in
    record {
      begins = omega (arith, here.next, c.loop-rows.invariant.begins);
      within = omega arith;
      front = λ s lt. elim (leb_tells rows s) [
        | inl t ↦ let same : s ≡ rows = omega (arith, t.1, lt) in omega (arith, c.loop-rows.invariant.begins, ap (start_of lengths) same)
        | inr t ↦ c.loop-rows.invariant.front s t.1
      ];
    }

pub returns-else-start-place : goal.returns-else-start-place
returns-else-start-place c =
    let row = c.args.lengths.now in
    let lengths = map unsigned_abs row in
    let rows = c.loop-rows.rows in
    let long : length row ≡ length lengths = omega (arith, length-map row unsigned_abs) in
    let place = c.share_of_first-place.ensures.exact ∙ ap (share_of_first c.args.few c.args.threads) (all_entries lengths (length row) _ long c.entries_of.ensures) in
    record {
      in_order = omega arith;
      within = c.loop-rows.invariant.within;
      front = λ s _ lt. omega (arith, place, c.loop-rows.invariant.front s lt);
      back = λ s ge lt. omega (arith, place, c.loop-rows.invariant.begins, start_of_mono lengths rows s ge);
    }
