use Rattle.pack_dist.proofs.Cited.{◌∙◌, ◌≡◌, ◌-◌, ◌++◌, ◌<◌, ℕ, Bool, true, false, cond, length, take, get_or, refl, ap, arith, take_all, length-drop, length-set, length-take, count_by-le-length}
use Rattle.pack_dist.proofs.Cited.{count_of, stretch}
use Rattle.pack_dist.specs.Kept.{kept_of}
use Rattle.pack_dist.proofs.Packing.{block_more, count-split, counted, stored}
use Rattle.pack_dist.proofs.kept_blocks.push_by_blocks.Goals as goal
use mir.Val.{bool_byte}

byte_one : (flag : Bool) → bool_byte flag ≡ cond flag 1 0
byte_one true = refl
byte_one false = refl

pub loop-k-preserved : goal.loop-k-preserved
loop-k-preserved g c =
    let values = c.split_at.result.0.now in
    let flags = c.split_at-in-loop-values.result.0.now in
    let k = c.loop-k.k in
    let count = c.loop-k.count in
    let buffer = c.loop-k.buffer in
    let x = c.index-some_values-k.result in
    let as_long : length values ≡ length flags = omega (arith, c.split_at.ensures.front_len, c.split_at-in-loop-values.ensures.front_len) in
    let one = c.from-count.ensures ∙ byte_one (get_or flags k false) in
    let room : count < length buffer =
    omega (arith, c.loop-k-test.true, c.min-block.ensures, c.split_at-in-loop-values.ensures.front_len, c.loop-k.invariant, count_by-le-length (λ flag. flag) (take k flags), length-take k flags) in
    record {
      long = length-set buffer count x ∙ c.loop-k.invariant.long;
      count = counted flags k count c.from-count.result c.loop-k-test.true c.loop-k.invariant.count one;
      kept = stored values buffer flags k count c.from-count.result x as_long c.loop-k-test.true one room c.index-some_values-k.is c.loop-k.invariant.kept;
    }

pub push-requires : goal.push-requires
push-requires g c =
    let flags = c.loop-values.flags.now in
    let block = c.min-block.result in
    let some = c.split_at-in-loop-values.result.0.now in
    let room : c.loop-place.run.room ≡ c.loop-values.run.room - c.loop-place.place = ap (λ r. r.room) c.loop-place.invariant in
    let all : take c.loop-k.k some ≡ some = take_all c.loop-k.k some c.loop-k-test.false in
    let front = ap count_of c.split_at-in-loop-values.ensures.front in
    omega (arith, c.loop-place-test.true, c.loop-k.invariant.count, ap count_of all, front, count-split flags block, c.loop-values.invariant.room, c.requires.room)

pub loop-values-preserved : goal.loop-values-preserved
loop-values-preserved g c =
    let values = c.loop-values.values.now in
    let flags = c.loop-values.flags.now in
    let run = c.loop-values.run in
    let block = c.min-block.result in
    let of_values = c.split_at.ensures in
    let of_flags = c.split_at-in-loop-values.ensures in
    let some_values = c.split_at.result.0.now in
    let some_flags = c.split_at-in-loop-values.result.0.now in
    let buffer = c.loop-k.buffer in
    let k = c.loop-k.k in
    let place : ℕ = c.loop-place.place in
    let at_end : place ≡ c.loop-k.count = omega (arith, c.loop-place-test.false, c.loop-place.auto.place-end) in
    let all_flags : take k some_flags ≡ some_flags = take_all k some_flags c.loop-k-test.false in
    let all_values : take k some_values ≡ some_values = take_all k some_values (omega (arith, c.loop-k-test.false, of_values.front_len, of_flags.front_len)) in
    let kept : take place buffer ≡ kept_of some_values some_flags =
    ap (λ n. take n buffer) at_end ∙ c.loop-k.invariant.kept ∙ λ i. kept_of (all_values i) (all_flags i) in
    let counted_all : place ≡ count_of some_flags = at_end ∙ c.loop-k.invariant.count ∙ ap count_of all_flags in
    let is : c.loop-place.run ≡ stretch run.block run.first (run.items ++ kept_of some_values some_flags) (run.room - count_of some_flags) =
    c.loop-place.invariant ∙ λ i. stretch run.block run.first (run.items ++ kept i) (run.room - counted_all i) in
    record {
      place = (ap (λ r. r.block) is ∙ c.loop-values.invariant.place.0, ap (λ r. r.first) is ∙ c.loop-values.invariant.place.1);
      items = (λ i. c.loop-place.run.items ++ kept_of (of_values.back i) (of_flags.back i))
          ∙ block_more values flags block run.items c.loop-place.run.items
          (ap (λ r. r.items) is ∙ λ i. run.items ++ kept_of (of_values.front i) (of_flags.front i))
          ∙ c.loop-values.invariant.items;
      room = omega (arith, ap (λ r. r.room) is, ap count_of of_flags.front, ap count_of of_flags.back, count-split flags block, c.loop-values.invariant.room, c.requires.room);
      as_long = omega (arith, ap length of_values.back, ap length of_flags.back, length-drop block values, length-drop block flags, c.loop-values.invariant.as_long);
      long = c.loop-k.invariant.long;
    }
