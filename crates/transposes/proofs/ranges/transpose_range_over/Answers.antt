use Rattle.std.proofs.Common.{Bool, true, false, ◌==◌, List, [], ◌∷◌, refl, ◌≡◌, ◌∙◌, ◌+◌, ◌*◌, ◌/◌, ◌%◌, ◌<◌, length, sym, subst, ap, arith}
use Rattle.std.proofs.lemmas.Bool.Decides.{nat_tests}
use Rattle.std.proofs.Math.Nat.{div-add-mod}
use Rattle.transposes.specs.Transposes.{AreTurned, transpose_range_of}
use Rattle.transposes.proofs.Sources.{range_is, no_range}
use Rattle.transposes.proofs.ranges.transpose_range_over.Goals as goal

-- what a test of a room's length tells
filled : {X : Type 0} (xs : List X) (b : Bool) → b ≡ (length xs == 0) → b ≡ false → 0 < length xs
filled [] b is not_empty = absurd (cc)
filled (x ∷ xs) b is not_empty = omega arith

empty : {X : Type 0} (xs : List X) (b : Bool) → b ≡ (length xs == 0) → b ≡ true → length xs ≡ 0
empty [] b is none = refl
empty (x ∷ xs) b is none = grind (arith, nat_tests)

pub returns-then-not-is_empty : goal.returns-then-not-is_empty
returns-then-not-is_empty g c =
    let a = c.args in let now = c.write_from.new.out in
    let same : length now ≡ length a.out.now = c.write_from.auto.out in
    let first : a.lowest / a.rows * a.rows + a.lowest % a.rows ≡ a.lowest = omega (arith, div-add-mod a.lowest a.rows) in
    ap (λ n. transpose_range_of a.rows a.columns a.lowest n a.source.now) (sym same)
    ∙ range_is a.rows a.columns a.source.now c.in_ok-check_shape.ensures a.lowest now (omega (arith, same, c.in_ok-check_range.ensures))
    (omega (arith, same, filled a.out.now c.is_empty.result c.is_empty.ensures c.if-not-is_empty.true))
    (subst (λ lowest. AreTurned a.rows a.columns lowest a.source.now now) first c.write_from.ensures)

pub returns-else-not-is_empty : goal.returns-else-not-is_empty
returns-else-not-is_empty g c =
    no_range c.args.rows c.args.columns c.args.source.now c.in_ok-check_shape.ensures c.args.lowest c.args.out.now c.in_ok-check_range.ensures
    (empty c.args.out.now c.is_empty.result c.is_empty.ensures c.if-not-is_empty.false)
