-- The laws of the monoid on runs of a segmented vector, over any monoid.
-- Source: what the definitions of SegmentMonoid and Monoid imply.
use Rattle.std.proofs.Common.{◌≡◌, refl, ap, Bool, true, false, IsTrue}
use Rattle.operators.specs.Monoid.{MonoidLaws}
use Rattle.operators.specs.SegmentMonoid.{is_seg_item, seg_unit, seg_join}
use Rattle.operators.specs.BooleanLaws.{either_assoc, either_false}

module _ {Item : Type 0} {is_item : Item → Bool} {unit : Item} {join : Item → Item → Item} (laws : MonoidLaws is_item unit join) where
  joined_is_item : (f : Bool) (v : Item) (g : Bool) (w : Item) → IsTrue (is_item v) → IsTrue (is_item w)
      → IsTrue (is_seg_item is_item (seg_join join (f, v) (g, w)))
  joined_is_item f v true w p q = q
  joined_is_item f v false w p q = laws.join_is_item v w p q

  joined_assoc : (e : Bool) (u : Item) (f : Bool) (v : Item) (g : Bool) (w : Item) → IsTrue (is_item u) → IsTrue (is_item v)
      → IsTrue (is_item w)
      → seg_join join (seg_join join (e, u) (f, v)) (g, w) ≡ seg_join join (e, u) (seg_join join (f, v) (g, w))
  joined_assoc e u true v true w p q r = ap (λ b. (b, w)) (either_assoc e true true)
  joined_assoc e u false v true w p q r = ap (λ b. (b, w)) (either_assoc e false true)
  joined_assoc e u true v false w p q r = ap (λ b. (b, join v w)) (either_assoc e true false)
  joined_assoc e u false v false w p q r = λ i. (either_assoc e false false i, laws.assoc u v w p q r i)

  pub seg_laws : MonoidLaws (is_seg_item is_item) (seg_unit unit) (seg_join join)
  seg_laws = record {
    unit_is_item = laws.unit_is_item;
    join_is_item = λ a b p q. joined_is_item a.0 a.1 b.0 b.1 p q;
    assoc = λ a b c p q r. joined_assoc a.0 a.1 b.0 b.1 c.0 c.1 p q r;
    left_unit = λ a p. joined_left a.0 a.1 p;
    right_unit = λ a p i. (either_false a.0 i, laws.right_unit a.1 p i);
  }
    where
      joined_left : (g : Bool) (w : Item) → IsTrue (is_item w) → seg_join join (false, unit) (g, w) ≡ (g, w)
      joined_left true w p = refl
      joined_left false w p = ap (λ v. (false, v)) (laws.left_unit w p)
