-- What a monoid is. Its items are some of the values of a type, and the laws hold only of items.
-- Source: Blelloch, Vector Models for Data-Parallel Computing, 1990 (a scan requires an associative operator with an identity).
use Rattle.std.specs.Prelude.{◌≡◌, Bool, IsTrue}

-- the join of two items is an item, joins associate, and the unit joins to the other side
pub record MonoidLaws {Item : Type 0} (is_item : Item → Bool) (unit : Item) (join : Item → Item → Item) : Type 0 where
  pub unit_is_item : IsTrue (is_item unit)
  pub join_is_item : (a b : Item) → IsTrue (is_item a) → IsTrue (is_item b) → IsTrue (is_item (join a b))
  pub assoc : (a b c : Item) → IsTrue (is_item a) → IsTrue (is_item b) → IsTrue (is_item c) → join (join a b) c ≡ join a (join b c)
  pub left_unit : (a : Item) → IsTrue (is_item a) → join unit a ≡ a
  pub right_unit : (a : Item) → IsTrue (is_item a) → join a unit ≡ a
