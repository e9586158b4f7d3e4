use Rattle.call_laws.proofs.Cited.{◌≡◌, ◌∷◌, ◌++◌, ◌∙◌, ◌>>=◌, Bool, true, IsTrue, List, [], length, take, drop, map, nat_lt, sym, ap, arith, length-append, inl, inr, Ok, sum, AllPass, lt-ltb}
use Rattle.call_laws.proofs.Cited.{eqb_tells, fold_of, MonoidLaws, nest, cut_of, in_vector, length-cut, nest-fits, nest-misfits, fold_from, All-take, each_after}
use Rattle.cvl_base.specs.SegmentMonoid.{seg_join}
use Rattle.call_laws.proofs.Segments.{each-ok}
use Rattle.call_laws.proofs.cut_segments.know_carries.Goals as goal

module _ {Item : Type 0} {is_item : Item → Bool} {unit : Item} {join : Item → Item → Item} (laws : MonoidLaws is_item unit join) (f : Bool) (carry last : Item)
    (is : IsTrue (is_item carry)) where
  last-out : (first : List Item) (others : List (List Item)) (closed : List Item) → AllPass is_item first
      → fold_of join unit first ∷ map (fold_of join unit) others ≡ closed ++ last ∷ []
      → (before : List Item) × (fold_of join carry first ∷ map (fold_of join unit) others ≡ before ++ (seg_join join (f, carry) (nat_lt 0 (length others), last)).1 ∷ [])
  last-out first [] [] items same =
      let sum_is : fold_of join unit first ≡ last = cc in
      ([], ap (λ r. r ∷ []) (fold_from laws carry first is items ∙ ap (join carry) sum_is))
  last-out first [] (c ∷ closed) items same =
      let rest : [] ≡ closed ++ last ∷ [] = cc in absurd (omega (arith, ap length rest, length-append closed (last ∷ [])))
  last-out first (other ∷ others) [] items same = cc
  last-out first (other ∷ others) (c ∷ closed) items same =
      let rest : map (fold_of join unit) (other ∷ others) ≡ closed ++ last ∷ [] = cc in
      let starts : nat_lt 0 (length (other ∷ others)) ≡ true = lt-ltb 0 (length (other ∷ others)) (omega arith) in
      (fold_of join carry first ∷ closed, rw (rest, starts))

pub returns : goal.returns
returns g c = λ started carry last xs closed n lengths is items reduced.
    let join = g.M.Monoid.join in
    let unit = g.M.Monoid.unit in
    let segments = cut_of lengths (drop n xs) in
    let all = each-ok (in_vector (n ∷ lengths)) (fold_of join unit) (nest (n ∷ lengths) xs) in
    elim (eqb_tells (sum (n ∷ lengths)) (length xs)) [
      | inl t ↦
          let found : Ok (fold_of join unit (take n xs) ∷ map (fold_of join unit) segments) ≡ Ok (closed ++ last ∷ []) =
          sym (all ∙ ap (λ r. r >>= λ ss. Ok (map (fold_of join unit) ss)) (nest-fits (n ∷ lengths) xs t.1)) ∙ reduced in
          let parts = last-out g.met.M.Monoid.laws started carry last is (take n xs) segments closed (All-take (λ x. g.M.Monoid.is_item x ≡ true) n xs items) cc in (
            parts.0,
            ap (λ r. r >>= λ ss. Ok (each_after (fold_of join) unit carry ss)) (nest-fits (n ∷ lengths) xs t.1)
                ∙ ap Ok parts.1
                ∙ ap (λ k. Ok (parts.0 ++ (seg_join join (started, carry) (nat_lt 0 k, last)).1 ∷ [])) (length-cut lengths (drop n xs)),
          )
      | inr t ↦ let none = all ∙ ap (λ r. r >>= λ ss. Ok (map (fold_of join unit) ss)) (nest-misfits (n ∷ lengths) xs t.1) in cc
    ]
