-- Segmented scans and reduces of vectors whose elements lie on ranks.
use Rattle.std.proofs.lemmas.List.Elements.{All-cons, All-nil}
use Rattle.call_laws.proofs.Cited.{rules, ◌≡◌, ◌∷◌, ◌++◌, ◌∙◌, Bool, true, List, [], All, AllPass, All-head, All-tail, map, length, refl, sym, ap, append_assoc, append-nil, map-append, Ok, results-ok}
use Rattle.call_laws.proofs.Cited.{each_after, fold_of, in_vector, joined, MonoidLaws, nest, scan_of, scan_of-append, seg_reduce_of, seg_scan_of}
use Rattle.call_laws.specs.OverRanks.{elements_of, followed_by, goes_on_behind, going_on, open_behind, reduces_over_ranks, reduces_with, scans_over_ranks, together, up_to_start}
use Rattle.operators.proofs.FoldLaws.{fold_of-append}
use Rattle.call_laws.proofs.Cuts.{nest-joined}
use Rattle.call_laws.proofs.TwoParts.{joined-append}

-- ---- the elements

joined-going_on : {X : Type 0} (segment : List X) (others : List (List X)) (more : List X) → joined (going_on segment others more) ≡ joined (segment ∷ others) ++ more
joined-going_on segment [] more = search (rules, append-nil)
joined-going_on segment (other ∷ others) more = search (rules, append_assoc, joined-going_on other others more)

joined-followed_by : {X : Type 0} (front : List X) (segments : List (List X)) (behind : List X × List (List X))
    → (followed_by front segments behind).0 ++ joined (followed_by front segments behind).1 ≡ (front ++ joined segments) ++ (behind.0 ++ joined behind.1)
joined-followed_by front [] behind = search (rules, append_assoc, append-nil)
joined-followed_by front (segment ∷ others) behind = search (rules, append_assoc, joined-append, joined-going_on)

pub joined-together : {X : Type 0} (parts : List (List X × List (List X))) → (together parts).0 ++ joined (together parts).1 ≡ elements_of parts
joined-together [] = refl
joined-together (part ∷ others) = joined-followed_by part.0 part.1 (together others) ∙ ap (λ xs. (part.0 ++ joined part.1) ++ xs) (joined-together others)

-- ---- scans

module _ {Item : Type 0} (join : Item → Item → Item) (unit : Item) where
  scans-going_on : (segment : List Item) (others : List (List Item)) (more : List Item)
      → joined (map (scan_of join unit) (going_on segment others more))
      ≡ joined (map (scan_of join unit) (segment ∷ others)) ++ scan_of join (open_behind join unit (fold_of join unit segment) others) more
  scans-going_on segment [] more = search (rules, scan_of-append, append-nil)
  scans-going_on segment (other ∷ others) more = search (rules, append_assoc, scans-going_on other others more)

  scans-followed_by : (before : Item) (front : List Item) (segments : List (List Item)) (behind : List Item × List (List Item))
      → scan_of join before (followed_by front segments behind).0 ++ joined (map (scan_of join unit) (followed_by front segments behind).1)
      ≡ (scan_of join before front ++ joined (map (scan_of join unit) segments))
      ++ (scan_of join (open_behind join unit (fold_of join before front) segments) behind.0 ++ joined (map (scan_of join unit) behind.1))
  scans-followed_by before front [] behind = search (rules, scan_of-append, append_assoc, append-nil)
  scans-followed_by before front (segment ∷ others) behind = search (rules, append_assoc, map-append, joined-append, scans-going_on)

  scans-together : (before : Item) (parts : List (List Item × List (List Item)))
      → joined (each_after (scan_of join) unit before ((together parts).0 ∷ (together parts).1)) ≡ scans_over_ranks join unit before parts
  scans-together before [] = refl
  scans-together before (part ∷ others) =
      scans-followed_by before part.0 part.1 (together others)
      ∙ ap (λ xs. (scan_of join before part.0 ++ joined (map (scan_of join unit) part.1)) ++ xs)
      (scans-together (open_behind join unit (fold_of join before part.0) part.1) others)

-- ---- reduces

module _ {X : Type 0} (P : X → Type 0) where
  all-left : (xs ys : List X) → All P (xs ++ ys) → All P xs
  all-left [] ys all = All-nil P
  all-left (x ∷ xs) ys all = All-cons P x xs (All-head P x (xs ++ ys) all) (all-left xs ys (All-tail P x (xs ++ ys) all))

  all-right : (xs ys : List X) → All P (xs ++ ys) → All P ys
  all-right [] ys all = all
  all-right (x ∷ xs) ys all = all-right xs ys (All-tail P x (xs ++ ys) all)

module _ {Item : Type 0} {is_item : Item → Bool} {unit : Item} {join : Item → Item → Item} (laws : MonoidLaws is_item unit join) where
  left : (xs ys : List Item) → AllPass is_item (xs ++ ys) → AllPass is_item xs
  left xs ys items = all-left (λ x. is_item x ≡ true) xs ys items

  right : (xs ys : List Item) → AllPass is_item (xs ++ ys) → AllPass is_item ys
  right xs ys items = all-right (λ x. is_item x ≡ true) xs ys items

  reduces-going_on : (segment : List Item) (others : List (List Item)) (more : List Item) → AllPass is_item (joined (segment ∷ others)) → AllPass is_item more
      → map (fold_of join unit) (going_on segment others more) ≡ reduces_with join unit (segment ∷ others) (fold_of join unit more)
  reduces-going_on segment [] more items also = ap (λ r. r ∷ []) (fold_of-append laws segment more (left segment [] items) also)
  reduces-going_on segment (other ∷ others) more items also =
      ap (λ rs. fold_of join unit segment ∷ rs) (reduces-going_on other others more (right segment (joined (other ∷ others)) items) also)

  -- the elements that go on from before some ranks
  front-items : (parts : List (List Item × List (List Item))) → AllPass is_item (elements_of parts) → AllPass is_item (together parts).0
  front-items parts items = left (together parts).0 (joined (together parts).1) (subst-items (joined-together parts) items)
    where
      subst-items : {xs ys : List Item} → xs ≡ ys → AllPass is_item ys → AllPass is_item xs
      subst-items same all = rw same all

  front-reduce : (front : List Item) (segments : List (List Item)) (behind : List Item × List (List Item)) → AllPass is_item front → AllPass is_item behind.0
      → fold_of join unit (followed_by front segments behind).0 ≡ up_to_start join (fold_of join unit front) segments (fold_of join unit behind.0)
  front-reduce front [] behind items also = fold_of-append laws front behind.0 items also
  front-reduce front (segment ∷ others) behind items also = refl

  front-together : (parts : List (List Item × List (List Item))) → AllPass is_item (elements_of parts) → fold_of join unit (together parts).0 ≡ goes_on_behind join unit parts
  front-together [] items = refl
  front-together (part ∷ others) items =
      let own = left (part.0 ++ joined part.1) (elements_of others) items in
      let rest = right (part.0 ++ joined part.1) (elements_of others) items in
      front-reduce part.0 part.1 (together others) (left part.0 (joined part.1) own) (front-items others rest)
      ∙ ap (up_to_start join (fold_of join unit part.0) part.1) (front-together others rest)

  reduces-followed_by : (front : List Item) (segments : List (List Item)) (behind : List Item × List (List Item)) → AllPass is_item (joined segments) → AllPass is_item behind.0
      → map (fold_of join unit) (followed_by front segments behind).1
      ≡ reduces_with join unit segments (fold_of join unit behind.0) ++ map (fold_of join unit) behind.1
  reduces-followed_by front [] behind items also = refl
  reduces-followed_by front (segment ∷ others) behind items also =
      map-append (fold_of join unit) (going_on segment others behind.0) behind.1
      ∙ ap (λ rs. rs ++ map (fold_of join unit) behind.1) (reduces-going_on segment others behind.0 items also)

  reduces-together : (parts : List (List Item × List (List Item))) → AllPass is_item (elements_of parts)
      → map (fold_of join unit) (together parts).1 ≡ reduces_over_ranks join unit parts
  reduces-together [] items = refl
  reduces-together (part ∷ others) items =
      let own = left (part.0 ++ joined part.1) (elements_of others) items in
      let rest = right (part.0 ++ joined part.1) (elements_of others) items in
      reduces-followed_by part.0 part.1 (together others) (right part.0 (joined part.1) own) (front-items others rest)
      ∙ (λ i. reduces_with join unit part.1 (front-together others rest i) ++ reduces-together others rest i)

-- ---- the plain calls on the whole, where no segment is open before the first rank

module _ {X : Type 0} (parts : List (List X × List (List X))) (none : (together parts).0 ≡ []) where
  pub cut-together : nest (map length (together parts).1) (elements_of parts) ≡ Ok (together parts).1
  cut-together =
      ap (nest (map length (together parts).1)) (sym (joined-together parts) ∙ ap (λ xs. xs ++ joined (together parts).1) none) ∙ nest-joined (together parts).1

module _ {Item : Type 0} (join : Item → Item → Item) (unit : Item) (parts : List (List Item × List (List Item))) (none : (together parts).0 ≡ []) where
  pub seg_scan-over_ranks : seg_scan_of join unit (elements_of parts) (map length (together parts).1) ≡ Ok (scans_over_ranks join unit unit parts)
  seg_scan-over_ranks =
      let segments = (together parts).1 in
      rw (cut-together parts none, results-ok (in_vector (map length segments)) (scan_of join unit) 0 segments)
      (ap Ok (ap (λ xs. scan_of join unit xs ++ joined (map (scan_of join unit) segments)) (sym none) ∙ scans-together join unit unit parts))

module _ {Item : Type 0} {is_item : Item → Bool} {unit : Item} {join : Item → Item → Item} (laws : MonoidLaws is_item unit join)
    (parts : List (List Item × List (List Item))) (items : AllPass is_item (elements_of parts)) (none : (together parts).0 ≡ []) where
  pub seg_reduce-over_ranks : seg_reduce_of join unit (elements_of parts) (map length (together parts).1) ≡ Ok (reduces_over_ranks join unit parts)
  seg_reduce-over_ranks =
      let segments = (together parts).1 in
      rw (cut-together parts none, results-ok (in_vector (map length segments)) (fold_of join unit) 0 segments) (ap Ok (reduces-together laws parts items))
