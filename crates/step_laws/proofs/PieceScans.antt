-- The scans of the pieces of a segmented vector, each after what stands before it, are the scans of its segments.
use Rattle.std.proofs.Common.{◌≡◌, ◌++◌, ◌+◌, ◌⊎◌, ◌∙◌, ℕ, suc, Bool, true, false, List, [], ◌∷◌, map, take, drop, Some, slice_get, IsTrue, if◌then◌else◌}
use Rattle.std.proofs.Common.{refl, sym, ap, arith, inl, inr, All, append_assoc, take_all, zip, sum, ⊎_elim}
use Rattle.std.proofs.lemmas.List.{append-nil, drop_all, map-append}
use Rattle.std.proofs.lemmas.List.Elements.{All-drop, All-head, All-tail}
use Rattle.std.specs.List.{AllPass, fold}
use Rattle.call_laws.proofs.TwoParts.{joined-append}
use Rattle.call_laws.specs.Carried.{each_after}
use Rattle.call_laws.specs.OverRanks.{open_behind, scans_over_ranks}
use Rattle.cvl_base.specs.Folds.{fold_of, scan_of}
use Rattle.cvl_base.specs.Lists.{joined}
use Rattle.cvl_base.specs.Monoid.{MonoidLaws}
use Rattle.cvl_base.specs.Nests.{cut_of}
use Rattle.cvl_base.specs.SegmentMonoid.{seg_join, seg_unit}
use Rattle.operators.proofs.FoldLaws.{fold_from, fold_of_is_item, scan_of-cons}
use Rattle.operators.specs.Booleans.{either}
use Rattle.scan_walks.specs.Ranges.{scans_of}
use Rattle.segment_parts.specs.Carries.{before_each}
use Rattle.segment_parts.specs.Parts.{scans_in_part}
use Rattle.step_laws.specs.Pieces.{IsPiece, MayPrecede, Piece, if_some, segments_in, since_start, tail_of}

module _ {Item : Type 0} (join : Item → Item → Item) (unit : Item) where
  -- the scans of a piece's head, of its segments and of its tail
  abbrev pub scans_in : Item → Piece Item → List Item
  scans_in before p = scans_in_part join unit before p.head p.lengths p.elements

  -- what a piece tells
  abbrev pub tells : Piece Item → Item
  tells p = fold_of join unit (since_start p)

  scan-if_some : (xs : List Item) → joined (map (scan_of join unit) (if_some xs)) ≡ scan_of join unit xs
  scan-if_some [] = refl
  scan-if_some (x ∷ xs) = append-nil (scan_of join unit (x ∷ xs))

  as-rank : (before : Item) (p : Piece Item) → scans_in before p ≡ joined (each_after (scan_of join) unit before ((segments_in p).0 ∷ (segments_in p).1))
  as-rank before p =
      let front = scan_of join before (take p.head p.elements) in
      let whole = cut_of p.lengths (drop p.head p.elements) in
      let behind = if_some (tail_of p) in
      append_assoc front (joined (map (scan_of join unit) whole)) (scan_of join unit (tail_of p))
      ∙ ap (λ zs. front ++ zs)
      (ap (λ zs. joined (map (scan_of join unit) whole) ++ zs) (sym (scan-if_some (tail_of p)))
      ∙ sym (joined-append (map (scan_of join unit) whole) (map (scan_of join unit) behind))
      ∙ ap joined (sym (map-append (scan_of join unit) whole behind)))

  -- a tail is what is open behind its piece
  open-tail : (before : Item) (whole : List (List Item)) (x : Item) (xs : List Item) → open_behind join unit before (whole ++ (x ∷ xs) ∷ []) ≡ fold_of join unit (x ∷ xs)
  open-tail before [] x xs = refl
  open-tail before (segment ∷ others) x xs = open-tail (fold_of join unit segment) others x xs

  -- with no head it does not matter what stands before a piece
  same-scans : (before opened : Item) (p : Piece Item) → (p.head ≡ 0) ⊎ (before ≡ opened) → scans_in before p ≡ scans_in opened p
  same-scans before opened p right =
      ⊎_elim
      (λ (none : p.head ≡ 0).
      let empty : take p.head p.elements ≡ [] = ap (λ k. take k p.elements) none in
      let nothing : (b : Item) → scan_of join b (take p.head p.elements) ≡ [] = λ b. ap (scan_of join b) empty in
      ap (λ zs. zs ++ scans_of join unit p.lengths (drop p.head p.elements) ++ scan_of join unit (tail_of p)) (nothing before ∙ sym (nothing opened)))
      (λ (same : before ≡ opened). ap (λ b. scans_in b p) same)
      right

module _ {Item : Type 0} {is_item : Item → Bool} {unit : Item} {join : Item → Item → Item} (laws : MonoidLaws is_item unit join) where
  -- what stands behind a piece in which a segment starts or not
  abbrev carry : Bool → Item → Item → Item
  carry starts before told = if starts then told else join before told

  -- what stands behind a piece is an item
  carry_is_item : (starts : Bool) (before told : Item) → IsTrue (is_item before) → IsTrue (is_item told) → IsTrue (is_item (carry starts before told))
  carry_is_item true before told is also = also
  carry_is_item false before told is also = laws.join_is_item before told is also

  behind-start : (before opened : Item) (head : ℕ) (whole : List (List Item)) (tail : List Item) → (tail ≡ [] → head ≡ 0)
      → (head ≡ 0) ⊎ (fold_of join unit tail ≡ open_behind join unit opened (whole ++ if_some tail))
  behind-start before opened head whole [] none = inl (none refl)
  behind-start before opened head whole (x ∷ xs) none = inr (sym (open-tail join unit opened whole x xs))

  -- what stands before each piece, if `before` stands before the first, behind a start or not
  abbrev pub befores : Bool → Item → List (Piece Item) → List Item
  befores started before ps = map (λ w. w.1) (scan_of (seg_join join) (started, before) (map (λ p. (p.starts, tells join unit p)) ps))

  befores-cons : (started : Bool) (before : Item) (p : Piece Item) (ps : List (Piece Item))
      → befores started before (p ∷ ps) ≡ before ∷ befores (either started p.starts) (carry p.starts before (tells join unit p)) ps
  befores-cons started before p ps =
      ap (map (λ w. w.1)) (scan_of-cons (seg_join join) (started, before) (p.starts, tells join unit p) (map (λ q. (q.starts, tells join unit q)) ps))

  -- what stands behind a piece is what is open there, unless nothing goes on
  behind-piece : (before opened : Item) (p next : Piece Item) → IsPiece p → MayPrecede p next → AllPass is_item p.elements → IsTrue (is_item before)
      → (p.head ≡ 0) ⊎ (before ≡ opened) → (starts : Bool) → p.starts ≡ starts
      → (next.head ≡ 0) ⊎ (carry starts before (fold_of join unit (if starts then tail_of p else p.elements))
      ≡ open_behind join unit (fold_of join opened (segments_in p).0) (segments_in p).1)
  behind-piece before opened p next is follows items item right true starts =
      behind-start before (fold_of join opened (segments_in p).0) next.head (cut_of p.lengths (drop p.head p.elements)) (tail_of p) (λ none. follows starts none)
  behind-piece before opened p next is follows items item right false starts =
      let all = is.all_head starts in
      let front : take p.head p.elements ≡ p.elements = take_all p.head p.elements (omega (arith, all.0)) in
      let no_tail : tail_of p ≡ [] = drop_all (p.head + sum p.lengths) p.elements (omega (arith, all.0)) in
      let none : (segments_in p).1 ≡ [] = (λ i. cut_of (all.1 i) (drop p.head p.elements) ++ if_some (no_tail i)) in
      let goes_on : open_behind join unit (fold_of join opened (segments_in p).0) (segments_in p).1 ≡ fold join opened p.elements =
      (λ i. open_behind join unit (fold_of join opened (front i)) (none i)) in
      ⊎_elim
      (λ (no_head : p.head ≡ 0). absurd (omega (arith, no_head, all.0, is.some)))
      (λ (same : before ≡ opened). inr (sym (fold_from laws before p.elements item items) ∙ ap (λ b. fold join b p.elements) same ∙ sym goes_on))
      right

  since_items : (p : Piece Item) → AllPass is_item p.elements → (starts : Bool) → AllPass is_item (if starts then tail_of p else p.elements)
  since_items p items true = All-drop (λ x. is_item x ≡ true) (p.head + sum p.lengths) p.elements items
  since_items p items false = items

  -- each piece and the next one
  abbrev AreNext : List (Piece Item) → Type 0
  AreNext ps = (k : ℕ) (p q : Piece Item) → slice_get ps k ≡ Some p → slice_get ps (k + 1) ≡ Some q → MayPrecede p q

  others-next : (p : Piece Item) (ps : List (Piece Item)) → AreNext (p ∷ ps) → AreNext ps
  others-next p ps next = λ k x y here there. next (suc k) x y here (let one : suc k + 1 ≡ suc (k + 1) = omega arith in ap (slice_get (p ∷ ps)) one ∙ there)

  pub zip-tells : (ps : List (Piece Item)) → zip (map (λ p. p.starts) ps) (map (tells join unit) ps) ≡ map (λ p. (p.starts, tells join unit p)) ps
  zip-tells [] = refl
  zip-tells (p ∷ ps) = ap (λ ws. (p.starts, tells join unit p) ∷ ws) (zip-tells ps)

  -- the carries of what all pieces tell
  pub carries-cut : (ps : List (Piece Item)) → before_each join unit (map (λ p. p.starts) ps) (map (tells join unit) ps) ≡ befores false unit ps
  unfolding before_each
  carries-cut ps = ap (λ ws. map (λ w. w.1) (scan_of (seg_join join) (seg_unit unit) ws)) (zip-tells ps)

  -- the scans of pieces, each after one of some values
  abbrev pub all_scans : List Item → List (Piece Item) → List Item
  all_scans bs ps = joined (map (λ w. scans_in join unit w.0 w.1) (zip bs ps))

  from-piece : (started : Bool) (before opened : Item) (p : Piece Item) (ps : List (Piece Item)) → (p.head ≡ 0) ⊎ (before ≡ opened) → IsTrue (is_item before)
      → All IsPiece (p ∷ ps) → AreNext (p ∷ ps) → All (AllPass is_item) (map (λ q. q.elements) (p ∷ ps))
      → all_scans (befores started before (p ∷ ps)) (p ∷ ps) ≡ scans_over_ranks join unit opened (map segments_in (p ∷ ps))
  from-piece started before opened p [] right item are next items =
      let first = same-scans join unit before opened p right ∙ as-rank join unit opened p in
      ap (λ bs. all_scans bs (p ∷ [])) (befores-cons started before p []) ∙ ap (λ zs. zs ++ []) first
  from-piece started before opened p (q ∷ qs) right item are next items =
      let own = All-head (AllPass is_item) p.elements (map (λ r. r.elements) (q ∷ qs)) items in
      let rest = All-tail (AllPass is_item) p.elements (map (λ r. r.elements) (q ∷ qs)) items in
      let is = All-head IsPiece p (q ∷ qs) are in
      let behind = behind-piece before opened p q is (next 0 p q refl refl) own item right p.starts refl in
      let also = carry_is_item p.starts before (tells join unit p) item (fold_of_is_item laws (since_start p) (since_items p own p.starts)) in
      let first = same-scans join unit before opened p right ∙ as-rank join unit opened p in
      let others =
      from-piece (either started p.starts) (carry p.starts before (tells join unit p)) (open_behind join unit (fold_of join opened (segments_in p).0) (segments_in p).1) q qs behind also
      (All-tail IsPiece p (q ∷ qs) are) (others-next p (q ∷ qs) next) rest in
      ap (λ bs. all_scans bs (p ∷ q ∷ qs)) (befores-cons started before p (q ∷ qs)) ∙ (λ i. first i ++ others i)

  -- the scans of all pieces, each after what its carry says, are those of the ranks
  pub scans-cut : (ps : List (Piece Item)) → All IsPiece ps → AreNext ps → All (AllPass is_item) (map (λ q. q.elements) ps)
      → all_scans (befores false unit ps) ps ≡ scans_over_ranks join unit unit (map segments_in ps)
  scans-cut [] are next items = refl
  scans-cut (p ∷ ps) are next items = from-piece false unit unit p ps (inr refl) laws.unit_is_item are next items
