-- The block of a vector is a row of places and the right to free it, and back. Assumes `Logic`.
use Rattle.fresh.proofs.Cited.{El, el_x, elτ, R, sz, Hd, slots}
use mir.Raw.{raw as bare}
use denote.Array.{Array}
use Rattle.core.specs.Allocator.{block_with_items}
use Rattle.core.proofs.mem.Param as one
use Rattle.std_alloc.proofs.VecSteps.Rows.{apart, whole}
use Rattle.fresh.proofs.Walks.{◌≡◌, ap, Bool, true, false, not, ℕ, zero, suc, ◌+◌, ◌-◌, ◌*◌, ◌≤◌, arith, List, [], ◌∷◌, ◌++◌, map, T, length, replicate, length-map, Ura, full_share, ty_array, ent}
use Rattle.fresh.proofs.Walks.{sep, emp, Fml, ftrue, froom, Logic, sem, ‵, ◌⊛◌, given, ◌$◌, ◌∵◌, !, qed, move, keep, use0, use1, use2, split, learn, fsplit3, fjoin, done, part_at, row, block_ptr}
use Rattle.fresh.proofs.Walks.{token, Some, None, owns_if, as_raw, as_written}
use Rattle.fresh.proofs.Memory.{cut, glue, of_row, to_row, of_room, to_room}

abbrev pub el : El → one.El
el E = record { row = E.row; laws = E.laws }

module _ (E : El) {M : Type 1} {𝓤 : Ura M} (𝓛 : Logic 𝓤) (b o : ℕ) (a : Hd E) where
  abbrev s : ℕ
  s = sz E

  -- the right to free a block of c places
  abbrev pub Frees : ℕ → Fml
  Frees c = token E.al a (bare (ty_array (elτ E) c)) (block_ptr b o)

  -- a block of c places, of which the first n hold xs
  abbrev pub Holds : ℕ → ℕ → List (el_x E) → Fml
  Holds n c xs = block_with_items (token E.al a) (R E) (block_ptr b o) n c xs

  pub items_out : (y : Bool) (n c : ℕ) (xs : List (el_x E)) → (T (not y) → c ≡ 0) → n ≡ length xs → n ≤ c
      → ent 𝓤 (sem 𝓛 (owns_if y (Holds n c xs))) (sep 𝓤 (sem 𝓛 (slots (R E) b o (map Some xs ++ replicate (c - n) None))) (sem 𝓛 (owns_if y (Frees c))))
  items_out false n c xs dead long le = qed 𝓛 (‵ ftrue ∷ []) ∵
      use0 𝓛 (‵ (slots (R E) b o (map Some xs ++ replicate (c - n) None))) (nothing_there xs (omega (arith, dead tt)) (c - n) (omega (arith, dead tt))) $ done !
    where
      nothing_there : (xs : List (el_x E)) → length xs ≡ 0 → (k : ℕ) → k ≡ 0 → ent 𝓤 (emp 𝓤) (sem 𝓛 (slots (R E) b o (map Some xs ++ replicate k None)))
      nothing_there [] e zero none = qed 𝓛 [] ∵ done !
      nothing_there [] e (suc k) none = absurd (omega arith)
      nothing_there (x ∷ xs) e k none = absurd (omega arith)
  items_out true n c xs dead long le =
      let at : o + n * s ≡ length (map Some xs) * s + o = let same : n ≡ length (map Some xs) = omega (arith, length-map xs Some) in let more = ap (λ j. j * s) same in omega arith in
      qed 𝓛 (‵ (Holds n c xs) ∷ []) ∵ fsplit3 ! $
      use1 𝓛 (given (length xs ≡ n) (‵ (row (R E) full_share xs b o))) (apart E 𝓛 full_share n xs b o) $ learn ! (λ _.
      use1 𝓛 (‵ (slots (R E) b o (map Some xs))) (of_row (el E) 𝓛 b xs o) $ move ! (1 ∷ []) $
      as_written ! (ty_array (elτ E) (c - n)) b (o + n * s) $
      use1 𝓛 (‵ (slots (R E) b (o + n * s) (replicate (c - n) None))) (of_room (el E) 𝓛 b (c - n) (o + n * s)) $ move ! (1 ∷ 0 ∷ []) $
      use2 𝓛 (‵ (slots (R E) b o (map Some xs ++ replicate (c - n) None))) (glue (el E) 𝓛 b (map Some xs) (replicate (c - n) None) o (o + n * s) at) $ done !)

  pub items_in : (y : Bool) (n c : ℕ) (xs : List (el_x E)) → length xs ≡ n
      → ent 𝓤 (sep 𝓤 (sem 𝓛 (slots (R E) b o (map Some xs ++ replicate (c - n) None))) (sem 𝓛 (owns_if y (Frees c)))) (sem 𝓛 (owns_if y (Holds n c xs)))
  items_in false n c xs long = qed 𝓛 (‵ (slots (R E) b o (map Some xs ++ replicate (c - n) None)) ∷ ‵ ftrue ∷ []) ∵ keep ! (1 ∷ []) $ done !
  items_in true n c xs long =
      let count : n ≡ length (map Some xs) = omega (arith, length-map xs Some) in
      let at : o + n * s ≡ length (map Some xs) * s + o = let same = ap (λ j. j * s) count in omega arith in
      qed 𝓛 (‵ (slots (R E) b o (map Some xs ++ replicate (c - n) None)) ∷ ‵ (Frees c) ∷ []) ∵
      use1 𝓛 (‵ (slots (R E) b o (map Some xs)) ⊛ ‵ (slots (R E) b (o + n * s) (replicate (c - n) None))) (cut (el E) 𝓛 b (map Some xs) (replicate (c - n) None) o (o + n * s) at) $ split ! $
      use1 𝓛 (‵ (row (R E) full_share xs b o)) (to_row (el E) 𝓛 b xs o) $ use1 𝓛 (‵ (part_at (Array (R E) n) full_share xs b o)) (whole E 𝓛 full_share n xs b o long) $ move ! (1 ∷ []) $
      use1 𝓛 (‵ (froom (ty_array (elτ E) (c - n)) b (o + n * s))) (to_room (el E) 𝓛 b (c - n) (o + n * s)) $ as_raw ! (ty_array (elτ E) (c - n)) b (o + n * s) $
      move ! (0 ∷ 2 ∷ []) $ fjoin ! $ move ! (1 ∷ 0 ∷ []) $ fjoin ! $ done !
