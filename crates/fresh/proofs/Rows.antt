-- The two raw calls of a row of slots, and its places as those of a block. Assumes `Logic`.
use Rattle.fresh.proofs.Cited.{slots}
use denote.Triple.Statement.{Contract}
use Rattle.core.specs.Mem.Slots.Ownership.{slots as places, owned}
use Rattle.core.specs.contracts.slots.Slots.from_raw_parts as FR
use Rattle.core.specs.contracts.slots.Slots.into_raw_parts as IR
use Rattle.core.proofs.slots.Places as Core
use Rattle.fresh.proofs.Walks.{◌≡◌, refl, sym, ap, subst, ◌∙◌, Bool, true, ℕ, ◌*◌, ◌<◌, ◌^◌, List, [], ◌∷◌, ◌++◌, map, T, length, replicate, Ura, w64, ty_array, Val, vint, vptr, vstruct, of_list}
use Rattle.fresh.proofs.Walks.{has_ty, WT, SProp, ent, sep, ex, guard, emp, id⊢, Fml, Lft, Share, ftrue, fsep, flft, froom, Memory, Routine, Logic, sem, ◌⊑◌, Fun, fact, fact_i, Goal, Seq, Item, ‵}
use Rattle.fresh.proofs.Walks.{raw, ◌⊛◌, some, later, ◌$◌, ◌∵◌, !, qed, by, move, keep, drop, use0, use1, split, join, pick, rewrite, fsplit, fsplit3, fjoin, fjoin3, fpick, feq_l, feq_i, flt_i}
use Rattle.fresh.proofs.Walks.{check, show, await, updating, now, done, RattleType, usize, layout, row, Ptr, RawPtr, block_ptr, in_block, full_share, only, heard, nothing, Tuple, triple_of, Some}
use Rattle.fresh.proofs.Walks.{None, slots_items, slots_filled, slots_ptr, slots_len, El, el_x, elτ, R, Sr, words_val, row_val, row_had, row_made}
use Rattle.fresh.proofs.Memory.{of_room, to_row}

module _ (E : El) where
  abbrev pub Row : RattleType
  Row = Sr E

  abbrev pub all : ℕ → ℕ → List (el_x E) → List Bool → Fml
  all b o xs fs = places (R E) (block_ptr b o) xs fs

  pub row_Typed : (v : Val) (b o n : ℕ) → v ≡ row_val b o n → n < 2 ^ 64 → T (has_ty (layout Row) v) × WT v
  row_Typed v b o n e fn = subst (λ (z : Val). T (has_ty (layout Row) z) × WT z) (sym e) (tt, (tt, (record { fits = fn }, tt)))

pub parts_typed : (v : Val) (b o n : ℕ) → v ≡ row_val b o n → n < 2 ^ 64 → T (has_ty (layout (Tuple (RawPtr ∷ usize ∷ []))) v) × WT v
parts_typed v b o n e fn = subst (λ (z : Val). T (has_ty (layout (Tuple (RawPtr ∷ usize ∷ []))) z) × WT z) (sym e) (tt, (tt, (record { fits = fn }, tt)))

module _ (E : El) {M : Type 1} {𝓤 : Ura M} {𝓛 : Logic 𝓤} {K : Type 0} {Γ : List (Item 𝓤)} {G : Goal 𝓤 𝓛.H} where
  -- the row's two words are learned, and the row stays
  pub row_seen : K → (r : (Row E).Denot) (vs : List Val)
      → ((b o : ℕ) → slots_ptr r ≡ block_ptr b o → vs ≡ row_val b o (slots_len r) ∷ [] → slots_len r < 2 ^ 64 → slots_len r * Core.sz E < 2 ^ 63
      → Seq K 𝓛 (‵ ((Row E).own_val r (row_val b o (slots_len r) ∷ [])) ∷ Γ) G)
      → Seq K 𝓛 (‵ ((Row E).own_val r vs) ∷ Γ) G
  row_seen t r vs k = row_had E t r vs (λ b o at e fn fit. row_made E t r b o at fn fit $ k b o at e fn fit)

module _ (E : El) {M : Type 1} {𝓤 : Ura M} (𝓛 : Logic 𝓤) (at_mem : Memory → SProp 𝓤) (run : Routine → Fun 𝓤) where
  open 𝓛 use {H, A}

  abbrev pub From : Contract 𝓤
  From = triple_of 𝓛 (FR.signature E.row) (FR.spec E.row 𝓛 at_mem run)

  abbrev pub Into : Contract 𝓤
  Into = triple_of 𝓛 (IR.signature E.row) (IR.spec E.row 𝓛 at_mem run)

  module _ (κ : Lft) (q : Share) (b o n : ℕ) (xs : List (el_x E)) (fs : List Bool) where
    abbrev pub at_from : From.Ghost
    at_from = (((κ, tt), (q, tt), tt, (block_ptr b o, (n, tt)), (vptr b o ∷ [], (vint w64 n ∷ [], tt))), (xs, fs))

    abbrev pub Made : (Row E).Denot → Type 0
    Made r = (slots_ptr r ≡ block_ptr b o) × (slots_len r ≡ n) × (slots_items r ≡ xs) × (slots_filled r ≡ fs)

    pub from_goes : κ ⊑ E.row.lives → n ≡ length xs → n ≡ length fs → n < 2 ^ 64 → n * Core.sz E < 2 ^ 63
        → ent 𝓤 (sep 𝓤 (sem 𝓛 (all E b o xs fs)) (A.lft κ q)) (From.pre at_from)
    from_goes le lx lf fn fit =
        let Ok : Type 0 = (n ≡ length xs) × (n ≡ length fs) in
        qed 𝓛 (‵ (all E b o xs fs) ∷ ‵ (flft κ q) ∷ []) ∵ flt_i ! (n * Core.sz E) (2 ^ 63) fit $ fjoin ! $
        use0 𝓛 (raw (fact 𝓤 Ok)) (fact_i 𝓤 Ok (emp 𝓤) (lx, lf)) $ join ! $ use0 𝓛 (raw (fact 𝓤 (κ ⊑ E.row.lives))) (fact_i 𝓤 (κ ⊑ E.row.lives) (emp 𝓤) le) $ join ! $
        nothing ! $ flt_i ! n (2 ^ 64) fn $ feq_i ! (List Val) (vint w64 n ∷ []) (vint w64 n ∷ []) refl $ fjoin ! $ feq_i ! (List Val) (vptr b o ∷ []) (vptr b o ∷ []) refl $ fjoin3 ! $
        nothing ! $ move ! (3 ∷ 0 ∷ []) $ join ! $ join ! $ done !

    pub from_gives : (v : Val) → ent 𝓤 (From.post at_from v)
        (H.⇛ (ex 𝓤 (λ (r : (Row E).Denot). guard 𝓤 ((v ≡ row_val b o n) × Made r) (sep 𝓤 (sem 𝓛 ((Row E).own_val r (row_val b o n ∷ []))) (A.lft κ q)))))
    from_gives v =
        qed 𝓛 (raw (From.post at_from v) ∷ []) ∵ updating ! $
        use1 𝓛 (later (some (λ (r : (Row E).Denot). ((‵ (flft κ q) ⊛ ‵ ftrue) ⊛ ‵ ((Row E).own_val r (v ∷ [])))
        ⊛ some (λ (ws : Unit {0} × (Unit {0} × Unit {0})). ‵ (fsep ftrue (fsep ftrue ftrue)) ⊛ raw (fact 𝓤 (Made r)))))) (id⊢ 𝓤 _) $ await ! tt $ pick ! (λ r.
        split ! $ move ! (1 ∷ []) $ pick ! (λ ws. split ! $ drop ! $ heard ! (Made r) (λ is. split ! $ split ! $ move ! (2 ∷ []) $ row_seen E ! r (v ∷ []) (λ b' o' at e fn fit.
        let same : row_val b' o' (slots_len r) ≡ row_val b o n = λ i. words_val ((sym at ∙ is.0) i) (is.1 i) in
        rewrite ! 0 (λ (u : Val). ‵ ((Row E).own_val r (u ∷ []))) same refl $ now ! $
        show ! (λ (d : (Row E).Denot). guard 𝓤 ((v ≡ row_val b o n) × Made d) (sep 𝓤 (sem 𝓛 ((Row E).own_val d (row_val b o n ∷ []))) (A.lft κ q))) r $ check ! (ap only e ∙ same, is) $
        keep ! (0 ∷ 1 ∷ []) $ done !))))

  module _ (κ : Lft) (q : Share) (r : (Row E).Denot) (b o : ℕ) where
    abbrev pub at_into : Into.Ghost
    at_into = (((κ, tt), (q, tt), tt, (r, tt), (row_val b o (slots_len r) ∷ [], tt)), tt)

    pub into_goes : κ ⊑ E.row.lives → ent 𝓤 (sep 𝓤 (sem 𝓛 ((Row E).own_val r (row_val b o (slots_len r) ∷ []))) (A.lft κ q)) (Into.pre at_into)
    into_goes le =
        qed 𝓛 (‵ ((Row E).own_val r (row_val b o (slots_len r) ∷ [])) ∷ ‵ (flft κ q) ∷ []) ∵ nothing ! $ use0 𝓛 (raw (fact 𝓤 (κ ⊑ E.row.lives))) (fact_i 𝓤 (κ ⊑ E.row.lives) (emp 𝓤) le) $ join ! $
        nothing ! $ move ! (2 ∷ 0 ∷ []) $ fjoin ! $ nothing ! $ move ! (3 ∷ 0 ∷ []) $ join ! $ join ! $ done !

    pub into_gives : (v : Val) → slots_ptr r ≡ block_ptr b o → ent 𝓤 (Into.post at_into v)
        (H.⇛ (guard 𝓤 (v ≡ row_val b o (slots_len r)) (sep 𝓤 (sem 𝓛 (all E b o (slots_items r) (slots_filled r))) (A.lft κ q))))
    into_gives v at =
        let Parts : RattleType = Tuple (RawPtr ∷ usize ∷ []) in
        qed 𝓛 (raw (Into.post at_into v) ∷ []) ∵ updating ! $
        use1 𝓛 (later (some (λ (p : Parts.Denot). ((‵ (flft κ q) ⊛ ‵ ftrue) ⊛ ‵ (Parts.own_val p (v ∷ []))) ⊛ some (λ (ws : Unit {0} × Unit {0}). ‵ (fsep ftrue ftrue)
        ⊛ raw (fact 𝓤 ((p.0 ≡ slots_ptr r) × (p.1 ≡ slots_len r))) ⊛ ‵ (owned (R E) (slots_ptr r) (slots_len r) (slots_items r) (slots_filled r)))))) (id⊢ 𝓤 _) $ await ! tt $ pick ! (λ p.
        split ! $ move ! (1 ∷ []) $ pick ! (λ ws. split ! $ drop ! $ split ! $ heard ! ((p.0 ≡ slots_ptr r) × (p.1 ≡ slots_len r)) (λ is. fsplit ! $ drop ! $
        rewrite ! 0 (λ (z : Ptr). ‵ (in_block z (places (R E) z (slots_items r) (slots_filled r)))) at refl $ move ! (1 ∷ []) $ split ! $ split ! $ move ! (2 ∷ []) $
        fpick ! (λ vss. fsplit ! $ feq_l ! (λ whole. fsplit3 ! $ feq_l ! (λ e₀. fsplit ! $ feq_l ! (λ e₁. now ! $
        check ! (ap only whole ∙ (λ i. vstruct (of_list (e₀ i ++ (e₁ i ++ [])))) ∙ (λ i. words_val ((is.0 ∙ at) i) (is.1 i))) $ keep ! (4 ∷ 2 ∷ []) $ done !)))))))

module _ (E : El) {M : Type 1} {𝓤 : Ura M} (𝓛 : Logic 𝓤) (b o : ℕ) (xs : List (el_x E)) where
  -- a row of any places is as many empty ones
  pub empties : (fs : List Bool) → length fs ≡ length xs → ent 𝓤 (sem 𝓛 (all E b o xs fs)) (sem 𝓛 (slots (R E) b o (replicate (length xs) None)))
  empties fs long = qed 𝓛 (‵ (all E b o xs fs) ∷ []) ∵ use1 𝓛 (‵ (froom (ty_array (elτ E) (length xs)) b o)) (Core.to_room E 𝓛 b xs fs o long) $ by ! (of_room E 𝓛 b (length xs) o)

  -- places that hold items are a full row
  pub fills : ent 𝓤 (sem 𝓛 (slots (R E) b o (map Some xs))) (sem 𝓛 (all E b o xs (replicate (length xs) true)))
  fills = qed 𝓛 (‵ (slots (R E) b o (map Some xs)) ∷ []) ∵ use1 𝓛 (‵ (row (R E) full_share xs b o)) (to_row E 𝓛 b xs o) $ by ! (Core.of_row E 𝓛 b xs o)
