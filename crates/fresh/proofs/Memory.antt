-- What the walks share. Assumes `Logic`.
--     word_had, word_made, mark_had, mark_made      a value of one pointer, and one of no bytes
--     cut, glue      a row of places is parted in two, and two rows that meet become one
--     slot_out, slot_in      one place is taken out of the row, and put back
--     value_out, value_in      one value is taken out of its place, and put there
--     of_room, to_room      room for an array is a row of empty places
use Rattle.fresh.proofs.Cited.{drop, Laws, param_laws, Shape, Struct, within, shape, type_size, slot, slots}
use lib.Seq.{drop-cons, set_split}
use denote.Laws.{Typed, Is, shows}
use denote.Shadow.{makes_shadow}
use denote.Struct.Declared as Declared
use borrow.Table.OneValue.{part_in, part_out}
use Rattle.fresh.proofs.Walks.{◌≡◌, refl, sym, ap, subst, ◌∙◌, ℕ, zero, suc, ◌+◌, ◌*◌, ◌<◌, ◌≤◌, arith, zero-mul, suc-mul, List, [], ◌∷◌, ◌++◌, map, length, take, set, get_or, replicate}
use Rattle.fresh.proofs.Walks.{take-append-drop, length-take, Ura, full_share, Ty, ty_array, Val, vstruct, vcons, vnil, of_list, ent, sep, emp, id⊢, mono_r, Fml, ftrue, fsep, froom, Logic, sem}
use Rattle.fresh.proofs.Walks.{Item, Goal, Seq, Step, step, ‵, ◌⊛◌, ◌$◌, ◌∵◌, !, qed, by, move, keep, drop as skip, use1, use2, split, frame, fsplit, fjoin, fpick, fpack, feq_i, feq_l, rewrite}
use Rattle.fresh.proofs.Walks.{some, pick, show, check}
use Rattle.fresh.proofs.Walks.{done, RattleType, Valss, param, layout, part_at, Ptr, RawPtr, ptr_val, row, nothing, peeks, ex, guard, fat, Tuple, tuple_type, Option, Some, None, El, R, el_x, elτ}
use Rattle.fresh.proofs.Walks.{Good, word}
use Rattle.fresh.specs.contracts.cells.Cells as C-type
use Rattle.fresh.specs.contracts.cells.Base as B-type

module _ (E : El) where
  abbrev pub Cr : RattleType
  Cr = C-type.the_row (R E)

  abbrev pub Bs : RattleType
  Bs = B-type.the_row (R E)

  -- the one field of `Cells`, which takes no bytes
  abbrev pub Mark : RattleType
  Mark = Struct (shape (C-type.the_type (R E)))

  abbrev pub sz : ℕ
  sz = type_size (R E)

  abbrev pub Place : Type 0
  Place = Option (el_x E)

abbrev one_field : Shape
one_field = record { name = []; args = []; types = []; fields = RawPtr ∷ [] }

abbrev pub Word : RattleType
Word = Struct one_field

abbrev pub mark : Val
mark = vstruct (vcons (vstruct vnil) vnil)

pub mark_made : (E : El) {M : Type 1} {𝓤 : Ura M} (𝓛 : Logic 𝓤) → ent 𝓤 (emp 𝓤) (sem 𝓛 ((Mark E).own_val (tt, tt) (mark ∷ [])))
mark_made E 𝓛 = makes_shadow 𝓛 ((Mark E).own_val (tt, tt) (mark ∷ [])) (λ vss. (tt, ((λ uss. (tt, tt)), tt))) ((vstruct vnil ∷ [], tt), (refl, ((tt, (refl, tt)), tt)))

module _ {M : Type 1} {𝓤 : Ura M} {𝓛 : Logic 𝓤} {K : Type 0} {Γ : List (Item 𝓤)} {G : Goal 𝓤 𝓛.H} where
  pub word_had : K → (c : Ptr) (vs : List Val) → (vs ≡ word c ∷ [] → Seq K 𝓛 Γ G) → Seq K 𝓛 (‵ (Word.own_val (c, tt) vs) ∷ Γ) G
  word_had t c vs k = fpick t (λ vss. fsplit t $ feq_l t (λ ev. fsplit t $ feq_l t (λ e. skip t $ k (subst (λ (ws : List Val). vs ≡ vstruct (of_list (ws ++ [])) ∷ []) e ev))))

  pub word_made : K → (c : Ptr) → Step K 𝓛 (‵ (Word.own_val (c, tt) (word c ∷ [])) ∷ Γ) G Γ G
  word_made t c = step (λ s.
      nothing t $ feq_i t (List Val) (ptr_val c ∷ []) (ptr_val c ∷ []) refl $ fjoin t $ feq_i t (List Val) (word c ∷ []) (word c ∷ []) refl $ fjoin t $
      fpack t (Valss (RawPtr ∷ [])) (within one_field (c, tt) (word c ∷ [])) (ptr_val c ∷ [], tt) $ s)

  pub mark_had : K → (E : El) (vs : List Val) → (vs ≡ mark ∷ [] → Seq K 𝓛 Γ G) → Seq K 𝓛 (‵ ((Mark E).own_val (tt, tt) vs) ∷ Γ) G
  mark_had t E vs k = fpick t (λ vss. fsplit t $ feq_l t (λ ev. fsplit t $ fpick t (λ uss. fsplit t $ feq_l t (λ e. skip t $ skip t $
      k (subst (λ (ws : List Val). vs ≡ vstruct (of_list (ws ++ [])) ∷ []) e ev)))))

module _ (i : ℕ) (Y : RattleType) (L : Laws Y) {M : Type 1} {𝓤 : Ura M} (𝓛 : Logic 𝓤) where
  open 𝓛 use {H}

  pub value_out : (x : Y.Denot) (b o : ℕ)
      → ent 𝓤 (sem 𝓛 (part_at (param i Y) full_share x b o)) (ex 𝓤 (λ (v : Val). guard 𝓤 (Good (layout Y) v) (sep 𝓤 (H.at full_share (layout Y) b o v) (sem 𝓛 (Y.own_val x (v ∷ []))))))
  value_out x b o = qed 𝓛 (‵ (part_at (param i Y) full_share x b o) ∷ []) ∵
      use1 𝓛 (some (λ (v : Val). ‵ (fat full_share (layout Y) b o v) ⊛ ‵ (Y.own_val x (v ∷ [])))) (part_out 𝓛 (param i Y) refl full_share x b o) $ pick ! (λ v. split ! $ move ! (1 ∷ []) $
      peeks ! (param i Y) (Is (param i Y)) (shows 𝓛 (param i Y)) x (v ∷ []) (λ p.
      show ! (λ (w : Val). guard 𝓤 (Good (layout Y) w) (sep 𝓤 (H.at full_share (layout Y) b o w) (sem 𝓛 (Y.own_val x (w ∷ []))))) v $
      check ! (((param_laws i Y L).lawful 𝓛).typed x (v ∷ []) p).0 $ move ! (1 ∷ 0 ∷ []) $ done !))

  pub value_in : (x : Y.Denot) (b o : ℕ) (v : Val) → ent 𝓤 (sep 𝓤 (H.at full_share (layout Y) b o v) (sem 𝓛 (Y.own_val x (v ∷ [])))) (sem 𝓛 (part_at (param i Y) full_share x b o))
  value_in x b o v = part_in 𝓛 (param i Y) refl full_share x b o v

abbrev pub two_val : Val → Val → Val
two_val u v = vstruct (vcons u (vcons v vnil))

pub two_of : {M : Type 1} {𝓤 : Ura M} (𝓛 : Logic 𝓤) (R S : RattleType) (x : R.Denot) (y : S.Denot) (u v : Val)
    → ent 𝓤 (sep 𝓤 (sem 𝓛 (R.own_val x (u ∷ []))) (sem 𝓛 (S.own_val y (v ∷ [])))) (sem 𝓛 ((Tuple (R ∷ S ∷ [])).own_val (x, y) (two_val u v ∷ [])))
two_of 𝓛 R S x y u v =
    qed 𝓛 (‵ (R.own_val x (u ∷ [])) ∷ ‵ (S.own_val y (v ∷ [])) ∷ []) ∵ nothing ! $ move ! (2 ∷ 0 ∷ []) $ fjoin ! $ move ! (1 ∷ 0 ∷ []) $ fjoin ! $
    feq_i ! (List Val) (two_val u v ∷ []) (two_val u v ∷ []) refl $ fjoin ! $
    fpack ! (Valss (R ∷ S ∷ [])) (within (Declared.shape (tuple_type (R ∷ S ∷ []))) (x, (y, tt)) (two_val u v ∷ [])) (u ∷ [], (v ∷ [], tt)) $ done !

abbrev pub three_val : Val → Val → Val → Val
three_val u v w = vstruct (vcons u (vcons v (vcons w vnil)))

pub three_of : {M : Type 1} {𝓤 : Ura M} (𝓛 : Logic 𝓤) (R S T : RattleType) (x : R.Denot) (y : S.Denot) (z : T.Denot) (u v w : Val)
    → ent 𝓤 (sep 𝓤 (sem 𝓛 (R.own_val x (u ∷ []))) (sep 𝓤 (sem 𝓛 (S.own_val y (v ∷ []))) (sem 𝓛 (T.own_val z (w ∷ []))))) (sem 𝓛 ((Tuple (R ∷ S ∷ T ∷ [])).own_val (x, y, z) (three_val u v w ∷ [])))
three_of 𝓛 R S T x y z u v w =
    qed 𝓛 (‵ (R.own_val x (u ∷ [])) ∷ ‵ (S.own_val y (v ∷ [])) ∷ ‵ (T.own_val z (w ∷ [])) ∷ []) ∵ nothing ! $ move ! (3 ∷ 0 ∷ []) $ fjoin ! $ move ! (2 ∷ 0 ∷ []) $ fjoin ! $ move ! (1 ∷ 0 ∷ []) $
    fjoin ! $
    feq_i ! (List Val) (three_val u v w ∷ []) (three_val u v w ∷ []) refl $ fjoin ! $
    fpack ! (Valss (R ∷ S ∷ T ∷ [])) (within (Declared.shape (tuple_type (R ∷ S ∷ T ∷ []))) (x, (y, (z, tt))) (three_val u v w ∷ [])) (u ∷ [], (v ∷ [], (w ∷ [], tt))) $ done !

alone : (τ : Ty) (vs : List Val) → Typed (τ ∷ []) vs → (v : Val) × ((vs ≡ v ∷ []) × Good τ v)
alone τ [] t = absurd t
alone τ (v ∷ []) t = (v, (refl, t.0))
alone τ (v ∷ w ∷ vs) t = absurd t.1

module _ (Y : RattleType) (L : Laws Y) {M : Type 1} {𝓤 : Ura M} {𝓛 : Logic 𝓤} {K : Type 0} {Γ : List (Item 𝓤)} {G : Goal 𝓤 𝓛.H} where
  -- what is owned of a value is one machine value, of its type
  pub tells : K → (x : Y.Denot) (vs : List Val) → ((v : Val) → vs ≡ v ∷ [] → Good (layout Y) v → Seq K 𝓛 (‵ (Y.own_val x (v ∷ [])) ∷ Γ) G) → Seq K 𝓛 (‵ (Y.own_val x vs) ∷ Γ) G
  tells t x vs k =
      peeks t (param 0 Y) (Is (param 0 Y)) (shows 𝓛 (param 0 Y)) x vs (λ is.
      let one = alone (layout Y) vs (((param_laws 0 Y L).lawful 𝓛).typed x vs is) in
      rewrite t 0 (λ (us : List Val). ‵ (Y.own_val x us)) one.1.0 refl $ k one.0 one.1.0 one.1.1)

module _ (E : El) {M : Type 1} {𝓤 : Ura M} (𝓛 : Logic 𝓤) (b : ℕ) where
  open 𝓛 use {H}

  abbrev s : ℕ
  s = sz E

  abbrev pub Row : ℕ → List (Place E) → Fml
  Row = slots (R E) b

  pub cut : (xs ys : List (Place E)) (o at : ℕ) → at ≡ length xs * s + o → ent 𝓤 (sem 𝓛 (Row o (xs ++ ys))) (sep 𝓤 (sem 𝓛 (Row o xs)) (sem 𝓛 (Row at ys)))
  cut [] ys o at e = qed 𝓛 (‵ (Row o ys) ∷ []) ∵ rewrite ! 0 (λ (k : ℕ). ‵ (Row k ys)) {x = at} (omega (arith, zero-mul s)) refl $ nothing ! $ done !
  cut (x ∷ xs) ys o at e = let more : at ≡ suc (length xs) * s + o = e in qed 𝓛 (‵ (Row o (x ∷ xs ++ ys)) ∷ []) ∵ fsplit ! $ move ! (1 ∷ []) $
      use1 𝓛 (‵ (Row (o + s) xs) ⊛ ‵ (Row at ys)) (cut xs ys (o + s) at (omega (arith, suc-mul (length xs) s))) $ split ! $ move ! (2 ∷ 0 ∷ []) $ fjoin ! $ done !

  pub glue : (xs ys : List (Place E)) (o at : ℕ) → at ≡ length xs * s + o → ent 𝓤 (sep 𝓤 (sem 𝓛 (Row o xs)) (sem 𝓛 (Row at ys))) (sem 𝓛 (Row o (xs ++ ys)))
  glue [] ys o at e = qed 𝓛 (‵ ftrue ∷ ‵ (Row at ys) ∷ []) ∵ skip ! $ rewrite ! 0 (λ (k : ℕ). ‵ (Row k ys)) {x = o} (omega (arith, zero-mul s)) refl $ done !
  glue (x ∷ xs) ys o at e = let more : at ≡ suc (length xs) * s + o = e in qed 𝓛 (‵ (Row o (x ∷ xs)) ∷ ‵ (Row at ys) ∷ []) ∵ fsplit ! $ move ! (1 ∷ 2 ∷ []) $
      use2 𝓛 (‵ (Row (o + s) (xs ++ ys))) (glue xs ys (o + s) at (omega (arith, suc-mul (length xs) s))) $ move ! (1 ∷ 0 ∷ []) $ fjoin ! $ done !

  module _ (o : ℕ) (cs : List (Place E)) (i : ℕ) where
    -- the places but for the i-th
    abbrev pub Besides : Fml
    Besides = fsep (Row o (take i cs)) (Row (i * s + o + s) (drop (suc i) cs))

    before : i ≤ length cs → i * s + o ≡ length (take i cs) * s + o
    before le = let long : i ≡ length (take i cs) = omega (arith, length-take i cs) in ap (λ k. k * s + o) long

    pub slot_out : i < length cs → ent 𝓤 (sem 𝓛 (Row o cs)) (sep 𝓤 (sem 𝓛 (slot (R E) b (i * s + o) (get_or cs i None))) (sem 𝓛 Besides))
    slot_out lt = qed 𝓛 (‵ (Row o cs) ∷ []) ∵
        rewrite ! 0 (λ (l : List (Place E)). ‵ (Row o l)) (sym (take-append-drop i cs) ∙ ap (λ l. take i cs ++ l) (drop-cons cs i None lt)) refl $
        use1 𝓛 (‵ (Row o (take i cs)) ⊛ ‵ (Row (i * s + o) (get_or cs i None ∷ drop (suc i) cs))) (cut (take i cs) (get_or cs i None ∷ drop (suc i) cs) o (i * s + o) (before (omega arith))) $
        split ! $ move ! (1 ∷ []) $ fsplit ! $ move ! (2 ∷ 1 ∷ []) $ fjoin ! $ move ! (1 ∷ []) $ done !

    pub slot_in : i < length cs → (c : Place E) → ent 𝓤 (sep 𝓤 (sem 𝓛 (slot (R E) b (i * s + o) c)) (sem 𝓛 Besides)) (sem 𝓛 (Row o (set cs i c)))
    slot_in lt c = qed 𝓛 (‵ (slot (R E) b (i * s + o) c) ∷ ‵ Besides ∷ []) ∵ move ! (1 ∷ []) $ fsplit ! $ move ! (2 ∷ 1 ∷ []) $ fjoin ! $ move ! (1 ∷ 0 ∷ []) $
        use2 𝓛 (‵ (Row o (take i cs ++ c ∷ drop (suc i) cs))) (glue (take i cs) (c ∷ drop (suc i) cs) o (i * s + o) (before (omega arith))) $
        rewrite ! 0 (λ (l : List (Place E)). ‵ (Row o l)) (sym (set_split cs i c lt)) refl $ done !

    -- the first i places, and the others
    pub parted : i ≤ length cs → ent 𝓤 (sem 𝓛 (Row o cs)) (sep 𝓤 (sem 𝓛 (Row o (take i cs))) (sem 𝓛 (Row (i * s + o) (drop i cs))))
    parted le = qed 𝓛 (‵ (Row o cs) ∷ []) ∵ rewrite ! 0 (λ (l : List (Place E)). ‵ (Row o l)) (sym (take-append-drop i cs)) refl $
        by ! (cut (take i cs) (drop i cs) o (i * s + o) (before le))

  pub to_row : (xs : List (el_x E)) (o : ℕ) → ent 𝓤 (sem 𝓛 (Row o (map Some xs))) (sem 𝓛 (row (R E) full_share xs b o))
  to_row [] o = id⊢ 𝓤 (emp 𝓤)
  to_row (x ∷ xs) o = mono_r 𝓤 (sem 𝓛 (part_at (R E) full_share x b o)) (to_row xs (o + s))

  pub of_row : (xs : List (el_x E)) (o : ℕ) → ent 𝓤 (sem 𝓛 (row (R E) full_share xs b o)) (sem 𝓛 (Row o (map Some xs)))
  of_row [] o = id⊢ 𝓤 (emp 𝓤)
  of_row (x ∷ xs) o = mono_r 𝓤 (sem 𝓛 (part_at (R E) full_share x b o)) (of_row xs (o + s))

  pub of_room : (n o : ℕ) → ent 𝓤 (H.room (ty_array (elτ E) n) b o) (sem 𝓛 (Row o (replicate n None)))
  of_room zero o = qed 𝓛 (‵ (froom (ty_array (elτ E) 0) b o) ∷ []) ∵ keep ! [] $ done !
  of_room (suc n) o = qed 𝓛 (‵ (froom (ty_array (elτ E) (suc n)) b o) ∷ []) ∵
      use1 𝓛 (‵ (froom (elτ E) b o) ⊛ ‵ (froom (ty_array (elτ E) n) b (o + s))) (𝓛.laws.room_uncons (elτ E) n b o) $ split ! $
      use1 𝓛 (‵ (slot (R E) b o None)) (𝓛.laws.room-raw (elτ E) b o) $ frame ! $ by ! (of_room n (o + s))

  pub to_room : (n o : ℕ) → ent 𝓤 (sem 𝓛 (Row o (replicate n None))) (H.room (ty_array (elτ E) n) b o)
  to_room zero o = 𝓛.laws.room_nil (elτ E) b o
  to_room (suc n) o = qed 𝓛 (‵ (slot (R E) b o None) ∷ ‵ (Row (o + s) (replicate n None)) ∷ []) ∵
      use1 𝓛 (‵ (froom (elτ E) b o)) (𝓛.laws.raw-room (elτ E) b o) $ move ! (1 ∷ []) $
      use1 𝓛 (‵ (froom (ty_array (elτ E) n) b (o + s))) (to_room n (o + s)) $ move ! (1 ∷ []) $ by ! (𝓛.laws.room_cons (elτ E) n b o)
