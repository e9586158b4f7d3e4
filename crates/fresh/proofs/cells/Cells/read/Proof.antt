-- `read` moves an item out, and its place is empty. Assumes `Logic`.
use Rattle.fresh.proofs.Cited.{slot, slots, cells_own}
use Rattle.fresh.proofs.Walks.{◌≡◌, refl, sym, subst, ◌∙◌, ap, ℕ, ◌+◌, ◌*◌, ◌<◌, ◌^◌, ◌-◌, ◌≤◌, arith, List, [], ◌∷◌, ◌++◌, length, get_or, set, length-set, Fn, w64, inst_fn, Val, vint, vptr}
use Rattle.fresh.proofs.Walks.{SProp, ent, id⊢, never, Lft, Share, ftrue, flft, fat, WpFn, ◌⊑◌, fact, tables, ‵, raw, ◌⊛◌, at_ret, ◌$◌, ◌∵◌, qed, move, keep, drop, use1, use2, split, join, rewrite}
use Rattle.fresh.proofs.Walks.{fsplit, fjoin, flt_i, suffices, done, split3, feq_l, flt_l, fsplit3, fjoin3, feq_i, sub, whole, stop, fld, of_opd, first, blocks, exec, returns, enter, sets_last}
use Rattle.fresh.proofs.Walks.{load, look, bin, size_lit, alloc_all, pass_all, free_all, look_at, get, get_in, sets, env, through, take_at, give_at, no, yes, layout, owns, Ptr, in_a_block}
use Rattle.fresh.proofs.Walks.{plain, types_at, heard, nothing, opens, closes, Ended, proved_at, Stays, stay_dropped, walk_of, ends_at, Goes-dropped, stay_ref, Goes-ref, says_two, None, Some, El, R}
use Rattle.fresh.proofs.Walks.{args, elτ, word, word-Good, usize, after, add_times, times_below, one_below, full_share, as_raw, Good, !, some, given, pick, learn, froom}
use Rattle.fresh.proofs.Memory.{Cr, Bs, sz, Place, word_had, value_out, Besides, slot_out, slot_in}
use Rattle.fresh.specs.contracts.cells.Cells.read as F
use Rattle.fresh.specs.contracts.cells.Cells.read.Key.{name as #self}
use Rattle.fresh.proofs.cells.Cells.read.Statement.{statement}
use Rattle.fresh.proofs.cells.Cells.read.Code as code

pub read_spec : {M : Type 1} → statement M
read_spec 𝓤 𝓛 𝓜 𝓡 wired X L =
    let H = 𝓛.H in let 𝓣 = tables 𝓤 H 𝓜 𝓡 𝓡.env in let E : El = record { row = X; laws = L } in let En : Ended = F.ended X in
    let inst = args E in let fn : Fn = inst_fn inst code.function in let cl = F.clauses X 𝓛 𝓜.mem 𝓡.returns in let s = sz E in
    let hs : Stays En.signature.params En.kept = (stay_ref (0 ∷ []) tt (plain (λ _. Cr E)), (stay_dropped (plain (λ _. Bs E)) no, (stay_dropped (plain (λ _. usize)) yes, tt))) in
    proved_at 𝓛 En hs cl 𝓜 𝓡
    (Goes-ref 𝓛 2 0 tt (plain (λ _. Cr E)), (Goes-dropped 𝓛 2 (plain (λ _. Bs E)) no (λ κs x f. refl), (Goes-dropped 𝓛 2 (plain (λ _. usize)) yes (λ κs x f. refl), tt)))
    (#self inst) fn (code.unfolded 𝓤 H 𝓜 𝓡 wired (X, tt)) (λ z are.
    let κ : Lft = z.0.0.0 in let κ₁ : Lft = z.0.0.1.0 in let q : Share = z.0.1.0 in let q₁ : Share = z.0.1.1.0 in let vss = z.0.4 in
    let rb : ℕ = z.0.3.0.ref_ptr.0 in let ro : ℕ = z.0.3.0.ref_ptr.1 in let d : (Cr E).Denot = z.0.3.0.now in
    let base : (Bs E).Denot = z.0.3.1.0 in let index : ℕ = z.0.3.1.1.0 in
    let Asks : Type 0 = (base.ptr ≡ d.at) × (d.from ≤ index) × (index - d.from < length d.slots) × ((x : (R E).Denot) × (get_or d.slots (index - d.from) None ≡ Some x)) in
    let Post : Val → SProp 𝓤 = (walk_of 𝓛 En hs cl).post z in let Run : List Val → SProp 𝓤 = λ ws. WpFn 𝓤 H 𝓣.C 𝓣.Λ fn ws Post in
    qed 𝓛 (((‵ (flft κ q) ⊛ ‵ (flft κ₁ q₁) ⊛ ‵ ftrue) ⊛ ‵ (owns (types_at En.signature.params z.0.0) z.0.3 vss)) ∷ (raw (fact 𝓤 (κ₁ ⊑ X.lives)) ⊛ raw (fact 𝓤 Asks)) ∷ []) ∵
    move ! (1 ∷ []) $ split ! $ drop ! $ heard ! Asks (λ asked. split ! $ split3 ! $ move ! (3 ∷ []) $ fsplit3 ! $ fsplit3 ! $ feq_l ! (λ e0. move ! (2 ∷ []) $ word_had ! base.ptr vss.1.0 (λ e1.
    move ! (2 ∷ []) $ fsplit ! $ fsplit ! $ feq_l ! (λ e2. flt_l ! (λ fits. keep ! (1 ∷ 2 ∷ 3 ∷ 4 ∷ []) $
    let us : List Val = vptr rb ro ∷ word base.ptr ∷ vint w64 index ∷ [] in
    let i = index - d.from in let within : i < length d.slots = asked.2 in let x : (R E).Denot = asked.3.0 in
    let sum : d.from + i ≡ index = omega (arith, asked.1) in let bound_of : index < d.from + length d.slots = omega arith in
    let new : (Cr E).Denot = record { mark = d.mark; at = d.at; from = d.from; slots = set d.slots i None } in
    let count : d.from + length d.slots ≡ d.from + length new.slots = ap (λ k. d.from + k) (sym (length-set d.slots i None)) in
    suffices ! (Run us) (subst (λ (ws : List Val). ent 𝓤 (Run us) (Run ws)) (sym (λ j. e0 j ++ (e1 j ++ (e2 j ++ [])))) (id⊢ 𝓤 (Run us))) $
    enter ! 𝓣.C 𝓣.Λ fn us Post $ alloc_all ! (λ l. pass_all ! refl ((tt, tt), (word-Good [] base.ptr, ((tt, record { fits = fits }), tt))) $ let Ev = env fn.locals l in
    opens ! tt (Cr E) {h = d} rb ro (λ vs. move ! (1 ∷ []) $ fsplit ! $ move ! (1 ∷ []) $
    in_a_block ! d.at (λ p. cells_own (R E) p d.from d.slots) (id⊢ 𝓤 (never 𝓤)) (λ b o e. fsplit ! $ flt_l ! (λ small.
    let tiny : s < 2 ^ 64 = omega (arith, one_below (d.from + length d.slots) s (2 ^ 63) (omega arith) small) in
    let far : index * s < 2 ^ 64 = omega (arith, times_below index (d.from + length d.slots) s (2 ^ 63) (omega arith) small) in
    let start = d.from * s + o in let on : i * s + start ≡ index * s + o = let wide : index * s ≡ d.from * s + i * s = ap (λ (j : ℕ). j * s) (sym sum) ∙ add_times d.from i s in omega arith in
    take_at ! 2 $ rewrite ! 0 (λ (p : Ptr). ‵ (fat full_share (layout (Bs E)) (l 2) 0 (word p))) (asked.0 ∙ e) refl $ give_at ! 2 $ first ! $ blocks ! $
    sets ! (bin ! (get ! refl) (size_lit ! (record { fits = tiny })) (record { fits = far })) refl (tt, record { fits = far }) $
    sets ! (bin ! (get_in ! (fld ! refl (stop !)) (sub ! 0 refl (whole !))) (get ! refl) tt) refl (tt, tt) $
    use1 𝓛 (‵ (slot (R E) b (i * s + start) (get_or d.slots i None)) ⊛ ‵ (Besides E 𝓛 b start d.slots i)) (slot_out E 𝓛 b start d.slots i within) $ split ! $
    rewrite ! 0 (λ (c : Place E). ‵ (slot (R E) b (i * s + start) c)) asked.3.1 refl $ rewrite ! 0 (λ (j : ℕ). ‵ (slot (R E) b j (Some x))) on refl $
    use1 𝓛 (some (λ (v : Val). given (Good (elτ E) v) (‵ (fat full_share (elτ E) b (index * s + o) v) ⊛ ‵ (E.row.own_val x (v ∷ []))))) (value_out 0 E.row E.laws 𝓛 x b (index * s + o)) $
    pick ! (λ v. learn ! (λ good. split ! $ sets_last ! (of_opd ! (load ! (through ! refl (stop !)) (look ! 0 refl))) refl good $
    exec ! 𝓣.C 𝓣.Λ Ev (after 1 fn.body) (at_ret Ev Post) $ sets ! (of_opd ! (get ! refl)) refl good $
    use1 𝓛 (‵ (froom (elτ E) b (index * s + o))) (𝓛.laws.at_room (elτ E) b (index * s + o) v) $ as_raw ! (elτ E) b (index * s + o) $
    -- [the room; the other places; the mark; its cell; the open borrow; obs; auth; what the item owns; the token]
    move ! (0 ∷ 2 ∷ 3 ∷ 4 ∷ 5 ∷ 6 ∷ 7 ∷ []) $ rewrite ! 0 (λ (j : ℕ). ‵ (slot (R E) b j None)) (sym on) refl $
    use2 𝓛 (‵ (slots (R E) b start new.slots)) (slot_in E 𝓛 b start d.slots i within None) $
    flt_i ! ((d.from + length new.slots) * s) (2 ^ 63) (subst (λ k. k * s < 2 ^ 63) count small) $ fjoin ! $
    rewrite ! 0 (λ (p : Ptr). ‵ (cells_own (R E) p d.from new.slots)) (sym e) refl $ move ! (1 ∷ 0 ∷ []) $ fjoin ! $ move ! (1 ∷ 0 ∷ []) $ closes ! tt (Cr E) new vs rb ro $
    returns ! (look_at ! 0 refl) $ free_all ! refl $
    suffices ! _ (ends_at 𝓛 En hs cl z v x (new, (tt, (tt, tt))) (tt, (tt, (tt, tt)))) $ says_two ! (asked.3.1, (refl, refl, refl)) $
    feq_i ! (List Val) vss.0 (vptr rb ro ∷ []) e0 $ fjoin3 ! $ nothing ! $ nothing ! $ fjoin ! $ nothing ! $ fjoin ! $ move ! (1 ∷ 0 ∷ []) $ fjoin ! $
    nothing ! $ move ! (4 ∷ 0 ∷ []) $ join ! $ move ! (2 ∷ 0 ∷ []) $ join ! $ done !))))))))))))
