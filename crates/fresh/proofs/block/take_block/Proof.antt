-- `take_block` parts a vector from its block. Assumes `Logic`.
use Rattle.fresh.proofs.Cited.{El, args, el_x, el_d, Vr, R, P, sz, slots}
use Rattle.fresh.proofs.Walks.{◌≡◌, refl, sym, subst, ℕ, ◌+◌, ◌-◌, ◌*◌, ◌<◌, ◌≤◌, ◌^◌, arith, zero-mul, List, [], ◌∷◌, ◌++◌, map, lit<, length, replicate, length-append, length-map}
use Rattle.fresh.proofs.Walks.{length-replicate, Fn, inst_fn, Val, vptr, SProp, ent, emp, id⊢, ftrue, flft, Env, WpFn, ◌⊑◌, fact, tables, ‵, raw, ◌⊛◌, at_ret, ◌$◌, ◌∵◌, !, qed, move, keep, drop}
use Rattle.fresh.proofs.Walks.{use0, use1, use3, split, split3, join, rewrite, fsplit, fsplit3, fjoin, fjoin3, feq_i, feq_l, flt_i, suffices, done, whole, sub, agg, look_in, store_in, stop, fld}
use Rattle.fresh.proofs.Walks.{load, addr, lit, of_opd, no_more, and_then, assigns, assigns_last, first, blocks, exec, returns, enter, alloc_all, pass_all, free_all, look_at, get, through, sets}
use Rattle.fresh.proofs.Walks.{sets_last, env, RattleType, owns, Ptr, block_ptr, plain, types_at, nothing, Ended, proved_at, Stays, stay_ref, walk_of, ends_at, Goes-ref, None, Some, says_three}
use Rattle.fresh.proofs.Walks.{owns_if, has_block, Good, word, word-Good, not_live, vec_opens⁰, vec_closes⁰, after, layout, Tuple}
use Rattle.fresh.proofs.Blocks.{el, Frees, items_out}
use Rattle.fresh.proofs.Memory.{Bs, Cr, Mark, Place, mark, mark_made, word_made, three_val, three_of}
use Rattle.fresh.specs.contracts.block.Deed as D-type
use Rattle.fresh.specs.contracts.block.take_block as F
use Rattle.fresh.specs.contracts.block.take_block.Key.{name as #self}
use Rattle.fresh.proofs.block.take_block.Statement.{statement}
use Rattle.fresh.proofs.block.take_block.Code as code

pub take_block_spec : {M : Type 1} → statement M
take_block_spec 𝓤 𝓛 𝓜 𝓡 wired X Z L LZ g d dd met md =
    let E : El = record { row = X; laws = L; al = record { row = Z; laws = LZ; g = g; d = d; drops = dd } } in let H = 𝓛.H in
    let 𝓣 = tables 𝓤 H 𝓜 𝓡 𝓡.env in let fn : Fn = inst_fn (args E) code.function in
    let En : Ended = F.ended X Z g d dd in let cl = F.clauses X Z g d dd 𝓛 𝓜.mem 𝓡.returns in let Dd : RattleType = D-type.the_row (R E) (P E) g in
    let hs : Stays En.signature.params En.kept = (stay_ref (0 ∷ []) tt (plain (λ _. Vr E)), tt) in
    proved_at 𝓛 En hs cl 𝓜 𝓡 (Goes-ref 𝓛 3 0 tt (plain (λ _. Vr E)), tt) (#self (args E)) fn (code.unfolded 𝓤 H 𝓜 𝓡 wired (X, (Z, tt)) d dd) (λ z are.
    let κ = z.0.0.0 in let κ₁ = z.0.0.1.0 in let κ₂ = z.0.0.1.1.0 in let q = z.0.1.0 in let q₁ = z.0.1.1.0 in let q₂ = z.0.1.1.1.0 in
    let rb : ℕ = z.0.3.0.ref_ptr.0 in let ro : ℕ = z.0.3.0.ref_ptr.1 in let vss = z.0.4 in
    let Post : Val → SProp 𝓤 = (walk_of 𝓛 En hs cl).post z in
    let Run : List Val → SProp 𝓤 = λ ws. WpFn 𝓤 H 𝓣.C 𝓣.Λ fn ws Post in
    let h : el_d E = z.0.3.0.now in let a = h.alloc in let s = sz E in
    let c : ℕ = h.cap in
    qed 𝓛 (((‵ (flft κ q) ⊛ ‵ (flft κ₁ q₁) ⊛ ‵ (flft κ₂ q₂) ⊛ ‵ ftrue) ⊛ ‵ (owns (types_at En.signature.params z.0.0) z.0.3 vss))
    ∷ (raw (fact 𝓤 (κ₁ ⊑ E.row.lives)) ⊛ raw (fact 𝓤 (κ₂ ⊑ E.al.row.lives)) ⊛ raw (emp 𝓤)) ∷ []) ∵
    move ! (1 ∷ []) $ split3 ! $ drop ! $ drop ! $ drop ! $
    split ! $ split3 ! $ move ! (3 ∷ []) $ fsplit ! $ fsplit3 ! $ feq_l ! (λ e₀. keep ! (0 ∷ 1 ∷ 3 ∷ 4 ∷ 5 ∷ []) $
    let us : List Val = vptr rb ro ∷ [] in
    let n : ℕ = h.len in let xs : List (el_x E) = h.items in
    let ws : List (Place (el E)) = map Some xs in let zs : List (Place (el E)) = replicate (c - n) None in let places : List (Place (el E)) = ws ++ zs in
    let new : el_d E = record { ptr = h.ptr; len = 0; cap = 0; alloc = a; items = []; ok = (refl, omega arith); small = lit< tt } in
    suffices ! (Run us) (subst (λ (ws : List Val). ent 𝓤 (Run us) (Run ws)) (sym (λ i. e₀ i ++ [])) (id⊢ 𝓤 (Run us))) $
    enter ! 𝓣.C 𝓣.Λ fn us Post $ alloc_all ! (λ l. pass_all ! refl ((tt, tt), tt) $
    let Ev : Env 𝓤 H = env fn.locals l in
    sets ! (addr ! (through ! refl (stop !))) refl (tt, tt) $ sets ! (of_opd ! (get ! refl)) refl (tt, tt) $
    vec_opens⁰ E ! tt h rb ro (λ b o hv at_b fl fc fit.
    let p : Ptr = block_ptr b o in
    let base : (Bs (el E)).Denot = record { ptr = p } in
    let cells : (Cr (el E)).Denot = record { mark = record {}; at = p; from = 0; slots = places } in
    let deed : Dd.Denot = record { mark = record {}; at = p; len = c; alloc = a; small = h.small } in
    let made : Val = three_val (word p) mark mark in
    let typed : Good (layout (Tuple (Bs (el E) ∷ Cr (el E) ∷ Dd ∷ []))) made = (tt, ((tt, tt), ((tt, tt), ((tt, tt), tt)))) in
    let start : o ≡ 0 * s + o = omega (arith, zero-mul s) in
    let sum = length-append ws zs in let fore : length ws ≡ length xs = length-map xs Some in let rest : length zs ≡ c - n = length-replicate (c - n) None in
    let long : n ≡ length xs = h.ok.0 in let le : n ≤ c = h.ok.1 in let count : c ≡ 0 + length cells.slots = omega arith in
    use1 𝓛 (‵ (slots (R E) b o places) ⊛ ‵ (owns_if (has_block c) (Frees E 𝓛 b o a c))) (items_out E 𝓛 b o a (has_block c) n c xs (not_live c) long le) $ split ! $
    -- [the places; the right to free them; the words; the open borrow; obs; auth; the tokens]
    first ! $ blocks ! $ sets_last ! (of_opd ! (load ! (through ! refl (fld ! refl (stop !))) (look_in ! 2 (sub ! 0 refl (whole !))))) refl (tt, tt) $
    exec ! 𝓣.C 𝓣.Λ Ev (after 3 fn.body) (at_ret Ev Post) $ sets ! (of_opd ! (get ! refl)) refl (tt, tt) $
    first ! $ blocks ! $
    assigns ! (of_opd ! (lit ! tt)) (through ! refl (fld ! refl (stop !))) (store_in ! 2 (sub ! 1 refl (whole !)) (tt, record { fits = lit< tt })) $
    assigns_last ! (of_opd ! (lit ! tt)) (through ! refl (fld ! refl (stop !))) (store_in ! 2 (sub ! 2 refl (whole !)) (tt, record { fits = lit< tt })) $
    exec ! 𝓣.C 𝓣.Λ Ev (after 5 fn.body) (at_ret Ev Post) $
    sets ! (agg ! (and_then ! (get ! refl) (no_more !))) refl (word-Good [] p) $
    sets ! (agg ! (no_more !)) refl (tt, tt) $ sets ! (agg ! (and_then ! (get ! refl) (no_more !))) refl (tt, (tt, tt)) $
    sets ! (agg ! (no_more !)) refl (tt, tt) $ sets ! (agg ! (and_then ! (get ! refl) (no_more !))) refl (tt, (tt, tt)) $
    sets ! (agg ! (and_then ! (get ! refl) (and_then ! (get ! refl) (and_then ! (get ! refl) (no_more !))))) refl typed $
    rewrite ! 0 (λ (j : ℕ). ‵ (slots (R E) b j cells.slots)) start refl $
    flt_i ! ((0 + length cells.slots) * s) (2 ^ 63) (subst (λ j. j * s < 2 ^ 63) count fit) $ fjoin ! $
    use0 𝓛 (‵ ((Mark (el E)).own_val (tt, tt) (mark ∷ []))) (mark_made (el E) 𝓛) $ fjoin ! $ move ! (1 ∷ []) $
    use0 𝓛 (‵ ((Mark (el E)).own_val (tt, tt) (mark ∷ []))) (mark_made (el E) 𝓛) $ fjoin ! $ move ! (1 ∷ 0 ∷ []) $ word_made ! p $
    use3 𝓛 (‵ ((Tuple (Bs (el E) ∷ Cr (el E) ∷ Dd ∷ [])).own_val (base, cells, deed) (made ∷ []))) (three_of 𝓛 (Bs (el E)) (Cr (el E)) Dd base cells deed (word p) mark mark) $
    nothing ! $ move ! (0 ∷ 2 ∷ 3 ∷ 4 ∷ 5 ∷ []) $
    vec_closes⁰ E ! tt new b o 0 0 [] rb ro (at_b, refl, refl, refl) (lit< tt) (lit< tt) (omega arith) $
    returns ! (look_at ! 0 refl) $ free_all ! refl $
    suffices ! _ (ends_at 𝓛 En hs cl z made (base, cells, deed) (new, tt) (tt, tt)) $ says_three ! ((refl, refl, refl), (refl, refl, refl), (refl, refl)) $
    feq_i ! (List Val) vss.0 (vptr rb ro ∷ []) e₀ $ fjoin3 ! $ nothing ! $ move ! (1 ∷ 0 ∷ []) $ fjoin ! $
    move ! (3 ∷ 4 ∷ []) $ join ! $ move ! (2 ∷ 0 ∷ []) $ join ! $ keep ! (0 ∷ 1 ∷ 2 ∷ []) $ done !))))
