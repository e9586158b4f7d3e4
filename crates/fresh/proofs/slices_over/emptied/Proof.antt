-- `emptied` takes a row for its places. Assumes `Logic`.
use Rattle.core.proofs.slots.Slots.into_raw_parts.Met as callee
use Rattle.fresh.proofs.Cited.{slots}
use Rattle.fresh.proofs.Walks.{◌≡◌, refl, sym, subst, ◌∙◌, Bool, ℕ, ◌+◌, ◌*◌, ◌<◌, ◌^◌, arith, zero-mul, List, [], ◌∷◌, ◌++◌, length, replicate, length-replicate, Fn, inst_fn, Val, WT, SProp, ent}
use Rattle.fresh.proofs.Walks.{emp, id⊢, Lft, Share, ftrue, flft, WpFn, ◌⊑◌, fact, tables, FmC, ‵, raw, ◌⊛◌, given, later, at_ret, ◌$◌, ◌∵◌, !, qed, move, keep, drop, use0, use1, use2, split, join}
use Rattle.fresh.proofs.Walks.{rewrite, fsplit, fjoin, learn, await, flt_i, suffices, done, agg, sub, whole, stop, fld, of_opd, and_then, no_more, first, blocks, exec, returns, enter, alloc_all}
use Rattle.fresh.proofs.Walks.{pass_all, free_all, look_at, get, get_in, sets, lands_last, is, env, no, layout, owns, Ptr, block_ptr, plain, types_at, heard, nothing, Tuple, calls_at_last, Ended}
use Rattle.fresh.proofs.Walks.{proved_at, framed, Stays, stay_dropped, walk_of, ends_at, Goes-dropped, None, slots_items, slots_filled, slots_len, slots_counts, tail, says_two, El, R, args, el_x}
use Rattle.fresh.proofs.Walks.{row_val, Good, word, word-Good}
use Rattle.fresh.proofs.Memory.{Bs, Cr, Mark, mark, mark_made, word_made, two_val, two_of}
use Rattle.fresh.proofs.Rows.{Row, all, parts_typed, row_seen, Into, at_into, into_goes, into_gives, empties}
use Rattle.fresh.specs.contracts.slices_over.emptied as F
use Rattle.fresh.specs.contracts.slices_over.emptied.Key.{name as #self}
use Rattle.fresh.proofs.slices_over.emptied.Statement.{statement}
use Rattle.fresh.proofs.slices_over.emptied.Code as code

pub emptied_spec : {M : Type 1} → statement M
emptied_spec 𝓤 𝓛 𝓜 𝓡 wired X L =
    let H = 𝓛.H in let 𝓣 = tables 𝓤 H 𝓜 𝓡 𝓡.env in let E : El = record { row = X; laws = L } in let En : Ended = F.ended X in
    let inst = args E in let fn : Fn = inst_fn inst code.function in let c = F.clauses X 𝓛 𝓜.mem 𝓡.returns in let s = Rattle.fresh.proofs.Memory.sz E in
    let fm : FmC 𝓤 H 𝓛.laws 𝓣.C = λ f. framed 𝓤 H 𝓜 𝓣 f in
    let met = callee.met 𝓤 𝓛 𝓜 𝓡 (code.calls-core::slots::Slots::into_raw_parts 𝓡.env wired) X L in
    let hs : Stays En.signature.params En.kept = (stay_dropped (plain (λ _. Row E)) no, tt) in
    proved_at 𝓛 En hs c 𝓜 𝓡 (Goes-dropped 𝓛 1 (plain (λ _. Row E)) no (λ κs x f. refl), tt) (#self inst) fn (code.unfolded 𝓤 H 𝓜 𝓡 wired (X, tt)) (λ z are.
    let κ : Lft = z.0.0.0 in let q : Share = z.0.1.0 in let r : (Row E).Denot = z.0.3.0 in let vss = z.0.4 in
    let k : ℕ = slots_len r in let xs : List (el_x E) = slots_items r in let fs : List Bool = slots_filled r in
    let Post : Val → SProp 𝓤 = (walk_of 𝓛 En hs c).post z in let Run : List Val → SProp 𝓤 = λ ws. WpFn 𝓤 H 𝓣.C 𝓣.Λ fn ws Post in
    qed 𝓛 (((‵ (flft κ q) ⊛ ‵ ftrue) ⊛ ‵ (owns (types_at En.signature.params z.0.0) z.0.3 vss)) ∷ raw (fact 𝓤 (κ ⊑ X.lives)) ∷ raw (emp 𝓤) ∷ []) ∵
    move ! (2 ∷ []) $ drop ! $ move ! (1 ∷ []) $ heard ! (κ ⊑ X.lives) (λ le. split ! $ split ! $ move ! (2 ∷ []) $ fsplit ! $ row_seen E ! r vss.0 (λ b o at e fk fit. keep ! (0 ∷ 2 ∷ []) $
    let us : List Val = row_val b o k ∷ [] in let lx : k ≡ length xs = (slots_counts r).0 in let lf : k ≡ length fs = (slots_counts r).1 in let p : Ptr = block_ptr b o in
    let words : WT (row_val b o k) = (tt, (record { fits = fk }, tt)) in
    suffices ! (Run us) (subst (λ (ws : List Val). ent 𝓤 (Run us) (Run ws)) (sym (λ i. e i ++ [])) (id⊢ 𝓤 (Run us))) $
    enter ! 𝓣.C 𝓣.Λ fn us Post $ alloc_all ! (λ l. pass_all ! refl ((tt, words), tt) $ let Ev = env fn.locals l in let y = at_into E 𝓛 𝓜.mem 𝓡.returns κ q r b o in
    first ! $ blocks ! $ sets ! (of_opd ! (get ! refl)) refl (tt, words) $
    use2 𝓛 (raw ((Into E 𝓛 𝓜.mem 𝓡.returns).pre y)) (into_goes E 𝓛 𝓜.mem 𝓡.returns κ q r b o le) $
    calls_at_last ! fm (Into E 𝓛 𝓜.mem 𝓡.returns) met y (and_then ! (get ! refl) (no_more !)) (λ v.
    use1 𝓛 (later (given (v ≡ row_val b o k) (‵ (all E b o xs fs) ⊛ ‵ (flft κ q)))) (into_gives E 𝓛 𝓜.mem 𝓡.returns κ q r b o v at) $ await ! tt $ learn ! (λ ev. split ! $
    lands_last ! refl (parts_typed v b o k ev fk) $ exec ! 𝓣.C 𝓣.Λ Ev (tail fn.body) (at_ret Ev Post) $
    let made : Val = two_val (word p) mark in let base : (Bs E).Denot = record { ptr = p } in
    let cells : (Cr E).Denot = record { mark = record {}; at = p; from = 0; slots = replicate k None } in
    let typed : Good (layout (Tuple (Bs E ∷ Cr E ∷ []))) made = (tt, ((tt, tt), ((tt, tt), tt))) in
    let start : o ≡ 0 * s + o = omega (arith, zero-mul s) in let long : length cells.slots ≡ k = length-replicate k None in let count : k ≡ 0 + length cells.slots = omega arith in
    sets ! (is ! (of_opd ! (get ! refl)) ev) refl (tt, words) $ sets ! (agg ! (and_then ! (get_in ! (fld ! refl (stop !)) (sub ! 0 refl (whole !))) (no_more !))) refl (word-Good [] p) $
    sets ! (agg ! (no_more !)) refl (tt, tt) $ sets ! (agg ! (and_then ! (get ! refl) (no_more !))) refl (tt, (tt, tt)) $
    sets ! (agg ! (and_then ! (get ! refl) (and_then ! (get ! refl) (no_more !)))) refl typed $
    use1 𝓛 (‵ (slots (R E) b o (replicate (length xs) None))) (empties E 𝓛 b o xs fs (sym lf ∙ lx)) $
    rewrite ! 0 (λ (j : ℕ). ‵ (slots (R E) b o (replicate j None))) (sym lx) refl $ rewrite ! 0 (λ (j : ℕ). ‵ (slots (R E) b j cells.slots)) start refl $
    flt_i ! ((0 + length cells.slots) * s) (2 ^ 63) (subst (λ j. j * s < 2 ^ 63) count fit) $ fjoin ! $
    use0 𝓛 (‵ ((Mark E).own_val (tt, tt) (mark ∷ []))) (mark_made E 𝓛) $ fjoin ! $ word_made ! p $
    use2 𝓛 (‵ ((Tuple (Bs E ∷ Cr E ∷ [])).own_val (base, cells) (made ∷ []))) (two_of 𝓛 (Bs E) (Cr E) base cells (word p) mark) $
    returns ! (look_at ! 0 refl) $ free_all ! refl $
    suffices ! _ (ends_at 𝓛 En hs c z made (base, cells) (tt, tt) (tt, tt)) $ says_two ! (sym at, (sym at, refl, refl)) $
    nothing ! $ move ! (2 ∷ 0 ∷ []) $ join ! $ nothing ! $ nothing ! $ fjoin ! $ move ! (0 ∷ 2 ∷ []) $ join ! $ move ! (1 ∷ 0 ∷ []) $ join ! $ done !))))))
