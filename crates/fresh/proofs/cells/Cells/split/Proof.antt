-- `split` parts a row of places in two. Assumes `Logic`.
use Rattle.fresh.proofs.Cited.{slots, cells_own}
use lib.ListN.{drop as drop_l}
use Rattle.fresh.proofs.Walks.{◌≡◌, refl, sym, subst, ℕ, ◌+◌, ◌*◌, ◌<◌, ◌≤◌, ◌^◌, arith, List, [], ◌∷◌, ◌++◌, length, take, length-take, length-drop, Fn, w64, inst_fn, Val, vint, SProp, ent, never}
use Rattle.fresh.proofs.Walks.{id⊢, Lft, Share, ftrue, flft, WpFn, ◌⊑◌, fact, tables, ‵, raw, ◌⊛◌, ◌$◌, ◌∵◌, !, qed, move, keep, drop, use0, use1, use2, split, join, rewrite, fsplit, fjoin, feq_l}
use Rattle.fresh.proofs.Walks.{suffices, done, flt_l, flt_i, agg, and_then, no_more, returns, enter, alloc_all, pass_all, free_all, look_at, get, sets, usize, yes, no, Tuple, owns, Ptr, in_a_block}
use Rattle.fresh.proofs.Walks.{plain, types_at, heard, nothing, Ended, proved_at, Stays, stay_dropped, walk_of, ends_at, Goes-dropped, Goes-blank, El, R, args, add_times, times_below, says_two}
use Rattle.fresh.proofs.Memory.{Cr, Mark, sz, mark, mark_had, mark_made, parted, two_val, two_of}
use Rattle.fresh.specs.contracts.cells.Cells.split as F
use Rattle.fresh.specs.contracts.cells.Cells.split.Key.{name as #self}
use Rattle.fresh.proofs.cells.Cells.split.Statement.{statement}
use Rattle.fresh.proofs.cells.Cells.split.Code as code

pub split_spec : {M : Type 1} → statement M
split_spec 𝓤 𝓛 𝓜 𝓡 wired X L =
    let H = 𝓛.H in let 𝓣 = tables 𝓤 H 𝓜 𝓡 𝓡.env in let E : El = record { row = X; laws = L } in let En : Ended = F.ended X in
    let inst = args E in let fn : Fn = inst_fn inst code.function in let cl = F.clauses X 𝓛 𝓜.mem 𝓡.returns in let s = sz E in
    let hs : Stays En.signature.params En.kept = (stay_dropped (plain (λ _. Cr E)) no, (stay_dropped (plain (λ _. usize)) yes, tt)) in
    proved_at 𝓛 En hs cl 𝓜 𝓡 (Goes-blank 𝓛 1 (plain (λ _. Cr E)) no (λ κs x f. tt), (Goes-dropped 𝓛 1 (plain (λ _. usize)) yes (λ κs x f. refl), tt)) (#self inst) fn
    (code.unfolded 𝓤 H 𝓜 𝓡 wired (X, tt)) (λ z are.
    let κ : Lft = z.0.0.0 in let q : Share = z.0.1.0 in let c : (Cr E).Denot = z.0.3.0 in let k : ℕ = z.0.3.1.0 in let vss = z.0.4 in
    let Asks : Type 0 = k ≤ length c.slots in
    let Post : Val → SProp 𝓤 = (walk_of 𝓛 En hs cl).post z in let Run : List Val → SProp 𝓤 = λ ws. WpFn 𝓤 H 𝓣.C 𝓣.Λ fn ws Post in
    qed 𝓛 (((‵ (flft κ q) ⊛ ‵ ftrue) ⊛ ‵ (owns (types_at En.signature.params z.0.0) z.0.3 vss)) ∷ (raw (fact 𝓤 (κ ⊑ X.lives)) ⊛ raw (fact 𝓤 Asks)) ∷ []) ∵
    move ! (1 ∷ []) $ split ! $ drop ! $ heard ! Asks (λ asked. split ! $ split ! $ move ! (2 ∷ []) $ fsplit ! $
    fsplit ! $ mark_had ! E vss.0 (λ e0. move ! (1 ∷ []) $ fsplit ! $ fsplit ! $ feq_l ! (λ e1. flt_l ! (λ fits. keep ! (1 ∷ 2 ∷ []) $
    let us : List Val = mark ∷ vint w64 k ∷ [] in
    let front : (Cr E).Denot = record { mark = c.mark; at = c.at; from = c.from; slots = take k c.slots } in
    let back : (Cr E).Denot = record { mark = c.mark; at = c.at; from = c.from + k; slots = drop_l k c.slots } in
    let n = length c.slots in let short = length-take k c.slots in let left = length-drop k c.slots in
    let end : back.from + length back.slots ≡ c.from + n = omega (arith, asked) in
    let less : c.from + length front.slots ≤ c.from + n = omega (arith, asked) in
    suffices ! (Run us) (subst (λ (ws : List Val). ent 𝓤 (Run us) (Run ws)) (sym (λ i. e0 i ++ (e1 i ++ []))) (id⊢ 𝓤 (Run us))) $
    enter ! 𝓣.C 𝓣.Λ fn us Post $ alloc_all ! (λ l. pass_all ! refl ((tt, (tt, tt)), ((tt, record { fits = fits }), tt)) $
    in_a_block ! c.at (λ p. cells_own (R E) p c.from c.slots) (id⊢ 𝓤 (never 𝓤)) (λ b o e.
    let on : k * s + (c.from * s + o) ≡ back.from * s + o = let wide = add_times c.from k s in omega arith in
    fsplit ! $ flt_l ! (λ small.
    use1 𝓛 (‵ (slots (R E) b (c.from * s + o) front.slots) ⊛ ‵ (slots (R E) b (k * s + (c.from * s + o)) back.slots)) (parted E 𝓛 b (c.from * s + o) c.slots k asked) $ split ! $
    flt_i ! ((c.from + length front.slots) * s) (2 ^ 63) (times_below (c.from + length front.slots) (c.from + n) s (2 ^ 63) less small) $ fjoin ! $
    rewrite ! 0 (λ (p : Ptr). ‵ (cells_own (R E) p front.from front.slots)) (sym e) refl $
    use0 𝓛 (‵ ((Mark E).own_val (tt, tt) (mark ∷ []))) (mark_made E 𝓛) $ fjoin ! $ move ! (1 ∷ []) $
    rewrite ! 0 (λ (j : ℕ). ‵ (slots (R E) b j back.slots)) on refl $
    flt_i ! ((back.from + length back.slots) * s) (2 ^ 63) (subst (λ j. j * s < 2 ^ 63) (sym end) small) $ fjoin ! $
    rewrite ! 0 (λ (p : Ptr). ‵ (cells_own (R E) p back.from back.slots)) (sym e) refl $
    use0 𝓛 (‵ ((Mark E).own_val (tt, tt) (mark ∷ []))) (mark_made E 𝓛) $ fjoin ! $ move ! (1 ∷ 0 ∷ []) $
    use2 𝓛 (‵ ((Tuple (Cr E ∷ Cr E ∷ [])).own_val (front, back) (two_val mark mark ∷ []))) (two_of 𝓛 (Cr E) (Cr E) front back mark mark) $
    sets ! (agg ! (no_more !)) refl (tt, tt) $ sets ! (agg ! (and_then ! (get ! refl) (no_more !))) refl (tt, (tt, tt)) $
    sets ! (agg ! (no_more !)) refl (tt, tt) $ sets ! (agg ! (and_then ! (get ! refl) (no_more !))) refl (tt, (tt, tt)) $
    sets ! (agg ! (and_then ! (get ! refl) (and_then ! (get ! refl) (no_more !)))) refl (tt, ((tt, tt), ((tt, tt), tt))) $
    returns ! (look_at ! 0 refl) $ free_all ! refl $
    suffices ! _ (ends_at 𝓛 En hs cl z (two_val mark mark) (front, back) (tt, (tt, tt)) (tt, (tt, tt))) $ says_two ! ((refl, refl, refl), (refl, refl, refl)) $
    nothing ! $ move ! (2 ∷ 0 ∷ []) $ join ! $ nothing ! $ nothing ! $ fjoin ! $ nothing ! $ fjoin ! $ move ! (0 ∷ 2 ∷ []) $ join ! $ move ! (1 ∷ 0 ∷ []) $ join ! $ done !))))))))
