-- `merge` glues two rows of places that meet. Assumes `Logic`.
use Rattle.fresh.proofs.Cited.{slots, cells_own}
use Rattle.fresh.proofs.Walks.{◌≡◌, refl, sym, ap, subst, ◌∙◌, ℕ, ◌+◌, ◌*◌, ◌<◌, ◌^◌, arith, List, [], ◌∷◌, ◌++◌, length, length-append, Fn, inst_fn, Val, SProp, ent, never, id⊢, Lft, Share, ftrue}
use Rattle.fresh.proofs.Walks.{flft, WpFn, ◌⊑◌, fact, tables, ‵, raw, ◌⊛◌, ◌$◌, ◌∵◌, !, qed, move, keep, drop, use0, use2, split, join, rewrite, fsplit, fjoin, suffices, done, flt_l, flt_i, agg}
use Rattle.fresh.proofs.Walks.{and_then, no_more, returns, enter, alloc_all, pass_all, free_all, look_at, get, sets, no, owns, Ptr, in_a_block, plain, types_at, heard, nothing, Ended, proved_at}
use Rattle.fresh.proofs.Walks.{says, Stays, stay_dropped, walk_of, ends_at, Goes-blank, El, R, args, add_times}
use Rattle.fresh.proofs.Memory.{Cr, Mark, sz, mark, mark_had, mark_made, glue}
use Rattle.fresh.specs.contracts.cells.Cells.merge as F
use Rattle.fresh.specs.contracts.cells.Cells.merge.Key.{name as #self}
use Rattle.fresh.proofs.cells.Cells.merge.Statement.{statement}
use Rattle.fresh.proofs.cells.Cells.merge.Code as code

pub merge_spec : {M : Type 1} → statement M
merge_spec 𝓤 𝓛 𝓜 𝓡 wired X L =
    let H = 𝓛.H in let 𝓣 = tables 𝓤 H 𝓜 𝓡 𝓡.env in let E : El = record { row = X; laws = L } in let En : Ended = F.ended X in
    let inst = args E in let fn : Fn = inst_fn inst code.function in let cl = F.clauses X 𝓛 𝓜.mem 𝓡.returns in let s = sz E in
    let hs : Stays En.signature.params En.kept = (stay_dropped (plain (λ _. Cr E)) no, (stay_dropped (plain (λ _. Cr E)) no, tt)) in
    proved_at 𝓛 En hs cl 𝓜 𝓡 (Goes-blank 𝓛 1 (plain (λ _. Cr E)) no (λ κs x f. tt), (Goes-blank 𝓛 1 (plain (λ _. Cr E)) no (λ κs x f. tt), tt)) (#self inst) fn (code.unfolded 𝓤 H 𝓜 𝓡 wired (X, tt))
    (λ z are.
    let κ : Lft = z.0.0.0 in let q : Share = z.0.1.0 in let c : (Cr E).Denot = z.0.3.0 in let d : (Cr E).Denot = z.0.3.1.0 in let vss = z.0.4 in
    let Asks : Type 0 = (d.at ≡ c.at) × (d.from ≡ c.from + length c.slots) in
    let Post : Val → SProp 𝓤 = (walk_of 𝓛 En hs cl).post z in let Run : List Val → SProp 𝓤 = λ ws. WpFn 𝓤 H 𝓣.C 𝓣.Λ fn ws Post in
    qed 𝓛 (((‵ (flft κ q) ⊛ ‵ ftrue) ⊛ ‵ (owns (types_at En.signature.params z.0.0) z.0.3 vss)) ∷ (raw (fact 𝓤 (κ ⊑ X.lives)) ⊛ raw (fact 𝓤 Asks)) ∷ []) ∵
    move ! (1 ∷ []) $ split ! $ drop ! $ heard ! Asks (λ asked. split ! $ split ! $ move ! (2 ∷ []) $ fsplit ! $
    fsplit ! $ mark_had ! E vss.0 (λ e0. move ! (1 ∷ []) $ fsplit ! $ fsplit ! $ mark_had ! E vss.1.0 (λ e1. keep ! (2 ∷ 0 ∷ 3 ∷ []) $
    let us : List Val = mark ∷ mark ∷ [] in let new : (Cr E).Denot = record { mark = c.mark; at = c.at; from = c.from; slots = c.slots ++ d.slots } in
    let n = length c.slots in let sum = length-append c.slots d.slots in let count : c.from + length new.slots ≡ d.from + length d.slots = omega (arith, asked.1) in
    suffices ! (Run us) (subst (λ (ws : List Val). ent 𝓤 (Run us) (Run ws)) (sym (λ i. e0 i ++ (e1 i ++ []))) (id⊢ 𝓤 (Run us))) $
    enter ! 𝓣.C 𝓣.Λ fn us Post $ alloc_all ! (λ l. pass_all ! refl ((tt, (tt, tt)), ((tt, (tt, tt)), tt)) $
    rewrite ! 1 (λ (p : Ptr). ‵ (cells_own (R E) p d.from d.slots)) asked.0 refl $
    in_a_block ! c.at (λ p. cells_own (R E) p c.from c.slots) (id⊢ 𝓤 (never 𝓤)) (λ b o e.
    let on : d.from * s + o ≡ n * s + (c.from * s + o) = let wide : d.from * s ≡ c.from * s + n * s = ap (λ (j : ℕ). j * s) asked.1 ∙ add_times c.from n s in omega arith in
    rewrite ! 1 (λ (p : Ptr). ‵ (cells_own (R E) p d.from d.slots)) e refl $ fsplit ! $ drop ! $ move ! (1 ∷ []) $ fsplit ! $ flt_l ! (λ small. move ! (1 ∷ 0 ∷ []) $
    use2 𝓛 (‵ (slots (R E) b (c.from * s + o) new.slots)) (glue E 𝓛 b c.slots d.slots (c.from * s + o) (d.from * s + o) on) $
    flt_i ! ((c.from + length new.slots) * s) (2 ^ 63) (subst (λ k. k * s < 2 ^ 63) (sym count) small) $ fjoin ! $
    rewrite ! 0 (λ (p : Ptr). ‵ (cells_own (R E) p new.from new.slots)) (sym e) refl $
    use0 𝓛 (‵ ((Mark E).own_val (tt, tt) (mark ∷ []))) (mark_made E 𝓛) $ fjoin ! $
    sets ! (agg ! (no_more !)) refl (tt, tt) $ sets ! (agg ! (and_then ! (get ! refl) (no_more !))) refl (tt, (tt, tt)) $
    returns ! (look_at ! 0 refl) $ free_all ! refl $
    suffices ! _ (ends_at 𝓛 En hs cl z mark new (tt, (tt, tt)) (tt, (tt, tt))) $ says ! (refl, refl, refl) $
    nothing ! $ move ! (2 ∷ 0 ∷ []) $ join ! $ nothing ! $ nothing ! $ fjoin ! $ nothing ! $ fjoin ! $ move ! (0 ∷ 2 ∷ []) $ join ! $ move ! (1 ∷ 0 ∷ []) $ join ! $ done !)))))))
