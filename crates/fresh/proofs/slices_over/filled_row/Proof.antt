-- `filled_row` gives places that hold items back as a row. Assumes `Logic`.
use Rattle.core.proofs.slots.Slots.from_raw_parts.Met as callee
use Rattle.fresh.proofs.Cited.{slots, cells_own}
use Rattle.fresh.proofs.Walks.{◌≡◌, refl, sym, ap, subst, ◌∙◌, Bool, true, false, ℕ, ◌+◌, ◌*◌, ◌<◌, ◌^◌, arith, zero-mul, List, [], ◌∷◌, ◌++◌, map, length, replicate, length-map, length-replicate}
use Rattle.fresh.proofs.Walks.{get_or, get_or-replicate, Fn, w64, inst_fn, Val, WT, vint, SProp, ent, never, id⊢, Lft, Share, ftrue, flft, WpFn, ◌⊑◌, fact, tables, FmC, ‵, raw, ◌⊛◌, some, given}
use Rattle.fresh.proofs.Walks.{later, at_ret, ◌$◌, ◌∵◌, !, qed, move, keep, use1, use2, split, split3, join, pick, rewrite, fsplit, fjoin, feq_l, flt_l, learn, await, suffices, done, sub, whole}
use Rattle.fresh.proofs.Walks.{stop, fld, of_opd, and_then, no_more, first, blocks, exec, returns, enter, alloc_all, pass_all, free_all, look_at, get, get_in, sets, lands_last, is, env, usize, yes}
use Rattle.fresh.proofs.Walks.{no, owns, Ptr, block_ptr, in_a_block, plain, types_at, heard, nothing, calls_at_last, Ended, proved_at, framed, Stays, stay_dropped, walk_of, ends_at, Goes-dropped}
use Rattle.fresh.proofs.Walks.{Option, Some, IsFull, Goes-blank, tail, says_two, El, R, args, el_x, row_val, word, word-Good}
use Rattle.fresh.proofs.Memory.{Bs, Cr, mark, mark_had, word_had, sz}
use Rattle.fresh.proofs.Rows.{Row, all, row_Typed, From, at_from, Made, from_goes, from_gives, fills}
use Rattle.fresh.specs.contracts.slices_over.filled_row as F
use Rattle.fresh.specs.contracts.slices_over.filled_row.Key.{name as #self}
use Rattle.fresh.proofs.slices_over.filled_row.Statement.{statement}
use Rattle.fresh.proofs.slices_over.filled_row.Code as code

pub filled_row_spec : {M : Type 1} → statement M
filled_row_spec 𝓤 𝓛 𝓜 𝓡 wired X L =
    let H = 𝓛.H in let 𝓣 = tables 𝓤 H 𝓜 𝓡 𝓡.env in let E : El = record { row = X; laws = L } in let En : Ended = F.ended X in
    let inst = args E in let fn : Fn = inst_fn inst code.function in let c = F.clauses X 𝓛 𝓜.mem 𝓡.returns in let s = sz E in
    let fm : FmC 𝓤 H 𝓛.laws 𝓣.C = λ f. framed 𝓤 H 𝓜 𝓣 f in
    let met = callee.met 𝓤 𝓛 𝓜 𝓡 (code.calls-core::slots::Slots::from_raw_parts 𝓡.env wired) X L in
    let hs : Stays En.signature.params En.kept = (stay_dropped (plain (λ _. Bs E)) no, (stay_dropped (plain (λ _. usize)) yes, (stay_dropped (plain (λ _. Cr E)) no, tt))) in
    proved_at 𝓛 En hs c 𝓜 𝓡 (
      Goes-dropped 𝓛 1 (plain (λ _. Bs E)) no (λ κs x f. refl),
      (
        Goes-dropped 𝓛 1 (plain (λ _. usize)) yes (λ κs x f. refl),
        (Goes-blank 𝓛 1 (plain (λ _. Cr E)) no (λ κs x f. tt), tt),
      ),
    ) (#self inst) fn (code.unfolded 𝓤 H 𝓜 𝓡 wired (X, tt)) (λ z are.
    let κ : Lft = z.0.0.0 in let q : Share = z.0.1.0 in let base : (Bs E).Denot = z.0.3.0 in let k : ℕ = z.0.3.1.0 in let cells : (Cr E).Denot = z.0.3.1.1.0 in let vss = z.0.4 in
    let Whole : Type 0 = (cells.at ≡ base.ptr) × (cells.from ≡ 0) in
    let Full : Type 0 = (xs : List (el_x E)) × (length xs ≡ k) × (cells.slots ≡ map Some xs) in
    let Post : Val → SProp 𝓤 = (walk_of 𝓛 En hs c).post z in let Run : List Val → SProp 𝓤 = λ ws. WpFn 𝓤 H 𝓣.C 𝓣.Λ fn ws Post in
    qed 𝓛 (((‵ (flft κ q) ⊛ ‵ ftrue) ⊛ ‵ (owns (types_at En.signature.params z.0.0) z.0.3 vss)) ∷ (raw (fact 𝓤 (κ ⊑ X.lives)) ⊛ raw (fact 𝓤 Whole) ⊛ raw (fact 𝓤 Full)) ∷ []) ∵
    move ! (1 ∷ []) $ split3 ! $ heard ! (κ ⊑ X.lives) (λ le. heard ! Whole (λ at. heard ! Full (λ full.
    split ! $ split ! $ move ! (2 ∷ []) $ fsplit ! $ word_had ! base.ptr vss.0 (λ e₀. fsplit ! $ fsplit ! $ feq_l ! (λ e₁. flt_l ! (λ fk. fsplit ! $ fsplit ! $ mark_had ! E vss.1.1.0 (λ e₂.
    keep ! (0 ∷ 2 ∷ []) $
    let xs : List (el_x E) = full.0 in let lx : k ≡ length xs = sym full.1 in let fs : List Bool = replicate (length xs) true in
    let lf : k ≡ length fs = lx ∙ sym (length-replicate (length xs) true) in let held : List (Option (el_x E)) = map Some xs in
    let fore : length held ≡ length xs = length-map xs Some in let count : 0 + length held ≡ k = omega arith in
    rewrite ! 0 (λ (t : Ptr × ℕ × List (Option (el_x E))). ‵ (cells_own (R E) t.0 t.1 t.2)) (λ i. (at.0 i, at.1 i, full.2 i)) refl $
    in_a_block ! base.ptr (λ p. cells_own (R E) p 0 held) (id⊢ 𝓤 (never 𝓤)) (λ b o e. fsplit ! $ flt_l ! (λ small.
    let start : 0 * s + o ≡ o = omega (arith, zero-mul s) in let fit : k * s < 2 ^ 63 = subst (λ j. j * s < 2 ^ 63) count small in
    rewrite ! 0 (λ (j : ℕ). ‵ (slots (R E) b j held)) start refl $ use1 𝓛 (‵ (all E b o xs fs)) (fills E 𝓛 b o xs) $
    let us : List Val = word (block_ptr b o) ∷ vint w64 k ∷ mark ∷ [] in let same = (λ i. e₀ i ++ (e₁ i ++ (e₂ i ++ []))) ∙ ap (λ p. word p ∷ vint w64 k ∷ mark ∷ []) e in
    suffices ! (Run us) (subst (λ (ws : List Val). ent 𝓤 (Run us) (Run ws)) (sym same) (id⊢ 𝓤 (Run us))) $
    let words : WT (row_val b o k) = (tt, (record { fits = fk }, tt)) in
    enter ! 𝓣.C 𝓣.Λ fn us Post $ alloc_all ! (λ l. pass_all ! refl (word-Good [] (block_ptr b o), ((tt, record { fits = fk }), ((tt, (tt, tt)), tt))) $ let Ev = env fn.locals l in
    let y = at_from E 𝓛 𝓜.mem 𝓡.returns κ q b o k xs fs in
    first ! $ blocks ! $ use2 𝓛 (raw ((From E 𝓛 𝓜.mem 𝓡.returns).pre y)) (from_goes E 𝓛 𝓜.mem 𝓡.returns κ q b o k xs fs le lx lf fk fit) $
    calls_at_last ! fm (From E 𝓛 𝓜.mem 𝓡.returns) met y (and_then ! (get_in ! (fld ! refl (stop !)) (sub ! 0 refl (whole !))) (and_then ! (get ! refl) (no_more !))) (λ v.
    use1 𝓛 (later (some (λ (r : (Row E).Denot). given ((v ≡ row_val b o k) × Made E 𝓛 𝓜.mem 𝓡.returns κ q b o k xs fs r) (‵ ((Row E).own_val r (row_val b o k ∷ [])) ⊛ ‵ (flft κ q)))))
    (from_gives E 𝓛 𝓜.mem 𝓡.returns κ q b o k xs fs v) $ await ! tt $ pick ! (λ r. learn ! (λ got. split ! $
    let made = got.1 in
    let full_row : IsFull r = λ j low high. let near : j < length xs = subst (λ (n : ℕ). j < n) (made.1 ∙ lx) high in ap (λ (gs : List Bool). get_or gs j false) made.3
    ∙ get_or-replicate (length xs) j true false near in
    lands_last ! refl (row_Typed E v b o k got.0 fk) $ exec ! 𝓣.C 𝓣.Λ Ev (tail fn.body) (at_ret Ev Post) $ sets ! (is ! (of_opd ! (get ! refl)) got.0) refl (tt, words) $
    returns ! (look_at ! 0 refl) $ free_all ! refl $
    suffices ! _ (ends_at 𝓛 En hs c z (row_val b o k) r (tt, (tt, (tt, tt))) (tt, (tt, (tt, tt)))) $ says_two ! ((made.0 ∙ sym e, made.1, full_row), full.2 ∙ ap (map Some) (sym made.2)) $
    nothing ! $ move ! (2 ∷ 0 ∷ []) $ join ! $ nothing ! $ nothing ! $ fjoin ! $ nothing ! $ fjoin ! $ nothing ! $ fjoin ! $ move ! (0 ∷ 2 ∷ []) $ join ! $ move ! (1 ∷ 0 ∷ []) $ join ! $
    done !))))))))))))))
