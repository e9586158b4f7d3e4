-- `give_block` makes the block of a vector of its places and the right to free it. Assumes `Logic`.
use Rattle.fresh.proofs.Cited.{El, args, el_x, el_d, Vr, R, P, sz, Hd, slots, cells_own, deed_owns}
use Rattle.fresh.proofs.Walks.{◌≡◌, refl, sym, ap, subst, ◌∙◌, ℕ, ◌+◌, ◌-◌, ◌*◌, ◌<◌, ◌≤◌, ◌^◌, arith, zero-mul, List, [], ◌∷◌, ◌++◌, map, length, replicate, length-append, length-map}
use Rattle.fresh.proofs.Walks.{length-replicate, Fn, w64, inst_fn, Val, vunit, vint, vptr, SProp, ent, never, id⊢, ftrue, flft, Env, WpFn, ◌⊑◌, fact, tables, ‵, raw, ◌⊛◌, at_ret, ◌$◌, ◌∵◌, !, qed}
use Rattle.fresh.proofs.Walks.{move, keep, drop, use2, split, split3, join, rewrite, fsplit, fsplit3, fjoin, fjoin3, feq_i, feq_l, flt_l, suffices, done, whole, sub, store_in, stop, fld, addr}
use Rattle.fresh.proofs.Walks.{unit_lit, of_opd, assigns, assigns_last, first, blocks, exec, returns, enter, alloc_all, pass_all, free_all, look_at, get, get_in, through, is, sets, env, yes, no}
use Rattle.fresh.proofs.Walks.{RattleType, owns, usize, Ptr, ptr_val, in_a_block, plain, types_at, heard, nothing, Ended, proved_at, Stays, stay_dropped, stay_ref, walk_of, ends_at, Goes-dropped}
use Rattle.fresh.proofs.Walks.{Goes-ref, Some, None, token, Goes-blank, says_two, has_block, word, word-Good, Blk, vec_opens⁰, vec_closes⁰, after}
use Rattle.fresh.proofs.Blocks.{el, items_in}
use Rattle.fresh.proofs.Memory.{Bs, Cr, Place, mark, mark_had, word_had}
use Rattle.fresh.specs.contracts.block.Deed as D-type
use Rattle.fresh.specs.contracts.block.give_block as F
use Rattle.fresh.specs.contracts.block.give_block.Key.{name as #self}
use Rattle.fresh.proofs.block.give_block.Statement.{statement}
use Rattle.fresh.proofs.block.give_block.Code as code

pub give_block_spec : {M : Type 1} → statement M
give_block_spec 𝓤 𝓛 𝓜 𝓡 wired X Z L LZ g d dd met md =
    let E : El = record { row = X; laws = L; al = record { row = Z; laws = LZ; g = g; d = d; drops = dd } } in let H = 𝓛.H in
    let 𝓣 = tables 𝓤 H 𝓜 𝓡 𝓡.env in let here : Fn = inst_fn (args E) code.function in
    let En : Ended = F.ended X Z g d dd in let cl = F.clauses X Z g d dd 𝓛 𝓜.mem 𝓡.returns in let Dd : RattleType = D-type.the_row (R E) (P E) g in
    let hs : Stays En.signature.params En.kept = (
      stay_ref (0 ∷ []) tt (plain (λ _. Vr E)),
      (
        stay_dropped (plain (λ _. Bs (el E))) no,
        (
          stay_dropped (plain (λ _. usize)) yes,
          (
            stay_dropped (plain (λ _. usize)) yes,
            (stay_dropped (plain (λ _. Cr (el E))) no, (stay_dropped (plain (λ _. Dd)) no, tt)),
          ),
        ),
      ),
    ) in
    proved_at 𝓛 En hs cl 𝓜 𝓡 (
      Goes-ref 𝓛 3 0 tt (plain (λ _. Vr E)),
      (
        Goes-dropped 𝓛 3 (plain (λ _. Bs (el E))) no (λ κs x f. refl),
        (
          Goes-dropped 𝓛 3 (plain (λ _. usize)) yes (λ κs x f. refl),
          (Goes-dropped 𝓛 3 (plain (λ _. usize)) yes (λ κs x f. refl), (Goes-blank 𝓛 3 (plain (λ _. Cr (el E))) no (λ κs x f. tt), (Goes-blank 𝓛 3 (plain (λ _. Dd)) no (λ κs x f. tt), tt))),
        ),
      ),
    ) (#self (args E)) here (code.unfolded 𝓤 H 𝓜 𝓡 wired (X, (Z, tt)) d dd) (λ z are.
    let κ = z.0.0.0 in let κ₁ = z.0.0.1.0 in let κ₂ = z.0.0.1.1.0 in let q = z.0.1.0 in let q₁ = z.0.1.1.0 in let q₂ = z.0.1.1.1.0 in
    let rb : ℕ = z.0.3.0.ref_ptr.0 in let ro : ℕ = z.0.3.0.ref_ptr.1 in let vss = z.0.4 in
    let Post : Val → SProp 𝓤 = (walk_of 𝓛 En hs cl).post z in
    let Run : List Val → SProp 𝓤 = λ ws. WpFn 𝓤 H 𝓣.C 𝓣.Λ here ws Post in
    let h : el_d E = z.0.3.0.now in let a = h.alloc in let s = sz E in
    let base : (Bs (el E)).Denot = z.0.3.1.0 in let n : ℕ = z.0.3.1.1.0 in let c : ℕ = z.0.3.1.1.1.0 in let cells : (Cr (el E)).Denot = z.0.3.1.1.1.1.0 in let deed : Dd.Denot = z.0.3.1.1.1.1.1.0 in
    let None_yet : Type 0 = h.cap ≡ 0 in
    let Block : Type 0 = (cells.at ≡ base.ptr) × (cells.from ≡ 0) × (deed.at ≡ base.ptr) × (deed.len ≡ c) × (deed.alloc ≡ a) in
    let Full : Type 0 = (xs : List (el_x E)) × (length xs ≡ n) × (n ≤ c) × (cells.slots ≡ map Some xs ++ replicate (c - n) None) in
    qed 𝓛 (((‵ (flft κ q) ⊛ ‵ (flft κ₁ q₁) ⊛ ‵ (flft κ₂ q₂) ⊛ ‵ ftrue) ⊛ ‵ (owns (types_at En.signature.params z.0.0) z.0.3 vss))
    ∷ (raw (fact 𝓤 (κ₁ ⊑ E.row.lives)) ⊛ raw (fact 𝓤 (κ₂ ⊑ E.al.row.lives)) ⊛ raw (fact 𝓤 None_yet) ⊛ raw (fact 𝓤 Block) ⊛ raw (fact 𝓤 Full)) ∷ []) ∵
    move ! (1 ∷ []) $ split3 ! $ drop ! $ drop ! $ split3 ! $ heard ! None_yet (λ none. heard ! Block (λ block. heard ! Full (λ full.
    split ! $ split3 ! $ move ! (3 ∷ []) $ fsplit3 ! $ fsplit3 ! $ feq_l ! (λ e₀. move ! (2 ∷ []) $ word_had ! base.ptr vss.1.0 (λ e₁. move ! (2 ∷ []) $
    fsplit3 ! $ fsplit ! $ feq_l ! (λ e₂. flt_l ! (λ fn. fsplit ! $ feq_l ! (λ e₃. flt_l ! (λ fc. fsplit3 ! $ fsplit ! $ mark_had ! (el E) vss.1.1.1.1.0 (λ e₄. move ! (1 ∷ []) $
    fsplit ! $ mark_had ! (el E) vss.1.1.1.1.1.0 (λ e₅. keep ! (1 ∷ 0 ∷ 3 ∷ 4 ∷ 5 ∷ 6 ∷ 7 ∷ []) $
    let us : List Val = vptr rb ro ∷ word base.ptr ∷ vint w64 n ∷ vint w64 c ∷ mark ∷ mark ∷ [] in
    let xs : List (el_x E) = full.0 in let long = full.1 in let le : n ≤ c = full.2 in
    let zs : List (Place (el E)) = replicate (c - n) None in let ws : List (Place (el E)) = map Some xs in let ys = ws ++ zs in
    let sum = length-append ws zs in let fore : length ws ≡ length xs = length-map xs Some in let rest : length zs ≡ c - n = length-replicate (c - n) None in
    let count : 0 + length ys ≡ c = omega arith in
    let low : c < 2 ^ 63 = subst (λ (j : ℕ). j < 2 ^ 63) block.3 deed.small in
    let new : el_d E = record { ptr = base.ptr; len = n; cap = c; alloc = a; items = xs; ok = (sym long, le); small = low } in
    suffices ! (Run us) (subst (λ (ws : List Val). ent 𝓤 (Run us) (Run ws)) (sym (λ i. e₀ i ++ (e₁ i ++ (e₂ i ++ (e₃ i ++ (e₄ i ++ (e₅ i ++ []))))))) (id⊢ 𝓤 (Run us))) $
    enter ! 𝓣.C 𝓣.Λ here us Post $
    alloc_all ! (λ l. pass_all ! refl ((tt, tt), (word-Good [] base.ptr, ((tt, record { fits = fn }), ((tt, record { fits = fc }), ((tt, (tt, tt)), ((tt, (tt, tt)), tt)))))) $
    let Ev : Env 𝓤 H = env here.locals l in
    rewrite ! 0 (λ (t : Ptr × ℕ × List (Place (el E))). ‵ (cells_own (R E) t.0 t.1 t.2)) (λ i. (block.0 i, block.1 i, full.3 i)) refl $
    in_a_block ! base.ptr (λ p. cells_own (R E) p 0 ys) (id⊢ 𝓤 (never 𝓤)) (λ b o e. fsplit ! $ flt_l ! (λ small.
    let start : 0 * s + o ≡ o = omega (arith, zero-mul s) in let fit : c * s < 2 ^ 63 = subst (λ j. j * s < 2 ^ 63) count small in
    rewrite ! 0 (λ (j : ℕ). ‵ (slots (R E) b j ys)) start refl $
    rewrite ! 1 (λ (t : Hd E × Ptr × ℕ). ‵ (deed_owns (R E) (token E.al t.0) t.1 t.2)) (λ i. (block.4 i, (block.2 ∙ e) i, block.3 i)) refl $
    use2 𝓛 (‵ (Blk E a b o n c xs)) (items_in E 𝓛 b o a (has_block c) n c xs long) $ move ! (1 ∷ 2 ∷ 3 ∷ []) $
    sets ! (addr ! (through ! refl (stop !))) refl (tt, tt) $ sets ! (of_opd ! (get ! refl)) refl (tt, tt) $
    vec_opens⁰ E ! tt h rb ro (λ b' o' hv at' fl' fc' fit'. drop ! $
    -- [the words; the open borrow; obs; auth; the block; the tokens]
    first ! $ blocks ! $
    assigns ! (is ! (of_opd ! (get_in ! (fld ! refl (stop !)) (sub ! 0 refl (whole !)))) (ap ptr_val e)) (through ! refl (fld ! refl (stop !))) (store_in ! 0 (sub ! 0 refl (whole !)) (tt, tt)) $
    assigns ! (of_opd ! (get ! refl)) (through ! refl (fld ! refl (stop !))) (store_in ! 0 (sub ! 1 refl (whole !)) (tt, record { fits = fn })) $
    assigns_last ! (of_opd ! (get ! refl)) (through ! refl (fld ! refl (stop !))) (store_in ! 0 (sub ! 2 refl (whole !)) (tt, record { fits = fc })) $
    exec ! 𝓣.C 𝓣.Λ Ev (after 3 here.body) (at_ret Ev Post) $
    sets ! (of_opd ! (unit_lit !)) refl (tt, tt) $ move ! (4 ∷ []) $
    vec_closes⁰ E ! tt new b o n c xs rb ro (e, refl, refl, refl) fn fc fit $
    returns ! (look_at ! 0 refl) $ free_all ! refl $
    suffices ! _ (ends_at 𝓛 En hs cl z vunit tt (new, (tt, (tt, (tt, (tt, (tt, tt)))))) (tt, (tt, (tt, (tt, (tt, (tt, tt))))))) $ says_two ! (full.3, (refl, refl, refl)) $
    feq_i ! (List Val) vss.0 (vptr rb ro ∷ []) e₀ $ fjoin3 ! $
    nothing ! $ nothing ! $ fjoin ! $ nothing ! $ fjoin ! $ nothing ! $ fjoin ! $ nothing ! $ fjoin ! $ nothing ! $ fjoin ! $ move ! (1 ∷ 0 ∷ []) $ fjoin ! $
    move ! (2 ∷ 3 ∷ []) $ join ! $ move ! (2 ∷ 0 ∷ []) $ join ! $ feq_i ! (List Val) (vunit ∷ []) (vunit ∷ []) refl $ keep ! (1 ∷ 2 ∷ 0 ∷ []) $ done !))))))))))))))))
