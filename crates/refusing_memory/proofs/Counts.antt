-- The two calls that count, `Calls::refuses` and `Calls::free`: what each is handed, and what its caller has of it. Assumes `Logic`.
use Rattle.refusing_memory.proofs.Walks.{◌≡◌, ℕ, ◌^◌, ◌<◌, Bool, List, [], ◌∷◌, refl, w64, ap, Ura, Val, vbool, vint, vptr, vunit, SProp, ent, id⊢, ex, sep, guard, Lft, Share, ftrue, flft, fsep}
use Rattle.refusing_memory.proofs.Walks.{Memory, Routine, Logic, sem, Fun, RattleType, nothing, only, triple_of, Contract, ‵, ◌⊛◌, some, later, pick, ◌$◌, ◌∵◌, !, qed, move, keep, use1, split, join}
use Rattle.refusing_memory.proofs.Walks.{fjoin, await, done, feq_i, show, feq_l, flt_i, check, updating, bool, unit}
use types.Kit.{now as at_once}
use denote.Memory.{hidden_shr}
use Rattle.refusing_memory.specs.contracts.counting.Calls as CA
use Rattle.refusing_memory.specs.contracts.counting.Calls.refuses as RE
use Rattle.refusing_memory.specs.contracts.counting.Calls.free as FR

abbrev pub Counts : RattleType
Counts = CA.the_row

module _ {M : Type 1} {𝓤 : Ura M} (𝓛 : Logic 𝓤) (at_mem : Memory → SProp 𝓤) (run : Routine → Fun 𝓤) where
  abbrev pub Refuses : Contract 𝓤
  Refuses = triple_of 𝓛 RE.signature (RE.spec 𝓛 at_mem run)

  abbrev pub Frees : Contract 𝓤
  Frees = triple_of 𝓛 FR.signature (FR.spec 𝓛 at_mem run)

  abbrev pub at_refuses : Lft → Share → ℕ × ℕ → Counts.Denot → ℕ → Refuses.Ghost
  at_refuses κ q c x n = (((κ, tt), (q, tt), tt, (record { ref_ptr = c; now = x }, (n, tt)), (vptr c.0 c.1 ∷ [], (vint w64 n ∷ [], tt))), tt)

  abbrev pub at_frees : Lft → Share → ℕ × ℕ → Counts.Denot → Frees.Ghost
  at_frees κ q c x = (((κ, tt), (q, tt), tt, (record { ref_ptr = c; now = x }, tt), (vptr c.0 c.1 ∷ [], tt)), tt)

module _ {M : Type 1} {𝓤 : Ura M} (𝓛 : Logic 𝓤) (at_mem : Memory → SProp 𝓤) (run : Routine → Fun 𝓤) (κ : Lft) (q : Share) (c : ℕ × ℕ) (x : Counts.Denot) where
  open 𝓛 use {H, A}

  pub Refuses-goes : (n : ℕ) → n < 2 ^ 64 → ent 𝓤 (sep 𝓤 (sem 𝓛 (hidden_shr Counts κ x c.0 c.1)) (A.lft κ q)) ((Refuses 𝓛 at_mem run).pre (at_refuses 𝓛 at_mem run κ q c x n))
  Refuses-goes n fn =
      qed 𝓛 (‵ (hidden_shr Counts κ x c.0 c.1) ∷ ‵ (flft κ q) ∷ []) ∵
      nothing ! $ flt_i ! n (2 ^ 64) fn $ feq_i ! (List Val) (vint w64 n ∷ []) (vint w64 n ∷ []) refl $ fjoin ! $ fjoin ! $
      move ! (1 ∷ []) $ feq_i ! (List Val) (vptr c.0 c.1 ∷ []) (vptr c.0 c.1 ∷ []) refl $ fjoin ! $ fjoin ! $
      nothing ! $ move ! (2 ∷ []) $ join ! $ join ! $ nothing ! $ move ! (1 ∷ []) $ done !

  pub Refuses-gives : (n : ℕ) (v : Val) → ent 𝓤 ((Refuses 𝓛 at_mem run).post (at_refuses 𝓛 at_mem run κ q c x n) v) (H.⇛ (ex 𝓤 (λ (r : Bool). guard 𝓤 (v ≡ vbool r) (A.lft κ q))))
  Refuses-gives n v =
      qed 𝓛 (types.Kit.raw ((Refuses 𝓛 at_mem run).post (at_refuses 𝓛 at_mem run κ q c x n) v) ∷ []) ∵ updating ! $
      use1 𝓛 (later (some (λ (r : Bool). ((‵ (flft κ q) ⊛ ‵ ftrue) ⊛ ‵ (bool.own_val r (v ∷ [])))
      ⊛ some (λ (ws : Unit {0} × (Unit {0} × Unit {0})). ‵ (fsep ftrue (fsep ftrue ftrue)) ⊛ ‵ ftrue)))) (id⊢ 𝓤 _) $ await ! tt $ pick ! (λ r.
      split ! $ split ! $ move ! (1 ∷ []) $ feq_l ! (λ e. split ! $ at_once ! $
      show ! (λ (r : Bool). guard 𝓤 (v ≡ vbool r) (A.lft κ q)) r $ check ! (ap only e) $ keep ! (0 ∷ []) $ done !))

  pub Frees-goes : ent 𝓤 (sep 𝓤 (sem 𝓛 (hidden_shr Counts κ x c.0 c.1)) (A.lft κ q)) ((Frees 𝓛 at_mem run).pre (at_frees 𝓛 at_mem run κ q c x))
  Frees-goes =
      qed 𝓛 (‵ (hidden_shr Counts κ x c.0 c.1) ∷ ‵ (flft κ q) ∷ []) ∵ feq_i ! (List Val) (vptr c.0 c.1 ∷ []) (vptr c.0 c.1 ∷ []) refl $ fjoin ! $
      nothing ! $ move ! (1 ∷ []) $ fjoin ! $ nothing ! $ move ! (2 ∷ []) $ join ! $ join ! $ nothing ! $ move ! (1 ∷ []) $ done !

  pub Frees-gives : (v : Val) → ent 𝓤 ((Frees 𝓛 at_mem run).post (at_frees 𝓛 at_mem run κ q c x) v) (H.⇛ (guard 𝓤 (v ≡ vunit) (A.lft κ q)))
  Frees-gives v =
      qed 𝓛 (types.Kit.raw ((Frees 𝓛 at_mem run).post (at_frees 𝓛 at_mem run κ q c x) v) ∷ []) ∵ updating ! $
      use1 𝓛 (later (some (λ (r : Unit {0}). ((‵ (flft κ q) ⊛ ‵ ftrue) ⊛ ‵ (unit.own_val r (v ∷ []))) ⊛ some (λ (ws : Unit {0} × Unit {0}). ‵ (fsep ftrue ftrue) ⊛ ‵ ftrue)))) (id⊢ 𝓤 _) $ await ! tt $
      pick ! (λ r.
      split ! $ split ! $ move ! (1 ∷ []) $ feq_l ! (λ e. split ! $ at_once ! $ check ! (ap only e) $ keep ! (0 ∷ []) $ done !))
