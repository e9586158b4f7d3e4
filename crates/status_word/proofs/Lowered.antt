-- Each step taken lowers the number of steps that are left.
-- Source: what the definitions of Worlds imply.
use Rattle.status_word.proofs.Cited.{◌≡◌, refl, sym, ap, subst, ℕ, zero, suc, ◌+◌, ◌-◌, ◌*◌, ◌<◌, ◌≤◌, Bool, true, false, cond, ltb, Option, Some, None, List, [], ◌∷◌, length, get_or, set, arith}
use Rattle.status_word.proofs.Cited.{length-set, All, sum_by, ltb-true, ltb-false, All-head, All-tail, sum_by-replicate, sum_by-set, seg_unit, seg_join, own_sum}
use Rattle.status_word.specs.declared.status.Status.{Status}
use Rattle.status_word.specs.declared.status.Status.TheVariants.{Silent, Sum, Prefix}
use Rattle.status_word.specs.declared.action.Action.{Action}
use Rattle.status_word.specs.declared.action.Answer.TheVariants.{Tile, Done}
use Rattle.status_word.specs.declared.local.Local.{Local}
use Rattle.status_word.specs.declared.local.Local.TheVariants.{Ready, Summing, Looking, Helping, Publishing, Stopped}
use Rattle.status_word.specs.Codings.{Coding}
use Rattle.status_word.specs.Locals.{action_of, next_of, added_up_to, after_look}
use Rattle.status_word.specs.Worlds.{Scene, new_scene, local_at, acted, step_of, scene_after, answer_of, left_of, left_of_local, left_of_tiles, takes, steps_of}

left_added : {Item : Type 0} (t at : ℕ) (sum : Bool × Item) → left_of_local (added_up_to t at sum) ≤ 2 + 2 * at
left_added t zero sum = omega arith
left_added t (suc at) sum = omega arith

left_looked : {Item : Type 0} (join : Item → Item → Item) (t at : ℕ) (sum : Bool × Item) (status : Status Item) → left_of_local (after_look join t at sum status) ≤ 3 + 2 * at
left_looked join t at sum Silent = omega arith
left_looked join t at sum (Sum starts value) = omega (arith, left_added t at (seg_join join (starts, value) sum))
left_looked join t at sum (Prefix starts value) = omega arith

left_past : (claims tiles : ℕ) → tiles ≤ claims → left_of_tiles claims (tiles - claims) ≡ 0
left_past claims tiles past = let none : tiles - claims ≡ 0 = omega arith in ap (left_of_tiles claims) none

module _ {Item : Type 0} (m : Coding Item) (w : Scene Item) (a : ℕ) where
  -- what a worker in the state `l` leaves, where it goes over to the state `next`
  abbrev Moves : Local Item → Type 0
  Moves l = (next : Local Item) → sum_by left_of_local (set w.locals a next) + left_of_local l ≡ sum_by left_of_local w.locals + left_of_local next

  ready_lowers : (b : Bool) → ltb w.claims (length w.sums) ≡ b → Moves Ready
      → 1 + (left_of_tiles (w.claims + 1) (length w.sums - (w.claims + 1)) + sum_by left_of_local
      (set w.locals a (next_of m.join m.unit Ready (cond b (Tile w.claims) Done)))) ≤ left_of w
  ready_lowers true test moves =
      let more : length w.sums - w.claims ≡ suc (length w.sums - (w.claims + 1)) = omega (arith, ltb-true w.claims (length w.sums) test) in
      omega (arith, ap (left_of_tiles w.claims) more, moves (Summing w.claims))
  ready_lowers false test moves =
      let past = ltb-false w.claims (length w.sums) test in
      omega (arith, left_past w.claims (length w.sums) past, left_past (w.claims + 1) (length w.sums) (omega (arith, past)), moves Stopped)

  acted_lowers : (l : Local Item) → Moves l → takes l + left_of (acted m w a l (action_of l)) ≤ left_of w
  acted_lowers Ready moves = ready_lowers (ltb w.claims (length w.sums)) refl moves
  acted_lowers (Summing t) moves = omega (arith, moves (added_up_to t t (seg_unit m.unit)), left_added t t (seg_unit m.unit))
  acted_lowers (Looking t at sum) moves =
      let status = m.read (get_or w.words at 0) in
      omega (arith, moves (after_look m.join t at sum status), left_looked m.join t at sum status)
  acted_lowers (Helping t at sum) moves =
      let told = seg_join m.join (own_sum m.unit w.sums at) sum in
      omega (arith, moves (added_up_to t at told), left_added t at told)
  acted_lowers (Publishing t prior) moves = omega (arith, moves Ready)
  acted_lowers Stopped moves = omega arith

  pub step_lowers : a < length w.locals → takes (local_at w a) + left_of (step_of m w a) ≤ left_of w
  step_lowers below = acted_lowers (local_at w a) (λ next. sum_by-set left_of_local w.locals a next Stopped below)

-- a step changes neither the tiles nor the number of workers
pub acted_same : {Item : Type 0} (m : Coding Item) (w : Scene Item) (a : ℕ) (l : Local Item) (action : Option (Action Item)) → ((acted m w a l action).sums ≡ w.sums)
    × (length (acted m w a l action).locals ≡ length w.locals)
acted_same m w a l None = (refl, refl)
acted_same m w a l (Some action) = (refl, length-set w.locals a (next_of m.join m.unit l (answer_of m w.sums w.claims w.words action)))

pub run_lowers : {Item : Type 0} (m : Coding Item) (actors : List ℕ) (w : Scene Item) → All (λ a. a < length w.locals) actors → steps_of m w actors + left_of (scene_after m w actors) ≤ left_of w
run_lowers m [] w below = omega arith
run_lowers m (a ∷ actors) w below =
    let same = (acted_same m w a (local_at w a) (action_of (local_at w a))).1 in
    let still = subst (λ n. All (λ b. b < n) actors) (sym same) (All-tail (λ b. b < length w.locals) a actors below) in
    omega (arith, step_lowers m w a (All-head (λ b. b < length w.locals) a actors below), run_lowers m actors (step_of m w a) still)

tiles_left : (t count : ℕ) → left_of_tiles t count + count ≡ 3 * count + 2 * (t * count) + count * count
tiles_left t zero = omega arith
tiles_left t (suc count) = omega (arith, tiles_left (t + 1) count)

products : (n : ℕ) → n * (n - 1) + n ≡ n * n
products zero = omega arith
products (suc n) = let less : suc n - 1 ≡ n = omega arith in let same = ap (λ k. suc n * k) less in omega arith

-- a new world
pub left_first : {Item : Type 0} (sums : List (Bool × Item)) (workers : ℕ) → left_of (new_scene sums workers) ≡ 3 * length sums + length sums * (length sums - 1) + workers
left_first {Item = Item} sums workers =
    let all : length sums - 0 ≡ length sums = omega arith in
    omega (arith, tiles_left 0 (length sums), products (length sums), ap (left_of_tiles 0) all, sum_by-replicate (left_of_local {Item = Item}) workers Ready)

pub ruleset lowers = (step_lowers, run_lowers, left_first)
