-- What holds after any list of workers took their steps in a new world.
-- Source: what the definitions of Worlds and Passes imply.
use Rattle.status_word.proofs.Cited.{some, get_elem?, ◌≡◌, refl, sym, ap, ◌∙◌, subst, ℕ, zero, suc, ◌*◌, ◌<◌, ◌≤◌, Bool, List, [], ◌∷◌, length, get_or, replicate, arith, ⊎_elim, All, AllPass}
use Rattle.status_word.proofs.Cited.{sum_by, get_or-replicate, length-replicate, sum_by-replicate, get_or-le-sum_by, sum_by-cons, sum_by-le, All-from_get_or, All-head, All-replicate, All-tail}
use Rattle.status_word.proofs.Cited.{cases_lt, SumsLaws, is_seg_item}
use Rattle.status_word.specs.declared.local.Local.{Local}
use Rattle.status_word.specs.declared.local.Local.TheVariants.{Ready, Stopped}
use Rattle.status_word.specs.Codings.{Coding, CodingLaws, code}
use Rattle.status_word.specs.Locals.{action_of}
use Rattle.status_word.specs.declared.pass.Pass.{Pass}
use Rattle.status_word.specs.Hands.{times, IsFairHand}
use Rattle.status_word.specs.Passes.{new_pass, told_at, seen_at, given_at, highest, IsFair}
use Rattle.status_word.specs.Worlds.{Scene, new_scene, local_at, step_of, scene_after, passed, passes_of, takes, tiles_held, holders, IsWorld}
use Rattle.status_word.proofs.Coded.{code_high}
use Rattle.status_word.proofs.Dealt.{none_claimed, claimed_once, claimed_below, claimed_is}
use Rattle.status_word.proofs.Lowered.{acted_same}
use Rattle.status_word.proofs.Places.{place_of, element_at, highest_at}
use Rattle.status_word.proofs.Stands.{Agrees, Stands, stepped}

highest_of_none : {X : Type 0} (f : X → ℕ) (n : ℕ) (x : X) → f x ≡ 0 → highest f (replicate n x) ≡ 0
highest_of_none f zero x none = refl
highest_of_none f (suc n) x none = omega (arith, highest_of_none f n x none)

module _ {Item : Type 0} {is_item : Item → Bool} (m : Coding Item) (coded : CodingLaws is_item m)
    (laws : (ss : List (Bool × Item)) → AllPass (is_seg_item is_item) ss → SumsLaws is_item m.join m.unit ss) (sums : List (Bool × Item))
    (items : AllPass (is_seg_item is_item) sums) (workers : ℕ) where
  abbrev first : Pass Item
  first = new_pass sums

  total_none : (f : Pass Item → ℕ) → f first ≡ 0 → sum_by f (replicate workers first) ≡ 0
  total_none f none = sum_by-replicate f workers first ∙ ap (λ n. workers * n) none ∙ omega arith

  agrees_first : Agrees m sums Ready first
  agrees_first = record {
    right = tt;
    holds = λ t. omega arith;
    told = λ t more. absurd (omega arith);
    done = refl;
    share = refl;
  }

  stands_first : Stands m workers (new_scene sums workers) (replicate workers first)
  stands_first = record {
    long = length-replicate (length sums) 0;
    actors = length-replicate workers Ready;
    one_each = length-replicate workers first;
    agree = λ a below. rw (get_or-replicate {A = Local Item} workers a Ready Stopped below, get_or-replicate {A = Pass Item} workers a first first below) agrees_first;
    kept = record {
      words = λ t below. get_or-replicate (length sums) t 0 0 below ∙ sym coded.silent ∙ ap (code m sums t) (sym (highest_of_none (told_at t) workers first refl));
      states = λ t. omega (arith, highest_of_none (told_at t) workers first refl);
      seen = λ t. omega (arith, highest_of_none (seen_at t) workers first refl);
      dealt = record {
        given = λ t. total_none (given_at t) refl ∙ sym (none_claimed t (length sums));
        count = total_none (λ p. length p.hand.given) refl ∙ omega arith;
        done = total_none (λ p. p.hand.done) refl ∙ omega arith;
        shares = sum_by-replicate (λ p. p.hand.share) workers first ∙ omega arith;
        fair = same_at (λ p. IsFairHand p.hand) (record { marks = omega arith; empty = λ none. refl });
      };
      fair = same_at (IsFair sums) (record { tiles = λ _. refl; empty = λ none. absurd (omega arith) });
    };
  }
    where
      same_at : (P : Pass Item → Type 0) → P first → (j : ℕ) (z : Pass Item) → get_elem? (replicate workers first) j ≡ some z → P z
      same_at P here = element_at P (replicate workers first) (All-replicate P workers first here)

module _ {Item : Type 0} {is_item : Item → Bool} (m : Coding Item) (coded : CodingLaws is_item m)
    (laws : (ss : List (Bool × Item)) → AllPass (is_seg_item is_item) ss → SumsLaws is_item m.join m.unit ss) (workers : ℕ) where
  stands_run : (actors : List ℕ) (w : Scene Item) (passes : List (Pass Item)) → AllPass (is_seg_item is_item) w.sums → All (λ a. a < workers) actors
      → Stands m workers w passes → Stands m workers (scene_after m w actors) (passes_of m w passes actors)
  stands_run [] w passes items below stands = stands
  stands_run (a ∷ actors) w passes items below stands =
      let here : a < workers = All-head (λ b. b < workers) a actors below in
      stands_run actors (step_of m w a) (passed m w a passes (action_of (local_at w a)))
      (subst (AllPass (is_seg_item is_item)) (sym (acted_same m w a (local_at w a) (action_of (local_at w a))).0) items)
      (All-tail (λ b. b < workers) a actors below)
      (stepped m coded laws workers w passes items stands a here (local_at w a) (stands.agree a here))

  sums_run : (actors : List ℕ) (w : Scene Item) → (scene_after m w actors).sums ≡ w.sums
  sums_run [] w = refl
  sums_run (a ∷ actors) w = sums_run actors (step_of m w a) ∙ (acted_same m w a (local_at w a) (action_of (local_at w a))).0

-- ---- what follows of a world that stands

-- a total that is above another is above it at some place
some_above : {X Y : Type 0} (f : X → ℕ) (g : Y → ℕ) (xs : List X) (ys : List Y) (d : X) (e : Y) → length xs ≡ length ys → sum_by f xs < sum_by g ys → (a : ℕ)
    × (a < length ys) × (f (get_or xs a d) < g (get_or ys a e))
some_above f g [] [] d e long above = absurd (omega arith)
some_above f g [] (y ∷ ys) d e long above = absurd (omega arith)
some_above f g (x ∷ xs) [] d e long above = absurd (omega arith)
some_above f g (x ∷ xs) (y ∷ ys) d e long above =
    ⊎_elim (λ (less : f x < g y). (0, omega arith, less))
    (λ (more : g y ≤ f x).
    let rest = some_above f g xs ys d e (omega arith) (omega (arith, sum_by-cons f x xs, sum_by-cons g y ys)) in (suc rest.0, omega (arith, rest.1), rest.2))
    (cases_lt (f x) (g y))

module _ {Item : Type 0} (m : Coding Item) (workers : ℕ) (w : Scene Item) (passes : List (Pass Item)) (stands : Stands m workers w passes) where
  as_long : length w.locals ≡ length passes
  as_long = stands.actors ∙ sym stands.one_each

  held_given : (t : ℕ) → holders w t ≤ sum_by (given_at t) passes
  held_given t =
      ⊎_elim (λ (more : sum_by (given_at t) passes < holders w t).
      let at = some_above (given_at t) (λ l. times t (tiles_held l)) passes w.locals (new_pass w.sums) Stopped (sym as_long) more in
      absurd (omega (arith, at.2, (stands.agree at.0 (omega (arith, at.1, stands.actors))).holds t)))
      (λ (fewer : holders w t ≤ sum_by (given_at t) passes). fewer)
      (cases_lt (sum_by (given_at t) passes) (holders w t))

  prefix_told : (t : ℕ) → t < w.claims → t < length w.sums → holders w t ≡ 0 → get_or w.words t 0 ≡ code m w.sums t 2
  prefix_told t below tile none =
      let one : sum_by (given_at t) passes ≡ 1 = stands.kept.dealt.given t ∙ claimed_is t w.claims (length w.sums) below tile in
      let other = some_above (λ l. times t (tiles_held l)) (given_at t) w.locals passes Stopped (new_pass w.sums) as_long (omega arith) in
      let told = (stands.agree other.0 (omega (arith, other.1, stands.one_each))).told t other.2 in
      let top = highest_at (told_at t) passes other.0 (get_or passes other.0 (new_pass w.sums)) (place_of passes other.0 (new_pass w.sums) other.1) in
      stands.kept.words t tile ∙ code_high m w.sums t (highest (told_at t) passes) (omega arith)

  all_told : 1 ≤ workers → ((a : ℕ) → a < workers → local_at w a ≡ Stopped) → (t : ℕ) → t < length w.sums → get_or w.words t 0 ≡ code m w.sums t 2
  all_told one_there stopped t tile =
      let first_done : (get_or passes 0 (new_pass w.sums)).hand.done ≡ 1 = omega (arith, (stands.agree 0 one_there).done, ap takes (stopped 0 one_there)) in
      let done = get_or-le-sum_by (λ p. p.hand.done) passes 0 (new_pass w.sums) (omega (arith, stands.one_each)) in
      let none = sum_by-le (λ l. times t (tiles_held l)) 0 w.locals (All-from_get_or (λ l. times t (tiles_held l) ≤ 0) w.locals Stopped
      (λ a below. omega (arith, ap (λ l. times t (tiles_held l)) (stopped a (omega (arith, below, stands.actors)))))) in
      prefix_told t (omega (arith, first_done, done, stands.kept.dealt.done)) tile (omega (arith, none))

  world_of : IsWorld m w.sums workers w passes
  world_of = record {
    same_sums = refl;
    as_many_words = stands.long;
    as_many_locals = stands.actors;
    lawful = λ t tile. (highest (told_at t) passes, stands.kept.words t tile);
    right = λ a below. (stands.agree a below).right;
    apart = λ t. omega (arith, held_given t, stands.kept.dealt.given t, claimed_once t w.claims (length w.sums));
    claimed = λ t is_held. claimed_below t w.claims (length w.sums) (omega (arith, is_held, held_given t, stands.kept.dealt.given t));
    prefixes = prefix_told;
    ended = all_told;
    passed_on = stands.kept;
    one_pass_each = stands.one_each;
  }

pub world_after : {Item : Type 0} {is_item : Item → Bool} (m : Coding Item) (coded : CodingLaws is_item m)
    (laws : (ss : List (Bool × Item)) → AllPass (is_seg_item is_item) ss → SumsLaws is_item m.join m.unit ss) (sums : List (Bool × Item)) (workers : ℕ) (actors : List ℕ)
    → AllPass (is_seg_item is_item) sums → All (λ a. a < workers) actors
    → IsWorld m sums workers (scene_after m (new_scene sums workers) actors) (passes_of m (new_scene sums workers) (replicate workers (new_pass sums)) actors)
world_after m coded laws sums workers actors items below =
    let w = scene_after m (new_scene sums workers) actors in
    let passes = passes_of m (new_scene sums workers) (replicate workers (new_pass sums)) actors in
    let stands = stands_run m coded laws workers actors (new_scene sums workers) (replicate workers (new_pass sums)) items below (stands_first m coded laws sums items workers) in
    subst (λ tiles. IsWorld m tiles workers w passes) (sums_run m coded laws workers actors (new_scene sums workers)) (world_of m workers w passes stands)
