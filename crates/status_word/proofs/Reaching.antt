-- What a step needs in a world that its workers reached, and that a step reaches another.
-- Source: what the definitions of Reached imply.
use Rattle.status_word.proofs.Cited.{◌≡◌, refl, sym, ap, ◌∙◌, subst, ℕ, ◌+◌, ◌<◌, ◌≤◌, ◌^◌, Bool, ltb, Option, Some, None, List, [], ◌∷◌, ◌++◌, length, get_or, set, replicate, IsTrue, arith, drop}
use Rattle.status_word.proofs.Cited.{All, AllPass, cond_both, drop_more, get_or_read, length-replicate, All-nil, All-push, is_seg_item, own_sum, between_tiles, SumsLaws}
use Rattle.cvl_base.specs.Limits.{most_elements}
use Rattle.status_word.specs.declared.action.Action.{Action}
use Rattle.status_word.specs.declared.action.Answer.{Answer}
use Rattle.status_word.specs.declared.action.Answer.TheVariants.{Tile, Done}
use Rattle.status_word.specs.declared.local.Local.{Local}
use Rattle.status_word.specs.declared.local.Local.TheVariants.{Ready, Summing, Looking, Helping, Publishing, Stopped}
use Rattle.status_word.specs.declared.world.Stepped.{Stepped}
use Rattle.status_word.specs.declared.world.Stepped.TheVariants.{Took, Idle}
use Rattle.status_word.specs.Codings.{Coding, CodingLaws}
use Rattle.status_word.specs.Locals.{action_of, next_of, holds_item, tells_item, is_item_status}
use Rattle.status_word.specs.declared.pass.Pass.{Pass}
use Rattle.status_word.specs.Passes.{new_pass}
use Rattle.status_word.specs.Reached.{CanAnswer, CanTell, IsReached, stepped_of}
use Rattle.status_word.specs.Worlds.{Scene, new_scene, local_at, acted, step_of, scene_after, passes_of, answer_of, claims_after, words_after, IsRight, IsWorld, steps_of, takes}
use Rattle.status_word.proofs.Coded.{code_read, told_is_item}
use Rattle.status_word.proofs.Dealt.{few_claims}
use Rattle.status_word.proofs.Lowered.{acted_same}
use Rattle.status_word.proofs.Runs.{world_after}

pub reached_first : {Item : Type 0} {is_item : Item → Bool} (m : Coding Item) (sums : List (Bool × Item)) (actors : ℕ) → length sums ≤ most_elements → actors < 2 ^ 32
    → AllPass (is_seg_item is_item) sums → (words : List ℕ) (locals : List (Local Item)) → words ≡ replicate (length sums) 0 → locals ≡ replicate actors Ready
    → IsReached is_item m (record { sums = sums; claims = 0; words = words; locals = locals })
reached_first m sums actors few workers items words locals same_words same_locals =
    let long : length locals ≡ actors = ap length same_locals ∙ length-replicate actors Ready in
    record {
      few = few;
      workers = omega (arith, long);
      items = items;
      actors = [];
      of_them = All-nil (λ a. a < length locals);
      reached = λ i. record { sums = sums; claims = 0; words = same_words i; locals = (same_locals ∙ ap (λ n. replicate n Ready) (sym long)) i };
    }

run_push : {Item : Type 0} (m : Coding Item) (actors : List ℕ) (w : Scene Item) (a : ℕ) → scene_after m w (actors ++ a ∷ []) ≡ step_of m (scene_after m w actors) a
run_push m [] w a = refl
run_push m (b ∷ actors) w a = run_push m actors (step_of m w b) a

reached_next : {Item : Type 0} {is_item : Item → Bool} (m : Coding Item) (w : Scene Item) (a : ℕ) → IsReached is_item m w → a < length w.locals → IsReached is_item m (step_of m w a)
reached_next {is_item = is_item} m w a r below =
    let stays = acted_same m w a (local_at w a) (action_of (local_at w a)) in
    record {
      few = omega (arith, ap length stays.0, r.few);
      workers = omega (arith, stays.1, r.workers);
      items = subst (AllPass (is_seg_item is_item)) (sym stays.0) r.items;
      actors = r.actors ++ a ∷ [];
      of_them = subst (λ n. All (λ b. b < n) (r.actors ++ a ∷ [])) (sym stays.1) (All-push (λ b. b < length w.locals) r.actors a r.of_them below);
      reached = ap (λ x. step_of m x a) r.reached
          ∙ sym (run_push m r.actors (new_scene w.sums (length w.locals)) a)
          ∙ (λ i. scene_after m (new_scene (sym stays.0 i) (sym stays.1 i)) (r.actors ++ a ∷ []));
    }

-- what the step of a worker asks for
pub record CanStep {Item : Type 0} (is_item : Item → Bool) (m : Coding Item) (w : Scene Item) (l : Local Item) (action : Action Item) : Type 0 where
  pub answer : CanAnswer w.sums w.words action
  pub tell : CanTell is_item m w.sums w.words action
  pub held : IsTrue (holds_item is_item l)
  pub told : IsTrue (tells_item is_item (answer_of m w.sums w.claims w.words action))

abbrev pub CanStepBy : {Item : Type 0} → (Item → Bool) → Coding Item → Scene Item → Local Item → Option (Action Item) → Type 0
CanStepBy is_item m w l None = Unit {0}
CanStepBy is_item m w l (Some action) = CanStep is_item m w l action

module _ {Item : Type 0} {is_item : Item → Bool} (m : Coding Item) (coded : CodingLaws is_item m)
    (laws : (ss : List (Bool × Item)) → AllPass (is_seg_item is_item) ss → SumsLaws is_item m.join m.unit ss) (w : Scene Item) (r : IsReached is_item m w) where
  abbrev passes : List (Pass Item)
  passes = passes_of m (new_scene w.sums (length w.locals)) (replicate (length w.locals) (new_pass w.sums)) r.actors

  world : IsWorld m w.sums (length w.locals) w passes
  world = subst (λ x. IsWorld m w.sums (length w.locals) x passes) (sym r.reached) (world_after m coded laws w.sums (length w.locals) r.actors r.items r.of_them)

  pub room : w.claims < 2 ^ 63
  room = omega (arith, few_claims (λ p. p.hand) (length w.sums) (length w.locals) w.claims passes world.passed_on.dealt, r.few, r.workers)

  sum_is_item : (t : ℕ) → IsTrue (is_item (own_sum m.unit w.sums t).1)
  sum_is_item t = (laws w.sums r.items).own t

  seen_is_item : (at : ℕ) → at < length w.sums → IsTrue (is_item_status is_item (m.read (get_or w.words at 0)))
  seen_is_item at tile =
      let lawful = world.lawful at tile in
      subst (λ s. IsTrue (is_item_status is_item s)) (sym (ap m.read lawful.1 ∙ code_read m coded laws w.sums r.items at lawful.0)) (told_is_item m coded laws w.sums r.items at lawful.0)

  run_is_item : (first t : ℕ) (sum : Bool × Item) → sum ≡ between_tiles m.join m.unit w.sums first t → IsTrue (is_item sum.1)
  run_is_item first t sum same = subst (λ s. IsTrue (is_item s.1)) (sym same) ((laws w.sums r.items).middle first t)

  can_step : (l : Local Item) → IsRight m w.sums l → CanStepBy is_item m w l (action_of l)
  can_step Ready right = record {
    answer = r.few;
    tell = tt;
    held = refl;
    told = cond_both (ltb w.claims (length w.sums)) (Tile w.claims) Done (λ answer. IsTrue (tells_item is_item answer))
        (λ _. refl) (λ _. refl);
  }
  can_step (Summing t) right = record { answer = right; tell = (right, omega (arith, right, world.as_many_words), sum_is_item t); held = refl; told = sum_is_item t }
  can_step (Looking t at sum) right =
      let tile : at < length w.sums = omega (arith, right.0, right.1) in
      record { answer = omega (arith, tile, world.as_many_words); tell = tt; held = run_is_item (at + 1) t sum right.2; told = seen_is_item at tile }
  can_step (Helping t at sum) right =
      let tile : at < length w.sums = omega (arith, right.0, right.1) in
      record { answer = tile; tell = (tile, omega (arith, tile, world.as_many_words), sum_is_item at); held = run_is_item (at + 1) t sum right.2; told = sum_is_item at }
  can_step (Publishing t prior) right =
      let held : IsTrue (is_item prior.1) = subst (λ s. IsTrue (is_item s.1)) (sym right.1) ((laws w.sums r.items).exclusive t) in
      record { answer = right.0; tell = (right.0, omega (arith, right.0, world.as_many_words), sum_is_item t, held); held = held; told = sum_is_item t }
  can_step Stopped right = tt

-- the same of a state and a step that are those of the worker
pub step_allowed : {Item : Type 0} {is_item : Item → Bool} (m : Coding Item) (coded : CodingLaws is_item m)
    (laws : (ss : List (Bool × Item)) → AllPass (is_seg_item is_item) ss → SumsLaws is_item m.join m.unit ss) (w : Scene Item) → IsReached is_item m w → (a : ℕ)
    → a < length w.locals → (l : Local Item) (action : Action Item) → l ≡ get_or w.locals a l → Some action ≡ action_of l → CanStep is_item m w l action
step_allowed {is_item = is_item} m coded laws w r a below l action same taken =
    let right = (world m coded laws w r).right a below in
    subst (CanStepBy is_item m w l) (sym taken) (can_step m coded laws w r l (subst (IsRight m w.sums) (sym (get_or_read w.locals a l below same Stopped)) right))

-- a world whose parts are those after the step of the worker
pub reached_by : {Item : Type 0} {is_item : Item → Bool} (m : Coding Item) (w : Scene Item) → IsReached is_item m w → (a : ℕ) → a < length w.locals
    → (l : Local Item) (action : Action Item) → l ≡ get_or w.locals a l → Some action ≡ action_of l
    → (claims : ℕ) (words : List ℕ) (answer : Answer Item) (next : Local Item) → claims ≡ claims_after w.claims action → words ≡ words_after m w.sums w.words action
    → answer ≡ answer_of m w.sums w.claims w.words action → next ≡ next_of m.join m.unit l answer
    → IsReached is_item m (record { sums = w.sums; claims = claims; words = words; locals = set w.locals a next })
reached_by {is_item = is_item} m w r a below l action same taken claims words answer next claims_are words_are answer_is next_is =
    let moved : next ≡ next_of m.join m.unit l (answer_of m w.sums w.claims w.words action) = next_is ∙ ap (next_of m.join m.unit l) answer_is in
    let after : acted m w a l (Some action) ≡ step_of m w a =
    ap (acted m w a l) taken ∙ ap (λ x. acted m w a x (action_of x)) (get_or_read w.locals a l below same Stopped) in
    let parts : acted m w a l (Some action) ≡ record { sums = w.sums; claims = claims; words = words; locals = set w.locals a next } = λ i.
    record { sums = w.sums; claims = sym claims_are i; words = sym words_are i; locals = set w.locals a (sym moved i) } in
    subst (IsReached is_item m) (sym after ∙ parts) (reached_next m w a r below)

-- one worker more of a list has taken its step, and those after it are left
module _ {Item : Type 0} (m : Coding Item) (actors : List ℕ) (w now next : Scene Item) (i : ℕ) (below : i < length actors) (is : next ≡ step_of m now (get_or actors i 0)) where
  pub run_more : scene_after m w actors ≡ scene_after m now (drop i actors) → scene_after m w actors ≡ scene_after m next (drop (i + 1) actors)
  run_more so_far = so_far ∙ ap (scene_after m now) (drop_more actors i 0 below) ∙ ap (λ x. scene_after m x (drop (i + 1) actors)) (sym is)

  pub steps_more : steps_of m now (drop i actors) ≡ takes (local_at now (get_or actors i 0)) + steps_of m next (drop (i + 1) actors)
  steps_more = omega (arith, ap (steps_of m now) (drop_more actors i 0 below), ap (λ x. steps_of m x (drop (i + 1) actors)) is)

-- whether the worker took a step shows in what it did
abbrev pub counts : {Item : Type 0} → Stepped Item → ℕ
counts (Took action) = 1
counts Idle = 0

pub takes_is : {Item : Type 0} (l : Local Item) → takes l ≡ counts (stepped_of l)
takes_is Ready = refl
takes_is (Summing t) = refl
takes_is (Looking t at after) = refl
takes_is (Helping t at after) = refl
takes_is (Publishing t prior) = refl
takes_is Stopped = refl
