-- Items that go with numbers, some after others.
use Rattle.fresh.proofs.Cited.{◌≡◌, ℕ, suc, ◌+◌, ◌-◌, ◌<◌, ◌≤◌, inl, inr, List, [], ◌∷◌, ◌++◌, length, map, get_or, refl, sym, ap, ◌∙◌, subst, arith}
use Rattle.fresh.proofs.Cited.{length-append, AllZip, GoWith, Stretch, stretch, with_items}
use Rattle.fresh.proofs.Maps.{zipped_map}
use Rattle.fresh.proofs.Written.{written_twice}
use Rattle.std.proofs.lemmas.Bool.{cases_lt}
use Rattle.std.proofs.lemmas.List.{get_or_append_left, get_or-append_right}

module _ {X : Type 0} (P : ℕ → X → Type 0) where
  -- one goes with its number
  pub one_goes : (start : ℕ) (x : X) → P start x → GoWith P start 1 (x ∷ [])
  one_goes start x p = record {
    count = refl;
    each = λ k d lt. let none : 0 ≡ k = omega (arith, lt) in let at : start ≡ start + 0 = omega arith in
        subst (λ j. P (start + j) (get_or (x ∷ []) j d)) none (subst (λ j. P j x) at p);
  }

  -- those of the numbers after these
  pub go_on : (start n m : ℕ) (xs ys : List X) → GoWith P start n xs → GoWith P (start + n) m ys → GoWith P start (n + m) (xs ++ ys)
  go_on start n m xs ys before after = record {
    count = omega (arith, length-append xs ys, before.count, after.count);
    each = λ k d lt. elim (cases_lt k n) [
      | inl low ↦ subst (P (start + k)) (sym (get_or_append_left xs ys d k (omega (arith, low, before.count)))) (before.each k d low)
      | inr high ↦
          let at : start + n + (k - n) ≡ start + k = omega (arith, high) in
          subst (P (start + k)) (sym (get_or-append_right xs ys n k d before.count high))
          (subst (λ j. P j (get_or ys (k - n) d)) at (after.each (k - n) d (omega (arith, lt, high))))
    ];
  }

  -- what a run holds after them
  pub written_on : (start n m : ℕ) (run now next : Stretch X)
      → (xs : List X) × GoWith P start n xs × (now ≡ with_items run xs)
      → (ys : List X) × GoWith P (start + n) m ys × (next ≡ with_items now ys)
      → (zs : List X) × GoWith P start (n + m) zs × (next ≡ with_items run zs)
  written_on start n m run now next before after = (
    before.0 ++ after.0,
    go_on start n m before.0 after.0 before.1 after.1,
    after.2 ∙ ap (λ (s : Stretch X). with_items s after.0) before.2 ∙ written_twice run before.0 after.0,
  )

  -- the same where they began with the number 0
  pub written_after : (n m : ℕ) (run now next : Stretch X)
      → (xs : List X) × GoWith P 0 n xs × (now ≡ with_items run xs)
      → (ys : List X) × GoWith P n m ys × (next ≡ with_items now ys)
      → (zs : List X) × GoWith P 0 (n + m) zs × (next ≡ with_items run zs)
  written_after n m run now next before after =
      let at : n ≡ 0 + n = omega arith in
      written_on 0 n m run now next before (after.0, subst (λ s. GoWith P s m after.0) at after.1, after.2)

  -- and where no place is left
  pub written_all : (n : ℕ) (run now next : Stretch X) → n ≤ run.room
      → (xs : List X) × GoWith P 0 n xs × (now ≡ with_items run xs)
      → (ys : List X) × GoWith P n now.room ys × (next ≡ with_items now ys)
      → (zs : List X) × GoWith P 0 run.room zs × (next ≡ with_items run zs)
  written_all n run now next within before after =
      let room : now.room ≡ run.room - length before.0 = ap (λ (s : Stretch X). s.room) before.2 in
      let left : n + now.room ≡ run.room = omega (arith, within, before.1.count, room) in
      let all = written_after n now.room run now next before after in
      (all.0, subst (λ k. GoWith P 0 k all.0) left all.1, all.2)

module _ {A B : Type 0} (P : A → B → Type 0) where
  -- items that belong to the elements place by place
  pub all_of : (xs : List A) (ys : List B) → length ys ≡ length xs
      → ((k : ℕ) (a : A) (b : B) → k < length xs → P (get_or xs k a) (get_or ys k b)) → AllZip P xs ys
  all_of [] [] same each = tt
  all_of [] (y ∷ ys) same each = absurd (omega (arith, same))
  all_of (x ∷ xs) [] same each = absurd (omega (arith, same))
  all_of (x ∷ xs) (y ∷ ys) same each =
      (each 0 x y (omega arith), all_of xs ys (omega (arith, same)) (λ k a b lt. each (suc k) a b (omega (arith, lt))))

  -- so do those of the elements' numbers
  pub all_by_number : (Q : ℕ → B → Type 0) (xs : List A) (run written : Stretch B) → length xs ≡ run.room
      → ((k : ℕ) (b : B) → k < length xs → Q k b → (a : A) → P (get_or xs k a) b)
      → (ys : List B) × GoWith Q 0 run.room ys × (written ≡ with_items run ys)
      → (ys : List B) × AllZip P xs ys × (written ≡ stretch run.block run.first (run.items ++ ys) 0)
  all_by_number Q xs run written long belongs gone =
      let ys = gone.0 in
      let none : run.room - length ys ≡ 0 = omega (arith, gone.1.count) in
      let each : (k : ℕ) (a : A) (b : B) → k < length xs → P (get_or xs k a) (get_or ys k b) =
      λ k a b lt. let at : 0 + k ≡ k = omega arith in
      belongs k (get_or ys k b) lt (subst (λ j. Q j (get_or ys k b)) at (gone.1.each k b (omega (arith, lt, long)))) a in
      (ys, all_of xs ys (omega (arith, gone.1.count, long)) each, gone.2 ∙ λ i. stretch run.block run.first (run.items ++ ys) (none i))

  -- the values of a function that gives what belongs to an element
  pub values_of : (xs : List A) (run written : Stretch B)
      → (ys : List B) × AllZip P xs ys × (written ≡ stretch run.block run.first (run.items ++ ys) 0)
      → (h : A → B) → ((a : A) (b : B) → P a b → b ≡ h a) → written ≡ stretch run.block run.first (run.items ++ map h xs) 0
  values_of xs run written each h is =
      each.2 ∙ ap (λ ys. stretch run.block run.first (run.items ++ ys) 0) (zipped_map P h xs each.0 each.1 is)
