-- What a look reads in a word, and a seat after a step.
-- Source: the laws of the crate `status_word` on words.
use Rattle.boards.proofs.Cited.{◌≡◌, sym, ap, ◌∙◌, ℕ, ◌≤◌, Bool, List, CodeLaws, Coding, code, told_of, state_of}
use Rattle.atomic_table.specs.Seated.{TableId}
use Rattle.status_word.specs.declared.status.Status.{Status}
use Rattle.boards.specs.Boards.{Seated, with_pass}

-- a step changes the pass alone
pub seat_after : {P : Type 0} (change : P → P) (id now_id : TableId) (p now_p : P) (done : Bool) (old : Seated P)
    → record { id = id; pass = p; is_done = done } ≡ old → now_id ≡ id → now_p ≡ change p
    → record { id = now_id; pass = now_p; is_done = done } ≡ with_pass old (change old.pass)
seat_after {P} change id now_id p now_p done old is same_id changed =
    let stepped : ◌≡◌ {A = Seated P} record { id = now_id; pass = now_p; is_done = done } record { id = id; pass = change p; is_done = done } = λ i.
    record { id = same_id i; pass = changed i; is_done = done } in
    stepped ∙ ap (λ (s : Seated P). with_pass s (change s.pass)) is

module _ {Item : Type 0} where
  -- a status that was read is lawful at its tile, and has the state of its word
  pub look_told : {is_item : Item → Bool} (m : Coding Item) (sums : List (Bool × Item)) → CodeLaws is_item m sums → (t rank found : ℕ) (result : Status Item)
      → result ≡ m.read found → found ≡ code m sums t rank → rank ≤ 2 → (result ≡ told_of m.join m.unit sums t (state_of result)) × (state_of result ≡ rank)
  look_told m sums laws t rank found result reads is_code few =
      let told : result ≡ told_of m.join m.unit sums t rank = reads ∙ ap m.read is_code ∙ laws.read t rank in
      let state : state_of result ≡ rank = ap state_of told ∙ laws.states t rank few in
      (told ∙ ap (told_of m.join m.unit sums t) (sym state), state)
