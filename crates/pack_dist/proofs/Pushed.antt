-- Runs to which items are pushed one by one.
use Rattle.pack_dist.proofs.Cited.{◌≡◌, ◌∙◌, ℕ, ◌+◌, ◌-◌, List, [], ◌∷◌, ◌++◌, append_assoc, append-nil, sym, ap, arith, Stretch, stretch}

-- nothing is pushed yet
pub none_pushed : {X : Type 0} (old : Stretch X) → old ≡ stretch old.block old.first (old.items ++ []) (old.room - 0)
none_pushed old = let all : old.room ≡ old.room - 0 = omega arith in λ i. stretch old.block old.first (sym (append-nil old.items) i) (all i)

-- one more item is pushed, by which the list that is pushed grows
pub pushed : {X : Type 0} (old now next : Stretch X) (items more : List X) (k : ℕ) (x : X) → now ≡ stretch old.block old.first (old.items ++ items) (old.room - k)
    → next ≡ stretch now.block now.first (now.items ++ x ∷ []) (now.room - 1) → more ≡ items ++ x ∷ [] → next ≡ stretch old.block old.first (old.items ++ more) (old.room - (k + 1))
pushed old now next items more k x before after grown =
    let less : old.room - k - 1 ≡ old.room - (k + 1) = omega arith in
    let longer : (old.items ++ items) ++ x ∷ [] ≡ old.items ++ more = append_assoc old.items items (x ∷ []) ∙ ap (λ ys. old.items ++ ys) (sym grown) in
    after ∙ ap (λ s. stretch s.block s.first (s.items ++ x ∷ []) (s.room - 1)) before ∙ λ i. stretch old.block old.first (longer i) (less i)

-- all of an empty run is written
pub filled_up : {X : Type 0} (old next : Stretch X) (items whole : List X) (n : ℕ) → next ≡ stretch old.block old.first (old.items ++ items) (old.room - n) → old.items ≡ [] → n ≡ old.room
    → items ≡ whole → next ≡ stretch old.block old.first whole 0
filled_up old next items whole n is empty long same =
    let none : old.room - n ≡ 0 = omega arith in
    is ∙ (λ i. stretch old.block old.first (empty i ++ items) (none i)) ∙ ap (λ ys. stretch old.block old.first ys 0) same
