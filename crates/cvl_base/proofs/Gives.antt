-- Results that are made one after another, and the first fault among them.
use Rattle.std.proofs.Common.{◌≡◌, List, [], ◌∷◌, ◌++◌, append_assoc, append-nil, refl, sym, ap, Result, Ok, Err}
use Rattle.cvl_base.specs.declared.fault.Fault.{Fault}
use Rattle.cvl_base.specs.Gives.{◌>>=◌, after}

module _ {X : Type 0} where
  -- nothing is done yet
  pub after-none : (others : Result (List X) Fault) → after [] others ≡ others
  after-none (Ok xs) = refl
  after-none (Err f) = refl

  -- some more are done
  pub after-after : (done more : List X) (others : Result (List X) Fault) → after done (after more others) ≡ after (done ++ more) others
  after-after done more (Ok xs) = ap Ok (sym (append_assoc done more xs))
  after-after done more (Err f) = refl

  -- one more is done
  pub after-one : (done : List X) (x : X) (others : Result (List X) Fault) → after done (others >>= λ xs. Ok (x ∷ xs)) ≡ after (done ++ x ∷ []) others
  after-one done x others = after-after done (x ∷ []) others

  -- nothing is left
  pub after-end : (done : List X) → after done (Ok []) ≡ Ok done
  after-end done = ap Ok (append-nil done)
