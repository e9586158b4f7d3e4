-- A line cut at the first byte that passes a test.
use Rattle.line_reader.proofs.Cited.{◌≡◌, ℕ, Bool, List, length, take, Some, None, ap, sym, nat_lt, position, position_or_len, before_first, ltb-false}
use Rattle.std.proofs.lemmas.Option.{cond_some}
use Rattle.std.proofs.Math.Seq.{take_all}
use Rattle.cvl_base.proofs.Lists.{not_found}

pub cut_at_first : (p : ℕ → Bool) (xs : List ℕ) (i : ℕ) → position p xs ≡ Some i → take i xs ≡ before_first p xs
cut_at_first p xs i e = ap (λ n. take n xs) (sym (cond_some (nat_lt (position_or_len p xs) (length xs)) (position_or_len p xs) i e).1)

pub whole_without : (p : ℕ → Bool) (xs : List ℕ) → position p xs ≡ None → xs ≡ before_first p xs
whole_without p xs e =
    sym (take_all (position_or_len p xs) xs (ltb-false _ _ (not_found (nat_lt (position_or_len p xs) (length xs)) (position_or_len p xs) e)))
