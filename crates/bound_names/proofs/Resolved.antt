-- The arguments of a call, one place after the other: their first fault, and the kinds of what they hold.
use Rattle.std.proofs.Common.{◌≡◌, ◌∙◌, ℕ, zero, suc, ◌+◌, ◌≤◌, ◌==◌, ◌||◌, Bool, true, false, List, [], ◌∷◌, length, drop, slice_get, refl, ap, sym, subst, arith}
use Rattle.std.proofs.Common.{Option, Some, None, Result, IsErrAnd, MatchResult, option_map, option_and_then, if◌then◌else◌}
use Rattle.std.proofs.Math.ListN.{drop_of_length-le}
use Rattle.std.proofs.lemmas.Bool.{eqb-true}
use Rattle.std.proofs.lemmas.Bool.Decides.{nat_tests}
use Rattle.std.proofs.lemmas.Option.{slice_get_past}
use Rattle.std.proofs.lemmas.Result.{err_from_is_err_and}
use Rattle.cvl_base.specs.declared.families.Cut.TheVariants.{Flat}
use Rattle.cvl_base.specs.declared.families.Form.TheVariants.{Simple, Back, Select, Default}
use Rattle.cvl_base.specs.declared.kind.Kind.{Kind}
use Rattle.cvl_base.specs.declared.kind.Kind.TheVariants.{Integers, Booleans, Descriptor, Integer, Boolean}
use Rattle.cvl_base.specs.Calls.{accepts_of, is_operand, is_write, operands_of, same_kind, takes_of, write_accepts}
use Rattle.cvl_base.specs.Faults.{fault}
use Rattle.cvl_base.specs.Values.{kind_of}
use Rattle.cvl_base.specs.declared.call.Arg.{Arg}
use Rattle.cvl_base.specs.declared.value.Value.{Value}
use Rattle.cvl_base.specs.declared.fault.Fault.{Fault}
use Rattle.cvl_base.specs.declared.fault.FaultNo.TheVariants.{WrongArgumentCount, WrongKind}
use Rattle.cvl_base.specs.declared.operation.Op.{Op}
use Rattle.cvl_base.specs.declared.operation.Op.TheVariants.{Scan, Reduce, CheckedScan, CheckedReduce, BoolScan, BoolReduce, Permute, Count, Pack, Extract, Replace}
use Rattle.bound_names.specs.Arguments.{arg_fault, arg_value, args_fault, argument_at, each_fault, earlier, kind_fault, place_fault}
use Rattle.bound_names.specs.Names.{Entries}
use Rattle.bound_names.specs.Operands.{AreTaken, HaveKinds, UnlessWrite, held, held_at}
use Rattle.bound_names.specs.declared.operands.Operands.{Operands}

-- ---- no call takes more than five arguments

few_operands : (op : Op) → length (operands_of op) ≤ 5
few_operands (Scan o Flat) = omega arith
few_operands (Reduce o Flat) = omega arith
few_operands (BoolScan o Flat) = omega arith
few_operands (BoolReduce o Flat) = omega arith
few_operands (CheckedScan Flat) = omega arith
few_operands (CheckedReduce Flat) = omega arith
few_operands (Permute Simple Flat e) = omega arith
few_operands (Permute Back Flat e) = omega arith
few_operands (Permute Select Flat e) = omega arith
few_operands (Permute Default Flat e) = omega arith
few_operands (Count Flat) = omega arith
few_operands (Pack Flat e) = omega arith
few_operands (Extract Flat e) = omega arith
few_operands (Replace Flat e) = omega arith
few_operands op = omega arith

as_many : (b : Bool) (count wanted : ℕ) → b ≡ false → (if b then (count == 1) || (count == 2) else (count == wanted)) ≡ true → count ≡ wanted
as_many true count wanted call takes = cc
as_many false count wanted call takes = eqb-true count wanted takes

few_by : (b : Bool) (count wanted : ℕ) → wanted ≤ 5 → (if b then (count == 1) || (count == 2) else (count == wanted)) ≡ true → count ≤ 5
few_by true count wanted few takes = grind (arith, nat_tests)
few_by false count wanted few takes = let same = eqb-true count wanted takes in omega arith

pub few : (op : Op) (count : ℕ) → takes_of op count ≡ true → count ≤ 5
few op count takes = few_by (is_write op) count (length (operands_of op)) (few_operands op) takes

-- ---- what passes the check of its kind

same : (wanted kind : Kind) → same_kind wanted kind ≡ true → kind ≡ wanted
same Integers Integers h = refl
same Booleans Booleans h = refl
same Descriptor Descriptor h = refl
same Integer Integer h = refl
same Boolean Boolean h = refl
same wanted kind h = cc

operand_is : (wanted : Option Kind) (kind : Kind) → is_operand wanted kind ≡ true → Some kind ≡ wanted
operand_is None kind h = cc
operand_is (Some wanted) kind h = ap Some (same wanted kind h)

accepted : (b : Bool) → ◌≡◌ {A = Option Fault} (if b then None else Some (fault WrongKind)) None → b ≡ true
accepted true h = refl
accepted false h = cc

passes : (accepts : Kind → Bool) (found : Option Kind) → kind_fault accepts found ≡ None → (kind : Kind) × (found ≡ Some kind) × (accepts kind ≡ true)
passes accepts None h = cc
passes accepts (Some kind) h = (kind, refl, accepted (accepts kind) h)

past : {X : Type 0} (xs : List X) (k : ℕ) → slice_get xs k ≡ None → length xs ≤ k
past [] k h = omega arith
past (x ∷ xs) zero h = cc
past (x ∷ xs) (suc k) h = let later = past xs k h in omega arith

-- what the exit of a `?` returns
pub told : {X : Type 0} (P : Type 0) (Q : Fault → Type 0) (r : Result X Fault) (f : Fault) → IsErrAnd r (λ e. e ≡ f) → Q f → MatchResult r (λ _. P) Q
told {X} P Q r f is holds =
    let p = err_from_is_err_and r is in
    subst (λ (s : Result X Fault). MatchResult s (λ _. P) Q) (sym p.1) (subst Q (sym p.2) holds)

module _ {A : Type 0} (names : Entries A) (op : Op) where
  -- the faults of the arguments after the first k are that of the next one, or those of the others
  unrolled : (count k place : ℕ) (args : List Arg) →
      each_fault names op count place (drop k args)
      ≡ earlier (option_and_then (arg_fault names op count place) (slice_get args k)) (each_fault names op count (place + 1) (drop (suc k) args))
  unrolled count zero place [] = refl
  unrolled count zero place (x ∷ xs) = refl
  unrolled count (suc k) place [] = refl
  unrolled count (suc k) place (x ∷ xs) = unrolled count k place xs

  -- the first fault, by what is known of each of five arguments
  pub first_fault : (args : List Arg) {p q r s t : Option Fault} → takes_of op (length args) ≡ true →
      place_fault names op args 0 ≡ p → place_fault names op args 1 ≡ q → place_fault names op args 2 ≡ r →
      place_fault names op args 3 ≡ s → place_fault names op args 4 ≡ t →
      args_fault names op args ≡ earlier p (earlier q (earlier r (earlier s (earlier t None))))
  first_fault args {p} {q} {r} {s} takes first second third fourth fifth =
      let n = length args in
      (λ i. if takes i then each_fault names op n 0 args else Some (fault WrongArgumentCount))
      ∙ unrolled n 0 0 args
      ∙ (λ i. earlier (first i) (unrolled n 1 1 args i))
      ∙ (λ i. earlier p (earlier (second i) (unrolled n 2 2 args i)))
      ∙ (λ i. earlier p (earlier q (earlier (third i) (unrolled n 3 3 args i))))
      ∙ (λ i. earlier p (earlier q (earlier r (earlier (fourth i) (unrolled n 4 4 args i)))))
      ∙ (λ i. earlier p (earlier q (earlier r (earlier s (earlier (fifth i) (each_fault names op n 5 (drop_of_length-le args (few op n takes) i)))))))

  -- a call that is no `write` takes at each place the kind of its operand there
  accepts_is : (count place : ℕ) (kind : Kind) → is_write op ≡ false → accepts_of op count place kind ≡ is_operand (slice_get (operands_of op) place) kind
  accepts_is count place kind call = λ i. if call i then write_accepts count place kind else is_operand (slice_get (operands_of op) place) kind

  kind_found : (count place : ℕ) (arg : Arg) → is_write op ≡ false → arg_fault names op count place arg ≡ None →
      option_map kind_of (arg_value names arg) ≡ slice_get (operands_of op) place
  kind_found count place arg call right =
      let p = passes (accepts_of op count place) (option_map kind_of (arg_value names arg)) right in
      p.1 ∙ operand_is (slice_get (operands_of op) place) p.0 (sym (accepts_is count place p.0 call) ∙ p.2)

  kind_by : (args : List Arg) (place : ℕ) (found : Option Arg) → is_write op ≡ false → length args ≡ length (operands_of op) → slice_get args place ≡ found →
      option_and_then (arg_fault names op (length args) place) found ≡ None →
      option_map kind_of (option_and_then (arg_value names) found) ≡ slice_get (operands_of op) place
  kind_by args place None call long is right =
      let ended = past args place is in
      sym (slice_get_past (operands_of op) place (let e : length (operands_of op) ≤ place = omega arith in e))
  kind_by args place (Some arg) call long is right = kind_found (length args) place arg call right

  kind_at : (args : List Arg) (place : ℕ) {v : Option (Value A)} → is_write op ≡ false → length args ≡ length (operands_of op) →
      place_fault names op args place ≡ None → v ≡ argument_at names args place → option_map kind_of v ≡ slice_get (operands_of op) place
  kind_at args place call long right is = ap (option_map kind_of) is ∙ kind_by args place (slice_get args place) call long refl right

  module _ (args : List Arg) (o : Operands A) (takes : takes_of op (length args) ≡ true)
      (first : held o.first ≡ argument_at names args 0) (second : held o.second ≡ argument_at names args 1) (third : held o.third ≡ argument_at names args 2)
      (fourth : held o.fourth ≡ argument_at names args 3) (fifth : held o.fifth ≡ argument_at names args 4) where
    each_value : (place : ℕ) → held_at o place ≡ argument_at names args place
    each_value zero = first
    each_value (suc zero) = second
    each_value (suc (suc zero)) = third
    each_value (suc (suc (suc zero))) = fourth
    each_value (suc (suc (suc (suc zero)))) = fifth
    each_value (suc (suc (suc (suc (suc k))))) =
        let short = few op (length args) takes in
        let ended : length args ≤ suc (suc (suc (suc (suc k)))) = omega arith in
        sym (ap (option_and_then (arg_value names)) (slice_get_past args (suc (suc (suc (suc (suc k))))) ended))

    pub values : held_at o ≡ argument_at names args
    values = λ i place. each_value place i

    kinds_by : (b : Bool) → is_write op ≡ b → place_fault names op args 0 ≡ None → place_fault names op args 1 ≡ None →
        place_fault names op args 2 ≡ None → place_fault names op args 3 ≡ None → place_fault names op args 4 ≡ None →
        UnlessWrite b (HaveKinds (operands_of op) o)
    kinds_by true write p q r s t = tt
    kinds_by false call p q r s t =
        let long = as_many (is_write op) (length args) (length (operands_of op)) call takes in
        record {
          first = kind_at args 0 call long p first;
          second = kind_at args 1 call long q second;
          third = kind_at args 2 call long r third;
          fourth = kind_at args 3 call long s fourth;
          fifth = kind_at args 4 call long t fifth;
        }

    pub kinds : place_fault names op args 0 ≡ None → place_fault names op args 1 ≡ None → place_fault names op args 2 ≡ None →
        place_fault names op args 3 ≡ None → place_fault names op args 4 ≡ None → AreTaken op o
    kinds p q r s t = kinds_by (is_write op) refl p q r s t
