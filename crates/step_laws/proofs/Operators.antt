-- The laws of each operator that scans, and what a part tells by one.
use Rattle.std.proofs.Common.{◌≡◌, ◌∙◌, ℕ, ℤ, Bool, List, length, Result, Ok, refl, sym, ap, subst}
use Rattle.std.proofs.Common.{Err, nat_lt}
use Rattle.std.proofs.lemmas.List.{length-map}
use Rattle.cvl_base.specs.Faults.{fault}
use Rattle.cvl_base.specs.Gives.{fault_if}
use Rattle.cvl_base.specs.Limits.{most_places}
use Rattle.cvl_base.specs.declared.fault.Fault.{Fault}
use Rattle.cvl_base.specs.declared.fault.FaultNo.TheVariants.{TooLong}
use Rattle.flag_calls.specs.Flags.{flag_of}
use Rattle.std.specs.List.{AllPass, AllZip}
use Rattle.cvl_base.specs.Folds.{fold_of}
use Rattle.step_laws.proofs.Answered.{is_given, past_limit}
use Rattle.step_laws.proofs.Parted.{each-also}
use Rattle.step_laws.proofs.Scanned.{told-sum}
use Rattle.step_laws.specs.FlatSteps.{BoolReduces, IntReduces}
use Rattle.step_laws.specs.Parts.{Part, TellsAlone}
use Rattle.c_calls.specs.Calls.{by_operator, in_limit}
use Rattle.c_calls.specs.Numbers.{bool_binary, int_monoid}
use Rattle.c_calls.specs.Told.{Told, done}
use Rattle.flag_calls.specs.Flags.{flags_of}
use Rattle.call_table.specs.declared.families.BoolBinary.{BoolBinary}
use Rattle.call_table.specs.declared.families.BoolBinary.TheVariants as truth
use Rattle.call_table.specs.declared.families.IntMonoid.{IntMonoid}
use Rattle.call_table.specs.declared.families.IntMonoid.TheVariants.{Add, Mul, Min, Max, And, Ior, Xor}
use Rattle.cvl_base.specs.ItemWords.{is_number}
use Rattle.cvl_base.specs.Monoid.{MonoidLaws}
use Rattle.cvl_base.specs.Scans.{bool_join_of, bool_unit_of, int_join_of, int_unit_of}
use Rattle.operators.specs.BooleanLaws.{both_laws, differ_laws, either_laws}
use Rattle.operators.specs.ItemWords.{is_boolean}
use Rattle.operators.specs.NumberLaws.{and_laws, greater_laws, ior_laws, lesser_laws, product_laws, sum_laws, xor_laws}

pub int_laws : (o : IntMonoid) → MonoidLaws is_number (int_unit_of o) (int_join_of o)
int_laws Add = sum_laws
int_laws Mul = product_laws
int_laws Min = lesser_laws
int_laws Max = greater_laws
int_laws And = and_laws
int_laws Ior = ior_laws
int_laws Xor = xor_laws

pub bool_laws : (o : BoolBinary) → MonoidLaws is_boolean (bool_unit_of o) (bool_join_of o)
bool_laws truth.And = both_laws
bool_laws truth.Ior = either_laws
bool_laws truth.Xor = differ_laws

-- any boolean is an item
pub any_booleans : (xs : List Bool) → AllPass is_boolean xs
any_booleans xs = λ k d within. refl

abbrev IntSums : IntMonoid → Part ℤ ℤ ℤ → Part ℤ ℤ ℤ → Type 0
IntSums o own left = (fold_of (int_join_of o) (int_unit_of o) own.elements ≡ left.told) × TellsAlone own left

abbrev BoolSums : BoolBinary → Part Bool Bool Bool → Part Bool Bool Bool → Type 0
BoolSums o own left = (fold_of (bool_join_of o) (bool_unit_of o) own.elements ≡ left.told) × TellsAlone own left

pub int_sums : (op : ℕ) (o : IntMonoid) → int_monoid op ≡ Ok o → (start summed : List (Part ℤ ℤ ℤ)) → AllZip (IntReduces op) start summed
    → AllZip (IntSums o) start summed
int_sums op o is start summed done_all =
    each-also (IntReduces op) (IntSums o)
    (λ own left does. (told-sum int_unit_of int_join_of int_laws (int_monoid op) o is own.elements own.told left.told does.0, does.1)) start summed done_all

pub bool_sums : (op : ℕ) (o : BoolBinary) → bool_binary op ≡ Ok o → (start summed : List (Part Bool Bool Bool)) → AllZip (BoolReduces op) start summed
    → AllZip (BoolSums o) start summed
bool_sums op o is start summed done_all =
    each-also (BoolReduces op) (BoolSums o)
    (λ own left does.
    let known : Told (in_limit does.0.0 (Ok (fold_of (bool_join_of o) (bool_unit_of o) (flags_of does.0.0)))) done own.told left.told =
    subst (λ r. Told (by_operator r (λ p. in_limit does.0.0 (Ok (fold_of (bool_join_of p) (bool_unit_of p) (flags_of does.0.0))))) done own.told left.told) is does.0.2 in
    let sum : fold_of (bool_join_of o) (bool_unit_of o) (flags_of does.0.0) ≡ left.told = past_limit _ _ _ left.told (is_given _ own.told left.told known) in
    (subst (λ xs. fold_of (bool_join_of o) (bool_unit_of o) xs ≡ left.told) does.0.1 sum, does.1)) start summed done_all

-- a reduce of bytes is that of their flags, which are as many
pub as_flags : (operator : Result BoolBinary Fault) (bytes : List ℕ) (xs : List Bool) → flags_of bytes ≡ xs
    → by_operator operator (λ o. in_limit bytes (Ok (fold_of (bool_join_of o) (bool_unit_of o) (flags_of bytes))))
    ≡ by_operator operator (λ o. in_limit xs (Ok (fold_of (bool_join_of o) (bool_unit_of o) xs)))
as_flags (Err f) bytes xs same = refl
as_flags (Ok o) bytes xs same =
    ap (λ n. fault_if (nat_lt most_places n) (fault TooLong) (Ok (fold_of (bool_join_of o) (bool_unit_of o) (flags_of bytes)))) (sym (length-map bytes flag_of) ∙ ap length same)
    ∙ ap (λ ys. in_limit xs (Ok (fold_of (bool_join_of o) (bool_unit_of o) ys))) same
