-- What reading a name and spelling a call have to do with each other.
use Rattle.std.proofs.Common.{◌≡◌, ◌≢◌, ℕ, Bool, true, false, List, [], ◌∷◌, find, Some, None, cond, refl, sym, ◌∙◌, ap}
use Rattle.std.proofs.lemmas.Slice.Eq.{bytes_eq-Decides}
use Rattle.call_table.specs.declared.operation.Op.{Op}
use Rattle.call_table.specs.declared.operation.Op.TheVariants.{Write}
use Rattle.call_table.specs.Calls.{spelling_of, is_write}
use Rattle.call_table.specs.Spellings.{is_spelled, calls, op_of, int_binaries, unaries, comparisons, bool_binaries, int_monoids, forms, elements}
use Rattle.call_table.proofs.Spelled.{read_back}

passes_at : {X : Type 0} (test : X → Bool) (y x : X) (xs : List X) (b : Bool) → test y ≡ b → cond b (Some y) (find test xs) ≡ Some x → (find test xs ≡ Some x → test x ≡ true) → test x ≡ true
passes_at test y x xs true passes found later = let same : y ≡ x = cc in ap test (sym same) ∙ passes
passes_at test y x xs false passes found later = later found

-- what a search finds passes the test
find_passes : {X : Type 0} (test : X → Bool) (xs : List X) (x : X) → find test xs ≡ Some x → test x ≡ true
find_passes test [] x h = cc
find_passes test (y ∷ xs) x h = passes_at test y x xs (test y) refl h (find_passes test xs x)

-- the call that a word names is spelled so
pub read_spelled : (word : List ℕ) (op : Op) → op_of word ≡ Some op → spelling_of op ≡ word
unfolding op_of int_binaries unaries comparisons bool_binaries int_monoids forms elements
read_spelled word op h = sym ((bytes_eq-Decides word (spelling_of op)).0 (find_passes (is_spelled word) calls op h))

write_unread : op_of (spelling_of Write) ≡ None
unfolding op_of int_binaries unaries comparisons bool_binaries int_monoids forms elements
write_unread = refl

unwritten : (op : Op) → op_of (spelling_of op) ≡ Some op → is_write op ≡ false
unwritten Write h = let none = write_unread in cc
unwritten _ h = refl

-- and it is not `write`
pub read_no_write : (word : List ℕ) (op : Op) → op_of word ≡ Some op → is_write op ≡ false
read_no_write word op h = unwritten op (ap op_of (read_spelled word op h) ∙ h)

-- a word that is not read is the name of no call
pub unread : (word : List ℕ) (op : Op) → op_of word ≡ None → is_write op ≡ false → spelling_of op ≢ word
unread word op none call same = let back = read_back op call in let none' : op_of (spelling_of op) ≡ None = ap op_of same ∙ none in cc
