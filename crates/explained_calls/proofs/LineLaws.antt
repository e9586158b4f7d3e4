-- How the words for a line with a fault relate to the grammar of lines: a line has a hint exactly if its fault is BadLine, and with the
-- fault BadNumber a bad number is found among its arguments. Only four faults come of a line.
use Rattle.std.proofs.Common.{◌≡◌, ℕ, ◌+◌, Bool, true, false, not, ◌&&◌, ◌||◌, List, [], ◌∷◌, eqb-true, find, map, nat_eq, Option, Some, None, is_some, ok_or}
use Rattle.std.proofs.Common.{Result, Ok, Err, refl, ap, sym, subst, ◌∙◌, if◌then◌else◌}
use Rattle.std.specs.Cmp.Lexicographic.{pointwise}
use Rattle.std.specs.List.{list_all}
use Rattle.std.proofs.lemmas.Bool.{false≢true}
use Rattle.cvl_base.specs.declared.call.Arg.{Arg}
use Rattle.cvl_base.specs.declared.call.Call.{Call}
use Rattle.cvl_base.specs.declared.call.ResultNames.{ResultNames}
use Rattle.cvl_base.specs.declared.call.ResultNames.TheVariants as results
use Rattle.cvl_base.specs.declared.fault.Fault.{Fault}
use Rattle.cvl_base.specs.declared.fault.FaultNo.{FaultNo}
use Rattle.cvl_base.specs.declared.fault.FaultNo.TheVariants.{BadLine, BadNumber, UnknownCall, WrongArgumentCount}
use Rattle.cvl_base.specs.declared.operation.Op.{Op}
use Rattle.cvl_base.specs.declared.operation.Op.TheVariants.{Write}
use Rattle.cvl_base.specs.Faults.{fault}
use Rattle.cvl_base.specs.Gives.{◌>>=◌, fault_if}
use Rattle.cvl_base.specs.Spellings.{op_of}
use Rattle.cvl_base.specs.Words.{is_name, is_word}
use Rattle.line_reader.specs.declared.token.ByteClass.{ByteClass}
use Rattle.line_reader.specs.declared.token.ByteClass.TheVariants.{Blank, Alone, InToken}
use Rattle.line_reader.specs.Lines.{arg_of, args_of, before_comment, binding, bound_call, call_of, form_of, is_arg, line_class, the_call, with_op, write_line}
use Rattle.line_reader.specs.Lines as lines
use Rattle.line_reader.specs.Numbers.{is_empty}
use Rattle.line_reader.specs.Tokens.{begins_in_token, onto_first, tokens_by, with_byte}
use Rattle.explained_calls.specs.declared.wanted.Hint.{Hint}
use Rattle.explained_calls.specs.declared.wanted.Wanted.{Wanted}
use Rattle.explained_calls.specs.declared.wanted.Wanted.TheVariants as wanted
use Rattle.explained_calls.specs.LineFaultNumbers.{ends_with, is_bad_line}
use Rattle.explained_calls.specs.LineFaults.{Parts, bad_line_words, binding_parts, call_parts, is_bad_number, line_fault_words, name_pair, number_line, parts_of}
use Rattle.explained_calls.specs.Misplaced.{begins_with_equals, hint_after_equals, hint_after_first, hint_after_names, hint_at, hint_of, is_equals, is_wanted, is_write_line, wanting_each}
use Rattle.explained_calls.specs.PlacedTokens.{Placed, behind, onto_first_placed, placed_by, placed_tokens, with_byte_at}

-- ---- the tokens without their places

-- the bytes of tokens
abbrev bytes_of : List Placed → List (List ℕ)
bytes_of tokens = map (λ (t : Placed). t.bytes) tokens

onto_first_bytes : (place b : ℕ) (tokens : List Placed) → bytes_of (onto_first_placed place b tokens) ≡ onto_first b (bytes_of tokens)
onto_first_bytes place b [] = refl
onto_first_bytes place b (token ∷ tokens) = refl

with_byte_bytes : (c : ByteClass) (on : Bool) (place b : ℕ) (tokens : List Placed)
    → bytes_of (with_byte_at c on place b tokens) ≡ with_byte c on b (bytes_of tokens)
with_byte_bytes Blank on place b tokens = refl
with_byte_bytes Alone on place b tokens = refl
with_byte_bytes InToken true place b tokens = onto_first_bytes place b tokens
with_byte_bytes InToken false place b tokens = refl

pub placed_bytes : (class_of : ℕ → ByteClass) (place : ℕ) (bytes : List ℕ) → bytes_of (placed_by class_of place bytes) ≡ tokens_by class_of bytes
placed_bytes class_of place [] = refl
placed_bytes class_of place (b ∷ bs) =
    with_byte_bytes (class_of b) (begins_in_token class_of bs) place b (placed_by class_of (place + 1) bs)
    ∙ ap (with_byte (class_of b) (begins_in_token class_of bs) b) (placed_bytes class_of (place + 1) bs)

-- ---- what a line's fault says of the hint and of bad numbers

abbrev AgreesAt : FaultNo → Bool → Bool → Type 0
AgreesAt BadLine hint number = hint ≡ true
AgreesAt UnknownCall hint number = hint ≡ false
AgreesAt WrongArgumentCount hint number = hint ≡ false
AgreesAt BadNumber hint number = (hint ≡ false) × (number ≡ true)
AgreesAt _ hint number = true ≡ false

-- with a call there is no hint
abbrev Agrees : {X : Type 0} → Result X Fault → Bool → Bool → Type 0
Agrees (Ok x) hint number = hint ≡ false
Agrees (Err f) hint number = AgreesAt f.number hint number

exactly_at : (n : FaultNo) (hint number : Bool) → AgreesAt n hint number → is_bad_line n ≡ hint
exactly_at BadLine hint number h = sym h
exactly_at UnknownCall hint number h = sym h
exactly_at WrongArgumentCount hint number h = sym h
exactly_at BadNumber hint number h = sym h.0
exactly_at n hint number h = absurd (false≢true (sym h))

exactly : {X : Type 0} (r : Result X Fault) (hint number : Bool) → Agrees r hint number → ends_with is_bad_line r ≡ hint
exactly (Ok x) hint number h = sym h
exactly (Err f) hint number h = exactly_at f.number hint number h

-- whether a bad number is among arguments, and behind a call
abbrev has_bad : List Placed → Bool
has_bad tokens = is_some (find (λ (token : Placed). is_bad_number token.bytes) tokens)

abbrev bad_behind : List Placed → Bool
bad_behind [] = false
bad_behind (call ∷ args) = has_bad args

-- ---- the arguments

args_step : (o : Option Arg) (r : Result (List Arg) Fault) (token : Placed) (others : Option Placed) → Agrees r false (is_some others)
    → Agrees (ok_or o (fault BadNumber) >>= λ a. r >>= λ others. Ok (a ∷ others)) false (is_some (if not (is_some o) then Some token else others))
args_step None r token others h = (refl, refl)
args_step (Some a) (Ok xs) token others h = refl
args_step (Some a) (Err f) token others h = h

args_agree : (tokens : List Placed) → Agrees (args_of (bytes_of tokens)) false (has_bad tokens)
args_agree [] = refl
args_agree (token ∷ tokens) =
    args_step (arg_of token.bytes) (args_of (bytes_of tokens)) token (find (λ (token : Placed). is_bad_number token.bytes) tokens) (args_agree tokens)

each_step : (b all : Bool) (o : Option Hint) (h : Hint) → is_some o ≡ not all → is_some (if b then o else Some h) ≡ not (b && all)
each_step true all o h e = e
each_step false all o h e = refl

each_hint : (w : Wanted) (tokens : List Placed) → is_some (wanting_each w tokens) ≡ not (list_all (is_wanted w) (bytes_of tokens))
each_hint w [] = refl
each_hint w (token ∷ tokens) = each_step (is_wanted w token.bytes) _ (wanting_each w tokens) _ (each_hint w tokens)

-- ---- the steps of a line's form

-- `=`, a word and arguments
stands : {Y : Type 0} (e w all : Bool) (o : Option Hint) (h1 h2 : Hint) (rest : Result Y Fault) (n : Bool) → is_some o ≡ not all
    → (e ≡ true → Agrees rest false n)
    → Agrees (fault_if (not (e && w && all)) (fault BadLine) rest) (is_some (if e then (if w then o else Some h1) else Some h2)) n
stands true true true (Some h) h1 h2 rest n is go = absurd (false≢true (sym is))
stands true true true None h1 h2 rest n is go = go refl
stands true true false o h1 h2 rest n is go = is
stands true false all o h1 h2 rest n is go = refl
stands false w all o h1 h2 rest n is go = refl

if_some : (b : Bool) (h1 h2 : Hint) → is_some (if b then Some h1 else Some h2) ≡ true
if_some true h1 h2 = refl
if_some false h1 h2 = refl

-- one name and `=`, or two names that differ
binding_step : {Y : Type 0} (e n m p : Bool) (one two : ResultNames) (k l : ResultNames → Result Y Fault) (a b : Option Hint) (h1 h2 h3 : Hint) (number : Bool)
    → (n ≡ true → e ≡ true → Agrees (k one) (is_some a) number) → (n ≡ true → e ≡ false → Agrees (l two) (is_some b) number)
    → Agrees (if e then (ok_or (if n then Some one else None) (fault BadLine) >>= k) else (ok_or (if n && m && not p then Some two else None) (fault BadLine) >>= l))
    (is_some (if n then (if e || m then (if e then a else (if p then Some h1 else b)) else Some h2) else Some h3)) number
binding_step true true m p one two k l a b h1 h2 h3 number f g = f refl refl
binding_step true false m p one two k l a b h1 h2 h3 number f g = refl
binding_step false true true true one two k l a b h1 h2 h3 number f g = refl
binding_step false true true false one two k l a b h1 h2 h3 number f g = g refl refl
binding_step false true false p one two k l a b h1 h2 h3 number f g = refl
binding_step false false m p one two k l a b h1 h2 h3 number f g = refl

form_step : {Y : Type 0} (b : Bool) (written bound : Result Y Fault) (x y : Option Hint) (p q : Parts)
    → Agrees written (is_some x) (has_bad p.arguments) → Agrees bound (is_some y) (has_bad q.arguments)
    → Agrees (if b then written else bound) (is_some (if b then x else y)) (has_bad (if b then p else q).arguments)
form_step true written bound x y p q f g = f
form_step false written bound x y p q f g = g

name_no_equals : (token : List ℕ) → is_name token ≡ true → is_equals token ≡ false
name_no_equals [] h = absurd (false≢true h)
name_no_equals (b ∷ []) h = one (nat_eq b 61) refl
  where
    one : (e : Bool) → nat_eq b 61 ≡ e → (e && true) ≡ false
    one false is = refl
    one true is =
        absurd (false≢true (sym (ap (λ x. is_name (x ∷ [])) (eqb-true b 61 is)) ∙ h))
name_no_equals (b ∷ c ∷ bs) h = never (nat_eq b 61)
  where
    never : (e : Bool) → (e && false) ≡ false
    never true = refl
    never false = refl

-- the arguments behind one name and `=`, and behind two names
behind_one : (first second : Placed) (tokens : List Placed) → is_name first.bytes ≡ true → is_equals second.bytes ≡ true
    → bad_behind tokens ≡ has_bad (binding_parts (first ∷ second ∷ tokens)).arguments
behind_one first second [] name equals = rw (name_no_equals first.bytes name, equals) refl
behind_one first second (call ∷ args) name equals = rw (name_no_equals first.bytes name, equals) refl

behind_two : (first second equals : Placed) (tokens : List Placed) → is_name first.bytes ≡ true → is_equals second.bytes ≡ false → is_equals equals.bytes ≡ true
    → bad_behind tokens ≡ has_bad (binding_parts (first ∷ second ∷ equals ∷ tokens)).arguments
behind_two first second equals [] name other is = rw (name_no_equals first.bytes name, other, is) refl
behind_two first second equals (call ∷ args) name other is = rw (name_no_equals first.bytes name, other, is) refl

pub begins_bytes : (tokens : List Placed) → lines.begins_with_equals (bytes_of tokens) ≡ begins_with_equals tokens
begins_bytes [] = refl
begins_bytes (token ∷ tokens) = refl

-- ---- a whole line

module _ (A : Type 0) where
  counted : (b : Bool) (bound : ResultNames) (op : Op) (r : Result (List Arg) Fault) (n : Bool) → Agrees r false n
      → Agrees (fault_if b (fault WrongArgumentCount) (r >>= the_call {A = A} bound op)) false n
  counted true bound op r n h = refl
  counted false bound op (Ok xs) n h = refl
  counted false bound op (Err f) n h = h

  op_agrees : (bound : ResultNames) (op : Option Op) (args : List Placed) → Agrees (with_op {A = A} bound op (bytes_of args)) false (has_bad args)
  op_agrees bound None args = refl
  op_agrees bound (Some op) args = counted _ bound op (args_of (bytes_of args)) (has_bad args) (args_agree args)

  bound_agrees : (bound : ResultNames) (equals : Placed) (tokens : List Placed) (h : Hint) (n : Bool) → (is_equals equals.bytes ≡ true → bad_behind tokens ≡ n)
      → Agrees (bound_call {A = A} bound (bytes_of (equals ∷ tokens))) (is_some (if is_equals equals.bytes then hint_after_equals (behind equals) tokens else Some h)) n
  bound_agrees bound equals [] h n same = if_some (is_equals equals.bytes) _ h
  bound_agrees bound equals (call ∷ args) h n same =
      let read = with_op {A = A} bound (op_of call.bytes) (bytes_of args) in
      stands (is_equals equals.bytes) (is_word call.bytes) (list_all is_arg (bytes_of args)) (wanting_each wanted.Argument args) _ h read n
      (each_hint wanted.Argument args) (λ is. subst (λ (b : Bool). Agrees read false b) (same is) (op_agrees bound (op_of call.bytes) args))

  one_agrees : (first second : Placed) (tokens : List Placed) (bound : ResultNames) → is_name first.bytes ≡ true → is_equals second.bytes ≡ true
      → Agrees (bound_call {A = A} bound (bytes_of (second ∷ tokens))) (is_some (hint_after_equals (behind second) tokens))
      (has_bad (binding_parts (first ∷ second ∷ tokens)).arguments)
  one_agrees first second tokens bound name is =
      let h = hint_at second wanted.Equals in
      let n = has_bad (binding_parts (first ∷ second ∷ tokens)).arguments in
      subst (λ (b : Bool). Agrees (bound_call {A = A} bound (bytes_of (second ∷ tokens))) (is_some (if b then hint_after_equals (behind second) tokens else Some h)) n) is
      (bound_agrees bound second tokens h n (behind_one first second tokens name))

  two_agree : (first second : Placed) (tokens : List Placed) (bound : ResultNames) → is_name first.bytes ≡ true → is_equals second.bytes ≡ false
      → Agrees (bound_call {A = A} bound (bytes_of tokens)) (is_some (hint_after_names (behind second) tokens)) (has_bad (binding_parts (first ∷ second ∷ tokens)).arguments)
  two_agree first second [] bound name other = refl
  two_agree first second (equals ∷ tokens) bound name other =
      bound_agrees bound equals tokens (hint_at equals wanted.Equals) _ (behind_two first second equals tokens name other)

  binding_agrees : (first : Placed) (others : List Placed) → Agrees (binding {A = A} (bytes_of (first ∷ others)))
      (is_some (if is_name first.bytes then hint_after_first first.bytes (behind first) others else Some (hint_at first wanted.Name)))
      (has_bad (binding_parts (first ∷ others)).arguments)
  binding_agrees first [] = if_some (is_name first.bytes) _ _
  binding_agrees first (second ∷ tokens) =
      let one = results.One first.bytes in
      let two = results.Two first.bytes second.bytes in
      binding_step (is_equals second.bytes) (is_name first.bytes) (is_name second.bytes) (pointwise nat_eq first.bytes second.bytes) one two
      (λ bound. bound_call {A = A} bound (bytes_of (second ∷ tokens))) (λ bound. bound_call {A = A} bound (bytes_of tokens))
      (hint_after_equals (behind second) tokens) (hint_after_names (behind second) tokens) _ _ _ (has_bad (binding_parts (first ∷ second ∷ tokens)).arguments)
      (one_agrees first second tokens one) (two_agree first second tokens two)

  form_agrees : (tokens : List Placed) → Agrees (form_of {A = A} (bytes_of tokens)) (is_some (hint_of tokens)) (has_bad (parts_of tokens).arguments)
  form_agrees [] = refl
  form_agrees (first ∷ others) =
      let names = bytes_of others in
      let h = hint_at first wanted.Name in
      let read = with_op {A = A} results.None (Some Write) names in
      rw (begins_bytes others)
      (form_step (is_write_line first.bytes others) (write_line {A = A} names) (binding {A = A} (first.bytes ∷ names)) (wanting_each wanted.Name others) _
      (call_parts 0 (first ∷ others)) (binding_parts (first ∷ others))
      (stands true true (list_all is_name names) (wanting_each wanted.Name others) h h read (has_bad others) (each_hint wanted.Name others)
      (λ is. op_agrees results.None (Some Write) others))
      (binding_agrees first others))

  line_agrees : (line : List ℕ) → Agrees (call_of {A = A} line) (is_some (hint_of (placed_tokens line))) (has_bad (parts_of (placed_tokens line)).arguments)
  line_agrees line =
      subst (λ (tokens : List (List ℕ)). Agrees (form_of {A = A} tokens) (is_some (hint_of (placed_tokens line))) (has_bad (parts_of (placed_tokens line)).arguments))
      (placed_bytes line_class 0 (before_comment line)) (form_agrees (placed_tokens line))

  -- a line has a hint exactly if it has none of the forms of a line
  pub hint_exactly : (line : List ℕ) → ends_with is_bad_line (call_of {A = A} line) ≡ is_some (hint_of (placed_tokens line))
  hint_exactly line = exactly (call_of {A = A} line) _ _ (line_agrees line)

  -- ---- the text

  hint_told : (pair : Option (List ℕ × List ℕ)) (hint : Option Hint) → is_some hint ≡ true → is_empty (bad_line_words pair hint) ≡ false
  hint_told (Some pair) hint h = refl
  hint_told None None h = absurd (false≢true h)
  hint_told None (Some hint) h = refl

  number_told : (token : Option Placed) → is_some token ≡ true → is_empty (number_line token) ≡ false
  number_told None h = absurd (false≢true h)
  number_told (Some token) h = refl

  told : (line : List ℕ) (n : FaultNo) → AgreesAt n (is_some (hint_of (placed_tokens line))) (has_bad (parts_of (placed_tokens line)).arguments)
      → is_empty (line_fault_words line n) ≡ false
  told line BadLine h = hint_told (name_pair (placed_tokens line)) (hint_of (placed_tokens line)) h
  told line UnknownCall h = refl
  told line WrongArgumentCount h = refl
  told line BadNumber h = number_told (find (λ (token : Placed). is_bad_number token.bytes) (parts_of (placed_tokens line)).arguments) h.1
  told line n h = absurd (false≢true (sym h))

  -- each fault of a line has a text
  pub fault_told : (line : List ℕ) (f : Fault) → call_of {A = A} line ≡ Err f → is_empty (line_fault_words line f.number) ≡ false
  fault_told line f e =
      told line f.number
      (subst (λ (r : Result (Option (Call A)) Fault). Agrees r (is_some (hint_of (placed_tokens line))) (has_bad (parts_of (placed_tokens line)).arguments)) e (line_agrees line))
