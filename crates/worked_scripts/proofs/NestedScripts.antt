-- What the scripts with nested inputs write, line by line.
use Rattle.std.proofs.Common.{◌≡◌, ◌∙◌, ◌≤◌, ℕ, ◌+◌, ℤ, pos, List, [], ◌∷◌, ◌++◌, length, map, drop, codes, append-nil, arith, refl, sym, ap, Some, None, Result, Ok, Err, Vec}
use Rattle.std.specs.Prelude.{sum, nat_lt, option_map}
use Rattle.std.specs.Fmt.{digits, signed_decimal}
use Rattle.std.specs.Int.{int_wrap}
use Rattle.std.proofs.lemmas.Bool.{le-ltb}
use Rattle.cvl_base.specs.declared.fault.Fault.{Fault}
use Rattle.cvl_base.specs.declared.fault.FaultNo.TheVariants as no
use Rattle.cvl_base.specs.declared.value.Value.TheVariants as value
use Rattle.cvl_base.specs.Descriptors.{descriptor_of}
use Rattle.cvl_base.specs.Faults.{fault, fault_at}
use Rattle.cvl_base.specs.Gives.{◌>>=◌, fault_if, unless}
use Rattle.cvl_base.specs.Limits.{most_elements}
use Rattle.cvl_base.specs.Nests.{nest}
use Rattle.cvl_base.specs.Spellings.{op_of, int_binaries, unaries, comparisons, bool_binaries, int_monoids, forms, elements}
use Rattle.cvl_base.proofs.Descriptors.{abs_pos, position-lengths}
use Rattle.cvl_base.proofs.Nests.{nest-fits}
use Rattle.call_reader.specs.NestedTexts.{are_too_many, before, flat_nest, lists_from, mark_of, nested_class, nested_of, read_again}
use Rattle.call_reader.specs.Texts.{nest_text}
use Rattle.line_reader.specs.Tokens.{tokens_by}
use Rattle.line_reader.proofs.TokenWalk.{cut_at_blank}
use Rattle.vector_handles.specs.Names.{Entries, bind, bind_both}
use Rattle.vector_handles.specs.declared.input.Input.{Input}
use Rattle.vector_handles.specs.declared.input.Input.TheVariants.{Bytes, Vector}
use Rattle.vector_handles.specs.CallValues.{descriptor, vector_and_descriptor}
use Rattle.vector_handles.specs.Steps.{bound_to, both_bound_to}
use Rattle.script_runs.specs.Meaning.{Meaning, after_line, from_line, meaning}
use Rattle.worked_scripts.specs.NestedScripts.{made, read, reading, shows_v, text_of_nest}
use Rattle.worked_scripts.specs.Outcomes.{outcome_of}

-- lengths as numbers make their descriptor
lengths_made : (lengths : List ℕ) → sum lengths ≤ most_elements → descriptor_of (map pos lengths) ≡ Ok lengths
lengths_made lengths few =
    (λ i. unless (option_map (fault_at no.NegativeLength) (position-lengths lengths i)) (fault_if (nat_lt most_elements (sum (abs_pos lengths i))) (fault no.TooLong) (Ok (abs_pos lengths i))))
    ∙ ap (λ b. fault_if b (fault no.TooLong) (Ok lengths)) (le-ltb most_elements (sum lengths) few)

module _ {A : Type 0} where
  -- a line that writes `v` beside `d`, from its lists on, and the empty line after it
  abbrev written : ℕ → Entries A → List (Input A) → Result (List (List ℤ)) Fault → Meaning
  written line names inputs lists =
      after_line line
      (((lists >>= λ found. Ok (nest_text signed_decimal found)) >>= λ text. Ok (codes "v = " ++ text ++ (10 ∷ []))) >>= λ whole. Ok (record { names = names; shown = Some whole }))
      (λ after. from_line (line + 1) after inputs ([] ∷ []))

  -- the second script, from what its first line reads on
  abbrev read_from : Input A → Result (List ℤ × List ℕ) Fault → Meaning
  read_from input nest =
      after_line 1 (vector_and_descriptor nest >>= λ both. Ok (both_bound_to [] (codes "v") (codes "d") both))
      (λ after. from_line 2 after (input ∷ []) (codes "write v d" ∷ [] ∷ []))

  read_reads : (bytes : Vec ℕ A) → meaning reading (Bytes bytes ∷ []) ≡ read_from (Bytes bytes) (nested_of bytes.items)
  unfolding op_of int_binaries unaries comparisons bool_binaries int_monoids forms elements digits int_wrap
  read_reads bytes = refl

  read_writes : (input : Input A) (numbers : List ℤ) (lengths : List ℕ) →
      outcome_of (read_from input (Ok (numbers, lengths)))
      ≡ outcome_of (written 2 (bind_both [] (codes "v") (codes "d") (value.Integers numbers, value.Descriptor lengths)) (input ∷ []) (nest lengths numbers))
  unfolding op_of int_binaries unaries comparisons bool_binaries int_monoids forms elements digits int_wrap
  read_writes input numbers lengths = refl

  shown : (line : ℕ) (names : Entries A) (inputs : List (Input A)) (numbers : List ℤ) (lengths : List ℕ) → sum lengths ≡ length numbers →
      outcome_of (written line names inputs (nest lengths numbers)) ≡ shows_v (text_of_nest numbers lengths)
  shown line names inputs numbers lengths total =
      ap (λ lists. outcome_of (written line names inputs lists)) (nest-fits lengths numbers total)
      ∙ ap (λ text. (text, None)) (append-nil (codes "v = " ++ text_of_nest numbers lengths ++ (10 ∷ [])))

  pub read_is : (bytes : Vec ℕ A) (numbers : List ℤ) (lengths : List ℕ) → sum lengths ≡ length numbers → nested_of bytes.items ≡ Ok (numbers, lengths) →
      read (Bytes bytes) ≡ shows_v (text_of_nest numbers lengths)
  read_is bytes numbers lengths total is =
      ap outcome_of (read_reads bytes ∙ ap (read_from (Bytes bytes)) is)
      ∙ read_writes (Bytes bytes) numbers lengths
      ∙ shown 2 _ (Bytes bytes ∷ []) numbers lengths total

  pub refused_is : (bytes : Vec ℕ A) (f : Fault) → nested_of bytes.items ≡ Err f → read (Bytes bytes) ≡ ([], Some (1, f))
  refused_is bytes f is = ap outcome_of (read_reads bytes ∙ ap (read_from (Bytes bytes)) is)

  -- the names after the first two lines of the first script
  abbrev given : List ℤ → List ℕ → Entries A
  given numbers lengths = bind (bind [] (codes "v") (value.Integers numbers)) (codes "l") (value.Integers (map pos lengths))

  abbrev inputs_of : List ℤ → List ℕ → List (Input A)
  inputs_of numbers lengths = Vector numbers ∷ Vector (map pos lengths) ∷ []

-- the first script, from its descriptor on
abbrev made_from : (A : Type 0) → List ℤ → List ℕ → Result (List ℕ) Fault → Meaning
made_from A numbers lengths made =
    after_line 3 (descriptor {A = A} made >>= λ v. Ok (bound_to (given numbers lengths) (codes "d") v))
    (λ after. from_line 4 after (inputs_of numbers lengths) (codes "write v d" ∷ [] ∷ []))

made_makes : (A : Type 0) (numbers : List ℤ) (lengths : List ℕ) →
    made A numbers lengths ≡ outcome_of (made_from A numbers lengths (descriptor_of (map pos lengths)))
unfolding op_of int_binaries unaries comparisons bool_binaries int_monoids forms elements digits int_wrap
made_makes A numbers lengths = refl

made_writes : (A : Type 0) (numbers : List ℤ) (lengths : List ℕ) →
    outcome_of (made_from A numbers lengths (Ok lengths))
    ≡ outcome_of (written {A = A} 4 (bind (given numbers lengths) (codes "d") (value.Descriptor lengths)) (inputs_of numbers lengths) (nest lengths numbers))
unfolding op_of int_binaries unaries comparisons bool_binaries int_monoids forms elements digits int_wrap
made_writes A numbers lengths = refl

pub made_is : (A : Type 0) (numbers : List ℤ) (lengths : List ℕ) → sum lengths ≡ length numbers → sum lengths ≤ most_elements →
    made A numbers lengths ≡ shows_v (text_of_nest numbers lengths)
made_is A numbers lengths total few =
    made_makes A numbers lengths
    ∙ ap (λ found. outcome_of (made_from A numbers lengths found)) (lengths_made lengths few)
    ∙ made_writes A numbers lengths
    ∙ shown {A = A} 4 _ (inputs_of numbers lengths) numbers lengths total

-- ---- what the first script writes after ` =` is read by the second

-- blanks round a text change nothing of what it is
blanks_around : (text : List ℕ) → nested_of (32 ∷ text ++ (10 ∷ [])) ≡ nested_of text
blanks_around text =
    let tokens : tokens_by nested_class (text ++ (10 ∷ [])) ≡ tokens_by nested_class text = cut_at_blank nested_class text [] 10 refl ∙ append-nil (tokens_by nested_class text) in
    ap (λ marks. fault_if (are_too_many marks) (fault no.TooLong) (lists_from before 0 marks >>= λ lists. Ok (flat_nest lists))) (ap (map mark_of) tokens)

pub same : (A : Type 0) (bytes : Vec ℕ A) (numbers : List ℤ) (lengths : List ℕ) → sum lengths ≡ length numbers → length numbers ≤ most_elements →
    made A numbers lengths ≡ (codes "v =" ++ bytes.items, None) → read_again lengths numbers ≡ Ok (numbers, lengths) → read (Bytes bytes) ≡ made A numbers lengths
same A bytes numbers lengths total few wrote back =
    let made' : made A numbers lengths ≡ shows_v (text_of_nest numbers lengths) = made_is A numbers lengths total (omega arith) in
    let items : bytes.items ≡ 32 ∷ text_of_nest numbers lengths ++ (10 ∷ []) = ap (λ outcome. drop 3 outcome.0) (sym wrote ∙ made') in
    let text : read_again lengths numbers ≡ nested_of (text_of_nest numbers lengths) =
    ap (λ lists. lists >>= λ found. nested_of (nest_text signed_decimal found)) (nest-fits lengths numbers total) in
    read_is bytes numbers lengths total (ap nested_of items ∙ blanks_around (text_of_nest numbers lengths) ∙ sym text ∙ back) ∙ sym made'
