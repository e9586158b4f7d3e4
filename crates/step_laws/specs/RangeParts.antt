-- What the parts of a call have of their own of which each writes a range of the result and reads all operands.
-- Source: CVL's permute, d[i[k]] = s[k]; the ranges are this library's.
use Rattle.std.specs.Prelude.{◌≡◌, ◌≢◌, ◌+◌, ◌/◌, ◌≤◌, ℕ, List, [], ◌∷◌, ◌++◌, length, map, Result, Err}
use Rattle.std.specs.List.{All}
use Rattle.cvl_base.specs.declared.fault.Fault.{Fault}
use Rattle.cvl_base.specs.Lists.{joined}
use Rattle.step_laws.specs.PackSteps.{ranges_of}
use Rattle.c_calls.specs.Told.{Told, done}
use Rattle.c_calls.specs.declared.status.CvlStatus.{CvlStatus}

-- where a part's range of the result begins; its range of the defaults, if the call has some; its range of the room; its words of marks;
-- and what it counts
pub record RangePart (X : Type 0) : Type 0 where
  pub from : ℕ
  pub defaults : List X
  pub room : List X
  pub marks : List ℕ
  pub count : ℕ

module _ {X : Type 0} where
  -- the room of the whole
  abbrev pub room_of : List (RangePart X) → List X
  room_of parts = joined (map (λ p. p.room) parts)

  -- its defaults
  abbrev pub defaults_of : List (RangePart X) → List X
  defaults_of parts = joined (map (λ p. p.defaults) parts)

  -- what each part counts
  abbrev pub counts_of : List (RangePart X) → List ℕ
  counts_of parts = map (λ p. p.count) parts

  -- each part begins where the one before it ends, and the first at this place
  abbrev pub BeginAt : ℕ → List (RangePart X) → Type 0
  BeginAt place [] = Unit {0}
  BeginAt place (p ∷ parts) = (p.from ≡ place) × BeginAt (place + length p.room) parts

  -- where each part begins, and at last where the room ends
  abbrev pub bounds_of : List (RangePart X) → List ℕ
  bounds_of parts = map (λ p. p.from) parts ++ length (room_of parts) ∷ []

  -- each part has its words of all marks, from its place up to that of the next part
  abbrev pub HaveMarks : List ℕ → List ℕ → List (RangePart X) → Type 0
  HaveMarks places marks parts =
      (map (λ p. p.marks) parts ≡ ranges_of places marks) × (length (room_of parts) / 32 + length parts ≤ length marks)

  -- each part has a default for each place of its range
  abbrev pub HaveDefaults : List (RangePart X) → Type 0
  HaveDefaults parts = All (λ p. length p.defaults ≡ length p.room) parts

-- What a last check says of a call: if it is done, the room holds the call's result; else the call has a fault.
abbrev pub Settles : {X : Type 0} → CvlStatus → Result (List X) Fault → List X → List X → Type 0
Settles status call before now = (status ≡ done → Told call done before now) × (status ≢ done → (f : Fault) × (call ≡ Err f))
