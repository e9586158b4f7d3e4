-- The operators on booleans, by their truth tables.
-- Source: the truth tables of conjunction, disjunction and exclusive disjunction.
use Rattle.std.specs.Prelude.{Bool, true, false, not}

-- conjunction
abbrev pub both : Bool → Bool → Bool
both true b = b
both false b = false

-- disjunction
abbrev pub either : Bool → Bool → Bool
either true b = true
either false b = b

-- exclusive disjunction
abbrev pub differ : Bool → Bool → Bool
differ true b = not b
differ false b = b
