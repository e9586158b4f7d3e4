-- The command of the program, as clap's words say it: two options of one number each, with their ranges and defaults, a flag, the script,
-- then its inputs; and a version, which you can ask for.
-- Source: this library's program.
use Rattle.std.specs.Prelude.{ℕ, [], ◌∷◌, Some, codes, pos, true}
use Rattle.cvl_base.specs.Limits.{longest_tile, most_workers}
use Rattle.clap.specs.Words.{App, Rule, Text, new_app, new_rule, with_rule}
use Rattle.clap.specs.declared.builder.action.ArgAction.TheVariants.{Set, SetTrue, Append}
use Rattle.clap.specs.declared.builder.value_parser.ValueParser.{ValueParser}
use Rattle.clap.specs.declared.builder.value_parser.ValueParser.TheVariants as vp

-- a whole number from 1 to the greatest
abbrev pub up_to : ℕ → ValueParser
up_to greatest = vp.Signed (pos 1) (pos greatest)

-- `--NAME N`
abbrev pub number_rule : Text → ValueParser → Text → Rule
number_rule name parser default = record (new_rule name) {
  long = Some name;
  action = Some Set;
  value_names = 1;
  parser = Some parser;
  defaults = default ∷ [];
}

-- `--explain`
abbrev pub explain_rule : Rule
explain_rule =
    record (new_rule (codes "explain")) { long = Some (codes "explain"); action = Some SetTrue }

-- SCRIPT, which has to be there
abbrev pub script_rule : Rule
script_rule =
    record (new_rule (codes "script")) { action = Some Set; value_names = 1; required = true }

-- INPUT .., of which there may be none
abbrev pub inputs_rule : Rule
inputs_rule = record (new_rule (codes "inputs")) { action = Some Append; value_names = 1 }

-- `--tile`, from 1 to the longest tile, 4096 by default
abbrev pub tile_rule : Rule
tile_rule = number_rule (codes "tile") (up_to longest_tile) (codes "4096")

-- `--workers`, from 1 to the most workers, 4 by default
abbrev pub workers_rule : Rule
workers_rule = number_rule (codes "workers") (up_to most_workers) (codes "4")

-- a command that has a version
abbrev pub with_version : App → App
with_version a = record a { top = record a.top { has_version = true } }

-- the whole command
unfoldable pub cvl : App
cvl = with_version (with_rule (with_rule (with_rule (with_rule (with_rule (new_app (codes "cvl")) tile_rule)
    workers_rule) explain_rule) script_rule) inputs_rule)
