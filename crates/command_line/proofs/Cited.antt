-- What the proofs of this crate cite of the crates below and of the standard library, passed on from one place. Declares nothing.
pub use Rattle.std.proofs.Common.{[], ◌&&◌, ◌++◌, ◌<◌, ◌==◌, ◌||◌, ◌∙◌, ◌∷◌, ◌≡◌, ◌≤◌, All, ap, ap₂, arith, Bool, bytes_eq, codes, cond, Err, false, find, fold, inl, inr, is_some, IsSome, length}
pub use Rattle.std.proofs.Common.{List, map, None, not, Ok, Option, option_and_then, option_map, refl, rules, slice_index_or, Some, subst, suc, sym, true, unwrap_or, zero, ℕ}
pub use Rattle.std.proofs.lemmas.Bool.{and_parts, false≢true, not-true, or_parts}
pub use Rattle.std.proofs.lemmas.List.Elements.{All-cons, All-head, All-nil, All-tail}
pub use Rattle.std.specs.List.{list_all, range_with_len}
pub use Rattle.std.specs.Str.Parse.{digits_value, without_leading_plus}
pub use Rattle.clap.proofs.CallerLemmas.{default_present, required_has_value, same_rules_by_id}
pub use Rattle.clap.proofs.WalkLemmas.{both, first_value-rows, one_text-rows, raw_values-rows}
pub use Rattle.clap.specs.Built.{IsAuto, IsParsedFrom, IsPlain, IsPlainArg, SameRules}
pub use Rattle.clap.specs.Facts.{args_of, Entry, EntryPasses, least_values, parser_of, parser_of_value, unwrap_or_range, WantsDefault}
pub use Rattle.clap.specs.Kinds.{HasKind, Kinds}
pub use Rattle.clap.specs.Lexer.{without_minus}
pub use Rattle.clap.specs.Matches.{first_value, found_of, one_text}
pub use Rattle.clap.specs.Simple.{App, app_of, app_of_fields, argument_words, built, filled, HasMatchesOf, help_rule, is_simple, matches_of, version_rule, with_index}
pub use Rattle.clap.specs.Values.{Accepts, read_as, reading_of}
pub use Rattle.clap.specs.Walk.{at_row, has_row, is_free_arg, is_simple_arg, one_of, reading_by, Row, row_text, rows_of, Rule, rule_of, Text, texts, with_default}
pub use Rattle.clap.specs.Words.{kind_of, takes, with_rule}
pub use Rattle.clap.specs.declared.builder.arg.Arg.{Arg}
pub use Rattle.clap.specs.declared.builder.command.Command.{Command}
pub use Rattle.clap.specs.declared.builder.command.Command.TheViews.{out-Command}
pub use Rattle.clap.specs.declared.parser.matches.ArgMatches.{ArgMatches}
pub use Rattle.cvl_base.specs.Limits.{longest_tile, most_workers}
