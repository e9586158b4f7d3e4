use Rattle.command_line.proofs.Cited.{◌≡◌, ◌∙◌, false, ap, ap₂, app_of_fields, rule_of, with_rule, Arg, longest_tile, most_workers}
use Rattle.command_line.specs.Command.{cvl, tile_rule, workers_rule, up_to, with_version}
use Rattle.command_line.proofs.command.cvl_command.Goals as goal

pub returns : goal.returns
unfolding cvl
returns c =
    let tile_range : c.range.result ≡ up_to longest_tile = rw (c.value_parser.ensures, c.new.ensures.start, c.new.ensures.end, c.from.ensures) at c.range.ensures in
    let workers_range : c.range-2.result ≡ up_to most_workers = rw (c.value_parser-2.ensures, c.new-2.ensures.start, c.new-2.ensures.end, c.from-2.ensures) at c.range-2.ensures in
    let tile : rule_of c.help-tile.result ≡ tile_rule =
    ap rule_of c.help-tile.ensures ∙ (rw tile_range at c.number_option.ensures.rule) in
    let workers : rule_of c.help-workers.result ≡ workers_rule =
    ap rule_of c.help-workers.ensures ∙ (rw workers_range at c.number_option-2.ensures.rule) in
    let tile_own : c.help-tile.result.global ≡ false = ap (λ (a : Arg). a.global) c.help-tile.ensures ∙ c.number_option.ensures.own in
    let workers_own : c.help-workers.result.global ≡ false = ap (λ (a : Arg). a.global) c.help-workers.ensures ∙ c.number_option-2.ensures.own in
    let one = c.in_ok-arg.ensures.shape tile_own ∙ ap₂ with_rule c.new-3.ensures.app tile in
    let two = c.in_ok-arg-2.ensures.shape workers_own ∙ ap₂ with_rule one workers in
    let three = c.in_ok-arg-3.ensures.shape c.explain.ensures.own ∙ ap₂ with_rule two c.explain.ensures.rule in
    let four = c.in_ok-arg-4.ensures.shape c.script.ensures.own ∙ ap₂ with_rule three c.script.ensures.rule in
    let five = c.in_ok-command.ensures.shape c.inputs.ensures.own ∙ ap₂ with_rule four c.inputs.ensures.rule in
    ap app_of_fields c.after_help.ensures ∙ ap app_of_fields c.version.ensures ∙ ap with_version (ap app_of_fields c.about.ensures ∙ five)
