use Rattle.command_line.proofs.Cited.{◌≡◌, [], HasKind, Kinds, texts, ArgMatches}
use Rattle.command_line.proofs.Cvl.{faults_by, matches_by, out_of_memory_by, refused_by, whole}
use Rattle.command_line.proofs.parse.parsed.Goals as goal

pub returns-in-Ok-clause-whole : goal.returns-in-Ok-clause-whole
returns-in-Ok-clause-whole c =
    whole c.in_ok-command.command c.in-Ok.matches c.in_ok-command.ensures c.in-Ok.ensures.parsed

pub returns-in-Ok-clause-rows : goal.returns-in-Ok-clause-rows
returns-in-Ok-clause-rows c =
    matches_by _ (texts c.args.words.now) c.in-Ok.matches c.in_ok-command.ensures c.in-Ok.ensures.matches

pub returns-in-Ok-clause-faults : goal.returns-in-Ok-clause-faults
returns-in-Ok-clause-faults c =
    faults_by (λ (kinds : Kinds). kinds ≡ []) _ (texts c.args.words.now) c.in_ok-command.ensures c.in-Ok.ensures.kinds

pub returns-in-Err-clause-faults : goal.returns-in-Err-clause-faults
returns-in-Err-clause-faults c =
    refused_by ArgMatches _ c.in-Err.error c.fault_of.result
    (faults_by (λ (kinds : Kinds). HasKind kinds c.in-Err.error) _ (texts c.args.words.now) c.in_ok-command.ensures
    c.in-Err.ensures.kinds) c.fault_of.ensures

pub returns-in-Err-clause-taken : goal.returns-in-Err-clause-taken
returns-in-Err-clause-taken c =
    out_of_memory_by _ (texts c.args.words.now) c.in-Err.error c.fault_of.result c.in_ok-command.ensures c.in-Err.ensures.passes
    c.fault_of.ensures
