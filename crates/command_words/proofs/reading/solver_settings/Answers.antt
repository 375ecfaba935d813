use Rattle.std.proofs.Common.{◌∙◌, map, string_bytes}
use Rattle.std.proofs.lemmas.Result.{IfOk-weaker, IfErr-weaker}
use Rattle.clap.specs.Words.{rows_of, found_of}
use Rattle.command_words.specs.Words.{pieces_of}
use Rattle.command_words.specs.Settings.{solver_options}
use Rattle.command_words.proofs.ReadingLemmas.{solver_of}
use Rattle.command_words.proofs.reading.solver_settings.Goals as goal

pub returns-in-Ok-clause-ok : goal.returns-in-Ok-clause-ok
returns-in-Ok-clause-ok c =
    IfOk-weaker c.solver_found.result _ _
    (λ settings h. solver_of (pieces_of solver_options (map string_bytes c.args.words.now)) (rows_of (found_of c.in-Ok.matches)) c.in-Ok.ensures.read ∙ h) c.solver_found.ensures.ok

pub returns-in-Ok-clause-usage : goal.returns-in-Ok-clause-usage
returns-in-Ok-clause-usage c =
    IfErr-weaker c.solver_found.result _ _
    (λ e h usage. solver_of (pieces_of solver_options (map string_bytes c.args.words.now)) (rows_of (found_of c.in-Ok.matches)) c.in-Ok.ensures.read ∙ h usage) c.solver_found.ensures.usage
