use Rattle.std.proofs.Common.{◌∙◌, map, string_bytes}
use Rattle.std.proofs.lemmas.Result.{IfOk-weaker, IfErr-weaker}
use Rattle.clap.specs.Words.{rows_of, found_of}
use Rattle.command_words.specs.Words.{pieces_of}
use Rattle.command_words.specs.Settings.{checker_options}
use Rattle.command_words.proofs.ReadingLemmas.{checker_of}
use Rattle.command_words.proofs.reading.checker_settings.Goals as goal

pub returns-in-Ok-clause-ok : goal.returns-in-Ok-clause-ok
returns-in-Ok-clause-ok c =
    IfOk-weaker c.checker_found.result _ _
    (λ settings h. checker_of (pieces_of checker_options (map string_bytes c.args.words.now)) (rows_of (found_of c.in-Ok.matches)) c.in-Ok.ensures.read ∙ h) c.checker_found.ensures.ok

pub returns-in-Ok-clause-usage : goal.returns-in-Ok-clause-usage
returns-in-Ok-clause-usage c =
    IfErr-weaker c.checker_found.result _ _
    (λ e h usage. checker_of (pieces_of checker_options (map string_bytes c.args.words.now)) (rows_of (found_of c.in-Ok.matches)) c.in-Ok.ensures.read ∙ h usage) c.checker_found.ensures.usage
