use Rattle.std.proofs.Common.{◌∙◌, ap₂}
use Rattle.std.proofs.lemmas.Result.{IfOk-weaker}
use Rattle.clap.specs.Simple.{with_rule}
use Rattle.command_words.proofs.command.make_command.Goals as goal

pub returns : goal.returns
returns c =
    let first = c.in_ok-command.ensures ∙ ap₂ with_rule c.bare_command.ensures c.number_option.ensures.rule in
    let second = c.in_ok-command-2.ensures ∙ ap₂ with_rule first c.long_option.ensures.rule in
    let third = c.in_ok-command-3.ensures ∙ ap₂ with_rule second c.long_option-2.ensures.rule in
    let fourth = c.in_ok-command-4.ensures ∙ ap₂ with_rule third c.long_option-3.ensures.rule in
    let fifth = c.in_ok-command-5.ensures ∙ ap₂ with_rule fourth c.long_option-4.ensures.rule in
    let sixth = c.in_ok-command-6.ensures ∙ ap₂ with_rule fifth c.long_option-5.ensures.rule in
    IfOk-weaker c.with_argument-7.result _ _ (λ command h. h ∙ ap₂ with_rule sixth c.file_words.ensures.rule) c.with_argument-7.ensures
