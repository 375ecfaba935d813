use Rattle.std.proofs.Common.{◌≡◌, None, Some, is_some, map, drop, string_bytes}
use Rattle.command_words.specs.Words.{pieces_from}
use Rattle.command_words.specs.Forms.{options_of, forms_from}
use Rattle.command_words.proofs.forms.have_form.Given as goal

abbrev pub invariant-loop-word : goal.invariant-loop-word
invariant-loop-word l = forms_from (options_of l.program) (Some l.expected) (map string_bytes (drop l.word-index l.words))
    ≡ is_some (pieces_from (options_of l.program) None (map string_bytes l.words))
