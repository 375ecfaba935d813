-- The walk over the forms of the words. Private contracts alone cite this file.
use Rattle.std.specs.Prelude.{List, [], ◌∷◌, Bool, true, false, ◌==◌, ◌||◌, length, codes, Option, Some, None, if◌then◌else◌}
use Rattle.std.specs.Str.{bytes_eq}
use Rattle.command_words.specs.Words.{Text, is_plain, is_file, is_option, is_attached}
use Rattle.command_words.specs.Settings.{solver_options, checker_options}
use Rattle.command_words.specs.declared.program.Program.{Program}
use Rattle.command_words.specs.declared.program.Program.TheVariants.{Solver, Checker}
use Rattle.command_words.specs.declared.forms.Expected.{Expected}
use Rattle.command_words.specs.declared.forms.Expected.TheVariants as expected

abbrev pub options_of : Program → List Text
options_of Solver = solver_options
options_of Checker = checker_options

abbrev pub after_any : List Text → Text → Option Expected
after_any options word =
    if bytes_eq word (codes "--") then Some expected.File
    else (if is_option options word then Some expected.Value
    else (if is_attached options word || is_file word then Some expected.Any else None))

-- what may follow the word, where it is what was expected
abbrev pub after_word : List Text → Expected → Text → Option Expected
after_word options expected.Any word = after_any options word
after_word options expected.Value word = if is_plain word then Some expected.Any else None
after_word options expected.File word = if length word == 0 then None else Some expected.File

-- the words may end here
abbrev pub may_end : Expected → Bool
may_end expected.Any = true
may_end expected.Value = false
may_end expected.File = true

-- each word is what its place asks for
abbrev pub forms_from : List Text → Option Expected → List Text → Bool
forms_from options None words = false
forms_from options (Some e) [] = may_end e
forms_from options (Some e) (word ∷ rest) = forms_from options (after_word options e word) rest
