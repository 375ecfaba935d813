-- What `clap` is given, and what its matches hold. Private contracts alone cite this file.
use Rattle.std.specs.Prelude.{◌≡◌, List, [], true, Option, Some, None, codes, unwrap_or}
use Rattle.clap.specs.Walk.{Rule, Row, first_of, all_of}
use Rattle.clap.specs.Simple.{App, new_rule, new_shape, with_rule}
use Rattle.clap.specs.declared.builder.action.ArgAction.TheVariants.{Set, Append}
use Rattle.command_words.specs.Words.{Text, Piece, is_option, value_of, files_of}
use Rattle.command_words.specs.Settings.{solver_options}

-- `-n VALUE`
abbrev pub number_rule : Rule
number_rule = record (new_rule (codes "-n")) { short = Some 110; action = Some Set }

-- `--NAME VALUE` or `--NAME=VALUE`, under the option itself as its id
abbrev pub long_rule : Text → Text → Rule
long_rule option name = record (new_rule option) { long = Some name; action = Some Set }

abbrev pub files_rule : Rule
files_rule = record (new_rule (codes "FILE")) { action = Some Append }

-- the command before its arguments: no program's name among the words, no help and no version
abbrev pub bare : App
bare = record {
  top = record (new_shape (codes "clingcon")) {
    no_binary_name = true;
    disable_help_flag = true;
    disable_version_flag = true;
  };
  subs = [];
}

-- one simple command, which takes every value as a text
abbrev pub simple_command : App
simple_command = with_rule (with_rule (with_rule (with_rule (with_rule (with_rule
    (with_rule bare number_rule) (long_rule (codes "--conflicts") (codes "conflicts")))
    (long_rule (codes "--min-int") (codes "min-int")))
    (long_rule (codes "--max-int") (codes "max-int")))
    (long_rule (codes "--ground-limit") (codes "ground-limit")))
    (long_rule (codes "--proof") (codes "proof")))
    files_rule

-- the matches hold exactly what the pieces say
pub record HoldsPieces (pieces : List Piece) (rows : List Row) : Type 0 where
  pub options : (option : Text) → is_option solver_options option ≡ true → first_of option rows ≡ value_of option pieces
  pub files : unwrap_or (all_of (codes "FILE") rows) [] ≡ files_of pieces

-- there are pieces, and the matches hold them
abbrev pub IsReadAs : Option (List Piece) → List Row → Type 0
IsReadAs None rows = ⊥
IsReadAs (Some pieces) rows = HoldsPieces pieces rows
