-- Words as a text writes them: no name is empty, and names and what strings hold are UTF-8.
use Rattle.std.specs.Prelude.{◌≡◌, Bool, true, List}
use Rattle.std.specs.List.{AllByRecursion}
use Rattle.std.specs.Str.{is_utf8}
use Rattle.syntax_tree.specs.Tree.{is_name}
use Rattle.grammar.specs.Word.{Word}
use Rattle.grammar.specs.Word as word

-- a name or a variable's name is one, what a string holds is UTF-8
abbrev pub is_written : Word → Bool
is_written (word.numeral n) = true
is_written (word.name bytes) = is_name bytes
is_written (word.variable bytes) = is_name bytes
is_written word.anonymous = true
is_written (word.string bytes) = is_utf8 bytes
is_written word.negation = true
is_written word.const_word = true
is_written word.show_word = true
is_written (word.mark mark) = true

abbrev pub AreWritten : List Word → Type 0
AreWritten words = AllByRecursion (λ word. is_written word ≡ true) words
