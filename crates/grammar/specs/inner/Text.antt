-- Whole texts: any number of statements, with the rest of the words behind them.
use Rattle.std.specs.Prelude.{ℕ, List, ◌++◌}
use Rattle.grammar.specs.Word.{Word}
use Rattle.grammar.specs.Statement.{StatementAt, text_words}

abbrev pub TextAt : ℕ → Type 0
TextAt n = List (StatementAt n)

abbrev pub words_of_text : (n : ℕ) → TextAt n → List Word → List Word
words_of_text n statements rest = text_words n statements ++ rest
