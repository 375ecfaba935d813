-- Reading whole texts from the left, as a function of the words. Only the readers' own code and the laws cite this file.
use Rattle.std.specs.Prelude.{ℕ, zero, suc, List, [], ◌∷◌, length, Ok}
use Rattle.grammar.specs.Reading.{Reader, and_then, expected}
use Rattle.grammar.specs.StatementReading.{statement_at}
use Rattle.grammar.specs.inner.Text.{TextAt}

module _ {A : Type 0} (item : Reader A) where
  -- items up to the end of the words; the number bounds them
  unfoldable pub items_with : ℕ → Reader (List A)
  items_with zero [] = Ok ([], [])
  items_with zero (next ∷ words) = expected (next ∷ words)
  items_with (suc turns) [] = Ok ([], [])
  items_with (suc turns) (next ∷ words) = and_then (item (next ∷ words)) (λ x rest. and_then (items_with turns rest) (λ xs after. Ok (x ∷ xs, after)))

  abbrev pub all_with : Reader (List A)
  all_with words = items_with (length words) words

abbrev pub text_at : (n : ℕ) → Reader (TextAt n)
text_at n = all_with (statement_at n)
