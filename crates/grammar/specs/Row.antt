-- Rows: an item, and any number of signs with an item behind each.
use Rattle.std.specs.Prelude.{Bool, ◌||◌, Option, List, [], ◌∷◌}
use Rattle.std.specs.Option.{is_some}
use Rattle.grammar.specs.Word.{Word}

-- item {{ sign item }}
pub record Row (I S : Type 0) : Type 0 where
  pub first : I
  pub rest : List (S × I)

module _ {I S : Type 0} (item_words : I → List Word → List Word) (sign_word : S → Word) where
  -- the words of signs with their items, with the rest behind them
  abbrev pub tail_words : List (S × I) → List Word → List Word
  tail_words [] rest = rest
  tail_words (part ∷ parts) rest = sign_word part.0 ∷ item_words part.1 (tail_words parts rest)

  -- the words of a row, with the rest behind it
  abbrev pub row_words : Row I S → List Word → List Word
  row_words row rest = item_words row.first (tail_words row.rest rest)

-- the last item
abbrev pub last_item : {I S : Type 0} → I → List (S × I) → I
last_item item [] = item
last_item item (part ∷ parts) = last_item part.1 parts

-- a word that stands behind a row would go on with it: with its last item, or as a sign
abbrev pub row_goes_on : {I S : Type 0} → (I → Word → Bool) → (Word → Option S) → Row I S → Word → Bool
row_goes_on item_goes_on sign row word = item_goes_on (last_item row.first row.rest) word || is_some (sign word)
