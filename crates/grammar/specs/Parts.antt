-- Parts of forms: one that may be missing, one behind a mark or a sign, one with a mark behind it, and one behind another.
-- Each has its words with the rest of the words behind them.
use Rattle.std.specs.Prelude.{ℕ, ◌+◌, Bool, Option, Some, None, List, [], ◌∷◌}
use Rattle.grammar.specs.declared.mark.Mark.{Mark}
use Rattle.grammar.specs.Word.{Word}
use Rattle.grammar.specs.Word as word

-- a form that may be missing
abbrev pub maybe_words : {A : Type 0} → (A → List Word → List Word) → Option A → List Word → List Word
maybe_words words None rest = rest
maybe_words words (Some a) rest = words a rest

-- a form behind a mark
abbrev pub marked_words : {A : Type 0} → Mark → (A → List Word → List Word) → A → List Word → List Word
marked_words mark words a rest = word.mark mark ∷ words a rest

-- a form with a mark behind it
abbrev pub closed_words : {A : Type 0} → Mark → (A → List Word → List Word) → A → List Word → List Word
closed_words mark words a rest = words a (word.mark mark ∷ rest)

-- a sign, and a form behind it
abbrev pub signed_words : {S A : Type 0} → (S → Word) → (A → List Word → List Word) → S × A → List Word → List Word
signed_words sign_word words p rest = sign_word p.0 ∷ words p.1 rest

-- a form, and another behind it
abbrev pub pair_words : {A B : Type 0} → (A → List Word → List Word) → (B → List Word → List Word) → A × B → List Word → List Word
pair_words first second p rest = first p.0 (second p.1 rest)

-- a word that stands behind would go on with a form that may be missing: with the form, or as its first word
abbrev pub maybe_goes_on : {A : Type 0} → (Word → Bool) → (A → Word → Bool) → Option A → Word → Bool
maybe_goes_on starts goes_on None next = starts next
maybe_goes_on starts goes_on (Some a) next = goes_on a next

-- what a form gives that may be missing
abbrev pub maybe_gives : {A X : Type 0} → (A → ℕ → List X) → Option A → ℕ → List X
maybe_gives gives None at = []
maybe_gives gives (Some a) at = gives a at

-- what a form gives that stands a word further on
abbrev pub further : {A X : Type 0} → (A → ℕ → List X) → A → ℕ → List X
further gives a at = gives a (at + 1)
