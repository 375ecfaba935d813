-- What a caller knows of each token of a text.
use Rattle.std.specs.Prelude.{◌≡◌, ℕ, ◌<◌, ◌≤◌, true, List, [], ◌∷◌, length, slice_range}
use Rattle.lexer.specs.declared.token.Token.{Token}
use Rattle.lexer.specs.Forms.{has_form, is_sound}

-- the bytes of a token
abbrev pub token_bytes : List ℕ → Token → List ℕ
token_bytes text token = slice_range text token.start token.«end»

-- a token with a byte at least, within the text, in the form of its kind
pub record IsTokenOf (text : List ℕ) (token : Token) : Type 0 where
  pub some : token.start < token.«end»
  pub within : token.«end» ≤ length text
  pub form : has_form token.kind (token_bytes text token) ≡ true
  pub sound : is_sound token.kind (token_bytes text token) ≡ true

-- each token begins at a place or behind it, and at or behind the end of the one before
abbrev pub IsInOrder : ℕ → List Token → Type 0
IsInOrder from [] = Unit {0}
IsInOrder from (token ∷ rest) = (from ≤ token.start) × IsInOrder token.«end» rest
