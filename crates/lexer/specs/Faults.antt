-- The first fault of a text.
use Rattle.std.specs.Prelude.{◌≡◌, ℕ, ◌+◌, ◌<◌, Bool, true, false, ◌==◌, ◌||◌, ◌&&◌, not, ◌⊎◌, Result, Ok, Err, None, List, [], ◌∷◌, ◌++◌, length, take, drop}
use Rattle.std.specs.Str.{IsUtf8, StartsWithNoChar}
use Rattle.lexer.specs.declared.token.TokenKind.{TokenKind}
use Rattle.lexer.specs.declared.token.TokenKind.TheVariants.{Num}
use Rattle.lexer.specs.declared.token.LexCause.{LexCause}
use Rattle.lexer.specs.declared.token.LexCause.TheVariants.{NotUtf8, OpenString, OpenComment, BadCharacter, NumberTooLarge}
use Rattle.lexer.specs.declared.token.LexFault.{LexFault}
use Rattle.lexer.specs.declared.token.LexStop.{LexStop}
use Rattle.lexer.specs.declared.token.LexStop.TheVariants.{Fault, Memory}
use Rattle.lexer.specs.Bytes.{is_blank}
use Rattle.lexer.specs.Forms.{has_form, is_zero_led, is_too_large}
use Rattle.lexer.specs.Parts.{Part, parts_text, AllStand, BeginsThere, close_from}

-- no front of the rest is a token
abbrev pub BeginsNoToken : List ℕ → Type 0
BeginsNoToken rest = (kind : TokenKind) (front behind : List ℕ) → rest ≡ front ++ behind → has_form kind front ≡ false

-- a byte stands there that begins no token, and is no blank, no quote and no `%`
pub record BeginsNothing (rest : List ℕ) : Type 0 where
  pub byte : ℕ
  pub behind : List ℕ
  pub begins : rest ≡ byte ∷ behind
  pub other : (is_blank byte || byte == 34 || byte == 37) ≡ false
  pub none : BeginsNoToken rest

-- a quote stands there that begins no string
pub record BeginsOpenString (rest : List ℕ) : Type 0 where
  pub behind : List ℕ
  pub begins : rest ≡ 34 ∷ behind
  pub none : BeginsNoToken rest

-- a `%*` stands there with no `*%` behind it
pub record BeginsOpenComment (rest : List ℕ) : Type 0 where
  pub inside : List ℕ
  pub begins : rest ≡ 37 ∷ 42 ∷ inside
  pub none : close_from 0 inside ≡ None

-- a run of digits begins there that a test finds
pub record BeginsDigits (test : List ℕ → Bool) (rest : List ℕ) : Type 0 where
  pub digits : List ℕ
  pub behind : List ℕ
  pub begins : rest ≡ digits ++ behind
  pub run : BeginsThere Num digits behind
  pub found : test digits ≡ true

-- where a part should begin, the rest of the text has a fault with this cause, so many bytes on
abbrev pub HasFault : LexCause → ℕ → List ℕ → Type 0
HasFault NotUtf8 on rest = ⊥
HasFault OpenString on rest = (on ≡ 0) × BeginsOpenString rest
HasFault OpenComment on rest = (on ≡ 0) × BeginsOpenComment rest
HasFault BadCharacter on rest = ((on ≡ 0) × BeginsNothing rest) ⊎ ((on ≡ 1) × BeginsDigits is_zero_led rest)
HasFault NumberTooLarge on rest = (on ≡ 0) × BeginsDigits (λ digits. not (is_zero_led digits) && is_too_large digits) rest

-- the text has parts up to a place where a fault stands
pub record IsStopped (text : List ℕ) (fault : LexFault) : Type 0 where
  pub parts : List Part
  pub rest : List ℕ
  pub whole : text ≡ parts_text parts rest
  pub stand : AllStand parts rest
  pub on : ℕ
  pub place : fault.at ≡ length (parts_text parts []) + on
  pub has : HasFault fault.cause on rest

-- the text is UTF-8 up to a byte that begins no character
pub record IsNotUtf8 (text : List ℕ) (at : ℕ) : Type 0 where
  pub within : at < length text
  pub front : IsUtf8 (take at text)
  pub none : StartsWithNoChar (drop at text)

-- the first fault: that of UTF-8, or of a text that is UTF-8 the first place where no part stands
abbrev pub IsFirstFault : List ℕ → LexFault → Type 0
IsFirstFault text fault = ((fault.cause ≡ NotUtf8) × IsNotUtf8 text fault.at) ⊎ (IsUtf8 text × IsStopped text fault)

-- what holds of the fault, where the answer is one
abbrev pub IfFault : {A : Type 0} → Result A LexStop → (LexFault → Type 0) → Type 0
IfFault (Ok found) claim = Unit {0}
IfFault (Err (Fault fault)) claim = claim fault
IfFault (Err Memory) claim = Unit {0}
