-- Where a text stops being UTF-8.
use Rattle.std.proofs.Common.{◌≡◌, ℕ, ◌+◌, ◌<◌, List, ◌++◌, length, take, drop, refl, sym, ap, subst, ◌∙◌, inl, inr, arith, append_assoc, length-append}
use Rattle.std.specs.Str.{IsUtf8, StartsWithNoChar, IsValidUpTo}
use Rattle.std.specs.Char.{encode_utf8, len_utf8}
use Rattle.std.proofs.lemmas.Str.{IsUtf8-append, IsUtf8-encode, length-encode}
use Rattle.std.proofs.lemmas.List.{take-append-drop, take_at, length-take-le}
use Rattle.std.proofs.lemmas.Bool.{cases_order}
use Rattle.std.proofs.lemmas.Bool.Decides.{nat_tests}
use Rattle.std.proofs.str.Faults.{valid_to, not_text}
use Rattle.lexer.specs.Faults.{IsNotUtf8}

-- a character takes a byte at least
len_some : (c : ℕ) → 0 < len_utf8 c
len_some c = grind (arith, nat_tests)

-- the longest front that is UTF-8 ends where no character begins
pub ends_there : (text : List ℕ) (at : ℕ) → IsValidUpTo text at → IsNotUtf8 text at
ends_there text at v = record { within = v.short; front = v.front; none = none }
  where
    none : StartsWithNoChar (drop at text)
    none c rest scalar e =
        let front : List ℕ = take at text in
        let short = v.short in
        let long : length front ≡ at = length-take-le at text (omega arith) in
        let whole : text ≡ (front ++ encode_utf8 c) ++ rest =
        sym (take-append-drop at text) ∙ ap (λ xs. front ++ xs) e ∙ sym (append_assoc front (encode_utf8 c) rest) in
        let m : ℕ = length (front ++ encode_utf8 c) in
        let there : take m text ≡ front ++ encode_utf8 c = ap (λ xs. take m xs) whole ∙ take_at (front ++ encode_utf8 c) rest m refl in
        let some = len_some c in
        let bytes : length (encode_utf8 c) ≡ len_utf8 c = length-encode c in
        let sum : m ≡ length front + length (encode_utf8 c) = length-append front (encode_utf8 c) in
        let more : at < m = omega arith in
        v.longest m more (subst IsUtf8 (sym there) (IsUtf8-append front (encode_utf8 c) v.front (IsUtf8-encode c scalar)))

pub valid_there : (text : List ℕ) (at : ℕ) → IsNotUtf8 text at → IsValidUpTo text at
valid_there text at n = valid_to text at n.within n.front n.none

-- there is one such place
pub one_place : (text : List ℕ) (at other : ℕ) → IsNotUtf8 text at → IsNotUtf8 text other → at ≡ other
one_place text at other f g =
    elim (cases_order at other) [
      | inl same ↦ same
      | inr apart ↦
          elim apart [
            | inl less ↦ absurd ((valid_there text at f).longest other less g.front)
            | inr more ↦ absurd ((valid_there text other g).longest at more f.front)
          ]
    ]

-- and none in a text that is UTF-8
pub no_place : (text : List ℕ) (at : ℕ) → IsNotUtf8 text at → IsUtf8 text → ⊥
no_place text at n u = not_text text at (valid_there text at n) u
