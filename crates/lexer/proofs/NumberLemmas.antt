-- The value of digits, read from the front, and the number at the front.
use Rattle.std.proofs.Common.{◌≡◌, ℕ, suc, ◌+◌, ◌*◌, ◌-◌, ◌<◌, ◌≤◌, ◌^◌, Bool, true, false, List, [], ◌∷◌, take, drop, length, get_or, refl, sym, subst, arith, add-one, drop-cons}
use Rattle.std.specs.List.{list_all, prefix_len}
use Rattle.std.specs.Char.{digit_value}
use Rattle.std.specs.Str.Parse.{digits_value, digits_value_after}
use Rattle.std.proofs.lemmas.Bool.{and_parts, and_from, le-leb, lt-leb}
use Rattle.std.proofs.lemmas.List.{drop_all, take-append-drop}
use Rattle.std.proofs.lemmas.Bool.Decides.{nat_tests}
use Rattle.lexer.specs.declared.token.TokenKind.TheVariants.{Num}
use Rattle.lexer.specs.declared.lexeme.Lexeme.TheVariants.{Single}
use Rattle.lexer.specs.Bytes.{is_digit}
use Rattle.lexer.specs.Forms.{is_digits, is_too_large, is_number}
use Rattle.lexer.specs.Faults.{BeginsDigits}
use Rattle.lexer.specs.inner.Lexeme.{IsLexeme}
use Rattle.lexer.proofs.ByteLemmas.{run_all}
use Rattle.lexer.proofs.FormLemmas.{longest_digits}
use Rattle.lexer.proofs.LexemeLemmas.{run_begins, run_lexeme}

pub value_of_digit : (b : ℕ) → is_digit b ≡ true → digit_value b ≡ b - 48
value_of_digit b h = grind (arith, nat_tests)

-- further digits make no number smaller
pub value_grows : (n : ℕ) (digits : List ℕ) → n ≤ digits_value_after 10 n digits
value_grows n [] = omega arith
value_grows n (d ∷ ds) =
    let more = value_grows (n * 10 + digit_value d) ds in
    omega arith

-- what is left of the digits, where the first of them were read up to a value
pub record ValueLeft (digits left : List ℕ) (value : ℕ) : Type 0 where
  pub small : value < 2 ^ 31
  pub same : digits_value_after 10 value left ≡ digits_value 10 digits
  pub all : list_all is_digit left ≡ true

module _ (digits : List ℕ) (i value : ℕ) (within : i < length digits) (left : ValueLeft digits (drop i digits) value) where
  abbrev d : ℕ
  d = get_or digits i 0

  split : drop i digits ≡ d ∷ drop (i + 1) digits
  split = rw (add-one, drop-cons digits i 0) refl

  all_here : list_all is_digit (d ∷ drop (i + 1) digits) ≡ true
  all_here = rw split at left.all

  pub digit_here : is_digit d ≡ true
  digit_here = (and_parts (is_digit d) (list_all is_digit (drop (i + 1) digits)) all_here).0

  same_here : digits_value_after 10 (value * 10 + (d - 48)) (drop (i + 1) digits) ≡ digits_value 10 digits
  same_here =
      let before : digits_value_after 10 value (d ∷ drop (i + 1) digits) ≡ digits_value 10 digits = rw split at left.same in
      let P : ℕ → Type 0 = λ v. digits_value_after 10 (value * 10 + v) (drop (i + 1) digits) ≡ digits_value 10 digits in
      subst P (value_of_digit d digit_here) before

  pub value_next : value * 10 + (d - 48) < 2 ^ 31 → ValueLeft digits (drop (i + 1) digits) (value * 10 + (d - 48))
  value_next l = record {
    small = l;
    same = same_here;
    all = (and_parts (is_digit d) (list_all is_digit (drop (i + 1) digits)) all_here).1;
  }

  pub value_passed : 2 ^ 31 ≤ value * 10 + (d - 48) → is_too_large digits ≡ true
  value_passed l =
      let more = value_grows (value * 10 + (d - 48)) (drop (i + 1) digits) in
      le-leb (2 ^ 31) (digits_value 10 digits) (omega (arith, same_here))

pub value_ends : (digits : List ℕ) (i value : ℕ) → length digits ≤ i → ValueLeft digits (drop i digits) value → is_too_large digits ≡ false
value_ends digits i value l left =
    let e : drop i digits ≡ [] = drop_all i digits l in
    let same : value ≡ digits_value 10 digits = rw e at left.same in
    lt-leb (2 ^ 31) (digits_value 10 digits) (omega (arith, same, left.small))

-- the digits at the front
pub digits_front : (rest : List ℕ) → 0 < length rest → is_digit (get_or rest 0 0) ≡ true → is_digits (take (prefix_len is_digit rest) rest) ≡ true
digits_front [] l d = absurd (omega arith)
digits_front (b ∷ r) l d =
    let n = prefix_len is_digit r in
    let e : 1 + n ≡ suc n = omega arith in
    rw (d, e) (and_from (is_digit b) (list_all is_digit (take n r)) d (run_all is_digit r))

-- a run of digits that a test finds
pub run_digits : (test : List ℕ → Bool) (rest : List ℕ) (n : ℕ) → n ≡ prefix_len is_digit rest → 0 < length rest → is_digit (get_or rest 0 0) ≡ true → test (take n rest) ≡ true
    → BeginsDigits test rest
run_digits test rest n e l d found = record {
  digits = take n rest;
  behind = drop n rest;
  begins = sym (take-append-drop n rest);
  run = rw e (run_begins is_digit longest_digits Num rest (digits_front rest l d));
  found = found;
}

-- the number at the front
pub num_lexeme : (rest : List ℕ) (n : ℕ) → n ≡ prefix_len is_digit rest → 0 < length rest → is_digit (get_or rest 0 0) ≡ true → is_number (take n rest) ≡ true
    → IsLexeme rest (Single Num n)
num_lexeme rest n e l d h = run_lexeme is_digit longest_digits Num rest n e (rw e (digits_front rest l d)) h
