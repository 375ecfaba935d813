-- Classes of bytes that exclude each other, and runs of one class.
use Rattle.std.proofs.Common.{◌≡◌, ℕ, suc, ◌+◌, ◌<◌, Bool, true, false, not, ◌&&◌, List, [], ◌∷◌, ◌++◌, take, drop, refl, sym, ◌∙◌, inl, inr, arith}
use Rattle.std.specs.List.{list_all, prefix_len}
use Rattle.std.specs.Bool.{◌==◌}
use Rattle.std.proofs.lemmas.Bool.{and_parts, and_from, agree_below, agree_below_at, cases_Bool, both_ways}
use Rattle.std.proofs.lemmas.Bool.Decides.{nat_tests}
use Rattle.std.proofs.lemmas.List.Folds.{list_all-append}
use Rattle.lexer.specs.Bytes.{is_blank, is_digit, is_lower, is_upper, is_underscore, is_name_byte, is_name_first}
use Rattle.lexer.specs.Forms.{is_short_mark, is_long_mark}

-- a test that fails at each byte of ASCII
pub fails_below : (f : ℕ → Bool) (b : ℕ) → agree_below f (λ _. false) 128 ≡ true → b < 128 → f b ≡ false
fails_below f b h l = agree_below_at f (λ _. false) 128 b h l

-- two classes of ASCII that share no byte
pub apart : (f g : ℕ → Bool) (b : ℕ) → agree_below (λ x. f x && g x) (λ _. false) 128 ≡ true → b < 128 → f b ≡ true → g b ≡ false
apart f g b h l here =
    elim (cases_Bool (g b)) [
      | inl there ↦ absurd (both_ways (f b && g b) (fails_below (λ x. f x && g x) b h l) (and_from (f b) (g b) here there))
      | inr other ↦ other
    ]

-- a class of ASCII within another
pub within : (f g : ℕ → Bool) (b : ℕ) → agree_below (λ x. f x && not (g x)) (λ _. false) 128 ≡ true → b < 128 → f b ≡ true → g b ≡ true
within f g b h l here =
    elim (cases_Bool (g b)) [
      | inl there ↦ there
      | inr other ↦
          let outside : not (g b) ≡ true = rw other refl in
          absurd (both_ways (f b && not (g b)) (fails_below (λ x. f x && not (g x)) b h l) (and_from (f b) (not (g b)) here outside))
    ]

pub name_below : (b : ℕ) → is_name_byte b ≡ true → b < 128
name_below b h = grind (arith, nat_tests)

pub first_below : (b : ℕ) → is_name_first b ≡ true → b < 128
first_below b h = grind (arith, nat_tests)

pub blank_below : (b : ℕ) → is_blank b ≡ true → b < 128
blank_below b h = grind (arith, nat_tests)

pub lower_below : (b : ℕ) → is_lower b ≡ true → b < 128
lower_below b h = grind (arith, nat_tests)

pub upper_below : (b : ℕ) → is_upper b ≡ true → b < 128
upper_below b h = grind (arith, nat_tests)

pub digit_below : (b : ℕ) → is_digit b ≡ true → b < 128
digit_below b h = grind (arith, nat_tests)

pub underscore_below : (b : ℕ) → is_underscore b ≡ true → b < 128
underscore_below b h = grind (arith, nat_tests)

pub name_from_lower : (b : ℕ) → is_lower b ≡ true → is_name_byte b ≡ true
name_from_lower b h = within is_lower is_name_byte b refl (lower_below b h) h

pub name_from_upper : (b : ℕ) → is_upper b ≡ true → is_name_byte b ≡ true
name_from_upper b h = within is_upper is_name_byte b refl (upper_below b h) h

pub name_from_digit : (b : ℕ) → is_digit b ≡ true → is_name_byte b ≡ true
name_from_digit b h = within is_digit is_name_byte b refl (digit_below b h) h

pub name_from_underscore : (b : ℕ) → is_underscore b ≡ true → is_name_byte b ≡ true
name_from_underscore b h = within is_underscore is_name_byte b refl (underscore_below b h) h

pub name_from_first : (b : ℕ) → is_name_first b ≡ true → is_name_byte b ≡ true
name_from_first b h = within is_name_first is_name_byte b refl (first_below b h) h

-- what a class of bytes excludes
pub name_no_short : (b : ℕ) → is_name_byte b ≡ true → is_short_mark b ≡ false
name_no_short b h = apart is_name_byte is_short_mark b refl (name_below b h) h

pub name_no_long : (b c : ℕ) → is_name_byte b ≡ true → is_long_mark b c ≡ false
name_no_long b c h =
    let dot : (b == 46) ≡ false = apart is_name_byte (λ x. x == 46) b refl (name_below b h) h in
    let colon : (b == 58) ≡ false = apart is_name_byte (λ x. x == 58) b refl (name_below b h) h in
    let bang : (b == 33) ≡ false = apart is_name_byte (λ x. x == 33) b refl (name_below b h) h in
    let less : (b == 60) ≡ false = apart is_name_byte (λ x. x == 60) b refl (name_below b h) h in
    let more : (b == 62) ≡ false = apart is_name_byte (λ x. x == 62) b refl (name_below b h) h in
    rw (dot, colon, bang, less, more) refl

pub name_no_quote : (b : ℕ) → is_name_byte b ≡ true → (b == 34) ≡ false
name_no_quote b h = apart is_name_byte (λ x. x == 34) b refl (name_below b h) h

pub name_no_blank : (b : ℕ) → is_name_byte b ≡ true → is_blank b ≡ false
name_no_blank b h = apart is_name_byte is_blank b refl (name_below b h) h

pub digit_no_underscore : (b : ℕ) → is_digit b ≡ true → is_underscore b ≡ false
digit_no_underscore b h = apart is_digit is_underscore b refl (digit_below b h) h

pub digit_no_lower : (b : ℕ) → is_digit b ≡ true → is_lower b ≡ false
digit_no_lower b h = apart is_digit is_lower b refl (digit_below b h) h

pub digit_no_upper : (b : ℕ) → is_digit b ≡ true → is_upper b ≡ false
digit_no_upper b h = apart is_digit is_upper b refl (digit_below b h) h

pub lower_no_upper : (b : ℕ) → is_lower b ≡ true → is_upper b ≡ false
lower_no_upper b h = apart is_lower is_upper b refl (lower_below b h) h

-- no byte of this class stands at the front
abbrev pub stops : (ℕ → Bool) → List ℕ → Bool
stops test [] = true
stops test (byte ∷ rest) = not (test byte)

pub run_all : (p : ℕ → Bool) (xs : List ℕ) → list_all p (take (prefix_len p xs) xs) ≡ true
run_all p [] = refl
run_all p (x ∷ xs) =
    let n = prefix_len p xs in
    let e : 1 + n ≡ suc n = omega arith in
    elim (cases_Bool (p x)) [
      | inl holds ↦ rw (holds, e) (rw holds (run_all p xs))
      | inr other ↦ rw other refl
    ]

pub run_all_at : (p : ℕ → Bool) (xs : List ℕ) (n : ℕ) → n ≡ prefix_len p xs → list_all p (take n xs) ≡ true
run_all_at p xs n e = rw e (run_all p xs)

pub run_stops : (p : ℕ → Bool) (xs : List ℕ) → stops p (drop (prefix_len p xs) xs) ≡ true
run_stops p [] = refl
run_stops p (x ∷ xs) =
    let n = prefix_len p xs in
    let e : 1 + n ≡ suc n = omega arith in
    elim (cases_Bool (p x)) [
      | inl holds ↦ rw (holds, e) (run_stops p xs)
      | inr other ↦ rw other (rw other refl)
    ]

-- a run that is followed by more of its class is no whole run
pub run_whole : (p : ℕ → Bool) (xs more after : List ℕ) → stops p (more ++ after) ≡ true → list_all p (xs ++ more) ≡ true → more ≡ []
run_whole p xs [] after s h = refl
run_whole p xs (y ∷ ys) after s h =
    let parts = and_parts (list_all p xs) (list_all p (y ∷ ys)) (sym (list_all-append p xs (y ∷ ys)) ∙ h) in
    let first = and_parts (p y) (list_all p ys) parts.1 in
    absurd (grind (arith, s, first.0))
