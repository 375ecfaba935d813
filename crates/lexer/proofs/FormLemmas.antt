-- What the first byte of a token tells of its form.
use Rattle.std.proofs.Common.{◌≡◌, ℕ, ◌<◌, Bool, true, false, not, List, [], ◌∷◌, ◌++◌, length, get_or, refl, sym, ap, subst, inl, inr, arith, codes}
use Rattle.std.specs.Bool.{◌==◌}
use Rattle.std.specs.List.{list_all}
use Rattle.std.specs.Str.{bytes_eq}
use Rattle.std.proofs.lemmas.Bool.{and_parts, and_from, and_left, cases_Bool, both_ways}
use Rattle.std.proofs.lemmas.Slice.Eq.{bytes_eq-Decides}
use Rattle.lexer.specs.declared.token.TokenKind.{TokenKind}
use Rattle.lexer.specs.declared.token.TokenKind.TheVariants.{Num, Id, Var, Anon, Text, NotWord, ConstWord, ShowWord, Mark}
use Rattle.lexer.specs.Bytes.{is_digit, is_lower, is_upper, is_underscore, is_name_byte}
use Rattle.lexer.specs.Forms.{has_form, is_name, is_string, closes, is_mark}
use Rattle.lexer.specs.Parts.{IsLongest}
use Rattle.lexer.proofs.ByteLemmas.{stops, run_whole, name_from_lower, name_from_upper, name_from_digit, name_from_underscore, name_no_short, name_no_long, name_no_quote, digit_no_underscore, digit_no_lower, digit_no_upper}

pub bytes_are : (xs ys : List ℕ) → bytes_eq xs ys ≡ true → xs ≡ ys
bytes_are xs ys h = (bytes_eq-Decides xs ys).0 h

-- the first byte of bytes that are a word
pub first_is : (b : ℕ) (bs word : List ℕ) → bytes_eq (b ∷ bs) word ≡ true → b ≡ get_or word 0 0
first_is b bs word h = ap (λ (l : List ℕ). get_or l 0 0) (bytes_are (b ∷ bs) word h)

-- bytes that begin with a byte of a class are no word that begins otherwise
pub no_word : (p : ℕ → Bool) (b : ℕ) (bs word : List ℕ) → p b ≡ true → p (get_or word 0 0) ≡ false → bytes_eq (b ∷ bs) word ≡ true → ⊥
no_word p b bs word here there h =
    let P : ℕ → Type 0 = λ x. p x ≡ true in
    both_ways (p (get_or word 0 0)) there (subst P (first_is b bs word h) here)

-- a name has one letter at its head, and is not the word `not`
pub id_name : (bytes : List ℕ) → has_form Id bytes ≡ true → is_name is_lower bytes ≡ true
id_name bytes h = (and_parts (is_name is_lower bytes) (not (bytes_eq bytes (codes "not"))) h).0

pub list_all-weaker : (p q : ℕ → Bool) (xs : List ℕ) → ((x : ℕ) → p x ≡ true → q x ≡ true) → list_all p xs ≡ true → list_all q xs ≡ true
list_all-weaker p q [] w h = refl
list_all-weaker p q (x ∷ xs) w h =
    let parts = and_parts (p x) (list_all p xs) h in
    and_from (q x) (list_all q xs) (w x parts.0) (list_all-weaker p q xs w parts.1)

-- a name is name bytes alone
pub name_all : (f : ℕ → Bool) (bytes : List ℕ) → ((b : ℕ) → f b ≡ true → is_name_byte b ≡ true) → is_name f bytes ≡ true → list_all is_name_byte bytes ≡ true
name_all f [] w h = refl
name_all f (b ∷ bs) w h =
    elim (cases_Bool (is_underscore b)) [
      | inl holds ↦ and_from (is_name_byte b) (list_all is_name_byte bs) (name_from_underscore b holds) (name_all f bs w (rw holds at h))
      | inr other ↦
          let parts = and_parts (f b) (list_all is_name_byte bs) (rw other at h) in
          and_from (is_name_byte b) (list_all is_name_byte bs) (w b parts.0) parts.1
    ]

pub no_form_nil : (kind : TokenKind) → has_form kind [] ≡ false
no_form_nil Num = refl
no_form_nil Id = refl
no_form_nil Var = refl
no_form_nil Anon = refl
no_form_nil Text = refl
no_form_nil NotWord = refl
no_form_nil ConstWord = refl
no_form_nil ShowWord = refl
no_form_nil Mark = refl

pub form_some : (kind : TokenKind) (bytes : List ℕ) → has_form kind bytes ≡ true → 0 < length bytes
form_some kind [] f = absurd (both_ways (has_form kind []) (no_form_nil kind) f)
form_some kind (x ∷ xs) f = omega arith

-- a mark begins with no name byte
pub mark_no_name : (b : ℕ) (bs : List ℕ) → is_name_byte b ≡ true → is_mark (b ∷ bs) ≡ false
mark_no_name b [] h = name_no_short b h
mark_no_name b (c ∷ []) h = name_no_long b c h
mark_no_name b (c ∷ d ∷ bs) h = refl

pub string_no_name : (b : ℕ) (bs : List ℕ) → is_name_byte b ≡ true → is_string (b ∷ bs) ≡ false
string_no_name b bs h = and_left (b == 34) (closes bs false) (name_no_quote b h)

-- a token that begins with a name byte has name bytes alone
pub word_all : (kind : TokenKind) (b : ℕ) (bs : List ℕ) → is_name_byte b ≡ true → has_form kind (b ∷ bs) ≡ true → list_all is_name_byte (b ∷ bs) ≡ true
word_all Num b bs n h = list_all-weaker is_digit is_name_byte (b ∷ bs) name_from_digit h
word_all Id b bs n h = name_all is_lower (b ∷ bs) name_from_lower (id_name (b ∷ bs) h)
word_all Var b bs n h = name_all is_upper (b ∷ bs) name_from_upper h
word_all Anon b bs n h =
    let P : List ℕ → Type 0 = λ l. list_all is_name_byte l ≡ true in
    subst P (sym (bytes_are (b ∷ bs) (codes "_") h)) refl
word_all Text b bs n h = absurd (both_ways (is_string (b ∷ bs)) (string_no_name b bs n) h)
word_all NotWord b bs n h =
    let P : List ℕ → Type 0 = λ l. list_all is_name_byte l ≡ true in
    subst P (sym (bytes_are (b ∷ bs) (codes "not") h)) refl
word_all ConstWord b bs n h = absurd (no_word is_name_byte b bs (codes "#const") n refl h)
word_all ShowWord b bs n h = absurd (no_word is_name_byte b bs (codes "#show") n refl h)
word_all Mark b bs n h = absurd (both_ways (is_mark (b ∷ bs)) (mark_no_name b bs n) h)

-- a name does not begin with a digit
pub name_no_digit : (f : ℕ → Bool) (b : ℕ) (bs : List ℕ) → is_digit b ≡ true → f b ≡ false → is_name f (b ∷ bs) ≡ false
name_no_digit f b bs d n = rw (digit_no_underscore b d) (rw n refl)

-- a token that begins with a digit is a run of digits
pub digit_all : (kind : TokenKind) (b : ℕ) (bs : List ℕ) → is_digit b ≡ true → has_form kind (b ∷ bs) ≡ true → list_all is_digit (b ∷ bs) ≡ true
digit_all Num b bs d h = h
digit_all Id b bs d h = absurd (both_ways (is_name is_lower (b ∷ bs)) (name_no_digit is_lower b bs d (digit_no_lower b d)) (id_name (b ∷ bs) h))
digit_all Var b bs d h = absurd (both_ways (is_name is_upper (b ∷ bs)) (name_no_digit is_upper b bs d (digit_no_upper b d)) h)
digit_all Anon b bs d h = absurd (no_word is_digit b bs (codes "_") d refl h)
digit_all Text b bs d h = absurd (both_ways (is_string (b ∷ bs)) (string_no_name b bs (name_from_digit b d)) h)
digit_all NotWord b bs d h = absurd (no_word is_digit b bs (codes "not") d refl h)
digit_all ConstWord b bs d h = absurd (no_word is_digit b bs (codes "#const") d refl h)
digit_all ShowWord b bs d h = absurd (no_word is_digit b bs (codes "#show") d refl h)
digit_all Mark b bs d h = absurd (both_ways (is_mark (b ∷ bs)) (mark_no_name b bs (name_from_digit b d)) h)

-- a whole run of name bytes is the longest token, if it is one
pub longest_word : (b : ℕ) (bs rest : List ℕ) → is_name_byte b ≡ true → stops is_name_byte rest ≡ true → IsLongest (b ∷ bs) rest
longest_word b bs rest n s kind more after e h =
    run_whole is_name_byte (b ∷ bs) more after (rw e at s) (word_all kind b (bs ++ more) n h)

-- so is a whole run of digits
pub longest_digits : (b : ℕ) (bs rest : List ℕ) → is_digit b ≡ true → stops is_digit rest ≡ true → IsLongest (b ∷ bs) rest
longest_digits b bs rest d s kind more after e h =
    run_whole is_digit (b ∷ bs) more after (rw e at s) (digit_all kind b (bs ++ more) d h)
