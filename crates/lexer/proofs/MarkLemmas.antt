-- Marks, and where no token begins.
use Rattle.std.proofs.Common.{◌≡◌, ℕ, ◌<◌, Bool, true, false, ◌||◌, List, [], ◌∷◌, ◌++◌, length, get_or, refl, subst, inl, arith, codes}
use Rattle.std.specs.Bool.{◌==◌}
use Rattle.std.specs.List.{list_all}
use Rattle.std.proofs.lemmas.Bool.{and_left, or_parts, both_ways, false_from_ne_true, not-true}
use Rattle.lexer.specs.declared.token.TokenKind.{TokenKind}
use Rattle.lexer.specs.declared.token.TokenKind.TheVariants.{Num, Id, Var, Anon, Text, NotWord, ConstWord, ShowWord, Mark}
use Rattle.lexer.specs.declared.token.LexCause.TheVariants.{BadCharacter}
use Rattle.lexer.specs.declared.lexeme.Lexeme.TheVariants.{Single}
use Rattle.lexer.specs.Bytes.{is_blank, is_digit, is_lower, is_upper, is_underscore, is_name_first, is_other}
use Rattle.lexer.specs.Forms.{has_form, is_name, is_digits, is_string, closes, is_mark, is_short_mark}
use Rattle.lexer.specs.Parts.{IsLongest}
use Rattle.lexer.specs.Faults.{BeginsNoToken, HasFault}
use Rattle.lexer.specs.inner.Lexeme.{IsLexeme, begins_long_mark}
use Rattle.lexer.proofs.FormLemmas.{no_form_nil, no_word, id_name}
use Rattle.lexer.proofs.LexemeLemmas.{token_lexeme}

-- what a byte is not that begins nothing else
pub record Others (b : ℕ) : Type 0 where
  pub blank : is_blank b ≡ false
  pub digit : is_digit b ≡ false
  pub lower : is_lower b ≡ false
  pub upper : is_upper b ≡ false
  pub underscore : is_underscore b ≡ false
  pub quote : (b == 34) ≡ false
  pub hash : (b == 35) ≡ false
  pub percent : (b == 37) ≡ false

pub others : (b : ℕ) → is_other b ≡ true → Others b
others b h =
    let none = not-true (is_blank b || is_digit b || is_name_first b || b == 34 || b == 35 || b == 37) h in
    let p5 = or_parts (is_blank b || is_digit b || is_name_first b || b == 34 || b == 35) (b == 37) none in
    let p4 = or_parts (is_blank b || is_digit b || is_name_first b || b == 34) (b == 35) p5.0 in
    let p3 = or_parts (is_blank b || is_digit b || is_name_first b) (b == 34) p4.0 in
    let p2 = or_parts (is_blank b || is_digit b) (is_name_first b) p3.0 in
    let p1 = or_parts (is_blank b) (is_digit b) p2.0 in
    let n2 = or_parts (is_lower b || is_upper b) (is_underscore b) p2.1 in
    let n1 = or_parts (is_lower b) (is_upper b) n2.0 in
    record { blank = p1.0; digit = p1.1; lower = n1.0; upper = n1.1; underscore = n2.1; quote = p3.1; hash = p4.1; percent = p5.1 }

no_name_first : (f : ℕ → Bool) (b : ℕ) (bs : List ℕ) → is_underscore b ≡ false → f b ≡ false → is_name f (b ∷ bs) ≡ false
no_name_first f b bs u n = rw u (rw n refl)

-- what begins nothing else begins a mark, if a token
pub only_mark : (kind : TokenKind) (b : ℕ) (bs : List ℕ) → is_other b ≡ true → has_form kind (b ∷ bs) ≡ true → is_mark (b ∷ bs) ≡ true
only_mark Num b bs o h = absurd (both_ways (is_digits (b ∷ bs)) (and_left (is_digit b) (list_all is_digit bs) (others b o).digit) h)
only_mark Id b bs o h = absurd (both_ways (is_name is_lower (b ∷ bs)) (no_name_first is_lower b bs (others b o).underscore (others b o).lower) (id_name (b ∷ bs) h))
only_mark Var b bs o h = absurd (both_ways (is_name is_upper (b ∷ bs)) (no_name_first is_upper b bs (others b o).underscore (others b o).upper) h)
only_mark Anon b bs o h = absurd (no_word is_other b bs (codes "_") o refl h)
only_mark Text b bs o h = absurd (both_ways (is_string (b ∷ bs)) (and_left (b == 34) (closes bs false) (others b o).quote) h)
only_mark NotWord b bs o h = absurd (no_word is_other b bs (codes "not") o refl h)
only_mark ConstWord b bs o h = absurd (no_word is_other b bs (codes "#const") o refl h)
only_mark ShowWord b bs o h = absurd (no_word is_other b bs (codes "#show") o refl h)
only_mark Mark b bs o h = h

pub long_lexeme : (rest : List ℕ) → is_other (get_or rest 0 0) ≡ true → begins_long_mark rest ≡ true → IsLexeme rest (Single Mark 2)
long_lexeme [] o h = cc
long_lexeme (b ∷ []) o h = cc
long_lexeme (b ∷ c ∷ r) o h = token_lexeme Mark (b ∷ c ∷ []) r (b ∷ c ∷ r) 2 refl (record { form = h; longest = go }) refl refl
  where
    go : IsLongest (b ∷ c ∷ []) r
    go kind [] after e f = refl
    go kind (y ∷ ys) after e f = absurd (both_ways (is_mark (b ∷ c ∷ y ∷ ys)) refl (only_mark kind b (c ∷ y ∷ ys) o f))

-- a front of two bytes or more is no mark
no_long : (b y : ℕ) (ys : List ℕ) (behind : List ℕ) → begins_long_mark (b ∷ y ∷ ys ++ behind) ≡ false → is_mark (b ∷ y ∷ ys) ≡ false
no_long b y [] behind h = h
no_long b y (z ∷ zs) behind h = refl

pub short_lexeme : (rest : List ℕ) → 0 < length rest → is_other (get_or rest 0 0) ≡ true → begins_long_mark rest ≡ false → is_short_mark (get_or rest 0 0) ≡ true
    → IsLexeme rest (Single Mark 1)
short_lexeme [] l o k h = absurd (omega arith)
short_lexeme (b ∷ r) l o k h = token_lexeme Mark (b ∷ []) r (b ∷ r) 1 refl (record { form = h; longest = go }) refl refl
  where
    go : IsLongest (b ∷ []) r
    go kind [] after e f = refl
    go kind (y ∷ ys) after e f =
        let longer : begins_long_mark (b ∷ y ∷ ys ++ after) ≡ false = subst (λ (l : List ℕ). begins_long_mark (b ∷ l) ≡ false) e k in
        absurd (both_ways (is_mark (b ∷ y ∷ ys)) (no_long b y ys after longer) (only_mark kind b (y ∷ ys) o f))

-- where no mark is, and nothing else may begin, no token begins
no_mark_token : (b : ℕ) (r : List ℕ) → is_other b ≡ true → begins_long_mark (b ∷ r) ≡ false → is_short_mark b ≡ false
    → (kind : TokenKind) (front : List ℕ) → (behind : List ℕ) → r ≡ front ++ behind → has_form kind (b ∷ front) ≡ false
no_mark_token b r o k h kind [] behind e = false_from_ne_true (has_form kind (b ∷ [])) (λ f. both_ways (is_short_mark b) h (only_mark kind b [] o f))
no_mark_token b r o k h kind (y ∷ ys) behind e =
    let longer : begins_long_mark (b ∷ y ∷ ys ++ behind) ≡ false = subst (λ (l : List ℕ). begins_long_mark (b ∷ l) ≡ false) e k in
    false_from_ne_true (has_form kind (b ∷ y ∷ ys)) (λ f. both_ways (is_mark (b ∷ y ∷ ys)) (no_long b y ys behind longer) (only_mark kind b (y ∷ ys) o f))

-- no token begins where none does that has one byte at least
pub from_first : (b : ℕ) (r : List ℕ) → ((kind : TokenKind) (front behind : List ℕ) → r ≡ front ++ behind → has_form kind (b ∷ front) ≡ false) → BeginsNoToken (b ∷ r)
from_first b r w kind [] behind e = no_form_nil kind
from_first b r w kind (x ∷ xs) behind e =
    let same : b ≡ x = cc in
    let next : r ≡ xs ++ behind = cc in
    subst (λ (y : ℕ). has_form kind (y ∷ xs) ≡ false) same (w kind xs behind next)

other_apart : (b : ℕ) → is_other b ≡ true → (is_blank b || b == 34 || b == 37) ≡ false
other_apart b o =
    let n = others b o in
    rw (n.blank, n.quote, n.percent) refl

pub mark_fault : (rest : List ℕ) → 0 < length rest → is_other (get_or rest 0 0) ≡ true → begins_long_mark rest ≡ false → is_short_mark (get_or rest 0 0) ≡ false → HasFault BadCharacter 0 rest
mark_fault [] l o k h = absurd (omega arith)
mark_fault (b ∷ r) l o k h =
    inl (refl, record { byte = b; behind = r; begins = refl; other = other_apart b o; none = from_first b r (no_mark_token b r o k h) })
