-- A word's text is the token that begins there, where the byte behind it does not join it.
use Rattle.std.proofs.Common.{map, subst, ◌≡◌, ℕ, Bool, true, false, ◌==◌, ◌||◌, ◌&&◌, not, List, [], ◌∷◌, ◌++◌, codes, drop, get_or, ◌⊎◌, inl, inr, refl, sym, ap, ◌∙◌, arith}
use Rattle.std.specs.List.{list_all}
use Rattle.std.proofs.lemmas.Bool.{and_parts}
use Rattle.symbols.specs.Text.{quoted}
use Rattle.lexer.specs.Bytes.{is_digit, is_name_byte, is_lower, is_upper, is_other}
use Rattle.lexer.specs.Forms.{has_form, is_long_mark, is_mark}
use Rattle.lexer.specs.Parts.{IsLongest, BeginsThere, Part, token, Stands, AllStand, parts_text, tokens_of, IsParted}
use Rattle.lexer.specs.declared.token.TokenKind.{TokenKind}
use Rattle.lexer.specs.declared.token.TokenKind.TheVariants.{Id, Text}
use Rattle.lexer.proofs.ByteLemmas.{stops, name_from_lower, name_from_upper}
use Rattle.lexer.proofs.FormLemmas.{id_name, name_all, longest_word, longest_digits}
use Rattle.lexer.proofs.MarkLemmas.{only_mark}
use Rattle.lexer.proofs.StringLemmas.{closes_once, quote_closes}
use Rattle.lexer.proofs.WordLemmas.{hash_word}
use Rattle.grammar.specs.declared.mark.Mark.{Mark}
use Rattle.grammar.specs.declared.mark.Mark.TheVariants.{Dot, Dots, Comma, Semicolon, Colon, Arrow, Open, Close, OpenBrace, CloseBrace, Plus, Minus, Times, Divide, Remainder, At, And, Equal, NotEqual, Less, LessEqual, Greater, GreaterEqual}
use Rattle.grammar.specs.Word.{Word, numeral, name, variable, anonymous, string, negation, const_word, show_word, mark}
use Rattle.grammar.specs.WordText.{mark_text, word_text}
use Rattle.grammar.specs.Standing.{StopsAt, kind_of, IsToken, mark_joins, joins, Piece, solid, gap, piece_text, pieces_text, piece_part, AreApart}

or_none : (x : Bool) → (x || false) ≡ x
or_none true = refl
or_none false = refl

digits_longest : (bytes rest : List ℕ) → has_form (kind_of (numeral 0)) bytes ≡ true → stops is_digit rest ≡ true → IsLongest bytes rest
digits_longest [] rest h s = cc
digits_longest (b ∷ bs) rest h s = longest_digits b bs rest (and_parts (is_digit b) (list_all is_digit bs) h).0 s

run_longest : (bytes rest : List ℕ) → list_all is_name_byte bytes ≡ true → (bytes ≡ [] → ⊥) → stops is_name_byte rest ≡ true → IsLongest bytes rest
run_longest [] rest h some s = absurd (some refl)
run_longest (b ∷ bs) rest h some s = longest_word b bs rest (and_parts (is_name_byte b) (list_all is_name_byte bs) h).0 s

no_id : (bytes : List ℕ) → has_form Id bytes ≡ true → bytes ≡ [] → ⊥
no_id [] h e = cc
no_id (b ∷ bs) h e = cc

no_var : (bytes : List ℕ) → has_form (kind_of (variable [])) bytes ≡ true → bytes ≡ [] → ⊥
no_var [] h e = cc
no_var (b ∷ bs) h e = cc

string_longest : (bytes rest : List ℕ) → has_form Text (34 ∷ bytes) ≡ true → IsLongest (34 ∷ bytes) rest
string_longest bytes rest h kind more after e f = closes_once bytes more false h (quote_closes kind (bytes ++ more) f)

const_longest : (rest : List ℕ) → IsLongest (codes "#const") rest
const_longest rest kind more after e f =
    elim (hash_word kind ((99 ∷ 111 ∷ 110 ∷ 115 ∷ 116 ∷ []) ++ more) f) [
      | inl w ↦ ap (λ (l : List ℕ). drop 6 l) w
      | inr w ↦ absurd (let n : 99 ≡ 115 = ap (λ (l : List ℕ). get_or l 1 0) w in omega arith)
    ]

show_longest : (rest : List ℕ) → IsLongest (codes "#show") rest
show_longest rest kind more after e f =
    elim (hash_word kind ((115 ∷ 104 ∷ 111 ∷ 119 ∷ []) ++ more) f) [
      | inl w ↦ absurd (let n : 115 ≡ 99 = ap (λ (l : List ℕ). get_or l 1 0) w in omega arith)
      | inr w ↦ ap (λ (l : List ℕ). drop 5 l) w
    ]

short_longest : (b : ℕ) (joins_it : ℕ → Bool) (rest : List ℕ) → is_other b ≡ true → ((c : ℕ) → is_long_mark b c ≡ joins_it c) → stops joins_it rest ≡ true → IsLongest (b ∷ []) rest
short_longest b joins_it rest o same s kind [] after e f = refl
short_longest b joins_it rest o same s kind (c ∷ []) after e f =
    let found : joins_it c ≡ true = sym (same c) ∙ only_mark kind b (c ∷ []) o f in
    let left : not (joins_it c) ≡ true = sym (ap (stops joins_it) e) ∙ s in
    let no : not true ≡ true = sym (ap not found) ∙ left in
    absurd cc
short_longest b joins_it rest o same s kind (c ∷ d ∷ more) after e f = let no : false ≡ true = only_mark kind b (c ∷ d ∷ more) o f in absurd cc

long_longest : (b c : ℕ) (rest : List ℕ) → is_other b ≡ true → IsLongest (b ∷ c ∷ []) rest
long_longest b c rest o kind [] after e f = refl
long_longest b c rest o kind (d ∷ more) after e f = let no : false ≡ true = only_mark kind b (c ∷ d ∷ more) o f in absurd cc

mark_longest : (m : Mark) (rest : List ℕ) → stops (mark_joins m) rest ≡ true → IsLongest (mark_text m) rest
mark_longest Dot rest s = short_longest 46 (mark_joins Dot) rest refl (λ c. simp or_none) s
mark_longest Dots rest s = long_longest 46 46 rest refl
mark_longest Comma rest s = short_longest 44 (mark_joins Comma) rest refl (λ c. refl) s
mark_longest Semicolon rest s = short_longest 59 (mark_joins Semicolon) rest refl (λ c. refl) s
mark_longest Colon rest s = short_longest 58 (mark_joins Colon) rest refl (λ c. simp or_none) s
mark_longest Arrow rest s = long_longest 58 45 rest refl
mark_longest Open rest s = short_longest 40 (mark_joins Open) rest refl (λ c. refl) s
mark_longest Close rest s = short_longest 41 (mark_joins Close) rest refl (λ c. refl) s
mark_longest OpenBrace rest s = short_longest 123 (mark_joins OpenBrace) rest refl (λ c. refl) s
mark_longest CloseBrace rest s = short_longest 125 (mark_joins CloseBrace) rest refl (λ c. refl) s
mark_longest Plus rest s = short_longest 43 (mark_joins Plus) rest refl (λ c. refl) s
mark_longest Minus rest s = short_longest 45 (mark_joins Minus) rest refl (λ c. refl) s
mark_longest Times rest s = short_longest 42 (mark_joins Times) rest refl (λ c. refl) s
mark_longest Divide rest s = short_longest 47 (mark_joins Divide) rest refl (λ c. refl) s
mark_longest Remainder rest s = short_longest 92 (mark_joins Remainder) rest refl (λ c. refl) s
mark_longest At rest s = short_longest 64 (mark_joins At) rest refl (λ c. refl) s
mark_longest And rest s = short_longest 38 (mark_joins And) rest refl (λ c. refl) s
mark_longest Equal rest s = short_longest 61 (mark_joins Equal) rest refl (λ c. refl) s
mark_longest NotEqual rest s = long_longest 33 61 rest refl
mark_longest Less rest s = short_longest 60 (mark_joins Less) rest refl (λ c. simp or_none) s
mark_longest LessEqual rest s = long_longest 60 61 rest refl
mark_longest Greater rest s = short_longest 62 (mark_joins Greater) rest refl (λ c. refl) s
mark_longest GreaterEqual rest s = long_longest 62 61 rest refl

word_longest : (w : Word) (rest : List ℕ) → has_form (kind_of w) (word_text w) ≡ true → stops (joins w) rest ≡ true → IsLongest (word_text w) rest
word_longest (numeral n) rest h s = digits_longest (word_text (numeral n)) rest h s
word_longest (name bytes) rest h s = run_longest bytes rest (name_all is_lower bytes name_from_lower (id_name bytes h)) (no_id bytes h) s
word_longest (variable bytes) rest h s = run_longest bytes rest (name_all is_upper bytes name_from_upper h) (no_var bytes h) s
word_longest anonymous rest h s = longest_word 95 [] rest refl s
word_longest (string bytes) rest h s = string_longest (quoted bytes ++ codes "\"") rest h
word_longest negation rest h s = longest_word 110 (111 ∷ 116 ∷ []) rest refl s
word_longest const_word rest h s = const_longest rest
word_longest show_word rest h s = show_longest rest
word_longest (mark m) rest h s = mark_longest m rest s

-- a word's text stands as its token where the byte behind it does not join it
pub word_stands : (w : Word) (rest : List ℕ) → IsToken w → stops (joins w) rest ≡ true → Stands (token (kind_of w) (word_text w)) rest
word_stands w rest is s = (record { form = is.0; longest = word_longest w rest is.0 s }, is.1)

-- ---- pieces
stops_there : (test : ℕ → Bool) (rest : List ℕ) → StopsAt test rest → stops test rest ≡ true
stops_there test [] h = refl
stops_there test (b ∷ rest) h = ap not h

pieces_parts : (pieces : List Piece) → parts_text (map piece_part pieces) [] ≡ pieces_text pieces
pieces_parts [] = refl
pieces_parts (solid w ∷ pieces) = ap (λ l. word_text w ++ l) (pieces_parts pieces)
pieces_parts (gap ∷ pieces) = ap (λ l. 32 ∷ l) (pieces_parts pieces)

-- each word of pieces that are apart stands as its token
pub pieces_stand : (pieces : List Piece) → AreApart pieces → AllStand (map piece_part pieces) []
pieces_stand [] h = tt
pieces_stand (solid w ∷ pieces) h =
    (subst (Stands (token (kind_of w) (word_text w))) (sym (pieces_parts pieces)) (word_stands w (pieces_text pieces) h.0 (stops_there (joins w) (pieces_text pieces) h.1)), pieces_stand pieces h.2)
pieces_stand (gap ∷ pieces) h = (refl, pieces_stand pieces h)

-- the text of pieces that are apart is parted into their tokens
pub pieces_parted : (pieces : List Piece) → AreApart pieces → IsParted (pieces_text pieces) (tokens_of 0 (map piece_part pieces))
pieces_parted pieces h = record { parts = map piece_part pieces; whole = sym (pieces_parts pieces); stand = pieces_stand pieces h; are = refl }
