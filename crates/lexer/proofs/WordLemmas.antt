-- The words `#const` and `#show`.
use Rattle.std.proofs.Common.{◌≡◌, ℕ, ◌<◌, Bool, true, false, ◌⊎◌, List, [], ◌∷◌, ◌++◌, length, take, drop, get_or, refl, sym, ap, subst, ◌∙◌, inl, inr, arith, codes}
use Rattle.std.specs.Cmp.Lexicographic.{pointwise}
use Rattle.std.specs.Prelude.{nat_eq}
use Rattle.std.proofs.lemmas.Bool.{both_ways, false_from_ne_true}
use Rattle.std.proofs.lemmas.Bool.Decides.{Decides-eqb}
use Rattle.std.proofs.lemmas.Slice.Eq.{starts_is}
use Rattle.lexer.specs.declared.token.TokenKind.{TokenKind}
use Rattle.lexer.specs.declared.token.TokenKind.TheVariants.{Num, Id, Var, Anon, Text, NotWord, ConstWord, ShowWord, Mark}
use Rattle.lexer.specs.declared.token.LexCause.TheVariants.{BadCharacter}
use Rattle.lexer.specs.declared.lexeme.Lexeme.TheVariants.{Single}
use Rattle.lexer.specs.Forms.{has_form, is_mark}
use Rattle.lexer.specs.Parts.{IsLongest}
use Rattle.lexer.specs.Faults.{HasFault}
use Rattle.lexer.specs.inner.Lexeme.{IsLexeme}
use Rattle.lexer.proofs.FormLemmas.{bytes_are}
use Rattle.lexer.proofs.LexemeLemmas.{token_lexeme}
use Rattle.lexer.proofs.MarkLemmas.{from_first}

-- what begins with `#` is one of the two words, if a token
pub hash_word : (kind : TokenKind) (bs : List ℕ) → has_form kind (35 ∷ bs) ≡ true → (35 ∷ bs ≡ codes "#const") ⊎ (35 ∷ bs ≡ codes "#show")
hash_word Num bs h = cc
hash_word Id bs h = cc
hash_word Var bs h = cc
hash_word Anon bs h = cc
hash_word Text bs h = cc
hash_word NotWord bs h = cc
hash_word ConstWord bs h = inl (bytes_are (35 ∷ bs) (codes "#const") h)
hash_word ShowWord bs h = inr (bytes_are (35 ∷ bs) (codes "#show") h)
hash_word Mark bs h = mark bs h
  where
    mark : (cs : List ℕ) → is_mark (35 ∷ cs) ≡ true → (35 ∷ bs ≡ codes "#const") ⊎ (35 ∷ bs ≡ codes "#show")
    mark [] m = cc
    mark (c ∷ []) m = cc
    mark (c ∷ d ∷ cs) m = cc

pub const_lexeme : (rest behind : List ℕ) → rest ≡ codes "#const" ++ behind → IsLexeme rest (Single ConstWord 6)
const_lexeme rest behind e = token_lexeme ConstWord (codes "#const") behind rest 6 e (record { form = refl; longest = longest }) refl refl
  where
    longest : IsLongest (codes "#const") behind
    longest kind more after e f =
        elim (hash_word kind ((99 ∷ 111 ∷ 110 ∷ 115 ∷ 116 ∷ []) ++ more) f) [
          | inl w ↦ ap (λ (l : List ℕ). drop 6 l) w
          | inr w ↦ absurd (let n : 99 ≡ 115 = ap (λ (l : List ℕ). get_or l 1 0) w in omega arith)
        ]

pub show_lexeme : (rest behind : List ℕ) → rest ≡ codes "#show" ++ behind → IsLexeme rest (Single ShowWord 5)
show_lexeme rest behind e = token_lexeme ShowWord (codes "#show") behind rest 5 e (record { form = refl; longest = longest }) refl refl
  where
    longest : IsLongest (codes "#show") behind
    longest kind more after e f =
        elim (hash_word kind ((115 ∷ 104 ∷ 111 ∷ 119 ∷ []) ++ more) f) [
          | inl w ↦ absurd (let n : 115 ≡ 99 = ap (λ (l : List ℕ). get_or l 1 0) w in omega arith)
          | inr w ↦ ap (λ (l : List ℕ). drop 5 l) w
        ]

-- what a test of the front says
pub starts : (rest word : List ℕ) (found : Bool) → found ≡ pointwise nat_eq word (take (length word) rest) → found ≡ true → rest ≡ word ++ drop (length word) rest
starts rest word found e h = (starts_is Decides-eqb rest word found e).0 h

pub word_fault : (rest : List ℕ) (is_const is_show : Bool) → 0 < length rest → get_or rest 0 0 ≡ 35
    → is_const ≡ pointwise nat_eq (codes "#const") (take 6 rest) → is_const ≡ false
    → is_show ≡ pointwise nat_eq (codes "#show") (take 5 rest) → is_show ≡ false
    → HasFault BadCharacter 0 rest
word_fault [] is_const is_show l q c1 c2 s1 s2 = absurd (omega arith)
word_fault (b ∷ r) is_const is_show l q c1 c2 s1 s2 =
    let B : ℕ → Type 0 = λ x. HasFault BadCharacter 0 (x ∷ r) in
    subst B (sym q) (inl (refl, record { byte = 35; behind = r; begins = refl; other = refl; none = from_first 35 r none }))
  where
    rest_is : b ∷ r ≡ 35 ∷ r
    rest_is = ap (λ x. x ∷ r) q

    none : (kind : TokenKind) (front behind : List ℕ) → r ≡ front ++ behind → has_form kind (35 ∷ front) ≡ false
    none kind front behind e =
        let whole : b ∷ r ≡ (35 ∷ front) ++ behind = rest_is ∙ ap (λ xs. 35 ∷ xs) e in
        false_from_ne_true (has_form kind (35 ∷ front)) (λ f.
        elim (hash_word kind front f) [
          | inl w ↦ both_ways is_const c2 ((starts_is Decides-eqb (b ∷ r) (codes "#const") is_const c1).1 behind (whole ∙ ap (λ xs. xs ++ behind) w))
          | inr w ↦ both_ways is_show s2 ((starts_is Decides-eqb (b ∷ r) (codes "#show") is_show s1).1 behind (whole ∙ ap (λ xs. xs ++ behind) w))
        ])
