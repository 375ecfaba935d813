-- The name at the front, or the underscores there.
use Rattle.std.proofs.Common.{◌≡◌, ℕ, zero, suc, ◌+◌, ◌<◌, Bool, true, false, not, List, [], ◌∷◌, ◌++◌, length, take, drop, get_or, Some, None, refl, sym, ap, subst, ◌∙◌, inl, inr, ◌⊎◌, cond, arith, codes}
use Rattle.std.specs.List.{list_all, prefix_len}
use Rattle.std.specs.Str.{bytes_eq}
use Rattle.std.proofs.lemmas.Bool.{and_from, cases_Bool, both_ways, not_from_false, cond-true, cond-false, eqb-true}
use Rattle.std.proofs.lemmas.Slice.Eq.{bytes_eq-Decides}
use Rattle.lexer.specs.declared.token.TokenKind.{TokenKind}
use Rattle.lexer.specs.declared.token.TokenKind.TheVariants.{Num, Id, Var, Anon, Text, NotWord, ConstWord, ShowWord, Mark}
use Rattle.lexer.specs.declared.token.Token.{Token}
use Rattle.lexer.specs.declared.lexeme.Lexeme.TheVariants.{Single, Anons}
use Rattle.lexer.specs.Bytes.{is_lower, is_upper, is_underscore, is_name_byte, is_name_first}
use Rattle.lexer.specs.Forms.{has_form, is_name}
use Rattle.lexer.specs.Parts.{Part, token, parts_text, tokens_of, AllStand, IsLongest}
use Rattle.lexer.specs.inner.Lexeme.{IsLexeme, anon_tokens, letter_kind, name_kind, word_kind}
use Rattle.lexer.proofs.ByteLemmas.{run_all, name_from_lower, name_from_upper, name_from_underscore}
use Rattle.lexer.proofs.FormLemmas.{longest_word, id_name}
use Rattle.lexer.proofs.LexemeLemmas.{run_lexeme}

-- underscores stand at the front, and a first letter behind them
abbrev pub begins_name : (ℕ → Bool) → List ℕ → Bool
begins_name is_first [] = false
begins_name is_first (byte ∷ rest) = cond (is_underscore byte) (begins_name is_first rest) (is_first byte)

-- a name stands at the front where its first letter does
pub name_front : (f : ℕ → Bool) → ((b : ℕ) → f b ≡ true → is_name_byte b ≡ true) → (rest : List ℕ) → begins_name f rest ≡ true
    → is_name f (take (prefix_len is_name_byte rest) rest) ≡ true
name_front f w [] h = cc
name_front f w (b ∷ r) h =
    let n = prefix_len is_name_byte r in
    let e : 1 + n ≡ suc n = omega arith in
    elim (cases_Bool (is_underscore b)) [
      | inl holds ↦
          let inner : begins_name f r ≡ true = rw holds at h in
          rw (name_from_underscore b holds, e) (rw holds (name_front f w r inner))
      | inr other ↦
          let first : f b ≡ true = rw other at h in
          rw (w b first, e) (rw other (and_from (f b) (list_all is_name_byte (take n r)) first (run_all is_name_byte r)))
    ]

-- and no name where it does not
pub no_name : (f : ℕ → Bool) (front behind : List ℕ) → begins_name f (front ++ behind) ≡ false → is_name f front ≡ false
no_name f [] behind h = refl
no_name f (b ∷ bs) behind h =
    elim (cases_Bool (is_underscore b)) [
      | inl holds ↦ rw holds (no_name f bs behind (rw holds at h))
      | inr other ↦ rw other (rw (rw other at h) refl)
    ]

letter_lower : (b : ℕ) → letter_kind b ≡ Some Id → is_lower b ≡ true
letter_lower b h =
    elim (cases_Bool (is_lower b)) [
      | inl holds ↦ holds
      | inr other ↦
          elim (cases_Bool (is_upper b)) [
            | inl upper ↦ let e : Some Var ≡ Some Id = sym (letter_is b other upper) ∙ h in cc
            | inr none ↦ let e : None ≡ Some Id = sym (letter_none b other none) ∙ h in cc
          ]
    ]
  where
    letter_is : (b : ℕ) → is_lower b ≡ false → is_upper b ≡ true → letter_kind b ≡ Some Var
    letter_is b l u = rw l (rw u refl)

    letter_none : (b : ℕ) → is_lower b ≡ false → is_upper b ≡ false → letter_kind b ≡ None
    letter_none b l u = rw l (rw u refl)

letter_upper : (b : ℕ) → letter_kind b ≡ Some Var → is_upper b ≡ true
letter_upper b h =
    elim (cases_Bool (is_lower b)) [
      | inl lower ↦ let e : Some Id ≡ Some Var = sym (letter_is b lower) ∙ h in cc
      | inr other ↦
          elim (cases_Bool (is_upper b)) [
            | inl upper ↦ upper
            | inr none ↦ let e : None ≡ Some Var = sym (letter_none b other none) ∙ h in cc
          ]
    ]
  where
    letter_is : (b : ℕ) → is_lower b ≡ true → letter_kind b ≡ Some Id
    letter_is b l = rw l refl

    letter_none : (b : ℕ) → is_lower b ≡ false → is_upper b ≡ false → letter_kind b ≡ None
    letter_none b l u = rw l (rw u refl)

letter_other : (b : ℕ) → letter_kind b ≡ None → (is_lower b ≡ false) × (is_upper b ≡ false)
letter_other b h =
    elim (cases_Bool (is_lower b)) [
      | inl lower ↦ let e : Some Id ≡ None = sym (letter_is b lower) ∙ h in cc
      | inr other ↦
          elim (cases_Bool (is_upper b)) [
            | inl upper ↦ let e : Some Var ≡ None = sym (letter_too b other upper) ∙ h in cc
            | inr none ↦ (other, none)
          ]
    ]
  where
    letter_is : (b : ℕ) → is_lower b ≡ true → letter_kind b ≡ Some Id
    letter_is b l = rw l refl

    letter_too : (b : ℕ) → is_lower b ≡ false → is_upper b ≡ true → letter_kind b ≡ Some Var
    letter_too b l u = rw l (rw u refl)

-- what the kind of name says of the first letter
kind_name : (kind : TokenKind) (f : ℕ → Bool) → ((b : ℕ) → letter_kind b ≡ Some kind → f b ≡ true) → (rest : List ℕ) → name_kind rest ≡ Some kind → begins_name f rest ≡ true
kind_name kind f w [] h = cc
kind_name kind f w (b ∷ r) h =
    elim (cases_Bool (is_underscore b)) [
      | inl holds ↦ rw holds (kind_name kind f w r (rw holds at h))
      | inr other ↦ rw other (w b (rw other at h))
    ]

kind_none : (f : ℕ → Bool) → ((b : ℕ) → letter_kind b ≡ None → f b ≡ false) → (rest : List ℕ) → name_kind rest ≡ None → begins_name f rest ≡ false
kind_none f w [] h = refl
kind_none f w (b ∷ r) h =
    elim (cases_Bool (is_underscore b)) [
      | inl holds ↦ rw holds (kind_none f w r (rw holds at h))
      | inr other ↦ rw other (w b (rw other at h))
    ]

letter_two : (b : ℕ) (kind : TokenKind) → letter_kind b ≡ Some kind → (kind ≡ Id) ⊎ (kind ≡ Var)
letter_two b kind h =
    elim (cases_Bool (is_lower b)) [
      | inl lower ↦ let e : Some Id ≡ Some kind = sym (letter_is b lower) ∙ h in inl (let k : kind ≡ Id = cc in k)
      | inr other ↦
          elim (cases_Bool (is_upper b)) [
            | inl upper ↦ let e : Some Var ≡ Some kind = sym (letter_too b other upper) ∙ h in inr (let k : kind ≡ Var = cc in k)
            | inr none ↦ let e : None ≡ Some kind = sym (letter_none b other none) ∙ h in cc
          ]
    ]
  where
    letter_is : (b : ℕ) → is_lower b ≡ true → letter_kind b ≡ Some Id
    letter_is b l = rw l refl

    letter_too : (b : ℕ) → is_lower b ≡ false → is_upper b ≡ true → letter_kind b ≡ Some Var
    letter_too b l u = rw l (rw u refl)

    letter_none : (b : ℕ) → is_lower b ≡ false → is_upper b ≡ false → letter_kind b ≡ None
    letter_none b l u = rw l (rw u refl)

kind_two : (rest : List ℕ) (kind : TokenKind) → name_kind rest ≡ Some kind → (kind ≡ Id) ⊎ (kind ≡ Var)
kind_two [] kind h = cc
kind_two (b ∷ r) kind h =
    elim (cases_Bool (is_underscore b)) [
      | inl holds ↦ kind_two r kind (rw holds at h)
      | inr other ↦ letter_two b kind (rw other at h)
    ]

-- the word `not` begins with a small letter
not_lower : (rest : List ℕ) (n : ℕ) → bytes_eq (take n rest) (codes "not") ≡ true → name_kind rest ≡ Some Var → ⊥
not_lower [] zero e h = cc
not_lower [] (suc n) e h = cc
not_lower (b ∷ r) zero e h = cc
not_lower (b ∷ r) (suc n) e h =
    let first : b ≡ 110 = ap (λ (l : List ℕ). get_or l 0 0) ((bytes_eq-Decides (b ∷ take n r) (codes "not")).0 e) in
    let P : ℕ → Type 0 = λ x. name_kind (x ∷ r) ≡ Some Var in
    let v : Some Id ≡ Some Var = subst P first h in
    cc

-- the name at the front
pub name_lexeme : (rest : List ℕ) (n : ℕ) (kind word : TokenKind) → n ≡ prefix_len is_name_byte rest → name_kind rest ≡ Some kind → word ≡ word_kind kind (take n rest)
    → IsLexeme rest (Single word n)
name_lexeme rest n kind word e k w =
    let bytes : List ℕ = take n rest in
    let I : TokenKind → Type 0 = λ t. IsLexeme rest (Single t n) in
    elim (cases_Bool (bytes_eq bytes (codes "not"))) [
      | inl holds ↦ subst I (sym (w ∙ cond-true (bytes_eq bytes (codes "not")) NotWord kind holds)) (run_lexeme is_name_byte longest_word NotWord rest n e holds refl)
      | inr other ↦ subst I (sym (w ∙ cond-false (bytes_eq bytes (codes "not")) NotWord kind other)) (of_kind other)
    ]
  where
    K : TokenKind → Type 0
    K t = name_kind rest ≡ Some t

    lower : name_kind rest ≡ Some Id → bytes_eq (take n rest) (codes "not") ≡ false → IsLexeme rest (Single Id n)
    lower i other =
        let name : is_name is_lower (take n rest) ≡ true = rw e (name_front is_lower name_from_lower rest (kind_name Id is_lower letter_lower rest i)) in
        run_lexeme is_name_byte longest_word Id rest n e
        (and_from (is_name is_lower (take n rest)) (not (bytes_eq (take n rest) (codes "not"))) name (not_from_false (bytes_eq (take n rest) (codes "not")) other)) refl

    upper : name_kind rest ≡ Some Var → IsLexeme rest (Single Var n)
    upper v =
        let name : is_name is_upper (take n rest) ≡ true = rw e (name_front is_upper name_from_upper rest (kind_name Var is_upper letter_upper rest v)) in
        run_lexeme is_name_byte longest_word Var rest n e name refl

    of_kind : bytes_eq (take n rest) (codes "not") ≡ false → IsLexeme rest (Single kind n)
    of_kind other =
        let I : TokenKind → Type 0 = λ t. IsLexeme rest (Single t n) in
        elim (kind_two rest kind k) [
          | inl i ↦ subst I (sym i) (lower (k ∙ ap Some i) other)
          | inr v ↦ subst I (sym v) (upper (k ∙ ap Some v))
        ]

-- underscores alone
abbrev pub anon_parts : ℕ → List Part
anon_parts zero = []
anon_parts (suc count) = token Anon (95 ∷ []) ∷ anon_parts count

-- where no letter stands behind the underscores, one of them is the longest token
anon_longest : (rest : List ℕ) → name_kind rest ≡ None → IsLongest (95 ∷ []) rest
anon_longest rest h kind [] after e f = refl
anon_longest rest h kind (y ∷ ys) after e f =
    let P : List ℕ → Type 0 = λ l. name_kind l ≡ None in
    go kind (subst P e h) f
  where
    go : (kind : TokenKind) → name_kind ((y ∷ ys) ++ after) ≡ None → has_form kind (95 ∷ y ∷ ys) ≡ true → y ∷ ys ≡ []
    go Num i f = cc
    go Id i f =
        absurd (both_ways (is_name is_lower (y ∷ ys)) (no_name is_lower (y ∷ ys) after (kind_none is_lower (λ b n. (letter_other b n).0) ((y ∷ ys) ++ after) i)) (id_name (95 ∷ y ∷ ys) f))
    go Var i f =
        absurd (both_ways (is_name is_upper (y ∷ ys)) (no_name is_upper (y ∷ ys) after (kind_none is_upper (λ b n. (letter_other b n).1) ((y ∷ ys) ++ after) i)) f)
    go Anon i f = cc
    go Text i f = cc
    go NotWord i f = cc
    go ConstWord i f = cc
    go ShowWord i f = cc
    go Mark i f = mark ys f
      where
        mark : (zs : List ℕ) → has_form Mark (95 ∷ y ∷ zs) ≡ true → y ∷ ys ≡ []
        mark [] m = cc
        mark (z ∷ zs) m = cc

anons_whole : (rest : List ℕ) → rest ≡ parts_text (anon_parts (prefix_len is_underscore rest)) (drop (prefix_len is_underscore rest) rest)
anons_whole [] = refl
anons_whole (b ∷ r) =
    let n = prefix_len is_underscore r in
    let e : 1 + n ≡ suc n = omega arith in
    elim (cases_Bool (is_underscore b)) [
      | inl holds ↦
          let byte : b ≡ 95 = eqb-true b 95 holds in
          rw (holds, e) (ap (λ x. x ∷ r) byte ∙ ap (λ l. 95 ∷ l) (anons_whole r))
      | inr other ↦ rw other refl
    ]

anons_stand : (rest : List ℕ) → name_kind rest ≡ None → AllStand (anon_parts (prefix_len is_underscore rest)) (drop (prefix_len is_underscore rest) rest)
anons_stand [] h = tt
anons_stand (b ∷ r) h =
    let n = prefix_len is_underscore r in
    let e : 1 + n ≡ suc n = omega arith in
    elim (cases_Bool (is_underscore b)) [
      | inl holds ↦
          let inner : name_kind r ≡ None = rw holds at h in
          let L : List ℕ → Type 0 = λ l. IsLongest (95 ∷ []) l in
          rw (holds, e) ((record { form = refl; longest = subst L (anons_whole r) (anon_longest r inner) }, refl), anons_stand r inner)
      | inr other ↦ rw other tt
    ]

anon_first : (at count : ℕ) → anon_tokens at (suc count) ≡ record { kind = Anon; start = at; «end» = at + 1 } ∷ anon_tokens (at + 1) count
anon_first at zero =
    let T : ℕ → List Token = λ k. record { kind = Anon; start = k; «end» = k + 1 } ∷ [] in
    ap T (let e : at + 0 ≡ at = omega arith in e)
anon_first at (suc count) =
    let T : ℕ → List Token = λ k. record { kind = Anon; start = k; «end» = k + 1 } ∷ [] in
    let e : at + suc count ≡ (at + 1) + count = omega arith in
    ap (λ l. l ++ T (at + suc count)) (anon_first at count) ∙ ap (λ k. (record { kind = Anon; start = at; «end» = at + 1 } ∷ anon_tokens (at + 1) count) ++ T k) e

anons_tokens : (at count : ℕ) → tokens_of at (anon_parts count) ≡ anon_tokens at count
anons_tokens at zero = refl
anons_tokens at (suc count) =
    ap (λ l. record { kind = Anon; start = at; «end» = at + 1 } ∷ l) (anons_tokens (at + 1) count) ∙ sym (anon_first at count)

anons_long : (count : ℕ) → count ≡ length (parts_text (anon_parts count) [])
anons_long zero = refl
anons_long (suc count) = ap suc (anons_long count)

-- the underscores at the front, where no letter stands behind them
pub anons_lexeme : (rest : List ℕ) (n : ℕ) → n ≡ prefix_len is_underscore rest → 0 < length rest → is_name_first (get_or rest 0 0) ≡ true → name_kind rest ≡ None → IsLexeme rest (Anons n)
anons_lexeme rest n e l f h =
    let I : ℕ → Type 0 = λ k. IsLexeme rest (Anons k) in
    subst I (sym e) (record {
      parts = anon_parts (prefix_len is_underscore rest);
      behind = drop (prefix_len is_underscore rest) rest;
      begins = anons_whole rest;
      stand = anons_stand rest h;
      some = anons_some rest l f h;
      tokens = λ at. anons_tokens at (prefix_len is_underscore rest);
      long = anons_long (prefix_len is_underscore rest);
    })
  where
    anons_some : (rest : List ℕ) → 0 < length rest → is_name_first (get_or rest 0 0) ≡ true → name_kind rest ≡ None → anon_parts (prefix_len is_underscore rest) ≡ [] → ⊥
    anons_some [] l f h empty = omega arith
    anons_some (b ∷ r) l f h empty =
        let n = prefix_len is_underscore r in
        let e : 1 + n ≡ suc n = omega arith in
        elim (cases_Bool (is_underscore b)) [
          | inl holds ↦ let p : token Anon (95 ∷ []) ∷ anon_parts n ≡ [] = rw (holds, e) at empty in cc
          | inr other ↦
              let letter : letter_kind b ≡ None = rw other at h in
              let lu = letter_other b letter in
              let no : is_name_first b ≡ false = rw (lu.0, lu.1, other) refl in
              both_ways (is_name_first b) no f
        ]
