-- The longest token at a place is one, of one kind, and begins with no blank and no `%`.
use Rattle.std.proofs.Common.{◌≡◌, ℕ, Bool, true, false, not, ◌⊎◌, List, [], ◌∷◌, ◌++◌, get_or, refl, sym, ap, subst, ◌∙◌, inl, inr, cond, codes}
use Rattle.std.specs.Bool.{◌==◌}
use Rattle.std.specs.List.{list_all}
use Rattle.std.specs.Str.{bytes_eq}
use Rattle.std.proofs.lemmas.Bool.{and_parts, cases_Bool, both_ways, false_from_ne_true, not-true, eqb-true}
use Rattle.std.proofs.lemmas.List.{append-nil}
use Rattle.lexer.specs.declared.token.TokenKind.{TokenKind}
use Rattle.lexer.specs.declared.token.TokenKind.TheVariants.{Num, Id, Var, Anon, Text, NotWord, ConstWord, ShowWord, Mark}
use Rattle.lexer.specs.Bytes.{is_blank, is_digit, is_lower, is_upper, is_underscore, is_name_byte}
use Rattle.lexer.specs.Forms.{has_form, is_name, is_digits, is_string, closes, is_mark, is_short_mark, is_long_mark}
use Rattle.lexer.specs.Parts.{BeginsThere}
use Rattle.lexer.proofs.ByteLemmas.{apart, blank_below, name_from_lower, name_from_upper, name_from_digit, lower_no_upper, digit_no_lower, digit_no_upper}
use Rattle.lexer.proofs.FormLemmas.{name_all, mark_no_name, string_no_name, name_no_digit, no_form_nil, no_word, id_name, bytes_are}

-- of two fronts of one list one is the front of the other
Front : List ℕ → List ℕ → List ℕ → List ℕ → Type 0
Front xs a ys b = (more : List ℕ) × (ys ≡ xs ++ more) × (a ≡ more ++ b)

fronts : (xs ys a b : List ℕ) → xs ++ a ≡ ys ++ b → Front xs a ys b ⊎ Front ys b xs a
unfolding Front
fronts [] ys a b e = inl (ys, refl, e)
fronts (x ∷ xs) [] a b e = inr (x ∷ xs, refl, sym e)
fronts (x ∷ xs) (y ∷ ys) a b e =
    let first : x ≡ y = cc in
    let rest : xs ++ a ≡ ys ++ b = cc in
    elim (fronts xs ys a b rest) [
      | inl f ↦ inl (f.0, (let e1 : ys ≡ xs ++ f.0 = f.1 in cc), f.2)
      | inr f ↦ inr (f.0, (let e1 : xs ≡ ys ++ f.0 = f.1 in cc), f.2)
    ]

shorter : (k j : TokenKind) (xs a ys b : List ℕ) → BeginsThere k xs a → BeginsThere j ys b → Front xs a ys b → (xs ≡ ys) × (a ≡ b)
unfolding Front
shorter k j xs a ys b f g (more, e, r) =
    let F : List ℕ → Type 0 = λ l. has_form j l ≡ true in
    let none : more ≡ [] = f.longest j more b r (subst F e g.form) in
    (sym (e ∙ ap (λ l. xs ++ l) none ∙ append-nil xs), r ∙ ap (λ l. l ++ b) none)

-- the longest token at a place is one
pub same_token : (k j : TokenKind) (xs a ys b : List ℕ) → BeginsThere k xs a → BeginsThere j ys b → xs ++ a ≡ ys ++ b → (xs ≡ ys) × (a ≡ b)
same_token k j xs a ys b f g e =
    elim (fronts xs ys a b e) [
      | inl h ↦ shorter k j xs a ys b f g h
      | inr h ↦ let s = shorter j k ys b xs a g f h in (sym s.0, sym s.1)
    ]

-- the kind that tests say: digits, `not`, a name of two kinds, `_`, a string, two words
pick : Bool → Bool → Bool → Bool → Bool → Bool → Bool → Bool → TokenKind
pick d n l u a s c w = cond d Num (cond n NotWord (cond l Id (cond u Var (cond a Anon (cond s Text (cond c ConstWord (cond w ShowWord Mark)))))))

pick_num : (d n l u a s c w : Bool) → d ≡ true → pick d n l u a s c w ≡ Num
unfolding pick
pick_num d n l u a s c w e1 = rw e1 refl

pick_id : (d n l u a s c w : Bool) → d ≡ false → n ≡ false → l ≡ true → pick d n l u a s c w ≡ Id
unfolding pick
pick_id d n l u a s c w e1 e2 e3 = rw (e1, e2, e3) refl

pick_var : (d n l u a s c w : Bool) → d ≡ false → n ≡ false → l ≡ false → u ≡ true → pick d n l u a s c w ≡ Var
unfolding pick
pick_var d n l u a s c w e1 e2 e3 e4 = rw (e1, e2, e3, e4) refl

pick_text : (d n l u a s c w : Bool) → d ≡ false → n ≡ false → l ≡ false → u ≡ false → a ≡ false → s ≡ true → pick d n l u a s c w ≡ Text
unfolding pick
pick_text d n l u a s c w e1 e2 e3 e4 e5 e6 = rw (e1, e2, e3, e4, e5, e6) refl

pick_mark : (d n l u a s c w : Bool) → d ≡ false → n ≡ false → l ≡ false → u ≡ false → a ≡ false → s ≡ false → c ≡ false → w ≡ false → pick d n l u a s c w ≡ Mark
unfolding pick
pick_mark d n l u a s c w e1 e2 e3 e4 e5 e6 e7 e8 = rw (e1, e2, e3, e4, e5, e6, e7, e8) refl

-- the kind of bytes that have the form of a token
kind_of : List ℕ → TokenKind
kind_of bytes =
    pick (is_digits bytes) (bytes_eq bytes (codes "not")) (is_name is_lower bytes) (is_name is_upper bytes) (bytes_eq bytes (codes "_")) (is_string bytes)
    (bytes_eq bytes (codes "#const")) (bytes_eq bytes (codes "#show"))

mark_first : (b : ℕ) (bs : List ℕ) → is_mark (b ∷ bs) ≡ true → is_name_byte b ≡ false
mark_first b bs h = false_from_ne_true (is_name_byte b) (λ n. both_ways (is_mark (b ∷ bs)) (mark_no_name b bs n) h)

digits_first : (b : ℕ) (bs : List ℕ) → is_digits (b ∷ bs) ≡ true → is_digit b ≡ true
digits_first b bs h = (and_parts (is_digit b) (list_all is_digit bs) h).0

name_first : (f : ℕ → Bool) (b : ℕ) (bs : List ℕ) → ((x : ℕ) → f x ≡ true → is_name_byte x ≡ true) → is_name f (b ∷ bs) ≡ true → is_name_byte b ≡ true
name_first f b bs w h = (and_parts (is_name_byte b) (list_all is_name_byte bs) (name_all f (b ∷ bs) w h)).0

-- a name begins with one letter
one_letter : (bytes : List ℕ) → is_name is_upper bytes ≡ true → is_name is_lower bytes ≡ false
one_letter [] h = cc
one_letter (b ∷ bs) h =
    elim (cases_Bool (is_underscore b)) [
      | inl holds ↦ rw holds (one_letter bs (rw holds at h))
      | inr other ↦
          let upper : is_upper b ≡ true = (and_parts (is_upper b) (list_all is_name_byte bs) (rw other at h)).0 in
          let lower : is_lower b ≡ false = false_from_ne_true (is_lower b) (λ l. both_ways (is_upper b) (lower_no_upper b l) upper) in
          rw other (rw lower refl)
    ]

-- bytes that begin with no name byte are no digits and no name
no_name_tests : (b : ℕ) (bs : List ℕ) → is_name_byte b ≡ false
    → (is_digits (b ∷ bs) ≡ false) × (bytes_eq (b ∷ bs) (codes "not") ≡ false) × (is_name is_lower (b ∷ bs) ≡ false) × (is_name is_upper (b ∷ bs) ≡ false) × (bytes_eq (b ∷ bs) (codes "_") ≡ false)
no_name_tests b bs n = (
  false_from_ne_true (is_digits (b ∷ bs)) (λ h. both_ways (is_name_byte b) n (name_from_digit b (digits_first b bs h))),
  false_from_ne_true (bytes_eq (b ∷ bs) (codes "not")) (λ h. both_ways (is_name_byte b) n (word_first (codes "not") refl h)),
  false_from_ne_true (is_name is_lower (b ∷ bs)) (λ h. both_ways (is_name_byte b) n (name_first is_lower b bs name_from_lower h)),
  false_from_ne_true (is_name is_upper (b ∷ bs)) (λ h. both_ways (is_name_byte b) n (name_first is_upper b bs name_from_upper h)),
  false_from_ne_true (bytes_eq (b ∷ bs) (codes "_")) (λ h. both_ways (is_name_byte b) n (word_first (codes "_") refl h)),
)
  where
    word_first : (word : List ℕ) → is_name_byte (get_or word 0 0) ≡ true → bytes_eq (b ∷ bs) word ≡ true → is_name_byte b ≡ true
    word_first word w h =
        let P : ℕ → Type 0 = λ x. is_name_byte x ≡ true in
        subst P (sym (ap (λ (l : List ℕ). get_or l 0 0) (bytes_are (b ∷ bs) word h))) w

word_kind_is : (kind : TokenKind) (b : ℕ) (bs word : List ℕ) → kind_of word ≡ kind → bytes_eq (b ∷ bs) word ≡ true → kind_of (b ∷ bs) ≡ kind
word_kind_is kind b bs word w h =
    let P : List ℕ → Type 0 = λ l. kind_of l ≡ kind in
    subst P (sym (bytes_are (b ∷ bs) word h)) w

quote_no_name : (b : ℕ) (bs : List ℕ) → is_string (b ∷ bs) ≡ true → is_name_byte b ≡ false
quote_no_name b bs h = false_from_ne_true (is_name_byte b) (λ n. both_ways (is_string (b ∷ bs)) (string_no_name b bs n) h)

-- a mark is no word and no string
mark_no_word : (b : ℕ) (bs word : List ℕ) → is_mark (b ∷ bs) ≡ true → is_mark word ≡ false → bytes_eq (b ∷ bs) word ≡ false
mark_no_word b bs word m w = false_from_ne_true (bytes_eq (b ∷ bs) word) (λ h.
    let P : List ℕ → Type 0 = λ l. is_mark l ≡ true in
    both_ways (is_mark word) w (subst P (bytes_are (b ∷ bs) word h) m))

mark_no_string : (b : ℕ) (bs : List ℕ) → is_mark (b ∷ bs) ≡ true → is_string (b ∷ bs) ≡ false
mark_no_string b bs m = false_from_ne_true (is_string (b ∷ bs)) (λ h.
    let quote : b ≡ 34 = eqb-true b 34 (and_parts (b == 34) (closes bs false) h).0 in
    let P : ℕ → Type 0 = λ x. is_mark (x ∷ bs) ≡ true in
    no_mark bs (subst P quote m))
  where
    no_mark : (cs : List ℕ) → is_mark (34 ∷ cs) ≡ true → ⊥
    no_mark [] h = cc
    no_mark (c ∷ []) h = cc
    no_mark (c ∷ d ∷ cs) h = cc

kind_is : (kind : TokenKind) (b : ℕ) (bs : List ℕ) → has_form kind (b ∷ bs) ≡ true → kind_of (b ∷ bs) ≡ kind
unfolding kind_of pick
kind_is Num b bs h =
    pick_num (is_digits (b ∷ bs)) (bytes_eq (b ∷ bs) (codes "not")) (is_name is_lower (b ∷ bs)) (is_name is_upper (b ∷ bs)) (bytes_eq (b ∷ bs) (codes "_")) (is_string (b ∷ bs))
    (bytes_eq (b ∷ bs) (codes "#const")) (bytes_eq (b ∷ bs) (codes "#show")) h
kind_is Id b bs h =
    let name : is_name is_lower (b ∷ bs) ≡ true = id_name (b ∷ bs) h in
    let no_digits : is_digits (b ∷ bs) ≡ false = false_from_ne_true (is_digits (b ∷ bs)) (λ d.
    both_ways (is_name is_lower (b ∷ bs)) (name_no_digit is_lower b bs (digits_first b bs d) (digit_no_lower b (digits_first b bs d))) name) in
    let no_not : bytes_eq (b ∷ bs) (codes "not") ≡ false = not-true (bytes_eq (b ∷ bs) (codes "not")) (and_parts (is_name is_lower (b ∷ bs)) (not (bytes_eq (b ∷ bs) (codes "not"))) h).1 in
    pick_id (is_digits (b ∷ bs)) (bytes_eq (b ∷ bs) (codes "not")) (is_name is_lower (b ∷ bs)) (is_name is_upper (b ∷ bs)) (bytes_eq (b ∷ bs) (codes "_")) (is_string (b ∷ bs))
    (bytes_eq (b ∷ bs) (codes "#const")) (bytes_eq (b ∷ bs) (codes "#show")) no_digits no_not name
kind_is Var b bs h =
    let no_digits : is_digits (b ∷ bs) ≡ false = false_from_ne_true (is_digits (b ∷ bs)) (λ d.
    both_ways (is_name is_upper (b ∷ bs)) (name_no_digit is_upper b bs (digits_first b bs d) (digit_no_upper b (digits_first b bs d))) h) in
    let no_lower : is_name is_lower (b ∷ bs) ≡ false = one_letter (b ∷ bs) h in
    let no_not : bytes_eq (b ∷ bs) (codes "not") ≡ false = false_from_ne_true (bytes_eq (b ∷ bs) (codes "not")) (λ w.
    let P : List ℕ → Type 0 = λ l. is_name is_lower l ≡ true in
    both_ways (is_name is_lower (b ∷ bs)) no_lower (subst P (sym (bytes_are (b ∷ bs) (codes "not") w)) refl)) in
    pick_var (is_digits (b ∷ bs)) (bytes_eq (b ∷ bs) (codes "not")) (is_name is_lower (b ∷ bs)) (is_name is_upper (b ∷ bs)) (bytes_eq (b ∷ bs) (codes "_")) (is_string (b ∷ bs))
    (bytes_eq (b ∷ bs) (codes "#const")) (bytes_eq (b ∷ bs) (codes "#show")) no_digits no_not no_lower h
kind_is Anon b bs h = word_kind_is Anon b bs (codes "_") refl h
kind_is Text b bs h =
    let none = no_name_tests b bs (quote_no_name b bs h) in
    pick_text (is_digits (b ∷ bs)) (bytes_eq (b ∷ bs) (codes "not")) (is_name is_lower (b ∷ bs)) (is_name is_upper (b ∷ bs)) (bytes_eq (b ∷ bs) (codes "_")) (is_string (b ∷ bs))
    (bytes_eq (b ∷ bs) (codes "#const")) (bytes_eq (b ∷ bs) (codes "#show")) none.0 none.1 none.2 none.3 none.4 h
kind_is NotWord b bs h = word_kind_is NotWord b bs (codes "not") refl h
kind_is ConstWord b bs h = word_kind_is ConstWord b bs (codes "#const") refl h
kind_is ShowWord b bs h = word_kind_is ShowWord b bs (codes "#show") refl h
kind_is Mark b bs h =
    let none = no_name_tests b bs (mark_first b bs h) in
    pick_mark (is_digits (b ∷ bs)) (bytes_eq (b ∷ bs) (codes "not")) (is_name is_lower (b ∷ bs)) (is_name is_upper (b ∷ bs)) (bytes_eq (b ∷ bs) (codes "_")) (is_string (b ∷ bs))
    (bytes_eq (b ∷ bs) (codes "#const")) (bytes_eq (b ∷ bs) (codes "#show")) none.0 none.1 none.2 none.3 none.4 (mark_no_string b bs h)
    (mark_no_word b bs (codes "#const") h refl) (mark_no_word b bs (codes "#show") h refl)

-- bytes have the form of one kind alone
pub same_kind : (k j : TokenKind) (bytes : List ℕ) → has_form k bytes ≡ true → has_form j bytes ≡ true → k ≡ j
same_kind k j [] f g = absurd (both_ways (has_form k []) (no_form_nil k) f)
same_kind k j (b ∷ bs) f g = sym (kind_is k b bs f) ∙ kind_is j b bs g

-- a token begins with no blank
pub form_no_blank : (kind : TokenKind) (b : ℕ) (bs : List ℕ) → is_blank b ≡ true → has_form kind (b ∷ bs) ≡ true → ⊥
form_no_blank Num b bs w h = both_ways (is_digit b) (apart is_blank is_digit b refl (blank_below b w) w) (digits_first b bs h)
form_no_blank Id b bs w h = both_ways (is_name_byte b) (apart is_blank is_name_byte b refl (blank_below b w) w) (name_first is_lower b bs name_from_lower (id_name (b ∷ bs) h))
form_no_blank Var b bs w h = both_ways (is_name_byte b) (apart is_blank is_name_byte b refl (blank_below b w) w) (name_first is_upper b bs name_from_upper h)
form_no_blank Anon b bs w h = no_word is_blank b bs (codes "_") w refl h
form_no_blank Text b bs w h = both_ways (b == 34) (apart is_blank (λ x. x == 34) b refl (blank_below b w) w) (and_parts (b == 34) (closes bs false) h).0
form_no_blank NotWord b bs w h = no_word is_blank b bs (codes "not") w refl h
form_no_blank ConstWord b bs w h = no_word is_blank b bs (codes "#const") w refl h
form_no_blank ShowWord b bs w h = no_word is_blank b bs (codes "#show") w refl h
form_no_blank Mark b bs w h = no_mark bs h
  where
    no_mark : (cs : List ℕ) → is_mark (b ∷ cs) ≡ true → ⊥
    no_mark [] m = both_ways (is_short_mark b) (apart is_blank is_short_mark b refl (blank_below b w) w) m
    no_mark (c ∷ []) m = both_ways (is_long_mark b c) (apart is_blank (λ x. is_long_mark x c) b refl (blank_below b w) w) m
    no_mark (c ∷ d ∷ cs) m = cc

-- nor with `%`
pub form_no_percent : (kind : TokenKind) (bs : List ℕ) → has_form kind (37 ∷ bs) ≡ true → ⊥
form_no_percent Num bs h = cc
form_no_percent Id bs h = cc
form_no_percent Var bs h = cc
form_no_percent Anon bs h = cc
form_no_percent Text bs h = cc
form_no_percent NotWord bs h = cc
form_no_percent ConstWord bs h = cc
form_no_percent ShowWord bs h = cc
form_no_percent Mark bs h = no_mark bs h
  where
    no_mark : (cs : List ℕ) → is_mark (37 ∷ cs) ≡ true → ⊥
    no_mark [] m = cc
    no_mark (c ∷ []) m = cc
    no_mark (c ∷ d ∷ cs) m = cc
