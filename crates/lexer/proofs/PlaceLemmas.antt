-- The part at a place is one.
use Rattle.std.proofs.Common.{◌≡◌, ℕ, true, false, List, [], ◌∷◌, ◌++◌, length, take, Some, refl, sym, ap, subst, ◌∙◌, append_assoc}
use Rattle.std.specs.List.{before_first}
use Rattle.std.proofs.lemmas.Bool.{both_ways}
use Rattle.std.proofs.lemmas.List.{append_cancel_left, take_at}
use Rattle.lexer.specs.declared.token.TokenKind.{TokenKind}
use Rattle.lexer.specs.Bytes.{is_blank, is_line_feed}
use Rattle.lexer.specs.Forms.{has_form}
use Rattle.lexer.specs.Parts.{Part, blank, line_comment, comment, token, part_bytes, begins_star, close_from, Stands}
use Rattle.lexer.proofs.FormLemmas.{no_form_nil}
use Rattle.lexer.proofs.KindLemmas.{same_token, same_kind, form_no_blank, form_no_percent}

pub blank_token : (byte : ℕ) (kind : TokenKind) (bytes a b : List ℕ) → is_blank byte ≡ true → has_form kind bytes ≡ true → byte ∷ a ≡ bytes ++ b → ⊥
blank_token byte kind [] a b w f e = both_ways (has_form kind []) (no_form_nil kind) f
blank_token byte kind (x ∷ xs) a b w f e =
    let same : byte ≡ x = cc in
    let P : ℕ → Type 0 = λ y. is_blank y ≡ true in
    form_no_blank kind x xs (subst P same w) f

pub percent_token : (kind : TokenKind) (bytes a b : List ℕ) → has_form kind bytes ≡ true → 37 ∷ a ≡ bytes ++ b → ⊥
percent_token kind [] a b f e = both_ways (has_form kind []) (no_form_nil kind) f
percent_token kind (x ∷ xs) a b f e =
    let same : 37 ≡ x = cc in
    let P : ℕ → Type 0 = λ y. has_form kind (y ∷ xs) ≡ true in
    form_no_percent kind xs (subst P (sym same) f)

pub blank_percent : (byte : ℕ) (a b : List ℕ) → is_blank byte ≡ true → byte ∷ a ≡ 37 ∷ b → ⊥
blank_percent byte a b w e =
    let same : byte ≡ 37 = cc in
    let P : ℕ → Type 0 = λ y. is_blank y ≡ true in
    let no : false ≡ true = subst P same w in
    cc

-- a comment to the end of its line does not begin with a star
pub line_no_star : (inside rest a : List ℕ) → begins_star (inside ++ rest) ≡ false → inside ++ rest ≡ 42 ∷ a → ⊥
line_no_star inside rest a s e =
    let P : List ℕ → Type 0 = λ l. begins_star l ≡ false in
    let no : true ≡ false = subst P e s in
    cc

same_line : (i j r s : List ℕ) → before_first is_line_feed (i ++ r) ≡ i → before_first is_line_feed (j ++ s) ≡ j → i ++ r ≡ j ++ s → (i ≡ j) × (r ≡ s)
same_line i j r s f g e =
    let same : i ≡ j = sym f ∙ ap (λ l. before_first is_line_feed l) e ∙ g in
    (same, append_cancel_left j r s (ap (λ l. l ++ r) (sym same) ∙ e))

same_comment : (i j r s : List ℕ) → close_from 0 (i ++ 42 ∷ 37 ∷ r) ≡ Some (length i) → close_from 0 (j ++ 42 ∷ 37 ∷ s) ≡ Some (length j) → i ++ 42 ∷ 37 ∷ r ≡ j ++ 42 ∷ 37 ∷ s → (i ≡ j) × (r ≡ s)
same_comment i j r s f g e =
    let found : Some (length i) ≡ Some (length j) = sym f ∙ ap (λ l. close_from 0 l) e ∙ g in
    let long : length i ≡ length j = cc in
    let same : i ≡ j =
    sym (take_at i (42 ∷ 37 ∷ r) (length i) refl) ∙ ap (λ l. take (length i) l) e ∙ take_at j (42 ∷ 37 ∷ s) (length i) (sym long) in
    let rest : 42 ∷ 37 ∷ r ≡ 42 ∷ 37 ∷ s = append_cancel_left j (42 ∷ 37 ∷ r) (42 ∷ 37 ∷ s) (ap (λ l. l ++ 42 ∷ 37 ∷ r) (sym same) ∙ e) in
    (same, (let t : r ≡ s = cc in t))

-- behind `%*`, the inside of a comment and its end
pub opened : (inside rest : List ℕ) → part_bytes (comment inside) ++ rest ≡ 37 ∷ 42 ∷ (inside ++ 42 ∷ 37 ∷ rest)
opened inside rest = ap (λ l. 37 ∷ 42 ∷ l) (append_assoc inside (42 ∷ 37 ∷ []) rest)

line_comment_apart : (i j r s : List ℕ) → begins_star (i ++ r) ≡ false → (37 ∷ i) ++ r ≡ part_bytes (comment j) ++ s → ⊥
line_comment_apart i j r s f e =
    let both : 37 ∷ (i ++ r) ≡ 37 ∷ 42 ∷ (j ++ 42 ∷ 37 ∷ s) = e ∙ opened j s in
    let behind : i ++ r ≡ 42 ∷ (j ++ 42 ∷ 37 ∷ s) = cc in
    line_no_star i r (j ++ 42 ∷ 37 ∷ s) f behind

-- the part at a place is one
pub same_part : (p q : Part) (r s : List ℕ) → Stands p r → Stands q s → part_bytes p ++ r ≡ part_bytes q ++ s → (p ≡ q) × (r ≡ s)
same_part (blank x) (blank y) r s f g e = ((let h : x ≡ y = cc in ap blank h), (let h : r ≡ s = cc in h))
same_part (blank x) (line_comment j) r s f g e = absurd (blank_percent x r (j ++ s) f e)
same_part (blank x) (comment j) r s f g e = absurd (blank_percent x r (42 ∷ (j ++ 42 ∷ 37 ∷ s)) f (e ∙ opened j s))
same_part (blank x) (token k bytes) r s f g e = absurd (blank_token x k bytes r s f g.0.form e)
same_part (line_comment i) (blank y) r s f g e = absurd (blank_percent y s (i ++ r) g (sym e))
same_part (line_comment i) (line_comment j) r s f g e =
    let behind : i ++ r ≡ j ++ s = cc in
    let same = same_line i j r s f.1 g.1 behind in
    (ap line_comment same.0, same.1)
same_part (line_comment i) (comment j) r s f g e = absurd (line_comment_apart i j r s f.0 e)
same_part (line_comment i) (token k bytes) r s f g e = absurd (percent_token k bytes (i ++ r) s g.0.form e)
same_part (comment i) (blank y) r s f g e = absurd (blank_percent y s (42 ∷ (i ++ 42 ∷ 37 ∷ r)) g (sym e ∙ opened i r))
same_part (comment i) (line_comment j) r s f g e = absurd (line_comment_apart j i s r g.0 (sym e))
same_part (comment i) (comment j) r s f g e =
    let both : 37 ∷ 42 ∷ (i ++ 42 ∷ 37 ∷ r) ≡ 37 ∷ 42 ∷ (j ++ 42 ∷ 37 ∷ s) = sym (opened i r) ∙ e ∙ opened j s in
    let behind : i ++ 42 ∷ 37 ∷ r ≡ j ++ 42 ∷ 37 ∷ s = cc in
    let same = same_comment i j r s f g behind in
    (ap comment same.0, same.1)
same_part (comment i) (token k bytes) r s f g e = absurd (percent_token k bytes (42 ∷ (i ++ 42 ∷ 37 ∷ r)) s g.0.form (sym (opened i r) ∙ e))
same_part (token k bytes) (blank y) r s f g e = absurd (blank_token y k bytes s r g f.0.form (sym e))
same_part (token k bytes) (line_comment j) r s f g e = absurd (percent_token k bytes (j ++ s) r f.0.form (sym e))
same_part (token k bytes) (comment j) r s f g e = absurd (percent_token k bytes (42 ∷ (j ++ 42 ∷ 37 ∷ s)) r f.0.form (sym (opened j s) ∙ sym e))
same_part (token k xs) (token j ys) r s f g e =
    let same = same_token k j xs r ys s f.0 g.0 e in
    let F : List ℕ → Type 0 = λ l. has_form j l ≡ true in
    let kinds : k ≡ j = same_kind k j xs f.0.form (subst F (sym same.0) g.0.form) in
    (ap (λ k1. token k1 xs) kinds ∙ ap (λ l. token j l) same.0, same.1)
