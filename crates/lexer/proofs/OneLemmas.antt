-- A text has one tokenisation or one first fault, and never both.
use Rattle.std.proofs.Common.{◌≡◌, ℕ, ◌+◌, Bool, true, false, not, ◌&&◌, ◌||◌, List, [], ◌∷◌, ◌++◌, length, get_or, Some, None, refl, sym, ap, subst, ◌∙◌, inl, inr, arith, length-append}
use Rattle.std.specs.Bool.{◌==◌}
use Rattle.std.proofs.lemmas.Bool.{and_parts, and_left, and_right, or_parts, both_ways, not_from_true}
use Rattle.lexer.specs.declared.token.TokenKind.{TokenKind}
use Rattle.lexer.specs.declared.token.TokenKind.TheVariants.{Num}
use Rattle.lexer.specs.declared.token.Token.{Token}
use Rattle.lexer.specs.declared.token.LexFault.{LexFault}
use Rattle.lexer.specs.declared.token.LexCause.{LexCause}
use Rattle.lexer.specs.declared.token.LexCause.TheVariants.{NotUtf8, OpenString, OpenComment, BadCharacter, NumberTooLarge}
use Rattle.lexer.specs.Bytes.{is_blank}
use Rattle.lexer.specs.Forms.{has_form, is_sound, is_zero_led, is_too_large, is_number}
use Rattle.lexer.specs.Parts.{Part, blank, line_comment, comment, token, part_bytes, parts_text, tokens_of, close_from, Stands, AllStand, IsParted, IsTokenisation}
use Rattle.lexer.specs.Faults.{BeginsNoToken, BeginsNothing, BeginsOpenString, BeginsOpenComment, BeginsDigits, HasFault, IsStopped, IsFirstFault}
use Rattle.lexer.proofs.PartLemmas.{part_nonempty, fault_within}
use Rattle.lexer.proofs.Utf8Lemmas.{one_place, no_place}
use Rattle.lexer.proofs.KindLemmas.{same_token, same_kind}
use Rattle.lexer.proofs.PlaceLemmas.{blank_token, percent_token, blank_percent, line_no_star, opened, same_part}

-- no part begins there
NoPart : List ℕ → Type 0
NoPart rest = (part : Part) (behind : List ℕ) → rest ≡ part_bytes part ++ behind → Stands part behind → ⊥

-- the parts up to a place where none begins are one list
same_parts : (ps qs : List Part) (r s : List ℕ) → NoPart r → NoPart s → AllStand ps r → AllStand qs s → parts_text ps r ≡ parts_text qs s → (ps ≡ qs) × (r ≡ s)
unfolding NoPart
same_parts [] [] r s m n f g e = (refl, e)
same_parts [] (q ∷ qs) r s m n f g e = absurd (m q (parts_text qs s) e g.0)
same_parts (p ∷ ps) [] r s m n f g e = absurd (n p (parts_text ps r) (sym e) f.0)
same_parts (p ∷ ps) (q ∷ qs) r s m n f g e =
    let first = same_part p q (parts_text ps r) (parts_text qs s) f.0 g.0 e in
    let rest = same_parts ps qs r s m n f.1 g.1 first.1 in
    (ap (λ x. x ∷ ps) first.0 ∙ ap (λ xs. q ∷ xs) rest.0, rest.1)

end_no_part : NoPart []
unfolding NoPart
end_no_part part behind e s =
    let some = part_nonempty part behind s in
    let long : 0 ≡ length (part_bytes part) + length behind = ap length e ∙ length-append (part_bytes part) behind in
    omega arith

digits_no_part : (test : List ℕ → Bool) (rest : List ℕ) → ((digits : List ℕ) → test digits ≡ true → is_number digits ≡ false) → BeginsDigits test rest → NoPart rest
unfolding NoPart
digits_no_part test rest fails d (blank x) behind e s = blank_token x Num d.digits behind d.behind s d.run.form (sym e ∙ d.begins)
digits_no_part test rest fails d (line_comment i) behind e s = percent_token Num d.digits (i ++ behind) d.behind d.run.form (sym e ∙ d.begins)
digits_no_part test rest fails d (comment i) behind e s = percent_token Num d.digits (42 ∷ (i ++ 42 ∷ 37 ∷ behind)) d.behind d.run.form (sym (opened i behind) ∙ sym e ∙ d.begins)
digits_no_part test rest fails d (token k bytes) behind e s =
    let same = same_token Num k d.digits d.behind bytes behind d.run s.0 (sym d.begins ∙ e) in
    let F : List ℕ → Type 0 = λ l. has_form k l ≡ true in
    let kinds : k ≡ Num = same_kind k Num d.digits (subst F (sym same.0) s.0.form) d.run.form in
    let sound : is_number bytes ≡ true = subst (λ (k1 : TokenKind). is_sound k1 bytes ≡ true) kinds s.1 in
    let N : List ℕ → Type 0 = λ l. is_number l ≡ true in
    both_ways (is_number d.digits) (fails d.digits d.found) (subst N (sym same.0) sound)

no_zero_led : (digits : List ℕ) → is_zero_led digits ≡ true → is_number digits ≡ false
no_zero_led digits h = and_left (not (is_zero_led digits)) (not (is_too_large digits)) (not_from_true (is_zero_led digits) h)

no_large : (digits : List ℕ) → not (is_zero_led digits) && is_too_large digits ≡ true → is_number digits ≡ false
no_large digits h =
    and_right (not (is_zero_led digits)) (not (is_too_large digits)) (not_from_true (is_too_large digits) (and_parts (not (is_zero_led digits)) (is_too_large digits) h).1)

-- a byte that is no blank, no quote and no `%`
no_blank : (x : ℕ) → (is_blank x || x == 34 || x == 37) ≡ false → is_blank x ≡ true → ⊥
no_blank x n w = both_ways (is_blank x) (or_parts (is_blank x) (x == 34) (or_parts (is_blank x || x == 34) (x == 37) n).0).0 w

no_byte : (x byte : ℕ) (a b : List ℕ) → (is_blank x || x == 34 || x == 37) ≡ false → (is_blank byte || byte == 34 || byte == 37) ≡ true → x ∷ a ≡ byte ∷ b → ⊥
no_byte x byte a b n w e =
    let same : x ≡ byte = cc in
    let P : ℕ → Type 0 = λ y. (is_blank y || y == 34 || y == 37) ≡ false in
    both_ways (is_blank byte || byte == 34 || byte == 37) (subst P same n) w

nothing_no_part : (rest : List ℕ) → BeginsNothing rest → NoPart rest
unfolding NoPart
nothing_no_part rest n (blank x) behind e s =
    let both : n.byte ∷ n.behind ≡ x ∷ behind = sym n.begins ∙ e in
    let same : x ≡ n.byte = cc in
    let P : ℕ → Type 0 = λ y. is_blank y ≡ true in
    no_blank n.byte n.other (subst P same s)
nothing_no_part rest n (line_comment i) behind e s = no_byte n.byte 37 n.behind (i ++ behind) n.other refl (sym n.begins ∙ e)
nothing_no_part rest n (comment i) behind e s = no_byte n.byte 37 n.behind (42 ∷ (i ++ 42 ∷ 37 ∷ behind)) n.other refl (sym n.begins ∙ e ∙ opened i behind)
nothing_no_part rest n (token k bytes) behind e s = both_ways (has_form k bytes) (n.none k bytes behind e) s.0.form

quote_percent : (a b : List ℕ) → 34 ∷ a ≡ 37 ∷ b → ⊥
quote_percent a b e =
    let P : ℕ → Type 0 = λ x. (x == 34) ≡ true in
    both_ways (37 == 34) refl (subst P (ap (λ (l : List ℕ). get_or l 0 0) e) refl)

string_no_part : (rest : List ℕ) → BeginsOpenString rest → NoPart rest
unfolding NoPart
string_no_part rest n (blank x) behind e s =
    let both : 34 ∷ n.behind ≡ x ∷ behind = sym n.begins ∙ e in
    let same : x ≡ 34 = cc in
    let P : ℕ → Type 0 = λ y. is_blank y ≡ true in
    let no : false ≡ true = subst P same s in
    cc
string_no_part rest n (line_comment i) behind e s =
    quote_percent n.behind (i ++ behind) (sym n.begins ∙ e)
string_no_part rest n (comment i) behind e s =
    quote_percent n.behind (42 ∷ (i ++ 42 ∷ 37 ∷ behind)) (sym n.begins ∙ e ∙ opened i behind)
string_no_part rest n (token k bytes) behind e s = both_ways (has_form k bytes) (n.none k bytes behind e) s.0.form

comment_no_part : (rest : List ℕ) → BeginsOpenComment rest → NoPart rest
unfolding NoPart
comment_no_part rest n (blank x) behind e s = blank_percent x behind (42 ∷ n.inside) s (sym e ∙ n.begins)
comment_no_part rest n (line_comment i) behind e s =
    let both : 37 ∷ (i ++ behind) ≡ 37 ∷ 42 ∷ n.inside = sym e ∙ n.begins in
    let star : i ++ behind ≡ 42 ∷ n.inside = cc in
    line_no_star i behind n.inside s.0 star
comment_no_part rest n (comment i) behind e s =
    let both : 37 ∷ 42 ∷ (i ++ 42 ∷ 37 ∷ behind) ≡ 37 ∷ 42 ∷ n.inside = sym (opened i behind) ∙ sym e ∙ n.begins in
    let inner : i ++ 42 ∷ 37 ∷ behind ≡ n.inside = cc in
    let found : Some (length i) ≡ None = sym s ∙ ap (λ l. close_from 0 l) inner ∙ n.none in
    cc
comment_no_part rest n (token k bytes) behind e s = percent_token k bytes (42 ∷ n.inside) behind s.0.form (sym n.begins ∙ e)

-- no part begins where a fault is
fault_no_part : (cause : LexCause) (on : ℕ) (rest : List ℕ) → HasFault cause on rest → NoPart rest
fault_no_part NotUtf8 on rest h = absurd h
fault_no_part OpenString on rest h = string_no_part rest h.1
fault_no_part OpenComment on rest h = comment_no_part rest h.1
fault_no_part BadCharacter on rest (inl h) = nothing_no_part rest h.1
fault_no_part BadCharacter on rest (inr h) = digits_no_part is_zero_led rest no_zero_led h.1
fault_no_part NumberTooLarge on rest h = digits_no_part (λ digits. not (is_zero_led digits) && is_too_large digits) rest no_large h.1

-- one fault leaves no room for another
none_no_digits : (test : List ℕ → Bool) (rest : List ℕ) → BeginsNoToken rest → BeginsDigits test rest → ⊥
none_no_digits test rest n d = both_ways (has_form Num d.digits) (n Num d.digits d.behind d.begins) d.run.form

comment_no_digits : (test : List ℕ → Bool) (rest : List ℕ) → BeginsOpenComment rest → BeginsDigits test rest → ⊥
comment_no_digits test rest n d = percent_token Num d.digits (42 ∷ n.inside) d.behind d.run.form (sym n.begins ∙ d.begins)

zero_no_large : (rest : List ℕ) → BeginsDigits is_zero_led rest → BeginsDigits (λ digits. not (is_zero_led digits) && is_too_large digits) rest → ⊥
zero_no_large rest z l =
    let same = same_token Num Num z.digits z.behind l.digits l.behind z.run l.run (sym z.begins ∙ l.begins) in
    let P : List ℕ → Type 0 = λ ds. is_zero_led ds ≡ true in
    both_ways (not (is_zero_led l.digits)) (not_from_true (is_zero_led l.digits) (subst P same.0 z.found))
    (and_parts (not (is_zero_led l.digits)) (is_too_large l.digits) l.found).0

string_no_comment : (rest : List ℕ) → BeginsOpenString rest → BeginsOpenComment rest → ⊥
string_no_comment rest n m = quote_percent n.behind (42 ∷ m.inside) (sym n.begins ∙ m.begins)

nothing_no_string : (rest : List ℕ) → BeginsNothing rest → BeginsOpenString rest → ⊥
nothing_no_string rest n m = no_byte n.byte 34 n.behind m.behind n.other refl (sym n.begins ∙ m.begins)

nothing_no_comment : (rest : List ℕ) → BeginsNothing rest → BeginsOpenComment rest → ⊥
nothing_no_comment rest n m = no_byte n.byte 37 n.behind (42 ∷ m.inside) n.other refl (sym n.begins ∙ m.begins)

-- the fault at a place is one
same_fault : (cause other : LexCause) (on by : ℕ) (rest : List ℕ) → HasFault cause on rest → HasFault other by rest → (cause ≡ other) × (on ≡ by)
same_fault NotUtf8 other on by rest h g = absurd h
same_fault OpenString NotUtf8 on by rest h g = absurd g
same_fault OpenString OpenString on by rest h g = (refl, h.0 ∙ sym g.0)
same_fault OpenString OpenComment on by rest h g = absurd (string_no_comment rest h.1 g.1)
same_fault OpenString BadCharacter on by rest h (inl g) = absurd (nothing_no_string rest g.1 h.1)
same_fault OpenString BadCharacter on by rest h (inr g) = absurd (none_no_digits is_zero_led rest h.1.none g.1)
same_fault OpenString NumberTooLarge on by rest h g = absurd (none_no_digits (λ digits. not (is_zero_led digits) && is_too_large digits) rest h.1.none g.1)
same_fault OpenComment NotUtf8 on by rest h g = absurd g
same_fault OpenComment OpenString on by rest h g = absurd (string_no_comment rest g.1 h.1)
same_fault OpenComment OpenComment on by rest h g = (refl, h.0 ∙ sym g.0)
same_fault OpenComment BadCharacter on by rest h (inl g) = absurd (nothing_no_comment rest g.1 h.1)
same_fault OpenComment BadCharacter on by rest h (inr g) = absurd (comment_no_digits is_zero_led rest h.1 g.1)
same_fault OpenComment NumberTooLarge on by rest h g = absurd (comment_no_digits (λ digits. not (is_zero_led digits) && is_too_large digits) rest h.1 g.1)
same_fault BadCharacter NotUtf8 on by rest h g = absurd g
same_fault BadCharacter OpenString on by rest (inl h) g = absurd (nothing_no_string rest h.1 g.1)
same_fault BadCharacter OpenString on by rest (inr h) g = absurd (none_no_digits is_zero_led rest g.1.none h.1)
same_fault BadCharacter OpenComment on by rest (inl h) g = absurd (nothing_no_comment rest h.1 g.1)
same_fault BadCharacter OpenComment on by rest (inr h) g = absurd (comment_no_digits is_zero_led rest g.1 h.1)
same_fault BadCharacter BadCharacter on by rest (inl h) (inl g) = (refl, h.0 ∙ sym g.0)
same_fault BadCharacter BadCharacter on by rest (inl h) (inr g) = absurd (none_no_digits is_zero_led rest h.1.none g.1)
same_fault BadCharacter BadCharacter on by rest (inr h) (inl g) = absurd (none_no_digits is_zero_led rest g.1.none h.1)
same_fault BadCharacter BadCharacter on by rest (inr h) (inr g) = (refl, h.0 ∙ sym g.0)
same_fault BadCharacter NumberTooLarge on by rest (inl h) g = absurd (none_no_digits (λ digits. not (is_zero_led digits) && is_too_large digits) rest h.1.none g.1)
same_fault BadCharacter NumberTooLarge on by rest (inr h) g = absurd (zero_no_large rest h.1 g.1)
same_fault NumberTooLarge NotUtf8 on by rest h g = absurd g
same_fault NumberTooLarge OpenString on by rest h g = absurd (none_no_digits (λ digits. not (is_zero_led digits) && is_too_large digits) rest g.1.none h.1)
same_fault NumberTooLarge OpenComment on by rest h g = absurd (comment_no_digits (λ digits. not (is_zero_led digits) && is_too_large digits) rest g.1 h.1)
same_fault NumberTooLarge BadCharacter on by rest h (inl g) = absurd (none_no_digits (λ digits. not (is_zero_led digits) && is_too_large digits) rest g.1.none h.1)
same_fault NumberTooLarge BadCharacter on by rest h (inr g) = absurd (zero_no_large rest g.1 h.1)
same_fault NumberTooLarge NumberTooLarge on by rest h g = (refl, h.0 ∙ sym g.0)

-- a text has one tokenisation
pub one_tokenisation : (text : List ℕ) (tokens others : List Token) → IsTokenisation text tokens → IsTokenisation text others → tokens ≡ others
one_tokenisation text tokens others f g =
    let p = f.parted in
    let q = g.parted in
    let same = same_parts p.parts q.parts [] [] end_no_part end_no_part p.stand q.stand (sym p.whole ∙ q.whole) in
    p.are ∙ ap (λ ps. tokens_of 0 ps) same.0 ∙ sym q.are

-- and none where no part stands
no_parted : (text : List ℕ) (tokens : List Token) (fault : LexFault) → IsParted text tokens → IsStopped text fault → ⊥
no_parted text tokens fault f g =
    let same = same_parts f.parts g.parts [] g.rest end_no_part (fault_no_part fault.cause g.on g.rest g.has) f.stand g.stand (sym f.whole ∙ g.whole) in
    let some = fault_within fault.cause g.on g.rest g.has in
    let long : 0 ≡ length g.rest = ap length same.1 in
    omega arith

-- and so none where it has a fault
pub no_tokenisation : (text : List ℕ) (tokens : List Token) (fault : LexFault) → IsTokenisation text tokens → IsFirstFault text fault → ⊥
no_tokenisation text tokens fault f (inl g) = no_place text fault.at g.1 f.utf8
no_tokenisation text tokens fault f (inr g) = no_parted text tokens fault f.parted g.1

same_faults : (fault other : LexFault) → fault.at ≡ other.at → fault.cause ≡ other.cause → fault ≡ other
same_faults fault other place cause =
    let by_cause : fault ≡ record { at = fault.at; cause = other.cause } = ap (λ c. record { at = fault.at; cause = c }) cause in
    by_cause ∙ ap (λ n. record { at = n; cause = other.cause }) place

-- the first place where no part stands is one
one_stop : (text : List ℕ) (fault other : LexFault) → IsStopped text fault → IsStopped text other → fault ≡ other
one_stop text fault other f g =
    let same = same_parts f.parts g.parts f.rest g.rest (fault_no_part fault.cause f.on f.rest f.has) (fault_no_part other.cause g.on g.rest g.has) f.stand g.stand (sym f.whole ∙ g.whole) in
    let P : List ℕ → Type 0 = λ r. HasFault other.cause g.on r in
    let what = same_fault fault.cause other.cause f.on g.on f.rest f.has (subst P (sym same.1) g.has) in
    let place : fault.at ≡ other.at =
    f.place ∙ ap (λ ps. length (parts_text ps []) + f.on) same.0 ∙ ap (λ n. length (parts_text g.parts []) + n) what.1 ∙ sym g.place in
    same_faults fault other place what.0

-- and so is the first fault
pub one_fault : (text : List ℕ) (fault other : LexFault) → IsFirstFault text fault → IsFirstFault text other → fault ≡ other
one_fault text fault other (inl f) (inl g) = same_faults fault other (one_place text fault.at other.at f.1 g.1) (f.0 ∙ sym g.0)
one_fault text fault other (inl f) (inr g) = absurd (no_place text fault.at f.1 g.0)
one_fault text fault other (inr f) (inl g) = absurd (no_place text other.at g.1 f.0)
one_fault text fault other (inr f) (inr g) = one_stop text fault other f.1 g.1
