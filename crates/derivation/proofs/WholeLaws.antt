-- Bytes are a derivation in one way.
use Rattle.std.proofs.Common.{◌≡◌, ◌⊎◌, inl, inr, ◌<◌, ℕ, zero, suc, ◌+◌, ◌/◌, ◌%◌, ◌==◌, eqb, Bool, true, false, not, cond, IsTrue, List, [], ◌∷◌, ◌++◌, map, ℤ, pos, negsuc, codes, decimal, refl, sym, ◌∙◌, ap, ap₂, subst, true≢false, arith}
use Rattle.std.specs.Fmt.{digits, digits_onto, digit_glyph, signed_decimal}
use Rattle.std.specs.List.{AllByRecursion, flat_map, list_all}
use Rattle.std.proofs.lemmas.Bool.{and_parts, and_from, eqb-true, ne_eqb}
use Rattle.std.proofs.lemmas.Bool.Decides.{nat_tests}
use Rattle.std.proofs.lemmas.List.{append-nil}
use Rattle.std.proofs.lemmas.List.Folds.{list_all-append}
use Rattle.literals.specs.declared.lit.Lit.{Lit}
use Rattle.literals.specs.declared.lit.Lit.TheVariants.{Atom, Body, Constraint, AtMost, AtLeast}
use Rattle.derivation.specs.declared.line.Line.{Line}
use Rattle.derivation.specs.declared.line.Line.TheVariants.{Header, Sum, Distinct, Window, Pair, Loop, Hole, Learned, Answer, Better, EndNone, EndAll, EndBest}
use Rattle.derivation.specs.Spelling.{spelling, letter, fields, IsLine}
use Rattle.derivation.specs.Fields.{sign_text, lit_field, atom_field, value_field, pivot_fields, lits_fields, answer_fields, behind}
use Rattle.derivation.specs.Whole.{ended, bytes_of, IsOneLine, AreLines, IsDerivation, OneLineLaw, CutLaw, OneCutLaw, OneDerivationLaw}
use Rattle.derivation.proofs.LineLaws.{one_line}

-- ONE LINE

abbrev is_other : ℕ → Bool
is_other byte = not (byte == 10)

both : (xs ys : List ℕ) → IsOneLine xs → IsOneLine ys → IsOneLine (xs ++ ys)
both xs ys a b = list_all-append is_other xs ys ∙ and_from (list_all is_other xs) (list_all is_other ys) a b

one_glyph : (n : ℕ) → is_other (digit_glyph false (n % 10)) ≡ true
one_glyph n = grind (arith, nat_tests)

digits_other : (k n : ℕ) (rest : List ℕ) → IsOneLine rest → IsOneLine (digits_onto k 10 false n rest)
digits_other zero n rest h = h
digits_other (suc k) n rest h = go (n / 10 == 0) (digits_other k (n / 10) (digit_glyph false (n % 10) ∷ rest) more)
  where
    more : IsOneLine (digit_glyph false (n % 10) ∷ rest)
    more = and_from (is_other (digit_glyph false (n % 10))) (list_all is_other rest) (one_glyph n) h

    go : (b : Bool) → IsOneLine (digits_onto k 10 false (n / 10) (digit_glyph false (n % 10) ∷ rest))
        → IsOneLine (cond b (digit_glyph false (n % 10) ∷ rest) (digits_onto k 10 false (n / 10) (digit_glyph false (n % 10) ∷ rest)))
    go true e = more
    go false e = e

decimal_is : (n : ℕ) → digits_onto 64 10 false n [] ≡ decimal n
unfolding digits
decimal_is n = refl

number : (n : ℕ) → IsOneLine (decimal n)
number n = subst IsOneLine (decimal_is n) (digits_other 64 n [] refl)

integer : (z : ℤ) → IsOneLine (signed_decimal z)
integer (pos n) = number n
integer (negsuc n) = number (suc n)

sign : (s : Bool) → IsOneLine (sign_text s)
sign true = refl
sign false = refl

lit : (l : Lit) → IsOneLine (lit_field l)
lit (Atom n s) = both (sign_text s) (codes "a" ++ decimal n) (sign s) (number n)
lit (Body n s) = both (sign_text s) (codes "b" ++ decimal n) (sign s) (number n)
lit (Constraint n s) = both (sign_text s) (codes "c" ++ decimal n) (sign s) (number n)
lit (AtMost x k) = both (decimal x) (codes "<=" ++ signed_decimal k) (number x) (integer k)
lit (AtLeast x k) = both (decimal x) (codes ">=" ++ signed_decimal k) (number x) (integer k)

abbrev AreOne : List (List ℕ) → Type 0
AreOne texts = AllByRecursion IsOneLine texts

all_both : (xs ys : List (List ℕ)) → AreOne xs → AreOne ys → AreOne (xs ++ ys)
all_both [] ys a b = b
all_both (x ∷ xs) ys a b = (a.0, all_both xs ys a.1 b)

all_map : {X : Type 0} (f : X → List ℕ) (xs : List X) → ((x : X) → IsOneLine (f x)) → AreOne (map f xs)
all_map f [] h = tt
all_map f (x ∷ xs) h = (h x, all_map f xs h)

lits : (ls : List Lit) → AreOne (lits_fields ls)
lits ls = (refl, all_map lit_field ls lit)

pivots : (ps : List (Lit × ℕ)) → AreOne (pivot_fields ps)
pivots [] = tt
pivots (p ∷ ps) = (lit p.0, (number p.1, pivots ps))

value : (v : ℕ × ℤ) → IsOneLine (value_field v)
value v = both (decimal v.0) (codes "=" ++ signed_decimal v.1) (number v.0) (integer v.1)

answer : (atoms : List ℕ) (values : List (ℕ × ℤ)) → AreOne (answer_fields atoms values)
answer atoms values = all_both (map atom_field atoms) (map value_field values) (all_map atom_field atoms number) (all_map value_field values value)

all_fields : (line : Line) → AreOne (fields line)
all_fields (Header version min max limit) = (refl, (number version, (integer min, (integer max, (number limit, tt)))))
all_fields (Sum c ls) = (number c, lits ls)
all_fields (Distinct c a b ls) = (number c, (integer a, (integer b, lits ls)))
all_fields (Window c a b ls) = (number c, (refl, (integer a, (integer b, lits ls))))
all_fields (Pair c i j ls) = (number c, (refl, (number i, (number j, lits ls))))
all_fields (Loop atoms ls) = all_both (map decimal atoms) (lits_fields ls) (all_map decimal atoms number) (lits ls)
all_fields (Hole c ls) = (number c, lits ls)
all_fields (Learned id ps ls) = (number id, all_both (pivot_fields ps) (lits_fields ls) (pivots ps) (lits ls))
all_fields (Answer atoms values) = answer atoms values
all_fields (Better cost atoms values) = (integer cost, answer atoms values)
all_fields EndNone = (refl, tt)
all_fields (EndAll n) = (refl, (number n, tt))
all_fields (EndBest cost) = (refl, (integer cost, tt))

after_letter : (texts : List (List ℕ)) → AreOne texts → IsOneLine (behind texts)
after_letter [] h = refl
after_letter (text ∷ texts) h = both text (behind texts) h.0 (after_letter texts h.1)

one_letter : (line : Line) → is_other (letter line) ≡ true
one_letter (Header version min max limit) = refl
one_letter (Sum c ls) = refl
one_letter (Distinct c a b ls) = refl
one_letter (Window c a b ls) = refl
one_letter (Pair c i j ls) = refl
one_letter (Loop atoms ls) = refl
one_letter (Hole c ls) = refl
one_letter (Learned id ps ls) = refl
one_letter (Answer atoms values) = refl
one_letter (Better cost atoms values) = refl
one_letter EndNone = refl
one_letter (EndAll n) = refl
one_letter (EndBest cost) = refl

pub spelled_in_one_line : OneLineLaw
spelled_in_one_line line =
    and_from (is_other (letter line)) (list_all is_other (behind (fields line))) (one_letter line) (after_letter (fields line) (all_fields line))

-- CUT

first_byte : (b : ℕ) (rest : List ℕ) → IsOneLine (b ∷ rest) → b ≡ 10 → ⊥
first_byte b rest h e = true≢false (sym (and_parts (is_other b) (list_all is_other rest) h).0 ∙ ap is_other e)

head_same : (a b : ℕ) (xs ys : List ℕ) → a ∷ xs ≡ b ∷ ys → a ≡ b
head_same a b xs ys e = cc

tail_same : (a b : ℕ) (xs ys : List ℕ) → a ∷ xs ≡ b ∷ ys → xs ≡ ys
tail_same a b xs ys e = cc

-- two texts before a line feed are one
first_cut : (t u a b : List ℕ) → IsOneLine t → IsOneLine u → t ++ 10 ∷ a ≡ u ++ 10 ∷ b → (t ≡ u) × (a ≡ b)
first_cut [] [] a b ht hu e = (refl, tail_same 10 10 a b e)
first_cut (c ∷ t) [] a b ht hu e = absurd (first_byte c t ht (head_same c 10 (t ++ 10 ∷ a) b e))
first_cut [] (d ∷ u) a b ht hu e = absurd (first_byte d u hu (sym (head_same 10 d a (u ++ 10 ∷ b) e)))
first_cut (c ∷ t) (d ∷ u) a b ht hu e =
    let rest = first_cut t u a b (and_parts (is_other c) (list_all is_other t) ht).1 (and_parts (is_other d) (list_all is_other u) hu).1
    (tail_same c d (t ++ 10 ∷ a) (u ++ 10 ∷ b) e) in
    (ap₂ (λ (x : ℕ) (xs : List ℕ). x ∷ xs) (head_same c d (t ++ 10 ∷ a) (u ++ 10 ∷ b) e) rest.0, rest.1)

-- no line feed stands in a text of one line
no_cut : (t a u : List ℕ) → IsOneLine u → t ++ 10 ∷ a ≡ u → ⊥
no_cut [] a u h e = true≢false (sym (subst IsOneLine (sym e) h))
no_cut (c ∷ t) a u h e = no_cut t a (t ++ 10 ∷ a) (and_parts (is_other c) (list_all is_other (t ++ 10 ∷ a)) (subst IsOneLine (sym e) h)).1 refl

assoc : (xs ys zs : List ℕ) → (xs ++ ys) ++ zs ≡ xs ++ (ys ++ zs)
assoc [] ys zs = refl
assoc (x ∷ xs) ys zs = ap (λ (l : List ℕ). x ∷ l) (assoc xs ys zs)

-- the first text of those that are ended
first_ended : (t : List ℕ) (ts : List (List ℕ)) (rest : List ℕ) → flat_map ended (t ∷ ts) ++ rest ≡ t ++ 10 ∷ (flat_map ended ts ++ rest)
first_ended t ts rest = assoc (ended t) (flat_map ended ts) rest ∙ assoc t (codes "\n") (flat_map ended ts ++ rest)

same_cut : (ts us : List (List ℕ)) (a b : List ℕ) → AreOne ts → AreOne us → IsOneLine a → IsOneLine b → flat_map ended ts ++ a ≡ flat_map ended us ++ b
    → (ts ≡ us) × (a ≡ b)
same_cut [] [] a b ht hu ha hb e = (refl, e)
same_cut (t ∷ ts) [] a b ht hu ha hb e = absurd (no_cut t (flat_map ended ts ++ a) b hb (sym (first_ended t ts a) ∙ e))
same_cut [] (u ∷ us) a b ht hu ha hb e = absurd (no_cut u (flat_map ended us ++ b) a ha (sym (first_ended u us b) ∙ sym e))
same_cut (t ∷ ts) (u ∷ us) a b ht hu ha hb e =
    let first = first_cut t u (flat_map ended ts ++ a) (flat_map ended us ++ b) ht.0 hu.0 (sym (first_ended t ts a) ∙ e ∙ first_ended u us b) in
    let rest = same_cut ts us a b ht.1 hu.1 ha hb first.1 in
    (ap₂ (λ (x : List ℕ) (xs : List (List ℕ)). x ∷ xs) first.0 rest.0, rest.1)

pub one_cut : OneCutLaw
one_cut bytes texts others rest other a b = same_cut texts others rest other a.split.1 b.split.1 a.split.0 b.split.0 (sym a.whole ∙ b.whole)

abbrev Cut : List ℕ → Type 0
Cut bytes = (texts : List (List ℕ)) × (rest : List ℕ) × AreLines bytes texts rest

pub cut : CutLaw
cut [] = ([], [], record { whole = refl; split = (refl, tt) })
cut (byte ∷ bytes) = go (byte == 10) refl (cut bytes)
  where
    more : (byte == 10) ≡ false → (texts : List (List ℕ)) (rest : List ℕ) → AreLines bytes texts rest → Cut (byte ∷ bytes)
    more other [] rest are = (
      [],
      byte ∷ rest,
      record {
        whole = ap (λ (l : List ℕ). byte ∷ l) are.whole;
        split = (and_from (is_other byte) (list_all is_other rest) (ap not other) are.split.0, tt);
      },
    )
    more other (text ∷ texts) rest are = (
      (byte ∷ text) ∷ texts,
      rest,
      record {
        whole = ap (λ (l : List ℕ). byte ∷ l) are.whole;
        split = (are.split.0, (and_from (is_other byte) (list_all is_other text) (ap not other) are.split.1.0, are.split.1.1));
      },
    )

    go : (b : Bool) → (byte == 10) ≡ b → Cut bytes → Cut (byte ∷ bytes)
    go true feed p = (
      [] ∷ p.0,
      p.1,
      record {
        whole = ap₂ (λ (x : ℕ) (l : List ℕ). x ∷ l) (eqb-true byte 10 feed) p.2.whole;
        split = (p.2.split.0, (refl, p.2.split.1));
      },
    )
    go false other p = more other p.0 p.1 p.2

-- ONE DERIVATION

ended_map : (lines : List Line) → bytes_of lines ≡ flat_map ended (map spelling lines) ++ []
ended_map [] = refl
ended_map (line ∷ lines) =
    ap (λ (l : List ℕ). ended (spelling line) ++ l) (ended_map lines) ∙ sym (assoc (ended (spelling line)) (flat_map ended (map spelling lines)) [])

same_lines : (xs ys : List Line) → AllByRecursion IsLine xs → AllByRecursion IsLine ys → map spelling xs ≡ map spelling ys → xs ≡ ys
same_lines [] [] a b e = refl
same_lines [] (y ∷ ys) a b e = absurd (cc)
same_lines (x ∷ xs) [] a b e = absurd (cc)
same_lines (x ∷ xs) (y ∷ ys) a b e =
    let head : spelling x ≡ spelling y = cc in
    let tail : map spelling xs ≡ map spelling ys = cc in
    ap₂ (λ (z : Line) (zs : List Line). z ∷ zs) (one_line x y a.0 b.0 head) (same_lines xs ys a.1 b.1 tail)

texts_of : (bytes : List ℕ) (header : Line) (lines : List Line) → IsDerivation bytes header lines → AreLines bytes (map spelling (header ∷ lines)) []
texts_of bytes header lines is = record {
  whole = is.whole ∙ ended_map (header ∷ lines);
  split = (refl, all_map spelling (header ∷ lines) spelled_in_one_line);
}

pub one_derivation : OneDerivationLaw
one_derivation bytes header other lines others a b =
    let texts = one_cut bytes (map spelling (header ∷ lines)) (map spelling (other ∷ others)) [] [] (texts_of bytes header lines a) (texts_of bytes other others b) in
    let same : header ∷ lines ≡ other ∷ others = same_lines (header ∷ lines) (other ∷ others) a.spelled b.spelled texts.0 in
    (let head : header ≡ other = cc in head, let tail : lines ≡ others = cc in tail)
