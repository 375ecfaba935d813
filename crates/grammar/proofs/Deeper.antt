-- What is read where more may nest: the same, or past the place where it nested too deep.
use Rattle.std.proofs.Common.{◌≡◌, ℕ, zero, suc, ◌<◌, ◌≤◌, Bool, true, false, List, [], ◌∷◌, length, drop, Option, Some, None, Ok, Err, refl, sym, ap, subst, arith, if◌then◌else◌, ◌∙◌}
use Rattle.std.proofs.lemmas.List.{length-append, length-drop}
use Rattle.grammar.specs.declared.mark.Mark.{Mark}
use Rattle.grammar.specs.declared.mark.Mark.TheVariants as m
use Rattle.grammar.specs.Word.{Word, is_next}
use Rattle.grammar.specs.Word as word
use Rattle.grammar.specs.Term.{SumOf, TermOf, unary_words, operand_words, unary_goes_on, operand_goes_on, alone, interval, plain, applied, negated, number, text, variable, anonymous, atom, unit, group, single, tuple, multiplying, adding, comma}
use Rattle.grammar.specs.Reading.{Fault, Expected, TooDeep, Outcome, Reader, Level, and_then, expected, before, sign_at, tail_with, row_with, product_with, sum_with, term_with, args_with, opened, applied_with, negated_with, tuple_with, group_with, bracket_with, unary_with, level}
use Rattle.grammar.specs.Word.{Ends}
use Rattle.grammar.proofs.Lawful.{left, Lawful}
use Rattle.grammar.proofs.Levels.{operand_lawful}

-- so many words are left at most
abbrev pub Within : {A : Type 0} → ℕ → Outcome A → Type 0
Within n (Ok p) = length p.1 ≤ n
Within n (Err f) = left f ≤ n

abbrev pub Shrinks : {A : Type 0} → Reader A → Type 0
Shrinks read = (ts : List Word) → Within (length ts) (read ts)

abbrev pub Past : {A : Type 0} → ℕ → Outcome A → Type 0
Past k (Ok p) = length p.1 < k
Past k (Err f) = left f < k

abbrev pub After : {A B : Type 0} → Outcome A → Outcome B → Type 0
After {A} {B} (Ok p) q = (b : B) × (q ≡ Ok (b, p.1))
After (Err (Expected k)) q = q ≡ Err (Expected k)
After (Err (TooDeep k)) q = Past k q

abbrev pub Deeper : {A B : Type 0} → Reader A → Reader B → Type 0
Deeper read read2 = (ts : List Word) → After (read ts) (read2 ts)

-- ---- what is left
pub lawful_shrinks : {A : Type 0} (words : A → List Word → List Word) (goes_on : A → Word → Bool) (read : Reader A) → Lawful words goes_on read → Shrinks read
lawful_shrinks {A} words goes_on read law ts = by (read ts) refl
  where
    by : (r : Outcome A) → read ts ≡ r → Within (length ts) r
    by (Ok p) e = let s = law.sound ts p.0 p.1 e in let l = ap length s.0 in omega (arith, l, law.some p.0 p.1)
    by (Err f) e = let s = law.stuck ts f e in let l = ap length s.split in let l2 = length-append s.front s.after in let l3 = s.place in omega (arith, l, l2, l3)

pub within_less : {A : Type 0} (n k : ℕ) (r : Outcome A) → Within n r → n ≤ k → Within k r
within_less n k (Ok p) h l = omega (arith, h, l)
within_less n k (Err f) h l = omega (arith, h, l)

pub within_past : {A : Type 0} (n k : ℕ) (r : Outcome A) → Within n r → n < k → Past k r
within_past n k (Ok p) h l = omega (arith, h, l)
within_past n k (Err f) h l = omega (arith, h, l)

pub then_shrinks : {A B : Type 0} (n : ℕ) (r : Outcome A) (f : A → Reader B) → Within n r → ((a : A) → Shrinks (f a)) → Within n (and_then r f)
then_shrinks n (Ok p) f h g = within_less (length p.1) n (f p.0 p.1) (g p.0 p.1) h
then_shrinks n (Err e) f h g = h

pub drop_shorter : (ts : List Word) → length (drop 1 ts) ≤ length ts
drop_shorter ts = let e = length-drop 1 ts in omega (arith, e)

pub before_shrinks : {A : Type 0} (mark : Mark) (a : A) → Shrinks (before mark a)
before_shrinks {A} mark a ts = by (is_next mark ts)
  where
    by : (b : Bool) → Within {A = A} (length ts) (if b then Ok (a, drop 1 ts) else expected ts)
    by true = drop_shorter ts
    by false = omega arith

-- ---- and then
pub then_deeper : {A A2 B B2 : Type 0} (r : Outcome A) (q : Outcome A2) (f : A → Reader B) (f2 : A2 → Reader B2) → After r q
    → ((a : A) (a2 : A2) (ts : List Word) → After (f a ts) (f2 a2 ts)) → ((a2 : A2) → Shrinks (f2 a2)) → After (and_then r f) (and_then q f2)
then_deeper (Ok p) q f f2 h g s = subst (λ z. After (f p.0 p.1) (and_then z f2)) (sym h.1) (g p.0 h.0 p.1)
then_deeper (Err (Expected k)) q f f2 h g s = ap (λ z. and_then z f2) h
then_deeper (Err (TooDeep k)) (Ok p) f f2 h g s = within_past (length p.1) k (f2 p.0 p.1) (s p.0 p.1) h
then_deeper (Err (TooDeep k)) (Err e) f f2 h g s = h

pub if_deeper : {A B : Type 0} (b : Bool) (r r2 : Outcome A) (q q2 : Outcome B) → After r q → After r2 q2 → After (if b then r else r2) (if b then q else q2)
if_deeper true r r2 q q2 h g = h
if_deeper false r r2 q q2 h g = g

pub if_within : {A : Type 0} (n : ℕ) (b : Bool) (r r2 : Outcome A) → Within n r → Within n r2 → Within n (if b then r else r2)
if_within n true r r2 h g = h
if_within n false r r2 h g = g

pub before_deeper : {A B : Type 0} (mark : Mark) (a : A) (b : B) (ts : List Word) → After (before mark a ts) (before mark b ts)
before_deeper {A} {B} mark a b ts = if_deeper (is_next mark ts) (Ok (a, drop 1 ts)) (expected ts) (Ok (b, drop 1 ts)) (expected ts) (b, refl) refl

-- ---- rows
module _ {I S : Type 0} (item : Reader I) (sign : Word → Option S) (shrinks : Shrinks item) where
  tail_shrinks : (k : ℕ) (ts : List Word) → Within (length ts) (tail_with item sign k ts)
  unfolding tail_with
  tail_shrinks zero ts = omega arith
  tail_shrinks (suc k) ts = by (sign_at sign ts) (λ us. tail_shrinks k us)
    where
      by : (s : Option S) → ((us : List Word) → Within (length us) (tail_with item sign k us))
          → Within (length ts) (elim s [ Some s ↦ and_then (item (drop 1 ts)) (λ x rest. and_then (tail_with item sign k rest) (λ parts after. Ok ((s, x) ∷ parts, after))) | None ↦ Ok ([], ts) ])
      by None next = omega arith
      by (Some s) next =
          then_shrinks (length ts) (item (drop 1 ts)) _ (within_less (length (drop 1 ts)) (length ts) (item (drop 1 ts)) (shrinks (drop 1 ts)) (drop_shorter ts))
          (λ x rest. then_shrinks (length rest) (tail_with item sign k rest) _ (next rest) (λ ps after. omega arith))

  pub row_shrinks : Shrinks (row_with item sign)
  unfolding row_with
  row_shrinks ts =
      then_shrinks (length ts) (item ts) _ (shrinks ts)
      (λ x rest. then_shrinks (length rest) (tail_with item sign (length rest) rest) _ (tail_shrinks (length rest) rest) (λ ps after. omega arith))

  abbrev turn : ℕ → S → I → Reader (List (S × I))
  turn n s x rest = and_then (tail_with item sign n rest) (λ parts after. Ok ((s, x) ∷ parts, after))

  -- one turn, by the sign
  abbrev by_sign : ℕ → Word → List Word → Option S → Outcome (List (S × I))
  by_sign n w ts found = elim found [ Some s ↦ and_then (item ts) (turn n s) | None ↦ Ok ([], w ∷ ts) ]

  -- more turns than words change nothing
  pub tail_same : (k j : ℕ) (ts : List Word) → length ts ≤ k → length ts ≤ j → tail_with item sign k ts ≡ tail_with item sign j ts
  unfolding tail_with
  tail_same zero zero ts l g = refl
  tail_same zero (suc j) [] l g = refl
  tail_same zero (suc j) (w ∷ ts) l g = absurd (omega (arith, l))
  tail_same (suc k) zero [] l g = refl
  tail_same (suc k) zero (w ∷ ts) l g = absurd (omega (arith, g))
  tail_same (suc k) (suc j) [] l g = refl
  tail_same (suc k) (suc j) (w ∷ ts) l g = by (sign w) (λ us a b. tail_same k j us a b)
    where
      two : (s : S) (r : Outcome I) → Within (length ts) r → ((us : List Word) → length us ≤ k → length us ≤ j → tail_with item sign k us ≡ tail_with item sign j us)
          → and_then r (turn k s) ≡ and_then r (turn j s)
      two s (Ok p) w next = ap (λ q. and_then q (λ parts after. Ok ((s, p.0) ∷ parts, after))) (next p.1 (omega (arith, w, l)) (omega (arith, w, g)))
      two s (Err f) w next = refl

      by : (s : Option S) → ((us : List Word) → length us ≤ k → length us ≤ j → tail_with item sign k us ≡ tail_with item sign j us)
          → by_sign k w ts s ≡ by_sign j w ts s
      by None next = refl
      by (Some s) next = two s (item ts) (shrinks ts) next

  abbrev pub whole_tail : Reader (List (S × I))
  whole_tail ts = tail_with item sign (length ts) ts

  pub tail_none : (ts : List Word) → sign_at sign ts ≡ None → whole_tail ts ≡ Ok ([], ts)
  unfolding tail_with
  tail_none [] h = refl
  tail_none (w ∷ ts) h = ap (by_sign (length ts) w ts) h

  pub tail_some : (ts : List Word) (s : S) (x : I) (rest : List Word) → sign_at sign ts ≡ Some s → item (drop 1 ts) ≡ Ok (x, rest)
      → whole_tail ts ≡ and_then (whole_tail rest) (λ parts after. Ok ((s, x) ∷ parts, after))
  unfolding tail_with
  tail_some [] s x rest h g = absurd cc
  tail_some (w ∷ ts) s x rest h g =
      let short : Within (length ts) (Ok (x, rest)) = subst (Within (length ts)) g (shrinks ts) in
      ap (by_sign (length ts) w ts) h
      ∙ ap (λ r. and_then r (turn (length ts) s)) g
      ∙ ap (λ r. and_then r (λ parts after. Ok ((s, x) ∷ parts, after))) (tail_same (length ts) (length rest) rest short (omega arith))

  pub tail_err : (ts : List Word) (s : S) (f : Fault) → sign_at sign ts ≡ Some s → item (drop 1 ts) ≡ Err f → whole_tail ts ≡ Err f
  unfolding tail_with
  tail_err [] s f h g = absurd cc
  tail_err (w ∷ ts) s f h g =
      ap (by_sign (length ts) w ts) h
      ∙ ap (λ r. and_then r (turn (length ts) s)) g

module _ {I I2 S : Type 0} (item : Reader I) (item2 : Reader I2) (sign : Word → Option S) (deeper : Deeper item item2) (shrinks : Shrinks item2) where
  tail_deeper : (k : ℕ) (ts : List Word) → After (tail_with item sign k ts) (tail_with item2 sign k ts)
  unfolding tail_with
  tail_deeper zero ts = ([], refl)
  tail_deeper (suc k) ts = by (sign_at sign ts) (λ us. tail_deeper k us)
    where
      by : (s : Option S) → ((us : List Word) → After (tail_with item sign k us) (tail_with item2 sign k us))
          → After (elim s [ Some s ↦ and_then (item (drop 1 ts)) (λ x rest. and_then (tail_with item sign k rest) (λ parts after. Ok ((s, x) ∷ parts, after))) | None ↦ Ok ([], ts) ])
          (elim s [ Some s ↦ and_then (item2 (drop 1 ts)) (λ x rest. and_then (tail_with item2 sign k rest) (λ parts after. Ok ((s, x) ∷ parts, after))) | None ↦ Ok ([], ts) ])
      by None next = ([], refl)
      by (Some s) next =
          then_deeper (item (drop 1 ts)) (item2 (drop 1 ts)) _ _ (deeper (drop 1 ts))
          (λ x x2 rest. then_deeper (tail_with item sign k rest) (tail_with item2 sign k rest) _ _ (next rest) (λ ps ps2 after. ((s, x2) ∷ ps2, refl)) (λ ps2 after. omega arith))
          (λ x2 rest. then_shrinks (length rest) (tail_with item2 sign k rest) _ (tail_shrinks item2 sign shrinks k rest) (λ ps2 after. omega arith))

  pub row_deeper : Deeper (row_with item sign) (row_with item2 sign)
  unfolding row_with
  row_deeper ts =
      then_deeper (item ts) (item2 ts) _ _ (deeper ts)
      (λ x x2 rest. then_deeper (tail_with item sign (length rest) rest) (tail_with item2 sign (length rest) rest) _ _ (tail_deeper (length rest) rest)
      (λ ps ps2 after. (record { first = x2; rest = ps2 }, refl)) (λ ps2 after. omega arith))
      (λ x2 rest. then_shrinks (length rest) (tail_with item2 sign (length rest) rest) _ (tail_shrinks item2 sign shrinks (length rest) rest) (λ ps2 after. omega arith))

-- ---- terms
module _ {U : Type 0} (read : Reader U) (shrinks : Shrinks read) where
  pub sum_shrinks : Shrinks (sum_with read)
  sum_shrinks = row_shrinks (product_with read) adding (row_shrinks read multiplying shrinks)

  abbrev behind_sum : SumOf U → Reader (TermOf U)
  behind_sum s rest = (if is_next m.Dots rest then and_then (sum_with read (drop 1 rest)) (λ right after. Ok (interval s right, after)) else Ok (alone s, rest))

  pub behind_shrinks : (s : SumOf U) → Shrinks (behind_sum s)
  behind_shrinks s rest =
      if_within (length rest) (is_next m.Dots rest) _ _
      (then_shrinks (length rest) (sum_with read (drop 1 rest)) _ (within_less (length (drop 1 rest)) (length rest) (sum_with read (drop 1 rest)) (sum_shrinks (drop 1 rest)) (drop_shorter rest)) (λ b after. omega arith))
      (omega arith)

  pub term_shrinks : Shrinks (term_with read)
  unfolding term_with
  term_shrinks ts = then_shrinks (length ts) (sum_with read ts) _ (sum_shrinks ts) behind_shrinks

  pub args_shrinks : Shrinks (args_with read)
  args_shrinks = row_shrinks (term_with read) comma term_shrinks

module _ {U V : Type 0} (read : Reader U) (read2 : Reader V) (deeper : Deeper read read2) (shrinks : Shrinks read2) where
  pub sum_deeper : Deeper (sum_with read) (sum_with read2)
  sum_deeper = row_deeper (product_with read) (product_with read2) adding (row_deeper read read2 multiplying deeper shrinks) (row_shrinks read2 multiplying shrinks)

  pub term_deeper : Deeper (term_with read) (term_with read2)
  unfolding term_with
  term_deeper ts =
      then_deeper (sum_with read ts) (sum_with read2 ts) _ _ (sum_deeper ts)
      (λ a a2 rest. if_deeper (is_next m.Dots rest) _ _ _ _
      (then_deeper (sum_with read (drop 1 rest)) (sum_with read2 (drop 1 rest)) _ _ (sum_deeper (drop 1 rest)) (λ b b2 after. (interval a2 b2, refl)) (λ b2 after. omega arith))
      (alone a2, refl))
      (behind_shrinks read2 shrinks)

  pub args_deeper : Deeper (args_with read) (args_with read2)
  args_deeper = row_deeper (term_with read) (term_with read2) comma term_deeper (term_shrinks read2 shrinks)

-- ---- operands
-- the first level may be the last
abbrev pub LevelDeeper : {D R D' R' : Type 0} → Level D R → R' × Reader D' → Type 0
LevelDeeper None inner2 = Unit {0}
LevelDeeper (Some inner) inner2 = Deeper inner.1 inner2.1

module _ {D' R' : Type 0} (inner2 : R' × Reader D') (shrinks : Shrinks inner2.1) where
  opened_deeper : {D R A A2 : Type 0} (level : Level D R) (f : R × Reader D → Reader A) (f2 : Reader A2) → LevelDeeper level inner2
      → ((inner : R × Reader D) → Deeper inner.1 inner2.1 → Deeper (f inner) f2) → Shrinks f2 → (ts : List Word) → After (opened level f ts) (f2 ts)
  opened_deeper None f f2 h g s ts = within_past (length ts) (suc (length ts)) (f2 ts) (s ts) (omega arith)
  opened_deeper (Some inner) f f2 h g s ts = g inner h ts

  applied_shrinks : (name : List ℕ) → Shrinks (applied_with {R = R'} name inner2)
  applied_shrinks name ts = then_shrinks (length ts) (args_with inner2.1 ts) _ (args_shrinks inner2.1 shrinks ts) (λ a. before_shrinks m.Close (atom (applied name a)))

  negated_shrinks : Shrinks (negated_with inner2)
  negated_shrinks ts = then_shrinks (length ts) (inner2.1 ts) _ (shrinks ts) (λ d rest. omega arith)

  tuple_shrinks : (t : TermOf D') → Shrinks (tuple_with inner2 t)
  unfolding tuple_with
  tuple_shrinks t ts =
      if_within (length ts) (is_next m.Close ts) _ _ (drop_shorter ts)
      (then_shrinks (length ts) (args_with inner2.1 ts) _ (args_shrinks inner2.1 shrinks ts) (λ a. before_shrinks m.Close (tuple t a)))

  group_shrinks : (t : TermOf D') → Shrinks (group_with inner2 t)
  unfolding group_with
  group_shrinks t ts =
      if_within (length ts) (is_next m.Close ts) _ _ (drop_shorter ts)
      (if_within (length ts) (is_next m.Comma ts) _ _ (within_less (length (drop 1 ts)) (length ts) (tuple_with inner2 t (drop 1 ts)) (tuple_shrinks t (drop 1 ts)) (drop_shorter ts)) (omega arith))

  bracket_shrinks : Shrinks (bracket_with inner2)
  unfolding bracket_with
  bracket_shrinks ts =
      if_within (length ts) (is_next m.Close ts) _ _ (drop_shorter ts)
      (then_shrinks (length ts) (term_with inner2.1 ts) (group_with inner2) (term_shrinks inner2.1 shrinks ts) group_shrinks)

  module _ {D R : Type 0} (inner : R × Reader D) (deeper : Deeper inner.1 inner2.1) where
    applied_deeper : (name : List ℕ) → Deeper (applied_with {R = R} name inner) (applied_with {R = R'} name inner2)
    applied_deeper name ts =
        then_deeper (args_with inner.1 ts) (args_with inner2.1 ts) _ _ (args_deeper inner.1 inner2.1 deeper shrinks ts)
        (λ a a2 rest. before_deeper m.Close (atom (applied name a)) (atom (applied name a2)) rest) (λ a2. before_shrinks m.Close (atom (applied name a2)))

    negated_deeper : Deeper (negated_with inner) (negated_with inner2)
    negated_deeper ts = then_deeper (inner.1 ts) (inner2.1 ts) _ _ (deeper ts) (λ d d2 rest. (negated d2, refl)) (λ d2 rest. omega arith)

    tuple_deeper : (t : TermOf D) (t2 : TermOf D') → Deeper (tuple_with inner t) (tuple_with inner2 t2)
    unfolding tuple_with
    tuple_deeper t t2 ts =
        if_deeper (is_next m.Close ts) _ _ _ _ (single t2, refl)
        (then_deeper (args_with inner.1 ts) (args_with inner2.1 ts) _ _ (args_deeper inner.1 inner2.1 deeper shrinks ts)
        (λ a a2 rest. before_deeper m.Close (tuple t a) (tuple t2 a2) rest) (λ a2. before_shrinks m.Close (tuple t2 a2)))

    group_deeper : (t : TermOf D) (t2 : TermOf D') → Deeper (group_with inner t) (group_with inner2 t2)
    unfolding group_with
    group_deeper t t2 ts = if_deeper (is_next m.Close ts) _ _ _ _ (group t2, refl) (if_deeper (is_next m.Comma ts) _ _ _ _ (tuple_deeper t t2 (drop 1 ts)) refl)

    bracket_deeper : Deeper (bracket_with inner) (bracket_with inner2)
    unfolding bracket_with
    bracket_deeper ts =
        if_deeper (is_next m.Close ts) _ _ _ _ (unit inner2.0, refl)
        (then_deeper (term_with inner.1 ts) (term_with inner2.1 ts) (group_with inner) (group_with inner2) (term_deeper inner.1 inner2.1 deeper shrinks ts) group_deeper group_shrinks)

  pub unary_deeper : {D R : Type 0} (level : Level D R) → LevelDeeper level inner2 → Deeper (unary_with level) (unary_with (Some inner2))
  unfolding unary_with
  unary_deeper level h [] = refl
  unary_deeper level h (word.numeral n ∷ ts) = (number n, refl)
  unary_deeper level h (word.string bytes ∷ ts) = (text bytes, refl)
  unary_deeper level h (word.variable name ∷ ts) = (variable name, refl)
  unary_deeper level h (word.anonymous ∷ ts) = (anonymous, refl)
  unary_deeper level h (word.name name ∷ ts) =
      if_deeper (is_next m.Open ts) _ _ _ _ (opened_deeper level (applied_with name) (applied_with name inner2) h (λ inner d. applied_deeper inner d name) (applied_shrinks name) (drop 1 ts)) (atom (plain name), refl)
  unary_deeper level h (word.mark m.Minus ∷ ts) = opened_deeper level negated_with (negated_with inner2) h negated_deeper negated_shrinks ts
  unary_deeper level h (word.mark m.Open ∷ ts) = opened_deeper level bracket_with (bracket_with inner2) h bracket_deeper bracket_shrinks ts
  unary_deeper level h (w ∷ ts) = refl

-- ---- levels
level_shrinks : (n : ℕ) → Shrinks (unary_with (level n))
level_shrinks n = lawful_shrinks (unary_words (operand_words n)) (unary_goes_on (operand_goes_on n)) (unary_with (level n)) (operand_lawful n)

level_deeper : (n : ℕ) → LevelDeeper (level n) (tt {0}, unary_with (level n))
level_deeper zero = tt
level_deeper (suc n) = unary_deeper (tt {0}, unary_with (level n)) (level_shrinks n) (level n) (level_deeper n)

pub operand_deeper : (n : ℕ) → Deeper (unary_with (level n)) (unary_with (level (suc n)))
operand_deeper n = unary_deeper (tt {0}, unary_with (level n)) (level_shrinks n) (level n) (level_deeper n)

pub operand_shrinks : (n : ℕ) → Shrinks (unary_with (level n))
operand_shrinks = level_shrinks
