-- Marks, and the signs that words are.
use Rattle.std.proofs.Common.{◌≡◌, ℕ, Bool, true, false, ◌==◌, if◌then◌else◌, List, [], ◌∷◌, drop, Some, None, refl, sym, ◌∙◌, ap}
use Rattle.std.proofs.lemmas.Bool.{eqb-true}
use Rattle.grammar.specs.declared.mark.Mark.{Mark}
use Rattle.grammar.specs.declared.mark.Mark.TheVariants.{Dot, Dots, Comma, Semicolon, Colon, Arrow, Open, Close, OpenBrace, CloseBrace, Plus, Minus, Times, Divide, Remainder, At, And, Equal, NotEqual, Less, LessEqual, Greater, GreaterEqual}
use Rattle.grammar.specs.Word.{Word, mark_number, is_word, is_next}
use Rattle.grammar.specs.Word as word
use Rattle.grammar.specs.Term.{Adding, Multiplying, adding, multiplying, comma, adding_word, multiplying_word, comma_word}
use Rattle.grammar.specs.Term as term

-- the mark with a number
mark_by : ℕ → Mark
mark_by n =
    (if n == 0 then Dot
    else (if n == 1 then Dots
    else (if n == 2 then Comma
    else (if n == 3 then Semicolon
    else (if n == 4 then Colon
    else (if n == 5 then Arrow
    else (if n == 6 then Open
    else (if n == 7 then Close
    else (if n == 8 then OpenBrace
    else (if n == 9 then CloseBrace
    else (if n == 10 then Plus
    else (if n == 11 then Minus
    else (if n == 12 then Times
    else (if n == 13 then Divide
    else (if n == 14 then Remainder
    else (if n == 15 then At
    else (if n == 16 then And
    else (if n == 17 then Equal
    else (if n == 18 then NotEqual
    else (if n == 19 then Less
    else (if n == 20 then LessEqual
    else (if n == 21 then Greater
    else GreaterEqual))))))))))))))))))))))

mark_back : (m : Mark) → mark_by (mark_number m) ≡ m
unfolding mark_by
mark_back Dot = refl
mark_back Dots = refl
mark_back Comma = refl
mark_back Semicolon = refl
mark_back Colon = refl
mark_back Arrow = refl
mark_back Open = refl
mark_back Close = refl
mark_back OpenBrace = refl
mark_back CloseBrace = refl
mark_back Plus = refl
mark_back Minus = refl
mark_back Times = refl
mark_back Divide = refl
mark_back Remainder = refl
mark_back At = refl
mark_back And = refl
mark_back Equal = refl
mark_back NotEqual = refl
mark_back Less = refl
mark_back LessEqual = refl
mark_back Greater = refl
mark_back GreaterEqual = refl

same_number : (a b : ℕ) → (a == b) ≡ true → a ≡ b
same_number a b h = eqb-true a b h

same_mark : (a b : Mark) → (mark_number a == mark_number b) ≡ true → a ≡ b
same_mark a b h = sym (mark_back a) ∙ ap mark_by (same_number (mark_number a) (mark_number b) h) ∙ mark_back b

pub the_word : (m : Mark) (w : Word) → is_word m w ≡ true → w ≡ word.mark m
the_word m (word.mark other) h = ap word.mark (sym (same_mark m other h))
the_word m (word.numeral n) h = absurd cc
the_word m (word.name bytes) h = absurd cc
the_word m (word.variable bytes) h = absurd cc
the_word m word.anonymous h = absurd cc
the_word m (word.string bytes) h = absurd cc
the_word m word.negation h = absurd cc
the_word m word.const_word h = absurd cc
the_word m word.show_word h = absurd cc

pub the_next : (m : Mark) (words : List Word) → is_next m words ≡ true → words ≡ word.mark m ∷ drop 1 words
the_next m [] h = absurd cc
the_next m (w ∷ words) h = ap (λ v. v ∷ words) (the_word m w h)

-- a sign is the word that it is written with, and no other
pub adding_is : (s : Adding) → adding (adding_word s) ≡ Some s
adding_is term.plus = refl
adding_is term.minus = refl

pub adding_only : (w : Word) (s : Adding) → adding w ≡ Some s → w ≡ adding_word s
adding_only w s h = by (is_word Plus w) refl (is_word Minus w) refl h
  where
    by : (p : Bool) → is_word Plus w ≡ p → (q : Bool) → is_word Minus w ≡ q → (if p then Some term.plus else (if q then Some term.minus else None)) ≡ Some s → w ≡ adding_word s
    by true p q q' h = let e : term.plus ≡ s = cc in the_word Plus w p ∙ ap adding_word e
    by false p true q h = let e : term.minus ≡ s = cc in the_word Minus w q ∙ ap adding_word e
    by false p false q h = absurd cc

pub multiplying_is : (s : Multiplying) → multiplying (multiplying_word s) ≡ Some s
multiplying_is term.times = refl
multiplying_is term.divide = refl
multiplying_is term.remainder = refl

pub multiplying_only : (w : Word) (s : Multiplying) → multiplying w ≡ Some s → w ≡ multiplying_word s
multiplying_only w s h = by (is_word Times w) refl (is_word Divide w) refl (is_word Remainder w) refl h
  where
    by : (p : Bool) → is_word Times w ≡ p → (q : Bool) → is_word Divide w ≡ q → (r : Bool) → is_word Remainder w ≡ r
        → (if p then Some term.times else (if q then Some term.divide else (if r then Some term.remainder else None))) ≡ Some s → w ≡ multiplying_word s
    by true p q q' r r' h = let e : term.times ≡ s = cc in the_word Times w p ∙ ap multiplying_word e
    by false p true q r r' h = let e : term.divide ≡ s = cc in the_word Divide w q ∙ ap multiplying_word e
    by false p false q true r h = let e : term.remainder ≡ s = cc in the_word Remainder w r ∙ ap multiplying_word e
    by false p false q false r h = absurd cc

pub comma_is : (s : Unit {0}) → comma (comma_word s) ≡ Some s
comma_is s = refl

pub comma_only : (w : Word) (s : Unit {0}) → comma w ≡ Some s → w ≡ comma_word s
comma_only w s h = by (is_word Comma w) refl h
  where
    by : (p : Bool) → is_word Comma w ≡ p → (if p then Some tt else None) ≡ Some s → w ≡ comma_word s
    by true p h = the_word Comma w p
    by false p h = absurd cc
