-- The signs of statements, numbers, and a dot alone.
use Rattle.std.proofs.Common.{◌≡◌, ℕ, Bool, true, false, if◌then◌else◌, List, [], ◌∷◌, Some, None, Ok, Err, refl, sym, ◌∙◌, ap, length, arith}
use Rattle.grammar.specs.declared.mark.Mark.TheVariants as m
use Rattle.grammar.specs.Word.{Word, Ends, is_word, is_next}
use Rattle.grammar.specs.Word as word
use Rattle.grammar.specs.Statement.{Separating, by_comma, by_semicolon, separating, separating_word}
use Rattle.grammar.specs.Reading.{Fault}
use Rattle.grammar.specs.StatementReading.{const_sign, show_sign, numeral_with, mark_with}
use Rattle.grammar.proofs.WordLemmas.{the_word}
use Rattle.grammar.proofs.Lawful.{left, Refuses, Lawful, ok_parts, expected_left, before_ok, before_err, before_refuses, never_on, next_same}

-- ---- signs
abbrev pub const_text : Unit {0} → Word
const_text sign = word.const_word

pub const_is : (s : Unit {0}) → const_sign (const_text s) ≡ Some s
const_is s = refl

pub const_only : (w : Word) (s : Unit {0}) → const_sign w ≡ Some s → w ≡ const_text s
const_only word.const_word s h = refl
const_only _ s h = absurd cc

abbrev pub show_text : Unit {0} → Word
show_text sign = word.show_word

pub show_is : (s : Unit {0}) → show_sign (show_text s) ≡ Some s
show_is s = refl

pub show_only : (w : Word) (s : Unit {0}) → show_sign w ≡ Some s → w ≡ show_text s
show_only word.show_word s h = refl
show_only _ s h = absurd cc

pub separating_is : (s : Separating) → separating (separating_word s) ≡ Some s
separating_is by_comma = refl
separating_is by_semicolon = refl

pub separating_only : (w : Word) (s : Separating) → separating w ≡ Some s → w ≡ separating_word s
separating_only w s h = by (is_word m.Comma w) refl (is_word m.Semicolon w) refl h
  where
    by : (p : Bool) → is_word m.Comma w ≡ p → (q : Bool) → is_word m.Semicolon w ≡ q → (if p then Some by_comma else (if q then Some by_semicolon else None)) ≡ Some s → w ≡ separating_word s
    by true p q q' h = let e : by_comma ≡ s = cc in the_word m.Comma w p ∙ ap separating_word e
    by false p true q h = let e : by_semicolon ≡ s = cc in the_word m.Semicolon w q ∙ ap separating_word e
    by false p false q h = absurd cc

-- ---- numbers
abbrev pub numeral_words : ℕ → List Word → List Word
numeral_words n rest = word.numeral n ∷ rest

abbrev pub numeral_on : ℕ → Word → Bool
numeral_on n next = false

numeral_sound : (ts : List Word) (n : ℕ) (rest : List Word) → numeral_with ts ≡ Ok (n, rest) → (ts ≡ numeral_words n rest) × Ends (numeral_on n) rest
numeral_sound [] n rest h = absurd cc
numeral_sound (word.numeral k ∷ ts) n rest h = let p = ok_parts k n ts rest h in (ap (λ z. word.numeral z ∷ ts) p.0 ∙ ap (λ z. word.numeral n ∷ z) p.1, never_on rest)
numeral_sound (_ ∷ ts) n rest h = absurd cc

no_numeral : (ts : List Word) (f : Fault) → numeral_with ts ≡ Err f → left f ≡ length ts
no_numeral [] f h = expected_left {A = ℕ} [] f h
no_numeral (word.numeral k ∷ ts) f h = absurd cc
no_numeral (w ∷ ts) f h = expected_left {A = ℕ} (w ∷ ts) f h

numeral_refuses : (x : Word) (r : List Word) (f : Fault) (next : List Word) → numeral_with (x ∷ r) ≡ Err f → Refuses numeral_with (x ∷ next)
numeral_refuses (word.numeral k) r f next h y g = absurd cc
numeral_refuses _ r f next h y g = absurd cc

pub numeral_law : Lawful numeral_words numeral_on numeral_with
numeral_law = record {
  parted = λ n x y. refl;
  some = λ n rest. omega arith;
  sound = numeral_sound;
  complete = λ n rest h. refl;
  stuck = λ ts f h. record {
    front = [];
    after = ts;
    split = refl;
    place = no_numeral ts f h;
    goes = 0;
    more = word.numeral 0 ∷ [];
    begins = refl;
    local = λ x r next e. numeral_refuses x r f next (sym (ap numeral_with e) ∙ h);
  };
}

-- ---- a dot alone
abbrev pub dot_words : Unit {0} → List Word → List Word
dot_words dot rest = word.mark m.Dot ∷ rest

abbrev pub dot_on : Unit {0} → Word → Bool
dot_on dot next = false

pub dot_law : Lawful dot_words dot_on (mark_with m.Dot)
dot_law = record {
  parted = λ dot x y. refl;
  some = λ dot rest. omega arith;
  sound = λ ts dot rest h. ((before_ok m.Dot tt dot ts rest h).0, never_on rest);
  complete = λ dot rest h. refl;
  stuck = λ ts f h. let gone = before_err m.Dot tt ts f h in record {
    front = [];
    after = ts;
    split = refl;
    place = gone.place;
    goes = tt;
    more = word.mark m.Dot ∷ [];
    begins = refl;
    local = λ x r next e. before_refuses m.Dot tt (x ∷ next) (next_same m.Dot x r next ts e gone.other);
  };
}
