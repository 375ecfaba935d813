-- Operands are lawful at every depth.
use Rattle.std.proofs.Common.{◌≡◌, ℕ, zero, suc, ◌<◌, Bool, true, false, List, [], ◌∷◌, ◌++◌, length, drop, Some, None, Ok, Err, refl, sym, ◌∙◌, ap, subst, arith}
use Rattle.grammar.specs.declared.mark.Mark.TheVariants as m
use Rattle.grammar.specs.Word.{Word, is_word, is_next}
use Rattle.grammar.specs.Word as word
use Rattle.grammar.specs.Term.{TermOf, UnaryOf, UnaryAt, plain, applied, negated, number, text, variable, anonymous, atom, unit, group, single, tuple, unary_words, operand_words, unary_goes_on, operand_goes_on, alone, interval}
use Rattle.grammar.specs.Reading.{Fault, TooDeep, Outcome, Level, unary_with, level}
use Rattle.grammar.proofs.WordLemmas.{the_next}
use Rattle.grammar.specs.Word.{Ends}
use Rattle.grammar.proofs.Lawful.{left, Lawful, ok_parts, err_of, err_same, expected_left, never_on}
use Rattle.grammar.proofs.Operands.{LevelLaw, IsUnary, IsStuck, opening, minus, plain_by, plain_ends, ends_plain, one_sound, nothing, nothing_at_all, unary_closed, unary_only, unary_lawful}

module _ {D R : Type 0} (words : D → List Word → List Word) (goes_on : D → Word → Bool) (no_operand : D → ⊥) (no_room : R → ⊥) where
  abbrev last : Level D R
  last = None

  no_term : TermOf D → ⊥
  no_term (alone s) = no_operand s.first.first
  no_term (interval a b) = no_operand a.first.first

  last_complete : (u : UnaryOf D R) (rest : List Word) → Ends (unary_goes_on goes_on u) rest → unary_with last (unary_words words u rest) ≡ Ok (u, rest)
  unfolding unary_with
  last_complete (negated d) rest h = absurd (no_operand d)
  last_complete (number n) rest h = refl
  last_complete (text bytes) rest h = refl
  last_complete (variable name) rest h = refl
  last_complete anonymous rest h = refl
  last_complete (atom (plain name)) rest h = plain_by words goes_on last name rest (plain_ends words goes_on last rest h)
  last_complete (atom (applied name a)) rest h = absurd (no_term a.first)
  last_complete (unit room) rest h = absurd (no_room room)
  last_complete (group t) rest h = absurd (no_term t)
  last_complete (single t) rest h = absurd (no_term t)
  last_complete (tuple t a) rest h = absurd (no_term t)

  abbrev Found : List Word → UnaryOf D R → List Word → Type 0
  Found ts u rest = IsUnary words goes_on last ts u rest

  abbrev gives : UnaryOf D R → List Word → Outcome (UnaryOf D R)
  gives u rest = Ok (u, rest)

  deep_name : (name : List ℕ) (ts : List Word) → unary_with last (word.name name ∷ opening ∷ ts) ≡ Err (TooDeep (suc (length ts)))
  unfolding unary_with
  deep_name name ts = refl

  name_sound : (name : List ℕ) (ts : List Word) (u : UnaryOf D R) (rest : List Word) → unary_with last (word.name name ∷ ts) ≡ gives u rest → Found (word.name name ∷ ts) u rest
  name_sound name ts u rest h = by (is_next m.Open ts) refl
    where
      by : (o : Bool) → is_next m.Open ts ≡ o → Found (word.name name ∷ ts) u rest
      by true o = let g = sym (deep_name name (drop 1 ts)) ∙ ap (λ z. unary_with last (word.name name ∷ z)) (sym (the_next m.Open ts o)) ∙ h in absurd cc
      by false o =
          let p = ok_parts (atom (plain name)) u ts rest (sym (plain_by words goes_on last name ts o) ∙ h) in
          subst (λ z. Found (word.name name ∷ ts) z rest) p.0 (ap (λ r. word.name name ∷ r) p.1, subst (Ends (is_word m.Open)) p.1 (ends_plain words goes_on last ts o))

  last_sound : (ts : List Word) (u : UnaryOf D R) (rest : List Word) → unary_with last ts ≡ Ok (u, rest) → Found ts u rest
  unfolding unary_with
  last_sound [] u rest h = absurd cc
  last_sound (word.numeral n ∷ ts) u rest h = one_sound words goes_on last (word.numeral n) (number n) u ts rest refl never_on h
  last_sound (word.string bytes ∷ ts) u rest h = one_sound words goes_on last (word.string bytes) (text bytes) u ts rest refl never_on h
  last_sound (word.variable name ∷ ts) u rest h = one_sound words goes_on last (word.variable name) (variable name) u ts rest refl never_on h
  last_sound (word.anonymous ∷ ts) u rest h = one_sound words goes_on last word.anonymous anonymous u ts rest refl never_on h
  last_sound (word.name name ∷ ts) u rest h = name_sound name ts u rest h
  last_sound (word.mark m.Minus ∷ ts) u rest h = absurd cc
  last_sound (word.mark m.Open ∷ ts) u rest h = absurd cc
  last_sound (_ ∷ ts) u rest h = absurd cc

  abbrev Halts : List Word → Fault → Type 0
  Halts ts f = IsStuck words goes_on last ts f

  deep_left : (k : ℕ) (f : Fault) → err_of {A = UnaryOf D R} (TooDeep k) ≡ err_of {A = UnaryOf D R} f → left f ≡ k
  deep_left k f h = ap left (sym (err_same {A = UnaryOf D R} (TooDeep k) f h))

  name_stuck : (name : List ℕ) (ts : List Word) (f : Fault) → unary_with last (word.name name ∷ ts) ≡ Err f → Halts (word.name name ∷ ts) f
  name_stuck name ts f h = by (is_next m.Open ts) refl
    where
      by : (o : Bool) → is_next m.Open ts ≡ o → Halts (word.name name ∷ ts) f
      by false o = let g = sym (plain_by words goes_on last name ts o) ∙ h in absurd cc
      by true o =
          let there = the_next m.Open ts o in
          let len = ap length there in
          let place = deep_left (suc (length (drop 1 ts))) f (sym (deep_name name (drop 1 ts)) ∙ ap (λ z. unary_with last (word.name name ∷ z)) (sym there) ∙ h) in
          record {
            front = word.name name ∷ [];
            after = ts;
            split = refl;
            place = omega (arith, len, place);
            goes = atom (plain name);
            more = [];
            begins = refl;
            local = λ x r next e y q.
                let same : opening ≡ x = ap (λ z. first_word z) (sym there ∙ e) in
                let g = sym (deep_name name next) ∙ ap (λ z. unary_with last (word.name name ∷ z ∷ next)) same ∙ q in absurd cc;
          }
        where
          first_word : List Word → Word
          first_word [] = opening
          first_word (w ∷ ws) = w

  last_stuck : (ts : List Word) (f : Fault) → unary_with last ts ≡ Err f → Halts ts f
  unfolding unary_with
  last_stuck [] f h = nothing_at_all words goes_on last f (expected_left {A = UnaryOf D R} [] f h)
  last_stuck (word.numeral n ∷ ts) f h = absurd cc
  last_stuck (word.string bytes ∷ ts) f h = absurd cc
  last_stuck (word.variable name ∷ ts) f h = absurd cc
  last_stuck (word.anonymous ∷ ts) f h = absurd cc
  last_stuck (word.name name ∷ ts) f h = name_stuck name ts f h
  last_stuck (word.mark m.Minus ∷ ts) f h = nothing words goes_on last minus ts f (let p = deep_left (suc (length ts)) f h in omega (arith, p)) (λ next y q. absurd cc)
  last_stuck (word.mark m.Open ∷ ts) f h = nothing words goes_on last opening ts f (let p = deep_left (suc (length ts)) f h in omega (arith, p)) (λ next y q. absurd cc)
  last_stuck (w ∷ ts) f h = nothing words goes_on last w ts f (expected_left {A = UnaryOf D R} (w ∷ ts) f h) (λ next y q. absurd cc)

  last_parted : (u : UnaryOf D R) (x y : List Word) → unary_words words u (x ++ y) ≡ unary_words words u x ++ y
  last_parted (negated d) x y = absurd (no_operand d)
  last_parted (number n) x y = refl
  last_parted (text bytes) x y = refl
  last_parted (variable name) x y = refl
  last_parted anonymous x y = refl
  last_parted (atom (plain name)) x y = refl
  last_parted (atom (applied name a)) x y = absurd (no_term a.first)
  last_parted (unit room) x y = refl
  last_parted (group t) x y = absurd (no_term t)
  last_parted (single t) x y = absurd (no_term t)
  last_parted (tuple t a) x y = absurd (no_term t)

  last_some : (u : UnaryOf D R) (rest : List Word) → length rest < length (unary_words words u rest)
  last_some (negated d) rest = absurd (no_operand d)
  last_some (number n) rest = omega arith
  last_some (text bytes) rest = omega arith
  last_some (variable name) rest = omega arith
  last_some anonymous rest = omega arith
  last_some (atom (plain name)) rest = omega arith
  last_some (atom (applied name a)) rest = absurd (no_term a.first)
  last_some (unit room) rest = omega arith
  last_some (group t) rest = absurd (no_term t)
  last_some (single t) rest = absurd (no_term t)
  last_some (tuple t a) rest = absurd (no_term t)

  last_lawful : Lawful (unary_words words) (unary_goes_on goes_on) (unary_with last)
  last_lawful = record { parted = last_parted; some = last_some; sound = last_sound; complete = last_complete; stuck = last_stuck }

-- ---- at every level
unary_law : {D R : Type 0} (words : D → List Word → List Word) (goes_on : D → Word → Bool) (level : Level D R) → LevelLaw words goes_on level → Lawful (unary_words words) (unary_goes_on goes_on) (unary_with level)
unary_law words goes_on None h = last_lawful words goes_on h.0 h.1
unary_law words goes_on (Some inner) h = unary_lawful words goes_on inner h

only_law : {D R : Type 0} (words : D → List Word → List Word) (goes_on : D → Word → Bool) (level : Level D R) → LevelLaw words goes_on level
    → (u : UnaryOf D R) (w : Word) → is_word m.Open w ≡ false → unary_goes_on goes_on u w ≡ false
only_law words goes_on None h = unary_only words goes_on None (λ d w e. absurd (h.0 d))
only_law words goes_on (Some inner) h = unary_only words goes_on (Some inner) h.only_open

level_law : (n : ℕ) → LevelLaw (operand_words n) (operand_goes_on n) (level n)
level_law zero = (λ d. d, λ r. r)
level_law (suc n) = record {
  law = unary_law (operand_words n) (operand_goes_on n) (level n) (level_law n);
  only_open = only_law (operand_words n) (operand_goes_on n) (level n) (level_law n);
  closed = unary_closed (operand_words n) (operand_goes_on n) (level n);
  rooms = λ r. refl;
}

pub operand_lawful : (n : ℕ) → Lawful (unary_words (operand_words n)) (unary_goes_on (operand_goes_on n)) (unary_with (level n))
operand_lawful n = unary_law (operand_words n) (operand_goes_on n) (level n) (level_law n)

pub operand_only : (n : ℕ) (u : UnaryAt n) (w : Word) → is_word m.Open w ≡ false → unary_goes_on (operand_goes_on n) u w ≡ false
operand_only n = only_law (operand_words n) (operand_goes_on n) (level n) (level_law n)
