-- Operands are lawful where those of the level inside are.
use Rattle.std.proofs.Common.{◌≡◌, ℕ, ◌<◌, Bool, true, false, ◌⊎◌, inl, inr, List, [], ◌∷◌, ◌++◌, length, drop, Some, None, Ok, Err, refl, sym, ◌∙◌, ap, subst, arith, if◌then◌else◌}
use Rattle.grammar.specs.declared.mark.Mark.TheVariants as m
use Rattle.grammar.specs.Word.{Word, is_word, is_next}
use Rattle.grammar.specs.Word as word
use Rattle.grammar.specs.Term.{TermOf, ArgsOf, UnaryOf, plain, applied, negated, number, text, variable, anonymous, atom, unit, group, single, tuple, term_words, args_words, unary_words, term_goes_on, args_go_on, unary_goes_on}
use Rattle.grammar.specs.Reading.{Fault, Expected, Outcome, Reader, Level, and_then, expected, before, term_with, args_with, tuple_with, group_with, bracket_with, unary_with}
use Rattle.grammar.proofs.WordLemmas.{the_next}
use Rattle.grammar.specs.Word.{Ends}
use Rattle.grammar.proofs.Lawful.{left, Refuses, Stuck, Lawful, ok_parts, bind_ok, bind_err, bind_by, expected_left, next_head, before_ok, before_err, before_refuses, stuck_inside, stuck_behind, not_true, never_on, next_is, next_same}
use Rattle.grammar.proofs.Terms.{term_lawful, args_lawful, term_only, args_only, term_refused, args_refused}

abbrev pub opening : Word
opening = word.mark m.Open

abbrev pub close : Word
close = word.mark m.Close

abbrev pub comma : Word
comma = word.mark m.Comma

abbrev pub minus : Word
minus = word.mark m.Minus

-- what the readers of a level keep
pub record InnerLaw {D R : Type 0} (words : D → List Word → List Word) (goes_on : D → Word → Bool) (inner : R × Reader D) : Type 0 where
  pub law : Lawful words goes_on inner.1
  pub only_open : (d : D) (w : Word) → is_word m.Open w ≡ false → goes_on d w ≡ false
  pub closed : (ts : List Word) → Refuses inner.1 (close ∷ ts)
  pub rooms : (r : R) → r ≡ inner.0

-- an operand is that of a level that has a level inside, or of the last one
abbrev pub LevelLaw : {D R : Type 0} → (D → List Word → List Word) → (D → Word → Bool) → Level D R → Type 0
LevelLaw {D} {R} words goes_on None = (D → ⊥) × (R → ⊥)
LevelLaw words goes_on (Some inner) = InnerLaw words goes_on inner

-- ---- at any level
module _ {D R : Type 0} (words : D → List Word → List Word) (goes_on : D → Word → Bool) (level : Level D R) where
  abbrev Words : UnaryOf D R → List Word → List Word
  Words = unary_words words

  abbrev GoesOn : UnaryOf D R → Word → Bool
  GoesOn = unary_goes_on goes_on

  abbrev pub IsUnary : List Word → UnaryOf D R → List Word → Type 0
  IsUnary ts u rest = (ts ≡ Words u rest) × Ends (GoesOn u) rest

  abbrev pub IsStuck : List Word → Fault → Type 0
  IsStuck ts f = Stuck Words (Refuses (unary_with level)) ts f

  pub plain_by : (name : List ℕ) (rest : List Word) → is_next m.Open rest ≡ false → unary_with level (word.name name ∷ rest) ≡ Ok (atom (plain name), rest)
  unfolding unary_with
  plain_by name rest h = rw h refl

  pub plain_ends : (rest : List Word) → Ends (is_word m.Open) rest → is_next m.Open rest ≡ false
  plain_ends [] h = refl
  plain_ends (w ∷ rest) h = h

  pub ends_plain : (rest : List Word) → is_next m.Open rest ≡ false → Ends (is_word m.Open) rest
  ends_plain [] h = tt
  ends_plain (w ∷ rest) h = h

  abbrev result : UnaryOf D R → List Word → Outcome (UnaryOf D R)
  result u rest = Ok (u, rest)

  -- a word that is an operand alone
  pub one_sound : (w : Word) (v u : UnaryOf D R) (ts rest : List Word) → Words v ts ≡ w ∷ ts → ((r : List Word) → Ends (GoesOn v) r) → result v ts ≡ Ok (u, rest) → IsUnary (w ∷ ts) u rest
  one_sound w v u ts rest e ends h =
      let p = ok_parts v u ts rest h in
      subst (λ z. IsUnary (w ∷ ts) z rest) p.0 (sym e ∙ ap (Words v) p.1, ends rest)

  -- no operand begins with the word
  pub nothing : (w : Word) (ts : List Word) (f : Fault) → left f ≡ length (w ∷ ts) → ((next : List Word) → Refuses (unary_with level) (w ∷ next)) → IsStuck (w ∷ ts) f
  nothing w ts f place never = record {
    front = [];
    after = w ∷ ts;
    split = refl;
    place = place;
    goes = number 0;
    more = word.numeral 0 ∷ [];
    begins = refl;
    local = λ x r next e. let same : w ≡ x = cc in subst (λ z. Refuses (unary_with level) (z ∷ next)) same (never next);
  }

  pub nothing_at_all : (f : Fault) → left f ≡ 0 → IsStuck [] f
  nothing_at_all f place = record {
    front = [];
    after = [];
    split = refl;
    place = place;
    goes = number 0;
    more = word.numeral 0 ∷ [];
    begins = refl;
    local = λ x r next e. absurd cc;
  }

  abbrev refused : Outcome (UnaryOf D R)
  refused = Err (Expected 0)

  pub unary_closed : (ts : List Word) → Refuses (unary_with level) (close ∷ ts)
  unfolding unary_with
  unary_closed ts y h = absurd cc

  pub unary_only : ((d : D) (w : Word) → is_word m.Open w ≡ false → goes_on d w ≡ false) → (u : UnaryOf D R) (w : Word) → is_word m.Open w ≡ false → GoesOn u w ≡ false
  unary_only inner (negated d) w h = inner d w h
  unary_only inner (number n) w h = refl
  unary_only inner (text bytes) w h = refl
  unary_only inner (variable name) w h = refl
  unary_only inner anonymous w h = refl
  unary_only inner (atom (plain name)) w h = h
  unary_only inner (atom (applied name args)) w h = refl
  unary_only inner (unit room) w h = refl
  unary_only inner (group t) w h = refl
  unary_only inner (single t) w h = refl
  unary_only inner (tuple t args) w h = refl

-- ---- with a level inside
module _ {D R : Type 0} (words : D → List Word → List Word) (goes_on : D → Word → Bool) (inner : R × Reader D) (ok : InnerLaw words goes_on inner) where
  abbrev here : Level D R
  here = Some inner

  abbrev terms : TermOf D → List Word → List Word
  terms = term_words words

  abbrev lists : ArgsOf D → List Word → List Word
  lists = args_words words

  terms_law : Lawful terms (term_goes_on goes_on) (term_with inner.1)
  terms_law = term_lawful words goes_on inner.1 ok.law ok.only_open

  lists_law : Lawful lists (args_go_on goes_on) (args_with inner.1)
  lists_law = args_lawful words goes_on inner.1 ok.law ok.only_open

  before_close : (a : ArgsOf D) (rest : List Word) → args_with inner.1 (lists a (close ∷ rest)) ≡ Ok (a, close ∷ rest)
  before_close a rest = lists_law.complete a (close ∷ rest) (args_only words goes_on inner.1 ok.law ok.only_open a close refl refl refl refl refl)

  ends_close : (t : TermOf D) (rest : List Word) → Ends (term_goes_on goes_on t) (close ∷ rest)
  ends_close t rest = term_only words goes_on inner.1 ok.law ok.only_open t close refl refl refl refl

  ends_comma : (t : TermOf D) (rest : List Word) → Ends (term_goes_on goes_on t) (comma ∷ rest)
  ends_comma t rest = term_only words goes_on inner.1 ok.law ok.only_open t comma refl refl refl refl

  -- neither a term nor an argument list begins with a closing parenthesis
  term_opens : (t : TermOf D) (rest : List Word) → Ends (term_goes_on goes_on t) rest → is_next m.Close (terms t rest) ≡ false
  term_opens t rest h = not_true (is_next m.Close (terms t rest)) (λ e.
      term_refused words goes_on inner.1 ok.law ok.only_open (close ∷ drop 1 (terms t rest)) (ok.closed (drop 1 (terms t rest))) (t, rest)
      (ap (term_with inner.1) (sym (the_next m.Close (terms t rest) e)) ∙ terms_law.complete t rest h))

  list_opens : (a : ArgsOf D) (rest : List Word) → is_next m.Close (lists a (close ∷ rest)) ≡ false
  list_opens a rest = not_true (is_next m.Close (lists a (close ∷ rest))) (λ e.
      args_refused words goes_on inner.1 ok.law ok.only_open (close ∷ drop 1 (lists a (close ∷ rest))) (ok.closed (drop 1 (lists a (close ∷ rest)))) (a, close ∷ rest)
      (ap (args_with inner.1) (sym (the_next m.Close (lists a (close ∷ rest)) e)) ∙ before_close a rest))

  -- ---- what is read behind the first words
  negated_is : (ts : List Word) → unary_with here (minus ∷ ts) ≡ and_then (inner.1 ts) (λ d rest. Ok (negated d, rest))
  unfolding unary_with
  negated_is ts = refl

  applied_is : (name : List ℕ) (ts : List Word) → unary_with here (word.name name ∷ opening ∷ ts) ≡ and_then (args_with inner.1 ts) (λ args rest. before m.Close (atom (applied name args)) rest)
  unfolding unary_with
  applied_is name ts = refl

  bracket_is : (ts : List Word) → unary_with here (opening ∷ ts) ≡ bracket_with inner ts
  unfolding unary_with
  bracket_is ts = refl

  unit_is : (ts : List Word) → bracket_with inner (close ∷ ts) ≡ Ok (unit inner.0, ts)
  unfolding bracket_with
  unit_is ts = refl

  bracket_term : (ts : List Word) → is_next m.Close ts ≡ false → bracket_with inner ts ≡ and_then (term_with inner.1 ts) (group_with inner)
  unfolding bracket_with
  bracket_term ts h = rw h refl

  group_closed : (t : TermOf D) (ts : List Word) → group_with inner t (close ∷ ts) ≡ Ok (group t, ts)
  unfolding group_with
  group_closed t ts = refl

  group_comma : (t : TermOf D) (ts : List Word) → group_with inner t (comma ∷ ts) ≡ tuple_with inner t ts
  unfolding group_with
  group_comma t ts = refl

  group_other : (t : TermOf D) (ts : List Word) → is_next m.Close ts ≡ false → is_next m.Comma ts ≡ false → group_with inner t ts ≡ expected ts
  unfolding group_with
  group_other t ts h g = rw (h, g) refl

  tuple_closed : (t : TermOf D) (ts : List Word) → tuple_with inner t (close ∷ ts) ≡ Ok (single t, ts)
  unfolding tuple_with
  tuple_closed t ts = refl

  tuple_list : (t : TermOf D) (ts : List Word) → is_next m.Close ts ≡ false → tuple_with inner t ts ≡ and_then (args_with inner.1 ts) (λ args rest. before m.Close (tuple t args) rest)
  unfolding tuple_with
  tuple_list t ts h = rw h refl

  after_term : (t : TermOf D) (ts : List Word) → Ends (term_goes_on goes_on t) ts → unary_with here (opening ∷ terms t ts) ≡ group_with inner t ts
  after_term t ts h = bracket_is (terms t ts) ∙ bracket_term (terms t ts) (term_opens t ts h) ∙ bind_by (term_with inner.1 (terms t ts)) (group_with inner) t ts (terms_law.complete t ts h)

  after_comma : (t : TermOf D) (ts : List Word) → unary_with here (opening ∷ terms t (comma ∷ ts)) ≡ tuple_with inner t ts
  after_comma t ts = after_term t (comma ∷ ts) (ends_comma t ts) ∙ group_comma t ts

  -- ---- complete
  unary_complete : (u : UnaryOf D R) (rest : List Word) → Ends (unary_goes_on goes_on u) rest → unary_with here (unary_words words u rest) ≡ Ok (u, rest)
  unfolding unary_with
  unary_complete (negated d) rest h = negated_is (words d rest) ∙ bind_by (inner.1 (words d rest)) _ d rest (ok.law.complete d rest h)
  unary_complete (number n) rest h = refl
  unary_complete (text bytes) rest h = refl
  unary_complete (variable name) rest h = refl
  unary_complete anonymous rest h = refl
  unary_complete (atom (plain name)) rest h = plain_by words goes_on here name rest (plain_ends words goes_on here rest h)
  unary_complete (atom (applied name a)) rest h = applied_is name (lists a (close ∷ rest)) ∙ bind_by (args_with inner.1 (lists a (close ∷ rest))) _ a (close ∷ rest) (before_close a rest)
  unary_complete (unit room) rest h = bracket_is (close ∷ rest) ∙ unit_is rest ∙ ap (λ r. Ok (unit r, rest)) (sym (ok.rooms room))
  unary_complete (group t) rest h = after_term t (close ∷ rest) (ends_close t rest) ∙ group_closed t rest
  unary_complete (single t) rest h = after_comma t (close ∷ rest) ∙ tuple_closed t rest
  unary_complete (tuple t a) rest h =
      after_comma t (lists a (close ∷ rest)) ∙ tuple_list t (lists a (close ∷ rest)) (list_opens a rest) ∙ bind_by (args_with inner.1 (lists a (close ∷ rest))) _ a (close ∷ rest) (before_close a rest)

  -- ---- sound
  abbrev Found : List Word → UnaryOf D R → List Word → Type 0
  Found ts u rest = IsUnary words goes_on here ts u rest

  abbrev gives : UnaryOf D R → List Word → Outcome (UnaryOf D R)
  gives u rest = Ok (u, rest)

  applied_sound : (name : List ℕ) (ts : List Word) (u : UnaryOf D R) (rest : List Word) → unary_with here (word.name name ∷ opening ∷ ts) ≡ gives u rest → Found (word.name name ∷ opening ∷ ts) u rest
  applied_sound name ts u rest h =
      let b = bind_ok (args_with inner.1 ts) _ (u, rest) (sym (applied_is name ts) ∙ h) in
      let i = lists_law.sound ts b.0 b.1 b.2 in
      let q = before_ok m.Close (atom (applied name b.0)) u b.1 rest b.3 in
      subst (λ z. Found (word.name name ∷ opening ∷ ts) z rest) q.1 (ap (λ r. word.name name ∷ opening ∷ r) (i.0 ∙ ap (lists b.0) q.0), never_on rest)

  negated_sound : (ts : List Word) (u : UnaryOf D R) (rest : List Word) → unary_with here (minus ∷ ts) ≡ gives u rest → Found (minus ∷ ts) u rest
  negated_sound ts u rest h =
      let b = bind_ok (inner.1 ts) _ (u, rest) (sym (negated_is ts) ∙ h) in
      let i = ok.law.sound ts b.0 b.1 b.2 in
      let p = ok_parts (negated b.0) u b.1 rest b.3 in
      subst (λ z. Found (minus ∷ ts) z rest) p.0 (ap (λ r. minus ∷ r) (i.0 ∙ ap (words b.0) p.1), subst (Ends (goes_on b.0)) p.1 i.1)

  bracket_sound : (ts : List Word) (u : UnaryOf D R) (rest : List Word) → unary_with here (opening ∷ ts) ≡ gives u rest → Found (opening ∷ ts) u rest
  unfolding bracket_with group_with tuple_with
  bracket_sound ts u rest h = by (is_next m.Close ts) refl (sym (bracket_is ts) ∙ h)
    where
      by : (c : Bool) → is_next m.Close ts ≡ c → (if c then gives (unit inner.0) (drop 1 ts) else and_then (term_with inner.1 ts) (group_with inner)) ≡ gives u rest → Found (opening ∷ ts) u rest
      by true c h =
          let p = ok_parts (unit inner.0) u (drop 1 ts) rest h in
          subst (λ z. Found (opening ∷ ts) z rest) p.0 (ap (λ r. opening ∷ r) (the_next m.Close ts c ∙ ap (λ r. close ∷ r) p.1), never_on rest)
      by false c h = let b = bind_ok (term_with inner.1 ts) _ (u, rest) h in two b.0 b.1 (terms_law.sound ts b.0 b.1 b.2).0 (is_next m.Close b.1) refl (is_next m.Comma b.1) refl b.3
        where
          three : (t : TermOf D) (after : List Word) → ts ≡ terms t (comma ∷ after) → (e : Bool) → is_next m.Close after ≡ e
              → (if e then gives (single t) (drop 1 after) else and_then (args_with inner.1 after) (λ args last. before m.Close (tuple t args) last)) ≡ gives u rest → Found (opening ∷ ts) u rest
          three t after i true e h =
              let p = ok_parts (single t) u (drop 1 after) rest h in
              subst (λ z. Found (opening ∷ ts) z rest) p.0 (ap (λ r. opening ∷ r) (i ∙ ap (λ r. terms t (comma ∷ r)) (the_next m.Close after e ∙ ap (λ r. close ∷ r) p.1)), never_on rest)
          three t after i false e h =
              let b = bind_ok (args_with inner.1 after) _ (u, rest) h in
              let j = lists_law.sound after b.0 b.1 b.2 in
              let q = before_ok m.Close (tuple t b.0) u b.1 rest b.3 in
              subst (λ z. Found (opening ∷ ts) z rest) q.1 (ap (λ r. opening ∷ r) (i ∙ ap (λ r. terms t (comma ∷ r)) (j.0 ∙ ap (lists b.0) q.0)), never_on rest)

          two : (t : TermOf D) (after : List Word) → ts ≡ terms t after → (d : Bool) → is_next m.Close after ≡ d → (e : Bool) → is_next m.Comma after ≡ e
              → (if d then gives (group t) (drop 1 after) else (if e then tuple_with inner t (drop 1 after) else expected after)) ≡ gives u rest → Found (opening ∷ ts) u rest
          two t after i true d e' e h =
              let p = ok_parts (group t) u (drop 1 after) rest h in
              subst (λ z. Found (opening ∷ ts) z rest) p.0 (ap (λ r. opening ∷ r) (i ∙ ap (terms t) (the_next m.Close after d ∙ ap (λ r. close ∷ r) p.1)), never_on rest)
          two t after i false d true e h = three t (drop 1 after) (i ∙ ap (terms t) (the_next m.Comma after e)) (is_next m.Close (drop 1 after)) refl h
          two t after i false d false e h = absurd cc

  name_sound : (name : List ℕ) (ts : List Word) (u : UnaryOf D R) (rest : List Word) → unary_with here (word.name name ∷ ts) ≡ gives u rest → Found (word.name name ∷ ts) u rest
  name_sound name ts u rest h = by (is_next m.Open ts) refl
    where
      by : (o : Bool) → is_next m.Open ts ≡ o → Found (word.name name ∷ ts) u rest
      by true o =
          let e : word.name name ∷ opening ∷ drop 1 ts ≡ word.name name ∷ ts = ap (λ r. word.name name ∷ r) (sym (the_next m.Open ts o)) in
          subst (λ z. Found z u rest) e (applied_sound name (drop 1 ts) u rest (ap (unary_with here) e ∙ h))
      by false o =
          let p = ok_parts (atom (plain name)) u ts rest (sym (plain_by words goes_on here name ts o) ∙ h) in
          subst (λ z. Found (word.name name ∷ ts) z rest) p.0 (ap (λ r. word.name name ∷ r) p.1, subst (Ends (is_word m.Open)) p.1 (ends_plain words goes_on here ts o))

  unary_sound : (ts : List Word) (u : UnaryOf D R) (rest : List Word) → unary_with here ts ≡ Ok (u, rest) → Found ts u rest
  unfolding unary_with
  unary_sound [] u rest h = absurd cc
  unary_sound (word.numeral n ∷ ts) u rest h = one_sound words goes_on here (word.numeral n) (number n) u ts rest refl never_on h
  unary_sound (word.string bytes ∷ ts) u rest h = one_sound words goes_on here (word.string bytes) (text bytes) u ts rest refl never_on h
  unary_sound (word.variable name ∷ ts) u rest h = one_sound words goes_on here (word.variable name) (variable name) u ts rest refl never_on h
  unary_sound (word.anonymous ∷ ts) u rest h = one_sound words goes_on here word.anonymous anonymous u ts rest refl never_on h
  unary_sound (word.name name ∷ ts) u rest h = name_sound name ts u rest h
  unary_sound (word.mark m.Minus ∷ ts) u rest h = negated_sound ts u rest h
  unary_sound (word.mark m.Open ∷ ts) u rest h = bracket_sound ts u rest h
  unary_sound (_ ∷ ts) u rest h = absurd cc

  -- ---- stuck
  abbrev Halts : List Word → Fault → Type 0
  Halts ts f = IsStuck words goes_on here ts f

  negated_stuck : (ts : List Word) (f : Fault) → unary_with here (minus ∷ ts) ≡ Err f → Halts (minus ∷ ts) f
  negated_stuck ts f h = by (bind_err (inner.1 ts) _ f (sym (negated_is ts) ∙ h))
    where
      by : (inner.1 ts ≡ Err f) ⊎ ((d : D) × (after : List Word) × (inner.1 ts ≡ Ok (d, after)) × (gives (negated d) after ≡ Err f)) → Halts (minus ∷ ts) f
      by (inr c) = let g = c.3 in absurd cc
      by (inl g) =
          stuck_inside words (unary_words words) (Refuses inner.1) (Refuses (unary_with here)) (minus ∷ []) negated [] ts f (λ d. refl) ok.law.parted
          (λ front x r next e bad y k. let b = bind_ok (inner.1 (front ++ x ∷ next)) _ y (sym (negated_is (front ++ x ∷ next)) ∙ k) in bad (b.0, b.1) b.2)
          (ok.law.stuck ts f g)

  applied_stuck : (name : List ℕ) (ts : List Word) (f : Fault) → unary_with here (word.name name ∷ opening ∷ ts) ≡ Err f → Halts (word.name name ∷ opening ∷ ts) f
  applied_stuck name ts f h = by (bind_err (args_with inner.1 ts) _ f (sym (applied_is name ts) ∙ h))
    where
      by : (args_with inner.1 ts ≡ Err f) ⊎ ((a : ArgsOf D) × (after : List Word) × (args_with inner.1 ts ≡ Ok (a, after)) × (before {A = UnaryOf D R} m.Close (atom (applied name a)) after ≡ Err f)) → Halts (word.name name ∷ opening ∷ ts) f
      by (inl g) =
          stuck_inside lists (unary_words words) (Refuses (args_with inner.1)) (Refuses (unary_with here)) (word.name name ∷ opening ∷ []) (λ a. atom (applied name a)) (close ∷ []) ts f (λ a. refl) lists_law.parted
          (λ front x r next e bad y k. let b = bind_ok (args_with inner.1 (front ++ x ∷ next)) _ y (sym (applied_is name (front ++ x ∷ next)) ∙ k) in bad (b.0, b.1) b.2)
          (lists_law.stuck ts f g)
      by (inr c) =
          let i = lists_law.sound ts c.0 c.1 c.2 in
          let gone = before_err m.Close (atom (applied name c.0)) c.1 f c.3 in
          subst (λ z. Halts (word.name name ∷ opening ∷ z) f) (sym i.0)
          (stuck_behind lists (unary_words words) (Refuses (unary_with here)) lists_law.parted (word.name name ∷ opening ∷ []) (atom (applied name c.0)) (close ∷ []) c.0 c.1 f gone.place refl
          (λ x r next e y k.
          let again = bind_by (args_with inner.1 (lists c.0 (x ∷ next))) (λ args rest. before m.Close (atom (applied name args)) rest) c.0 (x ∷ next) (lists_law.complete c.0 (x ∷ next) (next_is (args_go_on goes_on c.0) x r next c.1 e i.1)) in
          before_refuses m.Close (atom (applied name c.0)) (x ∷ next) (next_same m.Close x r next c.1 e gone.other) y (sym again ∙ sym (applied_is name (lists c.0 (x ∷ next))) ∙ k)))

  name_stuck : (name : List ℕ) (ts : List Word) (f : Fault) → unary_with here (word.name name ∷ ts) ≡ Err f → Halts (word.name name ∷ ts) f
  name_stuck name ts f h = by (is_next m.Open ts) refl
    where
      by : (o : Bool) → is_next m.Open ts ≡ o → Halts (word.name name ∷ ts) f
      by true o =
          let e : word.name name ∷ opening ∷ drop 1 ts ≡ word.name name ∷ ts = ap (λ r. word.name name ∷ r) (sym (the_next m.Open ts o)) in
          subst (λ z. Halts z f) e (applied_stuck name (drop 1 ts) f (ap (unary_with here) e ∙ h))
      by false o = let g = sym (plain_by words goes_on here name ts o) ∙ h in absurd cc

  -- behind a term and a comma
  tuple_stuck : (t : TermOf D) (ts : List Word) (f : Fault) → tuple_with inner t ts ≡ Err f → Halts (opening ∷ terms t (comma ∷ ts)) f
  unfolding tuple_with
  tuple_stuck t ts f h = by (is_next m.Close ts) refl h
    where
      part : (us : List Word) → opening ∷ terms t (comma ∷ us) ≡ (opening ∷ terms t (comma ∷ [])) ++ us
      part us = ap (λ r. opening ∷ r) (terms_law.parted t (comma ∷ []) us)

      by : (e : Bool) → is_next m.Close ts ≡ e → (if e then gives (single t) (drop 1 ts) else and_then (args_with inner.1 ts) (λ args last. before m.Close (tuple t args) last)) ≡ Err f → Halts (opening ∷ terms t (comma ∷ ts)) f
      by true e h = absurd cc
      by false e h = two (bind_err (args_with inner.1 ts) _ f h)
        where
          two : (args_with inner.1 ts ≡ Err f) ⊎ ((a : ArgsOf D) × (after : List Word) × (args_with inner.1 ts ≡ Ok (a, after)) × (before {A = UnaryOf D R} m.Close (tuple t a) after ≡ Err f)) → Halts (opening ∷ terms t (comma ∷ ts)) f
          two (inl g) =
              subst (λ z. Halts z f) (sym (part ts))
              (stuck_inside lists (unary_words words) (Refuses (args_with inner.1)) (Refuses (unary_with here)) (opening ∷ terms t (comma ∷ [])) (tuple t) (close ∷ []) ts f (λ a. part (lists a (close ∷ []))) lists_law.parted
              (λ front x r next q bad. subst (Refuses (unary_with here)) (part (front ++ x ∷ next)) (λ y k.
              let open_here = sym (next_head m.Close front x r next) ∙ ap (is_next m.Close) (sym q) ∙ e in
              let b = bind_ok (args_with inner.1 (front ++ x ∷ next)) _ y (sym (tuple_list t (front ++ x ∷ next) open_here) ∙ sym (after_comma t (front ++ x ∷ next)) ∙ k) in
              bad (b.0, b.1) b.2))
              (lists_law.stuck ts f g))
          two (inr c) =
              let i = lists_law.sound ts c.0 c.1 c.2 in
              let gone = before_err m.Close (tuple t c.0) c.1 f c.3 in
              subst (λ z. Halts z f) (sym (part ts ∙ ap (λ z. (opening ∷ terms t (comma ∷ [])) ++ z) i.0))
              (stuck_behind lists (unary_words words) (Refuses (unary_with here)) lists_law.parted (opening ∷ terms t (comma ∷ [])) (tuple t c.0) (close ∷ []) c.0 c.1 f gone.place (part (lists c.0 (close ∷ [])))
              (λ x r next q. subst (Refuses (unary_with here)) (part (lists c.0 (x ∷ next))) (λ y k.
              let same : is_next m.Close (lists c.0 (x ∷ next)) ≡ false =
              subst (λ z. is_next m.Close z ≡ false) (sym (lists_law.parted c.0 [] (x ∷ next)))
              (sym (head_same (lists c.0 []) (x ∷ next) c.1 (lists_law.some c.0 [])) ∙ ap (is_next m.Close) (sym (i.0 ∙ lists_law.parted c.0 [] c.1)) ∙ e) in
              let again = bind_by (args_with inner.1 (lists c.0 (x ∷ next))) (λ args rest. before m.Close (tuple t args) rest) c.0 (x ∷ next) (lists_law.complete c.0 (x ∷ next) (next_is (args_go_on goes_on c.0) x r next c.1 q i.1)) in
              before_refuses m.Close (tuple t c.0) (x ∷ next) (next_same m.Close x r next c.1 q gone.other) y
              (sym again ∙ sym (tuple_list t (lists c.0 (x ∷ next)) same) ∙ sym (after_comma t (lists c.0 (x ∷ next))) ∙ k))))
            where
              head_same : (front a b : List Word) → 0 < length front → is_next m.Close (front ++ b) ≡ is_next m.Close (front ++ a)
              head_same [] a b h = absurd (omega (arith, h))
              head_same (w ∷ front) a b h = refl

  bracket_stuck : (ts : List Word) (f : Fault) → unary_with here (opening ∷ ts) ≡ Err f → Halts (opening ∷ ts) f
  unfolding bracket_with group_with
  bracket_stuck ts f h = by (is_next m.Close ts) refl (sym (bracket_is ts) ∙ h)
    where
      by : (c : Bool) → is_next m.Close ts ≡ c → (if c then gives (unit inner.0) (drop 1 ts) else and_then (term_with inner.1 ts) (group_with inner)) ≡ Err f → Halts (opening ∷ ts) f
      by true c h = absurd cc
      by false c h = two (bind_err (term_with inner.1 ts) (group_with inner) f h)
        where
          three : (t : TermOf D) (after : List Word) → (ts ≡ terms t after) × Ends (term_goes_on goes_on t) after → (d : Bool) → is_next m.Close after ≡ d → (e : Bool) → is_next m.Comma after ≡ e
              → (if d then gives (group t) (drop 1 after) else (if e then tuple_with inner t (drop 1 after) else expected after)) ≡ Err f → Halts (opening ∷ ts) f
          three t after i true d e' e h = absurd cc
          three t after i false d true e h =
              subst (λ z. Halts (opening ∷ z) f) (sym (i.0 ∙ ap (terms t) (the_next m.Comma after e))) (tuple_stuck t (drop 1 after) f h)
          three t after i false d false e h =
              subst (λ z. Halts (opening ∷ z) f) (sym i.0)
              (stuck_behind terms (unary_words words) (Refuses (unary_with here)) terms_law.parted (opening ∷ []) (group t) (close ∷ []) t after f (expected_left {A = UnaryOf D R} after f h) refl
              (λ x r next q y k.
              let read = after_term t (x ∷ next) (next_is (term_goes_on goes_on t) x r next after q i.1) in
              let other = group_other t (x ∷ next) (next_same m.Close x r next after q d) (next_same m.Comma x r next after q e) in
              let g = sym other ∙ sym read ∙ k in absurd cc))

          two : (term_with inner.1 ts ≡ Err f) ⊎ ((t : TermOf D) × (after : List Word) × (term_with inner.1 ts ≡ Ok (t, after)) × (group_with inner t after ≡ Err f)) → Halts (opening ∷ ts) f
          two (inl g) =
              stuck_inside terms (unary_words words) (Refuses (term_with inner.1)) (Refuses (unary_with here)) (opening ∷ []) group (close ∷ []) ts f (λ t. refl) terms_law.parted
              (λ front x r next q bad y k.
              let open_here = sym (next_head m.Close front x r next) ∙ ap (is_next m.Close) (sym q) ∙ c in
              let b = bind_ok (term_with inner.1 (front ++ x ∷ next)) (group_with inner) y (sym (bracket_term (front ++ x ∷ next) open_here) ∙ sym (bracket_is (front ++ x ∷ next)) ∙ k) in
              bad (b.0, b.1) b.2)
              (terms_law.stuck ts f g)
          two (inr q) = three q.0 q.1 (terms_law.sound ts q.0 q.1 q.2) (is_next m.Close q.1) refl (is_next m.Comma q.1) refl q.3

  unary_stuck : (ts : List Word) (f : Fault) → unary_with here ts ≡ Err f → Halts ts f
  unfolding unary_with
  unary_stuck [] f h = nothing_at_all words goes_on here f (expected_left {A = UnaryOf D R} [] f h)
  unary_stuck (word.numeral n ∷ ts) f h = absurd cc
  unary_stuck (word.string bytes ∷ ts) f h = absurd cc
  unary_stuck (word.variable name ∷ ts) f h = absurd cc
  unary_stuck (word.anonymous ∷ ts) f h = absurd cc
  unary_stuck (word.name name ∷ ts) f h = name_stuck name ts f h
  unary_stuck (word.mark m.Minus ∷ ts) f h = negated_stuck ts f h
  unary_stuck (word.mark m.Open ∷ ts) f h = bracket_stuck ts f h
  unary_stuck (w ∷ ts) f h = nothing words goes_on here w ts f (expected_left {A = UnaryOf D R} (w ∷ ts) f h) (λ next y q. absurd cc)

  unary_parted : (u : UnaryOf D R) (x y : List Word) → unary_words words u (x ++ y) ≡ unary_words words u x ++ y
  unary_parted (negated d) x y = ap (λ r. minus ∷ r) (ok.law.parted d x y)
  unary_parted (number n) x y = refl
  unary_parted (text bytes) x y = refl
  unary_parted (variable name) x y = refl
  unary_parted anonymous x y = refl
  unary_parted (atom (plain name)) x y = refl
  unary_parted (atom (applied name a)) x y = ap (λ r. word.name name ∷ opening ∷ r) (lists_law.parted a (close ∷ x) y)
  unary_parted (unit room) x y = refl
  unary_parted (group t) x y = ap (λ r. opening ∷ r) (terms_law.parted t (close ∷ x) y)
  unary_parted (single t) x y = ap (λ r. opening ∷ r) (terms_law.parted t (comma ∷ close ∷ x) y)
  unary_parted (tuple t a) x y = ap (λ r. opening ∷ r) (ap (λ r. terms t (comma ∷ r)) (lists_law.parted a (close ∷ x) y) ∙ terms_law.parted t (comma ∷ lists a (close ∷ x)) y)

  unary_some : (u : UnaryOf D R) (rest : List Word) → length rest < length (unary_words words u rest)
  unary_some (negated d) rest = omega (arith, ok.law.some d rest)
  unary_some (number n) rest = omega arith
  unary_some (text bytes) rest = omega arith
  unary_some (variable name) rest = omega arith
  unary_some anonymous rest = omega arith
  unary_some (atom (plain name)) rest = omega arith
  unary_some (atom (applied name a)) rest = omega (arith, lists_law.some a (close ∷ rest))
  unary_some (unit room) rest = omega arith
  unary_some (group t) rest = omega (arith, terms_law.some t (close ∷ rest))
  unary_some (single t) rest = omega (arith, terms_law.some t (comma ∷ close ∷ rest))
  unary_some (tuple t a) rest = omega (arith, lists_law.some a (close ∷ rest), terms_law.some t (comma ∷ lists a (close ∷ rest)))

  pub unary_lawful : Lawful (unary_words words) (unary_goes_on goes_on) (unary_with here)
  unary_lawful = record { parted = unary_parted; some = unary_some; sound = unary_sound; complete = unary_complete; stuck = unary_stuck }
