-- Where a claim holds of each mark, of `not`, of `#const` and of `#show`, and a form has the claim, each word of the form has it.
use Rattle.std.specs.Prelude.{ℕ, zero, suc, true, false, Option, Some, None, List, [], ◌∷◌}
use Rattle.std.specs.List.{AllByRecursion}
use Rattle.symbols.specs.declared.rel.Rel.{Rel}
use Rattle.grammar.specs.declared.mark.Mark.{Mark}
use Rattle.grammar.specs.declared.mark.Mark.TheVariants as m
use Rattle.grammar.specs.Word.{Word}
use Rattle.grammar.specs.Word as word
use Rattle.grammar.specs.Row.{Row, row_words, tail_words}
use Rattle.grammar.specs.Parts.{maybe_words}
use Rattle.grammar.specs.Term.{Adding, Multiplying, AtomOf, UnaryOf, Operand, Room, alone, interval, plain, applied, negated, number, text, variable, anonymous, atom, unit, group, single, tuple, adding_mark, multiplying_mark, adding_word, multiplying_word, comma_word, product_words, sum_words, term_words, args_words, atom_words, unary_words, operand_words}
use Rattle.grammar.specs.Theory.{FullTerm, ConditionOf, holds, compares, PlacesOf, GivenOf, ElementOf, TheoryOf, rel_mark, rel_word, semicolon_word, full_words, condition_words, given_words, duration_words, places_words, element_words, elements_words, guard_words, theory_words}
use Rattle.grammar.specs.Statement.{LiteralOf, simple, theory, Separating, by_comma, by_semicolon, separating_word, BodyOf, ChosenOf, ChoiceOf, HeadOf, atom_head, choice_head, theory_head, ArrowOf, no_arrow, arrow, headed, constraint, constant, show_nothing, show, StatementAt, maybe_rel_words, literal_words, body_words, left_words, right_words, chosen_words, chosens_words, choice_words, head_words, arrow_words, words_of_statement}
use Rattle.grammar.specs.AllWords.{AllItems, AllTerm, AllArgs, AllAtom, AllUnary, AllOperand}
use Rattle.text_laws.proofs.AllStatement.{AllMaybe, AllFull, AllAtomAt, AllCondition, AllGiven, AllElement, AllTheory, AllLiteral, AllBody, AllChosen, AllLeft, AllRight, AllChoice, AllHead, AllArrow, AllStatement}

module _ (claim : Word → Type 0) where
  -- where a form has the claim and all words behind it do, so do its words and those behind it
  abbrev Fills : {A : Type 0} → (A → List Word → List Word) → (A → Type 0) → Type 0
  Fills {A} words all = (a : A) (rest : List Word) → all a → AllByRecursion claim rest → AllByRecursion claim (words a rest)

  module _ {I S : Type 0} (words : I → List Word → List Word) (sign : S → Word) (signs : (s : S) → claim (sign s)) (all : I → Type 0) (fills : Fills words all) where
    tail_fills : (parts : List (S × I)) (rest : List Word) → AllByRecursion (λ (p : S × I). all p.1) parts → AllByRecursion claim rest → AllByRecursion claim (tail_words words sign parts rest)
    tail_fills [] rest h k = k
    tail_fills (part ∷ parts) rest h k = (signs part.0, fills part.1 (tail_words words sign parts rest) h.0 (tail_fills parts rest h.1 k))

    row_fills : Fills (row_words words sign) (AllItems all)
    row_fills row rest h k = fills row.first (tail_words words sign row.rest rest) h.0 (tail_fills row.rest rest h.1 k)

  maybe_fills : {A : Type 0} (words : A → List Word → List Word) (all : A → Type 0) → Fills words all → Fills (maybe_words words) (AllMaybe all)
  maybe_fills words all fills None rest h k = k
  maybe_fills words all fills (Some a) rest h k = fills a rest h k

  -- ---- terms
  module _ (marks : (mark : Mark) → claim (word.mark mark)) where
    commas : (sign : Unit {0}) → claim (comma_word sign)
    commas sign = marks m.Comma

    semicolons : (sign : Unit {0}) → claim (semicolon_word sign)
    semicolons sign = marks m.Semicolon

    separators : (sign : Separating) → claim (separating_word sign)
    separators by_comma = marks m.Comma
    separators by_semicolon = marks m.Semicolon

    module _ {U : Type 0} (words : U → List Word → List Word) (all : U → Type 0) (fills : Fills words all) where
      product_fills : Fills (product_words words) (AllItems all)
      product_fills = row_fills words multiplying_word (λ (sign : Multiplying). marks (multiplying_mark sign)) all fills

      sum_fills : Fills (sum_words words) (AllItems (AllItems all))
      sum_fills = row_fills (product_words words) adding_word (λ (sign : Adding). marks (adding_mark sign)) (AllItems all) product_fills

      term_fills : Fills (term_words words) (AllTerm all)
      term_fills (alone s) rest h k = sum_fills s rest h k
      term_fills (interval left right) rest h k = sum_fills left (word.mark m.Dots ∷ sum_words words right rest) h.0 (marks m.Dots, sum_fills right rest h.1 k)

      args_fill : Fills (args_words words) (AllArgs all)
      args_fill = row_fills (term_words words) comma_word commas (AllTerm all) term_fills

    module _ {D : Type 0} (words : D → List Word → List Word) (all : D → Type 0) (fills : Fills words all) where
      atom_fills : Fills (atom_words words) (AllAtom claim all)
      atom_fills (plain name) rest h k = (h, k)
      atom_fills (applied name args) rest h k = (h.0, (marks m.Open, args_fill words all fills args (word.mark m.Close ∷ rest) h.1 (marks m.Close, k)))

      unary_fills : {R : Type 0} → Fills {A = UnaryOf D R} (unary_words words) (AllUnary claim all)
      unary_fills (negated d) rest h k = (marks m.Minus, fills d rest h k)
      unary_fills (number n) rest h k = (h, k)
      unary_fills (text bytes) rest h k = (h, k)
      unary_fills (variable name) rest h k = (h, k)
      unary_fills anonymous rest h k = (h, k)
      unary_fills (atom a) rest h k = atom_fills a rest h k
      unary_fills (unit room) rest h k = (marks m.Open, (marks m.Close, k))
      unary_fills (group x) rest h k = (marks m.Open, term_fills words all fills x (word.mark m.Close ∷ rest) h (marks m.Close, k))
      unary_fills (single x) rest h k = (marks m.Open, term_fills words all fills x (word.mark m.Comma ∷ word.mark m.Close ∷ rest) h (marks m.Comma, (marks m.Close, k)))
      unary_fills (tuple x args) rest h k =
          let behind : AllByRecursion claim (args_words words args (word.mark m.Close ∷ rest)) = args_fill words all fills args (word.mark m.Close ∷ rest) h.1 (marks m.Close, k) in
          (marks m.Open, term_fills words all fills x (word.mark m.Comma ∷ args_words words args (word.mark m.Close ∷ rest)) h.0 (marks m.Comma, behind))

    operand_fills : (n : ℕ) → Fills (operand_words n) (AllOperand claim n)
    operand_fills zero u rest h k = absurd u
    operand_fills (suc n) u rest h k = unary_fills (operand_words n) (AllOperand claim n) (operand_fills n) u rest h k

    -- ---- theory atoms and what is in them
    module _ (negations : claim word.negation) (n : ℕ) where
      abbrev Full : Type 0
      Full = FullTerm (Operand n) (Room n)

      abbrev inner : Operand n → List Word → List Word
      inner = operand_words n

      full_fills : Fills {A = Full} (full_words inner) (AllFull claim n)
      full_fills = term_fills {U = UnaryOf (Operand n) (Room n)} (unary_words inner) (AllOperand claim (suc n)) (operand_fills (suc n))

      atoms_fill : Fills {A = AtomOf (Operand n)} (atom_words inner) (AllAtomAt claim n)
      atoms_fill = atom_fills inner (AllOperand claim n) (operand_fills n)

      condition_fills : Fills {A = ConditionOf (Operand n) (Room n)} (condition_words inner) (AllCondition claim n)
      condition_fills (holds true a) rest h k = atoms_fill a rest h k
      condition_fills (holds false a) rest h k = (negations, atoms_fill a rest h k)
      condition_fills (compares left r right) rest h k = full_fills left (rel_word r ∷ full_words inner right rest) h.0 (marks (rel_mark r), full_fills right rest h.1 k)

      conditions_fill : Fills {A = Row (ConditionOf (Operand n) (Room n)) (Unit {0})} (row_words (condition_words inner) comma_word) (AllItems (AllCondition claim n))
      conditions_fill = row_fills (condition_words inner) comma_word commas (AllCondition claim n) condition_fills

      given_fills : Fills {A = GivenOf (Operand n) (Room n)} (given_words inner) (AllGiven claim n)
      given_fills None rest h k = k
      given_fills (Some None) rest h k = (marks m.Colon, k)
      given_fills (Some (Some row)) rest h k = (marks m.Colon, conditions_fill row rest h k)

      duration_fills : Fills {A = Option Full} (duration_words inner) (AllMaybe (AllFull claim n))
      duration_fills None rest h k = k
      duration_fills (Some term) rest h k = (marks m.At, full_fills term rest h k)

      places_fill : Fills {A = Option (PlacesOf (Operand n) (Room n))} (places_words inner) (AllMaybe (AllItems (AllFull claim n)))
      places_fill None rest h k = k
      places_fill (Some row) rest h k = (marks m.Comma, row_fills (full_words inner) comma_word commas (AllFull claim n) full_fills row rest h k)

      element_fills : Fills {A = ElementOf (Operand n) (Room n)} (element_words inner) (AllElement claim n)
      element_fills e rest h k =
          let last : List Word = given_words inner e.condition rest in
          let third : List Word = places_words inner e.rest last in
          let d : AllByRecursion claim last = given_fills e.condition rest h.3 k in
          let c : AllByRecursion claim third = places_fill e.rest last h.2 d in
          full_fills e.first (duration_words inner e.duration third) h.0 (duration_fills e.duration third h.1 c)

      elements_fill : Fills {A = Option (Row (ElementOf (Operand n) (Room n)) (Unit {0}))} (elements_words inner) (AllMaybe (AllItems (AllElement claim n)))
      elements_fill =
          maybe_fills (row_words (element_words inner) semicolon_word) (AllItems (AllElement claim n)) (row_fills (element_words inner) semicolon_word semicolons (AllElement claim n) element_fills)

      guard_fills : Fills {A = Option (Rel × Full)} (guard_words inner) (AllMaybe (λ (g : Rel × Full). AllFull claim n g.1))
      guard_fills None rest h k = k
      guard_fills (Some guard) rest h k = (marks (rel_mark guard.0), full_fills guard.1 rest h k)

      theory_fills : Fills {A = TheoryOf (Operand n) (Room n)} (theory_words inner) (AllTheory claim n)
      theory_fills a rest h k =
          let behind : List Word = word.mark m.CloseBrace ∷ guard_words inner a.guard rest in
          let last : AllByRecursion claim behind = (marks m.CloseBrace, guard_fills a.guard rest h.2 k) in
          (marks m.And, (h.0, (marks m.OpenBrace, elements_fill a.elements behind h.1 last)))

      -- ---- statements
      literal_fills : Fills {A = LiteralOf (Operand n) (Room n)} (literal_words inner) (AllLiteral claim n)
      literal_fills (simple c) rest h k = condition_fills c rest h k
      literal_fills (theory true a) rest h k = theory_fills a rest h k
      literal_fills (theory false a) rest h k = (negations, theory_fills a rest h k)

      body_fills : Fills {A = Option (BodyOf (Operand n) (Room n))} (body_words inner) (AllBody claim n)
      body_fills None rest h k = k
      body_fills (Some body) rest h k = row_fills (literal_words inner) separating_word separators (AllLiteral claim n) literal_fills body rest h k

      maybe_rel_fills : (r : Option Rel) (rest : List Word) → AllByRecursion claim rest → AllByRecursion claim (maybe_rel_words r rest)
      maybe_rel_fills None rest k = k
      maybe_rel_fills (Some r) rest k = (marks (rel_mark r), k)

      left_fills : Fills {A = Option (Full × Option Rel)} (left_words inner) (AllLeft claim n)
      left_fills None rest h k = k
      left_fills (Some bound) rest h k = full_fills bound.0 (maybe_rel_words bound.1 rest) h (maybe_rel_fills bound.1 rest k)

      right_fills : Fills {A = Option (Option Rel × Full)} (right_words inner) (AllRight claim n)
      right_fills None rest h k = k
      right_fills (Some bound) rest h k = maybe_rel_fills bound.0 (full_words inner bound.1 rest) (full_fills bound.1 rest h k)

      chosen_fills : Fills {A = ChosenOf (Operand n) (Room n)} (chosen_words inner) (AllChosen claim n)
      chosen_fills e rest h k = atoms_fill e.atom (given_words inner e.condition rest) h.0 (given_fills e.condition rest h.1 k)

      chosens_fill : Fills {A = Option (Row (ChosenOf (Operand n) (Room n)) (Unit {0}))} (chosens_words inner) (AllMaybe (AllItems (AllChosen claim n)))
      chosens_fill None rest h k = k
      chosens_fill (Some row) rest h k = row_fills (chosen_words inner) semicolon_word semicolons (AllChosen claim n) chosen_fills row rest h k

      choice_fills : Fills {A = ChoiceOf (Operand n) (Room n)} (choice_words inner) (AllChoice claim n)
      choice_fills c rest h k =
          let behind : List Word = word.mark m.CloseBrace ∷ right_words inner c.right rest in
          let last : AllByRecursion claim behind = (marks m.CloseBrace, right_fills c.right rest h.2 k) in
          left_fills c.left (word.mark m.OpenBrace ∷ chosens_words inner c.elements behind) h.0 (marks m.OpenBrace, chosens_fill c.elements behind h.1 last)

      head_fills : Fills {A = HeadOf (Operand n) (Room n)} (head_words inner) (AllHead claim n)
      head_fills (atom_head a) rest h k = atoms_fill a rest h k
      head_fills (choice_head c) rest h k = choice_fills c rest h k
      head_fills (theory_head a) rest h k = theory_fills a rest h k

      arrow_fills : Fills {A = ArrowOf (Operand n) (Room n)} (arrow_words inner) (AllArrow claim n)
      arrow_fills no_arrow rest h k = k
      arrow_fills (arrow body) rest h k = (marks m.Arrow, body_fills body rest h k)

      statement_fills : claim word.const_word → claim word.show_word → Fills {A = StatementAt n} (words_of_statement n) (AllStatement claim n)
      statement_fills c s (headed head behind) rest h k =
          head_fills head (arrow_words inner behind (word.mark m.Dot ∷ rest)) h.0 (arrow_fills behind (word.mark m.Dot ∷ rest) h.1 (marks m.Dot, k))
      statement_fills c s (constraint body) rest h k = (marks m.Arrow, body_fills body (word.mark m.Dot ∷ rest) h (marks m.Dot, k))
      statement_fills c s (constant name term) rest h k = (c, (h.0, (marks m.Equal, full_fills term (word.mark m.Dot ∷ rest) h.1 (marks m.Dot, k))))
      statement_fills c s show_nothing rest h k = (s, (marks m.Dot, k))
      statement_fills c s (show name arity) rest h k = (s, (h.0, (marks m.Divide, (h.1, (marks m.Dot, k)))))

-- where a statement's form has the claim and all words behind it do, so do its words and those behind it
pub all_in_words : (P : Word → Type 0) → ((m : Mark) → P (word.mark m)) → P word.negation → P word.const_word → P word.show_word → (n : ℕ) (f : StatementAt n) (rest : List Word)
    → AllStatement P n f → AllByRecursion P rest → AllByRecursion P (words_of_statement n f rest)
all_in_words P marks negations constants shows n f rest h k = statement_fills P marks negations n constants shows f rest h k
