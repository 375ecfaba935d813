-- A claim on the words of a statement, each by itself, is the claim that its form makes of them; and the tidied statement keeps it.
use Rattle.std.specs.Prelude.{ℕ, suc, true, false, Option, Some, None, List, [], ◌∷◌, map}
use Rattle.std.specs.List.{AllByRecursion}
use Rattle.symbols.specs.declared.rel.Rel.{Rel}
use Rattle.syntax_tree.specs.declared.literal.TheoryName.{TheoryName}
use Rattle.syntax_tree.specs.Printed.{theory_name_text}
use Rattle.grammar.specs.declared.mark.Mark.TheVariants as m
use Rattle.grammar.specs.Word.{Word}
use Rattle.grammar.specs.Word as word
use Rattle.grammar.specs.Row.{Row, row_words}
use Rattle.grammar.specs.Parts.{maybe_words}
use Rattle.grammar.specs.Term.{AtomOf, Operand, Room, UnaryOf, comma_word, atom_words, unary_words, operand_words}
use Rattle.grammar.specs.Theory.{FullTerm, ConditionOf, holds, compares, PlacesOf, GivenOf, ElementOf, TheoryOf, rel_word, semicolon_word, full_words, condition_words, given_words, duration_words, places_words, element_words, elements_words, guard_words, theory_words}
use Rattle.grammar.specs.Statement.{LiteralOf, simple, theory, Separating, by_comma, separating_word, BodyOf, ChosenOf, ChoiceOf, HeadOf, atom_head, choice_head, theory_head, ArrowOf, no_arrow, arrow, headed, constraint, constant, show_nothing, show, StatementAt, maybe_rel_words, literal_words, body_words, left_words, right_words, chosen_words, chosens_words, choice_words, head_words, arrow_words, words_of_statement, text_words}
use Rattle.grammar.specs.StatementTree.{theory_name}
use Rattle.grammar.specs.AllWords.{AllItems, AllOperand}
use Rattle.grammar.specs.Tidied.{map_row}
use Rattle.grammar.specs.TidiedStatement.{map_maybe, tidied_full, tidied_condition, tidied_given, tidied_element, tidied_guard, tidied_theory, tidied_literal, tidied_body, tidied_chosen, tidied_left, tidied_right, tidied_choice, tidied_head, tidied_arrow, tidied_statement}
use Rattle.text_laws.proofs.AllStatement.{AllMaybe, AllFull, AllAtomAt, AllCondition, AllGiven, AllElement, AllTheory, AllLiteral, AllBody, AllChosen, AllLeft, AllRight, AllChoice, AllHead, AllArrow, AllStatement}
use Rattle.text_laws.proofs.AllTermLaws.{all_row, Gives, row_gives, term_gives, atom_gives, operand_gives, all_tidied_term, all_tidied_atom}

-- ---- a statement and its words
module _ (claim : Word → Type 0) where
  maybe_gives : {A : Type 0} (words : A → List Word → List Word) (all : A → Type 0) → Gives claim words all → Gives claim (maybe_words words) (AllMaybe all)
  maybe_gives words all gives None rest h = (tt, h)
  maybe_gives words all gives (Some a) rest h = gives a rest h

  module _ (n : ℕ) where
    abbrev Full : Type 0
    Full = FullTerm (Operand n) (Room n)

    abbrev inner : Operand n → List Word → List Word
    inner = operand_words n

    full_gives : Gives claim {A = Full} (full_words inner) (AllFull claim n)
    full_gives = term_gives claim {U = UnaryOf (Operand n) (Room n)} (unary_words inner) (AllOperand claim (suc n)) (operand_gives claim (suc n))

    atoms_give : Gives claim {A = AtomOf (Operand n)} (atom_words inner) (AllAtomAt claim n)
    atoms_give = atom_gives claim inner (AllOperand claim n) (operand_gives claim n)

    condition_gives : Gives claim {A = ConditionOf (Operand n) (Room n)} (condition_words inner) (AllCondition claim n)
    condition_gives (holds true a) rest h = atoms_give a rest h
    condition_gives (holds false a) rest h = atoms_give a rest h.1
    condition_gives (compares left r right) rest h =
        let a = full_gives left (rel_word r ∷ full_words inner right rest) h in
        let b = full_gives right rest a.1.1 in
        ((a.0, b.0), b.1)

    conditions_give : Gives claim {A = Row (ConditionOf (Operand n) (Room n)) (Unit {0})} (row_words (condition_words inner) comma_word) (AllItems (AllCondition claim n))
    conditions_give = row_gives claim (condition_words inner) comma_word (AllCondition claim n) condition_gives

    given_gives : Gives claim {A = GivenOf (Operand n) (Room n)} (given_words inner) (AllGiven claim n)
    given_gives None rest h = (tt, h)
    given_gives (Some None) rest h = (tt, h.1)
    given_gives (Some (Some row)) rest h = conditions_give row rest h.1

    duration_gives : Gives claim {A = Option Full} (duration_words inner) (AllMaybe (AllFull claim n))
    duration_gives None rest h = (tt, h)
    duration_gives (Some term) rest h = full_gives term rest h.1

    places_give : Gives claim {A = Option (PlacesOf (Operand n) (Room n))} (places_words inner) (AllMaybe (AllItems (AllFull claim n)))
    places_give None rest h = (tt, h)
    places_give (Some row) rest h = row_gives claim (full_words inner) comma_word (AllFull claim n) full_gives row rest h.1

    element_gives : Gives claim {A = ElementOf (Operand n) (Room n)} (element_words inner) (AllElement claim n)
    element_gives e rest h =
        let last : List Word = given_words inner e.condition rest in
        let third : List Word = places_words inner e.rest last in
        let a = full_gives e.first (duration_words inner e.duration third) h in
        let b = duration_gives e.duration third a.1 in
        let c = places_give e.rest last b.1 in
        let d = given_gives e.condition rest c.1 in
        ((a.0, b.0, c.0, d.0), d.1)

    elements_give : Gives claim {A = Option (Row (ElementOf (Operand n) (Room n)) (Unit {0}))} (elements_words inner) (AllMaybe (AllItems (AllElement claim n)))
    elements_give = maybe_gives (row_words (element_words inner) semicolon_word) (AllItems (AllElement claim n)) (row_gives claim (element_words inner) semicolon_word (AllElement claim n) element_gives)

    guard_gives : Gives claim {A = Option (Rel × Full)} (guard_words inner) (AllMaybe (λ (g : Rel × Full). AllFull claim n g.1))
    guard_gives None rest h = (tt, h)
    guard_gives (Some guard) rest h = full_gives guard.1 rest h.1

    theory_gives : Gives claim {A = TheoryOf (Operand n) (Room n)} (theory_words inner) (AllTheory claim n)
    theory_gives a rest h =
        let e = elements_give a.elements (word.mark m.CloseBrace ∷ guard_words inner a.guard rest) h.1.1.1 in
        let g = guard_gives a.guard rest e.1.1 in
        ((h.1.0, e.0, g.0), g.1)

    literal_gives : Gives claim {A = LiteralOf (Operand n) (Room n)} (literal_words inner) (AllLiteral claim n)
    literal_gives (simple c) rest h = condition_gives c rest h
    literal_gives (theory true a) rest h = theory_gives a rest h
    literal_gives (theory false a) rest h = theory_gives a rest h.1

    body_gives : Gives claim {A = Option (BodyOf (Operand n) (Room n))} (body_words inner) (AllBody claim n)
    body_gives None rest h = (tt, h)
    body_gives (Some body) rest h = row_gives claim (literal_words inner) separating_word (AllLiteral claim n) literal_gives body rest h

    maybe_rel_gives : (r : Option Rel) (rest : List Word) → AllByRecursion claim (maybe_rel_words r rest) → AllByRecursion claim rest
    maybe_rel_gives None rest h = h
    maybe_rel_gives (Some r) rest h = h.1

    left_gives : Gives claim {A = Option (Full × Option Rel)} (left_words inner) (AllLeft claim n)
    left_gives None rest h = (tt, h)
    left_gives (Some bound) rest h =
        let a = full_gives bound.0 (maybe_rel_words bound.1 rest) h in
        (a.0, maybe_rel_gives bound.1 rest a.1)

    right_gives : Gives claim {A = Option (Option Rel × Full)} (right_words inner) (AllRight claim n)
    right_gives None rest h = (tt, h)
    right_gives (Some bound) rest h = full_gives bound.1 rest (maybe_rel_gives bound.0 (full_words inner bound.1 rest) h)

    chosen_gives : Gives claim {A = ChosenOf (Operand n) (Room n)} (chosen_words inner) (AllChosen claim n)
    chosen_gives e rest h =
        let a = atoms_give e.atom (given_words inner e.condition rest) h in
        let b = given_gives e.condition rest a.1 in
        ((a.0, b.0), b.1)

    chosens_give : Gives claim {A = Option (Row (ChosenOf (Operand n) (Room n)) (Unit {0}))} (chosens_words inner) (AllMaybe (AllItems (AllChosen claim n)))
    chosens_give None rest h = (tt, h)
    chosens_give (Some row) rest h = row_gives claim (chosen_words inner) semicolon_word (AllChosen claim n) chosen_gives row rest h

    choice_gives : Gives claim {A = ChoiceOf (Operand n) (Room n)} (choice_words inner) (AllChoice claim n)
    choice_gives c rest h =
        let behind : List Word = word.mark m.CloseBrace ∷ right_words inner c.right rest in
        let a = left_gives c.left (word.mark m.OpenBrace ∷ chosens_words inner c.elements behind) h in
        let b = chosens_give c.elements behind a.1.1 in
        let d = right_gives c.right rest b.1.1 in
        ((a.0, b.0, d.0), d.1)

    head_gives : Gives claim {A = HeadOf (Operand n) (Room n)} (head_words inner) (AllHead claim n)
    head_gives (atom_head a) rest h = atoms_give a rest h
    head_gives (choice_head c) rest h = choice_gives c rest h
    head_gives (theory_head a) rest h = theory_gives a rest h

    arrow_gives : Gives claim {A = ArrowOf (Operand n) (Room n)} (arrow_words inner) (AllArrow claim n)
    arrow_gives no_arrow rest h = (tt, h)
    arrow_gives (arrow body) rest h = body_gives body rest h.1

    pub statement_gives : Gives claim {A = StatementAt n} (words_of_statement n) (AllStatement claim n)
    statement_gives (headed head behind) rest h =
        let a = head_gives head (arrow_words inner behind (word.mark m.Dot ∷ rest)) h in
        let b = arrow_gives behind (word.mark m.Dot ∷ rest) a.1 in
        ((a.0, b.0), b.1.1)
    statement_gives (constraint body) rest h =
        let b = body_gives body (word.mark m.Dot ∷ rest) h.1 in
        (b.0, b.1.1)
    statement_gives (constant name term) rest h =
        let a = full_gives term (word.mark m.Dot ∷ rest) h.1.1.1 in
        ((h.1.0, a.0), a.1.1)
    statement_gives show_nothing rest h = (tt, h.1.1)
    statement_gives (show name arity) rest h = ((h.1.0, h.1.1.1.0), h.1.1.1.1.1)

-- where all words of a statement have the claim, those of its form do
pub all_of_words : (P : Word → Type 0) (n : ℕ) (f : StatementAt n) (rest : List Word) → AllByRecursion P (words_of_statement n f rest) → AllStatement P n f
all_of_words P n f rest h = (statement_gives P n f rest h).0

-- where all words of a text have the claim, each of its statements does
pub all_in_text : (P : Word → Type 0) (n : ℕ) (forms : List (StatementAt n)) → AllByRecursion P (text_words n forms) → AllByRecursion (AllStatement P n) forms
all_in_text P n [] h = tt
all_in_text P n (form ∷ forms) h =
    let here = statement_gives P n form (text_words n forms) h in
    (here.0, all_in_text P n forms here.1)

-- ---- tidied statements
all_maybe : {A B : Type 0} (f : A → B) (before : A → Type 0) (after : B → Type 0) → ((x : A) → before x → after (f x)) → (x : Option A) → AllMaybe before x → AllMaybe after (map_maybe f x)
all_maybe f before after keeps None h = tt
all_maybe f before after keeps (Some x) h = keeps x h

module _ (claim : Word → Type 0) (named : (k : TheoryName) → claim (word.name (theory_name_text k))) (n : ℕ) where
  all_full : (x : FullTerm (Operand n) (Room n)) → AllFull claim n x → AllFull claim n (tidied_full n x)
  all_full = all_tidied_term claim (suc n)

  all_condition : (c : ConditionOf (Operand n) (Room n)) → AllCondition claim n c → AllCondition claim n (tidied_condition n c)
  all_condition (holds positive a) h = all_tidied_atom claim n a h
  all_condition (compares left r right) h = (all_full left h.0, all_full right h.1)

  all_given : (g : GivenOf (Operand n) (Room n)) → AllGiven claim n g → AllGiven claim n (tidied_given n g)
  all_given None h = tt
  all_given (Some None) h = tt
  all_given (Some (Some row)) h = all_row (tidied_condition n) (AllCondition claim n) (AllCondition claim n) all_condition row h

  all_places : (row : PlacesOf (Operand n) (Room n)) → AllItems (AllFull claim n) row → AllItems (AllFull claim n) (map_row (tidied_full n) row)
  all_places = all_row (tidied_full n) (AllFull claim n) (AllFull claim n) all_full

  all_element : (e : ElementOf (Operand n) (Room n)) → AllElement claim n e → AllElement claim n (tidied_element n e)
  all_element e h = (
    all_full e.first h.0,
    all_maybe (tidied_full n) (AllFull claim n) (AllFull claim n) all_full e.duration h.1,
    all_maybe (map_row (tidied_full n)) (AllItems (AllFull claim n)) (AllItems (AllFull claim n)) all_places e.rest h.2,
    all_given e.condition h.3,
  )

  all_elements : (row : Row (ElementOf (Operand n) (Room n)) (Unit {0})) → AllItems (AllElement claim n) row → AllItems (AllElement claim n) (map_row (tidied_element n) row)
  all_elements = all_row (tidied_element n) (AllElement claim n) (AllElement claim n) all_element

  abbrev AllGuard : Rel × FullTerm (Operand n) (Room n) → Type 0
  AllGuard guard = AllFull claim n guard.1

  all_guard : (g : Rel × FullTerm (Operand n) (Room n)) → AllGuard g → AllGuard (tidied_guard n g)
  all_guard g h = all_full g.1 h

  all_theory : (a : TheoryOf (Operand n) (Room n)) → AllTheory claim n a → AllTheory claim n (tidied_theory n a)
  all_theory a h = (
    named (theory_name a.name),
    all_maybe (map_row (tidied_element n)) (AllItems (AllElement claim n)) (AllItems (AllElement claim n)) all_elements a.elements h.1,
    all_maybe (tidied_guard n) AllGuard AllGuard all_guard a.guard h.2,
  )

  all_literal : (l : LiteralOf (Operand n) (Room n)) → AllLiteral claim n l → AllLiteral claim n (tidied_literal n l)
  all_literal (simple c) h = all_condition c h
  all_literal (theory positive a) h = all_theory a h

  all_behind : (parts : List (Separating × LiteralOf (Operand n) (Room n))) → AllByRecursion (λ (p : Separating × LiteralOf (Operand n) (Room n)). AllLiteral claim n p.1) parts
      → AllByRecursion (λ (p : Separating × LiteralOf (Operand n) (Room n)). AllLiteral claim n p.1) (map (λ (p : Separating × LiteralOf (Operand n) (Room n)). (by_comma, tidied_literal n p.1)) parts)
  all_behind [] h = tt
  all_behind (part ∷ parts) h = (all_literal part.1 h.0, all_behind parts h.1)

  all_body : (body : BodyOf (Operand n) (Room n)) → AllItems (AllLiteral claim n) body → AllItems (AllLiteral claim n) (tidied_body n body)
  all_body body h = (all_literal body.first h.0, all_behind body.rest h.1)

  all_bodies : (body : Option (BodyOf (Operand n) (Room n))) → AllBody claim n body → AllBody claim n (map_maybe (tidied_body n) body)
  all_bodies = all_maybe (tidied_body n) (AllItems (AllLiteral claim n)) (AllItems (AllLiteral claim n)) all_body

  all_chosen : (e : ChosenOf (Operand n) (Room n)) → AllChosen claim n e → AllChosen claim n (tidied_chosen n e)
  all_chosen e h = (all_tidied_atom claim n e.atom h.0, all_given e.condition h.1)

  all_chosens : (row : Row (ChosenOf (Operand n) (Room n)) (Unit {0})) → AllItems (AllChosen claim n) row → AllItems (AllChosen claim n) (map_row (tidied_chosen n) row)
  all_chosens = all_row (tidied_chosen n) (AllChosen claim n) (AllChosen claim n) all_chosen

  all_left : (b : Option (FullTerm (Operand n) (Room n) × Option Rel)) → AllLeft claim n b → AllLeft claim n (map_maybe (tidied_left n) b)
  all_left None h = tt
  all_left (Some bound) h = all_full bound.0 h

  all_right : (b : Option (Option Rel × FullTerm (Operand n) (Room n))) → AllRight claim n b → AllRight claim n (map_maybe (tidied_right n) b)
  all_right None h = tt
  all_right (Some bound) h = all_full bound.1 h

  all_choice : (c : ChoiceOf (Operand n) (Room n)) → AllChoice claim n c → AllChoice claim n (tidied_choice n c)
  all_choice c h = (
    all_left c.left h.0,
    all_maybe (map_row (tidied_chosen n)) (AllItems (AllChosen claim n)) (AllItems (AllChosen claim n)) all_chosens c.elements h.1,
    all_right c.right h.2,
  )

  all_head : (head : HeadOf (Operand n) (Room n)) → AllHead claim n head → AllHead claim n (tidied_head n head)
  all_head (atom_head a) h = all_tidied_atom claim n a h
  all_head (choice_head c) h = all_choice c h
  all_head (theory_head a) h = all_theory a h

  all_arrow : (behind : ArrowOf (Operand n) (Room n)) → AllArrow claim n behind → AllArrow claim n (tidied_arrow n behind)
  all_arrow no_arrow h = tt
  all_arrow (arrow body) h = all_bodies body h

  all_statement : (f : StatementAt n) → AllStatement claim n f → AllStatement claim n (tidied_statement n f)
  all_statement (headed head behind) h = (all_head head h.0, all_arrow behind h.1)
  all_statement (constraint body) h = all_bodies body h
  all_statement (constant name term) h = (h.0, all_full term h.1)
  all_statement show_nothing h = tt
  all_statement (show name arity) h = h

-- the tidied statement has the claim where the statement has it, and the names of theory atoms do
pub all_tidied : (P : Word → Type 0) → ((k : TheoryName) → P (word.name (theory_name_text k))) → (n : ℕ) (f : StatementAt n) → AllStatement P n f → AllStatement P n (tidied_statement n f)
all_tidied P named n f h = all_statement P named n f h
