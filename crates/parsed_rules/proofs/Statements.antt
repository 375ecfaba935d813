-- Where no check fails in a form, its tree passes the checks.
use Rattle.std.proofs.Common.{◌≡◌, ℕ, suc, ◌+◌, Bool, true, false, not, ◌&&◌, List, [], ◌∷◌, ◌++◌, map, Option, Some, None, refl, sym, subst}
use Rattle.std.specs.List.{AllByRecursion}
use Rattle.std.specs.Option.{is_some}
use Rattle.symbols.specs.declared.rel.Rel.{Rel}
use Rattle.syntax_tree.specs.declared.rule.Name.{Name}
use Rattle.syntax_tree.specs.declared.term.Term.{Term}
use Rattle.syntax_tree.specs.declared.literal.Literal.{Literal}
use Rattle.syntax_tree.specs.declared.literal.Literal.TheVariants as l
use Rattle.syntax_tree.specs.declared.literal.Literal.TheOpen.{TheoryAtom-F, TheoryElement-F}
use Rattle.syntax_tree.specs.declared.literal.TheoryAtom.{TheoryAtom}
use Rattle.syntax_tree.specs.declared.literal.TheoryElement.{TheoryElement}
use Rattle.syntax_tree.specs.declared.literal.TheoryName.{TheoryName}
use Rattle.grammar.specs.declared.check.Check.TheVariants.{UnknownTheory, WrongPlace, BadGuard}
use Rattle.grammar.specs.declared.shape.Shape.{Shape}
use Rattle.grammar.specs.Word.{Word}
use Rattle.grammar.specs.Row.{Row}
use Rattle.grammar.specs.Term.{UnaryOf, Operand, Room, atom_words, operand_words}
use Rattle.grammar.specs.Shape.{operand_shape}
use Rattle.grammar.specs.Tree.{atom_tree, unary_tree, operand_tree}
use Rattle.grammar.specs.Sight.{Sighting, size, along, refused_by, atom_bads, operand_bads}
use Rattle.grammar.specs.Theory.{FullTerm, ConditionOf, holds, compares, GivenOf, ElementOf, TheoryOf, full_words, condition_words, element_words}
use Rattle.grammar.specs.Statement.{LiteralOf, simple, theory, BodyOf, ChosenOf, ChoiceOf, HeadOf, atom_head, choice_head, theory_head, ArrowOf, no_arrow, arrow, headed, constraint, literal_words, chosen_words, head_words}
use Rattle.grammar.specs.StatementTree.{items_of, full_tree, condition_tree, given_trees, maybe_tree, element_tree, guard_tree, theory_tree, theory_name, literal_tree, body_trees, chosen_tree, head_tree, arrow_trees}
use Rattle.grammar.specs.StatementSight.{behind_first, behind_duration, behind_rest, theory_brace, choice_opening, choice_closing}
use Rattle.grammar.specs.Check.{fails_where, bad_terms, is_unknown, is_literal, is_diff, is_bad_guard, relation_of, operand_is_difference, places_where, second_bads, full_shape, free_bads, plain_bads, right_bads, condition_bads, given_bads, first_bads, duration_bads, places_bads, only_bads, element_bads, elements_bads, guard_bads, theory_fails, literal_fails, body_fails, left_fails, right_fails, chosen_fails, chosens_fail, choice_fails, head_fails, stands_alone, arrow_fails, statement_fails}
use Rattle.ground_model.proofs.OrderedLemmas.{property_append}
use Rattle.program_meaning.specs.Read.{ReadTheory, plain_of, plains, literal_read, choice_read, head_read}
use Rattle.program_meaning.specs.Comparison.{ends}
use Rattle.rewritten_rules.proofs.Reading.{element_read, read-Atom, read-Compare, read-Theory, read-TheoryAtom, read-TheoryElement}
use Rattle.groundable_rules.specs.Groundable.{may_be_told, may_be_duty}
use Rattle.checked_rules.specs.Checked.{IsPlainChecked, AreChecked, IsElementChecked, IsChoiceChecked, IsLiteralChecked, IsHeadChecked}
use Rattle.parsed_rules.proofs.Ends.{term_end, operand_end}
use Rattle.parsed_rules.proofs.Passing.{both_nothing, no_bad_terms, fails_not, not_false, not_refused, row_passes}
use Rattle.parsed_rules.proofs.Standing.{IsGuardOf, told_where, duty_where}

all_plain : (literals : List Literal) → AllByRecursion (λ literal. AreChecked (plain_of (literal_read literal))) literals → AreChecked (plains (map literal_read literals))
all_plain [] all = tt
all_plain (literal ∷ literals) all = property_append IsPlainChecked (plain_of (literal_read literal)) (plains (map literal_read literals)) all.0 (all_plain literals all.1)

all_read : {A B : Type 0} (P : B → Type 0) (f : A → B) (items : List A) → AllByRecursion (λ a. P (f a)) items → AllByRecursion P (map f items)
all_read P f [] all = tt
all_read P f (a ∷ items) all = (all.0, all_read P f items all.1)

module _ (n : ℕ) (names : List Name) where
  abbrev D : Type 0
  D = Operand n

  abbrev R : Type 0
  R = Room n

  abbrev words : D → List Word → List Word
  words = operand_words n

  abbrev shapes : D → Shape
  shapes = operand_shape n

  abbrev bads : D → ℕ → List ℕ
  bads = operand_bads n

  abbrev difference : D → Bool
  difference = operand_is_difference n

  abbrev inner : D → Term
  inner = operand_tree names n

  abbrev operand : UnaryOf D R → Term
  operand = unary_tree names inner

  -- ---- terms
  abbrev free : FullTerm D R → ℕ → List ℕ
  free = free_bads words shapes bads difference

  abbrev shape_of : FullTerm D R → Shape
  shape_of = full_shape words shapes bads difference

  plain_ends : (x : FullTerm D R) (at : ℕ) → plain_bads words shapes bads difference x at ≡ [] → ends (full_tree inner operand x) ≡ None
  plain_ends x at h =
      term_end (operand_tree names (suc n)) (operand_shape (suc n)) (operand_end names (suc n)) x
      (not_refused (shape_of x) at (both_nothing (refused_by (shape_of x) at) (free x at) h).0)

  -- ---- conditions
  atom_literal : (a : Term) (sign : Bool) → IsLiteralChecked (literal_read (l.Atom a sign))
  atom_literal a sign = subst IsLiteralChecked (sym (read-Atom a sign)) tt

  atom_plain : (a : Term) (sign : Bool) → AreChecked (plain_of (literal_read (l.Atom a sign)))
  atom_plain a sign = subst (λ r. AreChecked (plain_of r)) (sym (read-Atom a sign)) (tt, tt)

  left_ends : (left : FullTerm D R) (r : Rel) (right : FullTerm D R) (at : ℕ) → condition_bads words shapes bads difference (compares left r right) at ≡ [] → ends (full_tree inner operand left) ≡ None
  left_ends left r right at h =
      plain_ends left at
      (both_nothing (plain_bads words shapes bads difference left at) (right_bads words shapes bads difference r right (at + size (full_words {R = R} words) left + 1)) h).0

  condition_passes : (c : ConditionOf D R) (at : ℕ) → condition_bads words shapes bads difference c at ≡ [] → IsLiteralChecked (literal_read (condition_tree inner operand c))
  condition_passes (holds true a) at h = atom_literal (atom_tree inner a) true
  condition_passes (holds false a) at h = atom_literal (atom_tree inner a) false
  condition_passes (compares left r right) at h =
      subst IsLiteralChecked (sym (read-Compare (full_tree inner operand left) r (full_tree inner operand right))) (left_ends left r right at h)

  condition_plain : (c : ConditionOf D R) (at : ℕ) → condition_bads words shapes bads difference c at ≡ [] → AreChecked (plain_of (literal_read (condition_tree inner operand c)))
  condition_plain (holds true a) at h = atom_plain (atom_tree inner a) true
  condition_plain (holds false a) at h = atom_plain (atom_tree inner a) false
  condition_plain (compares left r right) at h =
      subst (λ x. AreChecked (plain_of x)) (sym (read-Compare (full_tree inner operand left) r (full_tree inner operand right))) (left_ends left r right at h, tt)

  given_passes : (g : GivenOf D R) (at : ℕ) → given_bads words shapes bads difference g at ≡ [] → AreChecked (plains (map literal_read (given_trees inner operand g)))
  given_passes None at h = tt
  given_passes (Some None) at h = tt
  given_passes (Some (Some row)) at h =
      all_plain (given_trees inner operand (Some (Some row)))
      (row_passes (λ literal. AreChecked (plain_of (literal_read literal))) (condition_tree inner operand) (condition_bads words shapes bads difference) (size (condition_words words)) condition_plain row (at + 1) h)

  -- ---- elements of theory atoms
  element_passes : (k : TheoryName) (e : ElementOf D R) (at : ℕ) → element_bads words shapes bads difference k e at ≡ [] → IsElementChecked (element_read (element_tree inner operand e))
  element_passes k e at h = subst IsElementChecked (sym (read-TheoryElement x)) (given_passes e.condition (behind_rest words e at) last)
    where
      x : TheoryElement-F Literal TheoryAtom TheoryElement
      x = record {
        first = full_tree inner operand e.first;
        duration = maybe_tree inner operand e.duration;
        rest = items_of (full_tree inner operand) e.rest;
        condition = given_trees inner operand e.condition;
      }

      front : List ℕ
      front =
          first_bads words shapes bads difference k e.first at ++ duration_bads words shapes bads difference k at e.duration (behind_first words e at)
          ++ places_bads words shapes bads difference k e.rest (behind_duration words e at)

      only : only_bads words shapes bads difference k e.condition (behind_rest words e at) ≡ []
      only = (both_nothing front (only_bads words shapes bads difference k e.condition (behind_rest words e at)) h).1

      last : given_bads words shapes bads difference e.condition (behind_rest words e at) ≡ []
      last =
          (both_nothing (places_where (is_some e.condition && is_diff k) (behind_rest words e at))
          (given_bads words shapes bads difference e.condition (behind_rest words e at)) only).1

  elements_pass : (k : TheoryName) (es : Option (Row (ElementOf D R) (Unit {0}))) (at : ℕ) → elements_bads words shapes bads difference k es at ≡ []
      → AllByRecursion IsElementChecked (map element_read (items_of (element_tree inner operand) es))
  elements_pass k None at h = tt
  elements_pass k (Some row) at h =
      all_read IsElementChecked element_read (items_of (element_tree inner operand) (Some row))
      (row_passes (λ e. IsElementChecked (element_read e)) (element_tree inner operand) (element_bads words shapes bads difference k) (size (element_words words)) (element_passes k) row at
      (both_nothing (along (element_bads words shapes bads difference k) (size (element_words words)) row at)
      (second_bads (is_diff k) row.rest (at + size (element_words words) row.first)) h).0)

  -- ---- theory atoms
  record TheoryPasses (a : TheoryOf D R) : Type 0 where
    known : is_unknown (theory_name a.name) ≡ false
    elements : AllByRecursion IsElementChecked (map element_read (items_of (element_tree inner operand) a.elements))
    guard : is_bad_guard (theory_name a.name) (relation_of a.guard) ≡ false

  theory_passes : (a : TheoryOf D R) (at : ℕ) → theory_fails words shapes bads difference a at ≡ [] → TheoryPasses a
  theory_passes a at h =
      let first = fails_where (is_unknown (theory_name a.name)) UnknownTheory (at + 1) in
      let second = bad_terms (elements_bads words shapes bads difference (theory_name a.name) a.elements (at + 3)) in
      let third = fails_where (is_bad_guard (theory_name a.name) (relation_of a.guard)) BadGuard (theory_brace words a at + 1) in
      let fourth = bad_terms (guard_bads words shapes bads difference a.guard (theory_brace words a at + 1)) in
      let p = both_nothing ((first ++ second) ++ third) fourth h in
      let q = both_nothing (first ++ second) third p.0 in
      let r = both_nothing first second q.0 in record {
        known = fails_not (is_unknown (theory_name a.name)) UnknownTheory (at + 1) r.0;
        elements = elements_pass (theory_name a.name) a.elements (at + 3) (no_bad_terms (elements_bads words shapes bads difference (theory_name a.name) a.elements (at + 3)) r.1);
        guard = fails_not (is_bad_guard (theory_name a.name) (relation_of a.guard)) BadGuard (theory_brace words a at + 1) q.1;
      }

  guard_is : (g : Option (Rel × FullTerm D R)) → IsGuardOf (relation_of g) (guard_tree inner operand g)
  guard_is None = refl
  guard_is (Some g) = refl

  abbrev parts_of : TheoryOf D R → TheoryAtom-F Literal TheoryAtom TheoryElement
  parts_of a = record { name = theory_name a.name; elements = items_of (element_tree inner operand) a.elements; guard = guard_tree inner operand a.guard }

  theory_told : (a : TheoryOf D R) (sign : Bool) → is_literal (theory_name a.name) ≡ true → TheoryPasses a → IsLiteralChecked (literal_read (l.Theory (theory_tree inner operand a) sign))
  theory_told a sign is p =
      subst IsLiteralChecked (sym (read-Theory (theory_tree inner operand a) sign))
      (subst (λ (r : ReadTheory). (may_be_told r ≡ true) × AllByRecursion IsElementChecked r.elements) (sym (read-TheoryAtom (parts_of a)))
      (told_where (theory_name a.name) (relation_of a.guard) (guard_tree inner operand a.guard) (map element_read (items_of (element_tree inner operand) a.elements)) (guard_is a.guard) is p.guard, p.elements))

  -- ---- literals and bodies
  told_passes : (a : TheoryOf D R) (sign : Bool) (at : ℕ) → fails_where (not (is_literal (theory_name a.name))) WrongPlace at ++ theory_fails words shapes bads difference a at ≡ []
      → IsLiteralChecked (literal_read (l.Theory (theory_tree inner operand a) sign))
  told_passes a sign at h =
      let p = both_nothing (fails_where (not (is_literal (theory_name a.name))) WrongPlace at) (theory_fails words shapes bads difference a at) h in
      theory_told a sign (not_false (is_literal (theory_name a.name)) (fails_not (not (is_literal (theory_name a.name))) WrongPlace at p.0)) (theory_passes a at p.1)

  literal_passes : (x : LiteralOf D R) (at : ℕ) → literal_fails words shapes bads difference x at ≡ [] → IsLiteralChecked (literal_read (literal_tree inner operand x))
  literal_passes (simple c) at h = condition_passes c at (no_bad_terms (condition_bads words shapes bads difference c at) h)
  literal_passes (theory true a) at h = told_passes a true at h
  literal_passes (theory false a) at h = told_passes a false (at + 1) h

  body_passes : (b : Option (BodyOf D R)) (at : ℕ) → body_fails words shapes bads difference b at ≡ [] → AllByRecursion IsLiteralChecked (map literal_read (body_trees inner operand b))
  body_passes None at h = tt
  body_passes (Some row) at h =
      all_read IsLiteralChecked literal_read (body_trees inner operand (Some row))
      (row_passes (λ x. IsLiteralChecked (literal_read x)) (literal_tree inner operand) (literal_fails words shapes bads difference) (size (literal_words words)) literal_passes row at h)

  -- ---- heads
  chosen_passes : (e : ChosenOf D R) (at : ℕ) → chosen_fails words shapes bads difference e at ≡ [] → IsChoiceChecked (choice_read (chosen_tree inner operand e))
  chosen_passes e at h =
      let given = given_bads words shapes bads difference e.condition (at + size (atom_words words) e.atom) in
      given_passes e.condition (at + size (atom_words words) e.atom) (no_bad_terms given (both_nothing (bad_terms (atom_bads words shapes bads e.atom at)) (bad_terms given) h).1)

  chosens_pass : (es : Option (Row (ChosenOf D R) (Unit {0}))) (at : ℕ) → chosens_fail words shapes bads difference es at ≡ []
      → AllByRecursion IsChoiceChecked (map choice_read (items_of (chosen_tree inner operand) es))
  chosens_pass None at h = tt
  chosens_pass (Some row) at h =
      all_read IsChoiceChecked choice_read (items_of (chosen_tree inner operand) (Some row))
      (row_passes (λ e. IsChoiceChecked (choice_read e)) (chosen_tree inner operand) (chosen_fails words shapes bads difference) (size (chosen_words words)) chosen_passes row at h)

  choice_passes : (c : ChoiceOf D R) (at : ℕ) → choice_fails words shapes bads difference c at ≡ [] → AllByRecursion IsChoiceChecked (map choice_read (items_of (chosen_tree inner operand) c.elements))
  choice_passes c at h =
      let one = left_fails words shapes bads difference c.left at in
      let two = chosens_fail words shapes bads difference c.elements (choice_opening words c at + 1) in
      let three = right_fails words shapes bads difference c.right (choice_closing words c at + 1) in
      chosens_pass c.elements (choice_opening words c at + 1) (both_nothing one two (both_nothing (one ++ two) three h).0).1

  pub head_passes : (h : HeadOf D R) (at : ℕ) → head_fails words shapes bads difference h at ≡ [] → IsHeadChecked (head_read (head_tree inner operand h))
  head_passes (atom_head a) at h = tt
  head_passes (choice_head c) at h = choice_passes c at h
  head_passes (theory_head a) at h =
      let p = theory_passes a at h in
      subst (λ (r : ReadTheory). (may_be_duty r ≡ true) × AllByRecursion IsElementChecked r.elements) (sym (read-TheoryAtom (parts_of a)))
      (duty_where (theory_name a.name) (relation_of a.guard) (guard_tree inner operand a.guard) (map element_read (items_of (element_tree inner operand) a.elements)) (guard_is a.guard) p.known p.guard, p.elements)

  arrow_passes : (alone : Bool) (a : ArrowOf D R) (at : ℕ) → arrow_fails words shapes bads difference alone a at ≡ [] → AllByRecursion IsLiteralChecked (map literal_read (arrow_trees inner operand a))
  arrow_passes alone no_arrow at h = tt
  arrow_passes alone (arrow body) at h = body_passes body (at + 1) (both_nothing (fails_where alone WrongPlace at) (body_fails words shapes bads difference body (at + 1)) h).1

  -- ---- statements
  pub headed_passes : (sights : List Sighting) (h : HeadOf D R) (behind : ArrowOf D R) (at : ℕ) → statement_fails words shapes bads difference sights (headed h behind) at ≡ []
      → IsHeadChecked (head_read (head_tree inner operand h)) × AllByRecursion IsLiteralChecked (map literal_read (arrow_trees inner operand behind))
  headed_passes sights h behind at none =
      let alone = stands_alone words shapes bads difference h in
      let further = at + size (head_words words) h in
      let p = both_nothing (head_fails words shapes bads difference h at) (arrow_fails words shapes bads difference alone behind further) none in
      (head_passes h at p.0, arrow_passes alone behind further p.1)

  pub constraint_passes : (sights : List Sighting) (body : Option (BodyOf D R)) (at : ℕ) → statement_fails words shapes bads difference sights (constraint body) at ≡ []
      → AllByRecursion IsLiteralChecked (map literal_read (body_trees inner operand body))
  constraint_passes sights body at none = body_passes body (at + 1) none
