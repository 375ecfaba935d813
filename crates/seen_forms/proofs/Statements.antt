-- In the tree of a statement is seen what is seen in its form.
use Rattle.std.proofs.Common.{◌≡◌, ℕ, suc, ◌+◌, Bool, true, false, List, [], ◌∷◌, ◌++◌, map, length, Option, None, Some, sym, ap, subst, append_assoc}
use Rattle.symbols.specs.declared.rel.Rel.{Rel}
use Rattle.syntax_tree.specs.declared.rule.Name.{Name}
use Rattle.syntax_tree.specs.declared.term.Term.{Term}
use Rattle.syntax_tree.specs.declared.literal.Guard.{Guard}
use Rattle.syntax_tree.specs.declared.literal.Literal.{Literal}
use Rattle.syntax_tree.specs.declared.literal.Literal.TheVariants as l
use Rattle.syntax_tree.specs.declared.literal.Literal.TheOpen.{TheoryAtom-F, TheoryElement-F}
use Rattle.syntax_tree.specs.declared.literal.TheoryAtom.{TheoryAtom, roll-TheoryAtom}
use Rattle.syntax_tree.specs.declared.literal.TheoryElement.{TheoryElement, roll-TheoryElement}
use Rattle.syntax_tree.specs.declared.rule.ChoiceElement.{ChoiceElement}
use Rattle.syntax_tree.specs.declared.rule.Choice.{Choice}
use Rattle.syntax_tree.specs.declared.rule.Head.{Head}
use Rattle.syntax_tree.specs.declared.rule.Head.TheVariants as head
use Rattle.syntax_tree.specs.declared.rule.Rule.{Rule}
use Rattle.grammar.specs.declared.shape.Shape.{Shape}
use Rattle.grammar.specs.Word.{Word}
use Rattle.grammar.specs.Row.{Row}
use Rattle.grammar.specs.Term.{AtomOf, UnaryOf, Operand, Room, atom_words, operand_words}
use Rattle.grammar.specs.Shape.{operand_shape}
use Rattle.grammar.specs.Tree.{atom_tree, unary_tree, operand_tree}
use Rattle.grammar.specs.Sight.{Sighting, size, along, operand_sights}
use Rattle.grammar.specs.Theory.{FullTerm, ConditionOf, holds, compares, PlacesOf, GivenOf, ElementOf, TheoryOf, full_words, condition_words, element_words}
use Rattle.grammar.specs.Statement.{LiteralOf, simple, theory, BodyOf, ChosenOf, ChoiceOf, HeadOf, atom_head, choice_head, theory_head, ArrowOf, no_arrow, arrow, literal_words, chosen_words, maybe_rel_words, head_words}
use Rattle.grammar.specs.StatementTree.{items, items_of, full_tree, condition_tree, given_trees, maybe_tree, guard_of, element_tree, guard_tree, theory_tree, theory_name, literal_tree, body_trees, left_tree, right_tree, rel_or_most, chosen_tree, choice_tree, head_tree, arrow_trees}
use Rattle.grammar.specs.StatementSight.{behind_first, behind_duration, behind_rest, theory_brace, choice_opening, choice_closing, atom_seen, full_sights, condition_sights, given_sights, duration_sights, places_sights, element_sights, elements_sights, guard_sights, theory_sights, literal_sights, body_sights, left_sights, right_sights, chosen_sights, chosens_sights, choice_sights, head_sights, arrow_sights}
use Rattle.rewriting.specs.Made.{Made, mapped, both, each, maybe}
use Rattle.rewriting.specs.Rewritten.{term_made, guard_made, atom_made, Places, places_made, closed, with_condition, literal_made, theory_made, element_made, choice_element_made, choice_made, head_made}
use Rattle.rewriting.specs.Order.{sights_of}
use Rattle.rewriting.proofs.Layers.{made-Atom, made-Compare, made-Theory, made-TheoryAtom, made-TheoryElement}
use Rattle.seen_forms.specs.Seen.{AreSeenAs}
use Rattle.seen_forms.specs.Laws.{HeadedLaw, ConstraintLaw}
use Rattle.seen_forms.proofs.Pieces.{Shows, shows_both, shows_closed, shows_row, map_map}
use Rattle.seen_forms.proofs.Terms.{term_shows, atom_shows, operand_shows}

-- a way that is another by its form
shows_as : {X : Type 0} (names : List Name) (one other : ℕ → Made X) (sights : List Sighting) → ((next : ℕ) → one next ≡ other next) → Shows names other sights → Shows names one sights
shows_as names one other sights e k next = subst (λ (m : Made _). AreSeenAs names sights m.sights) (sym (e next)) (k next)

-- the items of a row, where they are trees first
module _ {I S A X : Type 0} (names : List Name) (tree : I → A) (way : A → ℕ → Made X) (gives : I → ℕ → List Sighting) (long : I → ℕ)
    (law : (x : I) (at : ℕ) → Shows names (way (tree x)) (gives x at)) where
  items_show : (row : Row I S) (at : ℕ) → Shows names (each (map way (items tree row))) (along gives long row at)
  items_show row at =
      subst (λ (ws : List (ℕ → Made X)). Shows names (each (way (tree row.first) ∷ ws)) (along gives long row at)) (sym (map_map (λ p. tree p.1) way row.rest))
      (shows_row names (λ x. way (tree x)) gives long law row at)

module _ (n : ℕ) (names : List Name) where
  abbrev D : Type 0
  D = Operand n

  abbrev R : Type 0
  R = Room n

  abbrev words : D → List Word → List Word
  words = operand_words n

  abbrev shapes : D → Shape
  shapes = operand_shape n

  abbrev sights : D → ℕ → List Sighting
  sights = operand_sights n

  abbrev inner : D → Term
  inner = operand_tree names n

  abbrev operand : UnaryOf D R → Term
  operand = unary_tree names inner

  -- ---- terms and atoms
  full_shows : (x : FullTerm D R) (at : ℕ) → Shows names (term_made (full_tree inner operand x)) (full_sights words shapes sights x at)
  full_shows x at = (term_shows names (operand_words (suc n)) (operand_shape (suc n)) (operand_sights (suc n)) (operand_tree names (suc n)) (operand_shows names (suc n)) x at).elsewhere

  atom_shown : (a : AtomOf D) (at : ℕ) → Shows names (atom_made (atom_tree inner a)) (atom_seen words shapes sights a at)
  atom_shown a at next = (tt, (atom_shows names words shapes sights inner (operand_shows names n) a at).elsewhere next)

  guard_shown : (r : Rel) (x : FullTerm D R) (at : ℕ) → Shows names (guard_made (guard_of inner operand r x)) (full_sights words shapes sights x at)
  guard_shown r x at = full_shows x at

  -- ---- conditions
  atom_literal : (a : AtomOf D) (sign : Bool) (at : ℕ) → Shows names (literal_made (l.Atom (atom_tree inner a) sign)) (atom_seen words shapes sights a at)
  atom_literal a sign at =
      shows_as names (literal_made (l.Atom (atom_tree inner a) sign)) (λ next. mapped (λ made. l.Atom made sign) (atom_made (atom_tree inner a) next)) (atom_seen words shapes sights a at)
      (made-Atom (atom_tree inner a) sign) (atom_shown a at)

  condition_shows : (c : ConditionOf D R) (at : ℕ) → Shows names (literal_made (condition_tree inner operand c)) (condition_sights words shapes sights c at)
  condition_shows (holds true a) at = atom_literal a true at
  condition_shows (holds false a) at = atom_literal a false (at + 1)
  condition_shows (compares left r right) at =
      let one = full_tree inner operand left in
      let other = full_tree inner operand right in
      let behind = at + size (full_words {R = R} words) left + 1 in
      shows_as names (literal_made (l.Compare one r other)) (both (λ a b. l.Compare a r b) (term_made one) (term_made other))
      (full_sights words shapes sights left at ++ full_sights words shapes sights right behind) (made-Compare one r other)
      (shows_both names (λ a b. l.Compare a r b) (term_made one) (term_made other) (full_sights words shapes sights left at) (full_sights words shapes sights right behind) (full_shows left at) (full_shows right behind))

  given_shows : (g : GivenOf D R) (at : ℕ) → Shows names (each (map literal_made (given_trees inner operand g))) (given_sights words shapes sights g at)
  given_shows None at next = tt
  given_shows (Some None) at next = tt
  given_shows (Some (Some row)) at next =
      items_show names (condition_tree inner operand) literal_made (condition_sights words shapes sights) (size (condition_words words)) condition_shows row (at + 1) next

  -- ---- elements of theory atoms
  duration_shows : (d : Option (FullTerm D R)) (at : ℕ) → Shows names (maybe term_made (maybe_tree inner operand d)) (duration_sights words shapes sights d at)
  duration_shows None at next = tt
  duration_shows (Some x) at next = full_shows x (at + 1) next

  rest_shows : (p : Option (PlacesOf D R)) (at : ℕ) → Shows names (each (map term_made (items_of (full_tree inner operand) p))) (places_sights words shapes sights p at)
  rest_shows None at next = tt
  rest_shows (Some row) at next = items_show names (full_tree inner operand) term_made (full_sights words shapes sights) (size (full_words words)) full_shows row (at + 1) next

  element_shows : (e : ElementOf D R) (at : ℕ) → Shows names (element_made (element_tree inner operand e)) (element_sights words shapes sights e at)
  element_shows e at =
      shows_as names (element_made (roll-TheoryElement x)) (λ next. closed with_condition (places next) (each (map literal_made x.condition) (places next).next)) (element_sights words shapes sights e at)
      (made-TheoryElement x)
      (subst (Shows names (λ next. closed with_condition (places next) (each (map literal_made x.condition) (places next).next))) regrouped
      (shows_closed names with_condition places (each (map literal_made x.condition)) (a ++ (b ++ c)) d places_show (given_shows e.condition (behind_rest words e at))))
    where
      x : TheoryElement-F Literal TheoryAtom TheoryElement
      x = record {
        first = full_tree inner operand e.first;
        duration = maybe_tree inner operand e.duration;
        rest = items_of (full_tree inner operand) e.rest;
        condition = given_trees inner operand e.condition;
      }

      places : ℕ → Made Places
      places = places_made x.first x.duration x.rest

      a : List Sighting
      a = full_sights words shapes sights e.first at

      b : List Sighting
      b = duration_sights words shapes sights e.duration (behind_first words e at)

      c : List Sighting
      c = places_sights words shapes sights e.rest (behind_duration words e at)

      d : List Sighting
      d = given_sights words shapes sights e.condition (behind_rest words e at)

      pair : Option Term → List Term → Option Term × List Term
      pair duration rest = (duration, rest)

      make : Term → Option Term × List Term → Places
      make first more = record { first = first; duration = more.0; rest = more.1 }

      places_show : Shows names places (a ++ (b ++ c))
      places_show =
          shows_both names make (term_made x.first) (both pair (maybe term_made x.duration) (each (map term_made x.rest))) a (b ++ c) (full_shows e.first at)
          (shows_both names pair (maybe term_made x.duration) (each (map term_made x.rest)) b c (duration_shows e.duration (behind_first words e at)) (rest_shows e.rest (behind_duration words e at)))

      regrouped : (a ++ (b ++ c)) ++ d ≡ element_sights words shapes sights e at
      regrouped = ap (λ z. z ++ d) (sym (append_assoc a b c))

  elements_show : (es : Option (Row (ElementOf D R) (Unit {0}))) (at : ℕ) → Shows names (each (map element_made (items_of (element_tree inner operand) es))) (elements_sights words shapes sights es at)
  elements_show None at next = tt
  elements_show (Some row) at next = items_show names (element_tree inner operand) element_made (element_sights words shapes sights) (size (element_words words)) element_shows row at next

  -- ---- theory atoms
  guard_shows : (g : Option (Rel × FullTerm D R)) (at : ℕ) → Shows names (maybe guard_made (guard_tree inner operand g)) (guard_sights words shapes sights g at)
  guard_shows None at next = tt
  guard_shows (Some g) at next = guard_shown g.0 g.1 (at + 1) next

  theory_shows : (a : TheoryOf D R) (at : ℕ) → Shows names (theory_made (theory_tree inner operand a)) (theory_sights words shapes sights a at)
  theory_shows a at =
      shows_as names (theory_made (roll-TheoryAtom x)) (both make (each (map element_made x.elements)) (maybe guard_made x.guard)) (theory_sights words shapes sights a at) (made-TheoryAtom x)
      (shows_both names make (each (map element_made x.elements)) (maybe guard_made x.guard) (elements_sights words shapes sights a.elements (at + 3))
      (guard_sights words shapes sights a.guard (theory_brace words a at + 1)) (elements_show a.elements (at + 3)) (guard_shows a.guard (theory_brace words a at + 1)))
    where
      x : TheoryAtom-F Literal TheoryAtom TheoryElement
      x = record { name = theory_name a.name; elements = items_of (element_tree inner operand) a.elements; guard = guard_tree inner operand a.guard }

      make : List TheoryElement → Option Guard → TheoryAtom
      make elements guard = roll-TheoryAtom (record { name = theory_name a.name; elements = elements; guard = guard })

  -- ---- literals and bodies
  theory_literal : (a : TheoryOf D R) (sign : Bool) (at : ℕ) → Shows names (literal_made (l.Theory (theory_tree inner operand a) sign)) (theory_sights words shapes sights a at)
  theory_literal a sign at =
      shows_as names (literal_made (l.Theory (theory_tree inner operand a) sign)) (λ next. mapped (λ made. l.Theory made sign) (theory_made (theory_tree inner operand a) next))
      (theory_sights words shapes sights a at) (made-Theory (theory_tree inner operand a) sign) (theory_shows a at)

  literal_shows : (x : LiteralOf D R) (at : ℕ) → Shows names (literal_made (literal_tree inner operand x)) (literal_sights words shapes sights x at)
  literal_shows (simple c) at = condition_shows c at
  literal_shows (theory true a) at = theory_literal a true at
  literal_shows (theory false a) at = theory_literal a false (at + 1)

  body_shows : (b : Option (BodyOf D R)) (at : ℕ) → Shows names (each (map literal_made (body_trees inner operand b))) (body_sights words shapes sights b at)
  body_shows None at next = tt
  body_shows (Some row) at next = items_show names (literal_tree inner operand) literal_made (literal_sights words shapes sights) (size (literal_words words)) literal_shows row at next

  -- ---- choices and heads
  left_shows : (b : Option (FullTerm D R × Option Rel)) (at : ℕ) → Shows names (maybe guard_made (left_tree inner operand b)) (left_sights words shapes sights b at)
  left_shows None at next = tt
  left_shows (Some bound) at next = guard_shown (rel_or_most inner operand bound.1) bound.0 at next

  right_shows : (b : Option (Option Rel × FullTerm D R)) (at : ℕ) → Shows names (maybe guard_made (right_tree inner operand b)) (right_sights words shapes sights b at)
  right_shows None at next = tt
  right_shows (Some bound) at next = guard_shown (rel_or_most inner operand bound.0) bound.1 (at + size maybe_rel_words bound.0) next

  chosen_shows : (e : ChosenOf D R) (at : ℕ) → Shows names (choice_element_made (chosen_tree inner operand e)) (chosen_sights words shapes sights e at)
  chosen_shows e at =
      shows_closed names make (atom_made (atom_tree inner e.atom)) (each (map literal_made (given_trees inner operand e.condition))) (atom_seen words shapes sights e.atom at)
      (given_sights words shapes sights e.condition (at + size (atom_words words) e.atom)) (atom_shown e.atom at) (given_shows e.condition (at + size (atom_words words) e.atom))
    where
      make : Term → List Literal → ChoiceElement
      make atom condition = record { atom = atom; condition = condition }

  chosens_show : (es : Option (Row (ChosenOf D R) (Unit {0}))) (at : ℕ) → Shows names (each (map choice_element_made (items_of (chosen_tree inner operand) es))) (chosens_sights words shapes sights es at)
  chosens_show None at next = tt
  chosens_show (Some row) at next = items_show names (chosen_tree inner operand) choice_element_made (chosen_sights words shapes sights) (size (chosen_words words)) chosen_shows row at next

  choice_shows : (c : ChoiceOf D R) (at : ℕ) → Shows names (choice_made (choice_tree inner operand c)) (choice_sights words shapes sights c at)
  choice_shows c at = subst (Shows names (choice_made tree)) (sym (append_assoc one two three)) shown
    where
      tree : Choice
      tree = choice_tree inner operand c

      one : List Sighting
      one = left_sights words shapes sights c.left at

      two : List Sighting
      two = chosens_sights words shapes sights c.elements (choice_opening words c at + 1)

      three : List Sighting
      three = right_sights words shapes sights c.right (choice_closing words c at + 1)

      make : Option Guard → List ChoiceElement × Option Guard → Choice
      make left more = record { left = left; elements = more.0; right = more.1 }

      pair : List ChoiceElement → Option Guard → List ChoiceElement × Option Guard
      pair elements right = (elements, right)

      shown : Shows names (choice_made tree) (one ++ (two ++ three))
      shown =
          shows_both names make (maybe guard_made tree.left) (both pair (each (map choice_element_made tree.elements)) (maybe guard_made tree.right)) one (two ++ three) (left_shows c.left at)
          (shows_both names pair (each (map choice_element_made tree.elements)) (maybe guard_made tree.right) two three (chosens_show c.elements (choice_opening words c at + 1))
          (right_shows c.right (choice_closing words c at + 1)))

  head_shows : (h : HeadOf D R) (at : ℕ) → Shows names (head_made (head_tree inner operand h)) (head_sights words shapes sights h at)
  head_shows (atom_head a) at = atom_shown a at
  head_shows (choice_head c) at = choice_shows c at
  head_shows (theory_head a) at = theory_shows a at

  arrow_shows : (a : ArrowOf D R) (at : ℕ) → Shows names (each (map literal_made (arrow_trees inner operand a))) (arrow_sights words shapes sights a at)
  arrow_shows no_arrow at next = tt
  arrow_shows (arrow body) at next = body_shows body (at + 1) next

  -- ---- rules
  pair_parts : Head → List Literal → Head × List Literal
  pair_parts h body = (h, body)

  rule_shows : (rule : Rule) (h : Head) (body : List Literal) (one other : List Sighting) → rule.head ≡ h → rule.body ≡ body → Shows names (head_made h) one → Shows names (each (map literal_made body)) other
      → AreSeenAs names (one ++ other) (sights_of rule)
  rule_shows rule h body one other e k first second =
      shows_both names pair_parts (head_made rule.head) (each (map literal_made rule.body)) one other (subst (λ (x : Head). Shows names (head_made x) one) (sym e) first)
      (subst (λ (xs : List Literal). Shows names (each (map literal_made xs)) other) (sym k) second) (length rule.names + 1)

pub headed_law : HeadedLaw
headed_law n names form behind at rule e k =
    rule_shows n names rule (head_tree (inner n names) (operand n names) form) (arrow_trees (inner n names) (operand n names) behind) (head_sights (words n names) (shapes n names) (sights n names) form at)
    (arrow_sights (words n names) (shapes n names) (sights n names) behind (at + size (head_words (words n names)) form)) e k (head_shows n names form at)
    (arrow_shows n names behind (at + size (head_words (words n names)) form))

pub constraint_law : ConstraintLaw
constraint_law n names body at rule e k =
    rule_shows n names rule head.Nothing (body_trees (inner n names) (operand n names) body) [] (body_sights (words n names) (shapes n names) (sights n names) body (at + 1)) e k (λ next. tt)
    (body_shows n names body (at + 1))
