-- A tidied statement has the trees of the statement that it was made of.
use Rattle.std.proofs.Common.{◌≡◌, ℕ, suc, Bool, Option, Some, None, List, [], ◌∷◌, map, refl, ap, ◌∙◌}
use Rattle.symbols.specs.declared.rel.Rel.{Rel}
use Rattle.syntax_tree.specs.declared.rule.Name.{Name}
use Rattle.syntax_tree.specs.declared.rule.Head.TheVariants as head
use Rattle.syntax_tree.specs.declared.term.Term.{Term}
use Rattle.syntax_tree.specs.declared.literal.Literal.{Literal}
use Rattle.syntax_tree.specs.declared.literal.Literal.TheVariants as literal
use Rattle.syntax_tree.specs.declared.literal.TheoryAtom.{roll-TheoryAtom}
use Rattle.syntax_tree.specs.declared.literal.TheoryElement.{roll-TheoryElement}
use Rattle.syntax_tree.specs.declared.literal.TheoryName.{TheoryName}
use Rattle.syntax_tree.specs.declared.literal.TheoryName.TheVariants as name
use Rattle.syntax_tree.specs.Printed.{theory_name_text}
use Rattle.grammar.specs.Row.{Row}
use Rattle.grammar.specs.Term.{AtomOf, Operand, Room, UnaryOf}
use Rattle.grammar.specs.Tree.{atom_tree, operand_tree}
use Rattle.grammar.specs.Theory.{FullTerm, ConditionOf, holds, compares, PlacesOf, GivenOf, ElementOf, TheoryOf}
use Rattle.grammar.specs.Statement.{LiteralOf, simple, theory, Separating, by_comma, BodyOf, ChosenOf, ChoiceOf, HeadOf, atom_head, choice_head, theory_head, ArrowOf, no_arrow, arrow}
use Rattle.grammar.specs.StatementTree.{items, items_of, theory_name, full_tree, condition_tree, given_trees, maybe_tree, guard_of, element_tree, guard_tree, theory_tree, literal_tree, body_trees, rel_or_most, left_tree, right_tree, chosen_tree, choice_tree, head_tree, arrow_trees, has_arrow}
use Rattle.grammar.specs.Tidied.{map_row, row_of, tidied_atom, tidied}
use Rattle.grammar.specs.TidiedStatement.{map_maybe, bound_rel, tidied_full, tidied_condition, tidied_given, tidied_element, tidied_guard, tidied_theory, tidied_literal, tidied_body, tidied_chosen, tidied_left, tidied_right, tidied_choice, tidied_head, tidied_arrow}
use Rattle.grammar.proofs.TidiedTrees.{same_term_tree, same_atom_tree}

-- ---- rows
module _ {I S X : Type 0} (f : I → I) (item : I → X) (same : (x : I) → item (f x) ≡ item x) where
  rest_items : (parts : List (S × I)) → map (λ (p : S × I). item p.1) (map (λ (p : S × I). (p.0, f p.1)) parts) ≡ map (λ (p : S × I). item p.1) parts
  rest_items [] = refl
  rest_items (part ∷ parts) = (λ i. same part.1 i ∷ rest_items parts i)

  pub row_items : (row : Row I S) → items item (map_row f row) ≡ items item row
  row_items row = (λ i. same row.first i ∷ rest_items row.rest i)

  pub maybe_items : (row : Option (Row I S)) → items_of item (map_maybe (map_row f) row) ≡ items_of item row
  maybe_items None = refl
  maybe_items (Some row) = row_items row

-- the name of a theory atom's text is its own
name_back : (k : TheoryName) → theory_name (theory_name_text k) ≡ k
name_back name.Sum = refl
name_back name.Diff = refl
name_back name.Distinct = refl
name_back name.Disjoint = refl
name_back name.Dom = refl
name_back name.Minimize = refl
name_back name.Maximize = refl
name_back name.Show = refl
name_back name.Unknown = refl

module _ (names : List Name) (n : ℕ) where
  abbrev inner : Operand n → Term
  inner = operand_tree names n

  abbrev outer : UnaryOf (Operand n) (Room n) → Term
  outer = operand_tree names (suc n)

  pub full_same : (x : FullTerm (Operand n) (Room n)) → full_tree inner outer (tidied_full n x) ≡ full_tree inner outer x
  full_same = same_term_tree names (suc n)

  pub condition_same : (c : ConditionOf (Operand n) (Room n)) → condition_tree inner outer (tidied_condition n c) ≡ condition_tree inner outer c
  condition_same (holds positive a) = ap (λ x. literal.Atom x positive) (same_atom_tree names n a)
  condition_same (compares left r right) = (λ i. literal.Compare (full_same left i) r (full_same right i))

  pub given_same : (g : GivenOf (Operand n) (Room n)) → given_trees inner outer (tidied_given n g) ≡ given_trees inner outer g
  given_same None = refl
  given_same (Some None) = refl
  given_same (Some (Some row)) = row_items (tidied_condition n) (condition_tree inner outer) condition_same row

  maybe_same : (x : Option (FullTerm (Operand n) (Room n))) → maybe_tree inner outer (map_maybe (tidied_full n) x) ≡ maybe_tree inner outer x
  maybe_same None = refl
  maybe_same (Some x) = ap Some (full_same x)

  pub element_same : (e : ElementOf (Operand n) (Room n)) → element_tree inner outer (tidied_element n e) ≡ element_tree inner outer e
  element_same e = (λ i. roll-TheoryElement (record {
    first = full_same e.first i;
    duration = maybe_same e.duration i;
    rest = maybe_items (tidied_full n) (full_tree inner outer) full_same e.rest i;
    condition = given_same e.condition i;
  }))

  guard_same : (g : Option (Rel × FullTerm (Operand n) (Room n))) → guard_tree inner outer (map_maybe (tidied_guard n) g) ≡ guard_tree inner outer g
  guard_same None = refl
  guard_same (Some g) = ap (λ x. Some (record { rel = g.0; right = x })) (full_same g.1)

  pub theory_same : (a : TheoryOf (Operand n) (Room n)) → theory_tree inner outer (tidied_theory n a) ≡ theory_tree inner outer a
  theory_same a = (λ i. roll-TheoryAtom (record {
    name = name_back (theory_name a.name) i;
    elements = maybe_items (tidied_element n) (element_tree inner outer) element_same a.elements i;
    guard = guard_same a.guard i;
  }))

  pub literal_same : (l : LiteralOf (Operand n) (Room n)) → literal_tree inner outer (tidied_literal n l) ≡ literal_tree inner outer l
  literal_same (simple c) = condition_same c
  literal_same (theory positive a) = ap (λ x. literal.Theory x positive) (theory_same a)

  rest_same : (parts : List (Separating × LiteralOf (Operand n) (Room n)))
      → map (λ (p : Separating × LiteralOf (Operand n) (Room n)). literal_tree inner outer p.1) (map (λ (p : Separating × LiteralOf (Operand n) (Room n)). (by_comma, tidied_literal n p.1)) parts)
      ≡ map (λ (p : Separating × LiteralOf (Operand n) (Room n)). literal_tree inner outer p.1) parts
  rest_same [] = refl
  rest_same (part ∷ parts) = (λ i. literal_same part.1 i ∷ rest_same parts i)

  pub body_same : (body : Option (BodyOf (Operand n) (Room n))) → body_trees inner outer (map_maybe (tidied_body n) body) ≡ body_trees inner outer body
  body_same None = refl
  body_same (Some body) = (λ i. literal_same body.first i ∷ rest_same body.rest i)

  pub chosen_same : (e : ChosenOf (Operand n) (Room n)) → chosen_tree inner outer (tidied_chosen n e) ≡ chosen_tree inner outer e
  chosen_same e = (λ i. record { atom = same_atom_tree names n e.atom i; condition = given_same e.condition i })

  bound_same : (r : Option Rel) → bound_rel r ≡ rel_or_most inner outer r
  bound_same None = refl
  bound_same (Some r) = refl

  left_same : (b : Option (FullTerm (Operand n) (Room n) × Option Rel)) → left_tree inner outer (map_maybe (tidied_left n) b) ≡ left_tree inner outer b
  left_same None = refl
  left_same (Some b) = (λ i. Some (record { rel = bound_same b.1 i; right = full_same b.0 i }))

  right_same : (b : Option (Option Rel × FullTerm (Operand n) (Room n))) → right_tree inner outer (map_maybe (tidied_right n) b) ≡ right_tree inner outer b
  right_same None = refl
  right_same (Some b) = (λ i. Some (record { rel = bound_same b.0 i; right = full_same b.1 i }))

  pub choice_same : (c : ChoiceOf (Operand n) (Room n)) → choice_tree inner outer (tidied_choice n c) ≡ choice_tree inner outer c
  choice_same c = (λ i. record {
    left = left_same c.left i;
    elements = maybe_items (tidied_chosen n) (chosen_tree inner outer) chosen_same c.elements i;
    right = right_same c.right i;
  })

  -- a tidied head has the tree of the head
  pub head_same : (h : HeadOf (Operand n) (Room n)) → head_tree inner outer (tidied_head n h) ≡ head_tree inner outer h
  head_same (atom_head a) = ap head.Atom (same_atom_tree names n a)
  head_same (choice_head c) = ap head.Choice (choice_same c)
  head_same (theory_head a) = ap head.Theory (theory_same a)

  -- what stands behind it has the trees of what stood there
  pub arrow_same : (a : ArrowOf (Operand n) (Room n)) → arrow_trees inner outer (tidied_arrow n a) ≡ arrow_trees inner outer a
  arrow_same no_arrow = refl
  arrow_same (arrow body) = body_same body

pub arrow_kept : (n : ℕ) (a : ArrowOf (Operand n) (Room n)) → has_arrow (tidied_arrow n a) ≡ has_arrow a
arrow_kept n no_arrow = refl
arrow_kept n (arrow body) = refl
