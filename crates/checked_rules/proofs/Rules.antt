-- Heads and rules stay trees when they are rewritten, and still pass the checks.
use Rattle.std.proofs.Common.{◌≡◌, ◌+◌, Bool, true, false, ◌&&◌, List, [], ◌∷◌, ◌++◌, map, length, Option, refl, ◌∙◌}
use Rattle.std.specs.List.{AllByRecursion, list_all}
use Rattle.syntax_tree.specs.declared.term.Term.{Term}
use Rattle.syntax_tree.specs.declared.literal.Guard.{Guard}
use Rattle.syntax_tree.specs.declared.literal.Literal.{Literal}
use Rattle.syntax_tree.specs.declared.rule.ChoiceElement.{ChoiceElement}
use Rattle.syntax_tree.specs.declared.rule.Choice.{Choice}
use Rattle.syntax_tree.specs.declared.rule.Head.{Head}
use Rattle.syntax_tree.specs.declared.rule.Head.TheVariants as head
use Rattle.syntax_tree.specs.declared.rule.Rule.{Rule}
use Rattle.syntax_tree.specs.Tree.{is_name, is_term}
use Rattle.syntax_tree.specs.Literals.{is_none_or, is_guard, is_literal}
use Rattle.syntax_tree.specs.Statements.{is_choice_element, is_choice, is_head}
use Rattle.ground_model.proofs.Bools.{and_elim, and_intro}
use Rattle.rewriting.specs.Made.{Made, both, each, maybe}
use Rattle.rewriting.specs.Rewritten.{guard_made, atom_made, literal_made, theory_made, choice_element_made, choice_made, head_made, parts_made}
use Rattle.program_meaning.specs.Read.{literal_read, theory_read, choice_read, head_read}
use Rattle.checked_rules.specs.Checked.{IsLiteralChecked, IsChoiceChecked, IsHeadChecked}
use Rattle.checked_rules.specs.Laws.{RewrittenLaw}
use Rattle.checked_rules.proofs.Pieces.{AreFineLiterals, IsKept, Keeps, kept_same, kept_mapped, keeps_both, kept_closed}
use Rattle.checked_rules.proofs.Terms.{IsTree, keeps_atom}
use Rattle.checked_rules.proofs.Literals.{IsGuardLike, keeps_guard, AreLike, IsTheoryLike, fine_trees, all_append, may_still_be_duty, keeps_theory, keeps_literals, condition_kept}

-- ---- choices
record IsChosenLike (element made : ChoiceElement) : Type 0 where
  tree : is_choice_element made ≡ true
  checked : IsChoiceChecked (choice_read element) → IsChoiceChecked (choice_read made)

record AreChosenLike (elements made : List ChoiceElement) : Type 0 where
  trees : list_all is_choice_element made ≡ true
  checked : AllByRecursion IsChoiceChecked (map choice_read elements) → AllByRecursion IsChoiceChecked (map choice_read made)

keeps_chosen : (element : ChoiceElement) → is_choice_element element ≡ true → Keeps (IsChosenLike element) (choice_element_made element)
keeps_chosen element h next =
    let p = and_elim (is_term element.atom) (list_all is_literal element.condition) h in
    kept_closed IsTree (AreLike element.condition) (IsChosenLike element) (λ atom condition. record { atom = atom; condition = condition }) (atom_made element.atom next)
    (each (map literal_made element.condition) (atom_made element.atom next).next) onward (keeps_atom element.atom p.0 next)
    (keeps_literals element.condition p.1 (atom_made element.atom next).next)
  where
    one : Made Term
    one = atom_made element.atom next

    other : Made (List Literal)
    other = each (map literal_made element.condition) one.next

    condition : List Literal
    condition = other.made ++ (one.added ++ other.added)

    onward : IsTree one.made → AreLike element.condition other.made → AreFineLiterals (one.added ++ other.added) → IsChosenLike element (record { atom = one.made; condition = condition })
    onward a b fine = record {
      tree = and_intro (is_term one.made) (list_all is_literal condition) a
          (all_append is_literal other.made (one.added ++ other.added) b.trees (fine_trees (one.added ++ other.added) fine));
      checked = λ c. condition_kept other.made (one.added ++ other.added) (b.plain c) fine;
    }

keeps_all_chosen : (elements : List ChoiceElement) → list_all is_choice_element elements ≡ true → Keeps (AreChosenLike elements) (each (map choice_element_made elements))
keeps_all_chosen [] h next = kept_same (AreChosenLike []) [] next (record { trees = refl; checked = λ c. c })
keeps_all_chosen (element ∷ elements) h next =
    let p = and_elim (is_choice_element element) (list_all is_choice_element elements) h in
    keeps_both (IsChosenLike element) (AreChosenLike elements) (AreChosenLike (element ∷ elements)) (λ x xs. x ∷ xs) (choice_element_made element) (each (map choice_element_made elements))
    (λ x xs a b. record {
      trees = and_intro (is_choice_element x) (list_all is_choice_element xs) a.tree b.trees;
      checked = λ c. (a.checked c.0, b.checked c.1);
    })
    (keeps_chosen element p.0) (keeps_all_chosen elements p.1) next

-- ---- heads
record IsHeadLike (h made : Head) : Type 0 where
  tree : is_head made ≡ true
  checked : IsHeadChecked (head_read h) → IsHeadChecked (head_read made)

three : (a b c : Bool) → (a && b && c) ≡ true → (a ≡ true) × (b ≡ true) × (c ≡ true)
three true true c h = (refl, refl, h)
three true false c h = absurd cc
three false b c h = absurd cc

from_three : (a b c : Bool) → a ≡ true → b ≡ true → c ≡ true → (a && b && c) ≡ true
from_three a b c p q r = rw (p, q, r) refl

record AreRestLike (choice : Choice) (more : List ChoiceElement × Option Guard) : Type 0 where
  elements : AreChosenLike choice.elements more.0
  right : IsGuardLike choice.right more.1

keeps_choice : (choice : Choice) → is_choice choice ≡ true → Keeps (λ made. IsHeadLike (head.Choice choice) (head.Choice made)) (choice_made choice)
keeps_choice choice h =
    let p = three (is_none_or is_guard choice.left) (list_all is_choice_element choice.elements) (is_none_or is_guard choice.right) h in
    keeps_both (IsGuardLike choice.left) (AreRestLike choice) (λ made. IsHeadLike (head.Choice choice) (head.Choice made))
    (λ left (more : List ChoiceElement × Option Guard). record { left = left; elements = more.0; right = more.1 }) (maybe guard_made choice.left)
    (both (λ elements right. (elements, right)) (each (map choice_element_made choice.elements)) (maybe guard_made choice.right))
    (λ left more a b. record {
      tree = from_three (is_none_or is_guard left) (list_all is_choice_element more.0) (is_none_or is_guard more.1) a.tree b.elements.trees b.right.tree;
      checked = λ c. b.elements.checked c;
    })
    (keeps_guard choice.left p.0)
    (keeps_both (AreChosenLike choice.elements) (IsGuardLike choice.right) (AreRestLike choice) (λ elements right. (elements, right)) (each (map choice_element_made choice.elements))
    (maybe guard_made choice.right) (λ elements right a b. record { elements = a; right = b }) (keeps_all_chosen choice.elements p.1) (keeps_guard choice.right p.2))

keeps_head : (h : Head) → is_head h ≡ true → Keeps (IsHeadLike h) (head_made h)
keeps_head head.Nothing k next = kept_same (IsHeadLike head.Nothing) head.Nothing next (record { tree = refl; checked = λ c. c })
keeps_head (head.Atom atom) k next =
    kept_mapped IsTree (IsHeadLike (head.Atom atom)) head.Atom (atom_made atom next) (λ p. record { tree = p; checked = λ c. tt }) (keeps_atom atom k next)
keeps_head (head.Theory theory) k next =
    kept_mapped (IsTheoryLike theory) (IsHeadLike (head.Theory theory)) head.Theory (theory_made theory next)
    (λ p. record {
      tree = p.tree;
      checked = λ c. (may_still_be_duty (theory_read theory) (theory_read (theory_made theory next).made) p.name p.guard ∙ c.0, p.checked c.1);
    })
    (keeps_theory theory k next)
keeps_head (head.Choice choice) k next =
    kept_mapped (λ made. IsHeadLike (head.Choice choice) (head.Choice made)) (IsHeadLike (head.Choice choice)) head.Choice (choice_made choice next) (λ p. p) (keeps_choice choice k next)

-- ---- rules
record ArePartsLike (rule : Rule) (parts : Head × List Literal) : Type 0 where
  head : IsHeadLike rule.head parts.0
  body : AreLike rule.body parts.1

keeps_parts : (rule : Rule) → is_head rule.head ≡ true → list_all is_literal rule.body ≡ true → IsKept (ArePartsLike rule) (parts_made rule)
keeps_parts rule h k =
    keeps_both (IsHeadLike rule.head) (AreLike rule.body) (ArePartsLike rule) (λ one body. (one, body)) (head_made rule.head) (each (map literal_made rule.body))
    (λ one body a b. record { head = a; body = b }) (keeps_head rule.head h) (keeps_literals rule.body k) (length rule.names + 1)

checked_append : (xs ys : List Literal) → AllByRecursion IsLiteralChecked (map literal_read xs) → AreFineLiterals ys → AllByRecursion IsLiteralChecked (map literal_read (xs ++ ys))
checked_append [] [] h fine = tt
checked_append [] (y ∷ ys) h fine = (fine.0.checked, checked_append [] ys tt fine.1)
checked_append (x ∷ xs) ys h fine = (h.0, checked_append xs ys h.1 fine)

pub rewritten_law : RewrittenLaw
rewritten_law rule tree checked =
    let p = three (is_head rule.head) (list_all is_literal rule.body) (list_all (λ name. is_name name.text) rule.names) tree in
    let k = keeps_parts rule p.0 p.1 in
    let made = (parts_made rule).made in
    let added = (parts_made rule).added in (
      from_three (is_head made.0) (list_all is_literal (made.1 ++ added)) (list_all (λ name. is_name name.text) rule.names) k.made.head.tree
          (all_append is_literal made.1 added k.made.body.trees (fine_trees added k.added)) p.2,
      record { head = k.made.head.checked checked.head; body = checked_append made.1 added (k.made.body.checked checked.body) k.added },
    )
