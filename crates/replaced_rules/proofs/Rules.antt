-- Rules with their constants replaced.
use Rattle.std.proofs.Common.{◌≡◌, ◌≤◌, ◌+◌, List, [], ◌∷◌, map, length, Option, sym, ◌∙◌, subst}
use Rattle.std.specs.List.{AllByRecursion}
use Rattle.std.specs.Option.{option_map}
use Rattle.syntax_tree.specs.declared.term.Term.{Term}
use Rattle.syntax_tree.specs.declared.literal.Guard.{Guard}
use Rattle.syntax_tree.specs.declared.literal.Literal.{Literal}
use Rattle.syntax_tree.specs.declared.rule.ChoiceElement.{ChoiceElement}
use Rattle.syntax_tree.specs.declared.rule.Choice.{Choice}
use Rattle.syntax_tree.specs.declared.rule.Head.{Head}
use Rattle.syntax_tree.specs.declared.rule.Head.TheVariants as head
use Rattle.syntax_tree.specs.declared.rule.Rule.{Rule}
use Rattle.ground_model.specs.Members.{IsMember}
use Rattle.asp_parser.specs.Replacement.{Constants, replaced_atom, replaced_guard, replaced_literal, replaced_theory, replaced_choice_element, replaced_choice, replaced_head, replaced_rule}
use Rattle.rewriting.specs.declared.sight.Sight.{Sight}
use Rattle.rewriting.specs.declared.sight.Sight.TheVariants.{Variable}
use Rattle.rewriting.specs.Made.{Made, both, each, maybe}
use Rattle.rewriting.specs.Rewritten.{guard_made, atom_made, literal_made, theory_made, choice_element_made, choice_made, head_made}
use Rattle.rewriting.specs.Order.{sights_of, order_in}
use Rattle.program_meaning.specs.Read.{theory_read, choice_read, head_read}
use Rattle.checked_rules.specs.Checked.{IsChoiceChecked, IsHeadChecked, IsCheckedRule}
use Rattle.checked_rules.proofs.Literals.{may_still_be_duty}
use Rattle.replaced_rules.specs.Laws.{SightsLaw, ReplacedLaw}
use Rattle.replaced_rules.proofs.Alike.{Alike, alike_same, alike_mapped, alike_both, alike_closed, alike_onward, alike_each, all_alike, alike_maybe, all_by}
use Rattle.replaced_rules.proofs.Terms.{alike_atom}
use Rattle.replaced_rules.proofs.Literals.{alike_guard, alike_theory, alike_literals, plain_literals, checked_literals}

module _ (constants : Constants) where
  -- ---- choices
  chosen_alike : (element : ChoiceElement) → Alike (choice_element_made (replaced_choice_element constants element)) (choice_element_made element)
  chosen_alike element next =
      alike_closed make make one other (each (map literal_made (map (replaced_literal constants) element.condition)) one.next) (each (map literal_made element.condition) other.next)
      (alike_atom constants element.atom next)
      (alike_onward (each (map literal_made (map (replaced_literal constants) element.condition))) (each (map literal_made element.condition)) (alike_literals constants element.condition) one.next other.next
      (alike_atom constants element.atom next).next)
    where
      make : Term → List Literal → ChoiceElement
      make atom condition = record { atom = atom; condition = condition }

      one : Made Term
      one = atom_made (replaced_atom constants element.atom) next

      other : Made Term
      other = atom_made element.atom next

  choice_alike : (choice : Choice) → Alike (choice_made (replaced_choice constants choice)) (choice_made choice)
  choice_alike choice =
      alike_both make make (maybe guard_made (option_map (replaced_guard constants) choice.left)) (maybe guard_made choice.left)
      (both pair (each (map choice_element_made (map (replaced_choice_element constants) choice.elements))) (maybe guard_made (option_map (replaced_guard constants) choice.right)))
      (both pair (each (map choice_element_made choice.elements)) (maybe guard_made choice.right))
      (alike_maybe (replaced_guard constants) guard_made (alike_guard constants) choice.left)
      (alike_both pair pair (each (map choice_element_made (map (replaced_choice_element constants) choice.elements))) (each (map choice_element_made choice.elements))
      (maybe guard_made (option_map (replaced_guard constants) choice.right)) (maybe guard_made choice.right)
      (alike_each (map choice_element_made (map (replaced_choice_element constants) choice.elements)) (map choice_element_made choice.elements)
      (all_alike (replaced_choice_element constants) choice_element_made choice.elements
      (all_by (λ element. Alike (choice_element_made (replaced_choice_element constants element)) (choice_element_made element)) chosen_alike choice.elements)))
      (alike_maybe (replaced_guard constants) guard_made (alike_guard constants) choice.right))
    where
      make : Option Guard → List ChoiceElement × Option Guard → Choice
      make left more = record { left = left; elements = more.0; right = more.1 }

      pair : List ChoiceElement → Option Guard → List ChoiceElement × Option Guard
      pair elements right = (elements, right)

  all_chosen_checked : (elements : List ChoiceElement) → AllByRecursion IsChoiceChecked (map choice_read elements)
      → AllByRecursion IsChoiceChecked (map choice_read (map (replaced_choice_element constants) elements))
  all_chosen_checked [] h = tt
  all_chosen_checked (element ∷ elements) h = (plain_literals constants element.condition h.0, all_chosen_checked elements h.1)

  -- ---- heads
  head_alike : (h : Head) → Alike (head_made (replaced_head constants h)) (head_made h)
  head_alike head.Nothing next = alike_same head.Nothing head.Nothing next
  head_alike (head.Atom atom) next = alike_mapped head.Atom head.Atom (atom_made (replaced_atom constants atom) next) (atom_made atom next) (alike_atom constants atom next)
  head_alike (head.Theory theory) next =
      alike_mapped head.Theory head.Theory (theory_made (replaced_theory constants theory) next) (theory_made theory next) ((alike_theory constants theory).way next)
  head_alike (head.Choice choice) next = alike_mapped head.Choice head.Choice (choice_made (replaced_choice constants choice) next) (choice_made choice next) (choice_alike choice next)

  head_checked : (h : Head) → IsHeadChecked (head_read h) → IsHeadChecked (head_read (replaced_head constants h))
  head_checked head.Nothing c = tt
  head_checked (head.Atom atom) c = tt
  head_checked (head.Theory theory) c =
      let s = alike_theory constants theory in
      (may_still_be_duty (theory_read theory) (theory_read (replaced_theory constants theory)) s.name s.guard ∙ c.0, s.checked c.1)
  head_checked (head.Choice choice) c = all_chosen_checked choice.elements c

  -- ---- rules
  same_sights : (rule : Rule) → sights_of (replaced_rule constants rule) ≡ sights_of rule
  same_sights rule =
      (alike_both pair pair (head_made (replaced_head constants rule.head)) (head_made rule.head) (each (map literal_made (map (replaced_literal constants) rule.body))) (each (map literal_made rule.body))
      (head_alike rule.head) (alike_literals constants rule.body) (length rule.names + 1)).sights
    where
      pair : Head → List Literal → Head × List Literal
      pair h body = (h, body)

  still_checked : (rule : Rule) → IsCheckedRule rule → IsCheckedRule (replaced_rule constants rule)
  still_checked rule fine = record {
    checked = record { head = head_checked rule.head fine.checked.head; body = checked_literals constants rule.body fine.checked.body };
    named = record {
      known = λ n m. fine.named.known n (subst (λ (sights : List Sight). IsMember sights (Variable n)) (same_sights rule) m);
      all = λ n low high. subst (λ (sights : List Sight). IsMember sights (Variable n)) (sym (same_sights rule)) (fine.named.all n low high);
    };
    few = subst (λ (sights : List Sight). length (order_in sights) ≤ 64) (sym (same_sights rule)) fine.few;
  }

pub sights_law : SightsLaw
sights_law = same_sights

pub replaced_law : ReplacedLaw
replaced_law = still_checked
