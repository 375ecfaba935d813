-- A rule in order.
use Rattle.std.proofs.Common.{◌≡◌, ℕ, List, [], map, refl, sym, subst}
use Rattle.std.specs.List.{AllByRecursion}
use Rattle.syntax_tree.specs.declared.rule.Rule.{Rule}
use Rattle.program_meaning.specs.Read.{ReadRule, literal_read, head_read, rule_read, plains}
use Rattle.program_meaning.specs.Variables.{globals}
use Rattle.groundable_rules.specs.Groundable.{IsGroundable}
use Rattle.safety_meaning.specs.Ordered.{IsOrderedHead, IsOrderedRule}
use Rattle.ordered_bodies.specs.inner.Orderable.{IsOrderable}
use Rattle.ordered_bodies.specs.inner.Parts.{AreOrderableIn, AreOrderableInHead, AreGlobal, IsOrderedWhole}
use Rattle.ordered_bodies.proofs.Orderables.{are_global, body_orderable, told_orderable, head_orderable}

pub body_fits : (rule : Rule) (order : List ℕ) → IsGroundable (rule_read rule order) → IsOrderable order [] (plains (map literal_read rule.body))
body_fits rule order fine = body_orderable (rule_read rule order) fine

pub told_fits : (rule : Rule) (order given : List ℕ) → IsGroundable (rule_read rule order) → given ≡ globals (rule_read rule order) → AllByRecursion (AreOrderableIn order given) (map literal_read rule.body)
told_fits rule order given fine e = subst (λ z. AllByRecursion (AreOrderableIn order z) (map literal_read rule.body)) (sym e) (told_orderable (rule_read rule order) fine)

pub head_fits : (rule : Rule) (order given : List ℕ) → IsGroundable (rule_read rule order) → given ≡ globals (rule_read rule order) → AreOrderableInHead order given (head_read rule.head)
head_fits rule order given fine e = subst (λ z. AreOrderableInHead order z (head_read rule.head)) (sym e) (head_orderable (rule_read rule order) fine)

pub rule_law : (rule done : Rule) (order given others : List ℕ) → given ≡ globals (rule_read rule order) → others ≡ globals (rule_read rule order)
    → ((read : ReadRule) → AreGlobal read order given → IsOrderedWhole read (map literal_read rule.body) (map literal_read done.body))
    → ((read : ReadRule) → AreGlobal read order others → IsOrderedHead read (head_read rule.head) (head_read done.head))
    → IsOrderedRule (rule_read rule order) (rule_read done order)
rule_law rule done order given others e f body head =
    let are = subst (λ z. AreGlobal (rule_read rule order) order z) (sym e) (are_global (rule_read rule order)) in
    let same = subst (λ z. AreGlobal (rule_read rule order) order z) (sym f) (are_global (rule_read rule order)) in
    let b = body (rule_read rule order) are in record {
      order = refl;
      head = head (rule_read rule order) same;
      plain = b.plain;
      told = b.told;
      in_order = b.in_order;
      each = b.each;
      whole = b.whole;
    }
