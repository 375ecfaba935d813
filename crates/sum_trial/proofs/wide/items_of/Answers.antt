use Rattle.std.proofs.Common.{arith, ◌+◌, ◌≤◌, List, [], ◌∷◌, ◌++◌, IsTrue, subst, sym, ap, ◌∙◌, pos}
use Rattle.std.specs.List.{AllByRecursion, list_all}
use Rattle.linear_normal.specs.declared.constraint.Item.{Item}
use Rattle.linear_normal.specs.declared.constraint.Item.TheVariants.{Truth}
use Rattle.numbering_laws.specs.Items.{are_items}
use Rattle.sum_propagator.specs.Sums.{is_item_of}
use Rattle.sum_trial.proofs.MoreLaws.{IsBefore, before_more, are_more, of_more}
use Rattle.sum_trial.proofs.TrialLaws.{wide_more}
use Rattle.sum_trial.proofs.wide.items_of.Goals as goal

pub loop-before-preserved : goal.loop-before-preserved
loop-before-preserved c =
    let inv = c.loop-before.invariant in
    let n = c.loop-before.before + 1 in
    let two : 2 ≤ c.loop-before.before + 1 = omega arith in
    record {
      exactly = c.in_ok-push.ensures.ok ∙ ap (λ (is : List Item). is ++ Truth (c.loop-before.before + 1) (pos 1) ∷ []) inv.exactly ∙ sym (wide_more c.loop-before.before (omega arith));
      earlier = subst (λ (is : List Item). AllByRecursion (IsBefore (c.loop-before.before + 1 + 1)) is) (sym c.in_ok-push.ensures.ok) (before_more (c.loop-before.before + 1) c.loop-before.items two inv.earlier);
      items = subst (λ (is : List Item). IsTrue (are_items 1 is)) (sym c.in_ok-push.ensures.ok) (are_more (c.loop-before.before + 1) c.loop-before.items two inv.earlier inv.items);
      named = λ s a b. subst (λ (is : List Item). IsTrue (list_all (is_item_of s) is)) (sym c.in_ok-push.ensures.ok) (of_more s (c.loop-before.before + 1) c.loop-before.items (omega arith) (omega arith) (inv.named s a b));
    }
