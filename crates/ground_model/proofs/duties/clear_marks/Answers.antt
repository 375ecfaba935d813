use Rattle.std.proofs.Common.{◌≡◌, ◌<◌, ◌+◌, ◌∷◌, ℕ, false, length, drop, subst, sym, ap, ◌∙◌, length-set}
use Rattle.std.specs.List.{AllByRecursion}
use Rattle.ground_model.specs.declared.rule.ChoiceItem.{ChoiceItem}
use Rattle.ground_model.proofs.Products.{drop_next}
use Rattle.ground_model.proofs.MarkLemmas.{clear_step}
use Rattle.ground_model.proofs.duties.clear_marks.Goals as goal

pub loop-item-preserved : goal.loop-item-preserved
loop-item-preserved c =
    let next : drop c.loop-item.item-index c.args.items.now ≡ c.item-item.result ∷ drop (c.loop-item.item-index + 1) c.args.items.now =
    drop_next c.args.items.now c.loop-item.item-index c.item-item.result c.loop-item-test.true ∙ ap (λ (x : ChoiceItem). x ∷ drop (c.loop-item.item-index + 1) c.args.items.now) (sym c.item-item.is) in
    let left = subst (AllByRecursion (λ (item : ChoiceItem). item.atom < length c.loop-item.seen)) next c.loop-item.invariant.left in
    record {
      left = subst (λ (n : ℕ). AllByRecursion (λ (item : ChoiceItem). item.atom < n) (drop (c.loop-item.item-index + 1) c.args.items.now)) (sym (length-set c.loop-item.seen c.item-item.result.atom false)) left.1;
      marks = clear_step c.loop-item.seen c.args.items.now c.loop-item.item-index c.item-item.result next c.loop-item.invariant.marks;
    }
