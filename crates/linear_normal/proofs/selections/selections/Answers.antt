use Rattle.std.proofs.Common.{ℕ, List, length, ◌<◌, subst, ◌++◌, ◌∷◌, [], ◌∙◌, ap, sym, get_or, take, vec_items, arith, add-one, Vec, Global}
use Rattle.std.proofs.Math.Seq.{take-suc}
use Rattle.ground_model.specs.declared.rule.ChoiceItem.{ChoiceItem}
use Rattle.linear_normal.proofs.SelectionLemmas.{row_pushed, taken_length, selections_done}
use Rattle.linear_normal.proofs.selections.selections.Goals as goal

pub loop-item-preserved : goal.loop-item-preserved
loop-item-preserved c =
    let i = c.loop-item.item-index in
    let items = c.args.items.now in
    let d = c.item-item.result in
    let counted = taken_length i items (omega arith) in
    let at = c.loop-item.invariant.number in
    record {
      number = omega (arith, at);
      rows = rw (add-one, take-suc items i d c.loop-item-test.true)
          (row_pushed vec_items c.loop-item.rows.items c.args.first c.loop-item.number (take i items) (get_or items i d) c.in_ok-atoms.atoms.items c.place_of-place.result
          c.push.new.self c.index_mut.result.now c.loop-item.invariant.rows c.in_ok-atoms.ensures.ascends
          (subst (λ (xs : List ℕ). c.place_of-place.result < length xs) c.deref-in-loop-item.ensures.value c.place_of-place.ensures.within)
          (ap (λ (xs : List ℕ). get_or xs c.place_of-place.result 0) (sym c.deref-in-loop-item.ensures.value) ∙ c.place_of-place.ensures.is ∙ ap (λ (item : ChoiceItem). item.atom) c.item-item.is)
          (c.in_ok-push.ensures.items ∙ ap (λ (old : Vec _ Global). vec_items old ++ c.loop-item.number ∷ []) c.index_mut.ensures.value)
          (omega (arith, at, counted)));
    }

pub returns : goal.returns
returns c =
    selections_done vec_items c.loop-item.rows.items c.args.first c.loop-item.item-index c.args.items.now c.in_ok-atoms.atoms.items c.loop-item-test.false c.loop-item.invariant.rows
    c.in_ok-atoms.ensures.ascends c.in_ok-atoms.ensures.members
