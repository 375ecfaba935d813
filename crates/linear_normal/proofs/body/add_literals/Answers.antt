use Rattle.std.proofs.Common.{◌++◌, map, drop, ◌+◌, ◌∙◌, ap, subst, sym}
use Rattle.std.specs.List.{AllByRecursion}
use Rattle.literals.specs.Lits.{IsLit}
use Rattle.linear_normal.specs.Demands.{literal_demands}
use Rattle.linear_normal.specs.Numbering.{lit_of}
use Rattle.linear_normal.proofs.GrowthLemmas.{left_next, left_last, one_left, none_left, mapped_next, mapped_last, all_push}
use Rattle.linear_normal.proofs.body.add_literals.Goals as goal

pub loop-literal-preserved : goal.loop-literal-preserved
loop-literal-preserved c =
    let i = c.loop-literal.literal-index in
    let body = c.args.body.now in
    let v = c.args.variables in
    record {
      literals = subst (AllByRecursion IsLit) (sym c.in_ok-push.ensures.items) (all_push IsLit c.loop-literal.lits.items c.in_ok-lit.lit c.loop-literal.invariant.literals c.in_ok-lit.ensures.literal);
      gives = left_next _ _ _ _ (literal_demands v c.literal-item.result) _ _ _ _ _
          (one_left (literal_demands v) body i c.literal-item.result c.literal-item.result c.loop-literal-test.true c.literal-item.is)
          c.loop-literal.invariant.gives c.in_ok-lit.ensures.gives
          (λ later first next. ap (λ lits. lits ++ map (lit_of later v) (drop (i + 1) body)) c.in_ok-push.ensures.items
          ∙ mapped_next (lit_of later v) body i c.literal-item.result c.loop-literal.lits.items (map (lit_of later v) body) c.in_ok-lit.lit c.loop-literal-test.true first (next ∙ ap (lit_of later v) c.literal-item.is));
    }

pub returns-clause-gives : goal.returns-clause-gives
returns-clause-gives c =
    left_last _ _ _ _ _ _ (none_left (literal_demands c.args.variables) c.args.body.now c.loop-literal.literal-index c.loop-literal-test.false) c.loop-literal.invariant.gives
    (λ later first. mapped_last (lit_of later c.args.variables) c.args.body.now c.loop-literal.literal-index c.loop-literal.lits.items _ c.loop-literal-test.false first)
