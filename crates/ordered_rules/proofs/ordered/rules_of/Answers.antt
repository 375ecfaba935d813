use Rattle.std.proofs.Common.{arith, sym, subst, map}
use Rattle.groundable_texts.specs.Statements.{IsGroundableStatement}
use Rattle.ordered_rules.specs.Ordered.{read_of}
use Rattle.ordered_rules.proofs.Steps.{zip_length, zip_at, kept_step}
use Rattle.ordered_rules.proofs.ordered.rules_of.Goals as goal

pub bounds-orders-at : goal.bounds-orders-at
bounds-orders-at c =
    let same = zip_length IsGroundableStatement c.args.statements.now c.args.orders.now c.requires in
    let less = c.loop-at-test.true in
    omega (arith, same, less)

pub add_rule-requires : goal.add_rule-requires
add_rule-requires c =
    subst (IsGroundableStatement c.index-statements-at.result) (sym c.items.ensures)
    (zip_at IsGroundableStatement c.args.statements.now c.args.orders.now c.loop-at.at c.index-statements-at.result c.index-orders-at.result c.requires c.loop-at-test.true
    c.index-statements-at.is c.index-orders-at.is)

pub loop-at-preserved : goal.loop-at-preserved
loop-at-preserved c = record {
  rules = kept_step c.args.statements.now c.args.orders.now c.loop-at.at c.index-statements-at.result c.index-orders-at.result c.items.result.now (map read_of c.loop-at.rules)
      (map read_of c.add_rule.new.rules) (zip_length IsGroundableStatement c.args.statements.now c.args.orders.now c.requires) c.loop-at-test.true c.index-statements-at.is
      c.index-orders-at.is c.items.ensures c.in_ok-add_rule.ensures.rules c.loop-at.invariant.rules;
  groundable = c.in_ok-add_rule.ensures.groundable c.loop-at.invariant.groundable;
}
