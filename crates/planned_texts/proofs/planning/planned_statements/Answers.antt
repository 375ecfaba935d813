use Rattle.std.proofs.Common.{◌<◌, map, subst, sym}
use Rattle.groundable_texts.specs.Statements.{IsGroundableStatement}
use Rattle.planned_rules.specs.Planned.{rule_of}
use Rattle.planned_texts.proofs.PlanningLemmas.{zip_length, zip_at, rules_more, rules_all}
use Rattle.planned_texts.proofs.planning.planned_statements.Goals as goal

pub bounds-orders-at : goal.bounds-orders-at
bounds-orders-at c =
    subst (λ n. c.loop-at.at < n) (zip_length IsGroundableStatement c.args.statements.now c.args.orders.now c.requires) c.loop-at-test.true

pub add_statement-requires : goal.add_statement-requires
add_statement-requires c =
    subst (λ order. IsGroundableStatement c.index-statements-at.result order) (sym c.items.ensures)
    (zip_at IsGroundableStatement c.args.statements.now c.args.orders.now c.loop-at.at c.index-statements-at.result c.index-orders-at.result c.requires
    c.loop-at-test.true c.index-statements-at.is c.index-orders-at.is)

pub loop-at-preserved : goal.loop-at-preserved
loop-at-preserved c = record {
  rules = rules_more c.args.statements.now c.args.orders.now c.loop-at.at c.index-statements-at.result c.index-orders-at.result c.items.result.now
      (map rule_of c.loop-at.rules) (map rule_of c.add_statement.new.rules) c.loop-at-test.true
      (subst (λ n. c.loop-at.at < n) (zip_length IsGroundableStatement c.args.statements.now c.args.orders.now c.requires) c.loop-at-test.true)
      c.index-statements-at.is c.index-orders-at.is c.items.ensures c.loop-at.invariant.rules c.in_ok-add_statement.ensures.rules;
  ready = c.in_ok-add_statement.ensures.ready c.loop-at.invariant.ready;
}

pub returns-clause-rules : goal.returns-clause-rules
returns-clause-rules c =
    rules_all c.args.statements.now c.args.orders.now c.loop-at.at (map rule_of c.loop-at.rules) c.loop-at-test.false
    (zip_length IsGroundableStatement c.args.statements.now c.args.orders.now c.requires) c.loop-at.invariant.rules
