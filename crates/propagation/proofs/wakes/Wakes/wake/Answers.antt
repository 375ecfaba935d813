use Rattle.std.proofs.lemmas.Result.{on_ok_weaker}
use Rattle.propagation.proofs.WakeLaws.{heard_symbols, heard_truth, heard_bound, has_truth, has_bound}
use Rattle.propagation.proofs.wakes.Wakes.wake.Goals as goal

pub returns-in-Atom-clause-heard : goal.returns-in-Atom-clause-heard
returns-in-Atom-clause-heard c ms wakes = heard_symbols ms c.args.awake.now.places c.args.lit c.in-Atom.is

pub returns-in-Constraint-clause-heard : goal.returns-in-Constraint-clause-heard
returns-in-Constraint-clause-heard c =
    let lt =
    has_truth c.requires.rows.0 c.args.awake.now.count c.args.self.now c.self.inside.bounds.items c.self.inside.truths.items c.args.lit c.in-Constraint.c c.in-Constraint.field-1 c.self.view_is c.requires.rows.1 c.requires.rows.2 c.in-Constraint.is in
    on_ok_weaker c.wake_row.result
    (λ all ms wakes. heard_truth c.args.self.now c.self.inside.bounds.items c.self.inside.truths.items ms c.wake_row.new.awake.places c.args.lit c.in-Constraint.c c.in-Constraint.field-1 c.index.result.now c.items.result.now c.self.view_is lt
    c.in-Constraint.is c.index.ensures c.items.ensures all wakes)
    c.wake_row.ensures.all

pub returns-in-AtMost-clause-heard : goal.returns-in-AtMost-clause-heard
returns-in-AtMost-clause-heard c =
    let lt = has_bound c.requires.rows.0 c.args.awake.now.count c.args.self.now c.self.inside.bounds.items c.self.inside.truths.items c.args.lit c.in-AtMost.x c.self.view_is c.requires.rows.1 c.requires.rows.2 c.in-AtMost.is in
    on_ok_weaker c.wake_row-in-AtMost.result
    (λ all ms wakes. heard_bound c.args.self.now c.self.inside.bounds.items c.self.inside.truths.items ms c.wake_row-in-AtMost.new.awake.places c.args.lit c.in-AtMost.x c.index-in-AtMost.result.now c.items-in-AtMost.result.now c.self.view_is lt
    c.in-AtMost.is c.index-in-AtMost.ensures c.items-in-AtMost.ensures all wakes)
    c.wake_row-in-AtMost.ensures.all
