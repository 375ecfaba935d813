use Rattle.ground_model.specs.declared.rule.GroundHead.TheVariants as h
use Rattle.linear_normal.proofs.RuleLemmas.{nothing_given, atom_given, theory_given, head_is, choice_atoms}
use Rattle.linear_normal.proofs.rule.add_head.Goals as goal

pub returns-in_ok-push-in-Nothing : goal.returns-in_ok-push-in-Nothing
returns-in_ok-push-in-Nothing c = λ atoms body counted has.
    nothing_given _ atoms c.args.variables c.args.first c.args.own.now body c.args.head.now c.args.bodies.now c.args.duties.now c.push.new.self c.in-Nothing.is c.in_ok-push-in-Nothing.ensures.ok

pub returns-in_ok-push-in-Atom : goal.returns-in_ok-push-in-Atom
returns-in_ok-push-in-Atom c = λ atoms body counted has.
    atom_given _ atoms c.args.variables c.args.first c.args.own.now body c.args.head.now c.in-Atom.atom c.args.bodies.now c.args.duties.now c.push-in-Atom.new.self c.in-Atom.is c.in_ok-push-in-Atom.ensures.ok

pub returns-in_ok-push-in-Theory : goal.returns-in_ok-push-in-Theory
returns-in_ok-push-in-Theory c = λ atoms body counted has.
    theory_given _ _ atoms c.args.variables c.args.first c.args.own.now body c.args.head.now c.in-Theory.theory c.in_ok-number-in-Theory.number c.args.bodies.now c.args.duties.now c.push-in-Theory.new.self
    c.in-Theory.is c.in_ok-number-in-Theory.ensures.gives c.in_ok-push-in-Theory.ensures.ok

pub returns-in_ok-add_choice-in-Choice : goal.returns-in_ok-add_choice-in-Choice
returns-in_ok-add_choice-in-Choice c = λ atoms body counted has.
    head_is _ _ atoms c.args.variables c.args.first c.args.own.now body c.args.head.now _ _ _ _ (h.Choice c.in-Choice.choice) c.in-Choice.is
    (c.in_ok-add_choice-in-Choice.ensures atoms c.args.variables body counted (choice_atoms atoms c.args.head.now c.in-Choice.choice c.in-Choice.is has))
