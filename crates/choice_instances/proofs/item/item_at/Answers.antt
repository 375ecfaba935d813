use Rattle.std.proofs.Common.{IsTrue, map, sym, subst}
use Rattle.std.specs.List.{AllByRecursion, list_all}
use Rattle.syntax_tree.specs.Literals.{is_literal}
use Rattle.syntax_tree.specs.Outcome.{bound_in}
use Rattle.syntax_tree.specs.Tree.{is_term}
use Rattle.syntax_tree.proofs.Holding.{bound-front}
use Rattle.ground_model.proofs.Bools.{and_elim}
use Rattle.program_meaning.specs.Ground.{AtomsAs}
use Rattle.program_meaning.specs.Read.{choice_read, literal_read, plains}
use Rattle.symbol_rules.specs.Reading.{literal_in}
use Rattle.choice_instances.proofs.BindingLemmas.{all_true}
use Rattle.choice_instances.proofs.item.item_at.Goals as goal

pub ground_literals-requires-clause-literals : goal.ground_literals-requires-clause-literals
ground_literals-requires-clause-literals c =
    let element = c.args.element.now in
    subst (AllByRecursion (λ literal. IsTrue (is_literal literal))) (sym c.items.ensures)
    (all_true is_literal element.condition (and_elim (is_term element.atom) (list_all is_literal element.condition) c.requires.tree).1)

pub returns-in-Ok-ground_literals-clause-condition : goal.returns-in-Ok-ground_literals-clause-condition
returns-in-Ok-ground_literals-clause-condition c =
    let old = c.args.symbols.now in
    let now = c.symbol_of.new.symbols in
    let values = c.args.binding.now.values in
    let atoms = map (literal_in c.ground_literals.new.symbols) c.in-Ok-ground_literals.condition in
    subst (λ b. AtomsAs b (choice_read c.args.element.now).condition atoms) (bound-front old now values c.in-Ok.ensures.kept c.requires.binding)
    (subst (λ ls. AtomsAs (bound_in now values) (plains (map literal_read ls)) atoms) c.items.ensures c.in-Ok-ground_literals.ensures.atoms)
