use Rattle.std.proofs.Common.{length, refl}
use Rattle.syntax_tree.specs.declared.literal.TheoryName.TheVariants as name
use Rattle.objective_parts.proofs.TupleLemmas.{set_known, set_of_all}
use Rattle.objective_parts.proofs.sets.directed_places.Goals as goal

pub returns-clause-smaller : goal.returns-clause-smaller
returns-clause-smaller c = λ rules have.
    set_of_all c.args.symbols.now name.Minimize c.args.directives _ _ c.in_ok-all.ensures.smaller c.ordered_tuples-smaller.ensures.places rules (have name.Minimize refl)

pub returns-clause-larger : goal.returns-clause-larger
returns-clause-larger c = λ rules have.
    set_of_all c.args.symbols.now name.Maximize c.args.directives _ _ c.in_ok-all.ensures.larger c.ordered_tuples-larger.ensures.places rules (have name.Maximize refl)

pub returns-clause-shown : goal.returns-clause-shown
returns-clause-shown c = λ rules have.
    set_of_all c.args.symbols.now name.Show c.args.directives _ _ c.in_ok-all.ensures.shown c.ordered_tuples-shown.ensures.places rules (have name.Show refl)

pub returns-clause-known : goal.returns-clause-known
returns-clause-known c = record {
  smaller = set_known (length c.args.symbols.now) name.Minimize c.args.directives _ _ c.in_ok-all.ensures.smaller c.requires c.ordered_tuples-smaller.ensures.among;
  larger = set_known (length c.args.symbols.now) name.Maximize c.args.directives _ _ c.in_ok-all.ensures.larger c.requires c.ordered_tuples-larger.ensures.among;
  shown = set_known (length c.args.symbols.now) name.Show c.args.directives _ _ c.in_ok-all.ensures.shown c.requires c.ordered_tuples-shown.ensures.among;
}
