use Rattle.std.proofs.Common.{◌++◌, map, ◌∙◌, ap}
use Rattle.literals.specs.Nogoods.{canonical}
use Rattle.linear_normal.specs.Numbering.{lit_of}
use Rattle.linear_normal.proofs.BodyCodeLemmas.{element_made}
use Rattle.linear_normal.proofs.body.element_conjunction.Goals as goal

pub returns : goal.returns
returns c = λ later variables body own.
    element_made later variables body c.args.item.now c.args.own.now c.add_condition.new.lits.items c.in_ok-found.found own
    (c.in_ok-add_condition.ensures.lits later variables ∙ ap (λ lits. lits ++ map (lit_of later variables) c.items.result.now) c.in_ok-lits.ensures.items ∙ ap (λ condition. c.args.own.now ++ map (lit_of later variables) condition) c.items.ensures)
    (c.in_ok-found.ensures ∙ ap canonical c.deref.ensures.value)
