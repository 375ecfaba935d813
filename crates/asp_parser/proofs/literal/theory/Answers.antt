use Rattle.std.proofs.Common.{◌∙◌, None, refl, ap, subst}
use Rattle.theory_grammar.specs.TheoryParts.{ReadsTheory, first_by}
use Rattle.asp_parser.proofs.LiteralReads.{theory_take}
use Rattle.asp_parser.proofs.literal.theory.Goals as goal

pub returns-in-Ok : goal.returns-in-Ok
returns-in-Ok c =
    let seen = c.atom_parts.new.seen in
    theory_take c.args.text.now c.args.tokens.now c.args.at c.args.kept.now c.settle-in-Ok.new.self seen c.in-Ok.parts _
    (subst (λ s. ReadsTheory c.args.text.now c.args.tokens.now c.args.at s seen c.in-Ok.parts) (ap (λ k. k.seen) c.settle.ensures) c.in-Ok.ensures)
    (c.settle-in-Ok.ensures ∙ ap (λ f. record { seen = record { names = seen.names; places = seen.places; bad = None }; failing = f }) (c.first_failing.ensures ∙ ap (λ s. first_by s c.in-Ok.parts c.args.at) c.first-so_far.ensures)) refl
