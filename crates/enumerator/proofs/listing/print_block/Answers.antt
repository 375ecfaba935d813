use Rattle.std.proofs.Common.{List, ℕ, ◌++◌, OnErr, subst, ap, ◌∙◌}
use Rattle.ground_model.specs.Printed.{block}
use Rattle.outside_io.specs.Told.{AppendsFront}
use Rattle.enumerator.proofs.listing.print_block.Goals as goal

pub returns-clause-front : goal.returns-clause-front
returns-clause-front g c =
    subst (λ (piece : List ℕ). OnErr c.write_all.result (AppendsFront (g.O.Sink.tells c.args.out.now).written (g.O.Sink.tells c.write_all.new.sink).written piece))
    (c.items.ensures ∙ c.in-Ok.ensures.ok ∙ ap (λ (xs : List ℕ). xs ++ block c.args.program.now c.args.answer.now c.args.number) c.new-text.ensures)
    c.write_all.ensures.front
