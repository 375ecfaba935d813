use Rattle.std.proofs.Common.{ap, subst, sym, ◌∙◌}
use Rattle.trail.specs.declared.shape.Shape.{Shape}
use Rattle.trail.specs.Assignment.{Assignment, IsOf, truth_on, lits_of}
use Rattle.trail.specs.inner.Kept.{entries_of}
use Rattle.trail.proofs.CellLaws.{truth-shown}
use Rattle.trail.proofs.trail.Trail.truth.Goals as goal

pub returns : goal.returns
returns c =
    let within : IsOf c.self.inside.shape c.args.lit = subst (λ (s : Shape). IsOf s c.args.lit) (sym (ap (λ (t : Assignment). t.shape) c.self.view_is)) c.requires.within in
    c.truth.ensures
    ∙ truth-shown c.self.inside.shape (lits_of (entries_of c.self.inside.slots.items)) c.self.inside.cells c.args.lit within c.self.invariant.shows
    ∙ ap (λ (t : Assignment). truth_on t c.args.lit) c.self.view_is
