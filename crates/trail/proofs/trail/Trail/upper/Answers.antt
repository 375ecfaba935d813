use Rattle.std.proofs.Common.{◌≤◌, ap, ◌∙◌, rules, FitsSigned, w32}
use Rattle.std.proofs.lemmas.Int.{to_z-of_z}
use Rattle.trail.specs.Assignment.{Assignment, upper_on}
use Rattle.trail.proofs.trail.Trail.upper.Goals as goal

pub returns : goal.returns
returns c =
    let fits : FitsSigned w32 c.upper.result = search rules in
    let within : c.args.x ≤ c.self.inside.shape.variables = rw (ap (λ (t : Assignment). t.shape.variables) c.self.view_is) c.requires in
    to_z-of_z w32 c.upper.result fits ∙ c.upper.ensures ∙ c.self.invariant.shows.upper c.args.x within ∙ ap (λ (t : Assignment). upper_on t c.args.x) c.self.view_is
