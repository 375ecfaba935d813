use Rattle.std.proofs.Common.{subst, sym, IfOk}
use Rattle.safety.specs.declared.failure.Failure.{Failure}
use Rattle.refusals.specs.inner.Rows.{IsLineOf}
use Rattle.refusals.proofs.LineLemmas.{unsafe_said, no_domain_said}
use Rattle.refusals.proofs.lines.site_line.Goals as goal

pub returns-in-UnsafeVariable : goal.returns-in-UnsafeVariable
returns-in-UnsafeVariable c =
    subst (λ (f : Failure). IfOk c.unsafe_line.result (IsLineOf c.args.site.now f)) (sym c.in-UnsafeVariable.is)
    (unsafe_said c.unsafe_line.result c.args.site.now c.in-UnsafeVariable.place c.unsafe_line.ensures)

pub returns-in-NoDomainAtom : goal.returns-in-NoDomainAtom
returns-in-NoDomainAtom c =
    subst (λ (f : Failure). IfOk c.no_domain_line.result (IsLineOf c.args.site.now f)) (sym c.in-NoDomainAtom.is)
    (no_domain_said c.no_domain_line.result c.args.site.now c.in-NoDomainAtom.place c.no_domain_line.ensures)
