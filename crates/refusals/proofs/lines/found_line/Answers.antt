use Rattle.std.proofs.Common.{true, get_or, ap, sym}
use Rattle.refusals.specs.declared.atoms.SeenAtom.{SeenAtom}
use Rattle.refusals.specs.inner.Places.{atom_place_in}
use Rattle.refusals.proofs.AtomLemmas.{found_said, none_at}
use Rattle.refusals.proofs.lines.found_line.Goals as goal

pub returns-then-number-seen : goal.returns-then-number-seen
returns-then-number-seen c = λ term p here has. absurd (none_at c.args.seen.now c.args.number term true c.if-number-seen.true here)

pub returns : goal.returns
returns c =
    let site = c.args.site.now in
    found_said c.atom_line.result site.name.now site.text.now (atom_place_in site.rule.now site.sights.now c.args.number) c.args.seen.now c.args.number
    c.index-seen-number.result (get_or c.args.seen.now c.args.number c.index-seen-number.result).atom.now c.if-number-seen.false c.index-seen-number.is
    (ap (λ (a : SeenAtom). a.atom.now) (sym c.index-seen-number.is)) c.atom_line.ensures
