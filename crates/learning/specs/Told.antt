-- Reasons as lines.
use Rattle.std.specs.Prelude.{◌≡◌, true, ℤ, List, Option}
use Rattle.std.specs.List.{AllByRecursion}
use Rattle.literals.specs.declared.lit.Lit.{Lit}
use Rattle.literals.specs.declared.reason.Step.{Step}
use Rattle.literals.specs.declared.reason.Step.TheVariants as s
use Rattle.literals.specs.declared.reason.Reason.{Reason}
use Rattle.ground_model.specs.declared.program.GroundProgram.{GroundProgram}
use Rattle.linear_normal.specs.Numbering.{numbering}
use Rattle.linear_normal.specs.Steps.{is_valid}
use Rattle.trail.specs.declared.entry.Entry.{Entry}
use Rattle.trail.specs.declared.entry.Why.{Why}
use Rattle.trail.specs.declared.entry.Why.TheVariants.{Shown}
use Rattle.conflict_analysis.specs.declared.learned.Start.{Start}
use Rattle.conflict_analysis.specs.declared.learned.Start.TheVariants as start
use Rattle.derivation.specs.declared.line.Line.{Line}
use Rattle.derivation.specs.declared.line.Line.TheVariants as l

-- the line that tells a reason
abbrev pub line_by : Step → List Lit → Line
line_by (s.Sum c) lits = l.Sum c lits
line_by (s.Distinct c a b) lits = l.Distinct c a b lits
line_by (s.Window c a b) lits = l.Window c a b lits
line_by (s.Pair c i j) lits = l.Pair c i j lits
line_by (s.Loop atoms) lits = l.Loop atoms lits
line_by (s.Hole c) lits = l.Hole c lits

abbrev pub line_of : Reason → Line
line_of r = line_by r.step r.nogood

-- the reason is valid after this cost
abbrev pub IsTellable : GroundProgram → Option ℤ → Reason → Type 0
IsTellable program cost r = is_valid program (numbering program) cost r.nogood r.step ≡ true

abbrev pub IsTellableBy : GroundProgram → Option ℤ → Why → Type 0
IsTellableBy program cost (Shown r) = IsTellable program cost r
IsTellableBy program cost other = Unit {0}

-- the reason that each entry shows can be told
abbrev pub AllTellable : GroundProgram → Option ℤ → List Entry → Type 0
AllTellable program cost entries = AllByRecursion (λ e. IsTellableBy program cost e.why) entries

-- the start of an analysis can be told
abbrev pub IsTellableStart : GroundProgram → Option ℤ → Start → Type 0
IsTellableStart program cost (start.Held id) = Unit {0}
IsTellableStart program cost (start.Shown r) = IsTellable program cost r
