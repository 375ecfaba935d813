-- The ground program that texts load to has the models of their program.
use Rattle.std.proofs.Common.{ℕ, List, refl, sym, subst}
use Rattle.symbols.specs.declared.ends.Ends.{Ends}
use Rattle.syntax_tree.specs.declared.statement.Program.{Program}
use Rattle.program_meaning.specs.Read.{ReadProgram}
use Rattle.program_meaning.specs.Canonical.{GroundView, view_of, IsCanonical}
use Rattle.program_meaning.proofs.Worlds as worlds
use Rattle.safety_meaning.specs.Program.{program_of}
use Rattle.load_meaning.specs.Load.{HasProgram, LoadedAs, LoadsTo}
use Rattle.load_meaning.specs.Laws.{ProgramLaw, SameModelsLaw, DownLaw, UpLaw, ObjectiveLaw}
use Rattle.inputs.proofs.OneProgram.{one_program}

-- the ground program is canonical for any program that the texts have
is_canonical : (names texts : List (List ℕ)) (ends : Ends) (limit : ℕ) (view : GroundView) (read : ReadProgram) → LoadsTo names texts ends limit (LoadedAs view) → HasProgram texts read
    → IsCanonical read view
is_canonical names texts ends limit view read h has =
    let same = one_program texts h.0 has.0 h.1.has has.1 in
    subst (λ (r : ReadProgram). IsCanonical r view) (sym has.2) (subst (λ (p : Program). IsCanonical (program_of p.statements) view) same h.1.grounds.1)

pub program_law : ProgramLaw
program_law names texts ends limit made h = (program_of h.0.statements, (h.0, h.1.has, refl))

pub same_models_law : SameModelsLaw
same_models_law names texts limit made read h has = worlds.same_models_law read made (is_canonical names texts made.ends limit (view_of made) read h has)

pub down_law : DownLaw
down_law names texts limit made read h has = worlds.down_law read made (is_canonical names texts made.ends limit (view_of made) read h has)

pub up_law : UpLaw
up_law names texts limit made read h has = worlds.up_law read made (is_canonical names texts made.ends limit (view_of made) read h has)

pub objective_law : ObjectiveLaw
objective_law names texts limit made read h has = worlds.objective_law read made (is_canonical names texts made.ends limit (view_of made) read h has)
