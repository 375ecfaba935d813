use Rattle.std.proofs.Common.{Bool, List, map, sym, ◌∙◌, ap, subst}
use Rattle.std.specs.List.{AllZip}
use Rattle.symbols.specs.Table.{symbol_at}
use Rattle.program_meaning.specs.Canonical.{IsShownFlag}
use Rattle.shown_flags.specs.inner.Lone.{flag_of}
use Rattle.shown_flags.proofs.LoneLemmas.{flags_are}
use Rattle.shown_flags.proofs.variables.shown_variables.Goals as goal

pub returns : goal.returns
returns c = λ rules is of.
    subst (AllZip (IsShownFlag rules) (map (symbol_at c.args.symbols.now) c.args.variables.now)) (sym c.in_ok-made.ensures)
    (flags_are rules c.args.symbols.now c.symbols_are_distinct.ensures c.args.shows c.args.shown.now c.deref.result.now c.requires.shown is of
    (λ id. ap (λ (marks : List Bool). flag_of marks id) c.deref.ensures.value ∙ c.in_ok-marks.ensures.marks id)
    c.args.variables.now c.requires.variables)
