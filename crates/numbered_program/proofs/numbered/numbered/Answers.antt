use Rattle.std.proofs.Common.{map, ◌∙◌, ap, subst}
use Rattle.symbols.specs.Table.{symbol_at}
use Rattle.program_meaning.specs.Canonical.{place_numbered, rule_numbered}
use Rattle.program_meaning.specs.Said.{place_in}
use Rattle.symbol_rules.specs.Reading.{rule_in}
use Rattle.numbered_rules.specs.Numbers.{HaveNumbers}
use Rattle.numbered_program.proofs.PartLemmas.{numbered_by}
use Rattle.numbered_program.proofs.numbered.numbered.Goals as goal

pub returns : goal.returns
returns c =
    let symbols = c.args.symbols.now in
    let parts = c.args.parts.now in
    let atoms = map (symbol_at symbols) parts.atoms in
    let variables = map (symbol_at symbols) parts.variables in
    numbered_by symbols parts c.requires.known c.in_ok-atoms.atoms.items c.in_ok-variables.variables.items c.deref.result.now c.deref-2.result.now c.deref-3.result.now c.deref-4.result.now
    c.deref.ensures.value c.deref-2.ensures.value c.deref-3.ensures.value c.deref-4.ensures.value
    (subst (λ ids. HaveNumbers symbols (map (symbol_at symbols) ids) c.in_ok-atoms.atoms.items) c.items.ensures c.in_ok-atoms.ensures)
    (subst (λ ids. HaveNumbers symbols (map (symbol_at symbols) ids) c.in_ok-variables.variables.items) c.items-2.ensures c.in_ok-variables.ensures) _
    (λ p q. c.in_ok-rules.ensures.rules symbols atoms variables p q ∙ ap (λ rules. map (rule_numbered atoms variables) (map (rule_in symbols) rules)) c.items-3.ensures)
    (λ p. c.in_ok-smaller.ensures.places symbols variables p ∙ ap (λ places. map (place_numbered variables) (map (place_in symbols) places)) c.items-4.ensures)
    (λ p. c.in_ok-larger.ensures.places symbols variables p ∙ ap (λ places. map (place_numbered variables) (map (place_in symbols) places)) c.items-5.ensures)
    c.in_ok-rules.ensures.known c.in_ok-smaller.ensures.known c.in_ok-larger.ensures.known
