use Rattle.std.proofs.Common.{◌≡◌, ◌∙◌, sym, ap, subst, rules, FitsSigned, to_z, of_z}
use Rattle.std.specs.Int.{w32}
use Rattle.std.proofs.lemmas.Int.{to_z-of_z}
use Rattle.symbols.specs.Symbol.{Number}
use Rattle.program_meaning.specs.Collected.{symbol_collected}
use Rattle.collected_terms.specs.Found.{IsTermOf}
use Rattle.collected_terms.proofs.leaf.by_symbol.Goals as goal

pub returns-in-Number-clause-found : goal.returns-in-Number-clause-found
returns-in-Number-clause-found c =
    let n = c.in-Number.n in
    let fits : FitsSigned w32 n = search rules in
    let same : to_z w32 (of_z w32 n) ≡ n = simp to_z-of_z in
    subst (λ s. IsTermOf c.args.symbols.now c.number.result (symbol_collected s)) (ap Number same ∙ sym c.in-Number.ensures.shown) (c.number.ensures.found c.args.symbols.now)

pub returns-in-Number-clause-known : goal.returns-in-Number-clause-known
returns-in-Number-clause-known c = c.number.ensures.known c.args.symbols.now
