use Rattle.std.proofs.Common.{length, subst, sym}
use Rattle.std.specs.List.{AllByRecursion}
use Rattle.symbol_rules.specs.Reading.{HasRule}
use Rattle.numbered_rules.proofs.RuleLemmas.{rules_over, rules_known_by}
use Rattle.numbered_rules.proofs.numbering.numbered_rules.Goals as goal

pub rules_of-requires : goal.rules_of-requires
rules_of-requires c =
    subst (λ n. AllByRecursion (HasRule n (length c.args.numbers.now)) c.args.held.now) (sym c.requires.size) c.requires.rules

pub returns-clause-rules : goal.returns-clause-rules
returns-clause-rules c = λ symbols atoms variables first second.
    rules_over symbols atoms variables c.args.atom_numbers.now c.args.numbers.now first second c.args.held.now c.requires.rules _ c.in_ok-made.ensures

pub returns-clause-known : goal.returns-clause-known
returns-clause-known c = rules_known_by (length c.args.numbers.now) c.args.atom_numbers.now c.args.numbers.now c.args.held.now c.requires.rules _ c.in_ok-made.ensures
