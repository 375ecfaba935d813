use Rattle.std.proofs.Common.{◌+◌, ◌-◌, ◌∙◌, None, Err, List, [], sym, ap, subst, arith}
use Rattle.syntax_tree.specs.declared.rule.Name.{Name}
use Rattle.syntax_tree.specs.declared.literal.TheoryAtom.{TheoryAtom, roll-TheoryAtom}
use Rattle.theory_grammar.specs.declared.theory.ParsedTheory.{ParsedTheory}
use Rattle.theory_grammar.specs.declared.seen.Seen.{Seen}
use Rattle.grammar.proofs.SpelledLemmas.{tokens_lie}
use Rattle.theory_grammar.specs.TheoryParts.{ReadsTheory}
use Rattle.theory_grammar.specs.ParsedTheory.{NoTheory, IsTheoryFault, first_fault}
use Rattle.theory_grammar.proofs.TheoryLemmas.{found_theory, no_theory, theory_fault}
use Rattle.theory_grammar.proofs.theory.parse_theory.Goals as goal

pub atom_parts-requires-clause-tokens : goal.atom_parts-requires-clause-tokens
atom_parts-requires-clause-tokens c = tokens_lie c.args.text.now c.args.tokens.now c.requires.tokens

pub returns-in-Ok-add_starts-clause-found : goal.returns-in-Ok-add_starts-clause-found
returns-in-Ok-add_starts-clause-found c =
    let read = c.in-Ok-atom_parts.read in
    let atom : TheoryAtom = roll-TheoryAtom (record { name = read.name; elements = read.elements; guard = read.guard }) in
    let made : ParsedTheory = record { atom = atom; next = read.next + 1; fault = c.first_fault-fault.result } in
    found_theory c.args.text.now c.args.tokens.now c.args.from c.requires.from.0 c.args.names.now c.into_list.result c.args.places.now c.add_starts.new.starts c.atom_parts.new.seen
    read made
    (subst (λ (names : List Name). ReadsTheory c.args.text.now c.args.tokens.now (c.args.from - 1) (record { names = names; places = []; bad = None }) c.atom_parts.new.seen read) c.items.ensures
    (subst (λ (old : Seen). ReadsTheory c.args.text.now c.args.tokens.now (c.args.from - 1) old c.atom_parts.new.seen read) c.in-Ok.ensures c.in-Ok-atom_parts.ensures))
    c.into_list.ensures c.in-Ok-add_starts.ensures.ok
    (ap (λ f. record { atom = atom; next = read.next + 1; fault = f }) (c.first_fault-fault.ensures ∙ ap (first_fault c.args.text.now c.args.tokens.now) c.first_failing.ensures))

pub returns-in-Err-atom_parts-clause-only : goal.returns-in-Err-atom_parts-clause-only
returns-in-Err-atom_parts-clause-only c =
    subst (λ s. NoTheory c.args.text.now c.args.tokens.now c.args.from (Err s)) (sym c.stopped.ensures) (no_theory c.args.text.now c.args.tokens.now c.args.from c.requires.from.0 c.in-Err-atom_parts.stop c.in-Err-atom_parts.ensures)

pub returns-in-Err-atom_parts-clause-fault : goal.returns-in-Err-atom_parts-clause-fault
returns-in-Err-atom_parts-clause-fault c =
    let start = c.requires.from.1 in
    subst (λ s. IsTheoryFault c.args.text.now c.args.tokens.now c.args.from (Err s)) (sym c.stopped.ensures)
    (theory_fault c.args.text.now c.args.tokens.now c.args.from c.requires.from.0 c.in-Err-atom_parts.stop (omega (arith, start)) c.in-Err-atom_parts.ensures)
