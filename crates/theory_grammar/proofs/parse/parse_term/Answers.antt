use Rattle.std.proofs.Common.{◌+◌, ◌-◌, None, Err, List, [], sym, subst, arith}
use Rattle.syntax_tree.specs.declared.rule.Name.{Name}
use Rattle.grammar.proofs.SpelledLemmas.{tokens_lie}
use Rattle.theory_grammar.specs.declared.parse.ParsedTerm.{ParsedTerm}
use Rattle.theory_grammar.specs.declared.seen.Seen.{Seen}
use Rattle.theory_grammar.specs.State.{Reads, unary_class, term_class}
use Rattle.theory_grammar.specs.Parsed.{NoTerm, IsTermFault}
use Rattle.theory_grammar.proofs.ParseLemmas.{found_term, no_term, term_fault}
use Rattle.theory_grammar.proofs.parse.parse_term.Goals as goal

pub term-requires-clause-tokens : goal.term-requires-clause-tokens
term-requires-clause-tokens c = tokens_lie c.args.text.now c.args.tokens.now c.requires.tokens

pub returns-in-Ok-add_starts-clause-found : goal.returns-in-Ok-add_starts-clause-found
returns-in-Ok-add_starts-clause-found c =
    let read = c.in-Ok-term.read in
    let made : ParsedTerm = record { term = read.term; next = read.next + 1; is_atom = c.is_atom.result; fault = c.bad_term.result } in
    found_term c.args.text.now c.args.tokens.now c.args.from c.requires.from.0 c.args.names.now c.into_list.result c.args.places.now c.add_starts.new.starts c.term.new.seen
    read.term read.shape read.next made
    (subst (λ (names : List Name). Reads (term_class (unary_class 64)) c.args.text.now c.args.tokens.now (c.args.from - 1) (record { names = names; places = []; bad = None }) c.term.new.seen read.term read.shape read.next) c.items.ensures
    (subst (λ (old : Seen). Reads (term_class (unary_class 64)) c.args.text.now c.args.tokens.now (c.args.from - 1) old c.term.new.seen read.term read.shape read.next) c.in-Ok.ensures c.in-Ok-term.ensures))
    c.into_list.ensures c.in-Ok-add_starts.ensures.ok
    (λ i. record { term = read.term; next = read.next + 1; is_atom = c.is_atom.ensures i; fault = c.bad_term.ensures i })

pub returns-in-Err-term-clause-only : goal.returns-in-Err-term-clause-only
returns-in-Err-term-clause-only c =
    subst (λ s. NoTerm c.args.text.now c.args.tokens.now c.args.from (Err s)) (sym c.stopped.ensures) (no_term c.args.text.now c.args.tokens.now c.args.from c.requires.from.0 c.in-Err-term.stop c.in-Err-term.ensures)

pub returns-in-Err-term-clause-fault : goal.returns-in-Err-term-clause-fault
returns-in-Err-term-clause-fault c =
    let start = c.requires.from.1 in
    subst (λ s. IsTermFault c.args.text.now c.args.tokens.now c.args.from (Err s)) (sym c.stopped.ensures)
    (term_fault c.args.text.now c.args.tokens.now c.args.from c.requires.from.0 c.in-Err-term.stop (omega (arith, start)) c.in-Err-term.ensures)
