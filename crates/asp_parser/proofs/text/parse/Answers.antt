use Rattle.std.proofs.Common.{◌≡◌, Err, sym, ◌∙◌, ap, subst}
use Rattle.lexer.specs.Parts.{IsTokenisation}
use Rattle.lexer.specs.declared.token.LexFault.{LexFault}
use Rattle.grammar.proofs.SpelledLemmas.{tokens_lie}
use Rattle.asp_parser.specs.Parsed.{lex_cause, NoText, IsStop}
use Rattle.asp_parser.specs.TextState.{fault_there}
use Rattle.asp_parser.proofs.TextTurns.{all_found, no_text, all_stops, lex_fault, no_tokens, lex_stops}
use Rattle.asp_parser.proofs.TextRules.{all_keep}
use Rattle.asp_parser.proofs.text.parse.Goals as goal

pub statements-requires : goal.statements-requires
statements-requires c = tokens_lie c.args.text.now c.items.result.now (subst (IsTokenisation c.args.text.now) (sym c.items.ensures) c.in-Ok.ensures.ok)

pub returns-in-Ok-clause-found : goal.returns-in-Ok-clause-found
returns-in-Ok-clause-found c = all_found c.args.text.now c.items.result.now c.statements.result (subst (IsTokenisation c.args.text.now) (sym c.items.ensures) c.in-Ok.ensures.ok) c.statements.ensures

pub returns-in-Ok-clause-trees : goal.returns-in-Ok-clause-trees
returns-in-Ok-clause-trees c =
    all_keep c.args.text.now c.statements.result
    (all_found c.args.text.now c.items.result.now c.statements.result (subst (IsTokenisation c.args.text.now) (sym c.items.ensures) c.in-Ok.ensures.ok) c.statements.ensures)

pub returns-in-Ok-clause-only : goal.returns-in-Ok-clause-only
returns-in-Ok-clause-only c = no_text c.args.text.now c.items.result.now c.statements.result (subst (IsTokenisation c.args.text.now) (sym c.items.ensures) c.in-Ok.ensures.ok) c.statements.ensures

pub returns-in-Ok-clause-fault : goal.returns-in-Ok-clause-fault
returns-in-Ok-clause-fault c = all_stops c.args.text.now c.items.result.now c.statements.result (subst (IsTokenisation c.args.text.now) (sym c.items.ensures) c.in-Ok.ensures.ok) c.statements.ensures

pub returns-in-Err-Fault-clause-only : goal.returns-in-Err-Fault-clause-only
returns-in-Err-Fault-clause-only c =
    let fault : LexFault = c.in-Err-Fault.fault in
    let same : c.fault_at.result ≡ fault_there c.args.text.now fault.at (lex_cause fault.cause) =
    c.fault_at.ensures ∙ ap (λ (f : LexFault). fault_there c.args.text.now f.at c.lex_cause.result) c.in-Err-Fault.fault-is
    ∙ ap (fault_there c.args.text.now fault.at) (c.lex_cause.ensures ∙ ap (λ (f : LexFault). lex_cause f.cause) c.in-Err-Fault.fault-is) in
    subst (λ refusal. NoText c.args.text.now (Err refusal)) (sym same) (no_tokens c.args.text.now fault (lex_fault c.args.text.now c.in-Err-Fault.field-0 fault c.in-Err-Fault.field-0-is c.in-Err-Fault.ensures.fault))

pub returns-in-Err-Fault-clause-fault : goal.returns-in-Err-Fault-clause-fault
returns-in-Err-Fault-clause-fault c =
    let fault : LexFault = c.in-Err-Fault.fault in
    let same : c.fault_at.result ≡ fault_there c.args.text.now fault.at (lex_cause fault.cause) =
    c.fault_at.ensures ∙ ap (λ (f : LexFault). fault_there c.args.text.now f.at c.lex_cause.result) c.in-Err-Fault.fault-is
    ∙ ap (fault_there c.args.text.now fault.at) (c.lex_cause.ensures ∙ ap (λ (f : LexFault). lex_cause f.cause) c.in-Err-Fault.fault-is) in
    subst (IsStop c.args.text.now) (sym same) (lex_stops c.args.text.now fault (lex_fault c.args.text.now c.in-Err-Fault.field-0 fault c.in-Err-Fault.field-0-is c.in-Err-Fault.ensures.fault))
