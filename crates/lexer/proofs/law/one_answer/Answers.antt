use Rattle.lexer.proofs.OneLemmas.{one_tokenisation, one_fault, no_tokenisation}
use Rattle.lexer.proofs.law.one_answer.Goals as goal

pub returns : goal.returns
returns c = record { tokens = one_tokenisation; fault = one_fault; apart = no_tokenisation }
