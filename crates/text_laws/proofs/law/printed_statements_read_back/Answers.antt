use Rattle.text_laws.proofs.ReadBack.{printed_reads_back}
use Rattle.text_laws.proofs.law.printed_statements_read_back.Goals as goal

pub returns : goal.returns
returns c text statements found = printed_reads_back text statements found
