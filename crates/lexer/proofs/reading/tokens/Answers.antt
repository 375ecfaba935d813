use Rattle.std.proofs.Common.{refl, sym, subst, inl, ℕ, ◌<◌, length}
use Rattle.std.specs.List.{All}
use Rattle.lexer.specs.Parts.{IsParted}
use Rattle.lexer.specs.Tokens.{IsTokenOf, IsInOrder}
use Rattle.lexer.specs.Faults.{IsNotUtf8, IsStopped}
use Rattle.lexer.proofs.TokenLemmas.{all_tokens, in_order, if_ok, if_fault}
use Rattle.lexer.proofs.PartLemmas.{stop_within}
use Rattle.lexer.proofs.Utf8Lemmas.{ends_there}
use Rattle.lexer.proofs.reading.tokens.Goals as goal

pub returns-in-Ok-clause-each : goal.returns-in-Ok-clause-each
returns-in-Ok-clause-each c =
    if_ok c.read.result (IsParted c.args.text.now) (λ ts. All (IsTokenOf c.args.text.now) ts) (all_tokens c.args.text.now) c.read.ensures.ok

pub returns-in-Ok-clause-order : goal.returns-in-Ok-clause-order
returns-in-Ok-clause-order c = if_ok c.read.result (IsParted c.args.text.now) (λ ts. IsInOrder 0 ts) (in_order c.args.text.now) c.read.ensures.ok

pub returns-in-Err-clause-fault : goal.returns-in-Err-clause-fault
returns-in-Err-clause-fault c =
    let P : ℕ → Type 0 = λ n. IsNotUtf8 c.args.text.now n in
    inl (refl, subst P (sym c.valid_up_to.ensures) (ends_there c.args.text.now c.in-Err.error.valid_up_to c.in-Err.ensures.cases.1))

pub returns-in-Ok-clause-place : goal.returns-in-Ok-clause-place
returns-in-Ok-clause-place c =
    if_fault c.read.result (IsStopped c.args.text.now) (λ fault. fault.at < length c.args.text.now) (stop_within c.args.text.now) c.read.ensures.fault
