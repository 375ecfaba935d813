use Rattle.std.proofs.Common.{ℕ, refl, sym, subst, inl}
use Rattle.lexer.specs.Faults.{IsNotUtf8}
use Rattle.lexer.proofs.Utf8Lemmas.{ends_there}
use Rattle.lexer.proofs.checking.first_fault.Goals as goal

pub returns-in-Err-clause-fault : goal.returns-in-Err-clause-fault
returns-in-Err-clause-fault c =
    let P : ℕ → Type 0 = λ n. IsNotUtf8 c.args.text.now n in
    inl (refl, subst P (sym c.valid_up_to.ensures) (ends_there c.args.text.now c.in-Err.error.valid_up_to c.in-Err.ensures.cases.1))
