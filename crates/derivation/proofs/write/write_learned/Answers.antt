use Rattle.std.proofs.Common.{◌≡◌, OnOk, [], ◌∷◌, decimal, subst}
use Rattle.derivation.specs.Fields.{pivot_fields, lits_fields}
use Rattle.derivation.proofs.WriteLaws.{joined3}
use Rattle.derivation.proofs.write.write_learned.Goals as goal

pub returns : goal.returns
returns c =
    let whole = joined3 c.args.out.now (decimal c.args.id ∷ []) (pivot_fields c.args.pivots.now) (lits_fields c.args.lits.now) c.write_number.new.out c.write_pivots.new.out
    c.in_ok-write_number.ensures c.in_ok-write_pivots.ensures in
    subst (λ l. OnOk c.write_lits.result (c.write_lits.new.out ≡ l)) whole c.write_lits.ensures
