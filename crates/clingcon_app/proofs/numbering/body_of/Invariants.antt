use Rattle.std.proofs.Common.{◌≡◌, ◌++◌, drop}
use Rattle.clingcon_app.specs.Numbering.{numbered_body}
use Rattle.clingcon_app.proofs.numbering.body_of.Given as goal

abbrev pub invariant-loop-id : goal.invariant-loop-id
invariant-loop-id l = l.body.items ++ numbered_body l.numbers (drop l.id-index l.ids) ≡ numbered_body l.numbers l.ids
