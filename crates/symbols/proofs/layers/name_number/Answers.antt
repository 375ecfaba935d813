use Rattle.std.proofs.Common.{◌≡◌, sym}
use Rattle.std.specs.Str.{bytes_eq}
use Rattle.std.specs.String.{string_bytes}
use Rattle.std.proofs.lemmas.Slice.Eq.{bytes_eq-Decides}
use Rattle.symbols.proofs.ListLemmas.{found_at, absent_at}
use Rattle.symbols.proofs.layers.name_number.Goals as goal

pub returns-in-Some-clause-found : goal.returns-in-Some-clause-found
returns-in-Some-clause-found c =
    found_at (λ name. bytes_eq c.args.name.now (string_bytes name)) string_bytes c.args.name.now (λ name h. sym ((bytes_eq-Decides c.args.name.now (string_bytes name)).0 h))
    c.args.names.now.keys c.in-Some.number (sym c.in-Some.ensures.index)

pub returns-in-None-clause-absent : goal.returns-in-None-clause-absent
returns-in-None-clause-absent c = λ n e.
    absent_at (λ name. bytes_eq c.args.name.now (string_bytes name)) string_bytes c.args.name.now c.args.names.now.keys n
    (λ name at said. (bytes_eq-Decides c.args.name.now (string_bytes name)).1 (sym said)) (sym c.in-None.ensures.found) e
