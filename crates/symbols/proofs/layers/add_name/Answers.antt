use Rattle.std.proofs.Common.{◌≡◌, ◌∙◌, sym, ap, Some, option_map}
use Rattle.std.specs.String.{string_bytes}
use Rattle.std.proofs.lemmas.Option.{slice_get-map}
use Rattle.std.proofs.lemmas.Slice.Eq.{bytes_eq-Decides}
use Rattle.symbols.proofs.ListLemmas.{IsEachOnce-map}
use Rattle.symbols.proofs.NodeLemmas.{IsBegun-insert}
use Rattle.symbols.proofs.layers.add_name.Goals as goal

pub returns-clause-number : goal.returns-clause-number
returns-clause-number c =
    let s = c.in_ok-number.ensures.stored in
    slice_get-map string_bytes c.insert_full.new.self.keys c.in_ok-number.number ∙ ap (option_map string_bytes) s.1
    ∙ ap Some (sym ((bytes_eq-Decides (string_bytes c.in_ok-name.name) (string_bytes s.0)).0 s.2) ∙ c.in_ok-name.ensures.ok)

pub returns-clause-begun : goal.returns-clause-begun
returns-clause-begun c = IsBegun-insert string_bytes _ c.args.names.now.keys c.insert_full.new.self.keys c.in_ok-name.name c.in_ok-number.ensures.keys

pub returns-clause-once : goal.returns-clause-once
returns-clause-once c =
    IsEachOnce-map _ string_bytes (λ a b same. (bytes_eq-Decides (string_bytes a) (string_bytes b)).1 same) c.insert_full.new.self.keys c.in_ok-number.ensures.unique
