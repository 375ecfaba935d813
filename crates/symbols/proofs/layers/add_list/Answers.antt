use Rattle.std.proofs.Common.{◌≡◌, ◌∙◌, sym, ap, Some, option_map}
use Rattle.std.proofs.lemmas.Option.{slice_get-map}
use Rattle.symbols.proofs.ListLemmas.{IsEachOnce-map}
use Rattle.symbols.proofs.NodeLemmas.{same_items}
use Rattle.symbols.proofs.layers.add_list.Goals as goal

pub returns-clause-number : goal.returns-clause-number
returns-clause-number c =
    let s = c.in_ok-number.ensures.stored in
    slice_get-map (λ list. list.items) c.insert_full.new.self.keys c.in_ok-number.number ∙ ap (option_map (λ list. list.items)) s.1
    ∙ ap Some (sym ((same_items c.in_ok-list.list.items s.0.items).0 s.2) ∙ c.in_ok-list.ensures.items)

pub returns-clause-once : goal.returns-clause-once
returns-clause-once c =
    IsEachOnce-map _ (λ list. list.items) (λ a b same. (same_items a.items b.items).1 same) c.insert_full.new.self.keys c.in_ok-number.ensures.unique
