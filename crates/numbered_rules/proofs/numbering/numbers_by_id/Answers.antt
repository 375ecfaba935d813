use Rattle.std.proofs.Common.{◌<◌, sym, ◌∙◌, subst}
use Rattle.std.specs.List.{AllByRecursion}
use Rattle.numbered_rules.proofs.TableLemmas.{all_by_index, are_numbers}
use Rattle.numbered_rules.proofs.numbering.numbers_by_id.Goals as goal

pub returns : goal.returns
returns c = record {
  size = c.in_ok-numbers.ensures.size ∙ c.len.ensures.length;
  each = are_numbers c.args.symbols.now c.symbols_are_distinct.ensures c.args.ids.now c.in_ok-numbers.numbers.items c.requires.known c.in_ok-numbers.ensures.numbers;
}

pub places_of_ids-requires-clause-known : goal.places_of_ids-requires-clause-known
places_of_ids-requires-clause-known c = all_by_index (λ id. id < c.len.result) c.args.ids.now (subst (λ n. AllByRecursion (λ id. id < n) c.args.ids.now) (sym c.len.ensures.length) c.requires.known)
