use Rattle.std.proofs.Common.{◌∙◌, ap, Some, w32}
use Rattle.std.proofs.lemmas.Int.{to_z-of_z}
use Rattle.symbols.specs.Symbol.{Number}
use Rattle.symbols.proofs.TableLemmas.{id-within}
use Rattle.syntax_tree.proofs.Holding.{ok_along, with_number_value, are_held-front}
use Rattle.syntax_tree.proofs.worth.with_number.Goals as goal

pub returns-in-Ok-clause-value : goal.returns-in-Ok-clause-value
returns-in-Ok-clause-value c =
    ok_along c.with_id.result _ _ c.with_id.ensures.value
    (λ q h. with_number_value c.args.symbols.now c.number.new.self c.args.so_far q c.args.n c.in-Ok.id c.in-Ok.ensures.kept c.requires
    (c.in-Ok.ensures.id ∙ ap (λ z. Some (Number z)) (to_z-of_z w32 c.args.n c.ranges.n)) (h c.number.new.self))

pub returns-in-Ok-clause-known : goal.returns-in-Ok-clause-known
returns-in-Ok-clause-known c =
    ok_along c.with_id.result _ _ c.with_id.ensures.known
    (λ q h. h _ (are_held-front c.args.symbols.now c.number.new.self c.args.so_far c.in-Ok.ensures.kept c.requires) (id-within c.number.new.self c.in-Ok.id _ c.in-Ok.ensures.id))
