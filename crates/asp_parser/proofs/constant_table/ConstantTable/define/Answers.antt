use Rattle.std.proofs.Common.{◌∙◌, ap, sym, subst, length, ◌<◌, All, IfSome}
use Rattle.std.specs.Option.{option_map}
use Rattle.symbols.specs.Table.{symbol_at}
use Rattle.syntax_tree.specs.Value.{value_of}
use Rattle.asp_parser.specs.Constants.{symbol_in}
use Rattle.asp_parser.specs.ConstantTable.{IsTable}
use Rattle.asp_parser.proofs.TableLemmas.{table_front, table_added, values_known, values_worth, with_new, with_none, with_known, is_missing, same_table}
use Rattle.asp_parser.proofs.constant_table.ConstantTable.define.Goals as goal

pub returns-then-is_constant : goal.returns-then-is_constant
returns-then-is_constant c =
    with_known c.args.self.now c.self.inside.symbols c.self.inside.values.entries c.args.name.now _ (sym c.self.view_is) (sym c.is_constant.ensures ∙ c.if-is_constant.true)

pub symbol_of-requires-clause-binding : goal.symbol_of-requires-clause-binding
symbol_of-requires-clause-binding c = values_known _ c.self.inside.binding.values c.self.inside.values.entries c.self.invariant

pub invariant_of-self : goal.invariant_of-self
invariant_of-self c = table_front c.self.inside.symbols c.symbol_of.new.symbols c.self.inside.binding.values c.self.inside.values.entries c.symbol_of.ensures.kept c.self.invariant

pub invariant_of-self-in_err-add-in-Some : goal.invariant_of-self-in_err-add-in-Some
invariant_of-self-in_err-add-in-Some c =
    same_table _ _ _ _ _ c.in_err-add-in-Some.ensures.err.0 c.in_err-add-in-Some.ensures.err.1
    (table_front c.self.inside.symbols c.symbol_of.new.symbols c.self.inside.binding.values c.self.inside.values.entries c.symbol_of.ensures.kept c.self.invariant)

pub invariant_of-self-in-Some : goal.invariant_of-self-in-Some
invariant_of-self-in-Some c =
    table_added c.self.inside.symbols c.symbol_of.new.symbols c.self.inside.binding.values _ c.self.inside.values.entries c.add.new.values.entries c.args.name.now c.in-Some.id c.symbol_of.ensures.kept
    (subst (λ o. IfSome o (λ n. n < length c.symbol_of.new.symbols)) c.in-Some.is c.in_ok-id.ensures.known) c.self.invariant c.in_ok-add-in-Some.ensures.ok c.in_ok-add-in-Some.ensures.bound

pub invariant_of-self-in-None : goal.invariant_of-self-in-None
invariant_of-self-in-None c = table_front c.self.inside.symbols c.symbol_of.new.symbols c.self.inside.binding.values c.self.inside.values.entries c.symbol_of.ensures.kept c.self.invariant

pub returns-in_ok-add-in-Some : goal.returns-in_ok-add-in-Some
returns-in_ok-add-in-Some c =
    with_new c.self.inside.symbols c.symbol_of.new.symbols c.args.self.now c.self.inside.values.entries c.add.new.values.entries c.args.name.now c.in-Some.id _ (sym c.self.view_is)
    (is_missing _ c.is_constant.result c.is_constant.ensures c.if-is_constant.false) c.symbol_of.ensures.kept c.self.invariant.held c.in_ok-add-in-Some.ensures.ok
    (ap (option_map (symbol_at c.symbol_of.new.symbols)) (sym c.in-Some.is) ∙ c.in_ok-id.ensures.value
    ∙ ap (λ bound. symbol_in (value_of bound c.args.term.now)) (values_worth c.args.self.now c.self.inside.symbols c.self.inside.binding.values c.self.inside.values.entries (sym c.self.view_is) c.self.invariant))

pub returns-in-None : goal.returns-in-None
returns-in-None c =
    with_none c.args.self.now c.args.name.now _ _ (ap (option_map (symbol_at c.symbol_of.new.symbols)) (sym c.in-None.is) ∙ c.in_ok-id.ensures.value
    ∙ ap (λ bound. symbol_in (value_of bound c.args.term.now)) (values_worth c.args.self.now c.self.inside.symbols c.self.inside.binding.values c.self.inside.values.entries (sym c.self.view_is) c.self.invariant))
