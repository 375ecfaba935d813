use Rattle.std.proofs.Common.{◌∙◌, IsTrue, sym, subst, ap, if◌then◌else◌, Some, None}
use Rattle.syntax_tree.specs.Tree.{is_term}
use Rattle.syntax_tree.specs.Value.{value_of}
use Rattle.syntax_tree.proofs.Holding.{ok_along}
use Rattle.asp_parser.specs.Replacement.{value_at}
use Rattle.asp_parser.specs.Constants.{symbol_in, with_constant}
use Rattle.asp_parser.specs.ConstantTable.{worth_of}
use Rattle.asp_parser.proofs.VariableForms.{variables_stay}
use Rattle.asp_parser.proofs.Worths.{worth_as_variables}
use Rattle.asp_parser.proofs.constants.add_constant.Goals as goal

pub define-requires : goal.define-requires
define-requires c = subst (λ term. IsTrue (is_term term)) (sym c.in_ok-term.ensures) (variables_stay c.args.constants.now c.args.term.now c.requires.tree)

pub returns : goal.returns
returns c =
    let constants = c.args.constants.now in
    let same = ap (value_of (worth_of constants)) c.in_ok-term.ensures ∙ worth_as_variables constants c.requires.values c.args.term.now in
    ok_along c.define.result _ _ c.define.ensures
    (λ good h. sym (ap (λ worth. with_constant constants c.args.name.now (value_at constants c.args.name.now) (symbol_in worth)) same) ∙ h)
