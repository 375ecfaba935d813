use Rattle.std.proofs.Common.{◌∙◌, sym}
use Rattle.syntax_tree.proofs.Holding.{ok_along}
use Rattle.asp_parser.proofs.TableLemmas.{number_there}
use Rattle.asp_parser.proofs.constant_table.ConstantTable.number.Goals as goal

pub returns : goal.returns
returns c = ok_along c.number_of.result _ _ c.number_of.ensures (λ number h. h ∙ number_there c.args.self.now c.self.inside.symbols c.self.inside.values.entries c.args.name.now (sym c.self.view_is))
