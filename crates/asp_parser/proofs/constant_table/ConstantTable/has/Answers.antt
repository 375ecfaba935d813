use Rattle.std.proofs.Common.{◌∙◌, ap, sym, is_some}
use Rattle.std.specs.Str.{bytes_eq}
use Rattle.asp_parser.proofs.TableLemmas.{value_there}
use Rattle.asp_parser.proofs.constant_table.ConstantTable.has.Goals as goal

pub returns : goal.returns
returns c = c.is_constant.ensures ∙ value_there c.args.self.now c.self.inside.symbols c.self.inside.values.entries c.args.name.now (sym c.self.view_is)
