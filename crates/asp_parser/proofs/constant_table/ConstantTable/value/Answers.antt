use Rattle.std.proofs.Common.{◌∙◌, ap, sym}
use Rattle.std.specs.Option.{option_map}
use Rattle.std.specs.Str.{bytes_eq}
use Rattle.asp_parser.specs.Replacement.{term_of}
use Rattle.asp_parser.proofs.TableLemmas.{found_known, value_found, value_missing}
use Rattle.asp_parser.proofs.constant_table.ConstantTable.value.Goals as goal

pub term_of-requires : goal.term_of-requires
term_of-requires c = found_known _ (bytes_eq c.args.name.now) c.self.inside.values.entries c.in-Some.id c.self.invariant.held (sym c.id_of.ensures ∙ c.in-Some.is)

pub returns-in_ok-term_of-in-Some : goal.returns-in_ok-term_of-in-Some
returns-in_ok-term_of-in-Some c =
    value_found c.args.self.now c.self.inside.symbols c.self.inside.values.entries c.args.name.now c.in-Some.id _ (sym c.self.view_is) (sym c.id_of.ensures ∙ c.in-Some.is) c.in_ok-term_of-in-Some.ensures

pub returns-in-None : goal.returns-in-None
returns-in-None c =
    sym (ap (option_map term_of) (value_missing c.args.self.now c.self.inside.symbols c.self.inside.values.entries c.args.name.now (sym c.self.view_is) (sym c.id_of.ensures ∙ c.in-None.is)))
