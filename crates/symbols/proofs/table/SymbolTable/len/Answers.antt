use Rattle.std.proofs.Common.{sym, ap, ◌∙◌, length, arith}
use Rattle.symbols.specs.inner.Layers.{layers_of}
use Rattle.symbols.proofs.LayerLemmas.{length-symbols_of, few-layers}
use Rattle.symbols.proofs.table.SymbolTable.len.Goals as goal

pub returns-clause-length : goal.returns-clause-length
returns-clause-length c = c.len.ensures ∙ sym (length-symbols_of (layers_of c.self.inside.layers)) ∙ ap length c.self.view_is

pub returns-clause-few : goal.returns-clause-few
returns-clause-few c = omega (arith, c.len.ensures, few-layers (layers_of c.self.inside.layers) c.self.inside.depths.items c.self.invariant.1)
