use Rattle.std.proofs.Common.{◌≡◌, ◌∙◌, ap, slice_get}
use Rattle.symbols.specs.inner.Layer.{symbols_of, shown}
use Rattle.symbols.specs.inner.Layers.{layers_of}
use Rattle.symbols.proofs.LayerLemmas.{slice_get-symbols_of}
use Rattle.symbols.proofs.OnceLemmas.{absent-symbol}
use Rattle.symbols.proofs.find.id_in.Goals as goal

pub returns-in-Some-clause-found : goal.returns-in-Some-clause-found
returns-in-Some-clause-found c =
    ap (slice_get (symbols_of (layers_of c.args.layers.now))) c.at.ensures
    ∙ slice_get-symbols_of (layers_of c.args.layers.now) c.in-Some.place (shown c.args.layer) c.requires.before c.in-Some.ensures.found

pub returns-in-None-clause-absent : goal.returns-in-None-clause-absent
returns-in-None-clause-absent c =
    absent-symbol (layers_of c.args.layers.now) (shown c.args.layer) c.requires.before c.requires.once c.requires.below c.in-None.ensures.absent
