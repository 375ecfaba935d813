use Rattle.std.proofs.Common.{◌≡◌, ◌<◌, length, Some, slice_get, sym, ◌∙◌, ap, refl, rules}
use Rattle.std.proofs.lemmas.Option.{slice_get_read}
use Rattle.inputs.proofs.StatementLemmas.{written-push, tree-push}
use Rattle.inputs.proofs.parsing.written.Goals as goal

pub loop-at-preserved : goal.loop-at-preserved
loop-at-preserved c =
    let below : c.loop-at.at < length c.args.texts.now = search rules in
    let here : slice_get c.args.texts.now c.loop-at.at ≡ Some c.items.result.now =
    slice_get_read c.args.texts.now (length c.args.texts.now) c.loop-at.at c.index-texts-at.result refl below c.index-texts-at.is ∙ ap Some (sym c.items.ensures) in
    record {
      written = written-push c.args.texts.now c.loop-at.at c.items.result.now c.loop-at.program c.add_statements.new.program c.in-Ok.parsed _
          c.loop-at.invariant.written here c.in-Ok.ensures.found c.in-Ok-add_statements.ensures.statements c.in-Ok-add_statements.ensures.files refl;
      tree = tree-push c.loop-at.program c.add_statements.new.program c.in-Ok.parsed _ c.loop-at.invariant.tree c.in-Ok.ensures.trees
          c.in-Ok-add_statements.ensures.statements c.in-Ok-add_statements.ensures.files;
    }
