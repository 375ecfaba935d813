use Rattle.std.proofs.Common.{◌∙◌, ◌++◌, [], ◌∷◌, map, take, sym, ap}
use Rattle.std.proofs.lemmas.List.{take_more}
use Rattle.symbols.proofs.TableLemmas.{IsFront-trans}
use Rattle.syntax_tree.specs.Outcome.{bound_in}
use Rattle.syntax_tree.proofs.Holding.{bound-front, bound_known-front}
use Rattle.symbol_rules.specs.Reading.{literal_in}
use Rattle.instance_bodies.proofs.AddLemmas.{atoms_in, adds_more}
use Rattle.instance_bodies.proofs.literals.add_literals.Goals as goal

pub add_literal-requires-clause-binding : goal.add_literal-requires-clause-binding
add_literal-requires-clause-binding c = bound_known-front c.args.symbols.now c.loop-place.symbols c.args.binding.now.values c.loop-place.invariant.kept c.requires.binding

pub loop-place-preserved : goal.loop-place-preserved
loop-place-preserved c =
    let old = c.args.symbols.now in
    let now = c.loop-place.symbols in
    let values = c.args.binding.now.values in
    let literal = c.index-literals-place.result in
    let bound = bound-front old now values c.loop-place.invariant.kept c.requires.binding in
    record {
      adds =
          adds_more (bound_in old values) c.args.literals.now c.loop-place.place literal (map (literal_in old) c.args.found.now) (map (literal_in now) c.loop-place.found)
          (map (literal_in c.add_literal.new.symbols) c.add_literal.new.found)
          (take_more c.args.literals.now c.loop-place.place literal c.loop-place-test.true ∙ ap (λ a. take c.loop-place.place c.args.literals.now ++ a ∷ []) (sym c.index-literals-place.is))
          c.loop-place.invariant.adds
          (c.in-Ok.ensures.adds ∙ ap (λ b. map (literal_in now) c.loop-place.found ++ atoms_in b literal) bound);
      known = c.in-Ok.ensures.known;
      kept = IsFront-trans old now c.add_literal.new.symbols c.loop-place.invariant.kept c.in-Ok.ensures.kept;
    }
