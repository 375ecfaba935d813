use Rattle.std.proofs.Common.{◌≡◌, drop}
use Rattle.std.specs.List.{list_all}
use Rattle.ground_model.specs.Sound.{is_sound_literal}
use Rattle.ground_parts.specs.inner.Totals.{IsClear}
use Rattle.ground_parts.proofs.rules.is_sound_body.Given as goal

abbrev pub invariant-loop-literal : goal.invariant-loop-literal
invariant-loop-literal l = record {
  so_far : list_all (is_sound_literal l.sizes.symbols l.sizes.atoms l.sizes.variables) (drop l.literal-index l.body) ≡ list_all (is_sound_literal l.sizes.symbols l.sizes.atoms l.sizes.variables) l.body;
  clear : IsClear l.sizes.variables l.scratch;
}
