use Rattle.std.proofs.Common.{◌<◌, length, sym, subst, ◌∙◌}
use Rattle.conflict_analysis.specs.Marked.{Board, IsBoard, place_of}
use Rattle.conflict_analysis.proofs.BoardLaws.{board_touch, board_marked}
use Rattle.conflict_analysis.proofs.marks.Marks.set.Goals as goal

pub invariant_of-self-in-Clear : goal.invariant_of-self-in-Clear
invariant_of-self-in-Clear c =
    let within : c.place-place.result < length c.self.inside.marks.items = subst (λ p. p < length c.self.inside.marks.items) (sym c.place-place.ensures.value) (subst (λ (v : Board). place_of v c.args.lit < length v.marks) (sym c.self.view_is) c.requires.1) in
    subst (IsBoard _) (sym c.in_ok-push-in-Clear.ensures.items) (board_touch c.self.inside.marks.items c.self.inside.touched.items c.place-place.result c.args.mark within c.self.invariant)

pub invariant_of-self-in_default : goal.invariant_of-self-in_default
invariant_of-self-in_default c =
    let within : c.place-place.result < length c.self.inside.marks.items = subst (λ p. p < length c.self.inside.marks.items) (sym c.place-place.ensures.value) (subst (λ (v : Board). place_of v c.args.lit < length v.marks) (sym c.self.view_is) c.requires.1) in
    board_marked c.self.inside.marks.items c.self.inside.touched.items c.place-place.result c.args.mark c.index.result.now within (λ e. c.in_default.not-Clear (c.index.ensures ∙ e)) c.self.invariant
