use Rattle.std.proofs.Common.{◌≡◌, ◌∙◌, Some, sym, rules, FitsSigned, to_z, of_z}
use Rattle.std.specs.Int.{w32}
use Rattle.std.proofs.lemmas.Int.{to_z-of_z}
use Rattle.collected_elements.proofs.ElementLemmas.{range_crooked, range_nothing, range_found}
use Rattle.collected_elements.proofs.element.as_range.Goals as goal

pub returns-in-None-clause-judged : goal.returns-in-None-clause-judged
returns-in-None-clause-judged c symbols bound element rest span duration is_rest =
    range_crooked symbols bound element c.args.span c.args.duration rest span duration is_rest c.in-None.is

pub returns-in-None-span-clause-judged : goal.returns-in-None-span-clause-judged
returns-in-None-span-clause-judged c symbols bound element rest span duration is_rest =
    range_nothing symbols bound element c.args.span c.args.duration rest span duration is_rest c.in-Some.field-0 c.in-Some.is c.in-None-span.is

pub returns-in-Some-span-clause-judged : goal.returns-in-Some-span-clause-judged
returns-in-Some-span-clause-judged c symbols bound element rest span duration is_rest =
    let low = c.in-Some-span.range.0 in
    let high = c.in-Some-span.range.1 in
    let fits_low : FitsSigned w32 low = search rules in
    let fits_high : FitsSigned w32 high = search rules in
    let same_low : to_z w32 (of_z w32 low) ≡ low = simp to_z-of_z in
    let same_high : to_z w32 (of_z w32 high) ≡ high = simp to_z-of_z in
    range_found symbols bound element c.args.span c.args.duration rest span duration is_rest c.in-Some.field-0 (to_z w32 (of_z w32 low)) (to_z w32 (of_z w32 high)) c.in-Some.is
    (c.in-Some-span.is ∙ (λ i. Some (sym same_low i, sym same_high i)))
