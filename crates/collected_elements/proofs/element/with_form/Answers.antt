use Rattle.std.proofs.Common.{◌≡◌, ◌∙◌, inr, subst, sym, rules, FitsSigned, to_z, of_z}
use Rattle.std.specs.Int.{w32}
use Rattle.std.proofs.lemmas.Int.{to_z-of_z}
use Rattle.program_meaning.specs.Theory.{HasTuple}
use Rattle.program_meaning.specs.Said.{place_in}
use Rattle.collected_elements.proofs.ElementLemmas.{first_over_is, first_large_is, crooked_duration, clear, nothing_there, has_tuple}
use Rattle.collected_elements.proofs.element.with_form.Goals as goal

pub returns-in-None-clause-judged : goal.returns-in-None-clause-judged
returns-in-None-clause-judged c symbols kind bound element other first duration is_rest =
    crooked_duration symbols kind bound element c.args.duration c.args.rest (first_over_is kind other bound element.first ∙ first.1.settled) duration is_rest c.in-None.is

pub returns-in-None-rest-clause-judged : goal.returns-in-None-rest-clause-judged
returns-in-None-rest-clause-judged c symbols kind bound element other first duration is_rest =
    let settled = first_over_is kind other bound element.first ∙ first.1.settled in (
      clear symbols kind bound element c.args.duration c.args.rest settled duration is_rest first.0 c.in-Some.duration c.in-Some.is,
      nothing_there symbols kind bound element c.args.duration c.args.rest settled duration is_rest (inr other) (first_large_is kind other bound element.first ∙ first.1.small) c.in-None-rest.is other,
    )

pub returns-in-Some-rest-clause-judged : goal.returns-in-Some-rest-clause-judged
returns-in-Some-rest-clause-judged c symbols kind bound element other first duration is_rest =
    let n = c.in-Some.duration in
    let fits : FitsSigned w32 n = search rules in
    let same : to_z w32 (of_z w32 n) ≡ n = simp to_z-of_z in
    let settled = first_over_is kind other bound element.first ∙ first.1.settled in (
      clear symbols kind bound element c.args.duration c.args.rest settled duration is_rest first.0 n c.in-Some.is,
      first_large_is kind other bound element.first ∙ first.1.small,
      other,
      subst (λ m. HasTuple bound element (place_in symbols (record { linear = c.args.linear; duration = m; rest = c.in-Some-rest.rest }))) (sym same)
          (has_tuple symbols kind bound element c.args.duration c.args.rest settled duration is_rest c.args.linear n c.in-Some-rest.rest first.1 c.in-Some.is c.in-Some-rest.is),
    )
