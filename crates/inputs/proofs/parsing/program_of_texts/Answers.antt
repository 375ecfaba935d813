use Rattle.std.proofs.Common.{◌≡◌, ◌<◌, ℕ, length, map, Some, slice_get, subst, sym, ◌∙◌, ap, refl, rules}
use Rattle.std.proofs.lemmas.Option.{slice_get_read}
use Rattle.asp_parser.specs.Constants.{IsFirstBad}
use Rattle.inputs.specs.Texts.{HasFirstFault}
use Rattle.inputs.proofs.RefusalLemmas.{refusal-faulty, refusal-constant, file-below}
use Rattle.inputs.proofs.parsing.program_of_texts.Goals as goal

pub returns-in-Err-Fault-clause-refused : goal.returns-in-Err-Fault-clause-refused
returns-in-Err-Fault-clause-refused c =
    let has : HasFirstFault c.args.texts.now c.in-Err-Fault.at c.in-Err-Fault.fault = search rules in
    refusal-faulty (map (λ name. name.now) c.args.names.now) c.args.texts.now c.in-Err-Fault.at c.in-Err-Fault.fault c.name_at.result.now c.fault_line.result
    c.refused.result has c.name_at.ensures c.fault_line.ensures c.refused.ensures

pub name_at-requires-in-Err-BadConstant : goal.name_at-requires-in-Err-BadConstant
name_at-requires-in-Err-BadConstant c =
    let bad : IsFirstBad c.in-Ok.program.statements c.in-Ok.program.files c.in-Err-BadConstant.file c.in-Err-BadConstant.place = search rules in
    subst (λ (n : ℕ). c.in-Err-BadConstant.file < n) c.requires.named
    (file-below c.args.texts.now c.in-Ok.program c.in-Err-BadConstant.file c.in-Err-BadConstant.place c.in-Ok.ensures.written bad)

pub bounds-texts-at : goal.bounds-texts-at
bounds-texts-at c =
    let bad : IsFirstBad c.in-Ok.program.statements c.in-Ok.program.files c.in-Err-BadConstant.file c.in-Err-BadConstant.place = search rules in
    file-below c.args.texts.now c.in-Ok.program c.in-Err-BadConstant.file c.in-Err-BadConstant.place c.in-Ok.ensures.written bad

pub returns-in-Err-BadConstant-clause-refused : goal.returns-in-Err-BadConstant-clause-refused
returns-in-Err-BadConstant-clause-refused c =
    let bad : IsFirstBad c.in-Ok.program.statements c.in-Ok.program.files c.in-Err-BadConstant.file c.in-Err-BadConstant.place = search rules in
    let below : c.in-Err-BadConstant.file < length c.args.texts.now =
    file-below c.args.texts.now c.in-Ok.program c.in-Err-BadConstant.file c.in-Err-BadConstant.place c.in-Ok.ensures.written bad in
    let here : slice_get c.args.texts.now c.in-Err-BadConstant.file ≡ Some c.items.result.now =
    slice_get_read c.args.texts.now (length c.args.texts.now) c.in-Err-BadConstant.file c.index-texts-at.result refl below c.index-texts-at.is
    ∙ ap Some (sym c.items.ensures) in
    refusal-constant (map (λ name. name.now) c.args.names.now) c.args.texts.now c.in-Ok.program c.in-Err-BadConstant.file c.in-Err-BadConstant.place
    c.name_at-in-Err-BadConstant.result.now c.items.result.now c.constant_line.result c.refused-in-Err-BadConstant.result
    c.in-Ok.ensures.written bad c.name_at-in-Err-BadConstant.ensures here c.constant_line.ensures c.refused-in-Err-BadConstant.ensures
