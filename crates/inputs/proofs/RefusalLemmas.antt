-- The lines of refusals.
use Rattle.std.proofs.Common.{◌≡◌, ℕ, ◌+◌, ◌<◌, inl, inr, List, length, take, min, Some, slice_get, IfOk, codes, sym, ◌∙◌, ap, arith}
use Rattle.std.specs.List.{count_by, suffix_len}
use Rattle.std.specs.declared.result.Result.{Result}
use Rattle.std.specs.declared.result.Result.TheVariants.{Ok, Err}
use Rattle.std.proofs.lemmas.List.{take_min}
use Rattle.lexer.specs.Bytes.{is_line_feed}
use Rattle.lexer.specs.Places.{is_in_line, line_of, column_of}
use Rattle.syntax_tree.specs.declared.statement.Program.{Program}
use Rattle.asp_parser.specs.declared.fault.TextFault.{TextFault}
use Rattle.asp_parser.specs.Constants.{IsFirstBad}
use Rattle.inputs.specs.declared.parsing.ProgramStop.{ProgramStop}
use Rattle.inputs.specs.declared.parsing.ProgramStop.TheVariants.{Refused, Memory}
use Rattle.inputs.specs.Texts.{line_at, cause_text, constant_line, IsWritten, HasFirstFault}
use Rattle.inputs.specs.Stops.{IsRefusal}
use Rattle.inputs.specs.inner.Written.{IsRefusalWith}
use Rattle.inputs.proofs.StatementLemmas.{length-statements, numbers-below}

-- a place behind the text is its end
pub constant-from : {E : Type 0} (r : Result (List ℕ) E) (name text : List ℕ) (place at line column : ℕ) → at ≡ min place (length text)
    → line ≡ line_of text at → column ≡ column_of text at → IfOk r (λ printed. printed ≡ line_at name line column (codes "constant not allowed"))
    → IfOk r (λ printed. printed ≡ constant_line name text place)
constant-from (Err e) name text place at line column is lines columns has = tt
constant-from (Ok printed) name text place at line column is lines columns has =
    let same : take at text ≡ take place text = ap (λ k. take k text) is ∙ take_min place text in
    let l : line ≡ line_of text place = lines ∙ ap (λ t. count_by is_line_feed t + 1) same in
    let c : column ≡ column_of text place = columns ∙ ap (λ t. suffix_len is_in_line t + 1) same in
    has ∙ (λ i. line_at name (l i) (c i) (codes "constant not allowed"))

pub refusal-faulty : {E : Type 0} (names texts : List (List ℕ)) (at : ℕ) (fault : TextFault) (name : List ℕ) (r : Result (List ℕ) E) (stop : ProgramStop)
    → HasFirstFault texts at fault → slice_get names at ≡ Some name
    → IfOk r (λ printed. printed ≡ line_at name fault.line fault.column (cause_text fault.cause)) → IsRefusalWith r stop → IsRefusal names texts stop
refusal-faulty names texts at fault name (Ok line) (Refused printed) has named made with =
    inl (record { at = at; fault = fault; has = has; name = name; named = named; line = with ∙ made })
refusal-faulty names texts at fault name (Ok line) Memory has named made with = tt
refusal-faulty names texts at fault name (Err e) (Refused printed) has named made with = absurd with
refusal-faulty names texts at fault name (Err e) Memory has named made with = tt

pub refusal-constant : {E : Type 0} (names texts : List (List ℕ)) (program : Program) (file place : ℕ) (name text : List ℕ) (r : Result (List ℕ) E)
    (stop : ProgramStop) → IsWritten texts program → IsFirstBad program.statements program.files file place
    → slice_get names file ≡ Some name → slice_get texts file ≡ Some text
    → IfOk r (λ printed. printed ≡ constant_line name text place) → IsRefusalWith r stop → IsRefusal names texts stop
refusal-constant names texts program file place name text (Ok line) (Refused printed) has bad named here made with =
    inr (record { written = program; has = has; file = file; place = place; bad = bad; name = name; text = text; named = named; here = here; line = with ∙ made })
refusal-constant names texts program file place name text (Ok line) Memory has bad named here made with = tt
refusal-constant names texts program file place name text (Err e) (Refused printed) has bad named here made with = absurd with
refusal-constant names texts program file place name text (Err e) Memory has bad named here made with = tt

-- the number of a bad constant's text is that of a text
pub file-below : (texts : List (List ℕ)) (program : Program) (file place : ℕ) → IsWritten texts program
    → IsFirstBad program.statements program.files file place → file < length texts
file-below texts program file place written bad =
    let below : file < 0 + length written.parsed =
    numbers-below 0 written.parsed bad.before file (ap (λ l. slice_get l bad.before) (sym written.files) ∙ bad.text) in
    let same : length texts ≡ length written.parsed = length-statements texts written.parsed written.are in
    omega (arith, below, same)
