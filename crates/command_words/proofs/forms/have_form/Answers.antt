use Rattle.std.proofs.Common.{◌≡◌, ◌∙◌, ◌+◌, List, sym, ap, map, drop, None, Some, Option, Global, String, string_bytes, arith}
use Rattle.command_words.specs.Forms.{options_of, after_word, forms_from}
use Rattle.command_words.specs.declared.forms.Expected.{Expected}
use Rattle.command_words.proofs.FormLemmas.{pieces-forms, forms-next, drop_end}
use Rattle.command_words.proofs.forms.have_form.Goals as goal

pub loop-word-init : goal.loop-word-init
loop-word-init c = sym (pieces-forms (options_of c.args.program) (map string_bytes c.args.words.now) None)

pub loop-word-preserved : goal.loop-word-preserved
loop-word-preserved c =
    let after : after_word (options_of c.args.program) c.loop-word.expected (string_bytes c.word-item.result) ≡ Some c.in-Some.next =
    ap (after_word (options_of c.args.program) c.loop-word.expected) (sym c.as_str.ensures.value) ∙ sym c.after_word.ensures ∙ c.in-Some.is in
    ap (λ (e : Option Expected). forms_from (options_of c.args.program) e (map string_bytes (drop (c.loop-word.word-index + 1) c.args.words.now))) (sym after)
    ∙ sym (forms-next (options_of c.args.program) string_bytes c.loop-word.expected c.args.words.now c.loop-word.word-index c.word-item.result (omega arith) c.word-item.is)
    ∙ c.loop-word.invariant

pub returns-in-None : goal.returns-in-None
returns-in-None c =
    let after : after_word (options_of c.args.program) c.loop-word.expected (string_bytes c.word-item.result) ≡ None =
    ap (after_word (options_of c.args.program) c.loop-word.expected) (sym c.as_str.ensures.value) ∙ sym c.after_word.ensures ∙ c.in-None.is in
    ap (λ (e : Option Expected). forms_from (options_of c.args.program) e (map string_bytes (drop (c.loop-word.word-index + 1) c.args.words.now))) (sym after)
    ∙ sym (forms-next (options_of c.args.program) string_bytes c.loop-word.expected c.args.words.now c.loop-word.word-index c.word-item.result (omega arith) c.word-item.is)
    ∙ c.loop-word.invariant

pub returns : goal.returns
returns c =
    c.may_end.ensures
    ∙ sym (ap (λ (words : List (String Global)). forms_from (options_of c.args.program) (Some c.loop-word.expected) (map string_bytes words)) (drop_end c.args.words.now c.loop-word.word-index c.loop-word-test.false))
    ∙ c.loop-word.invariant
