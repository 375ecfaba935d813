use Rattle.std.proofs.Common.{◌∙◌, sym, subst, List, map, string_bytes}
use Rattle.std.proofs.lemmas.Result.{IfOk-weaker, IfErr-weaker}
use Rattle.clap.specs.Walk.{Row}
use Rattle.clap.proofs.WalkLemmas.{IfOk-both}
use Rattle.command_words.specs.Forms.{options_of}
use Rattle.command_words.specs.Words.{pieces_of}
use Rattle.command_words.specs.Matches.{IsReadAs}
use Rattle.command_words.proofs.ReadLemmas.{taken, not_taken, not_formed, options_sub}
use Rattle.command_words.proofs.command.read_words.Goals as goal

pub returns-clause-read : goal.returns-clause-read
returns-clause-read c =
    let formed = sym c.have_form.ensures ∙ c.if-not-have_form.false in
    IfOk-weaker c.matches_of.result _ _
    (λ m h. subst (λ (rows : List Row). IsReadAs (pieces_of (options_of c.args.program) (map string_bytes c.args.words.now)) rows) (sym h.0)
    (taken (options_of c.args.program) (options_sub c.args.program) (map string_bytes c.args.words.now) formed h.1))
    (IfOk-both c.matches_of.result _ _ c.matches_of.ensures.rows c.matches_of.ensures.taken)

pub returns-clause-refused : goal.returns-clause-refused
returns-clause-refused c =
    IfErr-weaker c.matches_of.result _ _
    (λ e h usage. not_taken (options_of c.args.program) (options_sub c.args.program) (map string_bytes c.args.words.now) (h usage))
    c.matches_of.ensures.refused

pub returns-then-not-have_form-clause-refused : goal.returns-then-not-have_form-clause-refused
returns-then-not-have_form-clause-refused c usage =
    not_formed (options_of c.args.program) (options_sub c.args.program) (map string_bytes c.args.words.now) (sym c.have_form.ensures ∙ c.if-not-have_form.true)
