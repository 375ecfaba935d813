use Rattle.std.proofs.Common.{◌∙◌, ap, map}
use Rattle.load_meaning.specs.Lines.{before_true}
use Rattle.refusals.specs.inner.Rows.{is_rule}
use Rattle.refusals.proofs.SiteLemmas.{row_of, site_of}
use Rattle.refusals.proofs.site.rule_site.Goals as goal

pub site_at-requires-clause-row : goal.site_at-requires-clause-row
site_at-requires-clause-row c =
    let here = c.requires.here in
    row_of c.args.texts.now c.args.program.now here.old here.are c.args.place here.rule here.here c.in-Ok.at
    (c.in-Ok.ensures ∙ ap (λ l. before_true c.args.place (map is_rule l)) c.items.ensures)

pub returns-in-Ok : goal.returns-in-Ok
returns-in-Ok c = λ old rule are here.
    site_of c.args.texts.now c.args.program.now old are c.args.place rule here c.in-Ok.at
    (c.in-Ok.ensures ∙ ap (λ l. before_true c.args.place (map is_rule l)) c.items.ensures)
    (map (λ name. name.now) c.args.names.now) c.site_at.result c.site_at.ensures
