use Rattle.std.proofs.Common.{◌≡◌, ◌∙◌, [], ◌∷◌, ◌++◌, None, ap, sym, subst}
use Rattle.std.specs.Map.{lookup}
use Rattle.std.specs.Str.{bytes_eq}
use Rattle.indexmap.proofs.CallerLemmas.{insert_entry-new}
use Rattle.asp_parser.proofs.constant_table.insert.Goals as goal

pub returns-clause-ok : goal.returns-clause-ok
returns-clause-ok c =
    let same : c.in_ok-name.name ≡ c.args.name.now = c.in_ok-name.ensures ∙ c.items.ensures in
    c.in_ok-insert.ensures.entries
    ∙ insert_entry-new bytes_eq c.args.values.now c.in_ok-name.name c.args.id (subst (λ k. lookup (bytes_eq k) c.args.values.now.entries ≡ None) (sym same) c.requires)
    ∙ ap (λ n. c.args.values.now.entries ++ (n, c.args.id) ∷ []) same
