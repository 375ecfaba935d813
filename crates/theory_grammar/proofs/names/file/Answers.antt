use Rattle.std.proofs.Common.{◌≡◌, ◌∙◌, ◌++◌, ◌∷◌, [], false, is_some, if◌then◌else◌, ap, sym, subst, None}
use Rattle.std.specs.Map.{lookup}
use Rattle.std.specs.Str.{bytes_eq}
use Rattle.indexmap.proofs.CallerLemmas.{insert_entry-new}
use Rattle.theory_grammar.proofs.NameNumbers.{not_there}
use Rattle.theory_grammar.proofs.names.file.Goals as goal

pub returns-clause-ok : goal.returns-clause-ok
returns-clause-ok c =
    let entries = c.args.numbers.now.entries in
    let name = c.args.name.now in
    let same : c.in_ok-name.name ≡ name = c.in_ok-name.ensures ∙ c.items.ensures in
    let absent : is_some (lookup (bytes_eq name) entries) ≡ false = sym c.contains_key.ensures ∙ c.if-contains_key.false in
    c.in_ok-insert.ensures.entries
    ∙ insert_entry-new bytes_eq c.args.numbers.now c.in_ok-name.name c.args.number (subst (λ k. lookup (bytes_eq k) entries ≡ None) (sym same) (not_there (lookup (bytes_eq name) entries) absent))
    ∙ ap (λ n. entries ++ (n, c.args.number) ∷ []) same
    ∙ sym (ap (λ b. if b then entries else entries ++ (name, c.args.number) ∷ []) absent)
