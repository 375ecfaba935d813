use Rattle.std.proofs.Common.{◌≡◌, ◌∙◌, ap, sym, subst, slice_index_or}
use Rattle.std.specs.Option.{unwrap_or}
use Rattle.asp_parser.specs.Replacement as spec
use Rattle.asp_parser.specs.ConstantTable.{IsSetBy}
use Rattle.asp_parser.proofs.Places.{set_by, kept_by}
use Rattle.asp_parser.proofs.constants.replace_at.Goals as goal

pub returns-in-Some : goal.returns-in-Some
returns-in-Some c =
    subst (IsSetBy (spec.replaced_statement c.args.constants.now) c.args.statements.now c.args.at) (sym c.set.ensures)
    (set_by (spec.replaced_statement c.args.constants.now) c.args.statements.now c.args.at c.index-items-at.result c.in-Some.new
    (c.index-items-at.is ∙ ap (λ xs. slice_index_or xs c.args.at c.index-items-at.result) c.items.ensures) c.requires
    (ap (λ o. unwrap_or o c.index-items-at.result) (sym c.in-Some.is) ∙ c.in_ok-new.ensures))

pub returns-in-None : goal.returns-in-None
returns-in-None c =
    kept_by (spec.replaced_statement c.args.constants.now) c.args.statements.now c.args.at c.index-items-at.result
    (c.index-items-at.is ∙ ap (λ xs. slice_index_or xs c.args.at c.index-items-at.result) c.items.ensures) c.requires
    (ap (λ o. unwrap_or o c.index-items-at.result) (sym c.in-None.is) ∙ c.in_ok-new.ensures)
