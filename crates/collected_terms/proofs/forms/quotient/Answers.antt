use Rattle.std.proofs.Common.{◌≡◌, ◌∙◌, false, sym, rules, int_div, FitsSigned, w64, to_z, of_z}
use Rattle.std.proofs.lemmas.Int.{to_z-of_z}
use Rattle.program_meaning.specs.Said.{linear_in}
use Rattle.syntax_tree.specs.declared.term.Op.TheVariants as op
use Rattle.collected_terms.specs.inner.Merging.{is_crooked_by}
use Rattle.collected_terms.proofs.Words.{small_same}
use Rattle.collected_terms.proofs.Shapes.{number_found}
use Rattle.collected_terms.proofs.forms.quotient.Goals as goal

pub returns-clause-found : goal.returns-clause-found
returns-clause-found c =
    let symbols = c.args.symbols.now in
    let n = c.quotient.result in
    let fits : FitsSigned w64 n = search rules in
    let same : to_z w64 (of_z w64 n) ≡ n = simp to_z-of_z in
    let x = small_same c.args.a.now.constant c.requires.a.constant in
    let y = small_same c.args.b.now.constant c.requires.b.constant in
    let straight : is_crooked_by op.Divide (linear_in symbols c.args.a.now) (linear_in symbols c.args.b.now) ≡ false = sym (c.is_crooked.ensures symbols) ∙ c.if-is_crooked.false in
    number_found symbols c.number.result (to_z w64 (of_z w64 n)) (int_div c.args.a.now.constant c.args.b.now.constant)
    (is_crooked_by op.Divide (linear_in symbols c.args.a.now) (linear_in symbols c.args.b.now)) straight
    (same ∙ c.quotient.ensures ∙ (λ i. int_div (x i) (y i))) (c.number.ensures.found symbols)

pub returns-clause-known : goal.returns-clause-known
returns-clause-known c = c.number.ensures.known c.args.symbols.now
