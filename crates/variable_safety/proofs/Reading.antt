-- A theory literal as it is read, and the condition of an element.
use Rattle.std.proofs.Common.{◌≡◌, Bool, sym, ap, ◌∙◌}
use Rattle.syntax_tree.specs.declared.literal.Literal.{roll-Literal}
use Rattle.syntax_tree.specs.declared.literal.Literal.TheOpen.{Literal-F}
use Rattle.syntax_tree.specs.declared.literal.Literal.TheFolds.{fold-roll-Literal, fold-roll-TheoryElement}
use Rattle.syntax_tree.specs.declared.literal.Literal.TheViews.{out-TheoryElement, roll-out-TheoryElement}
use Rattle.syntax_tree.specs.declared.literal.Literal.TheVariants as l
use Rattle.syntax_tree.specs.declared.literal.TheoryAtom.{TheoryAtom}
use Rattle.syntax_tree.specs.declared.literal.TheoryElement.{TheoryElement}
use Rattle.variable_safety.specs.inner.Occurring.{element_read}
use Rattle.variable_safety.specs.inner.Binding.{plain_literals}
use Rattle.program_meaning.specs.Read.{ReadElement, ReadTheory, ReadLiteral, ReadTold, read_literal, read_theory, read_element, literal_read, theory_read}

pub told_read : (theory : TheoryAtom) (sign : Bool) → literal_read (l.Theory theory sign) ≡ ReadTold (theory_read theory) sign
unfolding roll-Literal denote.Hole.Carrier.roll
told_read theory sign = fold-roll-Literal ReadLiteral ReadTheory ReadElement read_literal read_theory read_element (Literal-F.Theory theory sign)

pub element_condition : (element : TheoryElement) → (element_read element).condition ≡ plain_literals element.condition
element_condition element =
    ap (λ (e : ReadElement). e.condition)
    (ap element_read (sym (roll-out-TheoryElement element)) ∙ fold-roll-TheoryElement ReadLiteral ReadTheory ReadElement read_literal read_theory read_element (out-TheoryElement element))
