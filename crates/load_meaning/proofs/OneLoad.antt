-- Texts load to one thing at most.
use Rattle.std.proofs.Common.{◌≡◌, inl, inr, ◌⊎◌, ℕ, List, sym, ap, ◌∙◌, subst}
use Rattle.symbols.specs.declared.ends.Ends.{Ends}
use Rattle.syntax_tree.specs.declared.statement.Program.{Program}
use Rattle.program_meaning.specs.Canonical.{GroundView}
use Rattle.safety_meaning.specs.Program.{program_of}
use Rattle.safety_meaning.specs.Failures.{IsFirstFailure}
use Rattle.safety_meaning.proofs.Failing.{one_failure_law, fine_law}
use Rattle.inputs.specs.Texts.{AreRefused}
use Rattle.load_meaning.specs.Grounding.{Grounded, OverLimit, OutsideAt, TooManyVariables, ObjectiveTooLarge, Canonical, GroundsTo}
use Rattle.load_meaning.specs.Lines.{IsFailureLine, IsNumberLine}
use Rattle.load_meaning.specs.Load.{Loaded, TextLine, OverCount, NumberLine, LoadedAs, IsFailing, GroundTo, LoadsTo}
use Rattle.load_meaning.specs.Laws.{OneProgramLaw, OneLoadLaw}
use Rattle.load_meaning.proofs.OneGrounding.{one_ground_law}
use Rattle.inputs.proofs.OneProgram.{one_program, none_refused, one_line}
use Rattle.load_meaning.proofs.OneLines.{one_failure_line, one_number_line}

pub one_program_law : OneProgramLaw
one_program_law texts one other a c =
    a.2 ∙ ap (λ (program : Program). program_of program.statements) (one_program texts a.0 c.0 a.1 c.1) ∙ sym c.2

-- of two results one is the limit or a program, and the other has a line
no_line : (names texts : List (List ℕ)) (program : Program) (grounded : Grounded) (printed : List ℕ) → IsNumberLine names texts program grounded printed → grounded ≡ OverLimit → ⊥
no_line names texts program OverLimit printed h e = h
no_line names texts program (OutsideAt key cause) printed h e = cc
no_line names texts program TooManyVariables printed h e = cc
no_line names texts program ObjectiveTooLarge printed h e = cc
no_line names texts program (Canonical view) printed h e = h

no_line_of : (names texts : List (List ℕ)) (program : Program) (grounded : Grounded) (printed : List ℕ) (view : GroundView) → IsNumberLine names texts program grounded printed
    → grounded ≡ Canonical view → ⊥
no_line_of names texts program OverLimit printed view h e = h
no_line_of names texts program (OutsideAt key cause) printed view h e = cc
no_line_of names texts program TooManyVariables printed view h e = cc
no_line_of names texts program ObjectiveTooLarge printed view h e = cc
no_line_of names texts program (Canonical other) printed view h e = h

not_over : (view : GroundView) → OverLimit ≡ Canonical view → ⊥
not_over view e = cc

same_view : (view other : GroundView) → Canonical view ≡ Canonical other → view ≡ other
same_view view other e = cc

module _ (names texts : List (List ℕ)) (ends : Ends) (limit : ℕ) where
  -- what grounding comes to is one
  one_result : (program other : Program) (one more : Grounded) → GroundTo texts ends limit program one → GroundTo texts ends limit other more → one ≡ more
  one_result program other one more a c =
      one_ground_law (program_of other.statements) ends limit one more
      (subst (λ (p : Program). GroundsTo (program_of p.statements) ends limit one) (one_program texts program other a.has c.has) a.grounds) c.grounds

  -- a text that is refused grounds to nothing
  none_grounds : (printed : List ℕ) (program : Program) (grounded : Grounded) → AreRefused names texts printed ⊎ IsFailing names texts printed → GroundTo texts ends limit program grounded → ⊥
  none_grounds printed program grounded (inl refused) c = none_refused names texts printed program refused c.has
  none_grounds printed program grounded (inr failing) c =
      fine_law program.statements failing.place failing.failure
      (subst (λ (p : Program). IsFirstFailure p.statements failing.place failing.failure) (one_program texts failing.program program failing.has c.has) failing.first) c.fine

  one_failing : (line other : List ℕ) → IsFailing names texts line → IsFailing names texts other → line ≡ other
  one_failing line other a c =
      let program = one_program texts a.program c.program a.has c.has in
      let first = subst (λ (p : Program). IsFirstFailure p.statements a.place a.failure) program a.first in
      let same = one_failure_law c.program.statements a.place c.place a.failure c.failure first c.first in
      let moved = subst (λ p. IsFailureLine names texts c.program p a.failure line) same.0
      (subst (λ (p : Program). IsFailureLine names texts p a.place a.failure line) program a.line) in
      one_failure_line names texts c.program c.place c.failure line other
      (subst (λ f. IsFailureLine names texts c.program c.place f line) same.1 moved) c.line

  one_text_line : (line other : List ℕ) → AreRefused names texts line ⊎ IsFailing names texts line → AreRefused names texts other ⊎ IsFailing names texts other → line ≡ other
  one_text_line line other (inl a) (inl c) = one_line names texts line other a c
  one_text_line line other (inl a) (inr c) = absurd (none_refused names texts line c.program a c.has)
  one_text_line line other (inr a) (inl c) = absurd (none_refused names texts other a.program c a.has)
  one_text_line line other (inr a) (inr c) = one_failing line other a c

  one_printed : (line other : List ℕ) (program more : Program) (grounded result : Grounded) → GroundTo texts ends limit program grounded → IsNumberLine names texts program grounded line
      → GroundTo texts ends limit more result → IsNumberLine names texts more result other → line ≡ other
  one_printed line other program more grounded result a l c m =
      let same = one_program texts program more a.has c.has in
      let results = one_result program more grounded result a c in
      one_number_line names texts more result line other
      (subst (λ g. IsNumberLine names texts more g line) results (subst (λ (p : Program). IsNumberLine names texts p grounded line) same l)) m

  one_loaded : (one other : Loaded) → LoadsTo names texts ends limit one → LoadsTo names texts ends limit other → one ≡ other
  one_loaded (TextLine line) (TextLine other) a c = ap TextLine (one_text_line line other a c)
  one_loaded (TextLine line) (OverCount count) a c = absurd (none_grounds line c.0.0 OverLimit a c.0.1)
  one_loaded (TextLine line) (NumberLine other) a c = absurd (none_grounds line c.0 c.1 a c.2)
  one_loaded (TextLine line) (LoadedAs view) a c = absurd (none_grounds line c.0 (Canonical view) a c.1)
  one_loaded (OverCount count) (TextLine other) a c = absurd (none_grounds other a.0.0 OverLimit c a.0.1)
  one_loaded (OverCount count) (OverCount other) a c = ap OverCount (a.1 ∙ sym c.1)
  one_loaded (OverCount count) (NumberLine other) a c = absurd (no_line names texts c.0 c.1 other c.3 (one_result c.0 a.0.0 c.1 OverLimit c.2 a.0.1))
  one_loaded (OverCount count) (LoadedAs view) a c = absurd (not_over view (one_result a.0.0 c.0 OverLimit (Canonical view) a.0.1 c.1))
  one_loaded (NumberLine line) (TextLine other) a c = absurd (none_grounds other a.0 a.1 c a.2)
  one_loaded (NumberLine line) (OverCount other) a c = absurd (no_line names texts a.0 a.1 line a.3 (one_result a.0 c.0.0 a.1 OverLimit a.2 c.0.1))
  one_loaded (NumberLine line) (NumberLine other) a c = ap NumberLine (one_printed line other a.0 c.0 a.1 c.1 a.2 a.3 c.2 c.3)
  one_loaded (NumberLine line) (LoadedAs view) a c = absurd (no_line_of names texts a.0 a.1 line view a.3 (one_result a.0 c.0 a.1 (Canonical view) a.2 c.1))
  one_loaded (LoadedAs view) (TextLine other) a c = absurd (none_grounds other a.0 (Canonical view) c a.1)
  one_loaded (LoadedAs view) (OverCount other) a c = absurd (not_over view (one_result c.0.0 a.0 OverLimit (Canonical view) c.0.1 a.1))
  one_loaded (LoadedAs view) (NumberLine other) a c = absurd (no_line_of names texts c.0 c.1 other view c.3 (one_result c.0 a.0 c.1 (Canonical view) c.2 a.1))
  one_loaded (LoadedAs view) (LoadedAs other) a c = ap LoadedAs (same_view view other (one_result a.0 c.0 (Canonical view) (Canonical other) a.1 c.1))

pub one_load_law : OneLoadLaw
one_load_law names texts ends limit one other a c = one_loaded names texts ends limit one other a c
