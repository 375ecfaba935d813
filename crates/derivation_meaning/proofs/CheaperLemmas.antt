-- Reasons under a smaller cost.
use Rattle.std.proofs.Common.{◌≡◌, ℕ, zero, suc, true, Bool, ◌&&◌, ℤ, int_le, int_lt, List, Option, None, Some, refl, arith, true≢false, sym}
use Rattle.std.specs.List.{list_all}
use Rattle.std.proofs.lemmas.Bool.{and_from}
use Rattle.std.proofs.lemmas.Bool.Decides.{nat_tests}
use Rattle.std.proofs.lemmas.Int.{ints}
use Rattle.literals.specs.declared.lit.Lit.{Lit}
use Rattle.literals.specs.declared.reason.Step.{Step}
use Rattle.literals.specs.declared.reason.Step.TheVariants.{Sum, Distinct, Window, Pair, Loop, Hole}
use Rattle.ground_model.specs.declared.program.GroundProgram.{GroundProgram}
use Rattle.ground_model.proofs.Bools.{and_elim}
use Rattle.linear_normal.specs.declared.numbered.Numbered.{Numbered}
use Rattle.linear_normal.specs.Bounds.{bounds_named, least_value}
use Rattle.linear_normal.specs.Steps.{is_named, is_shown, is_costly}
use Rattle.derivation_meaning.specs.Lines.{improves}
use Rattle.derivation_meaning.specs.Laws.{CheaperLaw}

costly : (program : GroundProgram) (numbered : Numbered) (before : Option ℤ) (cost : ℤ) (lits : List Lit) → improves before cost ≡ true
    → is_costly program.ends lits numbered before ≡ true → is_costly program.ends lits numbered (Some cost) ≡ true
costly program numbered None cost lits smaller e = absurd (true≢false (sym e))
costly program numbered (Some last) cost lits smaller e = below last cost (least_value (bounds_named program.ends lits) numbered.objective) smaller e
  where
    below : (last cost least : ℤ) → int_lt cost last ≡ true → int_le last least ≡ true → int_le cost least ≡ true
    below last cost least p q = grind (arith, nat_tests, ints, p, q)

shown : (program : GroundProgram) (numbered : Numbered) (before : Option ℤ) (cost : ℤ) (lits : List Lit) (by : Step) → improves before cost ≡ true
    → is_shown program numbered before lits by ≡ true → is_shown program numbered (Some cost) lits by ≡ true
shown program numbered before cost lits (Sum zero) smaller e = costly program numbered before cost lits smaller e
shown program numbered before cost lits (Sum (suc n)) smaller e = e
shown program numbered before cost lits (Distinct n a b) smaller e = e
shown program numbered before cost lits (Window n a b) smaller e = e
shown program numbered before cost lits (Pair n i j) smaller e = e
shown program numbered before cost lits (Loop set) smaller e = e
shown program numbered before cost lits (Hole zero) smaller e = e
shown program numbered before cost lits (Hole (suc n)) smaller e = e

pub cheaper_law : CheaperLaw
cheaper_law program numbered before cost lits by smaller e =
    let p = and_elim (list_all (is_named program numbered) lits) (is_shown program numbered before lits by) e in
    and_from (list_all (is_named program numbered) lits) (is_shown program numbered (Some cost) lits by) p.0 (shown program numbered before cost lits by smaller p.1)
