-- Texts rewritten, before their rules are judged.
use Rattle.std.specs.Prelude.{◌≡◌, ℕ, List, IsTrue, Result, Ok, Err}
use Rattle.syntax_tree.specs.declared.statement.Program.{Program}
use Rattle.syntax_tree.specs.Statements.{is_program}
use Rattle.rewriting.specs.declared.program.RewrittenProgram.{RewrittenProgram}
use Rattle.refusals.specs.Sites.{AreRewritten}
use Rattle.fine_texts.specs.declared.fine.TextStop.{TextStop}
use Rattle.fine_texts.specs.declared.fine.TextStop.TheVariants as stop

pub record HasTrees (texts : List (List ℕ)) (program : RewrittenProgram) : Type 0 where
  pub old : Program
  pub are : AreRewritten texts program old
  pub tree : IsTrue (is_program old)

-- a refusal with the line that was made, where memory could be had for it
abbrev pub IsRefusedWith : {E : Type 0} → Result (List ℕ) E → TextStop → Type 0
IsRefusedWith (Ok line) (stop.Refused printed) = printed ≡ line
IsRefusedWith (Ok line) stop.Memory = ⊥
IsRefusedWith (Err fault) (stop.Refused printed) = ⊥
IsRefusedWith (Err fault) stop.Memory = Unit {0}
