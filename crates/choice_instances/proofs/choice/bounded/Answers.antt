use Rattle.std.proofs.Common.{◌≡◌, true, false, sym, subst}
use Rattle.symbols.proofs.TableLemmas.{IsFront-trans}
use Rattle.syntax_tree.proofs.Holding.{bound-front}
use Rattle.program_meaning.specs.Ground.{BoundAs}
use Rattle.program_meaning.specs.Instance.{bound_stands}
use Rattle.program_meaning.specs.Outside.{bound_over}
use Rattle.choice_instances.proofs.ItemLemmas.{items-front, items_known-front}
use Rattle.choice_instances.proofs.choice.bounded.Goals as goal

pub right_bound-requires-clause-stands : goal.right_bound-requires-clause-stands
right_bound-requires-clause-stands c =
    subst (λ b. bound_stands b c.args.choice.now.right ≡ true)
    (sym (bound-front c.args.symbols.now c.left_bound.new.symbols c.args.binding.now.values c.in-Ok.ensures.kept c.requires.binding)) c.requires.stands.high

pub right_bound-requires-clause-inside : goal.right_bound-requires-clause-inside
right_bound-requires-clause-inside c =
    subst (λ b. bound_over b c.args.choice.now.right ≡ false)
    (sym (bound-front c.args.symbols.now c.left_bound.new.symbols c.args.binding.now.values c.in-Ok.ensures.kept c.requires.binding)) c.requires.stands.high_inside

pub returns-in-Ok-right_bound-clause-items : goal.returns-in-Ok-right_bound-clause-items
returns-in-Ok-right_bound-clause-items c =
    items-front c.args.symbols.now c.right_bound.new.symbols c.args.items
    (IsFront-trans c.args.symbols.now c.left_bound.new.symbols c.right_bound.new.symbols c.in-Ok.ensures.kept c.in-Ok-right_bound.ensures.kept) c.requires.items

pub returns-in-Ok-right_bound-clause-high : goal.returns-in-Ok-right_bound-clause-high
returns-in-Ok-right_bound-clause-high c =
    subst (λ b. BoundAs (λ rel. rel) b c.args.choice.now.right c.in-Ok-right_bound.right)
    (bound-front c.args.symbols.now c.left_bound.new.symbols c.args.binding.now.values c.in-Ok.ensures.kept c.requires.binding) c.in-Ok-right_bound.ensures.bound

pub returns-in-Ok-right_bound-clause-known : goal.returns-in-Ok-right_bound-clause-known
returns-in-Ok-right_bound-clause-known c =
    items_known-front c.args.symbols.now c.right_bound.new.symbols c.args.items
    (IsFront-trans c.args.symbols.now c.left_bound.new.symbols c.right_bound.new.symbols c.in-Ok.ensures.kept c.in-Ok-right_bound.ensures.kept) c.requires.items
