use Rattle.std.proofs.Common.{List, sym, subst}
use Rattle.nogood_store.specs.declared.watching.Look.{Look}
use Rattle.nogood_store.specs.Holding.{seen_of, IsFront}
use Rattle.nogood_store.specs.inner.Watching.{looks_of, Suits}
use Rattle.nogood_store.proofs.Ending.{left_stored, left_working, working_start, suits_kept, started}
use Rattle.nogood_store.proofs.watching.prepare.Goals as goal

pub returns-in_err-suit-clause-left : goal.returns-in_err-suit-clause-left
returns-in_err-suit-clause-left c = left_stored c.args.slots.now c.suit.new.work (c.in_err-suit.ensures.stored c.args.slots.now c.requires.stored)

pub returns-in_err-enlist-clause-left : goal.returns-in_err-enlist-clause-left
returns-in_err-enlist-clause-left c = left_stored c.args.slots.now c.enlist.new.work c.in_err-enlist.ensures.stored

pub returns-in_err-enlist-clause-front : goal.returns-in_err-enlist-clause-front
returns-in_err-enlist-clause-front c = subst (λ (ls : List Look). IsFront (looks_of ls) (seen_of c.args.trail.now.entries)) (sym c.in_err-enlist.ensures.same.looked) (c.in_ok-suit.ensures.front (seen_of c.args.trail.now.entries) c.requires.front)

pub returns-clause-ok : goal.returns-clause-ok
returns-clause-ok c =
    working_start c.args.slots.now c.enlist.new.work _ c.args.trail.now c.in_ok-enlist.ensures.stored (suits_kept c.suit.new.work c.enlist.new.work c.args.trail.now.shape (subst (Suits c.suit.new.work) c.shape-shape.ensures.value c.in_ok-suit.ensures.suits) c.in_ok-enlist.ensures.same) c.in_ok-enlist.ensures.pairs c.requires.named c.level-work.ensures.assignment
    (subst (λ (ls : List Look). IsFront (looks_of ls) (seen_of c.args.trail.now.entries)) (sym c.in_ok-enlist.ensures.same.looked) (c.in_ok-suit.ensures.front (seen_of c.args.trail.now.entries) c.requires.front))
    (started c.enlist.new.work _ c.args.trail.now.shape _ c.args.trail.now.level c.shape-shape.ensures.value c.level-work.ensures.value)

pub returns-clause-left : goal.returns-clause-left
returns-clause-left c = left_working c.args.slots.now _ c.args.trail.now
    (working_start c.args.slots.now c.enlist.new.work _ c.args.trail.now c.in_ok-enlist.ensures.stored (suits_kept c.suit.new.work c.enlist.new.work c.args.trail.now.shape (subst (Suits c.suit.new.work) c.shape-shape.ensures.value c.in_ok-suit.ensures.suits) c.in_ok-enlist.ensures.same) c.in_ok-enlist.ensures.pairs c.requires.named c.level-work.ensures.assignment
    (subst (λ (ls : List Look). IsFront (looks_of ls) (seen_of c.args.trail.now.entries)) (sym c.in_ok-enlist.ensures.same.looked) (c.in_ok-suit.ensures.front (seen_of c.args.trail.now.entries) c.requires.front))
    (started c.enlist.new.work _ c.args.trail.now.shape _ c.args.trail.now.level c.shape-shape.ensures.value c.level-work.ensures.value))

pub returns-clause-front : goal.returns-clause-front
returns-clause-front c = subst (λ (ls : List Look). IsFront (looks_of ls) (seen_of c.args.trail.now.entries)) (sym c.in_ok-enlist.ensures.same.looked) (c.in_ok-suit.ensures.front (seen_of c.args.trail.now.entries) c.requires.front)
