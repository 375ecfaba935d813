use Rattle.std.proofs.Common.{ℕ, ◌∙◌, List, ◌++◌, sym, ap, subst, arith}
use Rattle.trail.specs.Assignment.{counts_of}
use Rattle.nogood_store.specs.declared.watch.Watch.{Watch}
use Rattle.nogood_store.specs.declared.watching.Look.{Look}
use Rattle.nogood_store.specs.declared.watching.Watching.{Watching}
use Rattle.nogood_store.specs.inner.Watching.{looks_of, list_at, EndsBelow, EndsAbove}
use Rattle.nogood_store.proofs.Ending.{stored_blank}
use Rattle.nogood_store.proofs.Cutting.{cut_done, cut_levels, popped}
use Rattle.nogood_store.proofs.watching.cut.Goals as goal

pub returns-then-work-eq0-clause-stored : goal.returns-then-work-eq0-clause-stored
returns-then-work-eq0-clause-stored c = λ slots x. stored_blank slots c.forget.new.work x.ascend (c.forget.ensures.places ∙ x.places ∙ ap counts_of (sym c.forget.ensures.shape)) (λ p. ap (λ (ls : List (List Watch)). list_at ls p) c.forget.ensures.lists) c.forget.ensures.pairs c.forget.ensures.fresh c.forget.ensures.looked

pub returns-then-work-eq0-clause-front : goal.returns-then-work-eq0-clause-front
returns-then-work-eq0-clause-front c = (looks_of c.args.work.now.looked.items, sym (ap (λ (ls : List Look). looks_of ls ++ looks_of c.args.work.now.looked.items) c.forget.ensures.looked))

pub returns-clause-stored : goal.returns-clause-stored
returns-clause-stored c = λ slots x. cut_done slots c.args.work.now c.back.work (omega arith) c.back.invariant.same c.back.invariant.front c.back.invariant.below (subst (λ (n : ℕ). EndsBelow n c.back.work.looked.items) (ap (λ (k : Watching). k.low) c.back.invariant.same) (c.is_over.ensures.not c.back-test.false)) x

pub returns-clause-below : goal.returns-clause-below
returns-clause-below c = λ climbs k d l. cut_levels c.args.work.now.looked.items c.back.work.looked.items c.args.work.now.low c.back.invariant.front (subst (λ (n : ℕ). EndsBelow n c.back.work.looked.items) (ap (λ (k : Watching). k.low) c.back.invariant.same) (c.is_over.ensures.not c.back-test.false)) climbs k d l

pub back-preserved : goal.back-preserved
back-preserved c =
    let p = popped c.args.work.now.low c.args.work.now.looked.items c.back.work.looked.items c.drop_last.new.looked.items (subst (λ (n : ℕ). EndsAbove n c.back.work.looked.items) (ap (λ (k : Watching). k.low) c.back.invariant.same) (c.is_over.ensures.yes_ c.back-test.true)) c.drop_last.ensures c.back.invariant.front c.back.invariant.below in
    record {
      same = ap (λ (k : Watching). record k { looked = c.drop_last.new.looked }) c.back.invariant.same;
      front = p.front;
      below = p.below;
    }

pub back-smaller : goal.back-smaller
back-smaller c =
    let p = popped c.args.work.now.low c.args.work.now.looked.items c.back.work.looked.items c.drop_last.new.looked.items (subst (λ (n : ℕ). EndsAbove n c.back.work.looked.items) (ap (λ (k : Watching). k.low) c.back.invariant.same) (c.is_over.ensures.yes_ c.back-test.true)) c.drop_last.ensures c.back.invariant.front c.back.invariant.below in
    omega (arith, p.shorter)
