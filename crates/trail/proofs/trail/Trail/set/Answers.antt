use Rattle.std.proofs.Common.{◌≡◌, Some, None, true, false, ap, subst, sym, ◌∙◌, refl, rules, FitsSigned, w32, to_z, of_z}
use Rattle.std.proofs.lemmas.Int.{to_z-of_z}
use Rattle.trail.specs.declared.shape.Shape.{Shape}
use Rattle.trail.specs.Implied.{truth_of}
use Rattle.trail.specs.Assignment.{Assignment, Names, truth_on, lits_of}
use Rattle.trail.specs.inner.Kept.{entries_of}
use Rattle.trail.proofs.CellLaws.{truth-shown}
use Rattle.trail.proofs.KeptLaws.{trail_set, view_pushed}
use Rattle.trail.proofs.trail.Trail.set.Goals as goal

pub returns-in-Some-true-clause-ok : goal.returns-in-Some-true-clause-ok
returns-in-Some-true-clause-ok c =
    let named : Names c.self.inside.shape c.args.lit = subst (λ (s : Shape). Names s c.args.lit) (sym (ap (λ (t : Assignment). t.shape) c.self.view_is)) c.requires in
    let truth : c.truth.result ≡ truth_on c.args.self.now c.args.lit = c.truth.ensures ∙ truth-shown c.self.inside.shape (lits_of (entries_of c.self.inside.slots.items)) c.self.inside.cells c.args.lit named.within c.self.invariant.shows ∙ ap (λ (t : Assignment). truth_on t c.args.lit) c.self.view_is in
    let known : truth_on c.args.self.now c.args.lit ≡ Some true = cc in
    (known, refl)

pub returns-in-Some-false-clause-ok : goal.returns-in-Some-false-clause-ok
returns-in-Some-false-clause-ok c =
    let named : Names c.self.inside.shape c.args.lit = subst (λ (s : Shape). Names s c.args.lit) (sym (ap (λ (t : Assignment). t.shape) c.self.view_is)) c.requires in
    let truth : c.truth.result ≡ truth_on c.args.self.now c.args.lit = c.truth.ensures ∙ truth-shown c.self.inside.shape (lits_of (entries_of c.self.inside.slots.items)) c.self.inside.cells c.args.lit named.within c.self.invariant.shows ∙ ap (λ (t : Assignment). truth_on t c.args.lit) c.self.view_is in
    let known : truth_on c.args.self.now c.args.lit ≡ Some false = cc in
    (known, refl)

pub invariant_of-self-in-Ok : goal.invariant_of-self-in-Ok
invariant_of-self-in-Ok c =
    let named : Names c.self.inside.shape c.args.lit = subst (λ (s : Shape). Names s c.args.lit) (sym (ap (λ (t : Assignment). t.shape) c.self.view_is)) c.requires in
    let new : truth_of c.self.inside.shape.ends (lits_of (entries_of c.self.inside.slots.items)) c.args.lit ≡ None =
    sym (truth-shown c.self.inside.shape (lits_of (entries_of c.self.inside.slots.items)) c.self.inside.cells c.args.lit named.within c.self.invariant.shows) ∙ sym c.in-None.ensures
    in
    let fits : FitsSigned w32 c.saved-saved.result = search rules in
    trail_set c.self.inside.shape c.self.inside.level c.self.inside.slots.items c.push.new.self.items c.self.inside.cells c.apply.new.self c.self.inside.orders c.make_order.new.orders c.args.lit c.args.why
    (to_z w32 (of_z w32 c.saved-saved.result)) c.mark-mark.result c.len-at.result c.self.invariant named new
    (to_z-of_z w32 c.saved-saved.result fits ∙ c.saved-saved.ensures) c.mark-mark.ensures (c.len-at.ensures ∙ c.self.inside.slots.ok.0) c.in_ok-push.ensures.items c.apply.ensures c.in-Ok.ensures.ok

pub returns-in-Ok-clause-ok : goal.returns-in-Ok-clause-ok
returns-in-Ok-clause-ok c =
    let named : Names c.self.inside.shape c.args.lit = subst (λ (s : Shape). Names s c.args.lit) (sym (ap (λ (t : Assignment). t.shape) c.self.view_is)) c.requires in
    let new : truth_on c.args.self.now c.args.lit ≡ None =
    sym (truth-shown c.self.inside.shape (lits_of (entries_of c.self.inside.slots.items)) c.self.inside.cells c.args.lit named.within c.self.invariant.shows ∙ ap (λ (t : Assignment). truth_on t c.args.lit) c.self.view_is) ∙ sym c.in-None.ensures
    in
    (new, view_pushed c.args.self.now c.self.inside.shape c.self.inside.level c.self.inside.orders c.make_order.new.orders c.self.inside.slots.items c.push.new.self.items c.args.lit c.args.why (to_z w32 (of_z w32 c.saved-saved.result)) c.mark-mark.result c.self.view_is c.in_ok-push.ensures.items c.in-Ok.ensures.ok)
