use Rattle.std.proofs.Common.{rules, ◌≡◌, List, subst, sym, length}
use Rattle.std.specs.List.{All}
use Rattle.literals.specs.declared.lit.Lit.{Lit}
use Rattle.literals.specs.Lits.{IsLit}
use Rattle.literals.specs.Nogoods.{canonical}
use Rattle.linear_normal.specs.declared.constraint.Item.{Item}
use Rattle.sum_propagator.specs.Kinds.{own_lits}
use Rattle.sum_propagator.specs.Reasons.{Backs}
use Rattle.sum_propagator.proofs.Validity.{explains, gathered}
use Rattle.sum_propagator.proofs.reason.explain.Goals as goal

pub from_lits-requires : goal.from_lits-requires
from_lits-requires c =
    let e : c.as_slice.result.now ≡ c.back_all.new.lits.items = search rules in
    subst (λ (ls : List Lit). All IsLit ls) (sym e)
    (gathered c.args.trail.now c.args.sum.now.kind c.args.sum.now.number c.items-items.result.now c.args.side c.args.but c.args.instead c.args.slack c.in_ok-back_all.field-0 c.back_all.new.lits.items c.requires.own
    (subst (λ (old : List Lit). Backs c.args.trail.now c.args.side c.items-items.result.now c.args.but c.args.instead c.args.slack c.in_ok-back_all.field-0 (length c.items-items.result.now) old c.back_all.new.lits.items) c.in_ok-lits.ensures c.in_ok-back_all.ensures))

pub returns : goal.returns
returns c =
    let v : c.in_ok-nogood.nogood ≡ canonical c.back_all.new.lits.items = search rules in
    explains c.args.trail.now c.args.sum.now.kind c.args.sum.now.number c.args.sum.now.items c.args.side c.args.but c.args.instead c.args.slack c.in_ok-back_all.field-0 c.back_all.new.lits.items (record { nogood = c.in_ok-nogood.nogood; step = c.step_of.result })
    c.requires.own
    (subst (λ (items : List Item). Backs c.args.trail.now c.args.side items c.args.but c.args.instead c.args.slack c.in_ok-back_all.field-0 (length items) (own_lits c.args.sum.now.kind c.args.sum.now.number c.args.side) c.back_all.new.lits.items) c.items-items.ensures
    (subst (λ (old : List Lit). Backs c.args.trail.now c.args.side c.items-items.result.now c.args.but c.args.instead c.args.slack c.in_ok-back_all.field-0 (length c.items-items.result.now) old c.back_all.new.lits.items) c.in_ok-lits.ensures c.in_ok-back_all.ensures))
    v c.step_of.ensures
