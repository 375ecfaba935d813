use Rattle.std.proofs.Common.{◌≡◌, ◌+◌, suc, true, false, length, subst, arith}
use Rattle.ground_model.specs.Members.{IsMember}
use Rattle.program_meaning.specs.Tuples.{theories}
use Rattle.large_atoms.proofs.LargeLemmas.{is_large_one, AreSmallBefore, small_more, none_large, some_large}
use Rattle.large_atoms.proofs.atoms.has_large_atom.Goals as goal

pub returns-then-is_large_atom-clause-large : goal.returns-then-is_large_atom-clause-large
returns-then-is_large_atom-clause-large c = λ e possible rule values z w.
    let ends = c.args.ends in
    let symbols = c.args.symbols.now in
    let plan = c.index-plans-place.result in
    let atom = c.index-atoms-place.result in
    let large : is_large_one ends symbols plan atom ≡ true = cc (c.is_large_atom.ensures, c.if-is_large_atom.true, c.index-plans-place.is, c.index-atoms-place.is) in
    some_large ends symbols (IsMember possible) rule values c.loop-place.place (theories rule) c.args.plans.now c.args.atoms.now plan plan atom atom c.index-plans-place.is c.index-atoms-place.is
    c.loop-place-test.true z w large

pub loop-place-preserved : goal.loop-place-preserved
loop-place-preserved c =
    let ends = c.args.ends in
    let symbols = c.args.symbols.now in
    let plan = c.index-plans-place.result in
    let atom = c.index-atoms-place.result in
    let small : is_large_one ends symbols plan atom ≡ false = cc (c.is_large_atom.ensures, c.if-is_large_atom.false, c.index-plans-place.is, c.index-atoms-place.is) in
    let next : suc c.loop-place.place ≡ c.loop-place.place + 1 = omega arith in
    subst (λ n. AreSmallBefore ends symbols n c.args.plans.now c.args.atoms.now) next
    (small_more ends symbols c.loop-place.place c.args.plans.now c.args.atoms.now plan plan atom atom c.index-plans-place.is c.index-atoms-place.is c.loop-place.invariant small)

pub returns-clause-small : goal.returns-clause-small
returns-clause-small c = λ e possible rule values z w.
    let end : length c.args.atoms.now ≡ c.loop-place.place = omega (arith, c.loop-place-test.false, c.loop-place.auto.place-end) in
    none_large c.args.ends c.args.symbols.now (IsMember possible) rule values c.loop-place.place (theories rule) c.args.plans.now c.args.atoms.now end z w c.loop-place.invariant
