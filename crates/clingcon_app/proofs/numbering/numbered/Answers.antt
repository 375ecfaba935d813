use Rattle.std.proofs.Common.{◌≡◌, ℕ, ◌<◌, ◌^◌, List, length, subst, sym, ◌∙◌, ap}
use Rattle.clingcon_app.specs.Numbering.{IsNumbering}
use Rattle.clingcon_app.proofs.NumberingLemmas.{lent_known, lent_atoms, lent_different, lent_few, numbered_all, are_numbered}
use Rattle.clingcon_app.proofs.numbering.numbered.Goals as goal

pub sorted_ids-requires-clause-ids : goal.sorted_ids-requires-clause-ids
sorted_ids-requires-clause-ids c =
    lent_known c.args.symbols.now c.args.statements.now c.items.result.now c.in_ok-occurring.occurring c.requires.known c.items.ensures c.in_ok-occurring.ensures

pub atom_numbers-requires-clause-known : goal.atom_numbers-requires-clause-known
atom_numbers-requires-clause-known c =
    lent_atoms c.args.symbols.now c.args.statements.now c.items.result.now c.in_ok-occurring.occurring c.items-2.result.now c.in_ok-atoms.atoms c.len.result
    c.requires.known c.items.ensures c.in_ok-occurring.ensures c.in_ok-atoms.ensures.members c.items-2.ensures c.len.ensures.length

pub atom_numbers-requires-clause-different : goal.atom_numbers-requires-clause-different
atom_numbers-requires-clause-different c =
    lent_different c.args.symbols.now c.items-2.result.now c.in_ok-atoms.atoms c.items-2.ensures c.in_ok-atoms.ensures.ascends

pub atom_numbers-requires-clause-few : goal.atom_numbers-requires-clause-few
atom_numbers-requires-clause-few c =
    lent_few c.args.symbols.now c.args.statements.now c.items.result.now c.in_ok-occurring.occurring c.items-2.result.now c.in_ok-atoms.atoms c.len.result
    c.requires.known c.items.ensures c.in_ok-occurring.ensures c.in_ok-atoms.ensures.members c.items-2.ensures c.len.ensures.length c.len.ensures.few
    c.in_ok-atoms.ensures.ascends

pub numbered_rules-requires : goal.numbered_rules-requires
numbered_rules-requires c =
    numbered_all c.args.symbols.now (length c.deref.result.now) c.args.statements.now
    (ap length c.deref.ensures.value ∙ c.in_ok-numbers.ensures.len ∙ c.len.ensures.length) c.requires.known

pub returns : goal.returns
returns c =
    let numbers : c.deref.result.now ≡ c.in_ok-numbers.numbers.items = c.deref.ensures.value in
    let numbering : IsNumbering c.in_ok-atoms.atoms c.deref.result.now =
    subst (λ (l : List ℕ). IsNumbering c.in_ok-atoms.atoms l) (sym numbers)
    (subst (λ (l : List ℕ). IsNumbering l c.in_ok-numbers.numbers.items) c.items-2.ensures c.in_ok-numbers.ensures.numbers) in
    are_numbered c.args.symbols.now c.args.statements.now c.items.result.now c.in_ok-atoms.atoms c.deref.result.now c.in_ok-rules.rules
    c.requires.known (subst (λ (n : ℕ). n < 2 ^ 32) c.len.ensures.length c.len.ensures.few) (c.items.ensures ∙ c.in_ok-occurring.ensures)
    c.in_ok-atoms.ensures.ascends c.in_ok-atoms.ensures.members numbering c.in_ok-rules.ensures
