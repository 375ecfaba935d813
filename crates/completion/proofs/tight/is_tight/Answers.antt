use Rattle.std.proofs.Common.{◌≡◌, ◌∙◌, ◌+◌, true, ap, sym, subst, length, vec_items, arith, All, Bool, List}
use Rattle.definite_rules.specs.Rule.{DefiniteRule}
use Rattle.definite_rules.specs.Least.{IsLeastModel, IsLeastClosed, flag_at}
use Rattle.completion.specs.inner.Waits.{waits_of}
use Rattle.completion.proofs.RowLemmas.{rows_length}
use Rattle.completion.proofs.WaitLemmas.{rules_made}
use Rattle.completion.proofs.TightLemmas.{known_supports_in, known_rules, known_atoms, known_waits, tight_exactly}
use Rattle.completion.proofs.tight.is_tight.Goals as goal

pub waits-requires : goal.waits-requires
waits-requires c =
    rw (c.items.ensures, c.items-2.ensures, c.len-count.ensures) (known_supports_in c.args.ground.now c.args.numbered.now c.requires)

pub waiting_rules-requires : goal.waiting_rules-requires
waiting_rules-requires c =
    let n = rows_length vec_items (waits_of c.items.result.now c.items-2.result.now) c.in_ok-rows.rows.items 0 (c.len-count.result + 1) c.in_ok-rows.ensures in
    let same = ap length c.deref.ensures.value in
    let len = c.len-count.ensures in
    let few = c.args.ground.now.few_atoms in
    omega (arith, n, same, len, few)

pub least_model-requires : goal.least_model-requires
least_model-requires c =
    let rules =
    rules_made vec_items c.deref.result.now c.in_ok-rows.rows.items c.items.result.now c.args.numbered.now.bodies c.items-2.result.now c.args.numbered.now.supports c.len-count.result (length c.args.ground.now.atoms)
    c.in_ok-rules.rules c.in_ok-rows.ensures c.items.ensures c.items-2.ensures c.len-count.ensures c.deref.ensures.value c.in_ok-rules.ensures in
    rw (rules, c.len-count.ensures) (known_rules c.args.ground.now c.args.numbered.now c.requires)

pub returns : goal.returns
returns c =
    let count = length c.args.ground.now.atoms + 1 in
    let rules =
    rules_made vec_items c.deref.result.now c.in_ok-rows.rows.items c.items.result.now c.args.numbered.now.bodies c.items-2.result.now c.args.numbered.now.supports c.len-count.result (length c.args.ground.now.atoms)
    c.in_ok-rules.rules c.in_ok-rows.ensures c.items.ensures c.items-2.ensures c.len-count.ensures c.deref.ensures.value c.in_ok-rules.ensures in
    let flags : List Bool = c.in_ok-done.done in
    let exactly =
    tight_exactly c.args.numbered.now count (known_atoms c.args.ground.now c.args.numbered.now c.requires) (known_waits c.args.ground.now c.args.numbered.now c.requires)
    flags (c.in_ok-done.ensures.length ∙ ap (λ n. n + 1) c.len-count.ensures)
    (subst (λ (rs : List DefiniteRule). IsLeastModel rs flags) rules c.in_ok-done.ensures.least)
    (subst (λ (rs : List DefiniteRule). IsLeastClosed rs (flag_at flags)) rules c.in_ok-done.ensures.closed) in
    let all : List Bool → Type 0 = All (λ flag. flag ≡ true) in (
      λ t. exactly.0 (subst all c.items-3.ensures (c.are_all_set.ensures.0 t)),
      λ tight. c.are_all_set.ensures.1 (subst all (sym c.items-3.ensures) (exactly.1 tight)),
    )
