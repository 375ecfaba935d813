use Rattle.std.proofs.Common.{◌≡◌, ◌-◌, ◌∙◌, map, Some, ap, sym, arith}
use Rattle.std.specs.Prelude.{option_map}
use Rattle.std.proofs.lemmas.Result.{err_from_is_err_and}
use Rattle.symbols.specs.Symbol.{arguments, deepest}
use Rattle.symbols.specs.Table.{symbol_at}
use Rattle.first_form.specs.Form.{named, symbol_within}
use Rattle.first_form.proofs.Each.{never_empty_list, symbols_more}
use Rattle.first_form.proofs.Functions.{function_flat, function_applied, fails_with, gives_same, symbols_some, symbols_shallow}
use Rattle.first_form.proofs.Tables.{known_push, kept_on}
use Rattle.first_form.proofs.There.{there_none}
use Rattle.first_form.proofs.term.+symbol.Goals as goal

pub arguments-returns-in_err-id-clause-read : goal.arguments-returns-in_err-id-clause-read
arguments-returns-in_err-id-clause-read t c =
    let p = err_from_is_err_and c.from_residual.result c.from_residual.ensures.1 in
    rw (p.1, p.2) (fails_with c.in_err-id.field-0.0 _ _ (there_none (symbol_within c.args.depth) c.args.args.now c.loop-arg.arg-index c.arg-item.result c.arg-item.is c.loop-arg-test.true) c.in_err-id.ensures.read)

pub arguments-loop-arg-preserved : goal.arguments-loop-arg-preserved
arguments-loop-arg-preserved t c = record {
  read = symbols_more (symbol_within c.args.depth) c.args.args.now c.loop-arg.arg-index c.arg-item.result c.loop-arg.symbols c.symbol.new.symbols c.loop-arg.ids c.push.new.self c.in_ok-id.id
      c.arg-item.is c.loop-arg-test.true c.in_ok-id.ensures.kept c.loop-arg.invariant.known c.loop-arg.invariant.read c.in_ok-id.ensures.read c.in_ok-push.ensures.ok;
  known = known_push c.loop-arg.symbols c.symbol.new.symbols c.loop-arg.ids c.push.new.self c.in_ok-id.id c.in_ok-id.ensures.kept c.loop-arg.invariant.known c.in_ok-id.ensures.known c.in_ok-push.ensures.ok;
  kept = kept_on c.args.symbols.now c.loop-arg.symbols c.symbol.new.symbols c.loop-arg.invariant.kept c.in_ok-id.ensures.kept;
  once = λ h. c.in_ok-id.ensures.once (c.loop-arg.invariant.once h);
}

pub function-returns-then-depth-eq0-clause-read : goal.function-returns-then-depth-eq0-clause-read
function-returns-then-depth-eq0-clause-read t c =
    function_flat c.args.name.now c.in-Some.ensures.some c.args.depth c.args.args.now (never_empty_list c.args.args.now c.if-is_empty.ensures) c.if-depth-eq0.true

pub function-applied-requires-clause-some : goal.function-applied-requires-clause-some
function-applied-requires-clause-some t c = λ e.
    symbols_some (symbol_within (c.args.depth - 1)) c.args.args.now c.arguments.new.symbols c.in-Ok.ids (never_empty_list c.args.args.now c.if-is_empty.ensures) c.in-Ok.ensures.read (sym c.items.ensures ∙ e)

pub function-applied-requires-clause-shallow : goal.function-applied-requires-clause-shallow
function-applied-requires-clause-shallow t c =
    let within = symbols_shallow (c.args.depth - 1) c.args.args.now (map (symbol_at c.arguments.new.symbols) c.in-Ok.ids) c.in-Ok.ensures.read in
    let same : deepest (arguments (map (symbol_at c.arguments.new.symbols) c.items.result.now)) ≡ deepest (arguments (map (symbol_at c.arguments.new.symbols) c.in-Ok.ids)) =
    ap (λ ids. deepest (arguments (map (symbol_at c.arguments.new.symbols) ids))) c.items.ensures in
    omega (arith, within, same, c.requires)

pub function-returns-in-Ok-clause-read : goal.function-returns-in-Ok-clause-read
function-returns-in-Ok-clause-read t c =
    let some = never_empty_list c.args.args.now c.if-is_empty.ensures in
    gives_same (symbol_at c.applied.new.symbols) c.applied.result _ _ c.applied.ensures.read c.applied.ensures.other
    (function_applied c.args.name.now c.in-Some.ensures.some c.args.depth c.args.args.now some (omega (arith, c.if-depth-eq0.false))
    ∙ ap (option_map (named c.args.name.now)) c.in-Ok.ensures.read
    ∙ (λ i. Some (named (sym c.in-Some.ensures.same i) (map (symbol_at c.arguments.new.symbols) (sym c.items.ensures i)))))

pub function-returns-in-Err-clause-read : goal.function-returns-in-Err-clause-read
function-returns-in-Err-clause-read t c =
    let some = never_empty_list c.args.args.now c.if-is_empty.ensures in
    let is = function_applied c.args.name.now c.in-Some.ensures.some c.args.depth c.args.args.now some (omega (arith, c.if-depth-eq0.false)) in
    fails_with c.in-Err.stop _ _ (λ none. is ∙ ap (option_map (named c.args.name.now)) none) c.in-Err.ensures.read
