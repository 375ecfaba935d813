use Rattle.std.proofs.Common.{suc, true, ◌+◌, ◌-◌, ◌∙◌, [], ◌∷◌, ◌++◌, sym, ap, subst, arith}
use Rattle.syntax_tree.specs.declared.term.Term.TheVariants as tree
use Rattle.syntax_tree.specs.declared.term.Op.TheVariants.{Plus, Times}
use Rattle.grammar.specs.declared.mark.Mark.TheVariants as m
use Rattle.grammar.specs.declared.shape.Shape.TheVariants.{Atom, Other}
use Rattle.grammar.specs.Tree.{part_of}
use Rattle.grammar.specs.Word.{words_at}
use Rattle.grammar.specs.Term.{sum_goes_on}
use Rattle.grammar.proofs.TermLaws.{unary_on, sum_law}
use Rattle.theory_grammar.specs.declared.fault.Stop.TheVariants as stop
use Rattle.grammar.specs.Reading.{unary_at, product_at, sum_at, term_at, args_at}
use Rattle.theory_grammar.specs.State.{Reads, Fails, TermRead, argued, noted, unary_class, product_class, sum_class, term_class, rest_class}
use Rattle.theory_grammar.proofs.Classes.{part_read, argument_read}
use Rattle.theory_grammar.proofs.TermReads.{alone_read, interval_read, left_fails, right_fails, fails_along}
use Rattle.theory_grammar.proofs.OperandReads.{negated_read, negated_fails, applied_read, applied_fails, applied_open, unit_read, group_read, bracket_fails, group_open, tuple_read, tuple_fails, rest_none, rest_some, plain_read, deep_name, deep_minus, deep_open, none_at_end, no_mark, no_word}
use Rattle.theory_grammar.proofs.Loops.{from_less, mark_within, term_read_of, factors_start, factors_more, factors_fail, product_many, product_one, product_fails, addends_start, addends_more, addends_fail, sum_many, sum_one, sum_fails, arguments_start, arguments_more, arguments_fail, arguments_done, first_argument_fails}
use Rattle.theory_grammar.proofs.term.+term.Goals as goal

pub addend-returns-in-Ok : goal.addend-returns-in-Ok
addend-returns-in-Ok t c =
    part_read (product_class (unary_class c.args.depth)) c.args.text.now c.args.tokens.now c.args.at c.args.seen.now c.product.new.seen c.refuse.new.self _ _ _ c.in-Ok.ensures c.refuse.ensures

pub factor-returns-in-Ok : goal.factor-returns-in-Ok
factor-returns-in-Ok t c =
    part_read (unary_class c.args.depth) c.args.text.now c.args.tokens.now c.args.at c.args.seen.now c.unary.new.seen c.refuse.new.self _ _ _ c.in-Ok.ensures c.refuse.ensures

pub product-returns-in-Err : goal.product-returns-in-Err
product-returns-in-Err t c =
    fails_along c.args.text.now c.args.tokens.now c.in-Err.stop (unary_at c.args.depth (words_at c.args.text.now c.args.tokens.now c.args.at)) _
    (λ f h. product_fails c.args.depth c.args.text.now c.args.tokens.now c.args.at f h) c.in-Err.ensures

pub sum-returns-in-Err : goal.sum-returns-in-Err
sum-returns-in-Err t c =
    fails_along c.args.text.now c.args.tokens.now c.in-Err.stop (product_at c.args.depth (words_at c.args.text.now c.args.tokens.now c.args.at)) _
    (λ f h. sum_fails c.args.depth c.args.text.now c.args.tokens.now c.args.at f h) c.in-Err.ensures

pub arguments-returns-in-Err : goal.arguments-returns-in-Err
arguments-returns-in-Err t c =
    fails_along c.args.text.now c.args.tokens.now c.in-Err.stop (term_at c.args.depth (words_at c.args.text.now c.args.tokens.now c.args.at)) _
    (λ f h. first_argument_fails c.args.depth c.args.text.now c.args.tokens.now c.args.at f h) c.in-Err.ensures

pub term-returns-in-Err : goal.term-returns-in-Err
term-returns-in-Err t c =
    fails_along c.args.text.now c.args.tokens.now c.in-Err.stop (sum_at c.args.depth (words_at c.args.text.now c.args.tokens.now c.args.at)) _
    (λ f h. left_fails (unary_class c.args.depth) (sum_goes_on (unary_on c.args.depth)) (sum_law c.args.depth) c.args.text.now c.args.tokens.now c.args.at f h) c.in-Err.ensures

pub unary-returns-in-None : goal.unary-returns-in-None
unary-returns-in-None t c = (none_at_end c.args.depth _ c.in-None.ensures.end, c.requires.at)

-- a sign
pub negated-returns-then-depth-eq0 : goal.negated-returns-then-depth-eq0
negated-returns-then-depth-eq0 t c =
    subst (λ d. Fails c.args.text.now c.args.tokens.now (unary_at d (words_at c.args.text.now c.args.tokens.now c.args.at)) (stop.TooDeep c.args.at)) (sym c.if-depth-eq0.true)
    (deep_minus c.args.text.now c.args.tokens.now c.args.at c.requires.word, omega (arith, c.requires.at))

pub negated-returns-in-Ok-new : goal.negated-returns-in-Ok-new
negated-returns-in-Ok-new t c =
    from_less (λ d. Reads (unary_class d) c.args.text.now c.args.tokens.now c.args.at c.args.seen.now c.refuse.new.self c.other.result.term c.other.result.shape c.other.result.next) c.args.depth c.if-depth-eq0.false
    (subst (λ r. Reads (unary_class (suc (c.args.depth - 1))) c.args.text.now c.args.tokens.now c.args.at c.args.seen.now c.refuse.new.self r.term r.shape r.next) (sym c.other.ensures)
    (subst (λ z. Reads (unary_class (suc (c.args.depth - 1))) c.args.text.now c.args.tokens.now c.args.at c.args.seen.now c.refuse.new.self (tree.Minus z) Other c.in-Ok.inner.next) (sym c.in-Ok-new.ensures)
    (negated_read (c.args.depth - 1) c.args.text.now c.args.tokens.now c.args.at c.args.seen.now c.refuse.new.self c.in-Ok.inner.term c.in-Ok.inner.next c.requires.word
    (part_read (unary_class (c.args.depth - 1)) c.args.text.now c.args.tokens.now (c.args.at + 1) c.args.seen.now c.unary.new.seen c.refuse.new.self c.in-Ok.inner.term c.in-Ok.inner.shape c.in-Ok.inner.next c.in-Ok.ensures c.refuse.ensures))))

pub negated-returns-in-Err : goal.negated-returns-in-Err
negated-returns-in-Err t c =
    from_less (λ d. Fails c.args.text.now c.args.tokens.now (unary_at d (words_at c.args.text.now c.args.tokens.now c.args.at)) c.in-Err.stop) c.args.depth c.if-depth-eq0.false
    (fails_along c.args.text.now c.args.tokens.now c.in-Err.stop (unary_at (c.args.depth - 1) (words_at c.args.text.now c.args.tokens.now (c.args.at + 1))) _
    (λ f h. negated_fails (c.args.depth - 1) c.args.text.now c.args.tokens.now c.args.at f c.requires.word h) c.in-Err.ensures)

pub opened-returns-in_default : goal.opened-returns-in_default
opened-returns-in_default t c = (no_mark c.args.depth c.args.mark _ _ c.requires.word c.in_default.not-Minus c.in_default.not-Open, omega (arith, c.requires.at))

pub operand-returns-in-Not : goal.operand-returns-in-Not
operand-returns-in-Not t c = (no_word c.args.depth c.args.kind _ _ _ c.requires.word c.in-Not.is, omega (arith, c.requires.at))

-- a name
pub named-returns-then-not-is_mark : goal.named-returns-then-not-is_mark
named-returns-then-not-is_mark t c =
    subst (λ z. Reads (unary_class c.args.depth) c.args.text.now c.args.tokens.now c.args.at c.args.seen.now c.args.seen.now (tree.Function c.in-Ok.name z) Atom (c.args.at + 1)) (sym c.new.ensures)
    (plain_read c.args.depth c.args.text.now c.args.tokens.now c.args.at c.args.seen.now _ c.in-Ok.name c.requires.word (c.in-Ok.ensures ∙ c.bytes_at.ensures) (sym c.if-not-is_mark.ensures.is) c.requires.at)

pub named-returns-then-depth-eq0 : goal.named-returns-then-depth-eq0
named-returns-then-depth-eq0 t c =
    let there = sym c.if-not-is_mark.ensures.is in
    subst (λ d. Fails c.args.text.now c.args.tokens.now (unary_at d (words_at c.args.text.now c.args.tokens.now c.args.at)) (stop.TooDeep (c.args.at + 1))) (sym c.if-depth-eq0.true)
    (deep_name c.args.text.now c.args.tokens.now c.args.at _ c.requires.word there, omega (arith, mark_within c.args.text.now c.args.tokens.now m.Open (c.args.at + 1) there))

pub named-returns-then-not-is_mark-2 : goal.named-returns-then-not-is_mark-2
named-returns-then-not-is_mark-2 t c =
    let there = sym c.if-not-is_mark.ensures.is in
    from_less (λ d. Fails c.args.text.now c.args.tokens.now (unary_at d (words_at c.args.text.now c.args.tokens.now c.args.at)) (stop.Expected c.in-Ok-arguments.after)) c.args.depth c.if-depth-eq0.false
    (applied_open (c.args.depth - 1) c.args.text.now c.args.tokens.now c.args.at _ c.in-Ok-arguments.ensures.form c.in-Ok-arguments.after c.requires.word there c.in-Ok-arguments.ensures.is (sym c.if-not-is_mark-2.ensures.is), c.in-Ok-arguments.ensures.within)

pub named-returns-else-not-is_mark-2 : goal.named-returns-else-not-is_mark-2
named-returns-else-not-is_mark-2 t c =
    let there = sym c.if-not-is_mark.ensures.is in
    let closed = sym c.if-not-is_mark-2.ensures.is in
    from_less (λ d. Reads (unary_class d) c.args.text.now c.args.tokens.now c.args.at c.args.seen.now c.arguments.new.seen (tree.Function c.in-Ok.name c.in-Ok-arguments.args) Atom (c.in-Ok-arguments.after + 1)) c.args.depth c.if-depth-eq0.false
    (applied_read (c.args.depth - 1) c.args.text.now c.args.tokens.now c.args.at c.args.seen.now c.arguments.new.seen _ c.in-Ok.name c.in-Ok-arguments.args c.in-Ok-arguments.after c.requires.word (c.in-Ok.ensures ∙ c.bytes_at.ensures) there
    c.in-Ok-arguments.ensures closed (mark_within c.args.text.now c.args.tokens.now m.Close c.in-Ok-arguments.after closed))

pub named-returns-in-Err-arguments : goal.named-returns-in-Err-arguments
named-returns-in-Err-arguments t c =
    let there = sym c.if-not-is_mark.ensures.is in
    from_less (λ d. Fails c.args.text.now c.args.tokens.now (unary_at d (words_at c.args.text.now c.args.tokens.now c.args.at)) c.in-Err-arguments.stop) c.args.depth c.if-depth-eq0.false
    (fails_along c.args.text.now c.args.tokens.now c.in-Err-arguments.stop (args_at (c.args.depth - 1) (words_at c.args.text.now c.args.tokens.now (c.args.at + 2))) _ (λ f h. applied_fails (c.args.depth - 1) c.args.text.now c.args.tokens.now c.args.at _ f c.requires.word there h) c.in-Err-arguments.ensures)

-- parentheses
pub bracket-returns-then-depth-eq0 : goal.bracket-returns-then-depth-eq0
bracket-returns-then-depth-eq0 t c =
    subst (λ d. Fails c.args.text.now c.args.tokens.now (unary_at d (words_at c.args.text.now c.args.tokens.now c.args.at)) (stop.TooDeep c.args.at)) (sym c.if-depth-eq0.true)
    (deep_open c.args.text.now c.args.tokens.now c.args.at c.requires.word, omega (arith, c.requires.at))

pub bracket-returns-then-is_mark : goal.bracket-returns-then-is_mark
bracket-returns-then-is_mark t c =
    let closed = sym c.if-is_mark.ensures.is in
    from_less (λ d. Reads (unary_class d) c.args.text.now c.args.tokens.now c.args.at c.args.seen.now c.args.seen.now c.other.result.term c.other.result.shape c.other.result.next) c.args.depth c.if-depth-eq0.false
    (subst (λ r. Reads (unary_class (suc (c.args.depth - 1))) c.args.text.now c.args.tokens.now c.args.at c.args.seen.now c.args.seen.now r.term r.shape r.next) (sym c.other.ensures)
    (subst (λ z. Reads (unary_class (suc (c.args.depth - 1))) c.args.text.now c.args.tokens.now c.args.at c.args.seen.now c.args.seen.now (tree.Tuple z) Other (c.args.at + 2)) (sym c.new.ensures)
    (unit_read (c.args.depth - 1) c.args.text.now c.args.tokens.now c.args.at c.args.seen.now c.requires.word closed (mark_within c.args.text.now c.args.tokens.now m.Close (c.args.at + 1) closed))))

pub bracket-returns-then-is_mark-2 : goal.bracket-returns-then-is_mark-2
bracket-returns-then-is_mark-2 t c =
    let closed = sym c.if-is_mark-2.ensures.is in
    from_less (λ d. Reads (unary_class d) c.args.text.now c.args.tokens.now c.args.at c.args.seen.now c.term.new.seen c.in-Ok.first.term c.grouped.result (c.in-Ok.first.next + 1)) c.args.depth c.if-depth-eq0.false
    (group_read (c.args.depth - 1) c.args.text.now c.args.tokens.now c.args.at c.args.seen.now c.term.new.seen c.in-Ok.first.term c.in-Ok.first.shape c.grouped.result c.in-Ok.first.next c.requires.word (sym c.if-is_mark.ensures.is) c.in-Ok.ensures closed
    (mark_within c.args.text.now c.args.tokens.now m.Close c.in-Ok.first.next closed) c.grouped.ensures)

pub bracket-returns-then-not-is_mark : goal.bracket-returns-then-not-is_mark
bracket-returns-then-not-is_mark t c =
    from_less (λ d. Fails c.args.text.now c.args.tokens.now (unary_at d (words_at c.args.text.now c.args.tokens.now c.args.at)) (stop.Expected c.in-Ok.first.next)) c.args.depth c.if-depth-eq0.false
    (group_open (c.args.depth - 1) c.args.text.now c.args.tokens.now c.args.at c.in-Ok.ensures.form c.in-Ok.first.next c.requires.word (sym c.if-is_mark.ensures.is) c.in-Ok.ensures.is (sym c.if-is_mark-2.ensures.is) (sym c.if-not-is_mark.ensures.is), c.in-Ok.ensures.within)

pub bracket-returns-in-Ok-behind_comma : goal.bracket-returns-in-Ok-behind_comma
bracket-returns-in-Ok-behind_comma t c =
    from_less (λ d. TermRead (unary_class d) c.args.text.now c.args.tokens.now c.args.at c.args.seen.now c.behind_comma.new.seen c.joined.result) c.args.depth c.if-depth-eq0.false
    (term_read_of (unary_class (suc (c.args.depth - 1))) c.args.text.now c.args.tokens.now c.args.at c.args.seen.now c.behind_comma.new.seen c.joined.result _ c.joined.ensures.ok c.joined.ensures.err
    (tuple_read (c.args.depth - 1) c.args.text.now c.args.tokens.now c.args.at c.args.seen.now c.argue.new.self c.behind_comma.new.seen c.in-Ok.first.term c.in-Ok.first.next c.in-Ok-behind_comma.more c.in-Ok-behind_comma.after c.requires.word (sym c.if-is_mark.ensures.is)
    (argument_read (term_class (unary_class (c.args.depth - 1))) c.args.text.now c.args.tokens.now (c.args.at + 1) c.args.seen.now c.term.new.seen c.argue.new.self c.in-Ok.first.term c.in-Ok.first.shape c.in-Ok.first.next c.in-Ok.ensures
    (c.in-Ok-argue.ensures ∙ ap (λ n. record c.term.new.seen { places = argued c.term.new.seen.places c.in-Ok.first.shape n (noted c.args.tokens.now (c.args.at + 1) true) }) c.len-before.ensures)) (sym c.if-is_mark-2.ensures.is) (sym c.if-not-is_mark.ensures.is) c.in-Ok-behind_comma.ensures))

pub bracket-returns-in-Err-behind_comma : goal.bracket-returns-in-Err-behind_comma
bracket-returns-in-Err-behind_comma t c =
    from_less (λ d. Fails c.args.text.now c.args.tokens.now (unary_at d (words_at c.args.text.now c.args.tokens.now c.args.at)) c.in-Err-behind_comma.stop) c.args.depth c.if-depth-eq0.false
    (fails_along c.args.text.now c.args.tokens.now c.in-Err-behind_comma.stop ((rest_class (unary_class (c.args.depth - 1))).read (words_at c.args.text.now c.args.tokens.now (c.in-Ok.first.next + 1))) _
    (λ f h. tuple_fails (c.args.depth - 1) c.args.text.now c.args.tokens.now c.args.at c.in-Ok.ensures.form c.in-Ok.first.next f c.requires.word (sym c.if-is_mark.ensures.is) c.in-Ok.ensures.is (sym c.if-is_mark-2.ensures.is) (sym c.if-not-is_mark.ensures.is) h) c.in-Err-behind_comma.ensures)

pub bracket-returns-in-Err : goal.bracket-returns-in-Err
bracket-returns-in-Err t c =
    from_less (λ d. Fails c.args.text.now c.args.tokens.now (unary_at d (words_at c.args.text.now c.args.tokens.now c.args.at)) c.in-Err.stop) c.args.depth c.if-depth-eq0.false
    (fails_along c.args.text.now c.args.tokens.now c.in-Err.stop (term_at (c.args.depth - 1) (words_at c.args.text.now c.args.tokens.now (c.args.at + 1))) _ (λ f h. bracket_fails (c.args.depth - 1) c.args.text.now c.args.tokens.now c.args.at f c.requires.word (sym c.if-is_mark.ensures.is) h) c.in-Err.ensures)

pub behind_comma-returns-then-is_mark : goal.behind_comma-returns-then-is_mark
behind_comma-returns-then-is_mark t c =
    let closed = sym c.if-is_mark.ensures.is in
    subst (λ z. Reads (rest_class (unary_class c.args.depth)) c.args.text.now c.args.tokens.now c.args.at c.args.seen.now c.args.seen.now z Other (c.args.at + 1)) (sym c.new.ensures) (rest_none c.args.depth c.args.text.now c.args.tokens.now c.args.at c.args.seen.now closed (mark_within c.args.text.now c.args.tokens.now m.Close c.args.at closed))

pub behind_comma-returns-else-not-is_mark : goal.behind_comma-returns-else-not-is_mark
behind_comma-returns-else-not-is_mark t c =
    let closed = sym c.if-not-is_mark.ensures.is in
    rest_some c.args.depth c.args.text.now c.args.tokens.now c.args.at c.args.seen.now c.arguments.new.seen c.in-Ok.args c.in-Ok.after (sym c.if-is_mark.ensures.is) c.in-Ok.ensures closed (mark_within c.args.text.now c.args.tokens.now m.Close c.in-Ok.after closed)

-- arguments
pub arguments-turns-init : goal.arguments-turns-init
arguments-turns-init t c =
    arguments_start c.args.depth c.args.text.now c.args.tokens.now c.args.at c.args.seen.now c.argument.new.seen c.in-Ok.read.0 c.in-Ok.read.1 c.push.new.self c.in-Ok.ensures (c.in-Ok-push.ensures.ok ∙ ap (λ z. z ++ c.in-Ok.read.0 ∷ []) c.new-found.ensures)

pub arguments-turns-preserved : goal.arguments-turns-preserved
arguments-turns-preserved t c =
    arguments_more c.args.depth c.args.text.now c.args.tokens.now c.args.at c.in-Ok.read.1 c.args.seen.now c.turns.seen c.argument-in-turns.new.seen c.turns.found c.turns.next c.in-Ok-argument.item c.in-Ok-argument.after c.push-in-Ok-argument.new.self c.turns.invariant
    (sym c.turns-test.ensures.is) c.in-Ok-argument.ensures c.in-Ok-push-2.ensures.ok

pub arguments-returns-in-Err-argument : goal.arguments-returns-in-Err-argument
arguments-returns-in-Err-argument t c =
    fails_along c.args.text.now c.args.tokens.now c.in-Err-argument.stop (term_at c.args.depth (words_at c.args.text.now c.args.tokens.now (c.turns.next + 1))) _
    (λ f h. arguments_fail c.args.depth c.args.text.now c.args.tokens.now c.args.at c.in-Ok.read.1 c.args.seen.now c.turns.seen c.turns.found c.turns.next f c.turns.invariant (sym c.turns-test.ensures.is) h) c.in-Err-argument.ensures

pub arguments-returns : goal.arguments-returns
arguments-returns t c =
    arguments_done c.args.depth c.args.text.now c.args.tokens.now c.args.at c.in-Ok.read.1 c.args.seen.now c.turns.seen c.turns.found c.turns.next c.turns.invariant (sym c.turns-test.ensures.is)

-- products and sums
pub product-turns-init : goal.product-turns-init
product-turns-init t c =
    factors_start c.args.depth c.args.text.now c.args.tokens.now c.args.at c.args.seen.now c.refuse.new.self c.in-Ok.first.term c.in-Ok.first.next c.push.new.self
    (part_read (unary_class c.args.depth) c.args.text.now c.args.tokens.now c.args.at c.args.seen.now c.unary.new.seen c.refuse.new.self c.in-Ok.first.term c.in-Ok.first.shape c.in-Ok.first.next c.in-Ok.ensures c.refuse.ensures)
    (c.in-Ok-push.ensures.ok ∙ ap (λ z. z ++ part_of Times c.in-Ok.first.term ∷ []) c.new-parts.ensures)

pub product-turns-preserved : goal.product-turns-preserved
product-turns-preserved t c =
    factors_more c.args.depth c.args.text.now c.args.tokens.now c.args.at c.in-Ok.first.next c.args.seen.now c.turns.seen c.factor.new.seen c.turns.parts c.turns.next c.in-Some-multiplying.op c.in-Ok-factor.term c.in-Ok-factor.after c.push-in-Ok-factor.new.self c.turns.invariant
    c.in-Some-multiplying.ensures.is c.in-Ok-factor.ensures c.in-Ok-push-2.ensures.ok

pub product-returns-in-Err-factor : goal.product-returns-in-Err-factor
product-returns-in-Err-factor t c =
    fails_along c.args.text.now c.args.tokens.now c.in-Err-factor.stop (unary_at c.args.depth (words_at c.args.text.now c.args.tokens.now (c.turns.next + 1))) _
    (λ f h. factors_fail c.args.depth c.args.text.now c.args.tokens.now c.args.at c.in-Ok.first.next c.args.seen.now c.turns.seen c.turns.parts c.turns.next c.in-Some-multiplying.op f c.turns.invariant c.in-Some-multiplying.ensures.is h) c.in-Err-factor.ensures

pub product-returns : goal.product-returns
product-returns t c =
    subst (λ r. Reads (product_class (unary_class c.args.depth)) c.args.text.now c.args.tokens.now c.args.at c.args.seen.now c.turns.seen r.term r.shape r.next) (sym c.other.ensures)
    (product_many c.args.depth c.args.text.now c.args.tokens.now c.args.at c.in-Ok.first.next c.args.seen.now c.turns.seen c.turns.parts c.turns.next c.in-Some.field-0 c.turns.invariant c.in-Some.ensures.is c.in_default.ensures.is)

pub product-returns-in-None : goal.product-returns-in-None
product-returns-in-None t c =
    product_one c.args.depth c.args.text.now c.args.tokens.now c.args.at c.args.seen.now c.unary.new.seen c.in-Ok.first.term c.in-Ok.first.shape c.in-Ok.first.next c.in-Ok.ensures c.in-None.ensures.is

pub sum-returns : goal.sum-returns
sum-returns t c =
    subst (λ r. Reads (sum_class (unary_class c.args.depth)) c.args.text.now c.args.tokens.now c.args.at c.args.seen.now c.turns.seen r.term r.shape r.next) (sym c.other.ensures)
    (sum_many c.args.depth c.args.text.now c.args.tokens.now c.args.at c.in-Ok.first.next c.args.seen.now c.turns.seen c.turns.parts c.turns.next c.in-Some.field-0 c.turns.invariant c.in-Some.ensures.is c.in_default.ensures.is)

-- terms
pub term-returns-then-not-is_mark : goal.term-returns-then-not-is_mark
term-returns-then-not-is_mark t c =
    alone_read (unary_class c.args.depth) (sum_goes_on (unary_on c.args.depth)) (sum_law c.args.depth) c.args.text.now c.args.tokens.now c.args.at c.args.seen.now c.sum.new.seen c.in-Ok.left.term c.in-Ok.left.shape c.in-Ok.left.next c.in-Ok.ensures (sym c.if-not-is_mark.ensures.is)

pub term-returns-in-Ok-sum : goal.term-returns-in-Ok-sum
term-returns-in-Ok-sum t c =
    term_read_of (term_class (unary_class c.args.depth)) c.args.text.now c.args.tokens.now c.args.at c.args.seen.now c.refuse-in-Ok-sum.new.self c.interval.result _ c.interval.ensures.ok c.interval.ensures.err
    (interval_read (unary_class c.args.depth) (sum_goes_on (unary_on c.args.depth)) (sum_law c.args.depth) c.args.text.now c.args.tokens.now c.args.at c.args.seen.now c.refuse.new.self c.refuse-in-Ok-sum.new.self c.in-Ok.left.term c.in-Ok-sum.right.term c.in-Ok.left.next c.in-Ok-sum.right.next
    (part_read (sum_class (unary_class c.args.depth)) c.args.text.now c.args.tokens.now c.args.at c.args.seen.now c.sum.new.seen c.refuse.new.self c.in-Ok.left.term c.in-Ok.left.shape c.in-Ok.left.next c.in-Ok.ensures c.refuse.ensures)
    (sym c.if-not-is_mark.ensures.is)
    (part_read (sum_class (unary_class c.args.depth)) c.args.text.now c.args.tokens.now (c.in-Ok.left.next + 1) c.refuse.new.self c.sum-2.new.seen c.refuse-in-Ok-sum.new.self c.in-Ok-sum.right.term c.in-Ok-sum.right.shape c.in-Ok-sum.right.next c.in-Ok-sum.ensures c.refuse-in-Ok-sum.ensures))

pub term-returns-in-Err-sum : goal.term-returns-in-Err-sum
term-returns-in-Err-sum t c =
    fails_along c.args.text.now c.args.tokens.now c.in-Err-sum.stop (sum_at c.args.depth (words_at c.args.text.now c.args.tokens.now (c.in-Ok.left.next + 1))) _
    (λ f h. right_fails (unary_class c.args.depth) (sum_goes_on (unary_on c.args.depth)) (sum_law c.args.depth) c.args.text.now c.args.tokens.now c.args.at c.in-Ok.left.next c.in-Ok.ensures.form f c.in-Ok.ensures.is (sym c.if-not-is_mark.ensures.is) h) c.in-Err-sum.ensures

pub sum-turns-init : goal.sum-turns-init
sum-turns-init t c =
    addends_start c.args.depth c.args.text.now c.args.tokens.now c.args.at c.args.seen.now c.refuse.new.self c.in-Ok.first.term c.in-Ok.first.next c.push.new.self
    (part_read (product_class (unary_class c.args.depth)) c.args.text.now c.args.tokens.now c.args.at c.args.seen.now c.product.new.seen c.refuse.new.self c.in-Ok.first.term c.in-Ok.first.shape c.in-Ok.first.next c.in-Ok.ensures c.refuse.ensures)
    (c.in-Ok-push.ensures.ok ∙ ap (λ z. z ++ part_of Plus c.in-Ok.first.term ∷ []) c.new-parts.ensures)

pub sum-turns-preserved : goal.sum-turns-preserved
sum-turns-preserved t c =
    addends_more c.args.depth c.args.text.now c.args.tokens.now c.args.at c.in-Ok.first.next c.args.seen.now c.turns.seen c.addend.new.seen c.turns.parts c.turns.next c.in-Some-adding.op c.in-Ok-addend.term c.in-Ok-addend.after c.push-in-Ok-addend.new.self c.turns.invariant
    c.in-Some-adding.ensures.is c.in-Ok-addend.ensures c.in-Ok-push-2.ensures.ok

pub sum-returns-in-Err-addend : goal.sum-returns-in-Err-addend
sum-returns-in-Err-addend t c =
    fails_along c.args.text.now c.args.tokens.now c.in-Err-addend.stop (product_at c.args.depth (words_at c.args.text.now c.args.tokens.now (c.turns.next + 1))) _
    (λ f h. addends_fail c.args.depth c.args.text.now c.args.tokens.now c.args.at c.in-Ok.first.next c.args.seen.now c.turns.seen c.turns.parts c.turns.next c.in-Some-adding.op f c.turns.invariant c.in-Some-adding.ensures.is h) c.in-Err-addend.ensures

pub sum-returns-in-None : goal.sum-returns-in-None
sum-returns-in-None t c =
    sum_one c.args.depth c.args.text.now c.args.tokens.now c.args.at c.args.seen.now c.product.new.seen c.in-Ok.first.term c.in-Ok.first.shape c.in-Ok.first.next c.in-Ok.ensures c.in-None.ensures.is
