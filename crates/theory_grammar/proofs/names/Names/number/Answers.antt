use Rattle.std.proofs.Common.{◌∙◌, ◌++◌, ◌∷◌, [], ap}
use Rattle.std.proofs.lemmas.Bool.{eq-eqb}
use Rattle.grammar.specs.Tree.{number_of}
use Rattle.theory_grammar.proofs.StateLemmas.{name_added, if_ok_along}
use Rattle.theory_grammar.proofs.names.Names.number.Goals as goal

pub returns : goal.returns
returns c =
    if_ok_along c.numbered-2.result _ _ (λ number e. name_added c.args.self.now c.push.new.self c.args.name.now c.in_ok-found.found number
    (c.in_ok-found.ensures.value ∙ ap (λ names. number_of names c.args.name.now) (c.items.ensures ∙ c.self.view_is))
    (eq-eqb c.in_ok-found.found 0 c.if-found-ne0.false)
    (c.in_ok-push.ensures.ok ∙ (λ i. c.self.view_is i ++ record { text = c.in_ok-text.ensures i } ∷ [])) (e ∙ c.len.ensures)) c.numbered-2.ensures
