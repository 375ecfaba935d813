-- What is kept of theory atoms.
use Rattle.std.proofs.Common.{◌≡◌, ℕ, ◌+◌, true, false, List, [], ◌∷◌, ◌++◌, length, drop, Option, Some, None, Ok, Err, refl, sym, ◌∙◌, ap, subst, arith}
use Rattle.lexer.specs.declared.token.Token.{Token}
use Rattle.symbols.specs.declared.rel.Rel.{Rel}
use Rattle.syntax_tree.specs.declared.literal.Guard.{Guard}
use Rattle.syntax_tree.specs.declared.literal.TheoryElement.{TheoryElement}
use Rattle.syntax_tree.specs.declared.literal.TheoryName.{TheoryName}
use Rattle.grammar.specs.declared.mark.Mark.{Mark}
use Rattle.grammar.specs.declared.mark.Mark.TheVariants as m
use Rattle.grammar.specs.Word.{Word, words_at, is_next}
use Rattle.grammar.specs.Word as word
use Rattle.grammar.specs.Row.{Row}
use Rattle.grammar.specs.Sight.{Sighting, size, operand_bads}
use Rattle.grammar.specs.Shape.{operand_shape}
use Rattle.grammar.specs.Term.{TermAt, Operand, Room, operand_words}
use Rattle.grammar.specs.Theory.{ElementOf}
use Rattle.grammar.specs.StatementTree.{theory_name}
use Rattle.grammar.specs.Check.{operand_is_difference, elements_bads, guard_bads}
use Rattle.grammar.specs.Reading.{Fault, Expected, Reader, before, starts_next, pair_with, marked_with, closed_with, level}
use Rattle.grammar.specs.TheoryReading.{is_name, name_with, elements_with, braces_with, guard_with, theory_of, theory_at}
use Rattle.grammar.proofs.Lawful.{bind_by}
use Rattle.grammar.proofs.ElementLaws.{elements_law}
use Rattle.theory_grammar.specs.declared.seen.Seen.{Seen}
use Rattle.theory_grammar.specs.declared.theory.AtomParts.{AtomParts}
use Rattle.theory_grammar.specs.State.{least, named, seen_places, Extends}
use Rattle.theory_grammar.specs.TheoryState.{Takes, elements_class, guard_class, maybe_bads}
use Rattle.theory_grammar.specs.TheoryParts.{ReadsTheory}
use Rattle.theory_grammar.proofs.StateLemmas.{named_append, named_extends, extends_more, places_join, words_next}
use Rattle.theory_grammar.proofs.TermReads.{then_fails}
use Rattle.theory_grammar.proofs.PartReads.{behind_form, marked_fails, pair_second_fails}

abbrev Elements : Type 0
Elements = Option (Row (ElementOf (Operand 64) (Room 64)) (Unit {0}))

abbrev Guards : Type 0
Guards = Option (Rel × TermAt 64)

-- what stands behind a name, and behind `&`
abbrev behind : Reader (Elements × Guards)
behind = pair_with (braces_with (level 64)) (guard_with (level 64))

abbrev inside : Reader (List ℕ × (Elements × Guards))
inside = pair_with name_with behind

no_name : (ts : List Word) → starts_next is_name ts ≡ false → name_with ts ≡ Err (Expected (length ts))
no_name [] h = refl
no_name (word.name bytes ∷ ts) h = absurd cc
no_name (word.numeral n ∷ ts) h = refl
no_name (word.variable bytes ∷ ts) h = refl
no_name (word.anonymous ∷ ts) h = refl
no_name (word.string bytes ∷ ts) h = refl
no_name (word.negation ∷ ts) h = refl
no_name (word.const_word ∷ ts) h = refl
no_name (word.show_word ∷ ts) h = refl
no_name (word.mark mark ∷ ts) h = refl

absent : {A : Type 0} (mark : Mark) (read : Reader A) (ts : List Word) → is_next mark ts ≡ false → marked_with mark read ts ≡ Err (Expected (length ts))
absent mark read ts h = rw h refl

no_end : {A : Type 0} (mark : Mark) (a : A) (ts : List Word) → is_next mark ts ≡ false → before mark a ts ≡ Err (Expected (length ts))
no_end mark a ts h = rw h refl

an_end : {A : Type 0} (mark : Mark) (a : A) (ts : List Word) → is_next mark ts ≡ true → before mark a ts ≡ Ok (a, drop 1 ts)
an_end mark a ts h = rw h refl

-- bad places, by the forms
elements_bad : (name : TheoryName) (o : Elements) (at : ℕ) → maybe_bads name o at ≡ elements_bads (operand_words 64) (operand_shape 64) (operand_bads 64) (operand_is_difference 64) name o at
elements_bad name None at = refl
elements_bad name (Some row) at = refl

guard_bad : (o : Guards) (at : ℕ) → guard_class.bads o at ≡ guard_bads (operand_words 64) (operand_shape 64) (operand_bads 64) (operand_is_difference 64) o at
guard_bad None at = refl
guard_bad (Some guard) at = refl

module _ (text : List ℕ) (tokens : List Token) where
  abbrev here : ℕ → List Word
  here at = words_at text tokens at

  present : {A : Type 0} (mark : Mark) (read : Reader A) (at : ℕ) → is_next mark (here at) ≡ true → marked_with mark read (here at) ≡ read (here (at + 1))
  present mark read at h = (let e : marked_with mark read (here at) ≡ read (drop 1 (here at)) = rw h refl in e) ∙ ap read (words_next text tokens at)

  -- ---- what fails
  pub and_absent : (at : ℕ) → is_next m.And (here at) ≡ false → theory_at 64 (here at) ≡ Err (Expected (length (here at)))
  and_absent at h = then_fails (marked_with m.And inside (here at)) _ (Expected (length (here at))) (absent m.And inside (here at) h)

  inside_fails : (at : ℕ) (f : Fault) → is_next m.And (here at) ≡ true → inside (here (at + 1)) ≡ Err f → theory_at 64 (here at) ≡ Err f
  inside_fails at f there h = then_fails (marked_with m.And inside (here at)) _ f (marked_fails text tokens m.And inside at f there h)

  pub name_absent : (at : ℕ) → is_next m.And (here at) ≡ true → starts_next is_name (here (at + 1)) ≡ false → theory_at 64 (here at) ≡ Err (Expected (length (here (at + 1))))
  name_absent at there h = inside_fails at (Expected (length (here (at + 1)))) there (then_fails (name_with (here (at + 1))) _ (Expected (length (here (at + 1)))) (no_name (here (at + 1)) h))

  module _ (at : ℕ) (bytes : List ℕ) (there : is_next m.And (here at) ≡ true) (spelled : here (at + 1) ≡ word.name bytes ∷ here (at + 1 + 1)) where
    on : here (at + 1 + 1) ≡ here (at + 2)
    on = ap here (omega arith)

    name_is : name_with (here (at + 1)) ≡ Ok (bytes, here (at + 2))
    name_is = ap name_with spelled ∙ ap (λ z. Ok (bytes, z)) on

    behind_fails : (f : Fault) → behind (here (at + 2)) ≡ Err f → theory_at 64 (here at) ≡ Err f
    behind_fails f h = inside_fails at f there (pair_second_fails text tokens name_with behind (at + 1) (at + 2) bytes f name_is h)

    pub open_absent : is_next m.OpenBrace (here (at + 2)) ≡ false → theory_at 64 (here at) ≡ Err (Expected (length (here (at + 2))))
    open_absent h =
        behind_fails (Expected (length (here (at + 2)))) (then_fails (braces_with (level 64) (here (at + 2))) _ (Expected (length (here (at + 2)))) (absent m.OpenBrace (closed_with m.CloseBrace (elements_with (level 64))) (here (at + 2)) h))

    module _ (opens : is_next m.OpenBrace (here (at + 2)) ≡ true) where
      opened_by : braces_with (level 64) (here (at + 2)) ≡ closed_with m.CloseBrace (elements_with (level 64)) (here (at + 3))
      opened_by = present m.OpenBrace (closed_with m.CloseBrace (elements_with (level 64))) (at + 2) opens ∙ ap (λ n. closed_with m.CloseBrace (elements_with (level 64)) (here n)) (let e : at + 2 + 1 ≡ at + 3 = omega arith in e)

      pub elements_fail : (f : Fault) → elements_with (level 64) (here (at + 3)) ≡ Err f → theory_at 64 (here at) ≡ Err f
      elements_fail f h = behind_fails f (then_fails (braces_with (level 64) (here (at + 2))) _ f (opened_by ∙ then_fails (elements_with (level 64) (here (at + 3))) _ f h))

      module _ (o : Elements) (brace : ℕ) (is : elements_with (level 64) (here (at + 3)) ≡ Ok (o, here brace)) where
        pub close_absent : is_next m.CloseBrace (here brace) ≡ false → theory_at 64 (here at) ≡ Err (Expected (length (here brace)))
        close_absent h =
            behind_fails (Expected (length (here brace))) (then_fails (braces_with (level 64) (here (at + 2))) _ (Expected (length (here brace)))
            (opened_by ∙ bind_by (elements_with (level 64) (here (at + 3))) _ o (here brace) is ∙ no_end m.CloseBrace o (here brace) h))

        module _ (closes : is_next m.CloseBrace (here brace) ≡ true) where
          braces_are : braces_with (level 64) (here (at + 2)) ≡ Ok (o, here (brace + 1))
          braces_are = opened_by ∙ bind_by (elements_with (level 64) (here (at + 3))) _ o (here brace) is ∙ an_end m.CloseBrace o (here brace) closes ∙ ap (λ z. Ok (o, z)) (words_next text tokens brace)

          pub guard_fail : (f : Fault) → guard_with (level 64) (here (brace + 1)) ≡ Err f → theory_at 64 (here at) ≡ Err f
          guard_fail f h = behind_fails f (pair_second_fails text tokens (braces_with (level 64)) (guard_with (level 64)) (at + 2) (brace + 1) o f braces_are h)

          theory_is : (g : Guards) (next : ℕ) → guard_with (level 64) (here (brace + 1)) ≡ Ok (g, here next) → theory_at 64 (here at) ≡ Ok (theory_of (level 64) (bytes, (o, g)), here next)
          theory_is g next h =
              bind_by (marked_with m.And inside (here at)) _ (bytes, (o, g)) (here next)
              (present m.And inside at there ∙ bind_by (name_with (here (at + 1))) _ bytes (here (at + 2)) name_is
              ∙ bind_by (behind (here (at + 2))) _ (o, g) (here next) (bind_by (braces_with (level 64) (here (at + 2))) _ o (here (brace + 1)) braces_are ∙ bind_by (guard_with (level 64) (here (brace + 1))) _ g (here next) h))

  -- ---- what is read
  pub theory_read : (at : ℕ) (bytes : List ℕ) (old mid clear new : Seen) (name : TheoryName) (found : List TheoryElement) (brace : ℕ) (in_elements : Option ℕ) (guard : Option Guard) (next : ℕ) (parts : AtomParts)
      → is_next m.And (here at) ≡ true → here (at + 1) ≡ word.name bytes ∷ here (at + 1 + 1) → is_next m.OpenBrace (here (at + 2)) ≡ true → old.bad ≡ None → name ≡ theory_name bytes
      → Takes (elements_class name) text tokens (at + 3) old mid found brace → is_next m.CloseBrace (here brace) ≡ true → in_elements ≡ mid.bad → clear ≡ record mid { bad = None }
      → Takes guard_class text tokens (brace + 1) clear new guard next
      → parts ≡ record { name = name; elements = found; in_elements = in_elements; brace = brace; guard = guard; in_guard = new.bad; next = next } → ReadsTheory text tokens at old new parts
  theory_read at bytes old mid clear new name found brace in_elements guard next parts there spelled opens empty same e closes kept cleared g made =
      subst (ReadsTheory text tokens at old new) (sym made) (record {
        form = theory_of (level 64) (bytes, (e.form, g.form));
        is = theory_is at bytes there spelled opens e.form brace e.is closes g.form next g.is;
        begun = let f = e.forward in let h = g.forward in omega (arith, f, h);
        closed = let h = g.forward in omega (arith, h);
        within = g.within;
        brace = place;
        name = same;
        names = g.names ∙ ap (λ s. named s.names (guarded (brace + 1))) cleared ∙ ap (λ z. named z (guarded (brace + 1))) e.names ∙ sym (named_append old.names first (guarded (brace + 1))) ∙ ap (λ n. named old.names (first ++ guarded (n + 1))) place;
        places = places_join tokens old.names mid.names old.places mid.places new.places first (guarded (brace + 1)) e.names e.places (g.places ∙ ap (λ s. s.places ++ seen_places tokens s.names (guarded (brace + 1))) cleared)
            ∙ ap (λ n. old.places ++ seen_places tokens old.names (first ++ guarded (n + 1))) place;
        in_elements = kept ∙ e.bad ∙ ap (λ b. least b ((elements_class name).bads e.form (at + 3))) empty ∙ ap (least None) (elements_bad name e.form (at + 3));
        in_guard = g.bad ∙ ap (λ s. least s.bad (guard_class.bads g.form (brace + 1))) cleared ∙ ap (least None) (guard_bad g.form (brace + 1));
        elements = λ later h. e.tree later (extends_more mid.names new.names later (subst (Extends mid.names) (sym (g.names ∙ ap (λ s. named s.names (guarded (brace + 1))) cleared)) (named_extends mid.names (guarded (brace + 1)))) h);
        guard = λ later h. g.tree later h;
      })
    where
      first : List Sighting
      first = (elements_class name).sights e.form (at + 3)

      guarded : ℕ → List Sighting
      guarded = guard_class.sights g.form

      place : brace ≡ at + 3 + size (elements_class name).words e.form
      place = behind_form text tokens (elements_class name) _ (elements_law 64) (at + 3) old mid found brace e
