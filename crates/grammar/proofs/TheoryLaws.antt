-- Theory atoms at every depth: read deeper where more may nest, and with their faults at the first place.
use Rattle.std.proofs.Common.{◌≡◌, ℕ, suc, Bool, true, false, ◌||◌, if◌then◌else◌, List, [], ◌∷◌, length, Option, Some, None, Ok, Err, refl, sym, ◌∙◌, ap, subst, arith}
use Rattle.std.specs.Option.{is_some}
use Rattle.symbols.specs.declared.rel.Rel.{Rel}
use Rattle.grammar.specs.declared.mark.Mark.TheVariants as m
use Rattle.grammar.specs.Word.{Word, Ends, is_word}
use Rattle.grammar.specs.Word as word
use Rattle.grammar.specs.Term.{AtomOf, AtomAt, UnaryAt, TermAt, plain, applied, negated, number, text, variable, anonymous, atom, unit, group, single, tuple, multiplying, adding, comma, atom_goes_on}
use Rattle.grammar.specs.Theory.{FullTerm, TheoryAt, relation, semicolon}
use Rattle.grammar.specs.Reading.{Expected, TooDeep, Outcome, Reader, and_then, expected, pair_with, maybe_with, kept_by, kept_with, starts_next, unary_at, term_at, level}
use Rattle.grammar.specs.TheoryReading.{is_name, is_negation, is_relation, negation, begins, begins_term, unary_atom, term_atom, compared, compared_by, condition_of, atom_with, compared_with, sides_with, plain_with, denied_with, condition_with, conditions_with, given_with, duration_with, places_with, element_of, element_with, elements_with, braces_with, guard_with, name_with, theory_of, theory_at}
use Rattle.grammar.specs.Faults.{IsExpected, IsTooDeep}
use Rattle.grammar.proofs.Lawful.{Refuses, ok_parts, ok_pair, bind_ok, bind_by, or_left, or_right, or_false}
use Rattle.grammar.proofs.Deeper.{Deeper, Shrinks, After, Within, lawful_shrinks, if_deeper, row_deeper, operand_deeper, operand_shrinks, args_deeper}
use Rattle.grammar.proofs.First.{Found, first_expected, first_deep}
use Rattle.grammar.proofs.Terms.{term_refused}
use Rattle.grammar.proofs.Levels.{operand_lawful, operand_only}
use Rattle.grammar.proofs.TermLaws.{unary_text, unary_on, term_law, terms_deeper}
use Rattle.grammar.proofs.Pairs.{Weak, weak_of, pair_deeper, maybe_deeper}
use Rattle.grammar.proofs.Marked.{marked_deeper, closed_deeper, mapped_deeper}
use Rattle.grammar.proofs.KindLaws.{signed_deeper, either_deeper, kept_deeper}
use Rattle.grammar.proofs.ConditionLaws.{atom_law, atom_term, term_on, term_atom_is, right_law, condition_law}
use Rattle.grammar.proofs.ElementLaws.{given_law, tail_read, tail_law, behind_read, behind_law, element_law, guarded_read, guarded_law, named_read, theory_text, theory_on, theory_law}
use Rattle.std.proofs.lemmas.List.{length-append}

pub weak_shrinks : {A : Type 0} (words : A → List Word → List Word) (goes_on : A → Word → Bool) (read : Reader A) → Weak words goes_on read → Shrinks read
weak_shrinks {A} words goes_on read law ts = by (read ts) refl
  where
    by : (r : Outcome A) → read ts ≡ r → Within (length ts) r
    by (Ok p) e = let s = law.sound ts p.0 p.1 e in let l = ap length s.0 in omega (arith, l, law.longer p.0 p.1)
    by (Err f) e = let s = law.stuck ts f e in let l = ap length s.split in let l2 = length-append s.front s.after in let l3 = s.place in omega (arith, l, l2, l3)

-- ---- an atom stays an atom
name_atom : (n : ℕ) (u : UnaryAt n) (rest : List Word) → starts_next is_name (unary_text n u rest) ≡ is_some (unary_atom u)
name_atom n (negated d) rest = refl
name_atom n (number k) rest = refl
name_atom n (text bytes) rest = refl
name_atom n (variable name) rest = refl
name_atom n anonymous rest = refl
name_atom n (atom (plain name)) rest = refl
name_atom n (atom (applied name args)) rest = refl
name_atom n (unit room) rest = refl
name_atom n (group t) rest = refl
name_atom n (single t) rest = refl
name_atom n (tuple t args) rest = refl

read_atom : (n : ℕ) (ts : List Word) (u : UnaryAt n) (rest : List Word) → unary_at n ts ≡ Ok (u, rest) → is_some (unary_atom u) ≡ starts_next is_name ts
read_atom n ts u rest h = sym (name_atom n u rest) ∙ ap (starts_next is_name) (sym ((operand_lawful n).sound ts u rest h).0)

pub atom_deeper : (n : ℕ) → Deeper (atom_with (level n)) (atom_with (level (suc n)))
atom_deeper n ts =
    if_deeper (starts_next is_name ts) _ _ _ _
    (kept_deeper (unary_at n) (unary_at (suc n)) unary_atom unary_atom (operand_deeper n) (λ us a a2 rest h g. read_atom n us a rest h ∙ sym (read_atom (suc n) us a2 rest g)) ts)
    refl

-- behind an atom that is a term no sign stands
signs_on : Word → Bool
signs_on w = (is_some (multiplying w) || is_some (adding w)) || is_word m.Dots w

atom_part : (n : ℕ) (a : AtomAt n) (rest : List Word) → Ends (term_on n (atom_term n a)) rest → Ends (atom_goes_on a) rest × Ends signs_on rest
unfolding signs_on
atom_part n a [] h = (tt, tt)
atom_part n a (w ∷ rest) h =
    let dots = or_right ((atom_goes_on a w || is_some (multiplying w)) || is_some (adding w)) (is_word m.Dots w) h in
    let sum = or_left ((atom_goes_on a w || is_some (multiplying w)) || is_some (adding w)) (is_word m.Dots w) h in
    let product = or_left (atom_goes_on a w || is_some (multiplying w)) (is_some (adding w)) sum in (
      or_left (atom_goes_on a w) (is_some (multiplying w)) product,
      or_false (is_some (multiplying w) || is_some (adding w)) (is_word m.Dots w)
          (or_false (is_some (multiplying w)) (is_some (adding w)) (or_right (atom_goes_on a w) (is_some (multiplying w)) product) (or_right (atom_goes_on a w || is_some (multiplying w)) (is_some (adding w)) sum)) dots,
    )

atom_whole : (n : ℕ) (a : AtomAt n) (rest : List Word) → Ends (atom_goes_on a) rest → Ends signs_on rest → Ends (term_on n (atom_term n a)) rest
unfolding signs_on
atom_whole n a [] h g = tt
atom_whole n a (w ∷ rest) h g =
    let dots = or_right (is_some (multiplying w) || is_some (adding w)) (is_word m.Dots w) g in
    let both = or_left (is_some (multiplying w) || is_some (adding w)) (is_word m.Dots w) g in
    or_false ((atom_goes_on a w || is_some (multiplying w)) || is_some (adding w)) (is_word m.Dots w)
    (or_false (atom_goes_on a w || is_some (multiplying w)) (is_some (adding w)) (or_false (atom_goes_on a w) (is_some (multiplying w)) h (or_left (is_some (multiplying w)) (is_some (adding w)) both)) (or_right (is_some (multiplying w)) (is_some (adding w)) both)) dots

-- the words of a term are read as an atom exactly where it is one
atom_of_term : (n : ℕ) (ts : List Word) (a : AtomAt n) (rest : List Word) → term_at n ts ≡ Ok (atom_term n a, rest) → (atom_with (level n) ts ≡ Ok (a, rest)) × Ends signs_on rest
atom_of_term n ts a rest h =
    let s = (term_law n).sound ts (atom_term n a) rest h in
    let e = atom_part n a rest s.1 in
    (ap (atom_with (level n)) s.0 ∙ (atom_law n).complete a rest e.0, e.1)

term_of_atom : (n : ℕ) (ts : List Word) (a : AtomAt n) (rest : List Word) → atom_with (level n) ts ≡ Ok (a, rest) → Ends signs_on rest → term_at n ts ≡ Ok (atom_term n a, rest)
term_of_atom n ts a rest h e =
    let s = (atom_law n).sound ts a rest h in
    ap (term_at n) s.0 ∙ (term_law n).complete (atom_term n a) rest (atom_whole n a rest s.1 e)

same_form : (n : ℕ) (ts : List Word) (t u : TermAt n) (rest last : List Word) → term_at n ts ≡ Ok (t, rest) → term_at n ts ≡ Ok (u, last) → t ≡ u
same_form n ts t u rest last h g = (ok_parts t u rest last (sym h ∙ g)).0

deep_refuses : (n : ℕ) (ts : List Word) (k : ℕ) → atom_with (level n) ts ≡ Err (TooDeep k) → Refuses (unary_at n) ts
deep_refuses n ts k h y g = by (starts_next is_name ts) h
  where
    two : (o : Option (AtomAt n)) → kept_by o y.1 ≡ Err (TooDeep k) → ⊥
    two None e = cc
    two (Some a) e = cc

    by : (b : Bool) → (if b then kept_with unary_atom (unary_at n) ts else expected ts) ≡ Err (TooDeep k) → ⊥
    by true e = two (unary_atom y.0) (sym (bind_by (unary_at n ts) (λ a rest. kept_by (unary_atom a) rest) y.0 y.1 g) ∙ e)
    by false e = cc

term_same : (n : ℕ) (ts : List Word) (t : TermAt n) (u : TermAt (suc n)) (rest : List Word) → term_at n ts ≡ Ok (t, rest) → term_at (suc n) ts ≡ Ok (u, rest) → is_some (term_atom t) ≡ is_some (term_atom u)
term_same n ts t u rest h g = by (term_atom t) refl (term_atom u) refl
  where
    up : (a : AtomAt n) → term_atom t ≡ Some a → is_some (term_atom u) ≡ true
    up a q =
        let is = atom_of_term n ts a rest (h ∙ ap (λ z. Ok (z, rest)) (term_atom_is n t a q)) in
        let above = subst (λ z. After z (atom_with (level (suc n)) ts)) is.0 (atom_deeper n ts) in
        ap (λ z. is_some (term_atom z)) (same_form (suc n) ts u (atom_term (suc n) above.0) rest rest g (term_of_atom (suc n) ts above.0 rest above.1 is.1))

    down : (b : AtomAt (suc n)) → term_atom u ≡ Some b → term_atom t ≡ None → ⊥
    down b q none = three (atom_with (level n) ts) refl (atom_deeper n ts)
      where
        is : (atom_with (level (suc n)) ts ≡ Ok (b, rest)) × Ends signs_on rest
        is = atom_of_term (suc n) ts b rest (g ∙ ap (λ z. Ok (z, rest)) (term_atom_is (suc n) u b q))

        three : (r : Outcome (AtomAt n)) → atom_with (level n) ts ≡ r → After r (atom_with (level (suc n)) ts) → ⊥
        three (Ok p) e k =
            let same = (ok_parts k.0 b p.1 rest (sym k.1 ∙ is.0)).1 in
            let read = e ∙ ap (λ z. Ok (p.0, z)) same in
            let form = same_form n ts t (atom_term n p.0) rest rest h (term_of_atom n ts p.0 rest read is.1) in
            let some_none = sym (ap term_atom form) ∙ none in cc
        three (Err (Expected j)) e k = let clash = sym k ∙ is.0 in cc
        three (Err (TooDeep j)) e k = term_refused (unary_text n) (unary_on n) (unary_at n) (operand_lawful n) (operand_only n) ts (deep_refuses n ts j e) (t, rest) h

    by : (o : Option (AtomAt n)) → term_atom t ≡ o → (o2 : Option (AtomAt (suc n))) → term_atom u ≡ o2 → is_some (term_atom t) ≡ is_some (term_atom u)
    by (Some a) q o2 q2 = ap is_some q ∙ sym (up a q)
    by None q None q2 = ap is_some q ∙ sym (ap is_some q2)
    by None q (Some b) q2 = absurd (down b q2 q)

maybe_some : {A : Type 0} (starts : Word → Bool) (read : Reader A) (ts : List Word) (o : Option A) (rest : List Word) → maybe_with starts read ts ≡ Ok (o, rest) → is_some o ≡ starts_next starts ts
maybe_some {A} starts read ts o rest h = by (starts_next starts ts) h
  where
    by : (b : Bool) → (if b then and_then (read ts) (λ a after. ok_pair (Some a) after) else Ok (None, ts)) ≡ Ok (o, rest) → is_some o ≡ b
    by true e = let c = bind_ok (read ts) _ (o, rest) e in ap is_some (sym (ok_parts (Some c.0) o c.1 rest c.3).0)
    by false e = ap is_some (sym (ok_parts {A = Option A} None o ts rest e).0)

-- ---- a term, and a form that may stand behind it
module _ {A : ℕ → Type 0} (starts : Word → Bool) (behind : (n : ℕ) → Reader (A n)) where
  abbrev parts_with : (n : ℕ) → Reader (TermAt n × Option (A n))
  parts_with n = pair_with (term_at n) (maybe_with starts (behind n))

  -- the second form stands there, or the term is an atom
  abbrev holds_one : (n : ℕ) → TermAt n × Option (A n) → Bool
  holds_one n a = is_some a.1 || is_some (term_atom a.0)

  record Parts (n : ℕ) (ts : List Word) (a : TermAt n × Option (A n)) : Type 0 where
    middle : List Word
    form : TermAt n
    reads : term_at n ts ≡ Ok (form, middle)
    kept : holds_one n a ≡ (starts_next starts middle || is_some (term_atom form))

  parts_are : (n : ℕ) (ts : List Word) (a : TermAt n × Option (A n)) (rest : List Word) → parts_with n ts ≡ Ok (a, rest) → Parts n ts a
  parts_are n ts a rest h =
      let b = bind_ok (term_at n ts) _ (a, rest) h in
      let c = bind_ok (maybe_with starts (behind n) b.1) _ (a, rest) b.3 in
      let p = ok_parts (b.0, c.0) a c.1 rest c.3 in
      record {
        middle = b.1;
        form = b.0;
        reads = b.2;
        kept = ap (holds_one n) (sym p.0) ∙ ap (λ z. z || is_some (term_atom b.0)) (maybe_some starts (behind n) b.1 c.0 c.1 c.2);
      }

  pub parts_same : (n : ℕ) (ts : List Word) (a : TermAt n × Option (A n)) (a2 : TermAt (suc n) × Option (A (suc n))) (rest : List Word) → parts_with n ts ≡ Ok (a, rest) → parts_with (suc n) ts ≡ Ok (a2, rest)
      → (is_some a.1 || is_some (term_atom a.0)) ≡ (is_some a2.1 || is_some (term_atom a2.0))
  parts_same n ts a a2 rest h g =
      let s = parts_are n ts a rest h in
      let u = parts_are (suc n) ts a2 rest g in
      let above = subst (λ z. After z (term_at (suc n) ts)) s.reads (terms_deeper n ts) in
      let same = (ok_parts u.form above.0 u.middle s.middle (sym u.reads ∙ above.1)).1 in
      let forms = term_same n ts s.form u.form s.middle s.reads (u.reads ∙ ap (λ z. Ok (u.form, z)) same) in
      s.kept ∙ ap (λ z. starts_next starts s.middle || z) forms ∙ ap (λ z. starts_next starts z || is_some (term_atom u.form)) (sym same) ∙ sym u.kept

-- ---- comparisons
compared_some : {D R : Type 0} (t : FullTerm D R) (found : Option (AtomOf D)) (o : Option (Rel × FullTerm D R)) → is_some (compared_by t found o) ≡ (is_some o || is_some found)
compared_some t found (Some r) = refl
compared_some t (Some a) None = refl
compared_some t None None = refl

pub compared_deeper : (n : ℕ) → Deeper (compared_with (level n)) (compared_with (level (suc n)))
compared_deeper n = signed_deeper relation (term_at n) (term_at (suc n)) (terms_deeper n)

right_deeper : (n : ℕ) → Deeper (guard_with (level n)) (guard_with (level (suc n)))
right_deeper n = maybe_deeper is_relation (compared_with (level n)) (compared_with (level (suc n))) (compared_deeper n)

sides_deeper : (n : ℕ) → Deeper (sides_with (level n)) (sides_with (level (suc n)))
sides_deeper n = pair_deeper (term_at n) (term_at (suc n)) (guard_with (level n)) (guard_with (level (suc n))) (terms_deeper n) (right_deeper n) (weak_shrinks _ _ _ (right_law (suc n)))

sides_same : (n : ℕ) (ts : List Word) (a : TermAt n × Option (Rel × TermAt n)) (a2 : TermAt (suc n) × Option (Rel × TermAt (suc n))) (rest : List Word) → sides_with (level n) ts ≡ Ok (a, rest)
    → sides_with (level (suc n)) ts ≡ Ok (a2, rest) → is_some (compared a) ≡ is_some (compared a2)
sides_same n ts a a2 rest h g =
    compared_some a.0 (term_atom a.0) a.1 ∙ parts_same is_relation (λ n. compared_with (level n)) n ts a a2 rest h g ∙ sym (compared_some a2.0 (term_atom a2.0) a2.1)

pub plain_deeper : (n : ℕ) → Deeper (plain_with (level n)) (plain_with (level (suc n)))
plain_deeper n = kept_deeper (sides_with (level n)) (sides_with (level (suc n))) compared compared (sides_deeper n) (sides_same n)

pub condition_deeper : (n : ℕ) → Deeper (condition_with (level n)) (condition_with (level (suc n)))
condition_deeper n =
    mapped_deeper condition_of condition_of _ _
    (either_deeper is_negation (denied_with (level n)) (denied_with (level (suc n))) (plain_with (level n)) (plain_with (level (suc n))) (signed_deeper negation (atom_with (level n)) (atom_with (level (suc n))) (atom_deeper n)) (plain_deeper n))

conditions_deeper : (n : ℕ) → Deeper (conditions_with (level n)) (conditions_with (level (suc n)))
conditions_deeper n = row_deeper (condition_with (level n)) (condition_with (level (suc n))) comma (condition_deeper n) (lawful_shrinks _ _ _ (condition_law (suc n)))

-- ---- elements
pub given_deeper : (n : ℕ) → Deeper (given_with (level n)) (given_with (level (suc n)))
given_deeper n = maybe_deeper (is_word m.Colon) _ _ (marked_deeper m.Colon _ _ (maybe_deeper begins _ _ (conditions_deeper n)))

duration_deeper : (n : ℕ) → Deeper (duration_with (level n)) (duration_with (level (suc n)))
duration_deeper n = maybe_deeper (is_word m.At) _ _ (marked_deeper m.At _ _ (terms_deeper n))

places_deeper : (n : ℕ) → Deeper (places_with (level n)) (places_with (level (suc n)))
places_deeper n = maybe_deeper (is_word m.Comma) _ _ (marked_deeper m.Comma _ _ (args_deeper (unary_at n) (unary_at (suc n)) (operand_deeper n) (operand_shrinks (suc n))))

tail_deeper : (n : ℕ) → Deeper (tail_read n) (tail_read (suc n))
tail_deeper n = pair_deeper _ _ _ _ (places_deeper n) (given_deeper n) (weak_shrinks _ _ _ (given_law (suc n)))

behind_deeper : (n : ℕ) → Deeper (behind_read n) (behind_read (suc n))
behind_deeper n = pair_deeper _ _ _ _ (duration_deeper n) (tail_deeper n) (weak_shrinks _ _ _ (tail_law (suc n)))

pub element_deeper : (n : ℕ) → Deeper (element_with (level n)) (element_with (level (suc n)))
element_deeper n = mapped_deeper (element_of (level n)) (element_of (level (suc n))) _ _ (pair_deeper _ _ _ _ (terms_deeper n) (behind_deeper n) (weak_shrinks _ _ _ (behind_law (suc n))))

elements_deeper : (n : ℕ) → Deeper (elements_with (level n)) (elements_with (level (suc n)))
elements_deeper n = maybe_deeper begins_term _ _ (row_deeper (element_with (level n)) (element_with (level (suc n))) semicolon (element_deeper n) (lawful_shrinks _ _ _ (element_law (suc n))))

braces_deeper : (n : ℕ) → Deeper (braces_with (level n)) (braces_with (level (suc n)))
braces_deeper n = marked_deeper m.OpenBrace _ _ (closed_deeper m.CloseBrace _ _ (elements_deeper n))

guarded_deeper : (n : ℕ) → Deeper (guarded_read n) (guarded_read (suc n))
guarded_deeper n = pair_deeper _ _ _ _ (braces_deeper n) (right_deeper n) (weak_shrinks _ _ _ (right_law (suc n)))

pub name_deeper : Deeper name_with name_with
name_deeper ts = by (name_with ts) refl
  where
    by : (r : Outcome (List ℕ)) → name_with ts ≡ r → After r (name_with ts)
    by (Ok p) e = (p.0, e)
    by (Err (Expected k)) e = e
    by (Err (TooDeep k)) e = absurd (never ts e)
      where
        never : (us : List Word) → name_with us ≡ Err (TooDeep k) → ⊥
        never [] e = cc
        never (w ∷ us) e = one w e
          where
            one : (w : Word) → name_with (w ∷ us) ≡ Err (TooDeep k) → ⊥
            one (word.name name) e = cc
            one _ e = cc

named_deeper : (n : ℕ) → Deeper (named_read n) (named_read (suc n))
named_deeper n = pair_deeper _ _ _ _ name_deeper (guarded_deeper n) (lawful_shrinks _ _ _ (guarded_law (suc n)))

pub theory_deeper : (n : ℕ) → Deeper (theory_at n) (theory_at (suc n))
theory_deeper n = mapped_deeper (theory_of (level n)) (theory_of (level (suc n))) _ _ (marked_deeper m.And _ _ (named_deeper n))

-- ---- faults
theory_weak : (n : ℕ) → Weak (theory_text n) (theory_on n) (theory_at n)
theory_weak n = weak_of (theory_text n) (theory_on n) (theory_at n) (theory_law n)

pub theory_expected : (n : ℕ) (ts : List Word) (k : ℕ) → theory_at n ts ≡ Err (Expected k) → Found (IsExpected TheoryAt theory_text n) ts k
theory_expected = first_expected TheoryAt theory_text theory_on theory_at theory_weak theory_deeper

pub theory_deep : (n : ℕ) (ts : List Word) (k : ℕ) → theory_at n ts ≡ Err (TooDeep k) → Found (IsTooDeep TheoryAt theory_text n) ts k
theory_deep = first_deep TheoryAt theory_text theory_on theory_at theory_weak theory_deeper

pub one_theory : (n : ℕ) (t u : TheoryAt n) (behind beyond : List Word) → theory_text n t behind ≡ theory_text n u beyond → Ends (theory_on n t) behind → Ends (theory_on n u) beyond → (t ≡ u) × (behind ≡ beyond)
one_theory n t u behind beyond same ends ends2 =
    ok_parts t u behind beyond (sym ((theory_law n).complete t behind ends) ∙ ap (theory_at n) same ∙ (theory_law n).complete u beyond ends2)
