-- Products, sums, terms and argument lists are lawful where their operands are.
use Rattle.std.proofs.Common.{◌≡◌, ◌<◌, Bool, true, false, ◌||◌, ◌⊎◌, inl, inr, List, [], ◌∷◌, ◌++◌, length, drop, None, Ok, Err, refl, sym, ◌∙◌, ap, subst, arith, if◌then◌else◌}
use Rattle.std.specs.Option.{is_some}
use Rattle.grammar.specs.declared.mark.Mark.{Mark}
use Rattle.grammar.specs.declared.mark.Mark.TheVariants as m
use Rattle.grammar.specs.Word.{Word, is_word, is_next}
use Rattle.grammar.specs.Word as word
use Rattle.grammar.specs.Row.{last_item}
use Rattle.grammar.specs.Term.{Adding, Multiplying, adding, multiplying, comma, adding_word, multiplying_word, comma_word, ProductOf, SumOf, TermOf, ArgsOf, alone, interval, product_words, sum_words, term_words, args_words, product_goes_on, sum_goes_on, term_goes_on, args_go_on}
use Rattle.grammar.specs.Term as term
use Rattle.grammar.specs.Reading.{Fault, Reader, and_then, product_with, sum_with, term_with, args_with}
use Rattle.grammar.proofs.WordLemmas.{the_next, adding_is, adding_only, multiplying_is, multiplying_only, comma_is, comma_only}
use Rattle.grammar.specs.Word.{Ends}
use Rattle.grammar.proofs.Lawful.{Refuses, Stuck, Lawful, ok_pair, ok_parts, bind_ok, bind_err, bind_by, or_left, or_right, or_false, stuck_inside}
use Rattle.grammar.proofs.Rows.{row_lawful, row_refused_item}

-- words that end with a mark too
pub ends_parts : (goes_on : Word → Bool) (mark : Mark) (rest : List Word) → Ends (λ w. goes_on w || is_word mark w) rest → Ends goes_on rest × (is_next mark rest ≡ false)
ends_parts goes_on mark [] h = (tt, refl)
ends_parts goes_on mark (w ∷ rest) h = (or_left (goes_on w) (is_word mark w) h, or_right (goes_on w) (is_word mark w) h)

pub ends_both : (goes_on : Word → Bool) (mark : Mark) (rest : List Word) → Ends goes_on rest → is_next mark rest ≡ false → Ends (λ w. goes_on w || is_word mark w) rest
ends_both goes_on mark [] h g = tt
ends_both goes_on mark (w ∷ rest) h g = or_false (goes_on w) (is_word mark w) h g

-- U are operands with which nothing goes on but a parenthesis
module _ {U : Type 0} (words : U → List Word → List Word) (goes_on : U → Word → Bool) (read : Reader U) (law : Lawful words goes_on read)
    (only_open : (u : U) (w : Word) → is_word m.Open w ≡ false → goes_on u w ≡ false) where
  product_apart : (u : U) (s : Multiplying) → goes_on u (multiplying_word s) ≡ false
  product_apart u term.times = only_open u (word.mark m.Times) refl
  product_apart u term.divide = only_open u (word.mark m.Divide) refl
  product_apart u term.remainder = only_open u (word.mark m.Remainder) refl

  pub product_lawful : Lawful (product_words words) (product_goes_on goes_on) (product_with read)
  product_lawful = row_lawful words goes_on read law multiplying_word multiplying multiplying_is multiplying_only product_apart

  pub product_only : (p : ProductOf U) (w : Word) → is_word m.Open w ≡ false → multiplying w ≡ None → product_goes_on goes_on p w ≡ false
  product_only p w h g = or_false (goes_on (last_item p.first p.rest) w) (is_some (multiplying w)) (only_open (last_item p.first p.rest) w h) (ap is_some g)

  sum_apart : (p : ProductOf U) (s : Adding) → product_goes_on goes_on p (adding_word s) ≡ false
  sum_apart p term.plus = product_only p (word.mark m.Plus) refl refl
  sum_apart p term.minus = product_only p (word.mark m.Minus) refl refl

  pub sum_lawful : Lawful (sum_words words) (sum_goes_on goes_on) (sum_with read)
  sum_lawful = row_lawful (product_words words) (product_goes_on goes_on) (product_with read) product_lawful adding_word adding adding_is adding_only sum_apart

  pub sum_only : (s : SumOf U) (w : Word) → is_word m.Open w ≡ false → multiplying w ≡ None → adding w ≡ None → sum_goes_on goes_on s w ≡ false
  sum_only s w h g k = or_false (product_goes_on goes_on (last_item s.first s.rest) w) (is_some (adding w)) (product_only (last_item s.first s.rest) w h g) (ap is_some k)

  -- ---- terms
  abbrev sums : SumOf U → List Word → List Word
  sums = sum_words words

  abbrev dots : Word
  dots = word.mark m.Dots

  alone_by : (ts : List Word) (s : SumOf U) (rest : List Word) → sum_with read ts ≡ Ok (s, rest) → is_next m.Dots rest ≡ false → term_with read ts ≡ Ok (alone s, rest)
  unfolding term_with
  alone_by ts s rest h g = bind_by (sum_with read ts) _ s rest h ∙ rw g refl

  interval_by : (ts : List Word) (a : SumOf U) (us : List Word) → sum_with read ts ≡ Ok (a, dots ∷ us) → term_with read ts ≡ and_then (sum_with read us) (λ b after. Ok (interval a b, after))
  unfolding term_with
  interval_by ts a us h = bind_by (sum_with read ts) _ a (dots ∷ us) h

  before_dots : (a : SumOf U) (us : List Word) → sum_with read (sums a (dots ∷ us)) ≡ Ok (a, dots ∷ us)
  before_dots a us = sum_lawful.complete a (dots ∷ us) (sum_only a dots refl refl refl)

  term_complete : (t : TermOf U) (rest : List Word) → Ends (term_goes_on goes_on t) rest → term_with read (term_words words t rest) ≡ Ok (t, rest)
  term_complete (alone s) rest h =
      let p = ends_parts (sum_goes_on goes_on s) m.Dots rest h in
      alone_by (sums s rest) s rest (sum_lawful.complete s rest p.0) p.1
  term_complete (interval a b) rest h =
      interval_by (sums a (dots ∷ sums b rest)) a (sums b rest) (before_dots a (sums b rest)) ∙ bind_by (sum_with read (sums b rest)) _ b rest (sum_lawful.complete b rest h)

  abbrev IsTerm : List Word → TermOf U → List Word → Type 0
  IsTerm ts t rest = (ts ≡ term_words words t rest) × Ends (term_goes_on goes_on t) rest

  term_sound : (ts : List Word) (t : TermOf U) (rest : List Word) → term_with read ts ≡ Ok (t, rest) → IsTerm ts t rest
  unfolding term_with
  term_sound ts t rest h = let b = bind_ok (sum_with read ts) _ (t, rest) h in by b.0 b.1 (sum_lawful.sound ts b.0 b.1 b.2) (is_next m.Dots b.1) refl b.3
    where
      by : (s : SumOf U) (after : List Word) → (ts ≡ sums s after) × Ends (sum_goes_on goes_on s) after → (d : Bool) → is_next m.Dots after ≡ d
          → (if d then and_then (sum_with read (drop 1 after)) (λ right last. ok_pair (interval s right) last) else Ok (alone s, after)) ≡ Ok (t, rest) → IsTerm ts t rest
      by s after i true d h =
          let c = bind_ok (sum_with read (drop 1 after)) _ (t, rest) h in
          let p = ok_parts (interval s c.0) t c.1 rest c.3 in
          let j = sum_lawful.sound (drop 1 after) c.0 c.1 c.2 in
          subst (λ z. IsTerm ts z rest) p.0 (
            i.0 ∙ ap (sums s) (the_next m.Dots after d ∙ ap (λ z. dots ∷ z) (j.0 ∙ ap (sums c.0) p.1)),
            subst (Ends (sum_goes_on goes_on c.0)) p.1 j.1,
          )
      by s after i false d h =
          let p = ok_parts (alone s) t after rest h in
          subst (λ z. IsTerm ts z rest) p.0 (i.0 ∙ ap (sums s) p.1, subst (Ends (term_goes_on goes_on (alone s))) p.1 (ends_both (sum_goes_on goes_on s) m.Dots after i.1 d))

  sum_refused : (ts : List Word) → Refuses (sum_with read) ts → Refuses (term_with read) ts
  unfolding term_with
  sum_refused ts never y h = let b = bind_ok (sum_with read ts) _ y h in never (b.0, b.1) b.2

  right_refused : (a : SumOf U) (us : List Word) → Refuses (sum_with read) us → Refuses (term_with read) (sums a (dots ∷ us))
  right_refused a us never y h =
      let b = bind_ok (sum_with read us) _ y (sym (interval_by (sums a (dots ∷ us)) a us (before_dots a us)) ∙ h) in
      never (b.0, b.1) b.2

  left_parted : (a : SumOf U) (us : List Word) → sums a (dots ∷ us) ≡ sums a (dots ∷ []) ++ us
  left_parted a us = sum_lawful.parted a (dots ∷ []) us

  abbrev IsStuck : List Word → Fault → Type 0
  IsStuck ts f = Stuck (term_words words) (Refuses (term_with read)) ts f

  term_stuck : (ts : List Word) (f : Fault) → term_with read ts ≡ Err f → IsStuck ts f
  unfolding term_with
  term_stuck ts f h = two (bind_err (sum_with read ts) _ f h)
    where
      by : (s : SumOf U) (after : List Word) → ts ≡ sums s after → (d : Bool) → is_next m.Dots after ≡ d
          → (if d then and_then (sum_with read (drop 1 after)) (λ right last. ok_pair (interval s right) last) else Ok (alone s, after)) ≡ Err f → IsStuck ts f
      by s after i false d h = absurd cc
      by s after i true d h = three (bind_err (sum_with read (drop 1 after)) _ f h)
        where
          three : (sum_with read (drop 1 after) ≡ Err f) ⊎ ((x : SumOf U) × (last : List Word) × (sum_with read (drop 1 after) ≡ Ok (x, last)) × (ok_pair (interval s x) last ≡ Err f)) → IsStuck ts f
          three (inr c) = let g = c.3 in absurd cc
          three (inl g) =
              let begin : List Word = sums s (dots ∷ []) in
              let whole : begin ++ drop 1 after ≡ ts = sym (i ∙ ap (sums s) (the_next m.Dots after d) ∙ left_parted s (drop 1 after)) in
              subst (λ z. IsStuck z f) whole
              (stuck_inside sums (term_words words) (Refuses (sum_with read)) (Refuses (term_with read)) begin (interval s) [] (drop 1 after) f (λ a. left_parted s (sums a [])) sum_lawful.parted
              (λ front x r next e bad. subst (Refuses (term_with read)) (left_parted s (front ++ x ∷ next)) (right_refused s (front ++ x ∷ next) bad))
              (sum_lawful.stuck (drop 1 after) f g))

      two : (sum_with read ts ≡ Err f) ⊎ ((s : SumOf U) × (after : List Word) × (sum_with read ts ≡ Ok (s, after))
          × ((if is_next m.Dots after then and_then (sum_with read (drop 1 after)) (λ right last. ok_pair (interval s right) last) else Ok (alone s, after)) ≡ Err f)) → IsStuck ts f
      two (inl g) =
          stuck_inside sums (term_words words) (Refuses (sum_with read)) (Refuses (term_with read)) [] alone [] ts f (λ a. refl) sum_lawful.parted
          (λ front x r next e bad. sum_refused (front ++ x ∷ next) bad) (sum_lawful.stuck ts f g)
      two (inr c) = by c.0 c.1 (sum_lawful.sound ts c.0 c.1 c.2).0 (is_next m.Dots c.1) refl c.3

  term_parted : (t : TermOf U) (x y : List Word) → term_words words t (x ++ y) ≡ term_words words t x ++ y
  term_parted (alone s) x y = sum_lawful.parted s x y
  term_parted (interval a b) x y = ap (λ z. sums a (dots ∷ z)) (sum_lawful.parted b x y) ∙ sum_lawful.parted a (dots ∷ sums b x) y

  term_some : (t : TermOf U) (rest : List Word) → length rest < length (term_words words t rest)
  term_some (alone s) rest = sum_lawful.some s rest
  term_some (interval a b) rest = omega (arith, sum_lawful.some a (dots ∷ sums b rest), sum_lawful.some b rest)

  pub term_lawful : Lawful (term_words words) (term_goes_on goes_on) (term_with read)
  term_lawful = record { parted = term_parted; some = term_some; sound = term_sound; complete = term_complete; stuck = term_stuck }

  pub term_only : (t : TermOf U) (w : Word) → is_word m.Open w ≡ false → multiplying w ≡ None → adding w ≡ None → is_word m.Dots w ≡ false → term_goes_on goes_on t w ≡ false
  term_only (alone s) w h g k d = or_false (sum_goes_on goes_on s w) (is_word m.Dots w) (sum_only s w h g k) d
  term_only (interval a b) w h g k d = sum_only b w h g k

  pub args_lawful : Lawful (args_words words) (args_go_on goes_on) (args_with read)
  args_lawful = row_lawful (term_words words) (term_goes_on goes_on) (term_with read) term_lawful comma_word comma comma_is comma_only (λ t s. term_only t (word.mark m.Comma) refl refl refl refl)

  pub args_only : (a : ArgsOf U) (w : Word) → is_word m.Open w ≡ false → multiplying w ≡ None → adding w ≡ None → is_word m.Dots w ≡ false → comma w ≡ None → args_go_on goes_on a w ≡ false
  args_only a w h g k d c = or_false (term_goes_on goes_on (last_item a.first a.rest) w) (is_some (comma w)) (term_only (last_item a.first a.rest) w h g k d) (ap is_some c)

  -- what an operand does not begin with, a term and an argument list do not begin with
  pub term_refused : (ts : List Word) → Refuses read ts → Refuses (term_with read) ts
  term_refused ts never =
      sum_refused ts (row_refused_item (product_words words) (product_goes_on goes_on) (product_with read) product_lawful adding_word adding adding_is adding_only sum_apart ts
      (row_refused_item words goes_on read law multiplying_word multiplying multiplying_is multiplying_only product_apart ts never))

  pub args_refused : (ts : List Word) → Refuses read ts → Refuses (args_with read) ts
  args_refused ts never =
      row_refused_item (term_words words) (term_goes_on goes_on) (term_with read) term_lawful comma_word comma comma_is comma_only (λ t s. term_only t (word.mark m.Comma) refl refl refl refl) ts (term_refused ts never)
