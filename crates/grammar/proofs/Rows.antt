-- A row is lawful where its items are and no sign goes on with an item.
use Rattle.std.proofs.Common.{◌≡◌, ℕ, zero, suc, ◌≤◌, Bool, false, ◌||◌, ◌⊎◌, inl, inr, List, [], ◌∷◌, ◌++◌, length, drop, Option, Some, None, Ok, Err, refl, sym, ◌∙◌, ap, subst, arith}
use Rattle.std.specs.Option.{is_some}
use Rattle.grammar.specs.Word.{Word}
use Rattle.grammar.specs.Row.{Row, tail_words, row_words, last_item, row_goes_on}
use Rattle.grammar.specs.Reading.{Fault, Outcome, Reader, and_then, sign_at, tail_with, row_with}
use Rattle.grammar.specs.Word.{Ends}
use Rattle.grammar.proofs.Lawful.{Refuses, Stuck, Lawful, ok_pair, ok_parts, bind_ok, bind_err, bind_by, ends_head, or_left, or_right, or_false}

module _ {I S : Type 0} (item_words : I → List Word → List Word) (item_goes_on : I → Word → Bool) (item : Reader I) (law : Lawful item_words item_goes_on item)
    (sign_word : S → Word) (sign : Word → Option S) (sign_is : (s : S) → sign (sign_word s) ≡ Some s) (sign_only : (w : Word) (s : S) → sign w ≡ Some s → w ≡ sign_word s)
    (apart : (i : I) (s : S) → item_goes_on i (sign_word s) ≡ false) where
  abbrev Tail : List (S × I) → List Word → List Word
  Tail = tail_words item_words sign_word

  abbrev Whole : Row I S → List Word → List Word
  Whole = row_words item_words sign_word

  abbrev made : I → List (S × I) → Row I S
  made i ps = record { first = i; rest = ps }

  abbrev RowEnds : I → List (S × I) → List Word → Type 0
  RowEnds i ps rest = Ends (λ w. item_goes_on (last_item i ps) w || is_some (sign w)) rest

  tail_parted : (ps : List (S × I)) (x y : List Word) → Tail ps (x ++ y) ≡ Tail ps x ++ y
  tail_parted [] x y = refl
  tail_parted (p ∷ ps) x y = ap (λ r. sign_word p.0 ∷ r) (ap (item_words p.1) (tail_parted ps x y) ∙ law.parted p.1 (Tail ps x) y)

  tail_longer : (ps : List (S × I)) (rest : List Word) → length rest ≤ length (Tail ps rest)
  tail_longer [] rest = omega arith
  tail_longer (p ∷ ps) rest = omega (arith, tail_longer ps rest, law.some p.1 (Tail ps rest))

  -- an item ends where its row does, or where a sign stands
  item_ends : (i : I) (ps : List (S × I)) (rest : List Word) → RowEnds i ps rest → Ends (item_goes_on i) (Tail ps rest)
  item_ends i [] [] h = tt
  item_ends i [] (w ∷ rest) h = or_left (item_goes_on i w) (is_some (sign w)) h
  item_ends i (p ∷ ps) rest h = apart i p.0

  no_sign : (i : I) (rest : List Word) → RowEnds i [] rest → sign_at sign rest ≡ None
  no_sign i [] h = refl
  no_sign i (w ∷ rest) h = by (sign w) (or_right (item_goes_on i w) (is_some (sign w)) h)
    where
      by : (s : Option S) → is_some s ≡ false → s ≡ None
      by None h = refl
      by (Some s) h = absurd cc

  -- one turn, by the sign
  abbrev turn : ℕ → List Word → Option S → Outcome (List (S × I))
  turn k ts found =
      elim found [
        | Some s ↦ and_then (item (drop 1 ts)) (λ x after. and_then (tail_with item sign k after) (λ parts last. Ok ((s, x) ∷ parts, last)))
        | None ↦ Ok ([], ts)
      ]

  turn_last : (k : ℕ) (ts : List Word) → sign_at sign ts ≡ None → tail_with item sign k ts ≡ Ok ([], ts)
  unfolding tail_with
  turn_last zero ts h = refl
  turn_last (suc k) ts h = ap (λ q. turn k ts q) h

  turn_more : (k : ℕ) (s : S) (ts : List Word) (i : I) (rest : List Word) (ps : List (S × I)) (after : List Word) → item ts ≡ Ok (i, rest) → tail_with item sign k rest ≡ Ok (ps, after)
      → tail_with item sign (suc k) (sign_word s ∷ ts) ≡ Ok ((s, i) ∷ ps, after)
  unfolding tail_with
  turn_more k s ts i rest ps after h g =
      ap (turn k (sign_word s ∷ ts)) (sign_is s) ∙ bind_by (item ts) _ i rest h ∙ bind_by (tail_with item sign k rest) _ ps after g

  tail_read : (i : I) (ps : List (S × I)) (k : ℕ) (rest : List Word) → length (Tail ps rest) ≤ k → RowEnds i ps rest → tail_with item sign k (Tail ps rest) ≡ Ok (ps, rest)
  tail_read i [] k rest l h = turn_last k rest (no_sign i rest h)
  tail_read i (p ∷ ps) zero rest l h = absurd (omega (arith, l))
  tail_read i (p ∷ ps) (suc k) rest l h =
      turn_more k p.0 (item_words p.1 (Tail ps rest)) p.1 (Tail ps rest) ps rest (law.complete p.1 (Tail ps rest) (item_ends p.1 ps rest h))
      (tail_read p.1 ps k rest (omega (arith, l, law.some p.1 (Tail ps rest))) h)

  row_by : (ts : List Word) (i : I) (rest : List Word) (ps : List (S × I)) (after : List Word) → item ts ≡ Ok (i, rest) → tail_with item sign (length rest) rest ≡ Ok (ps, after)
      → row_with item sign ts ≡ Ok (record { first = i; rest = ps }, after)
  unfolding row_with
  row_by ts i rest ps after h g = rw (h, g) refl

  row_complete : (row : Row I S) (rest : List Word) → Ends (row_goes_on item_goes_on sign row) rest → row_with item sign (Whole row rest) ≡ Ok (row, rest)
  row_complete row rest h =
      row_by (Whole row rest) row.first (Tail row.rest rest) row.rest rest (law.complete row.first (Tail row.rest rest) (item_ends row.first row.rest rest h))
      (tail_read row.first row.rest (length (Tail row.rest rest)) rest (omega arith) h)

  -- ---- sound
  sign_there : (ts : List Word) (s : S) → sign_at sign ts ≡ Some s → ts ≡ sign_word s ∷ drop 1 ts
  sign_there [] s h = absurd cc
  sign_there (w ∷ ts) s h = ap (λ v. v ∷ ts) (sign_only w s h)

  row_ends_here : (i : I) (ts : List Word) → Ends (item_goes_on i) ts → sign_at sign ts ≡ None → RowEnds i [] ts
  row_ends_here i [] h g = tt
  row_ends_here i (w ∷ ts) h g = or_false (item_goes_on i w) (is_some (sign w)) h (ap is_some g)

  abbrev IsTail : I → List Word → List (S × I) → List Word → Type 0
  IsTail i ts ps rest = (ts ≡ Tail ps rest) × RowEnds i ps rest

  tail_sound : (k : ℕ) (i : I) (ts : List Word) (ps : List (S × I)) (rest : List Word) → length ts ≤ k → Ends (item_goes_on i) ts → tail_with item sign k ts ≡ Ok (ps, rest) → IsTail i ts ps rest
  unfolding tail_with
  tail_sound zero i [] ps rest l e h = let p = ok_parts [] ps [] rest h in subst (λ (q : List (S × I)). IsTail i [] q rest) p.0 (subst (λ q. IsTail i [] [] q) p.1 (refl, tt))
  tail_sound zero i (w ∷ ts) ps rest l e h = absurd (omega (arith, l))
  tail_sound (suc k) i ts ps rest l e h = by (sign_at sign ts) refl h (λ j us qs l' e' g. tail_sound k j us qs rest l' e' g)
    where
      by : (s : Option S) → sign_at sign ts ≡ s
          → turn k ts s ≡ ok_pair ps rest
          → ((j : I) (us : List Word) (qs : List (S × I)) → length us ≤ k → Ends (item_goes_on j) us → tail_with item sign k us ≡ Ok (qs, rest) → IsTail j us qs rest)
          → IsTail i ts ps rest
      by None q h next =
          let p = ok_parts [] ps ts rest h in
          subst (λ (z : List (S × I)). IsTail i ts z rest) p.0 (subst (λ z. IsTail i ts [] z) p.1 (refl, row_ends_here i ts e q))
      by (Some s) q h next =
          let b = bind_ok (item (drop 1 ts)) _ _ h in
          let c = bind_ok (tail_with item sign k b.1) _ _ b.3 in
          let p = ok_parts ((s, b.0) ∷ c.0) ps c.1 rest c.3 in
          let there = sign_there ts s q in
          let len = ap length there in
          let read = law.sound (drop 1 ts) b.0 b.1 b.2 in
          let len2 = ap length read.0 in
          let t = next b.0 b.1 c.0 (omega (arith, len, len2, l, law.some b.0 b.1)) read.1 (c.2 ∙ ap (λ z. Ok (c.0, z)) p.1) in
          subst (λ z. IsTail i ts z rest) p.0 (there ∙ ap (λ z. sign_word s ∷ z) (read.0 ∙ ap (item_words b.0) t.0), t.1)

  row_sound : (ts : List Word) (row : Row I S) (rest : List Word) → row_with item sign ts ≡ Ok (row, rest) → (ts ≡ Whole row rest) × Ends (row_goes_on item_goes_on sign row) rest
  unfolding row_with
  row_sound ts row rest h =
      let b = bind_ok (item ts) _ _ h in
      let c = bind_ok (tail_with item sign (length b.1) b.1) _ _ b.3 in
      let made : Row I S = record { first = b.0; rest = c.0 } in
      let p = ok_parts made row c.1 rest c.3 in
      let read = law.sound ts b.0 b.1 b.2 in
      let t = tail_sound (length b.1) b.0 b.1 c.0 rest (omega arith) read.1 (c.2 ∙ ap (λ z. Ok (c.0, z)) p.1) in
      subst (λ z. (ts ≡ Whole z rest) × Ends (row_goes_on item_goes_on sign z) rest) p.0 (read.0 ∙ ap (item_words b.0) t.0, t.1)

  -- ---- stuck
  abbrev TailRefuses : List Word → Type 0
  TailRefuses ts = (k : ℕ) (y : List (S × I) × List Word) → length ts ≤ k → tail_with item sign k ts ≡ Ok y → ⊥

  tail_turn : (k : ℕ) (s : S) (ts : List Word) → tail_with item sign (suc k) (sign_word s ∷ ts) ≡ and_then (item ts) (λ x after. and_then (tail_with item sign k after) (λ parts last. Ok ((s, x) ∷ parts, last)))
  unfolding tail_with
  tail_turn k s ts = ap (turn k (sign_word s ∷ ts)) (sign_is s)

  -- an item that is refused, and a tail that is refused behind an item
  refused_item : (s : S) (ts : List Word) → Refuses item ts → TailRefuses (sign_word s ∷ ts)
  refused_item s ts never zero y l h = absurd (omega (arith, l))
  refused_item s ts never (suc k) y l h = let b = bind_ok (item ts) _ y (sym (tail_turn k s ts) ∙ h) in never (b.0, b.1) b.2

  refused_tail : (s : S) (i : I) (ts : List Word) → Ends (item_goes_on i) ts → TailRefuses ts → TailRefuses (sign_word s ∷ item_words i ts)
  refused_tail s i ts e never zero y l h = absurd (omega (arith, l))
  refused_tail s i ts e never (suc k) y l h =
      let b = bind_ok (item (item_words i ts)) _ y (sym (tail_turn k s (item_words i ts)) ∙ h) in
      let p = ok_parts b.0 i b.1 ts (sym b.2 ∙ law.complete i ts e) in
      let c = bind_ok (tail_with item sign k b.1) _ y b.3 in
      never k (c.0, c.1) (omega (arith, l, law.some i ts)) (ap (tail_with item sign k) (sym p.1) ∙ c.2)

  tail_stuck : (k : ℕ) (ts : List Word) (f : Fault) → length ts ≤ k → tail_with item sign k ts ≡ Err f → Stuck Tail TailRefuses ts f
  unfolding tail_with
  tail_stuck zero ts f l h = absurd cc
  tail_stuck (suc k) ts f l h = by (sign_at sign ts) refl h (λ us l' g. tail_stuck k us f l' g)
    where
      by : (s : Option S) → sign_at sign ts ≡ s
          → turn k ts s ≡ Err f
          → ((us : List Word) → length us ≤ k → tail_with item sign k us ≡ Err f → Stuck Tail TailRefuses us f)
          → Stuck Tail TailRefuses ts f
      by None q h next = absurd cc
      by (Some s) q h next = two (bind_err (item (drop 1 ts)) _ f h)
        where
          there : ts ≡ sign_word s ∷ drop 1 ts
          there = sign_there ts s q

          two : (item (drop 1 ts) ≡ Err f) ⊎ ((x : I) × (after : List Word) × (item (drop 1 ts) ≡ Ok (x, after)) × (and_then (tail_with item sign k after) (λ parts last. Ok ((s, x) ∷ parts, last)) ≡ Err f)) → Stuck Tail TailRefuses ts f
          two (inl g) =
              let t = law.stuck (drop 1 ts) f g in
              record {
                front = sign_word s ∷ t.front;
                after = t.after;
                split = there ∙ ap (λ z. sign_word s ∷ z) t.split;
                place = t.place;
                goes = (s, t.goes) ∷ [];
                more = t.more;
                begins = ap (λ z. sign_word s ∷ z) t.begins;
                local = λ x r after e. refused_item s (t.front ++ x ∷ after) (t.local x r after e);
              }
          two (inr c) = three (bind_err (tail_with item sign k c.1) _ f c.3)
            where
              read : (drop 1 ts ≡ item_words c.0 c.1) × Ends (item_goes_on c.0) c.1
              read = law.sound (drop 1 ts) c.0 c.1 c.2

              short : length c.1 ≤ k
              short = let a = ap length there in let b = ap length read.0 in omega (arith, a, b, l, law.some c.0 c.1)

              three : (tail_with item sign k c.1 ≡ Err f) ⊎ ((ps : List (S × I)) × (last : List Word) × (tail_with item sign k c.1 ≡ Ok (ps, last)) × (ok_pair ((s, c.0) ∷ ps) last ≡ Err f)) → Stuck Tail TailRefuses ts f
              three (inr d) = let g = d.3 in absurd cc
              three (inl g) =
                  let t = next c.1 short g in
                  record {
                    front = sign_word s ∷ item_words c.0 t.front;
                    after = t.after;
                    split = there ∙ ap (λ z. sign_word s ∷ z) (read.0 ∙ ap (item_words c.0) t.split ∙ law.parted c.0 t.front t.after);
                    place = t.place;
                    goes = (s, c.0) ∷ t.goes;
                    more = t.more;
                    begins = ap (λ z. sign_word s ∷ z) (ap (item_words c.0) t.begins ∙ law.parted c.0 t.front t.more);
                    local = λ x r after e.
                        let ends = ends_head (item_goes_on c.0) t.front x r after (subst (Ends (item_goes_on c.0)) (t.split ∙ ap (λ z. t.front ++ z) e) read.1) in
                        subst TailRefuses (ap (λ z. sign_word s ∷ z) (law.parted c.0 t.front (x ∷ after))) (refused_tail s c.0 (t.front ++ x ∷ after) ends (t.local x r after e));
                  }

  pub row_refused_item : (ts : List Word) → Refuses item ts → Refuses (row_with item sign) ts
  unfolding row_with
  row_refused_item ts never y h = let b = bind_ok (item ts) _ y h in never (b.0, b.1) b.2

  row_refused_tail : (i : I) (ts : List Word) → Ends (item_goes_on i) ts → TailRefuses ts → Refuses (row_with item sign) (item_words i ts)
  unfolding row_with
  row_refused_tail i ts e never y h =
      let b = bind_ok (item (item_words i ts)) _ y h in
      let p = ok_parts b.0 i b.1 ts (sym b.2 ∙ law.complete i ts e) in
      let c = bind_ok (tail_with item sign (length b.1) b.1) _ y b.3 in
      never (length ts) (c.0, c.1) (omega arith) (sym (ap (λ z. tail_with item sign (length z) z) p.1) ∙ c.2)

  row_stuck : (ts : List Word) (f : Fault) → row_with item sign ts ≡ Err f → Stuck Whole (Refuses (row_with item sign)) ts f
  unfolding row_with
  row_stuck ts f h = two (bind_err (item ts) _ f h)
    where
      two : (item ts ≡ Err f) ⊎ ((x : I) × (after : List Word) × (item ts ≡ Ok (x, after)) × (and_then (tail_with item sign (length after) after) (λ parts last. ok_pair (made x parts) last) ≡ Err f)) → Stuck Whole (Refuses (row_with item sign)) ts f
      two (inl g) =
          let t = law.stuck ts f g in
          record {
            front = t.front;
            after = t.after;
            split = t.split;
            place = t.place;
            goes = record { first = t.goes; rest = [] };
            more = t.more;
            begins = t.begins;
            local = λ x r after e. row_refused_item (t.front ++ x ∷ after) (t.local x r after e);
          }
      two (inr c) = three (bind_err (tail_with item sign (length c.1) c.1) _ f c.3)
        where
          read : (ts ≡ item_words c.0 c.1) × Ends (item_goes_on c.0) c.1
          read = law.sound ts c.0 c.1 c.2

          three : (tail_with item sign (length c.1) c.1 ≡ Err f) ⊎ ((ps : List (S × I)) × (last : List Word) × (tail_with item sign (length c.1) c.1 ≡ Ok (ps, last)) × (ok_pair (made c.0 ps) last ≡ Err f)) → Stuck Whole (Refuses (row_with item sign)) ts f
          three (inr d) = let g = d.3 in absurd cc
          three (inl g) =
              let t = tail_stuck (length c.1) c.1 f (omega arith) g in
              record {
                front = item_words c.0 t.front;
                after = t.after;
                split = read.0 ∙ ap (item_words c.0) t.split ∙ law.parted c.0 t.front t.after;
                place = t.place;
                goes = record { first = c.0; rest = t.goes };
                more = t.more;
                begins = ap (item_words c.0) t.begins ∙ law.parted c.0 t.front t.more;
                local = λ x r after e.
                    let ends = ends_head (item_goes_on c.0) t.front x r after (subst (Ends (item_goes_on c.0)) (t.split ∙ ap (λ z. t.front ++ z) e) read.1) in
                    subst (Refuses (row_with item sign)) (law.parted c.0 t.front (x ∷ after)) (row_refused_tail c.0 (t.front ++ x ∷ after) ends (t.local x r after e));
              }

  pub row_lawful : Lawful Whole (row_goes_on item_goes_on sign) (row_with item sign)
  row_lawful = record {
    parted = λ row x y. ap (item_words row.first) (tail_parted row.rest x y) ∙ law.parted row.first (Tail row.rest x) y;
    some = λ row rest. omega (arith, tail_longer row.rest rest, law.some row.first (Tail row.rest rest));
    sound = row_sound;
    complete = row_complete;
    stuck = row_stuck;
  }
