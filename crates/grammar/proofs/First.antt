-- The fault of a reader stands at the first place where no form goes on, and says whether one that nests deeper does.
use Rattle.std.proofs.Common.{◌≡◌, Bool, ℕ, zero, suc, ◌+◌, ◌<◌, List, [], ◌∷◌, ◌++◌, length, Ok, Err, refl, sym, ◌∙◌, ap, subst, append_assoc, arith}
use Rattle.std.proofs.lemmas.List.{length-append, append-nil}
use Rattle.grammar.specs.Word.{Word}
use Rattle.grammar.specs.Reading.{Fault, Expected, TooDeep, Outcome, Reader}
use Rattle.grammar.specs.Faults.{CanGoOn, IsExpected, IsTooDeep}
use Rattle.grammar.proofs.Lawful.{left, Refuses, Stuck}
use Rattle.grammar.proofs.Deeper.{After, Past, Deeper}
use Rattle.grammar.proofs.Pairs.{Weak}

-- ---- lists that are parted twice
heads : (x y : Word) (a b : List Word) → x ∷ a ≡ y ∷ b → (x ≡ y) × (a ≡ b)
heads x y a b h = (ap (λ z. first_of x z) h, ap (λ z. rest_of z) h)
  where
    first_of : Word → List Word → Word
    first_of d [] = d
    first_of d (z ∷ zs) = z

    rest_of : List Word → List Word
    rest_of [] = []
    rest_of (z ∷ zs) = zs

pub split_same : (a b c d : List Word) → a ++ b ≡ c ++ d → length b ≡ length d → (a ≡ c) × (b ≡ d)
split_same [] b [] d h l = (refl, h)
split_same [] b (y ∷ c) d h l = let e = ap length h in let e2 = length-append (y ∷ c) d in absurd (omega (arith, e, e2, l))
split_same (x ∷ a) b [] d h l = let e = ap length h in let e2 = length-append (x ∷ a) b in absurd (omega (arith, e, e2, l))
split_same (x ∷ a) b (y ∷ c) d h l =
    let p = heads x y (a ++ b) (c ++ d) h in
    let q = split_same a b c d p.1 l in
    (ap (λ z. z ∷ a) p.0 ∙ ap (λ z. y ∷ z) q.0, q.1)

-- the second parting lies further on
record Longer (a b c : List Word) : Type 0 where
  next : Word
  rest : List Word
  more : List Word
  stands : b ≡ next ∷ rest
  begins : c ≡ (a ++ next ∷ []) ++ more

front_longer : (a b c d : List Word) → a ++ b ≡ c ++ d → length d < length b → Longer a b c
front_longer [] b [] d h l = let e = ap length h in absurd (omega (arith, e, l))
front_longer [] b (x ∷ c) d h l = record { next = x; rest = c ++ d; more = c; stands = h; begins = refl }
front_longer (y ∷ a) b [] d h l = let e = ap length h in let e2 = length-append (y ∷ a) b in absurd (omega (arith, e, e2, l))
front_longer (y ∷ a) b (x ∷ c) d h l =
    let p = heads y x (a ++ b) (c ++ d) h in
    let q = front_longer a b c d p.1 l in
    record { next = q.next; rest = q.rest; more = q.more; stands = q.stands; begins = ap (λ z. z ∷ c) (sym p.0) ∙ ap (λ z. y ∷ z) q.begins }

-- the words are parted before the last k, where something is claimed
pub record Found (Claim : List Word → List Word → Type 0) (ts : List Word) (k : ℕ) : Type 0 where
  pub front : List Word
  pub after : List Word
  pub split : ts ≡ front ++ after
  pub place : k ≡ length after
  pub claim : Claim front after

module _ (Form : ℕ → Type 0) (words : (n : ℕ) → Form n → List Word → List Word) (goes_on : (n : ℕ) → Form n → Word → Bool) (read : (n : ℕ) → Reader (Form n))
    (law : (n : ℕ) → Weak (words n) (goes_on n) (read n)) (deeper : (n : ℕ) → Deeper (read n) (read (suc n))) where
  -- so many levels above one
  above : ℕ → ℕ → ℕ
  above zero n = n
  above (suc j) n = suc (above j n)

  above_sum : (j n : ℕ) → above j n ≡ j + n
  unfolding above
  above_sum zero n = omega arith
  above_sum (suc j) n = let e = above_sum j n in omega (arith, e)

  raised_ok : (j n : ℕ) (ts : List Word) (a : Form n) (rest : List Word) → read n ts ≡ Ok (a, rest) → (b : Form (above j n)) × (read (above j n) ts ≡ Ok (b, rest))
  unfolding above
  raised_ok zero n ts a rest h = (a, h)
  raised_ok (suc j) n ts a rest h =
      let q = raised_ok j n ts a rest h in
      subst (λ z. After z (read (suc (above j n)) ts)) q.1 (deeper (above j n) ts)

  raised_err : (j n : ℕ) (ts : List Word) (k : ℕ) → read n ts ≡ Err (Expected k) → read (above j n) ts ≡ Err (Expected k)
  unfolding above
  raised_err zero n ts k h = h
  raised_err (suc j) n ts k h =
      let q = raised_err j n ts k h in
      subst (λ z. After z (read (suc (above j n)) ts)) q (deeper (above j n) ts)

  at_end : (n : ℕ) (a : Form n) (ts : List Word) → words n a [] ≡ ts → read n ts ≡ Ok (a, [])
  at_end n a ts h = ap (read n) (sym h) ∙ (law n).complete a [] tt

  -- what goes on at one level does at those above
  goes_above : (j n : ℕ) (front : List Word) → CanGoOn (words n) front → CanGoOn (words (above j n)) front
  goes_above j n front g =
      let q = raised_ok j n (front ++ g.1) g.0 [] (at_end n g.0 (front ++ g.1) g.2) in
      (q.0, g.1, sym ((law (above j n)).sound (front ++ g.1) q.0 [] q.1).0)

  refused_there : (n : ℕ) (ts : List Word) (f : Fault) (front after : List Word) → read n ts ≡ Err f → ts ≡ front ++ after → left f ≡ length after
      → (x : Word) (r : List Word) → after ≡ x ∷ r → CanGoOn (words n) (front ++ x ∷ []) → ⊥
  refused_there n ts f front after h split place x r e g =
      let s = (law n).stuck ts f h in
      let p = split_same s.front s.after front after (sym s.split ∙ split) (sym s.place ∙ place) in
      let whole = g.2 ∙ append_assoc front (x ∷ []) g.1 ∙ ap (λ z. z ++ x ∷ g.1) (sym p.0) in
      s.local x r g.1 (p.1 ∙ e) (g.0, []) (at_end n g.0 (s.front ++ x ∷ g.1) whole)

  pub first_expected : (n : ℕ) (ts : List Word) (k : ℕ) → read n ts ≡ Err (Expected k) → Found (IsExpected Form words n) ts k
  first_expected n ts k h =
      let s = (law n).stuck ts (Expected k) h in
      record {
        front = s.front;
        after = s.after;
        split = s.split;
        place = s.place;
        claim = record {
          begins = (s.goes, s.more, s.begins);
          never = λ j x r e g.
              let both : above j n ≡ above n j = above_sum j n ∙ omega arith ∙ sym (above_sum n j) in
              refused_there (above j n) ts (Expected k) s.front s.after (raised_err j n ts k h) s.split s.place x r e
              (subst (λ z. CanGoOn (words z) (s.front ++ x ∷ [])) (sym both) (goes_above n j (s.front ++ x ∷ []) g));
        };
      }

  pub first_deep : (n : ℕ) (ts : List Word) (k : ℕ) → read n ts ≡ Err (TooDeep k) → Found (IsTooDeep Form words n) ts k
  first_deep n ts k h = by (read (suc n) ts) refl (subst (λ z. After z (read (suc n) ts)) h (deeper n ts))
    where
      finish : (s : Stuck (words n) (Refuses (read n)) ts (TooDeep k)) (c z : List Word) (a : Form (suc n)) → Longer s.front s.after c → words (suc n) a [] ≡ c ++ z → Found (IsTooDeep Form words n) ts k
      finish s c z a q e = record {
        front = s.front;
        after = s.after;
        split = s.split;
        place = s.place;
        claim = record {
          begins = (s.goes, s.more, s.begins);
          next = q.next;
          rest = q.rest;
          stands = q.stands;
          never = refused_there n ts (TooDeep k) s.front s.after h s.split s.place q.next q.rest q.stands;
          depth = suc n;
          deeper = (a, q.more ++ z, e ∙ ap (λ y. y ++ z) q.begins ∙ append_assoc (s.front ++ q.next ∷ []) q.more z);
        };
      }

      by : (r : Outcome (Form (suc n))) → read (suc n) ts ≡ r → Past k r → Found (IsTooDeep Form words n) ts k
      by (Ok p) e l =
          let s = (law n).stuck ts (TooDeep k) h in
          let t = (law (suc n)).sound ts p.0 p.1 e in
          let whole : s.front ++ s.after ≡ words (suc n) p.0 [] ++ p.1 = sym s.split ∙ t.0 ∙ (law (suc n)).parted p.0 [] p.1 in
          finish s (words (suc n) p.0 []) [] p.0 (front_longer s.front s.after (words (suc n) p.0 []) p.1 whole (let e2 = s.place in omega (arith, e2, l))) (sym (append-nil (words (suc n) p.0 [])))
      by (Err f) e l =
          let s = (law n).stuck ts (TooDeep k) h in
          let t = (law (suc n)).stuck ts f e in
          let whole : s.front ++ s.after ≡ t.front ++ t.after = sym s.split ∙ t.split in
          finish s t.front t.more t.goes (front_longer s.front s.after t.front t.after whole (let e2 = s.place in let e3 = t.place in omega (arith, e2, e3, l))) t.begins
