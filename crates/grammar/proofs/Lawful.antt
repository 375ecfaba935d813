-- What it is that a reader and a class of forms agree.
use Rattle.std.proofs.Common.{◌≡◌, ℕ, ◌<◌, Bool, true, false, ◌||◌, ◌⊎◌, inl, inr, List, [], ◌∷◌, ◌++◌, length, drop, Result, Ok, Err, refl, sym, ◌∙◌, ap, subst, append_assoc, if◌then◌else◌}
use Rattle.grammar.specs.declared.mark.Mark.{Mark}
use Rattle.grammar.specs.Word.{Word, is_word, is_next, Ends}
use Rattle.grammar.specs.Word as word
use Rattle.grammar.specs.Reading.{Fault, Expected, TooDeep, Outcome, Reader, and_then, expected, before}
use Rattle.grammar.proofs.WordLemmas.{the_next}

abbrev pub left : Fault → ℕ
left (Expected k) = k
left (TooDeep k) = k

abbrev pub Refuses : {A : Type 0} → Reader A → List Word → Type 0
Refuses {A} read words = (y : A × List Word) → read words ≡ Ok y → ⊥

-- What stands before the place of a fault can go on, and with the next word, whatever follows, it is bad.
pub record Stuck {A : Type 0} (words : A → List Word → List Word) (Bad : List Word → Type 0) (ts : List Word) (f : Fault) : Type 0 where
  pub front : List Word
  pub after : List Word
  pub split : ts ≡ front ++ after
  pub place : left f ≡ length after
  pub goes : A
  pub more : List Word
  pub begins : words goes [] ≡ front ++ more
  pub local : (x : Word) (r next : List Word) → after ≡ x ∷ r → Bad (front ++ x ∷ next)

-- A form's words are read as it and as no other form, up to the first place where no form goes on.
pub record Lawful {A : Type 0} (words : A → List Word → List Word) (goes_on : A → Word → Bool) (read : Reader A) : Type 0 where
  pub parted : (a : A) (x y : List Word) → words a (x ++ y) ≡ words a x ++ y
  pub some : (a : A) (rest : List Word) → length rest < length (words a rest)
  pub sound : (ts : List Word) (a : A) (rest : List Word) → read ts ≡ Ok (a, rest) → (ts ≡ words a rest) × Ends (goes_on a) rest
  pub complete : (a : A) (rest : List Word) → Ends (goes_on a) rest → read (words a rest) ≡ Ok (a, rest)
  pub stuck : (ts : List Word) (f : Fault) → read ts ≡ Err f → Stuck words (Refuses read) ts f

-- ---- outcomes
abbrev pub ok_pair : {A B : Type 0} → A → B → Result (A × B) Fault
ok_pair a b = Ok (a, b)

pub ok_parts : {A B : Type 0} (a c : A) (b d : B) → ok_pair a b ≡ ok_pair c d → (a ≡ c) × (b ≡ d)
ok_parts {A} {B} a c b d h =
    let q : (a, b) ≡ (c, d) = cc in
    (ap (λ (p : A × B). p.0) q, ap (λ (p : A × B). p.1) q)

abbrev pub err_of : {A : Type 0} → Fault → Outcome A
err_of f = Err f

pub err_same : {A : Type 0} (f g : Fault) → err_of {A = A} f ≡ err_of {A = A} g → f ≡ g
err_same {A} f g h = cc

pub bind_ok : {A B : Type 0} (r : Outcome A) (f : A → Reader B) (y : B × List Word) → and_then r f ≡ Ok y → (x : A) × (after : List Word) × (r ≡ Ok (x, after)) × (f x after ≡ Ok y)
bind_ok (Ok p) f y h = (p.0, p.1, refl, h)
bind_ok (Err g) f y h = absurd cc

pub bind_err : {A B : Type 0} (r : Outcome A) (g : A → Reader B) (f : Fault) → and_then r g ≡ Err f → (r ≡ Err f) ⊎ ((x : A) × (after : List Word) × (r ≡ Ok (x, after)) × (g x after ≡ Err f))
bind_err (Ok p) g f h = inr (p.0, p.1, refl, h)
bind_err {A} {B} (Err d) g f h = let q : d ≡ f = err_same {A = B} d f h in inl (ap Err q)

pub bind_by : {A B : Type 0} (r : Outcome A) (f : A → Reader B) (x : A) (after : List Word) → r ≡ Ok (x, after) → and_then r f ≡ f x after
bind_by r f x after h = ap (λ q. and_then q f) h

pub expected_left : {A : Type 0} (ts : List Word) (f : Fault) → err_of {A = A} (Expected (length ts)) ≡ err_of {A = A} f → left f ≡ length ts
expected_left {A} ts f h = ap left (sym (err_same {A = A} (Expected (length ts)) f h))

-- ---- what may follow turns on the next word alone
pub ends_head : (goes_on : Word → Bool) (front : List Word) (x : Word) (r next : List Word) → Ends goes_on (front ++ x ∷ r) → Ends goes_on (front ++ x ∷ next)
ends_head goes_on [] x r next h = h
ends_head goes_on (w ∷ front) x r next h = h

pub next_head : (mark : Mark) (front : List Word) (x : Word) (r next : List Word) → is_next mark (front ++ x ∷ r) ≡ is_next mark (front ++ x ∷ next)
next_head mark [] x r next = refl
next_head mark (w ∷ front) x r next = refl

pub or_left : (a b : Bool) → (a || b) ≡ false → a ≡ false
or_left false b h = refl
or_left true b h = absurd cc

pub or_right : (a b : Bool) → (a || b) ≡ false → b ≡ false
or_right false b h = h
or_right true b h = absurd cc

pub or_false : (a b : Bool) → a ≡ false → b ≡ false → (a || b) ≡ false
or_false a b h g = rw (h, g) refl

-- ---- a mark behind
pub before_ok : {A : Type 0} (mark : Mark) (a b : A) (ts rest : List Word) → before mark a ts ≡ Ok (b, rest) → (ts ≡ word.mark mark ∷ rest) × (a ≡ b)
before_ok {A} mark a b ts rest h = by (is_next mark ts) refl h
  where
    by : (t : Bool) → is_next mark ts ≡ t → (if t then ok_pair a (drop 1 ts) else expected ts) ≡ ok_pair b rest → (ts ≡ word.mark mark ∷ rest) × (a ≡ b)
    by true q h = let p = ok_parts a b (drop 1 ts) rest h in (the_next mark ts q ∙ ap (λ r. word.mark mark ∷ r) p.1, p.0)
    by false q h = absurd cc

-- a mark that is missing
pub record Missing (mark : Mark) (ts : List Word) (f : Fault) : Type 0 where
  pub place : left f ≡ length ts
  pub other : is_next mark ts ≡ false

pub before_err : {A : Type 0} (mark : Mark) (a : A) (ts : List Word) (f : Fault) → before mark a ts ≡ Err f → Missing mark ts f
before_err {A} mark a ts f h = by (is_next mark ts) refl h
  where
    by : (t : Bool) → is_next mark ts ≡ t → (if t then ok_pair a (drop 1 ts) else expected ts) ≡ err_of f → Missing mark ts f
    by true q h = absurd cc
    by false q h = record { place = expected_left ts f h; other = q }

pub before_refuses : {A : Type 0} (mark : Mark) (a : A) (ts : List Word) → is_next mark ts ≡ false → Refuses (before mark a) ts
before_refuses {A} mark a ts q y h = by (is_next mark ts) q h
  where
    by : (t : Bool) → t ≡ false → (if t then ok_pair a (drop 1 ts) else expected ts) ≡ Ok y → ⊥
    by true q h = absurd cc
    by false q h = absurd cc

-- ---- forms inside forms
module _ {A B : Type 0} (a_words : A → List Word → List Word) (b_words : B → List Word → List Word) (BadA BadB : List Word → Type 0) where
  -- a form that is stuck inside another: `begin` are the words before it
  pub stuck_inside : (begin : List Word) (within : A → B) (close : List Word) (us : List Word) (f : Fault)
      → ((a : A) → b_words (within a) [] ≡ begin ++ a_words a close) → ((a : A) (x y : List Word) → a_words a (x ++ y) ≡ a_words a x ++ y)
      → ((front : List Word) (x : Word) (r next : List Word) → us ≡ front ++ x ∷ r → BadA (front ++ x ∷ next) → BadB (begin ++ (front ++ x ∷ next)))
      → Stuck a_words BadA us f → Stuck b_words BadB (begin ++ us) f
  stuck_inside begin within close us f spelled parted bad s = record {
    front = begin ++ s.front;
    after = s.after;
    split = ap (λ r. begin ++ r) s.split ∙ sym (append_assoc begin s.front s.after);
    place = s.place;
    goes = within s.goes;
    more = s.more ++ close;
    begins = spelled s.goes ∙ ap (λ r. begin ++ r) (parted s.goes [] close ∙ ap (λ r. r ++ close) s.begins ∙ append_assoc s.front s.more close) ∙ sym (append_assoc begin s.front (s.more ++ close));
    local = λ x r next e. subst BadB (sym (append_assoc begin s.front (x ∷ next))) (bad s.front x r next (s.split ∙ ap (λ q. s.front ++ q) e) (s.local x r next e));
  }

-- a form that was read whole, behind which something is missing: `begin` are the words before it
pub stuck_behind : {A B : Type 0} (a_words : A → List Word → List Word) (b_words : B → List Word → List Word) (Bad : List Word → Type 0)
    → ((a : A) (x y : List Word) → a_words a (x ++ y) ≡ a_words a x ++ y)
    → (begin : List Word) (goes : B) (close : List Word) (a : A) (after : List Word) (f : Fault) → left f ≡ length after → b_words goes [] ≡ begin ++ a_words a close
    → ((x : Word) (r next : List Word) → after ≡ x ∷ r → Bad (begin ++ a_words a (x ∷ next))) → Stuck b_words Bad (begin ++ a_words a after) f
stuck_behind a_words b_words Bad parted begin goes close a after f place spelled bad =
    let part : (r : List Word) → begin ++ a_words a r ≡ (begin ++ a_words a []) ++ r = λ r. ap (λ z. begin ++ z) (parted a [] r) ∙ sym (append_assoc begin (a_words a []) r) in
    record {
      front = begin ++ a_words a [];
      after = after;
      split = part after;
      place = place;
      goes = goes;
      more = close;
      begins = spelled ∙ part close;
      local = λ x r next e. subst Bad (part (x ∷ next)) (bad x r next e);
    }

pub not_true : (b : Bool) → (b ≡ true → ⊥) → b ≡ false
not_true true h = absurd (h refl)
not_true false h = refl

pub never_on : (rest : List Word) → Ends (λ w. false) rest
never_on [] = tt
never_on (w ∷ rest) = refl

pub next_is : (goes_on : Word → Bool) (x : Word) (r next : List Word) (after : List Word) → after ≡ x ∷ r → Ends goes_on after → Ends goes_on (x ∷ next)
next_is goes_on x r next after e h = subst (Ends goes_on) e h

pub next_same : (mark : Mark) (x : Word) (r next : List Word) (after : List Word) → after ≡ x ∷ r → is_next mark after ≡ false → is_next mark (x ∷ next) ≡ false
next_same mark x r next after e h = subst (λ z. is_next mark z ≡ false) e h
