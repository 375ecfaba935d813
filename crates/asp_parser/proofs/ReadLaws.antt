-- What readers read, by the readers of their parts.
use Rattle.std.proofs.Common.{◌≡◌, ℕ, ◌+◌, Bool, true, false, if◌then◌else◌, List, [], ◌∷◌, length, drop, Option, Some, None, Ok, Err, refl, sym, ◌∙◌, ap, arith}
use Rattle.std.specs.Option.{is_some}
use Rattle.lexer.specs.declared.token.Token.{Token}
use Rattle.grammar.specs.declared.mark.Mark.{Mark}
use Rattle.grammar.specs.Word.{Word, words_at, is_word, is_next}
use Rattle.grammar.specs.Reading.{Fault, Expected, Outcome, Reader, Either, one, other, and_then, expected, before, pair_with, marked_with, closed_with, mapped_with, starts_next, maybe_with, sign_at, signed_with, either_with, kept_by, kept_with}
use Rattle.grammar.proofs.Lawful.{bind_by}
use Rattle.theory_grammar.proofs.StateLemmas.{words_next}
use Rattle.theory_grammar.proofs.TermReads.{then_fails}

-- a mark that comes next is the word with which the form begins
pub starts_by : (mark : Mark) (words : List Word) → starts_next (is_word mark) words ≡ is_next mark words
starts_by mark [] = refl
starts_by mark (w ∷ words) = refl

pub mapped_ok : {A B : Type 0} (f : A → B) (read : Reader A) (ts : List Word) (a : A) (rest : List Word) → read ts ≡ Ok (a, rest) → mapped_with f read ts ≡ Ok (f a, rest)
mapped_ok f read ts a rest h = bind_by (read ts) _ a rest h

pub mapped_err : {A B : Type 0} (f : A → B) (read : Reader A) (ts : List Word) (g : Fault) → read ts ≡ Err g → mapped_with f read ts ≡ Err g
mapped_err f read ts g h = then_fails (read ts) _ g h

pub one_ok : {A B : Type 0} (starts : Word → Bool) (first : Reader A) (second : Reader B) (ts : List Word) (a : A) (rest : List Word) → starts_next starts ts ≡ true → first ts ≡ Ok (a, rest) → either_with starts first second ts ≡ Ok (one a, rest)
one_ok starts first second ts a rest h g = (let e : either_with starts first second ts ≡ and_then (first ts) (λ a rest. Ok (one a, rest)) = rw h refl in e) ∙ bind_by (first ts) _ a rest g

pub one_err : {A B : Type 0} (starts : Word → Bool) (first : Reader A) (second : Reader B) (ts : List Word) (f : Fault) → starts_next starts ts ≡ true → first ts ≡ Err f → either_with starts first second ts ≡ Err f
one_err starts first second ts f h g = (let e : either_with starts first second ts ≡ and_then (first ts) (λ a rest. Ok (one a, rest)) = rw h refl in e) ∙ then_fails (first ts) _ f g

pub other_ok : {A B : Type 0} (starts : Word → Bool) (first : Reader A) (second : Reader B) (ts : List Word) (b : B) (rest : List Word) → starts_next starts ts ≡ false → second ts ≡ Ok (b, rest) → either_with starts first second ts ≡ Ok (other b, rest)
other_ok starts first second ts b rest h g = (let e : either_with starts first second ts ≡ and_then (second ts) (λ b rest. Ok (other b, rest)) = rw h refl in e) ∙ bind_by (second ts) _ b rest g

pub other_err : {A B : Type 0} (starts : Word → Bool) (first : Reader A) (second : Reader B) (ts : List Word) (f : Fault) → starts_next starts ts ≡ false → second ts ≡ Err f → either_with starts first second ts ≡ Err f
other_err starts first second ts f h g = (let e : either_with starts first second ts ≡ and_then (second ts) (λ b rest. Ok (other b, rest)) = rw h refl in e) ∙ then_fails (second ts) _ f g

pub maybe_gone : {A : Type 0} (starts : Word → Bool) (read : Reader A) (ts : List Word) → starts_next starts ts ≡ false → maybe_with starts read ts ≡ Ok (None, ts)
maybe_gone starts read ts h = rw h refl

pub maybe_ok : {A : Type 0} (starts : Word → Bool) (read : Reader A) (ts : List Word) (a : A) (rest : List Word) → starts_next starts ts ≡ true → read ts ≡ Ok (a, rest) → maybe_with starts read ts ≡ Ok (Some a, rest)
maybe_ok starts read ts a rest h g = (let e : maybe_with starts read ts ≡ and_then (read ts) (λ a rest. Ok (Some a, rest)) = rw h refl in e) ∙ bind_by (read ts) _ a rest g

pub maybe_err : {A : Type 0} (starts : Word → Bool) (read : Reader A) (ts : List Word) (f : Fault) → starts_next starts ts ≡ true → read ts ≡ Err f → maybe_with starts read ts ≡ Err f
maybe_err starts read ts f h g = (let e : maybe_with starts read ts ≡ and_then (read ts) (λ a rest. Ok (Some a, rest)) = rw h refl in e) ∙ then_fails (read ts) _ f g

pub pair_ok : {A B : Type 0} (first : Reader A) (second : Reader B) (ts : List Word) (a : A) (middle : List Word) (b : B) (rest : List Word) → first ts ≡ Ok (a, middle) → second middle ≡ Ok (b, rest) → pair_with first second ts ≡ Ok ((a, b), rest)
pair_ok first second ts a middle b rest h g = bind_by (first ts) _ a middle h ∙ bind_by (second middle) _ b rest g

pub pair_first_err : {A B : Type 0} (first : Reader A) (second : Reader B) (ts : List Word) (f : Fault) → first ts ≡ Err f → pair_with first second ts ≡ Err f
pair_first_err first second ts f h = then_fails (first ts) _ f h

pub pair_second_err : {A B : Type 0} (first : Reader A) (second : Reader B) (ts : List Word) (a : A) (middle : List Word) (f : Fault) → first ts ≡ Ok (a, middle) → second middle ≡ Err f → pair_with first second ts ≡ Err f
pair_second_err first second ts a middle f h g = bind_by (first ts) _ a middle h ∙ then_fails (second middle) _ f g

pub kept_ok : {A B : Type 0} (keep : A → Option B) (read : Reader A) (ts : List Word) (a : A) (rest : List Word) (b : B) → read ts ≡ Ok (a, rest) → keep a ≡ Some b → kept_with keep read ts ≡ Ok (b, rest)
kept_ok keep read ts a rest b h g = bind_by (read ts) _ a rest h ∙ ap (λ o. kept_by o rest) g

pub kept_none : {A B : Type 0} (keep : A → Option B) (read : Reader A) (ts : List Word) (a : A) (rest : List Word) → read ts ≡ Ok (a, rest) → keep a ≡ None → kept_with keep read ts ≡ Err (Expected (length rest))
kept_none keep read ts a rest h g = bind_by (read ts) _ a rest h ∙ ap (λ o. kept_by o rest) g

pub kept_err : {A B : Type 0} (keep : A → Option B) (read : Reader A) (ts : List Word) (f : Fault) → read ts ≡ Err f → kept_with keep read ts ≡ Err f
kept_err keep read ts f h = then_fails (read ts) _ f h

module _ (text : List ℕ) (tokens : List Token) where
  abbrev pub here : ℕ → List Word
  here at = words_at text tokens at

  pub marked_is : {A : Type 0} (mark : Mark) (read : Reader A) (at : ℕ) → is_next mark (here at) ≡ true → marked_with mark read (here at) ≡ read (here (at + 1))
  marked_is mark read at h = (let e : marked_with mark read (here at) ≡ read (drop 1 (here at)) = rw h refl in e) ∙ ap read (words_next text tokens at)

  pub marked_gone : {A : Type 0} (mark : Mark) (read : Reader A) (at : ℕ) → is_next mark (here at) ≡ false → marked_with mark read (here at) ≡ Err (Expected (length (here at)))
  marked_gone mark read at h = rw h refl

  pub before_ok : {A : Type 0} (mark : Mark) (a : A) (at : ℕ) → is_next mark (here at) ≡ true → before mark a (here at) ≡ Ok (a, here (at + 1))
  before_ok mark a at h = (let e : before mark a (here at) ≡ Ok (a, drop 1 (here at)) = rw h refl in e) ∙ ap (λ z. Ok (a, z)) (words_next text tokens at)

  pub before_gone : {A : Type 0} (mark : Mark) (a : A) (at : ℕ) → is_next mark (here at) ≡ false → before mark a (here at) ≡ Err (Expected (length (here at)))
  before_gone mark a at h = rw h refl

  pub closed_ok : {A : Type 0} (mark : Mark) (read : Reader A) (at : ℕ) (a : A) (behind : ℕ) → read (here at) ≡ Ok (a, here behind) → is_next mark (here behind) ≡ true → closed_with mark read (here at) ≡ Ok (a, here (behind + 1))
  closed_ok mark read at a behind h g = bind_by (read (here at)) _ a (here behind) h ∙ before_ok mark a behind g

  pub closed_gone : {A : Type 0} (mark : Mark) (read : Reader A) (at : ℕ) (a : A) (behind : ℕ) → read (here at) ≡ Ok (a, here behind) → is_next mark (here behind) ≡ false → closed_with mark read (here at) ≡ Err (Expected (length (here behind)))
  closed_gone mark read at a behind h g = bind_by (read (here at)) _ a (here behind) h ∙ before_gone mark a behind g

  pub closed_err : {A : Type 0} (mark : Mark) (read : Reader A) (at : ℕ) (f : Fault) → read (here at) ≡ Err f → closed_with mark read (here at) ≡ Err f
  closed_err mark read at f h = then_fails (read (here at)) _ f h

  signed_is : {S A : Type 0} (sign : Word → Option S) (read : Reader A) (at : ℕ) (s : S) → sign_at sign (here at) ≡ Some s → signed_with sign read (here at) ≡ and_then (read (here (at + 1))) (λ a rest. Ok ((s, a), rest))
  signed_is {S} {A} sign read at s h =
      ap (λ found. elim found [ Some s ↦ and_then (read (drop 1 (here at))) (λ a rest. Ok ((s, a), rest)) | None ↦ expected {A = S × A} (here at) ]) h ∙ ap (λ z. and_then (read z) (λ a rest. Ok ((s, a), rest))) (words_next text tokens at)

  pub signed_ok : {S A : Type 0} (sign : Word → Option S) (read : Reader A) (at : ℕ) (s : S) (a : A) (rest : List Word) → sign_at sign (here at) ≡ Some s → read (here (at + 1)) ≡ Ok (a, rest) → signed_with sign read (here at) ≡ Ok ((s, a), rest)
  signed_ok sign read at s a rest h g = signed_is sign read at s h ∙ bind_by (read (here (at + 1))) _ a rest g

  pub signed_err : {S A : Type 0} (sign : Word → Option S) (read : Reader A) (at : ℕ) (s : S) (f : Fault) → sign_at sign (here at) ≡ Some s → read (here (at + 1)) ≡ Err f → signed_with sign read (here at) ≡ Err f
  signed_err sign read at s f h g = signed_is sign read at s h ∙ then_fails (read (here (at + 1))) _ f g
