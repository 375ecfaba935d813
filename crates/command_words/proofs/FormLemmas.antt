-- The walk over the forms agrees with the pieces.
use Rattle.std.proofs.Common.{◌≡◌, ◌∙◌, ◌||◌, ◌==◌, ◌<◌, ◌≤◌, ◌+◌, ℕ, Bool, true, false, List, [], ◌∷◌, Some, None, Option, refl, sym, ap, cond, length, is_some, map, drop, get_or, zero, suc, arith, codes}
use Rattle.std.specs.Str.{bytes_eq}
use Rattle.command_words.specs.Words.{Text, Piece, given, file, is_plain, is_file, is_option, is_attached, before_equals, behind_equals, with_piece, files_behind, pieces_from}
use Rattle.command_words.specs.Forms.{after_word, forms_from}
use Rattle.command_words.specs.declared.forms.Expected.{Expected}
use Rattle.command_words.specs.declared.forms.Expected.TheVariants as expected

is_some-with_piece : (p : Piece) (found : Option (List Piece)) → is_some (with_piece p found) ≡ is_some found
is_some-with_piece p None = refl
is_some-with_piece p (Some ps) = refl

module _ (options : List Text) where
  trailing_forms : (words : List Text) → is_some (files_behind words) ≡ forms_from options (Some expected.File) words
  trailing_forms [] = refl
  trailing_forms (word ∷ rest) = go (length word == 0) (trailing_forms rest)
    where
      go : (b : Bool) → is_some (files_behind rest) ≡ forms_from options (Some expected.File) rest
          → is_some (cond b None (with_piece (file word) (files_behind rest))) ≡ forms_from options (cond b None (Some expected.File)) rest
      go true same = refl
      go false same = is_some-with_piece (file word) (files_behind rest) ∙ same

  -- a word where anything may stand, by the four tests
  any_forms : (a b c d : Bool) (rest : List Text) (x y z : Option (List Piece)) (p q : Piece)
      → is_some x ≡ forms_from options (Some expected.File) rest
      → is_some y ≡ forms_from options (Some expected.Value) rest
      → is_some z ≡ forms_from options (Some expected.Any) rest
      → is_some (cond a x (cond b y (cond c (with_piece p z) (cond d (with_piece q z) None))))
      ≡ forms_from options (cond a (Some expected.File) (cond b (Some expected.Value) (cond (c || d) (Some expected.Any) None))) rest
  any_forms true b c d rest x y z p q ex ey ez = ex
  any_forms false true c d rest x y z p q ex ey ez = ey
  any_forms false false true d rest x y z p q ex ey ez = is_some-with_piece p z ∙ ez
  any_forms false false false true rest x y z p q ex ey ez = is_some-with_piece q z ∙ ez
  any_forms false false false false rest x y z p q ex ey ez = refl

  abbrev expects : Option Text → Expected
  expects None = expected.Any
  expects (Some o) = expected.Value

  pub pieces-forms : (words : List Text) (waits : Option Text) → is_some (pieces_from options waits words) ≡ forms_from options (Some (expects waits)) words
  pieces-forms [] None = refl
  pieces-forms [] (Some o) = refl
  pieces-forms (word ∷ rest) (Some o) = go (is_plain word) (pieces-forms rest None)
    where
      go : (b : Bool) → is_some (pieces_from options None rest) ≡ forms_from options (Some expected.Any) rest
          → is_some (cond b (with_piece (given o word) (pieces_from options None rest)) None) ≡ forms_from options (cond b (Some expected.Any) None) rest
      go true same = is_some-with_piece (given o word) (pieces_from options None rest) ∙ same
      go false same = refl
  pieces-forms (word ∷ rest) None =
      any_forms (bytes_eq word (codes "--")) (is_option options word) (is_attached options word) (is_file word) rest
      (files_behind rest) (pieces_from options (Some word) rest) (pieces_from options None rest)
      (given (before_equals word) (behind_equals word)) (file word)
      (trailing_forms rest) (pieces-forms rest (Some word)) (pieces-forms rest None)

  module _ {S : Type 0} (text_of : S → Text) where
    -- one more word
    pub forms-next : (e : Expected) (words : List S) (i : ℕ) (word : S) → i < length words → word ≡ get_or words i word
        → forms_from options (Some e) (map text_of (drop i words)) ≡ forms_from options (after_word options e (text_of word)) (map text_of (drop (i + 1) words))
    forms-next e words i word within is =
        let next : i + 1 ≡ suc i = omega arith in
        rw next (go words i within is)
      where
        go : (words : List S) (i : ℕ) → i < length words → word ≡ get_or words i word
            → forms_from options (Some e) (map text_of (drop i words)) ≡ forms_from options (after_word options e (text_of word)) (map text_of (drop (suc i) words))
        go [] i within is = absurd (omega arith)
        go (x ∷ xs) zero within is = ap (λ (w : S). forms_from options (after_word options e (text_of w)) (map text_of xs)) (sym is)
        go (x ∷ xs) (suc i) within is = go xs i (omega arith) is

pub drop_end : {S : Type 0} (xs : List S) (i : ℕ) → length xs ≤ i → drop i xs ≡ []
drop_end [] zero h = refl
drop_end [] (suc i) h = refl
drop_end (x ∷ xs) zero h = absurd (omega arith)
drop_end (x ∷ xs) (suc i) h = drop_end xs i (omega arith)
