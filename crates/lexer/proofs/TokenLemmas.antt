-- Each token of a tokenisation, by itself and in its order.
use Rattle.std.proofs.Common.{◌≡◌, ℕ, ◌+◌, ◌-◌, ◌≤◌, true, List, [], ◌∷◌, ◌++◌, length, take, drop, refl, sym, ap, subst, ◌∙◌, arith, append_assoc, length-append}
use Rattle.std.proofs.lemmas.List.{drop_at, take_at}
use Rattle.std.specs.List.{All, AllByRecursion, slice_range}
use Rattle.std.specs.Prelude.{IfOk, Result, Ok, Err}
use Rattle.std.proofs.lemmas.List.Elements.{All-from_recursion}
use Rattle.lexer.specs.declared.token.TokenKind.{TokenKind}
use Rattle.lexer.specs.declared.token.Token.{Token}
use Rattle.lexer.specs.declared.token.LexFault.{LexFault}
use Rattle.lexer.specs.declared.token.LexStop.{LexStop}
use Rattle.lexer.specs.declared.token.LexStop.TheVariants.{Fault, Memory}
use Rattle.lexer.specs.Faults.{IfFault}
use Rattle.lexer.specs.Forms.{has_form, is_sound}
use Rattle.lexer.specs.Parts.{Part, blank, line_comment, comment, token, part_bytes, parts_text, tokens_of, Stands, AllStand, IsParted}
use Rattle.lexer.specs.Tokens.{IsTokenOf, IsInOrder}
use Rattle.lexer.proofs.PartLemmas.{part_nonempty}

-- the bytes between two places are what stands there
pub range_at : (before bytes rest : List ℕ) → slice_range (before ++ (bytes ++ rest)) (length before) (length before + length bytes) ≡ bytes
range_at before bytes rest =
    let long : (length before + length bytes) - length before ≡ length bytes = omega arith in
    ap (λ n. take n (drop (length before) (before ++ (bytes ++ rest)))) long
    ∙ ap (λ xs. take (length bytes) xs) (drop_at before (bytes ++ rest) (length before) refl)
    ∙ take_at bytes rest (length bytes) refl

token_of : (before : List ℕ) (kind : TokenKind) (bytes rest text : List ℕ) → text ≡ before ++ (bytes ++ rest) → Stands (token kind bytes) rest
    → IsTokenOf text (record { kind = kind; start = length before; «end» = length before + length bytes })
token_of before kind bytes rest text e s =
    let range : slice_range text (length before) (length before + length bytes) ≡ bytes =
    ap (λ xs. slice_range xs (length before) (length before + length bytes)) e ∙ range_at before bytes rest in
    let some = part_nonempty (token kind bytes) rest s in
    let long : length text ≡ length before + (length bytes + length rest) =
    ap length e ∙ length-append before (bytes ++ rest) ∙ ap (λ n. length before + n) (length-append bytes rest) in
    let F : List ℕ → Type 0 = λ xs. has_form kind xs ≡ true in
    let S : List ℕ → Type 0 = λ xs. is_sound kind xs ≡ true in
    record {
      some = omega arith;
      within = omega arith;
      form = subst F (sym range) s.0.form;
      sound = subst S (sym range) s.1;
    }

-- the tokens of the parts behind one
later : (before : List ℕ) (part : Part) (parts : List Part) (rest text : List ℕ) → text ≡ before ++ parts_text (part ∷ parts) rest → AllStand parts rest
    → ((front : List ℕ) → text ≡ front ++ parts_text parts rest → AllByRecursion (IsTokenOf text) (tokens_of (length front) parts))
    → AllByRecursion (IsTokenOf text) (tokens_of (length before + length (part_bytes part)) parts)
later before part parts rest text e all each =
    let next : length before + length (part_bytes part) ≡ length (before ++ part_bytes part) = sym (length-append before (part_bytes part)) in
    let P : ℕ → Type 0 = λ n. AllByRecursion (IsTokenOf text) (tokens_of n parts) in
    subst P (sym next) (each (before ++ part_bytes part) (e ∙ sym (append_assoc before (part_bytes part) (parts_text parts rest))))

tokens_each : (before : List ℕ) (parts : List Part) (rest text : List ℕ) → text ≡ before ++ parts_text parts rest → AllStand parts rest
    → AllByRecursion (IsTokenOf text) (tokens_of (length before) parts)
tokens_each before [] rest text e all = tt
tokens_each before (blank byte ∷ parts) rest text e all = later before (blank byte) parts rest text e all.1 (λ b f. tokens_each b parts rest text f all.1)
tokens_each before (line_comment inside ∷ parts) rest text e all = later before (line_comment inside) parts rest text e all.1 (λ b f. tokens_each b parts rest text f all.1)
tokens_each before (comment inside ∷ parts) rest text e all = later before (comment inside) parts rest text e all.1 (λ b f. tokens_each b parts rest text f all.1)
tokens_each before (token kind bytes ∷ parts) rest text e all =
    let next : length before + length bytes ≡ length (before ++ bytes) = sym (length-append before bytes) in
    let P : ℕ → Type 0 = λ n. AllByRecursion (IsTokenOf text) (tokens_of n parts) in (
      token_of before kind bytes (parts_text parts rest) text e all.0,
      subst P (sym next) (tokens_each (before ++ bytes) parts rest text (e ∙ sym (append_assoc before bytes (parts_text parts rest))) all.1),
    )

-- each token is one of the text
pub each_token : (text : List ℕ) (tokens : List Token) → IsParted text tokens → AllByRecursion (IsTokenOf text) tokens
each_token text tokens is =
    let P : List Token → Type 0 = λ ts. AllByRecursion (IsTokenOf text) ts in
    subst P (sym is.are) (tokens_each [] is.parts [] text is.whole is.stand)

order_later : (from at : ℕ) (tokens : List Token) → from ≤ at → IsInOrder at tokens → IsInOrder from tokens
order_later from at [] l h = tt
order_later from at (t ∷ ts) l h =
    let first = h.0 in
    (omega arith, h.1)

pub tokens_order : (at : ℕ) (parts : List Part) → IsInOrder at (tokens_of at parts)
tokens_order at [] = tt
tokens_order at (blank byte ∷ parts) = order_later at (at + length (byte ∷ [])) (tokens_of (at + length (byte ∷ [])) parts) (omega arith) (tokens_order (at + length (byte ∷ [])) parts)
tokens_order at (line_comment inside ∷ parts) =
    order_later at (at + length (37 ∷ inside)) (tokens_of (at + length (37 ∷ inside)) parts) (omega arith) (tokens_order (at + length (37 ∷ inside)) parts)
tokens_order at (comment inside ∷ parts) =
    let next : ℕ = at + length (part_bytes (comment inside)) in
    order_later at next (tokens_of next parts) (omega arith) (tokens_order next parts)
tokens_order at (token kind bytes ∷ parts) = (omega arith, tokens_order (at + length bytes) parts)

pub in_order : (text : List ℕ) (tokens : List Token) → IsParted text tokens → IsInOrder 0 tokens
in_order text tokens is =
    let P : List Token → Type 0 = λ ts. IsInOrder 0 ts in
    subst P (sym is.are) (tokens_order 0 is.parts)

pub all_tokens : (text : List ℕ) (tokens : List Token) → IsParted text tokens → All (IsTokenOf text) tokens
all_tokens text tokens is = All-from_recursion (IsTokenOf text) tokens (each_token text tokens is)

-- what a claim gives of a result gives it where there is one
pub if_ok : {E : Type 0} (result : Result (List Token) E) (p q : List Token → Type 0) → ((tokens : List Token) → p tokens → q tokens) → IfOk result p → IfOk result q
if_ok (Ok tokens) p q w h = w tokens h
if_ok (Err e) p q w h = tt

pub if_fault : {A : Type 0} (result : Result A LexStop) (p q : LexFault → Type 0) → ((fault : LexFault) → p fault → q fault) → IfFault result p → IfFault result q
if_fault (Ok found) p q w h = tt
if_fault (Err (Fault fault)) p q w h = w fault h
if_fault (Err Memory) p q w h = tt
