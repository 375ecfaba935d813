-- Laws of nodes: which of them say the same, and what they say as names and lists are added.
use Rattle.std.proofs.Common.{◌≡◌, ℕ, ℤ, ◌<◌, ◌≤◌, ◌^◌, List, [], ◌∷◌, ◌++◌, length, map, Some, Bool, true, false, cond, refl, sym, ap, ◌∙◌, subst, arith, rules, inl, inr, slice_get, ◌⊎◌, not, take, is_some, IfSome, IfNone, Option, None, option_map}
use Rattle.std.proofs.lemmas.Bool.Decides.{Decides-eqb, Decides-int_eq}
use Rattle.std.proofs.lemmas.List.{map-append}
use Rattle.std.proofs.Common.{append-nil, zero, suc}
use Rattle.std.proofs.lemmas.Option.{slice_get-get_or, slice_get-map, slice_get_within}
use Rattle.std.proofs.lemmas.Slice.Eq.{slice_eq-Decides}
use Rattle.std.specs.Bool.{Decides}
use Rattle.std.specs.Cmp.Lexicographic.{pointwise}
use Rattle.std.specs.List.{AllByRecursion, IsDistinct, list_any, position}
use Rattle.symbols.specs.declared.layers.Node.{Node}
use Rattle.symbols.specs.declared.layers.Node.TheVariants.{Number as NumberNode, Identifier as IdentifierNode, Text as TextNode, Short as ShortNode, Long as LongNode}
use Rattle.symbols.specs.declared.layers.Layers.{Layers}
use Rattle.symbols.specs.contracts.layers.NodePartialEq.TheImpl.{ghosts as node}
use Rattle.symbols.specs.contracts.symbol_id.SymbolIdPartialEq.TheImpl.{ghosts as id}
use Rattle.symbols.specs.inner.Layer.{Layer, NumberLayer, IdentifierLayer, TextLayer, FunctionLayer}
use Rattle.symbols.specs.inner.Layers.{IsEachOnce, IsBegun, names_of, lists_of, list_at, padded, arg_at, IsPadded, layer_of, IsKnown, layers_of, AreLayers}
use Rattle.symbols.proofs.ListLemmas.{AllByRecursion-push, AllByRecursion-map, at_place, map-found, found_at, absent_at, list_at-place, IsEachOnce-distinct, list_at-begun, length-begun, one_list}

-- `==` decides whether two lists of ids are one
pub same_items : (xs ys : List ℕ) → Decides (pointwise id.eq xs ys) (xs ≡ ys)
same_items xs ys = slice_eq-Decides {A = ℕ} {E = id.eq} Decides-eqb xs ys (pointwise id.eq xs ys) refl

-- a node is equal to itself by `==`
pub node_itself : (a : Node) → node.eq a a ≡ true
node_itself (NumberNode n) = (Decides-int_eq n n).1 refl
node_itself (IdentifierNode name) = (Decides-eqb name name).1 refl
node_itself (TextNode text) = (Decides-eqb text text).1 refl
node_itself (ShortNode name count places) =
    grind (arith, (Decides-eqb name name).1 refl, (Decides-eqb count count).1 refl, (same_items places places).1 refl)
node_itself (LongNode name list) = grind (arith, (Decides-eqb name name).1 refl, (Decides-eqb list list).1 refl)

-- nodes that `==` finds equal are one
pub same_node : (a b : Node) → node.eq a b ≡ true → a ≡ b
same_node (NumberNode x) (NumberNode y) h = let e : x ≡ y = (Decides-int_eq x y).0 h in ap NumberNode e
same_node (IdentifierNode x) (IdentifierNode y) h = let e : x ≡ y = (Decides-eqb x y).0 h in ap IdentifierNode e
same_node (TextNode x) (TextNode y) h = let e : x ≡ y = (Decides-eqb x y).0 h in ap TextNode e
same_node (ShortNode x c xs) (ShortNode y d ys) h =
    let name : x ≡ y = grind arith in
    let count : c ≡ d = grind arith in
    let places : xs ≡ ys = grind (arith, same_items xs ys) in
    (λ i. ShortNode (name i) (count i) (places i))
same_node (LongNode x l) (LongNode y k) h =
    let name : x ≡ y = grind arith in
    let list : l ≡ k = grind arith in
    (λ i. LongNode (name i) (list i))
same_node (NumberNode x) (IdentifierNode y) h = cc
same_node (NumberNode x) (TextNode y) h = cc
same_node (NumberNode x) (ShortNode y d ys) h = cc
same_node (NumberNode x) (LongNode y l) h = cc
same_node (IdentifierNode x) (NumberNode y) h = cc
same_node (IdentifierNode x) (TextNode y) h = cc
same_node (IdentifierNode x) (ShortNode y d ys) h = cc
same_node (IdentifierNode x) (LongNode y l) h = cc
same_node (TextNode x) (NumberNode y) h = cc
same_node (TextNode x) (IdentifierNode y) h = cc
same_node (TextNode x) (ShortNode y d ys) h = cc
same_node (TextNode x) (LongNode y l) h = cc
same_node (ShortNode x c xs) (NumberNode y) h = cc
same_node (ShortNode x c xs) (IdentifierNode y) h = cc
same_node (ShortNode x c xs) (TextNode y) h = cc
same_node (ShortNode x c xs) (LongNode y l) h = cc
same_node (LongNode x l) (NumberNode y) h = cc
same_node (LongNode x l) (IdentifierNode y) h = cc
same_node (LongNode x l) (TextNode y) h = cc
same_node (LongNode x l) (ShortNode y d ys) h = cc

-- ---- which nodes say the same

number_in : (x y : ℤ) → NumberLayer x ≡ NumberLayer y → x ≡ y
number_in x y e = cc

identifier_in : (x y : List ℕ) → IdentifierLayer x ≡ IdentifierLayer y → x ≡ y
identifier_in x y e = cc

text_in : (x y : List ℕ) → TextLayer x ≡ TextLayer y → x ≡ y
text_in x y e = cc

name_in : (x y xs ys : List ℕ) → FunctionLayer x xs ≡ FunctionLayer y ys → x ≡ y
name_in x y xs ys e = cc

items_in : (x y xs ys : List ℕ) → FunctionLayer x xs ≡ FunctionLayer y ys → xs ≡ ys
items_in x y xs ys e = cc

-- up to four arguments are not more than four
few_or_many : (count : ℕ) (places : List ℕ) (lists : List (List ℕ)) (l : ℕ) → IsPadded count places → AllByRecursion (λ list. 4 < length list) lists → l < length lists
    → take count places ≡ list_at lists l → ⊥
few_or_many count places lists l p long within e =
    let many : 4 < length (list_at lists l) = at_place (λ list. 4 < length list) lists l (list_at lists l) long (slice_get-get_or lists l [] within) in
    omega (arith, many, ap length e, p.long, p.few)

-- nodes that are known and say the same are one
pub said_once : (names lists : List (List ℕ)) (a b : Node) → IsEachOnce names → IsEachOnce lists → AllByRecursion (λ list. 4 < length list) lists
    → IsKnown (length names) (length lists) a → IsKnown (length names) (length lists) b → layer_of names lists a ≡ layer_of names lists b → a ≡ b
said_once names lists (NumberNode x) (NumberNode y) once each long p q e = ap NumberNode (number_in x y e)
said_once names lists (IdentifierNode x) (IdentifierNode y) once each long p q e = ap IdentifierNode (one_list names x y once p q (identifier_in _ _ e))
said_once names lists (TextNode x) (TextNode y) once each long p q e = ap TextNode (one_list names x y once p q (text_in _ _ e))
said_once names lists (ShortNode x c xs) (ShortNode y d ys) once each long p q e =
    let name : x ≡ y = one_list names x y once p.0 q.0 (name_in _ _ _ _ e) in
    let items : take c xs ≡ take d ys = items_in _ _ _ _ e in
    let count : c ≡ d = sym p.1.long ∙ ap length items ∙ q.1.long in
    let places : xs ≡ ys = p.1.zeros ∙ ap padded items ∙ sym q.1.zeros in
    (λ i. ShortNode (name i) (count i) (places i))
said_once names lists (LongNode x l) (LongNode y k) once each long p q e =
    let name : x ≡ y = one_list names x y once p.0 q.0 (name_in _ _ _ _ e) in
    let list : l ≡ k = one_list lists l k each p.1 q.1 (items_in _ _ _ _ e) in
    (λ i. LongNode (name i) (list i))
said_once names lists (ShortNode x c xs) (LongNode y l) once each long p q e = absurd (few_or_many c xs lists l p.1 long q.1 (items_in _ _ _ _ e))
said_once names lists (LongNode x l) (ShortNode y c ys) once each long p q e = absurd (few_or_many c ys lists l q.1 long p.1 (sym (items_in _ _ _ _ e)))
said_once names lists (NumberNode x) (IdentifierNode y) once each long p q e = cc
said_once names lists (NumberNode x) (TextNode y) once each long p q e = cc
said_once names lists (NumberNode x) (ShortNode y d ys) once each long p q e = cc
said_once names lists (NumberNode x) (LongNode y l) once each long p q e = cc
said_once names lists (IdentifierNode x) (NumberNode y) once each long p q e = cc
said_once names lists (IdentifierNode x) (TextNode y) once each long p q e = cc
said_once names lists (IdentifierNode x) (ShortNode y d ys) once each long p q e = cc
said_once names lists (IdentifierNode x) (LongNode y l) once each long p q e = cc
said_once names lists (TextNode x) (NumberNode y) once each long p q e = cc
said_once names lists (TextNode x) (IdentifierNode y) once each long p q e = cc
said_once names lists (TextNode x) (ShortNode y d ys) once each long p q e = cc
said_once names lists (TextNode x) (LongNode y l) once each long p q e = cc
said_once names lists (ShortNode x c xs) (NumberNode y) once each long p q e = cc
said_once names lists (ShortNode x c xs) (IdentifierNode y) once each long p q e = cc
said_once names lists (ShortNode x c xs) (TextNode y) once each long p q e = cc
said_once names lists (LongNode x l) (NumberNode y) once each long p q e = cc
said_once names lists (LongNode x l) (IdentifierNode y) once each long p q e = cc
said_once names lists (LongNode x l) (TextNode y) once each long p q e = cc

-- ---- more names and lists

pub layer_of-begun : (names lists names' lists' : List (List ℕ)) (a : Node) → IsBegun names names' → IsBegun lists lists' → IsKnown (length names) (length lists) a
    → layer_of names' lists' a ≡ layer_of names lists a
layer_of-begun names lists names' lists' (NumberNode n) p q h = refl
layer_of-begun names lists names' lists' (IdentifierNode name) p q h = ap IdentifierLayer (list_at-begun names names' name p h)
layer_of-begun names lists names' lists' (TextNode text) p q h = ap TextLayer (list_at-begun names names' text p h)
layer_of-begun names lists names' lists' (ShortNode name count places) p q h = ap (λ n. FunctionLayer n (take count places)) (list_at-begun names names' name p h.0)
layer_of-begun names lists names' lists' (LongNode name list) p q h =
    (λ i. FunctionLayer (list_at-begun names names' name p h.0 i) (list_at-begun lists lists' list q h.1 i))

pub IsKnown-more : (n m k l : ℕ) (a : Node) → n ≤ k → m ≤ l → IsKnown n m a → IsKnown k l a
IsKnown-more n m k l (NumberNode x) p q h = tt
IsKnown-more n m k l (IdentifierNode name) p q h = omega (arith, h)
IsKnown-more n m k l (TextNode text) p q h = omega (arith, h)
IsKnown-more n m k l (ShortNode name count places) p q h = (omega (arith, h.0), h.1)
IsKnown-more n m k l (LongNode name list) p q h = (omega (arith, h.0), omega (arith, h.1))

said_begun : (names lists names' lists' : List (List ℕ)) (nodes : List Node) → IsBegun names names' → IsBegun lists lists' → AllByRecursion (IsKnown (length names) (length lists)) nodes
    → map (layer_of names' lists') nodes ≡ map (layer_of names lists) nodes
said_begun names lists names' lists' [] p q all = refl
said_begun names lists names' lists' (a ∷ nodes) p q all =
    let first : layer_of names' lists' a ≡ layer_of names lists a = layer_of-begun names lists names' lists' a p q all.0 in
    let others : map (layer_of names' lists') nodes ≡ map (layer_of names lists) nodes = said_begun names lists names' lists' nodes p q all.1 in
    (λ i. first i ∷ others i)

-- the layers stay as names and lists are added
pub layers-begun : (old new : Layers) → AreLayers old → new.nodes.keys ≡ old.nodes.keys → IsBegun (names_of old) (names_of new) → IsBegun (lists_of old) (lists_of new)
    → layers_of new ≡ layers_of old
layers-begun old new are same p q =
    ap (map (layer_of (names_of new) (lists_of new))) same ∙ said_begun (names_of old) (lists_of old) (names_of new) (lists_of new) old.nodes.keys p q are.known

pub AreLayers-begun : (old new : Layers) → AreLayers old → new.nodes.keys ≡ old.nodes.keys
    → IsBegun (names_of old) (names_of new) → IsEachOnce (names_of new) → length (names_of new) < 2 ^ 32
    → IsBegun (lists_of old) (lists_of new) → IsEachOnce (lists_of new) → length (lists_of new) < 2 ^ 32 → AllByRecursion (λ list. 4 < length list) (lists_of new)
    → AreLayers new
AreLayers-begun old new are same p once few q each short long =
    let fewer : length (names_of old) ≤ length (names_of new) = length-begun (names_of old) (names_of new) p in
    let shorter : length (lists_of old) ≤ length (lists_of new) = length-begun (lists_of old) (lists_of new) q in
    let known : AllByRecursion (IsKnown (length (names_of new)) (length (lists_of new))) old.nodes.keys =
    AllByRecursion-map _ _ (λ a. IsKnown-more _ _ _ _ a fewer shorter) old.nodes.keys are.known in
    record {
      known = subst (AllByRecursion (IsKnown (length (names_of new)) (length (lists_of new)))) (sym same) known;
      names = once;
      lists = each;
      nodes = subst IsEachOnce (sym same) are.nodes;
      long = long;
      few_names = few;
      few_lists = short;
    }

-- ---- more names alone, and then more lists

begun-same : {X : Type 0} (old new : List X) → new ≡ old → IsBegun old new
begun-same old new e = ([], e ∙ sym (append-nil old))

pub layers-names : (old new : Layers) → AreLayers old → new.nodes.keys ≡ old.nodes.keys → lists_of new ≡ lists_of old → IsBegun (names_of old) (names_of new) → layers_of new ≡ layers_of old
layers-names old new are nodes lists p = layers-begun old new are nodes p (begun-same (lists_of old) (lists_of new) lists)

pub AreLayers-names : (old new : Layers) → AreLayers old → new.nodes.keys ≡ old.nodes.keys → lists_of new ≡ lists_of old
    → IsBegun (names_of old) (names_of new) → IsEachOnce (names_of new) → length (names_of new) < 2 ^ 32 → AreLayers new
AreLayers-names old new are nodes lists p once few =
    AreLayers-begun old new are nodes p once few (begun-same (lists_of old) (lists_of new) lists) (subst IsEachOnce (sym lists) are.lists)
    (subst (λ (l : List (List ℕ)). length l < 2 ^ 32) (sym lists) are.few_lists) (subst (AllByRecursion (λ list. 4 < length list)) (sym lists) are.long)

pub lists-begun : (old new : List (List ℕ)) (list : List ℕ) → (new ≡ old) ⊎ (new ≡ old ++ list ∷ []) → IsBegun old new
lists-begun old new list (inl e) = begun-same old new e
lists-begun old new list (inr e) = (list ∷ [], e)

pub lists-long : (old new : List (List ℕ)) (list : List ℕ) → (new ≡ old) ⊎ (new ≡ old ++ list ∷ []) → AllByRecursion (λ l. 4 < length l) old → 4 < length list → AllByRecursion (λ l. 4 < length l) new
lists-long old new list (inl e) all many = subst (AllByRecursion (λ l. 4 < length l)) (sym e) all
lists-long old new list (inr e) all many = subst (AllByRecursion (λ l. 4 < length l)) (sym e) (AllByRecursion-push (λ l. 4 < length l) old list all many)

-- ---- one more node

-- the nodes after an insertion are those before, with the new one behind where it is not among them
pub keys_same : (held added : Bool) (old new : List Node) (a : Node) → new ≡ cond held old (old ++ a ∷ []) → added ≡ not held → added ≡ false → new ≡ old
keys_same true added old new a e is off = e
keys_same false added old new a e is off = cc

pub keys_push : (held added : Bool) (old new : List Node) (a : Node) → new ≡ cond held old (old ++ a ∷ []) → added ≡ not held → added ≡ true → new ≡ old ++ a ∷ []
keys_push true added old new a e is on = cc
keys_push false added old new a e is on = e

pub known_keys : (n m : ℕ) (held : Bool) (old new : List Node) (a : Node) → new ≡ cond held old (old ++ a ∷ []) → AllByRecursion (IsKnown n m) old → IsKnown n m a → AllByRecursion (IsKnown n m) new
known_keys n m true old new a e all p = subst (AllByRecursion (IsKnown n m)) (sym e) all
known_keys n m false old new a e all p = subst (AllByRecursion (IsKnown n m)) (sym e) (AllByRecursion-push (IsKnown n m) old a all p)

pub AreLayers-insert : (old new : Layers) (a : Node) (held : Bool) → AreLayers old → names_of new ≡ names_of old → lists_of new ≡ lists_of old
    → new.nodes.keys ≡ cond held old.nodes.keys (old.nodes.keys ++ a ∷ []) → IsKnown (length (names_of old)) (length (lists_of old)) a → IsDistinct node.eq new.nodes.keys → AreLayers new
AreLayers-insert old new a held are names lists keys known distinct =
    let all : AllByRecursion (IsKnown (length (names_of old)) (length (lists_of old))) new.nodes.keys = known_keys _ _ held old.nodes.keys new.nodes.keys a keys are.known known in
    record {
      known = subst (λ l. AllByRecursion (IsKnown (length (names_of new)) (length l)) new.nodes.keys) (sym lists)
          (subst (λ n. AllByRecursion (IsKnown (length n) (length (lists_of old))) new.nodes.keys) (sym names) all);
      names = subst IsEachOnce (sym names) are.names;
      lists = subst IsEachOnce (sym lists) are.lists;
      nodes = IsEachOnce-distinct node.eq node_itself new.nodes.keys distinct;
      long = subst (AllByRecursion (λ list. 4 < length list)) (sym lists) are.long;
      few_names = subst (λ (n : List (List ℕ)). length n < 2 ^ 32) (sym names) are.few_names;
      few_lists = subst (λ (l : List (List ℕ)). length l < 2 ^ 32) (sym lists) are.few_lists;
    }

-- layers with the same names, lists and nodes
pub AreLayers-same : (old new : Layers) → AreLayers old → names_of new ≡ names_of old → lists_of new ≡ lists_of old → new.nodes.keys ≡ old.nodes.keys → AreLayers new
AreLayers-same old new are names lists nodes =
    record {
      known = subst (λ k. AllByRecursion (IsKnown (length (names_of new)) (length (lists_of new))) k) (sym nodes)
          (subst (λ l. AllByRecursion (IsKnown (length (names_of new)) (length l)) old.nodes.keys) (sym lists)
          (subst (λ n. AllByRecursion (IsKnown (length n) (length (lists_of old))) old.nodes.keys) (sym names) are.known));
      names = subst IsEachOnce (sym names) are.names;
      lists = subst IsEachOnce (sym lists) are.lists;
      nodes = subst IsEachOnce (sym nodes) are.nodes;
      long = subst (AllByRecursion (λ list. 4 < length list)) (sym lists) are.long;
      few_names = subst (λ (n : List (List ℕ)). length n < 2 ^ 32) (sym names) are.few_names;
      few_lists = subst (λ (l : List (List ℕ)). length l < 2 ^ 32) (sym lists) are.few_lists;
    }

pub layers-same : (old new : Layers) → names_of new ≡ names_of old → lists_of new ≡ lists_of old → new.nodes.keys ≡ old.nodes.keys → layers_of new ≡ layers_of old
layers-same old new names lists nodes = λ i. map (layer_of (names i) (lists i)) (nodes i)

-- each layer stands once
pub IsEachOnce-layers : (layers : Layers) → AreLayers layers → IsEachOnce (layers_of layers)
IsEachOnce-layers layers are a b x ea eb =
    let p = map-found (layer_of (names_of layers) (lists_of layers)) layers.nodes.keys a x ea in
    let q = map-found (layer_of (names_of layers) (lists_of layers)) layers.nodes.keys b x eb in
    let one : p.0 ≡ q.0 = said_once (names_of layers) (lists_of layers) p.0 q.0 are.names are.lists are.long
    (at_place _ layers.nodes.keys a p.0 are.known p.1) (at_place _ layers.nodes.keys b q.0 are.known q.1) (p.2 ∙ sym q.2) in
    are.nodes a b p.0 p.1 (q.1 ∙ ap Some (sym one))

-- ---- what is found

-- up to four arguments are the first of their places
taken-padded : (args : List ℕ) → length args ≤ 4 → take (length args) (padded args) ≡ args
taken-padded [] few = refl
taken-padded (a ∷ []) few = refl
taken-padded (a ∷ b ∷ []) few = refl
taken-padded (a ∷ b ∷ c ∷ []) few = refl
taken-padded (a ∷ b ∷ c ∷ d ∷ []) few = refl
taken-padded (a ∷ b ∷ c ∷ d ∷ e ∷ args) few = absurd (omega (arith, few))

pub IsKnown-short : (n m name : ℕ) (args : List ℕ) → name < n → length args ≤ 4 → IsKnown n m (ShortNode name (length args) (padded args))
IsKnown-short n m name args within few =
    let items : take (length args) (padded args) ≡ args = taken-padded args few in
    (within, record { few = few; long = ap length items; zeros = ap padded (sym items) })

pub short-says : (names lists : List (List ℕ)) (name : ℕ) (args : List ℕ) → length args ≤ 4 → layer_of names lists (ShortNode name (length args) (padded args)) ≡ FunctionLayer (list_at names name) args
short-says names lists name args few = ap (FunctionLayer (list_at names name)) (taken-padded args few)

-- the place that a look-up of a node finds has the layer that the node says
pub found-node : (layers : Layers) (a : Node) (layer : Layer) (found : Option ℕ) → found ≡ position (node.eq a) layers.nodes.keys → layer_of (names_of layers) (lists_of layers) a ≡ layer
    → IfSome found (λ place. slice_get (layers_of layers) place ≡ Some layer)
found-node layers a layer None e says = tt
found-node layers a layer (Some place) e says =
    found_at (node.eq a) (layer_of (names_of layers) (lists_of layers)) layer (λ x h. ap (layer_of (names_of layers) (lists_of layers)) (sym (same_node a x h)) ∙ says) layers.nodes.keys place (sym e)

-- and where it finds none, there is none
pub absent-node : (layers : Layers) (a : Node) (layer : Layer) (found : Option ℕ) → AreLayers layers → IsKnown (length (names_of layers)) (length (lists_of layers)) a
    → layer_of (names_of layers) (lists_of layers) a ≡ layer → is_some found ≡ list_any (node.eq a) layers.nodes.keys → IfNone found ((place : ℕ) → ¬ (slice_get (layers_of layers) place ≡ Some layer))
absent-node layers a layer (Some place) are known says e = tt
absent-node layers a layer None are known says e = λ place at.
    absent_at (node.eq a) (layer_of (names_of layers) (lists_of layers)) layer layers.nodes.keys place
    (λ x here said. subst (λ z. node.eq a z ≡ true)
    (said_once (names_of layers) (lists_of layers) a x are.names are.lists are.long known (at_place _ layers.nodes.keys place x are.known here) (says ∙ sym said)) (node_itself a))
    (sym e) at

-- the name in a layer
abbrev pub name_in_layer : Layer → Option (List ℕ)
name_in_layer (NumberLayer n) = None
name_in_layer (IdentifierLayer name) = Some name
name_in_layer (TextLayer text) = Some text
name_in_layer (FunctionLayer name args) = Some name

named-node : (names lists : List (List ℕ)) (a : Node) (name : List ℕ) → IsKnown (length names) (length lists) a → name_in_layer (layer_of names lists a) ≡ Some name → (n : ℕ) × (slice_get names n ≡ Some name)
named-node names lists (NumberNode n) name h e = cc
named-node names lists (IdentifierNode n) name h e = (n, slice_get-get_or names n [] h ∙ e)
named-node names lists (TextNode n) name h e = (n, slice_get-get_or names n [] h ∙ e)
named-node names lists (ShortNode n count places) name h e = (n, slice_get-get_or names n [] h.0 ∙ e)
named-node names lists (LongNode n list) name h e = (n, slice_get-get_or names n [] h.0 ∙ e)

-- a layer whose name is no name of the layers is not among them
pub absent-name : (layers : Layers) (name : List ℕ) (layer : Layer) → AreLayers layers → ((n : ℕ) → ¬ (slice_get (names_of layers) n ≡ Some name)) → name_in_layer layer ≡ Some name
    → (place : ℕ) → ¬ (slice_get (layers_of layers) place ≡ Some layer)
absent-name layers name layer are absent named place at =
    let x = map-found (layer_of (names_of layers) (lists_of layers)) layers.nodes.keys place layer at in
    let n = named-node (names_of layers) (lists_of layers) x.0 name (at_place _ layers.nodes.keys place x.0 are.known x.1) (ap name_in_layer x.2 ∙ named) in
    absent n.0 n.1

listed-node : (names lists : List (List ℕ)) (a : Node) (name args : List ℕ) → IsKnown (length names) (length lists) a → 4 < length args → layer_of names lists a ≡ FunctionLayer name args
    → (n : ℕ) × (slice_get lists n ≡ Some args)
listed-node names lists (NumberNode n) name args h many e = cc
listed-node names lists (IdentifierNode n) name args h many e = cc
listed-node names lists (TextNode n) name args h many e = cc
listed-node names lists (ShortNode n count places) name args h many e =
    absurd (omega (arith, many, ap length (items_in _ _ _ _ e), h.1.long, h.1.few))
listed-node names lists (LongNode n list) name args h many e = (list, slice_get-get_or lists list [] h.1 ∙ ap Some (items_in _ _ _ _ e))

-- and so it is with a long list of arguments
pub absent-list : (layers : Layers) (name args : List ℕ) → AreLayers layers → 4 < length args → ((n : ℕ) → ¬ (slice_get (lists_of layers) n ≡ Some args))
    → (place : ℕ) → ¬ (slice_get (layers_of layers) place ≡ Some (FunctionLayer name args))
absent-list layers name args are many absent place at =
    let x = map-found (layer_of (names_of layers) (lists_of layers)) layers.nodes.keys place (FunctionLayer name args) at in
    let n = listed-node (names_of layers) (lists_of layers) x.0 name args (at_place _ layers.nodes.keys place x.0 are.known x.1) many x.2 in
    absent n.0 n.1

-- the place that an insertion gives has the layer that the node says
pub placed-node : (layers : Layers) (a b : Node) (layer : Layer) (place : ℕ) → slice_get layers.nodes.keys place ≡ Some b → node.eq a b ≡ true → layer_of (names_of layers) (lists_of layers) a ≡ layer
    → slice_get (layers_of layers) place ≡ Some layer
placed-node layers a b layer place e same says =
    slice_get-map (layer_of (names_of layers) (lists_of layers)) layers.nodes.keys place ∙ ap (option_map (layer_of (names_of layers) (lists_of layers))) e
    ∙ ap Some (ap (layer_of (names_of layers) (lists_of layers)) (sym (same_node a b same)) ∙ says)

-- names, and lists, stay as one is inserted
pub IsBegun-insert : {X Y : Type 0} (f : X → Y) (held : Bool) (old new : List X) (a : X) → new ≡ cond held old (old ++ a ∷ []) → IsBegun (map f old) (map f new)
IsBegun-insert f true old new a e = ([], ap (map f) e ∙ sym (append-nil (map f old)))
IsBegun-insert f false old new a e = (f a ∷ [], ap (map f) e ∙ map-append f old (a ∷ []))

-- the layers with one more node
pub layers-push : (old new : Layers) (a : Node) (layer : Layer) → names_of new ≡ names_of old → lists_of new ≡ lists_of old → new.nodes.keys ≡ old.nodes.keys ++ a ∷ []
    → layer_of (names_of old) (lists_of old) a ≡ layer → layers_of new ≡ layers_of old ++ layer ∷ []
layers-push old new a layer names lists nodes says =
    (λ i. map (layer_of (names i) (lists i)) (nodes i)) ∙ map-append (layer_of (names_of old) (lists_of old)) old.nodes.keys (a ∷ []) ∙ ap (λ l. layers_of old ++ l ∷ []) says
