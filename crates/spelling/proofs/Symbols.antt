-- A symbol's segments, joined by `$`, make an identifier.
use Rattle.std.proofs.Common.{◌≡◌, ℕ, Bool, true, ltb, List, [], ◌∷◌, ◌++◌, map, length, refl, append_assoc}
use Rattle.lexical.specs.Bytes.{bytes, every, same, member}
use Rattle.lexical.specs.Names.{name_char, name_shape, name_ok, keywords, alternative_tokens, reserved, is_name}
use Rattle.lexical.proofs.BoolLaws.{both}
use Rattle.lexical.proofs.ByteLaws.{Each, every_append, every_weaken}
use Rattle.lexical.proofs.NameLaws.{name_chars}
use Rattle.format.specs.Sheet.{Name, Form, free, const_method, mut_method, associated, Function, Item}
use Rattle.syntax.specs.Items.{item_at, self_type}
use Rattle.syntax.specs.Symbol.{push_all, join}
use Rattle.syntax.specs.Mangle.{version, extern_fn, operator}
use Rattle.grammar.specs.Token.{word, word_char}
use Rattle.grammar.specs.Rules.{is_symbol}
use Rattle.grammar.proofs.RuleFacts.{name_to_word, joined_symbol}
use Rattle.grammar.proofs.Pieces.{symbol_word}
use Rattle.grammar.specs.Tree as Tree
use Rattle.grammar.specs.Tree.{Measure}
use Rattle.decoded.specs.Fits.{form_fits}
use Rattle.decoded.proofs.Kept.{ItemKept, FunctionKept}
use Rattle.spelling.specs.DeclarationTree.{operator_name}
use Rattle.spelling.proofs.Spells.{inside, Spells, word_spells}
use Rattle.spelling.proofs.TypeSpelling.{item_kept_lem}

-- ---- segments

abbrev segment_ok : List ℕ → Bool
segment_ok s = every word_char s

name_segment : (s : List ℕ) → is_name s ≡ true → segment_ok s ≡ true
name_segment s h = every_weaken name_char word_char name_to_word s (name_chars reserved s h)

push_chars : (segments : List (List ℕ)) → every segment_ok segments ≡ true → every word_char (push_all segments) ≡ true
unfolding every push_all
push_chars [] h = refl
push_chars (s ∷ segments) h =
    let q = both (segment_ok s) (every segment_ok segments) h in
    every_append word_char s (push_all segments) q.0 (push_chars segments q.1)

-- two segments bring a dollar between them
two_segments : (s t : List ℕ) (segments : List (List ℕ)) → is_name s ≡ true → every segment_ok (t ∷ segments) ≡ true →
    is_symbol (join (s ∷ t ∷ segments)) ≡ true
unfolding every push_all join
two_segments s t segments h g = joined_symbol s (t ++ push_all segments) h (push_chars (t ∷ segments) g)

version_name : is_name (bytes "cxxbridge1") ≡ true
unfolding every same member name_shape name_ok keywords alternative_tokens reserved
version_name = refl

join_symbol : (ns : List Name) (rest : List (List ℕ)) → every is_name ns ≡ true → every segment_ok rest ≡ true →
    is_symbol (join (ns ++ version ++ rest)) ≡ true
unfolding every
join_symbol ns rest h g = rw (append_assoc ns version rest) (go ns h)
  where
    go : (ns : List Name) → every is_name ns ≡ true → is_symbol (join (ns ++ (version ++ rest))) ≡ true
    go [] h = two_segments (bytes "cxxbridge1") (bytes "205") rest version_name g
    go (n ∷ []) h = two_segments n (bytes "cxxbridge1") (bytes "205" ∷ rest) (both (is_name n) true h).0 g
    go (n ∷ (m ∷ ns)) h =
        let q = both (is_name n) (every is_name (m ∷ ns)) h in
        two_segments n m (ns ++ (version ++ rest)) q.0
        (every_append segment_ok (m ∷ ns) (version ++ rest)
        (every_weaken is_name segment_ok name_segment (m ∷ ns) q.1) g)

symbol_spells : (s : List ℕ) → is_symbol s ≡ true → Spells inside s (λ ts. word s ∷ ts)
symbol_spells s h = word_spells s (symbol_word s h)

-- ---- the symbols of a sheet

-- the self type's name passes a test that each item's name passes
pub self_every : (items : List Item) (test : Name → Bool) →
    ((i : ℕ) → ltb i (length items) ≡ true → test (item_at items i).cxx ≡ true) → (form : Form) →
    form_fits (length items) form ≡ true → every test (map (λ i. (item_at items i).cxx) (self_type form)) ≡ true
unfolding every form_fits
self_every items test passes free h = refl
self_every items test passes (const_method i) h = rw (passes i h)
self_every items test passes (mut_method i) h = rw (passes i h)
self_every items test passes (associated i) h = rw (passes i h)

module _ (items : List Item) (kept : Each (ItemKept items) items) where
  module _ (x : Item) (k : ItemKept items x) (f : Function) (g : FunctionKept items f) where
    pub extern_fn_symbol : is_symbol (extern_fn items x.namespace f) ≡ true
    unfolding every extern_fn
    extern_fn_symbol =
        let self = map (λ i. (item_at items i).cxx) (self_type f.form) in
        rw (append_assoc (x.namespace ++ version) self (f.rust ∷ []))
        (join_symbol x.namespace (self ++ (f.rust ∷ [])) k.namespace_names
        (every_append segment_ok self (f.rust ∷ []) (self_every items segment_ok (λ i l. name_segment _ (item_kept_lem items kept i l).cxx_name) f.form g.form_fits)
        (rw (name_segment f.rust g.rust_name))))

    pub extern_fn_spells :
        Spells inside (extern_fn items x.namespace f) (λ ts. word (extern_fn items x.namespace f) ∷ ts)
    extern_fn_spells = symbol_spells (extern_fn items x.namespace f) extern_fn_symbol

module _ {items : List Item} (x : Item) (k : ItemKept items x) (m : Measure) where
  pub operator_symbol : is_symbol (operator x (operator_name m)) ≡ true
  unfolding every operator
  operator_symbol =
      join_symbol x.namespace (x.cxx ∷ bytes "operator" ∷ operator_name m ∷ []) k.namespace_names
      (rw (name_segment x.cxx k.cxx_name) (go m))
    where
      go : (m : Measure) → every segment_ok (bytes "operator" ∷ operator_name m ∷ []) ≡ true
      go Tree.size = refl
      go Tree.align = refl

  pub operator_spells : Spells inside (operator x (operator_name m)) (λ ts. word (operator x (operator_name m)) ∷ ts)
  operator_spells = symbol_spells (operator x (operator_name m)) operator_symbol
