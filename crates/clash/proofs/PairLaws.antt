-- The two searches of rule 10 that go over pairs of items are one search.
use mathlib.Core.Path.{◌≡◌, refl, sym, ap, ap₂, ◌∙◌}
use mathlib.Core.List.{List, [], ◌∷◌, ◌++◌, map}
use mathlib.Core.Bool.{Bool, true, false, ◌||◌}
use Prim.Native.Nat.{ℕ}
use Rattle.lexical.specs.Bytes.{same}
use Rattle.lexical.proofs.BoolLaws.{by_cases}
use Rattle.format.specs.Decode.{pick}
use Rattle.format.specs.Sheet.{Body, struct, enum, cxx_type, rust_type, function, Item}
use Rattle.syntax.specs.Items.{full_name, is_function}
use Rattle.syntax.specs.Mangle.{extern_fn}
use Rattle.rules.specs.Rules.{any, twice, gather, type_name, function_of, symbol}
use Rattle.view.specs.Values.{function_in}
use Rattle.clash.specs.Clashes.{item_symbol, clashes}

or_swap : (a b c : Bool) → (a || (b || c)) ≡ (b || (a || c))
or_swap true true c = refl
or_swap true false c = refl
or_swap false b c = refl

or_assoc : (a b c : Bool) → ((a || b) || c) ≡ (a || (b || c))
or_assoc true b c = refl
or_assoc false b c = refl

pub gather_like : {A B : Type 0} (f g : A → List B) → ((x : A) → f x ≡ g x) → (xs : List A) → gather f xs ≡ gather g xs
unfolding gather
gather_like f g h [] = refl
gather_like f g h (x ∷ xs) = ap₂ (λ (a b : List _). a ++ b) (h x) (gather_like f g h xs)

module _ {A : Type 0} (kind : A → Bool) (f g : A → List ℕ) where
  abbrev first : A → List (List ℕ)
  first x = pick (kind x) [] (f x ∷ [])

  abbrev second : A → List (List ℕ)
  second x = pick (kind x) (g x ∷ []) []

  abbrev versus : Bool → A → A → Bool
  versus b x y = pick b (pick (kind y) (same (g x) (g y)) false) (pick (kind y) false (same (f x) (f y)))

  abbrev clash : A → A → Bool
  clash x = versus (kind x) x

  any_second : (a : List ℕ) (xs : List A) → any (same a) (gather second xs) ≡ any (λ y. pick (kind y) (same a (g y)) false) xs
  unfolding any gather
  any_second a [] = refl
  any_second a (x ∷ xs) = by_cases (kind x) (λ e. rw (e, any_second a xs)) (λ e. rw (e, any_second a xs))

  any_first : (a : List ℕ) (xs : List A) → any (same a) (gather first xs) ≡ any (λ y. pick (kind y) false (same a (f y))) xs
  unfolding any gather
  any_first a [] = refl
  any_first a (x ∷ xs) = by_cases (kind x) (λ e. rw (e, any_first a xs)) (λ e. rw (e, any_first a xs))

  pub one_search : (xs : List A) → (twice same (gather first xs) || twice same (gather second xs)) ≡ twice clash xs
  unfolding any twice gather
  one_search [] = refl
  one_search (x ∷ xs) =
      let turn : (b : Bool) → kind x ≡ b → any (clash x) xs ≡ any (versus b x) xs =
      λ b e. ap (λ (c : Bool). any (versus c x) xs) e in
      by_cases (kind x)
      (λ e. rw (turn true e, e, any_second (g x) xs, ← one_search xs)
      (or_swap (twice same (gather first xs)) (any (versus true x) xs) (twice same (gather second xs))))
      (λ e. rw (turn false e, e, any_first (f x) xs, ← one_search xs)
      (or_assoc (any (versus false x) xs) (twice same (gather first xs)) (twice same (gather second xs))))

symbol_like : (items : List Item) (x : Item) →
    symbol items x ≡ pick (is_function x.body) (item_symbol items x ∷ []) []
unfolding item_symbol
symbol_like items x = by_body x.body
  where
    by_body : (b : Body) →
        map (extern_fn items x.namespace) (function_of b) ≡
        pick (is_function b) (extern_fn items x.namespace (function_in b) ∷ []) []
    by_body (struct p ts) = refl
    by_body (enum p a c) = refl
    by_body (cxx_type p) = refl
    by_body (rust_type p) = refl
    by_body (function f) = refl

pub pairs : (items : List Item) →
    twice (clashes items) items ≡ (twice same (gather type_name items) || twice same (gather (symbol items) items))
unfolding clashes
pairs items =
    sym (one_search (λ x. is_function x.body) full_name (item_symbol items) items) ∙
    ap (λ (l : List (List ℕ)). twice same (gather type_name items) || twice same l)
    (sym (gather_like (symbol items) _ (symbol_like items) items))
