-- The trees of a sheet's types keep the grammar's rules.
use Rattle.std.proofs.Common.{◌≡◌, ℕ, suc, ◌≤◌, max, Bool, true, false, not, ◌&&◌, ltb, leb, List, [], ◌∷◌, ◌++◌, length, refl, ap, ◌∙◌, ap₂, arith, length-append, le-leb, leb-true}
use Rattle.lexical.proofs.BoolLaws.{both, and_of}
use Rattle.lexical.proofs.ByteLaws.{Each}
use Rattle.format.specs.declared.Pointer.{Pointer}
use Rattle.format.specs.declared.Pointer.TheVariants.{Ref, Ptr, SliceRef}
use Rattle.format.specs.Types.{Ty, atom, named, template, pointer, str, fn, array, Ret, none, gives, Tys, nil, cons}
use Rattle.format.specs.Sheet.{Name, Item}
use Rattle.syntax.specs.Items.{item_at}
use Rattle.rules.specs.Rules.{reserved_namespace}
use Rattle.decoded.specs.Fits.{depth, depth_ret, depth_tys, count, parts_fit, parts_fit_ret, parts_fit_tys, type_fits}
use Rattle.decoded.proofs.Kept.{ItemKept}
use Rattle.grammar.specs.Types as Cxx
use Rattle.grammar.specs.Types.{CxxType, Suffix, CxxTypes}
use Rattle.grammar.specs.Rules
use Rattle.grammar.specs.Rules.{of_std_or_rust, full_name_ok, levels, base_levels, deepest, parts_ok, base_ok, all_parts_ok}
use Rattle.grammar.specs.Rules.{type_ok}
use Rattle.spelling.proofs.Suffixes.{suffix_levels, suffix_parts}
use Rattle.spelling.specs.TypeTree.{item_path, with_suffix, pointer_tree, cxx_type, fn_tree, cxx_types}
use Rattle.spelling.proofs.TypeSpelling.{item_kept_lem, item_path_names}

-- ---- levels

pointer_levels : (k : Pointer) (m : Bool) (x : CxxType) → levels (pointer_tree k m x) ≡ suc (levels x)
unfolding levels
pointer_levels Ref m x = suffix_levels (Cxx.reference (not m)) x
pointer_levels Ptr m x = suffix_levels (Cxx.pointer (not m)) x
pointer_levels SliceRef m x = omega arith

module _ (items : List Item) where
  mutual
    unfolding levels depth cxx_type

    pub levels_depth : (t : Ty) → levels (cxx_type items t) ≡ depth t
    levels_depth (atom a) = refl
    levels_depth (named i) = refl
    levels_depth (template k t) = omega (arith, levels_depth t)
    levels_depth (pointer k m t) = pointer_levels k m (cxx_type items t) ∙ ap suc (levels_depth t)
    levels_depth str = refl
    levels_depth (fn r ts) = omega (arith, fn_levels r (cxx_types items ts), deepest_depth ts)
    levels_depth (array t n) = omega (arith, levels_depth t)

    fn_levels : (r : Ret) (xs : CxxTypes) → base_levels (fn_tree items r xs) ≡ suc (max (depth_ret r) (deepest xs))
    fn_levels none xs = omega arith
    fn_levels (gives t) xs = ap (λ (n : ℕ). suc (max n (deepest xs))) (levels_depth t)

    deepest_depth : (ts : Tys) → deepest (cxx_types items ts) ≡ depth_tys ts
    deepest_depth nil = refl
    deepest_depth (cons t ts) = ap₂ max (levels_depth t) (deepest_depth ts)

-- ---- parts

-- "A full name of several parts does not begin with `std` or `rust`": no first namespace does
not_reserved : (ns : List Name) (x : Name) → reserved_namespace ns ≡ false → of_std_or_rust (ns ++ (x ∷ [])) ≡ false
not_reserved [] x h = refl
not_reserved (n ∷ []) x h = h
not_reserved (n ∷ (m ∷ ns)) x h = h

count_same : (items : List Item) (ts : Tys) → Rules.type_count (cxx_types items ts) ≡ count ts
unfolding Rules.type_count count cxx_types
count_same items nil = refl
count_same items (cons t ts) = ap suc (count_same items ts)

pub item_path_ok : {items : List Item} (x : Item) → ItemKept items x → full_name_ok (item_path x) ≡ true
unfolding full_name_ok
item_path_ok x k =
    let l : length x.namespace ≤ 7 = leb-true (length x.namespace) 7 k.shallow in
    let e = length-append x.namespace (x.cxx ∷ []) in
    let n = length (item_path x) in
    let free = not_reserved x.namespace x.cxx k.unreserved in
    rw (le-leb 1 n (omega arith), le-leb n 8 (omega arith), item_path_names x k, free)

pointer_parts : (k : Pointer) (m : Bool) (x : CxxType) → parts_ok (pointer_tree k m x) ≡ parts_ok x
unfolding parts_ok
pointer_parts Ref m x = suffix_parts (Cxx.reference (not m)) x
pointer_parts Ptr m x = suffix_parts (Cxx.pointer (not m)) x
pointer_parts SliceRef m x = refl

module _ (items : List Item) (kept : Each (ItemKept items) items) where
  mutual
    unfolding parts_ok parts_fit cxx_type

    pub parts_ok_lem : (t : Ty) → parts_fit (length items) t ≡ true → parts_ok (cxx_type items t) ≡ true
    parts_ok_lem (atom a) h = refl
    parts_ok_lem (named i) h = item_path_ok (item_at items i) (item_kept_lem items kept i h)
    parts_ok_lem (template k t) h = parts_ok_lem t h
    parts_ok_lem (pointer k m t) h = pointer_parts k m (cxx_type items t) ∙ parts_ok_lem t h
    parts_ok_lem str h = refl
    parts_ok_lem (fn r ts) h =
        let q = both (leb (count ts) 15) (parts_fit_ret (length items) r && parts_fit_tys (length items) ts) h in
        let g = both (parts_fit_ret (length items) r) (parts_fit_tys (length items) ts) q.1 in
        fn_parts r (cxx_types items ts) (rw (count_same items ts) q.0) g.0 (all_parts ts g.1)
    parts_ok_lem (array t n) h =
        let q = both (ltb n 4294967296) (parts_fit (length items) t) h in
        and_of (ltb n 4294967296) (parts_ok (cxx_type items t)) q.0 (parts_ok_lem t q.1)

    fn_parts : (r : Ret) (xs : CxxTypes) → leb (Rules.type_count xs) 15 ≡ true → parts_fit_ret (length items) r ≡ true →
        all_parts_ok xs ≡ true → base_ok (fn_tree items r xs) ≡ true
    fn_parts none xs l h g = and_of (leb (Rules.type_count xs) 15) (all_parts_ok xs) l g
    fn_parts (gives t) xs l h g = rw (l, parts_ok_lem t h, g)

    all_parts : (ts : Tys) → parts_fit_tys (length items) ts ≡ true → all_parts_ok (cxx_types items ts) ≡ true
    all_parts nil h = refl
    all_parts (cons t ts) h =
        let q = both (parts_fit (length items) t) (parts_fit_tys (length items) ts) h in
        and_of (parts_ok (cxx_type items t)) (all_parts_ok (cxx_types items ts)) (parts_ok_lem t q.0) (all_parts ts q.1)

  pub type_ok_lem : (limit : ℕ) (t : Ty) → type_fits limit (length items) t ≡ true → type_ok limit (cxx_type items t) ≡ true
  unfolding type_fits
  type_ok_lem limit t h =
      let q = both (leb (depth t) limit) (parts_fit (length items) t) h in
      and_of (leb (levels (cxx_type items t)) limit) (parts_ok (cxx_type items t))
      (rw (levels_depth items t) q.0) (parts_ok_lem t q.1)

-- ---- one more level

pub suffix_ok : (limit : ℕ) (s : Suffix) (x : CxxType) → type_ok limit x ≡ true →
    type_ok (suc limit) (with_suffix s x) ≡ true
suffix_ok limit s x h =
    let q = both (leb (levels x) limit) (parts_ok x) h in
    let l : levels x ≤ limit = leb-true (levels x) limit q.0 in
    and_of (leb (levels (with_suffix s x)) (suc limit)) (parts_ok (with_suffix s x))
    (le-leb (levels (with_suffix s x)) (suc limit) (omega (arith, suffix_levels s x))) (suffix_parts s x ∙ q.1)

pub higher_ok : (limit : ℕ) (x : CxxType) → type_ok limit x ≡ true → type_ok (suc limit) x ≡ true
higher_ok limit x h =
    let q = both (leb (levels x) limit) (parts_ok x) h in
    let l : levels x ≤ limit = leb-true (levels x) limit q.0 in
    and_of (leb (levels x) (suc limit)) (parts_ok x) (le-leb (levels x) (suc limit) (omega arith)) q.1
