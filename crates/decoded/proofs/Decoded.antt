-- Every value that decodes keeps the limits, its names keep the rule of its edition, and it depends on the edition in no
-- other way.
use mathlib.Core.Path.{◌≡◌, refl, sym, ap, ◌∙◌}
use mathlib.Core.List.{List, [], ◌∷◌, map}
use mathlib.Core.Bool.{Bool, true, false, ◌&&◌, not}
use Prim.Native.Nat.{ℕ, zero, suc, ◌*◌, ◌%◌, ◌-◌, ◌^◌, ◌<◌, ◌≤◌}
use native.Mathlib.Omega.{arith}
use borrow.Author.Tests.{ltb-true, leb-true, lt-ltb, le-leb}
use lib.Dec.{leb, ltb, eqb}
use lib.ListN.{length, get_or}
use Rattle.refusal.specs.declared.Refusal.{Refusal}
use Rattle.refusal.specs.declared.Refusal.TheVariants.{CutSheet, Edition, BadName, BadKind, BadComment, Tail}
use Rattle.lexical.specs.Bytes.{every, within}
use Rattle.lexical.specs.Names.{reserved, table_of, Covers, is_name, sheet_name}
use Rattle.lexical.proofs.BoolLaws.{both, and_of}
use Rattle.lexical.proofs.ByteLaws.{every_append, every_weaken, every_map}
use Rattle.lexical.proofs.NameLaws.{sheet_name_base, sheet_name_older, edition_covers}
use Rattle.format.specs.declared.TypeKind.{TypeKind}
use Rattle.format.specs.declared.TypeKind.TheVariants as Kind
use Rattle.format.specs.declared.ItemKind.{ItemKind}
use Rattle.format.specs.declared.ItemKind.TheVariants as Part
use Rattle.format.specs.Limits.{last_edition, most_bytes}
use Rattle.format.specs.Decode.{Got, fault, got, Dec, pick, after, pure}
use Rattle.format.specs.Bits.{bits}
use Rattle.format.specs.Types.{Ty, atom, named, template, pointer, str, fn, array, Ret, none, gives, Tys, tys}
use Rattle.format.specs.Sheet.{Name, Argument, Body, Item, Sheet}
use Rattle.format.specs.Decoding.{name_by, name_of, kind_of, optional, type_body, type_at, type, line_ok, line, argument}
use Rattle.format.specs.Decoding.{form_of, form, function_body, struct_body, enum_body, part_of, item_body, is_bad, namespace}
use Rattle.format.specs.Decoding.{item, tail, item_table, name_table, behind_edition, edition, edition_of, sheet, decode}
use Rattle.rules.specs.Rules.{gather}
use Rattle.decoded.specs.Fits.{depth, depth_ret, depth_tys, count, parts_fit, parts_fit_ret, parts_fit_tys, type_fits}
use Rattle.decoded.specs.Fits.{return_fits, argument_fits, form_fits, comment_fits, function_fits, body_fits, item_fits}
use Rattle.decoded.specs.Fits.{sheet_fits}
use Rattle.decoded.specs.Names.{body_names, item_names, names_keep}
use Rattle.decoded.specs.Editions.{SameButEdition}
use Rattle.decoded.proofs.Extends.{same_refl, no_value, Extends, then_extends, pure_extends, refuse_extends, pick_extends}
use Rattle.decoded.proofs.Extends.{narrower_extends, unless_extends, weaker, Run, many_extends, bits_extends, any_bits}
use Rattle.decoded.proofs.Extends.{any_bit, index_extends}

-- ---- names

-- the decoder gives values that pass the test and do not depend on bits before
abbrev Passes : {A : Type 0} → (A → Bool) → Dec A → Type 0
Passes test d = Extends (λ x. test x ≡ true) d d

any_true : Passes (λ c. true) (bits 7)
any_true = weaker (bits_extends 7) (λ c l. refl)

-- what passes one rule is read under another that lets at least as much through
name_extends : (rule wide : Name → Bool) → ((cs : Name) → rule cs ≡ true → wide cs ≡ true) →
    Extends (λ cs. rule cs ≡ true) (name_by rule) (name_by wide)
unfolding name_by
name_extends rule wide w =
    then_extends (any_bits 6)
    (λ n p. then_extends (many_extends (λ c. true) n any_true)
    (λ cs q. narrower_extends (rule cs) (wide cs) BadName (w cs) (λ h. pure_extends h)))

pub every_at : {A : Type 0} (test : A → Bool) (xs : List A) (i : ℕ) (d : A) → every test xs ≡ true →
    ltb i (length xs) ≡ true →
    test (get_or xs i d) ≡ true
unfolding every
every_at test [] i d h l = absurd (let q : i < 0 = ltb-true i 0 l in omega arith)
every_at test (x ∷ xs) zero d h l = (both (test x) (every test xs) h).0
every_at test (x ∷ xs) (suc i) d h l =
    let q : suc i < suc (length xs) = ltb-true (suc i) (suc (length xs)) l in
    every_at test xs i d (both (test x) (every test xs) h).1 (lt-ltb i (length xs) (omega arith))

name_of_passes : (rule : Name → Bool) (names : List Name) → every rule names ≡ true → Passes rule (name_of names)
unfolding name_of
name_of_passes rule names h =
    then_extends (index_extends (length names)) (λ i l. pure_extends (every_at rule names i [] h l))

-- ---- types

pub fits_depth : (levels items : ℕ) (t : Ty) → type_fits levels items t ≡ true → depth t ≤ levels
unfolding type_fits
fits_depth levels items t h = leb-true (depth t) levels (both (leb (depth t) levels) (parts_fit items t) h).0

pub fits_parts : (levels items : ℕ) (t : Ty) → type_fits levels items t ≡ true → parts_fit items t ≡ true
unfolding type_fits
fits_parts levels items t h = (both (leb (depth t) levels) (parts_fit items t) h).1

pub fits : (levels items : ℕ) (t : Ty) → depth t ≤ levels → parts_fit items t ≡ true → type_fits levels items t ≡ true
unfolding type_fits
fits levels items t l h = and_of (leb (depth t) levels) (parts_fit items t) (le-leb (depth t) levels l) h

record RetFits (levels items : ℕ) (r : Ret) : Type 0 where
  low : depth_ret r ≤ levels
  whole : parts_fit_ret items r ≡ true

record TysFit (levels items : ℕ) (ts : Tys) : Type 0 where
  low : depth_tys ts ≤ levels
  whole : parts_fit_tys items ts ≡ true

module _ (levels items : ℕ) where
  gives_fits : (t : Ty) → type_fits levels items t ≡ true → RetFits levels items (gives t)
  unfolding depth_ret parts_fit_ret
  gives_fits t h = record { low = fits_depth levels items t h; whole = fits_parts levels items t h }

  none_fits : RetFits levels items none
  unfolding depth_ret parts_fit_ret
  none_fits = record { low = omega arith; whole = refl }

  tys_fit : (ts : List Ty) → every (type_fits levels items) ts ≡ true → TysFit levels items (tys ts)
  unfolding every depth_tys parts_fit_tys
  tys_fit [] h = record { low = omega arith; whole = refl }
  tys_fit (t ∷ ts) h =
      let q = both (type_fits levels items t) (every (type_fits levels items) ts) h in
      let rest = tys_fit ts q.1 in
      record {
        low = omega (arith, fits_depth levels items t q.0, rest.low);
        whole = and_of (parts_fit items t) (parts_fit_tys items (tys ts)) (fits_parts levels items t q.0) rest.whole;
      }

  tys_count : (ts : List Ty) → count (tys ts) ≡ length ts
  unfolding count
  tys_count [] = refl
  tys_count (t ∷ ts) = ap suc (tys_count ts)

  fn_fits : (r : Ret) (ts : List Ty) (n : ℕ) → RetFits levels items r → n < 2 ^ 4 → Run (type_fits levels items) n ts →
      type_fits (suc levels) items (fn r (tys ts)) ≡ true
  unfolding depth parts_fit
  fn_fits r ts n h l g =
      let q = tys_fit ts g.1 in
      fits (suc levels) items (fn r (tys ts)) (omega (arith, h.low, q.low))
      (and_of (leb (count (tys ts)) 15) (parts_fit_ret items r && parts_fit_tys items (tys ts))
      (le-leb (count (tys ts)) 15 (omega (arith, tys_count ts, g.0)))
      (and_of (parts_fit_ret items r) (parts_fit_tys items (tys ts)) h.whole q.whole))

  -- a type around one that fits
  outer_fits : (t outer : Ty) → type_fits levels items t ≡ true → depth outer ≡ suc (depth t) →
      parts_fit items outer ≡ true → type_fits (suc levels) items outer ≡ true
  outer_fits t outer h e p = fits (suc levels) items outer (omega (arith, fits_depth levels items t h, e)) p

  leaf_fits : (t : Ty) → depth t ≡ 1 → parts_fit items t ≡ true → type_fits (suc levels) items t ≡ true
  leaf_fits t e p = fits (suc levels) items t (omega (arith, e)) p

  module _ {ty : Dec Ty} (inner : Passes (type_fits levels items) ty) where
    optional_fits : Extends (RetFits levels items) (optional ty) (optional ty)
    optional_fits =
        then_extends any_bit
        (λ b p. pick_extends b (then_extends inner (λ t h. pure_extends (gives_fits t h))) (pure_extends none_fits))

    type_body_passes : (k : TypeKind) → Passes (type_fits (suc levels) items) (type_body k items ty)
    unfolding depth parts_fit
    type_body_passes Kind.Atom =
        then_extends (any_bits 4) (λ a p. pure_extends (leaf_fits (atom _) refl refl))
    type_body_passes Kind.Named = then_extends (index_extends items) (λ i h. pure_extends (leaf_fits (named i) refl h))
    type_body_passes (Kind.Template k) =
        then_extends inner (λ t h. pure_extends (outer_fits t (template k t) h refl (fits_parts levels items t h)))
    type_body_passes (Kind.Pointer k) =
        then_extends any_bit
        (λ m p. then_extends inner (λ t h. pure_extends (outer_fits t (pointer k m t) h refl
        (fits_parts levels items t h))))
    type_body_passes Kind.Str = pure_extends (leaf_fits str refl refl)
    type_body_passes Kind.Fn =
        then_extends optional_fits
        (λ r h. then_extends (bits_extends 4)
        (λ n l. then_extends (many_extends (type_fits levels items) n inner) (λ ts g. pure_extends (fn_fits r ts n h l g))))
    type_body_passes Kind.Array =
        then_extends inner
        (λ t h. then_extends (bits_extends 32)
        (λ n l. pure_extends (outer_fits t (array t n) h refl
        (and_of (ltb n 4294967296) (parts_fit items t) (lt-ltb n 4294967296 l) (fits_parts levels items t h)))))
    type_body_passes Kind.Bad = refuse_extends

type_at_passes : (levels items : ℕ) → Passes (type_fits levels items) (type_at items levels)
unfolding type_at
type_at_passes zero items = then_extends (any_bits 4) (λ k p. refuse_extends)
type_at_passes (suc levels) items =
    then_extends (any_bits 4) (λ k p. type_body_passes levels items (type_at_passes levels items) (kind_of k))

type_passes : (items : ℕ) → Passes (type_fits 8 items) (type items)
unfolding type
type_passes items = type_at_passes 8 items

-- ---- items

return_passes : (items : ℕ) → Passes (return_fits items) (optional (type items))
unfolding return_fits
return_passes items =
    then_extends any_bit
    (λ b p. pick_extends b (then_extends (type_passes items) (λ t h. pure_extends h)) (pure_extends refl))

-- a count of few bits keeps its limit
at_most : {n count limit : ℕ} → n ≡ count → count ≤ limit → leb n limit ≡ true
at_most {n} {count} {limit} e l = le-leb n limit (omega arith)

line_passes : Passes comment_fits line
unfolding line comment_fits
line_passes =
    then_extends (bits_extends 7)
    (λ n l. then_extends (many_extends (λ c. true) n any_true)
    (λ cs q. unless_extends (line_ok cs) BadComment
    (λ h. pure_extends (and_of (leb (length cs) 127) (line_ok cs) (at_most q.0 (omega arith)) h))))

form_passes : (items : ℕ) → Passes (form_fits items) (form items)
unfolding form form_fits
form_passes items =
    then_extends (any_bits 2)
    (λ f p. pick_extends (eqb f 0) (pure_extends refl) (then_extends (index_extends items) (λ i h. pure_extends (go f i h))))
  where
    go : (f i : ℕ) → ltb i items ≡ true → form_fits items (form_of f i) ≡ true
    go zero i h = refl
    go (suc zero) i h = h
    go (suc (suc zero)) i h = h
    go (suc (suc (suc f))) i h = h

-- the limits, and a rule for every name
module _ (rule : Name → Bool) (items : ℕ) where
  abbrev argument_keeps : Argument → Bool
  argument_keeps a = argument_fits items a && rule a.name

  abbrev body_keeps : Body → Bool
  body_keeps b = body_fits items b && every rule (body_names b)

  abbrev item_keeps : Item → Bool
  item_keeps x = item_fits items x && every rule (item_names x)

  struct_passes : Passes body_keeps (struct_body items)
  unfolding every struct_body body_fits gather body_names
  struct_passes =
      then_extends any_bit
      (λ p u. then_extends (bits_extends 6)
      (λ n l. then_extends (many_extends (type_fits 8 items) n (type_passes items))
      (λ ts q. let few = at_most {limit = 63} q.0 (omega arith) in pure_extends (rw (few, q.1)))))

  enum_passes : Passes body_keeps enum_body
  unfolding every enum_body body_fits gather body_names
  enum_passes =
      then_extends any_bit
      (λ p u. then_extends (any_bits 4)
      (λ a v. unless_extends (within 2 11 a) BadKind (λ h. then_extends any_bit (λ c w. pure_extends refl))))

  module _ (base : (cs : Name) → rule cs ≡ true → is_name cs ≡ true) (names : List Name)
      (named : every rule names ≡ true) where
    argument_passes : Passes argument_keeps (argument names items)
    unfolding argument argument_fits
    argument_passes =
        then_extends (name_of_passes rule names named)
        (λ n h. then_extends (type_passes items) (λ t g. pure_extends (rw (base n h, g, h))))

    function_passes : Passes body_keeps (function_body names items)
    unfolding every function_body function_fits body_fits gather body_names
    function_passes =
        then_extends (name_of_passes rule names named) (λ n h. then_extends (form_passes items)
        (λ f g. then_extends any_bit (λ t u. then_extends (return_passes items)
        (λ r k. then_extends (bits_extends 5) (λ a l. then_extends (many_extends argument_keeps a argument_passes)
        (λ xs q. then_extends (bits_extends 5) (λ c m. then_extends (many_extends comment_fits c line_passes)
        (λ ls p. let few = at_most {limit = 31} q.0 (omega arith) in
        let few_lines = at_most {limit = 31} p.0 (omega arith) in
        let fitting = every_weaken argument_keeps (argument_fits items) (λ a e. (both (argument_fits items a) _ e).0) xs q.1 in
        let ruled = every_map argument_keeps rule (λ a. a.name) (λ a e. (both (argument_fits items a) _ e).1) xs q.1 in
        pure_extends (rw (base n h, g, k, few, fitting, few_lines, p.1, h)
        (every_append rule (map (λ a. a.name) xs) [] ruled refl))))))))))

    body_passes : (k : ItemKind) → Passes body_keeps (item_body k names items)
    unfolding every body_fits gather body_names
    body_passes Part.Struct = struct_passes
    body_passes Part.Enum = enum_passes
    body_passes Part.CxxType = then_extends any_bit (λ p u. pure_extends refl)
    body_passes Part.RustType = then_extends any_bit (λ p u. pure_extends refl)
    body_passes Part.RustFunction = function_passes
    body_passes Part.Bad = refuse_extends

    namespace_passes : Passes (λ ns. leb (length ns) 7 && every rule ns) (namespace names)
    unfolding namespace
    namespace_passes =
        then_extends (bits_extends 3)
        (λ d l. weaker (many_extends rule d (name_of_passes rule names named))
        (λ ns q. let few = at_most {limit = 7} q.0 (omega arith) in rw few q.1))

    item_passes : Passes item_keeps (item names items)
    unfolding every item item_fits item_names
    item_passes =
        then_extends (any_bits 3) (λ k u. unless_extends (not (is_bad (part_of k))) BadKind
        (λ v. then_extends namespace_passes (λ ns q. then_extends (name_of_passes rule names named)
        (λ n h. then_extends (body_passes (part_of k))
        (λ b g. let r = both (leb (length ns) 7) (every rule ns) q in
        let e = both (body_fits items b) (every rule (body_names b)) g in
        pure_extends (rw (r.0, every_weaken rule is_name base ns r.1, base n h, e.0)
        (every_append rule ns (n ∷ body_names b) r.1 (rw h e.1))))))))

-- ---- the sheet

module _ {A : Type 0} (x : A) where
  -- what the tail asks of its bits and its end
  abbrev at_end : ℕ → Dec A
  at_end z s n = pick (eqb z 0 && eqb n (8 * length s)) (got x n) (fault Tail)

  end_extends : (P : A → Type 0) → P x → (z : ℕ) → Extends P (at_end z) (at_end z)
  end_extends P p z =
      record {
        gives =
            λ s t n same y m q. let value : Extends P (pure x) (pure x) = pure_extends p in
            rw (← same.length)
            ((unless_extends (eqb z 0 && eqb n (8 * length s)) Tail (λ h. value)).gives s t n same y m q);
      }

  tail_extends : (P : A → Type 0) → P x → Extends P (tail x) (tail x)
  unfolding tail
  tail_extends P p =
      record { gives = λ s t at. (then_extends (any_bits ((8 - at % 8) % 8)) (λ z u. end_extends P p z)).gives s t at }

-- the limits of a sheet, and a rule for its names
pub record Keeps (rule : Name → Bool) (x : Sheet) : Type 0 where
  pub fits : sheet_fits x ≡ true
  pub names : names_keep rule x.items ≡ true

-- the second table forbids no name that the first allows
module _ (words wide : List (List ℕ)) (covers : Covers words)
    (w : (cs : Name) → sheet_name words cs ≡ true → sheet_name wide cs ≡ true) where
  abbrev rule : Name → Bool
  rule = sheet_name words

  name_table_extends : Extends (λ names. every rule names ≡ true) (name_table words) (name_table wide)
  unfolding name_table
  name_table_extends =
      then_extends (any_bits 10)
      (λ n u. weaker (many_extends rule n (name_extends rule (sheet_name wide) w)) (λ xs q. q.1))

  behind_extends : Extends (Keeps rule) (behind_edition words) (behind_edition wide)
  unfolding behind_edition item_table sheet_fits names_keep
  behind_extends =
      then_extends any_bit (λ h u. then_extends any_bit (λ d v. then_extends name_table_extends
      (λ names g. then_extends (then_extends (bits_extends 8) (λ n l.
      weaker (many_extends (item_keeps rule n) n (item_passes rule n (sheet_name_base words covers) names g)) (λ xs q.
      kept h d xs (at_most q.0 (omega arith)) (rw q.0 q.1))))
      (λ is k. tail_extends (record { header = h; doxygen = d; items = is }) (Keeps rule) k))))
    where
      kept : (h d : Bool) (xs : List Item) → leb (length xs) 255 ≡ true → every (item_keeps rule (length xs)) xs ≡ true →
          Keeps rule (record { header = h; doxygen = d; items = xs })
      kept h d xs few q = record {
        fits = rw few (every_weaken (item_keeps rule (length xs)) (item_fits (length xs)) (λ x e. (both (item_fits (length xs) x) _ e).0) xs q);
        names = every_weaken (item_keeps rule (length xs)) (λ x. every rule (item_names x)) (λ x e. (both (item_fits (length xs) x) _ e).1) xs q;
      }

-- ---- the edition

-- of a sheet that decodes: short enough, its edition whole and known, and what stands behind it decodes
record InEdition (s : List ℕ) (x : Sheet) (n : ℕ) : Type 0 where
  short : leb (length s) most_bytes ≡ true
  whole : leb 4 (8 * length s) ≡ true
  known : within 1 last_edition (edition_of s) ≡ true
  behind : behind_edition (table_of (edition_of s)) s 4 ≡ got x n

-- a value behind a test, where faults are handed on
picked : {A B : Type 0} (b : Bool) (g : Got A) (r : Refusal) (f : Got A → Got B) → f (fault r) ≡ fault r →
    {x : B} {n : ℕ} → f (pick b g (fault r)) ≡ got x n → (b ≡ true) × (f g ≡ got x n)
picked true g r f e q = (refl, q)
picked false g r f e q = no_value (sym e ∙ q)

in_edition : (s : List ℕ) (x : Sheet) (n : ℕ) → decode s ≡ got x n → InEdition s x n
unfolding decode sheet edition bits
in_edition s x n q =
    let behind : ℕ → ℕ → Got Sheet = λ e m. behind_edition (table_of e) s m in
    let a = picked (leb (length s) most_bytes) (sheet s 0) CutSheet (λ g. g) refl q in
    let b =
    picked (leb 4 (8 * length s)) (got (edition_of s) 4) CutSheet
    (λ g. after (after g (λ e m. pick (within 1 last_edition e) (got e m) (fault Edition))) behind) refl a.1 in
    let c =
    picked (within 1 last_edition (edition_of s)) (got (edition_of s) 4) Edition (λ g. after g behind) refl b.1 in
    record { short = a.0; whole = b.0; known = c.0; behind = c.1 }

pub decode_edition : (s : List ℕ) (x : Sheet) (n : ℕ) → decode s ≡ got x n → within 1 last_edition (edition_of s) ≡ true
decode_edition s x n q = (in_edition s x n q).known

pub decode_other : (s : List ℕ) → leb (length s) most_bytes ≡ true → leb 4 (8 * length s) ≡ true →
    within 1 last_edition (edition_of s) ≡ false → decode s ≡ fault Edition
unfolding decode sheet edition bits
decode_other s short whole e = rw (short, whole, e)

-- for any table that holds the words of edition 1: what stands behind the edition keeps the limits and the rule
pub behind_keeps : (words : List (List ℕ)) → Covers words → (s : List ℕ) (at : ℕ) (x : Sheet) (n : ℕ) →
    behind_edition words s at ≡ got x n → Keeps (sheet_name words) x
behind_keeps words covers s at x n q =
    ((behind_extends words words covers (λ cs h. h)).gives s s at same_refl x n q).has

pub decode_keeps : (s : List ℕ) (x : Sheet) (n : ℕ) → decode s ≡ got x n → Keeps (sheet_name (table_of (edition_of s))) x
decode_keeps s x n q =
    behind_keeps (table_of (edition_of s)) (edition_covers (edition_of s)) s 4 x n (in_edition s x n q).behind

-- behind another edition, or the same, the words of edition 1 give the same value
pub behind_same : (s t : List ℕ) → SameButEdition s t → (x : Sheet) (n : ℕ) → decode s ≡ got x n →
    behind_edition reserved t 4 ≡ got x n
behind_same s t same x n q =
    let words = table_of (edition_of s) in
    let covers = edition_covers (edition_of s) in
    ((behind_extends words reserved covers (sheet_name_older words covers)).gives s t 4 same x n (in_edition s x n q).behind
    ).again

-- what decodes in any edition decodes in edition 1, to the same value
pub decode_older : (s t : List ℕ) → SameButEdition s t → edition_of t ≡ 1 → (x : Sheet) (n : ℕ) → decode s ≡ got x n →
    decode t ≡ got x n
unfolding reserved table_of decode sheet edition bits
decode_older s t same older x n q =
    let i = in_edition s x n q in
    let short = rw same.length at i.short in
    let whole = rw same.length at i.whole in
    rw (short, whole, older) (behind_same s t same x n q)
