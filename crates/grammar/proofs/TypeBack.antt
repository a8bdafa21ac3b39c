-- The parser gives back each type from its tokens.
use Rattle.std.proofs.Common.{◌≡◌, ℕ, zero, suc, ◌+◌, ◌≤◌, Bool, true, false, not, ◌&&◌, ltb, leb, List, [], ◌∷◌, length, refl, ◌∙◌, arith}
use mathlib.Core.Bool.{false≢true}
use mathlib.Core.Option.{Option}
use Rattle.lexical.specs.Bytes.{bytes, within, every, same}
use Rattle.lexical.specs.Decimal.{decimal}
use Rattle.lexical.specs.Names.{is_name}
use Rattle.lexical.proofs.BoolLaws.{both, not-true, neither, not_both, by_cases}
use Rattle.lexical.proofs.ByteLaws.{same_refl}
use Rattle.grammar.specs.Token.{Token, word, mark, scope, colon, linkage, comment, quoted}
use Rattle.grammar.specs.Types.{Name, Atom, bool, char, u8, u16, u32, u64, usize, i8, i16, i32, i64, isize}
use Rattle.grammar.specs.Types.{f32, f64, cxx_string, rust_string, Template, box, vec, unique_ptr, shared_ptr}
use Rattle.grammar.specs.Types.{weak_ptr, vector, Suffix, reference, pointer, CxxType, suffixed, Base, atom, str}
use Rattle.grammar.specs.Types.{full, template, slice, array, void_fn, fn, CxxTypes, nil, cons}
use Rattle.grammar.specs.Tokens.{each_tokens, path_tokens, atom_tokens, template_tokens, suffix_tokens}
use Rattle.grammar.specs.Tokens.{type_tokens, base_tokens, types_tokens, more_types_tokens}
use Rattle.grammar.specs.Rules.{max_namespaces, max_fn_arguments, array_lengths, of_std_or_rust, full_name_ok, type_count, parts_ok}
use Rattle.grammar.specs.Rules.{base_ok, all_parts_ok}
use Rattle.grammar.proofs.SameTokens.{same_token}
use Rattle.grammar.proofs.Parser.{begins, Parser, fork, need, path_p, is_suffix, suffixes_p, opening}
use Rattle.grammar.proofs.Parser.{Start, based, inside_p, start_p, suffixed_p, type_p, types_p}
use Rattle.grammar.proofs.Parser.{more_types_p}
use Rattle.grammar.proofs.Decimal.{number_decimal}

-- how deep the parser goes
abbrev mutual
  pub type_size : CxxType → ℕ
  type_size (suffixed b ss) = suc (base_size b)

  pub base_size : Base → ℕ
  base_size (atom a) = 0
  base_size str = 0
  base_size (full p) = 0
  base_size (template t x) = type_size x
  base_size (slice x c) = type_size x
  base_size (array x n) = type_size x
  base_size (void_fn xs) = types_size xs
  base_size (fn x xs) = type_size x + types_size xs

  pub types_size : CxxTypes → ℕ
  types_size nil = 1
  types_size (cons x xs) = suc (type_size x + types_size xs)

-- where a type ends: no ::, & or *, and no const with one of these behind it
abbrev pub suffix_next : List Token → Bool
suffix_next [] = false
suffix_next (t ∷ r) = is_suffix t

abbrev pub type_ends : List Token → Bool
type_ends [] = true
type_ends (word s ∷ r) = not (suffix_next r && same s (bytes "const"))
type_ends (mark c ∷ r) = not (is_suffix (mark c))
type_ends (scope ∷ r) = false
type_ends (colon ∷ r) = true
type_ends (linkage ∷ r) = true
type_ends (comment s ∷ r) = true

abbrev pub no_scope : List Token → Bool
no_scope [] = true
no_scope (word s ∷ r) = true
no_scope (mark c ∷ r) = true
no_scope (scope ∷ r) = false
no_scope (colon ∷ r) = true
no_scope (linkage ∷ r) = true
no_scope (comment s ∷ r) = true

module _ {A : Type 0} where
  pub path_back : (p : List Name) (r : List Token) (k : List Name → List Token → Option A) → no_scope r ≡ true →
      path_p (path_tokens p r) k ≡ k p r
  path_back [] [] k h = refl
  path_back [] (word s ∷ r) k h = refl
  path_back [] (mark c ∷ r) k h = refl
  path_back [] (scope ∷ r) k h = absurd (false≢true h)
  path_back [] (colon ∷ r) k h = refl
  path_back [] (linkage ∷ r) k h = refl
  path_back [] (comment s ∷ r) k h = refl
  path_back (s ∷ p) r k h = path_back p r (λ p q. k (s ∷ p) q) h

  const_ends : (t : Token) (r : List Token) (k : List Suffix → List Token → Option A) → suffix_next r ≡ false →
      suffixes_p (t ∷ []) r k ≡ k [] (t ∷ r)
  unfolding same
  const_ends t [] k h = refl
  const_ends t (u ∷ r) k h =
      let q = neither (same_token u (mark 38)) (same_token u (mark 42)) h in rw (q.0, suffixes_p, q.1)

  pub suffixes_back : (ss : List Suffix) (r : List Token) (k : List Suffix → List Token → Option A) → type_ends r ≡ true →
      suffixes_p [] (each_tokens suffix_tokens ss r) k ≡ k ss r
  unfolding same
  suffixes_back (reference true ∷ ss) r k h = suffixes_back ss r (λ ss q. k (reference true ∷ ss) q) h
  suffixes_back (reference false ∷ ss) r k h = suffixes_back ss r (λ ss q. k (reference false ∷ ss) q) h
  suffixes_back (pointer true ∷ ss) r k h = suffixes_back ss r (λ ss q. k (pointer true ∷ ss) q) h
  suffixes_back (pointer false ∷ ss) r k h = suffixes_back ss r (λ ss q. k (pointer false ∷ ss) q) h
  suffixes_back [] [] k h = refl
  suffixes_back [] (word s ∷ r) k h =
      by_cases (same s (bytes "const"))
      (λ e. rw e (const_ends (word s) r k (not_both (suffix_next r) (same s (bytes "const")) h e)))
      (λ e. rw e)
  suffixes_back [] (mark c ∷ r) k h =
      let q = neither (same_token (mark c) (mark 38)) (same_token (mark c) (mark 42)) (not-true (is_suffix (mark c)) h) in
      rw (q.0, suffixes_p, q.1)
  suffixes_back [] (scope ∷ r) k h = refl
  suffixes_back [] (colon ∷ r) k h = refl
  suffixes_back [] (linkage ∷ r) k h = refl
  suffixes_back [] (comment s ∷ r) k h = refl

-- no path follows a base
pub scope_free : (ss : List Suffix) (r : List Token) → type_ends r ≡ true → no_scope (each_tokens suffix_tokens ss r) ≡ true
scope_free (reference true ∷ ss) r h = refl
scope_free (reference false ∷ ss) r h = refl
scope_free (pointer true ∷ ss) r h = refl
scope_free (pointer false ∷ ss) r h = refl
scope_free [] [] h = refl
scope_free [] (word s ∷ r) h = refl
scope_free [] (mark c ∷ r) h = refl
scope_free [] (scope ∷ r) h = absurd (false≢true h)
scope_free [] (colon ∷ r) h = refl
scope_free [] (linkage ∷ r) h = refl
scope_free [] (comment s ∷ r) h = refl

pub full_other : (p : List Name) → full_name_ok p ≡ true → of_std_or_rust p ≡ false
unfolding full_name_ok
full_other p o =
    let q = both (within 1 (suc max_namespaces) (length p)) (every is_name p && not (of_std_or_rust p)) o in
    not-true (of_std_or_rust p) (both (every is_name p) (not (of_std_or_rust p)) q.1).1

-- what holds of tokens that begin with :: or with an atom's word holds of each type's tokens
module _ (P : List Token → Type 0) (path : (r : List Token) → P (scope ∷ r))
    (words : (r : List Token) → P (quoted "bool" r) × P (quoted "char" r) × P (quoted "float" r) × P (quoted "double" r)) where
  atom_first : (a : Atom) (r : List Token) → P (atom_tokens a r)
  atom_first bool r = (words r).0
  atom_first char r = (words r).1
  atom_first u8 r = path _
  atom_first u16 r = path _
  atom_first u32 r = path _
  atom_first u64 r = path _
  atom_first usize r = path _
  atom_first i8 r = path _
  atom_first i16 r = path _
  atom_first i32 r = path _
  atom_first i64 r = path _
  atom_first isize r = path _
  atom_first f32 r = (words r).2
  atom_first f64 r = (words r).3
  atom_first cxx_string r = path _
  atom_first rust_string r = path _

  pub base_first : (b : Base) → base_ok b ≡ true → (r : List Token) → P (base_tokens b r)
  unfolding base_ok full_name_ok
  base_first (atom a) o r = atom_first a r
  base_first str o r = path _
  base_first (full []) o r = absurd (false≢true o)
  base_first (full (s ∷ p)) o r = path _
  base_first (template box x) o r = path _
  base_first (template vec x) o r = path _
  base_first (template unique_ptr x) o r = path _
  base_first (template shared_ptr x) o r = path _
  base_first (template weak_ptr x) o r = path _
  base_first (template vector x) o r = path _
  base_first (slice x c) o r = path _
  base_first (array x n) o r = path _
  base_first (void_fn xs) o r = path _
  base_first (fn x xs) o r = path _

  pub type_first : (x : CxxType) → parts_ok x ≡ true → (r : List Token) → P (type_tokens x r)
  unfolding parts_ok
  type_first (suffixed b ss) o r = base_first b o (each_tokens suffix_tokens ss r)

pub no_close : (x : CxxType) → parts_ok x ≡ true → (r : List Token) → begins ")" (type_tokens x r) ≡ false
unfolding same
no_close = type_first (λ r. begins ")" r ≡ false) (λ r. refl) (λ r. (refl, refl, refl, refl))

pub no_void : (x : CxxType) → parts_ok x ≡ true → (r : List Token) → begins "void" (type_tokens x r) ≡ false
unfolding same
no_void = type_first (λ r. begins "void" r ≡ false) (λ r. refl) (λ r. (refl, refl, refl, refl))

more_ends : (xs : CxxTypes) (r : List Token) → type_ends (more_types_tokens xs (mark 41 ∷ r)) ≡ true
unfolding same
more_ends nil r = refl
more_ends (cons x xs) r = refl

module _ {A : Type 0} where
  module _ (f : Parser A CxxType) (g : Parser A CxxTypes) where
    pub opened : (s : Name) (p : List Name) (r : List Token) (k : Start → List Token → Option A) → no_scope r ≡ true →
        start_p f g (path_tokens (s ∷ p) r) k ≡ inside_p f g (opening (s ∷ p)) r k
    opened s p r k h = path_back (s ∷ p) r (λ p r. inside_p f g (opening p) r k) h

    pub atom_back : (a : Atom) (r : List Token) (k : Start → List Token → Option A) → no_scope r ≡ true →
        start_p f g (atom_tokens a r) k ≡ k (based (atom a)) r
    unfolding same
    atom_back bool r k h = refl
    atom_back char r k h = refl
    atom_back u8 r k h = opened (bytes "std") (bytes "uint8_t" ∷ []) r k h
    atom_back u16 r k h = opened (bytes "std") (bytes "uint16_t" ∷ []) r k h
    atom_back u32 r k h = opened (bytes "std") (bytes "uint32_t" ∷ []) r k h
    atom_back u64 r k h = opened (bytes "std") (bytes "uint64_t" ∷ []) r k h
    atom_back usize r k h = opened (bytes "std") (bytes "size_t" ∷ []) r k h
    atom_back i8 r k h = opened (bytes "std") (bytes "int8_t" ∷ []) r k h
    atom_back i16 r k h = opened (bytes "std") (bytes "int16_t" ∷ []) r k h
    atom_back i32 r k h = opened (bytes "std") (bytes "int32_t" ∷ []) r k h
    atom_back i64 r k h = opened (bytes "std") (bytes "int64_t" ∷ []) r k h
    atom_back isize r k h = opened (bytes "rust") (bytes "isize" ∷ []) r k h
    atom_back f32 r k h = refl
    atom_back f64 r k h = refl
    atom_back cxx_string r k h = opened (bytes "std") (bytes "string" ∷ []) r k h
    atom_back rust_string r k h = opened (bytes "rust") (bytes "String" ∷ []) r k h

    template_back : (t : Template) (r : List Token) (k : Start → List Token → Option A) →
        start_p f g (template_tokens t r) k ≡ f r (λ x r. need ">" r (k (based (template t x))))
    unfolding same
    template_back box r k = refl
    template_back vec r k = refl
    template_back unique_ptr r k = refl
    template_back shared_ptr r k = refl
    template_back weak_ptr r k = refl
    template_back vector r k = refl

  mutual
    unfolding same parts_ok base_ok all_parts_ok full_name_ok

    pub type_back : (x : CxxType) (n : ℕ) → type_size x ≤ n → parts_ok x ≡ true → (r : List Token) → type_ends r ≡ true →
        (k : CxxType → List Token → Option A) → type_p n (type_tokens x r) k ≡ k x r
    type_back (suffixed b ss) zero l o r h k = absurd (omega arith)
    type_back (suffixed b ss) (suc n) l o r h k =
        base_back b n (omega arith) o (each_tokens suffix_tokens ss r) (scope_free ss r h) (λ b r. suffixed_p b r k)
        ∙ suffixes_back ss r (λ ss r. k (suffixed b ss) r) h

    pub base_back : (b : Base) (n : ℕ) → base_size b ≤ n → base_ok b ≡ true → (r : List Token) → no_scope r ≡ true →
        (k : Start → List Token → Option A) →
        start_p (λ r k. type_p n r k) (λ r k. types_p n r k) (base_tokens b r) k ≡ k (based b) r
    base_back (atom a) n l o r h k = atom_back (λ r k. type_p n r k) (λ r k. types_p n r k) a r k h
    base_back str n l o r h k = opened (λ r k. type_p n r k) (λ r k. types_p n r k) (bytes "rust") (bytes "Str" ∷ []) r k h
    base_back (full []) n l o r h k = absurd (false≢true o)
    base_back (full (s ∷ p)) n l o r h k =
        opened (λ r k. type_p n r k) (λ r k. types_p n r k) s p r k h ∙ rw (full_other (s ∷ p) o, inside_p)
    base_back (template t x) n l o r h k =
        template_back (λ r k. type_p n r k) (λ r k. types_p n r k) t (type_tokens x (mark 62 ∷ r)) k
        ∙ type_back x n l o (mark 62 ∷ r) refl _
    base_back (slice x true) n l o r h k = type_back x n l o (quoted "const >" r) refl _
    base_back (slice x false) n l o r h k = type_back x n l o (quoted ">" r) refl _
    base_back (array x d) n l o r h k =
        let q = both (ltb d array_lengths) (parts_ok x) o in
        type_back x n l q.1 (mark 44 ∷ word (decimal d) ∷ mark 62 ∷ r) refl _ ∙
        rw (number_decimal d q.0, same_refl (decimal d))
    base_back (void_fn xs) n l o r h k =
        types_back xs n l (both (leb (type_count xs) max_fn_arguments) (all_parts_ok xs) o).1 (mark 62 ∷ r) _
    base_back (fn x xs) n l o r h k =
        let q = both (parts_ok x) (all_parts_ok xs) (both (leb (type_count xs) max_fn_arguments) (parts_ok x && all_parts_ok xs) o).1 in
        rw (no_void x q.0 (mark 40 ∷ types_tokens xs (mark 41 ∷ mark 62 ∷ r)), fork)
        (type_back x n (omega arith) q.0 (mark 40 ∷ types_tokens xs (mark 41 ∷ mark 62 ∷ r)) refl _
        ∙ types_back xs n (omega arith) q.1 (mark 62 ∷ r) _)

    types_back : (xs : CxxTypes) (n : ℕ) → types_size xs ≤ n → all_parts_ok xs ≡ true → (r : List Token) →
        (k : CxxTypes → List Token → Option A) → types_p n (types_tokens xs (mark 41 ∷ r)) k ≡ k xs (mark 41 ∷ r)
    types_back nil zero l o r k = absurd (omega arith)
    types_back nil (suc n) l o r k = refl
    types_back (cons x xs) zero l o r k = absurd (omega arith)
    types_back (cons x xs) (suc n) l o r k =
        let q = both (parts_ok x) (all_parts_ok xs) o in
        rw (no_close x q.0 (more_types_tokens xs (mark 41 ∷ r)), fork)
        (type_back x n (omega arith) q.0 (more_types_tokens xs (mark 41 ∷ r)) (more_ends xs r) _
        ∙ more_types_back xs n (omega arith) q.1 r _)

    more_types_back : (xs : CxxTypes) (n : ℕ) → types_size xs ≤ n → all_parts_ok xs ≡ true → (r : List Token) →
        (k : CxxTypes → List Token → Option A) → more_types_p n (more_types_tokens xs (mark 41 ∷ r)) k ≡ k xs (mark 41 ∷ r)
    more_types_back nil zero l o r k = absurd (omega arith)
    more_types_back nil (suc n) l o r k = refl
    more_types_back (cons x xs) zero l o r k = absurd (omega arith)
    more_types_back (cons x xs) (suc n) l o r k =
        let q = both (parts_ok x) (all_parts_ok xs) o in
        type_back x n (omega arith) q.0 (more_types_tokens xs (mark 41 ∷ r)) (more_ends xs r) _
        ∙ more_types_back xs n (omega arith) q.1 r _
