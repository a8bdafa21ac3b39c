-- A type is spelled as its tree's tokens.
use Rattle.std.proofs.Common.{◌≡◌, ℕ, Bool, true, false, not, ◌&&◌, ltb, leb, List, [], ◌∷◌, ◌++◌, length, sym, refl, ltb-true}
use Rattle.lexical.specs.Bytes.{bytes, every}
use Rattle.lexical.specs.Names.{is_name}
use Rattle.lexical.specs.Decimal.{decimal}
use Rattle.lexical.proofs.BoolLaws.{both}
use Rattle.lexical.proofs.ByteLaws.{Each, every_cons, every_snoc}
use Rattle.format.specs.declared.Atom.{Atom}
use Rattle.format.specs.declared.Atom.TheVariants as Atom
use Rattle.format.specs.declared.Template.{Template}
use Rattle.format.specs.declared.Template.TheVariants.{RustBox, RustVec, UniquePtr, SharedPtr, WeakPtr, CxxVector}
use Rattle.format.specs.declared.Pointer.TheVariants.{Ref, Ptr, SliceRef}
use Rattle.format.specs.Types.{Ty, atom, named, template, pointer, str, fn, array, Ret, none, gives, Tys, nil, cons}
use Rattle.format.specs.Sheet.{Name, Item}
use Rattle.syntax.specs.Items.{item_at, path, full_name}
use Rattle.decoded.specs.Fits.{parts_fit, parts_fit_ret, parts_fit_tys, count}
use Rattle.decoded.proofs.Kept.{all_at, ItemKept}
use Rattle.bridge.specs.WriteType.{write_atom, template_name, const_unless, pointer_end, space_after_type, write_type}
use Rattle.bridge.specs.WriteType.{write_ret, write_types, write_type_space}
use Rattle.grammar.specs.Token.{Token, quoted}
use Rattle.grammar.specs.Types as Cxx
use Rattle.grammar.specs.Types.{CxxType, Suffix, CxxTypes}
use Rattle.grammar.specs.Tokens.{path_tokens, atom_tokens, template_tokens, const_tokens, suffix_tokens, type_tokens}
use Rattle.grammar.specs.Tokens.{base_tokens, types_tokens, more_types_tokens}
use Rattle.agreement.specs.Atoms.{atom_tree}
use Rattle.spelling.specs.TypeTree.{template_tree, item_path, with_suffix, cxx_type, fn_tree, cxx_types}
use Rattle.spelling.proofs.Spells.{End, closed, inside, Spells, meets, ◌▷◌, ◌▷⟨◌⟩◌, weaken, as_tokens, empty}
use Rattle.spelling.proofs.Spells.{lit, word_spells, name_spells}
use Rattle.grammar.proofs.Decimal.{decimal_word}
use Rattle.spelling.proofs.Suffixes.{suffix_tokens_lem}

-- ---- full names

path_meets : (parts : List Name) → meets inside (path parts) inside ≡ true
unfolding path
path_meets [] = refl
path_meets (part ∷ parts) = refl

pub path_spells : (parts : List Name) → every is_name parts ≡ true → Spells inside (path parts) (path_tokens parts)
unfolding path
path_spells [] h = empty
path_spells (part ∷ parts) h =
    let q = every_cons is_name part parts h in
    lit "::" refl ▷ name_spells part q.0 ▷⟨ path_meets parts ⟩ path_spells parts q.1

-- ---- literals

atom_spells : (a : Atom) → Spells inside (write_atom a) (atom_tokens (atom_tree a))
atom_spells Atom.Bool = lit "bool" refl
atom_spells Atom.Char = lit "char" refl
atom_spells Atom.U8 = lit "::std::uint8_t" refl
atom_spells Atom.U16 = lit "::std::uint16_t" refl
atom_spells Atom.U32 = lit "::std::uint32_t" refl
atom_spells Atom.U64 = lit "::std::uint64_t" refl
atom_spells Atom.Usize = lit "::std::size_t" refl
atom_spells Atom.I8 = lit "::std::int8_t" refl
atom_spells Atom.I16 = lit "::std::int16_t" refl
atom_spells Atom.I32 = lit "::std::int32_t" refl
atom_spells Atom.I64 = lit "::std::int64_t" refl
atom_spells Atom.Isize = lit "::rust::isize" refl
atom_spells Atom.F32 = lit "float" refl
atom_spells Atom.F64 = lit "double" refl
atom_spells Atom.CxxString = lit "::std::string" refl
atom_spells Atom.RustString = lit "::rust::String" refl

template_spells : (k : Template) → Spells closed (template_name k) (template_tokens (template_tree k))
template_spells RustBox = lit "::rust::Box<" refl
template_spells RustVec = lit "::rust::Vec<" refl
template_spells UniquePtr = lit "::std::unique_ptr<" refl
template_spells SharedPtr = lit "::std::shared_ptr<" refl
template_spells WeakPtr = lit "::std::weak_ptr<" refl
template_spells CxxVector = lit "::std::vector<" refl

const_spells : (mutable : Bool) → Spells closed (const_unless mutable (bytes "const ")) (const_tokens (not mutable))
const_spells true = empty
const_spells false = lit "const " refl

pub pointer_end_spells : (mutable : Bool) →
    Spells closed (pointer_end Ptr mutable) (suffix_tokens (Cxx.pointer (not mutable)))
pointer_end_spells mutable = const_spells mutable ▷ lit "*" refl

reference_end_spells : (mutable : Bool) →
    Spells closed (pointer_end Ref mutable) (suffix_tokens (Cxx.reference (not mutable)))
reference_end_spells mutable = const_spells mutable ▷ lit "&" refl

slice_end_spells : (mutable : Bool) →
    Spells closed (pointer_end SliceRef mutable) (λ ts. const_tokens (not mutable) (quoted ">" ts))
slice_end_spells true = lit ">" refl
slice_end_spells false = lit "const" refl ▷⟨ refl ⟩ lit ">" refl

-- ---- the end of a type

-- a type ends in a word, unless a mark closes it
unfoldable pub type_end : Ty → End
type_end (atom a) = inside
type_end (named i) = inside
type_end (template k t) = closed
type_end (pointer k m t) = closed
type_end str = inside
type_end (fn r ts) = closed
type_end (array t n) = closed

-- the space behind a type sets it off
space_spells : (t : Ty) {s : List ℕ} {tokens : List Token → List Token} → Spells (type_end t) s tokens →
    Spells closed (s ++ space_after_type t) tokens
unfolding type_end
space_spells (atom a) p = p ▷⟨ refl ⟩ lit " " refl
space_spells (named i) p = p ▷⟨ refl ⟩ lit " " refl
space_spells (template k t) p = p ▷ lit " " refl
space_spells (pointer Ref m t) p = p ▷ empty
space_spells (pointer Ptr m t) p = p ▷ empty
space_spells (pointer SliceRef m t) p = p ▷ lit " " refl
space_spells str p = p ▷⟨ refl ⟩ lit " " refl
space_spells (fn r ts) p = p ▷ lit " " refl
space_spells (array t n) p = p ▷ lit " " refl

-- a suffix behind a type
pub suffix_spells : {a b : List ℕ} (s : Suffix) (x : CxxType) → Spells closed a (type_tokens x) →
    Spells closed b (suffix_tokens s) → Spells closed (a ++ b) (type_tokens (with_suffix s x))
suffix_spells s x p q = as_tokens (λ ts. sym (suffix_tokens_lem s x ts)) (p ▷ q)

-- ---- items

pub item_path_names : {items : List Item} (x : Item) → ItemKept items x → every is_name (item_path x) ≡ true
item_path_names x k = every_snoc is_name x.namespace x.cxx k.namespace_names k.cxx_name

pub full_name_spells : {items : List Item} (x : Item) → ItemKept items x →
    Spells inside (full_name x) (path_tokens (item_path x))
unfolding full_name
full_name_spells x k = path_spells (item_path x) (item_path_names x k)

more_meets : (items : List Item) (ts : Tys) → meets inside (write_types items true ts) inside ≡ true
unfolding write_types
more_meets items nil = refl
more_meets items (cons t ts) = refl

-- ---- types, where every item index has its item

module _ (items : List Item) (kept : Each (ItemKept items) items) where
  pub item_kept_lem : (i : ℕ) → ltb i (length items) ≡ true → ItemKept items (item_at items i)
  unfolding item_at
  item_kept_lem i h = all_at (ItemKept items) items i _ kept (ltb-true i (length items) h)

  mutual
    unfolding write_type cxx_type parts_fit type_end

    type_ends_lem : (t : Ty) → parts_fit (length items) t ≡ true →
        Spells (type_end t) (write_type items t) (type_tokens (cxx_type items t))
    type_ends_lem (atom a) h = atom_spells a
    type_ends_lem (named i) h = full_name_spells (item_at items i) (item_kept_lem i h)
    type_ends_lem (template k t) h =
        template_spells k ▷ weaken (type_end t) (type_ends_lem t h) ▷⟨ refl ⟩ lit ">" refl
    type_ends_lem (pointer Ref m t) h =
        suffix_spells (Cxx.reference (not m)) (cxx_type items t) (space_spells t (type_ends_lem t h)) (reference_end_spells m)
    type_ends_lem (pointer Ptr m t) h =
        suffix_spells (Cxx.pointer (not m)) (cxx_type items t) (space_spells t (type_ends_lem t h)) (pointer_end_spells m)
    type_ends_lem (pointer SliceRef m t) h =
        lit "::rust::Slice<" refl ▷ space_spells t (type_ends_lem t h) ▷ slice_end_spells m
    type_ends_lem str h = lit "::rust::Str" refl
    type_ends_lem (fn r ts) h =
        let q = both (leb (count ts) 15) (parts_fit_ret (length items) r && parts_fit_tys (length items) ts) h in
        let g = both (parts_fit_ret (length items) r) (parts_fit_tys (length items) ts) q.1 in
        fn_ends r (cxx_types items ts) g.0 (types_spell ts g.1)
    type_ends_lem (array t n) h =
        let q = both (ltb n 4294967296) (parts_fit (length items) t) h in
        lit "::std::array<" refl ▷ weaken (type_end t) (type_ends_lem t q.1) ▷⟨ refl ⟩ lit ", " refl
        ▷ word_spells (decimal n) (decimal_word n) ▷⟨ refl ⟩ lit ">" refl

    -- the types of the arguments are spelled so
    fn_ends : (r : Ret) {s : List ℕ} (xs : CxxTypes) → parts_fit_ret (length items) r ≡ true →
        Spells inside s (types_tokens xs) →
        Spells closed (bytes "::rust::Fn<" ++ write_ret items r ++ bytes "(" ++ s ++ bytes ")>")
        (base_tokens (fn_tree items r xs))
    fn_ends none xs h p =
        lit "::rust::Fn<" refl ▷ lit "void" refl ▷⟨ refl ⟩ lit "(" refl ▷ p ▷⟨ refl ⟩ lit ")>" refl
    fn_ends (gives t) xs h p =
        lit "::rust::Fn<" refl ▷ weaken (type_end t) (type_ends_lem t h) ▷⟨ refl ⟩ lit "(" refl ▷ p ▷⟨ refl ⟩ lit ")>" refl

    types_spell : (ts : Tys) → parts_fit_tys (length items) ts ≡ true →
        Spells inside (write_types items false ts) (types_tokens (cxx_types items ts))
    types_spell nil h = empty
    types_spell (cons t ts) h =
        let q = both (parts_fit (length items) t) (parts_fit_tys (length items) ts) h in
        weaken (type_end t) (type_ends_lem t q.0) ▷⟨ more_meets items ts ⟩ more_spell ts q.1

    more_spell : (ts : Tys) → parts_fit_tys (length items) ts ≡ true →
        Spells inside (write_types items true ts) (more_types_tokens (cxx_types items ts))
    more_spell nil h = empty
    more_spell (cons t ts) h =
        let q = both (parts_fit (length items) t) (parts_fit_tys (length items) ts) h in
        lit ", " refl ▷ weaken (type_end t) (type_ends_lem t q.0) ▷⟨ more_meets items ts ⟩ more_spell ts q.1

  pub type_spells : (t : Ty) → parts_fit (length items) t ≡ true →
      Spells inside (write_type items t) (type_tokens (cxx_type items t))
  type_spells t h = weaken (type_end t) (type_ends_lem t h)

  pub type_space_spells : (t : Ty) → parts_fit (length items) t ≡ true →
      Spells closed (write_type_space items t) (type_tokens (cxx_type items t))
  unfolding write_type_space
  type_space_spells t h = space_spells t (type_ends_lem t h)
