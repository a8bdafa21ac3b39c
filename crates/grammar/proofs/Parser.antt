-- A parser in continuation form: a device to show that a tree is told by its tokens. Numbers n bound the recursion.
use Rattle.std.proofs.Common.{ℕ, zero, suc, ◌+◌, ◌-◌, ◌*◌, Bool, true, false, cond, not, ◌&&◌, ◌||◌, List, [], ◌∷◌, ◌++◌}
use mathlib.Core.Option.{Option, none, some}
use Prim.Native.String.{String}
use Rattle.lexical.specs.Bytes.{bytes, same}
use Rattle.lexical.specs.Decimal.{decimal}
use Rattle.grammar.specs.Token.{Token, word, mark, scope, colon, linkage, comment, quoted}
use Rattle.grammar.specs.Types.{Name, Atom, bool, char, u8, u16, u32, u64, usize, i8, i16, i32, i64, isize}
use Rattle.grammar.specs.Types.{f32, f64, cxx_string, rust_string, Template, box, vec, unique_ptr, shared_ptr}
use Rattle.grammar.specs.Types.{weak_ptr, vector, Suffix, reference, pointer, CxxType, suffixed, Base, atom, str}
use Rattle.grammar.specs.Types.{full, template, slice, array, void_fn, fn, CxxTypes, nil, cons}
use Rattle.grammar.specs.Tree.{Result, void, ptr_len, fat, int, value, Parameter, named, slot}
use Rattle.grammar.specs.Tree.{Measure, size, align, Head, free, method, Local, held, room}
use Rattle.grammar.specs.Tree.{Operand, receiver, direct, into_raw, release, address, held_address, slot_address}
use Rattle.grammar.specs.Tree.{CallForm, bare, error, returned, dereferenced, in_from_raw, in_unique_ptr}
use Rattle.grammar.specs.Tree.{in_new_unchecked, in_slice, Call, Ending, no_return, return_slot, move_slot, Item}
use Rattle.grammar.specs.Tree.{declares, defines, shim, Block, namespace, extern_c, Body, body_end, item, block}
use Rattle.grammar.specs.Tree.{Line, struct_line, enum_line, using_line, Forward, forward_end, line, bare_namespace}
use Rattle.grammar.specs.Tree.{Text, text}
use Rattle.grammar.specs.Tokens.{each_tokens, path_tokens, result_tokens, measure_tokens, comment_tokens, block_tokens}
use Rattle.grammar.specs.Rules.{of_std_or_rust}
use Rattle.grammar.proofs.Lexer.{lex}
use Rattle.grammar.proofs.SameTokens.{same_token, same_tokens}

-- tests on tokens

abbrev pub begins_with : List Token → List Token → Bool
begins_with [] r = true
begins_with (t ∷ ts) [] = false
begins_with (t ∷ ts) (u ∷ r) = same_token u t && begins_with ts r

abbrev pub behind : List Token → List Token
behind [] = []
behind (t ∷ r) = r

abbrev pub past : List Token → List Token → List Token
past [] r = r
past (t ∷ ts) r = past ts (behind r)

abbrev pub begins : String → List Token → Bool
begins s r = begins_with (quoted s []) r

-- reads an X and hands it on with the tokens behind it
abbrev pub Parser : Type 0 → Type 0 → Type 0
Parser A X = List Token → (X → List Token → Option A) → Option A

module _ {A : Type 0} where
  -- one way behind the quoted tokens if they come next, and else the other
  abbrev pub fork : String → List Token → (List Token → Option A) → (List Token → Option A) → Option A
  fork s r f g = elim (begins s r) [ true ↦ f (past (quoted s []) r) | false ↦ g r ]

  abbrev pub need : String → List Token → (List Token → Option A) → Option A
  need s r k = fork s r k (λ q. none)

  abbrev pub flag_p : String → Parser A Bool
  flag_p s r k = fork s r (k true) (k false)

  abbrev pub word_p : Parser A Name
  word_p [] k = none
  word_p (word s ∷ r) k = k s r
  word_p (mark c ∷ r) k = none
  word_p (scope ∷ r) k = none
  word_p (colon ∷ r) k = none
  word_p (linkage ∷ r) k = none
  word_p (comment s ∷ r) k = none

  abbrev pub comment_p : Parser A Name
  comment_p [] k = none
  comment_p (word s ∷ r) k = none
  comment_p (mark c ∷ r) k = none
  comment_p (scope ∷ r) k = none
  comment_p (colon ∷ r) k = none
  comment_p (linkage ∷ r) k = none
  comment_p (comment s ∷ r) k = k s r

  abbrev pub path_p : Parser A (List Name)
  path_p [] k = k [] []
  path_p (word s ∷ r) k = k [] (word s ∷ r)
  path_p (mark c ∷ r) k = k [] (mark c ∷ r)
  path_p (colon ∷ r) k = k [] (colon ∷ r)
  path_p (linkage ∷ r) k = k [] (linkage ∷ r)
  path_p (comment s ∷ r) k = k [] (comment s ∷ r)
  path_p (scope ∷ []) k = none
  path_p (scope ∷ (word s ∷ r)) k = path_p r (λ p q. k (s ∷ p) q)
  path_p (scope ∷ (mark c ∷ r)) k = none
  path_p (scope ∷ (scope ∷ r)) k = none
  path_p (scope ∷ (colon ∷ r)) k = none
  path_p (scope ∷ (linkage ∷ r)) k = none
  path_p (scope ∷ (comment s ∷ r)) k = none

module _ {A X : Type 0} where
  -- as many as the test sees
  abbrev pub many_p : ℕ → (List Token → Bool) → (ℕ → Parser A X) → Parser A (List X)
  many_p zero more p r k = none
  many_p (suc n) more p r k =
      elim (more r) [ true ↦ p n r (λ x r. many_p n more p r (λ xs r. k (x ∷ xs) r)) | false ↦ k [] r ]

  -- behind one, each after a comma
  abbrev pub comma_p : ℕ → (ℕ → Parser A X) → Parser A (List X)
  comma_p zero p r k = none
  comma_p (suc n) p r k = fork "," r (λ r. p n r (λ x r. comma_p n p r (λ xs r. k (x ∷ xs) r))) (λ r. k [] r)

  -- up to a closing parenthesis
  abbrev pub list_p : ℕ → (ℕ → Parser A X) → Parser A (List X)
  list_p zero p r k = none
  list_p (suc n) p r k = fork ")" r (λ q. k [] r) (λ r. p n r (λ x r. comma_p n p r (λ xs r. k (x ∷ xs) r)))

-- types

abbrev pub same_path : List Name → List Name → Bool
same_path [] [] = true
same_path [] (t ∷ q) = false
same_path (s ∷ p) [] = false
same_path (s ∷ p) (t ∷ q) = same s t && same_path p q

-- what a path begins
pub data Opening : Type 0 where
  opens_atom : Atom → Opening
  opens_template : Template → Opening
  opens_str opens_ptr_len opens_fat opens_slice opens_array opens_fn opens_nothing : Opening
  opens_full : List Name → Opening

abbrev pub Row : Type 0
Row = List Name × Opening

abbrev pub look_up : List Row → List Name → Opening
look_up [] p = opens_nothing
look_up (row ∷ rows) p = elim (same_path row.0 p) [ true ↦ row.1 | false ↦ look_up rows p ]

abbrev pub std : String → List Name
std s = bytes "std" ∷ bytes s ∷ []

abbrev pub rust : String → List Name
rust s = bytes "rust" ∷ bytes s ∷ []

abbrev pub openings : List Row
openings =
    (std "uint8_t", opens_atom u8) ∷ (std "uint16_t", opens_atom u16) ∷ (std "uint32_t", opens_atom u32)
    ∷ (std "uint64_t", opens_atom u64) ∷ (std "size_t", opens_atom usize) ∷ (std "int8_t", opens_atom i8)
    ∷ (std "int16_t", opens_atom i16) ∷ (std "int32_t", opens_atom i32) ∷ (std "int64_t", opens_atom i64)
    ∷ (rust "isize", opens_atom isize) ∷ (std "string", opens_atom cxx_string) ∷ (rust "String", opens_atom rust_string)
    ∷ (rust "Box", opens_template box) ∷ (rust "Vec", opens_template vec)
    ∷ (std "unique_ptr", opens_template unique_ptr) ∷ (std "shared_ptr", opens_template shared_ptr)
    ∷ (std "weak_ptr", opens_template weak_ptr) ∷ (std "vector", opens_template vector)
    ∷ (rust "Str", opens_str) ∷ (rust "Slice", opens_slice) ∷ (std "array", opens_array) ∷ (rust "Fn", opens_fn)
    ∷ (bytes "rust" ∷ bytes "repr" ∷ bytes "PtrLen" ∷ [], opens_ptr_len)
    ∷ (bytes "rust" ∷ bytes "repr" ∷ bytes "Fat" ∷ [], opens_fat) ∷ []

abbrev pub opening : List Name → Opening
opening p = elim (of_std_or_rust p) [ true ↦ look_up openings p | false ↦ opens_full p ]

abbrev pub is_suffix : Token → Bool
is_suffix t = same_token t (mark 38) || same_token t (mark 42)

abbrev pub is_some : List Token → Bool
is_some [] = false
is_some (t ∷ r) = true

-- the number with these digits
abbrev pub number : ℕ → List ℕ → ℕ
number high [] = high
number high (c ∷ s) = number (high * 10 + (c - 48)) s

-- a base, or one of the two structs that only a return type can be
pub data Start : Type 0 where
  based : Base → Start
  start_ptr_len start_fat : Start

module _ {A : Type 0} where
  -- & and *; a const that is read and not yet used waits
  abbrev pub suffixes_p : List Token → Parser A (List Suffix)
  suffixes_p waits [] k = k [] waits
  suffixes_p waits (t ∷ r) k =
      elim (same_token t (mark 38)) [
        | true ↦ suffixes_p [] r (λ ss q. k (reference (is_some waits) ∷ ss) q)
        | false ↦
            elim (same_token t (mark 42)) [
              | true ↦ suffixes_p [] r (λ ss q. k (pointer (is_some waits) ∷ ss) q)
              | false ↦
                  elim (not (is_some waits) && same_token t (word (bytes "const")))
                  [ true ↦ suffixes_p (t ∷ []) r k | false ↦ k [] (waits ++ (t ∷ r)) ]
            ]
      ]

  abbrev pub word_atom_p : Parser A Start
  word_atom_p r k =
      fork "bool" r (k (based (atom bool))) (λ r. fork "char" r (k (based (atom char)))
      (λ r. fork "float" r (k (based (atom f32))) (λ r. need "double" r (k (based (atom f64))))))

  -- what stands behind a path, with parsers for the types inside
  abbrev pub inside_p : Parser A CxxType → Parser A CxxTypes → Opening → Parser A Start
  inside_p f g (opens_atom a) r k = k (based (atom a)) r
  inside_p f g opens_str r k = k (based str) r
  inside_p f g opens_ptr_len r k = k start_ptr_len r
  inside_p f g opens_fat r k = k start_fat r
  inside_p f g opens_nothing r k = none
  inside_p f g (opens_full p) r k = k (based (full p)) r
  inside_p f g (opens_template t) r k = need "<" r (λ r. f r (λ x r. need ">" r (k (based (template t x)))))
  inside_p f g opens_slice r k =
      need "<" r (λ r. f r (λ x r. flag_p "const" r (λ c r. need ">" r (k (based (slice x c))))))
  inside_p f g opens_array r k =
      need "<" r (λ r. f r (λ x r. need "," r (λ r. word_p r (λ s r. need ">" r (λ r.
      cond (same s (decimal (number 0 s))) (k (based (array x (number 0 s))) r) none)))))
  inside_p f g opens_fn r k =
      need "<" r (λ r. fork "void" r
      (λ r. need "(" r (λ r. g r (λ xs r. need ") >" r (k (based (void_fn xs))))))
      (λ r. f r (λ x r. need "(" r (λ r. g r (λ xs r. need ") >" r (k (based (fn x xs))))))))

  abbrev pub start_p : Parser A CxxType → Parser A CxxTypes → Parser A Start
  start_p f g [] k = none
  start_p f g (word s ∷ r) k = word_atom_p (word s ∷ r) k
  start_p f g (mark c ∷ r) k = none
  start_p f g (scope ∷ r) k = path_p (scope ∷ r) (λ p r. inside_p f g (opening p) r k)
  start_p f g (colon ∷ r) k = none
  start_p f g (linkage ∷ r) k = none
  start_p f g (comment s ∷ r) k = none

  abbrev pub suffixed_p : Start → Parser A CxxType
  suffixed_p (based b) r k = suffixes_p [] r (λ ss r. k (suffixed b ss) r)
  suffixed_p start_ptr_len r k = none
  suffixed_p start_fat r k = none

  abbrev mutual
    pub type_p : ℕ → Parser A CxxType
    type_p zero r k = none
    type_p (suc n) r k = start_p (λ r k. type_p n r k) (λ r k. types_p n r k) r (λ b r. suffixed_p b r k)

    pub types_p : ℕ → Parser A CxxTypes
    types_p zero r k = none
    types_p (suc n) r k =
        fork ")" r (λ q. k nil r) (λ r. type_p n r (λ x r. more_types_p n r (λ xs r. k (cons x xs) r)))

    pub more_types_p : ℕ → Parser A CxxTypes
    more_types_p zero r k = none
    more_types_p (suc n) r k =
        fork "," r (λ r. type_p n r (λ x r. more_types_p n r (λ xs r. k (cons x xs) r))) (λ r. k nil r)

-- declarations and shims

-- the word without its last character
abbrev pub front : Name → Name
front [] = []
front (c ∷ []) = []
front (c ∷ (d ∷ s)) = c ∷ front (d ∷ s)

abbrev pub is_comment : List Token → Bool
is_comment [] = false
is_comment (word s ∷ r) = false
is_comment (mark c ∷ r) = false
is_comment (scope ∷ r) = false
is_comment (colon ∷ r) = false
is_comment (linkage ∷ r) = false
is_comment (comment s ∷ r) = true

abbrev pub is_local : List Token → Bool
is_local r = begins ":: rust :: ManuallyDrop <" r || begins ":: rust :: MaybeUninit <" r

abbrev pub name_of : Head → Name
name_of (free f) = f
name_of (method t f) = f

-- what stands before a declaration's parameters and behind them, but for `noexcept`
abbrev pub is_declared : List (List ℕ) → Head → Bool → Bool
is_declared [] (free f) is_const = not is_const
is_declared [] (method t f) is_const = false
is_declared (s ∷ cs) h is_const = false

-- what stands around the owner of a layout definition
abbrev pub is_layout : Measure → List (List ℕ) → Result → List Name → Bool
is_layout m cs t p =
    same_tokens (each_tokens comment_tokens cs (result_tokens t (path_tokens p [])))
    (quoted ":: std :: size_t :: layout ::" (measure_tokens m []))

module _ {A : Type 0} where
  abbrev pub on_result : Start → Parser A Result
  on_result (based b) r k = suffixes_p [] r (λ ss r. k (value (suffixed b ss)) r)
  on_result start_ptr_len r k = k ptr_len r
  on_result start_fat r k = k fat r

  unfoldable pub result_p : ℕ → Parser A Result
  result_p n r k =
      fork "void" r (k void) (λ r. fork "int" r (k int)
      (λ r. start_p (λ r k. type_p n r k) (λ r k. types_p n r k) r (λ b r. on_result b r k)))

  unfoldable pub parameter_p : ℕ → Parser A Parameter
  parameter_p n r k =
      type_p n r (λ x r. word_p r (λ s r. elim (same s (bytes "return$")) [ true ↦ k (slot x) r | false ↦ k (named x s) r ]))

  -- behind & and a word
  abbrev pub address_p : Name → Parser A Operand
  address_p s r k =
      fork ". value" r
      (λ r. elim (same s (bytes "return$")) [ true ↦ k slot_address r | false ↦ k (held_address (front s)) r ])
      (λ r. k (address s) r)

  -- behind a word
  abbrev pub direct_p : Name → Parser A Operand
  direct_p s r k =
      fork ". into_raw ( )" r (k (into_raw s)) (λ r. fork ". release ( )" r (k (release s)) (λ r. k (direct s) r))

  unfoldable pub operand_p : ℕ → Parser A Operand
  operand_p n r k =
      fork "* this" r (k receiver)
      (λ r. fork "&" r (λ r. word_p r (λ s r. address_p s r k)) (λ r. word_p r (λ s r. direct_p s r k)))

  unfoldable pub local_p : ℕ → Parser A Local
  local_p n r k =
      fork ":: rust :: ManuallyDrop <" r
      (λ r. type_p n r (λ x r. need ">" r (λ r. word_p r (λ y r. need "( :: std :: move (" r (λ r. word_p r (λ s r.
      need ") ) ;" r (λ r. cond (same y (s ++ bytes "$")) (k (held x s) r) none)))))))
      (λ r. need ":: rust :: MaybeUninit <" r (λ r. type_p n r (λ x r. need "> return$ ;" r (k (room x)))))

  abbrev pub impl_p : CxxType → Parser A CallForm
  impl_p x r k = fork "> :: new_unchecked (" r (k (in_new_unchecked x)) (λ r. need "> :: slice (" r (k (in_slice x)))

  -- behind return
  abbrev pub returned_p : ℕ → Parser A CallForm
  returned_p n r k =
      fork "*" r (k dereferenced)
      (λ r. fork ":: rust :: Box <" r (λ r. type_p n r (λ x r. need "> :: from_raw (" r (k (in_from_raw x))))
      (λ r. fork ":: std :: unique_ptr <" r (λ r. type_p n r (λ x r. need "> (" r (k (in_unique_ptr x))))
      (λ r. fork ":: rust :: impl <" r (λ r. type_p n r (λ x r. impl_p x r k)) (k returned))))

  unfoldable pub form_p : ℕ → Parser A CallForm
  form_p n r k =
      fork ":: rust :: repr :: PtrLen error$ =" r (k error) (λ r. fork "return" r (λ r. returned_p n r k) (k bare))

  unfoldable pub close_p : CallForm → List Token → (List Token → Option A) → Option A
  close_p bare r k = k r
  close_p error r k = k r
  close_p returned r k = k r
  close_p dereferenced r k = k r
  close_p (in_from_raw x) r k = need ")" r k
  close_p (in_unique_ptr x) r k = need ")" r k
  close_p (in_new_unchecked x) r k = need ")" r k
  close_p (in_slice x) r k = need ")" r k

  unfoldable pub call_p : ℕ → Parser A Call
  call_p n r k =
      form_p n r (λ form r. word_p r (λ s r. need "(" r (λ r. list_p n operand_p r (λ operands r. need ")" r (λ r.
      close_p form r (λ r. need ";" r (k (record { form = form; symbol = s; operands = operands }))))))))

  unfoldable pub error_test_p : Parser A Bool
  error_test_p r k = flag_p "if ( error$ . ptr ) { throw :: rust :: impl < :: rust :: Error > :: error ( error$ ) ; }" r k

  unfoldable pub ending_p : Parser A Ending
  ending_p r k =
      fork "return * return$ . value ;" r (k return_slot)
      (λ r. fork "return :: std :: move ( return$ . value ) ;" r (k move_slot) (k no_return))

  -- behind a head's parameters: it declares, or a shim's body follows
  unfoldable pub tail_p : ℕ → List (List ℕ) → Result → Head → List Parameter → Bool → Bool → Parser A Item
  tail_p n cs t h ps c e r k =
      fork ";" r
      (λ r. cond (is_declared cs h c) (k (declares (record { result = t; symbol = name_of h; parameters = ps; noexcept = e })) r) none)
      (λ r. need "{" r (λ r. many_p n is_local local_p r (λ ls r. call_p n r (λ call r. error_test_p r (λ b r. ending_p r (λ f r.
      need "}" r (k (shim (record {
        comments = cs;
        result = t;
        head = h;
        parameters = ps;
        is_const = c;
        noexcept = e;
        locals = ls;
        call = call;
        error_test = b;
        ending = f;
      })))))))))

  -- behind a head's name
  unfoldable pub parameters_p : ℕ → List (List ℕ) → Result → Head → Parser A Item
  parameters_p n cs t h r k =
      need "(" r (λ r. list_p n parameter_p r (λ ps r. need ")" r (λ r.
      flag_p "const" r (λ c r. flag_p "noexcept" r (λ e r. tail_p n cs t h ps c e r k)))))

  abbrev pub layout_p : Name → Measure → Parser A Item
  layout_p x m r k =
      need "( ) noexcept { return" r (λ r. word_p r (λ y r. need "( ) ; }" r
      (k (defines (record { owner = x; measure = m; symbol = y })))))

  -- by the parts behind a word: none, a method's, or layout and size or align
  abbrev pub named_p : ℕ → List (List ℕ) → Result → Name → List Name → Parser A Item
  named_p n cs t a [] r k = parameters_p n cs t (free a) r k
  named_p n cs t a (b ∷ []) r k = parameters_p n cs t (method a b) r k
  named_p n cs t a (b ∷ (c ∷ p)) r k =
      cond (is_layout size cs t (b ∷ c ∷ p)) (layout_p a size r k)
      (cond (is_layout align cs t (b ∷ c ∷ p)) (layout_p a align r k) none)

  unfoldable pub item_p : ℕ → Parser A Item
  item_p n r k =
      many_p n is_comment (λ n. comment_p) r (λ cs r. result_p n r (λ t r. word_p r (λ a r. path_p r (λ p r. named_p n cs t a p r k))))

-- bodies

-- what comes next in a body
pub data Next : Type 0 where
  next_end next_block next_item : Next

abbrev pub next : List Token → Next
next [] = next_end
next (t ∷ r) =
    elim (same_token t (mark 125)) [
      | true ↦ next_end
      | false ↦
          elim (same_token t (word (bytes "namespace")) || same_token t (word (bytes "extern"))) [ true ↦ next_block | false ↦ next_item ]
    ]

module _ {A : Type 0} where
  abbrev pub on_next : Next → List Token → (List Token → Option A) → (List Token → Option A) → (List Token → Option A) → Option A
  on_next next_end r a b c = a r
  on_next next_block r a b c = b r
  on_next next_item r a b c = c r

  abbrev pub block_p : Parser A Block
  block_p r k = fork "namespace" r (λ r. word_p r (λ x r. k (namespace x) r)) (λ r. need "extern \"C\"" r (k extern_c))

  -- a comment that repeats the block's head
  unfoldable pub closing_p : Block → List Token → (List Token → Option A) → Option A
  closing_p b r k =
      comment_p r (λ s r. cond (same_tokens (lex s) (block_tokens b [])) (k r) none)

  abbrev pub body_p : ℕ → Parser A Body
  body_p zero r k = none
  body_p (suc n) r k =
      on_next (next r) r (k body_end)
      (λ r. block_p r (λ b r. need "{" r (λ r. body_p n r (λ inside r. need "}" r (λ r. closing_p b r (λ r.
      body_p n r (λ after r. k (block b inside after) r)))))))
      (λ r. item_p n r (λ i r. body_p n r (λ after r. k (item i after) r)))

-- forward parts

-- where a reader stands while it looks for a line behind the heads of namespaces
pub data Looking : Type 0 where
  at_head at_name at_brace : Looking

abbrev pub is_line : Token → Bool
is_line t =
    same_token t (word (bytes "struct")) || same_token t (word (bytes "enum")) || same_token t (word (bytes "using"))

abbrev pub is_forward : Looking → List Token → Bool
is_forward l [] = false
is_forward at_head (t ∷ r) = elim (same_token t (word (bytes "namespace"))) [ true ↦ is_forward at_name r | false ↦ is_line t ]
is_forward at_name (t ∷ r) = is_forward at_brace r
is_forward at_brace (t ∷ r) = is_forward at_head r

module _ {A : Type 0} where
  abbrev pub on_atom : Start → Parser A Atom
  on_atom (based (atom a)) r k = k a r
  on_atom (based str) r k = none
  on_atom (based (full p)) r k = none
  on_atom (based (template t x)) r k = none
  on_atom (based (slice x c)) r k = none
  on_atom (based (array x n)) r k = none
  on_atom (based (void_fn xs)) r k = none
  on_atom (based (fn x xs)) r k = none
  on_atom start_ptr_len r k = none
  on_atom start_fat r k = none

  unfoldable pub line_p : Parser A Line
  line_p r k =
      fork "struct" r (λ r. word_p r (λ x r. need ";" r (k (struct_line x))))
      (λ r. fork "enum class" r
      (λ r. word_p r (λ x r. need ":" r (λ r. start_p (λ r k. none) (λ r k. none) r (λ b r. on_atom b r (λ a r.
      need ";" r (k (enum_line x a)))))))
      (λ r. need "using" r (λ r. word_p r (λ x r. need "=" r (λ r. path_p r (λ p r. need ";" r (k (using_line x p))))))))

  abbrev pub forward_p : ℕ → Parser A Forward
  forward_p zero r k = none
  forward_p (suc n) r k =
      elim (is_forward at_head r) [
        | false ↦ k forward_end r
        | true ↦
            fork "namespace" r
            (λ r. word_p r (λ x r. need "{" r (λ r. forward_p n r (λ inside r. need "}" r (λ r.
            forward_p n r (λ after r. k (bare_namespace x inside after) r))))))
            (λ r. line_p r (λ l r. forward_p n r (λ after r. k (line l after) r)))
      ]

unfoldable pub text_p : ℕ → List Token → Option Text
text_p n r = forward_p n r (λ f r. body_p n r (λ b r. some (text f b)))
