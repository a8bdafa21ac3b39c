-- The parser gives back each declaration, layout definition and shim from its tokens.
use Rattle.std.proofs.Common.{◌≡◌, ℕ, suc, ◌+◌, ◌≤◌, Bool, true, false, cond, not, ◌&&◌, leb, List, [], ◌∷◌, ◌++◌, length, refl, ap, ◌∙◌, arith}
use mathlib.Core.Bool.{false≢true}
use mathlib.Core.Option.{Option, none}
use Rattle.lexical.specs.Bytes.{bytes, every, same}
use Rattle.lexical.specs.Names.{is_name}
use Rattle.lexical.proofs.BoolLaws.{both, not-true}
use Rattle.lexical.proofs.ByteLaws.{every_weaken, same_refl}
use Rattle.grammar.specs.Token.{Token, word, scope, comment, quoted}
use Rattle.grammar.specs.Types.{Name, usize, CxxType, suffixed, atom, box, unique_ptr, template}
use Rattle.grammar.specs.Tree.{Result, void, ptr_len, fat, int, value, Parameter, named, slot, Declaration}
use Rattle.grammar.specs.Tree.{Measure, size, align, LayoutDefinition, Head, free, method, Local, held, room}
use Rattle.grammar.specs.Tree.{Operand, receiver, direct, into_raw, release, address, held_address, slot_address}
use Rattle.grammar.specs.Tree.{CallForm, bare, error, returned, dereferenced, in_from_raw, in_unique_ptr}
use Rattle.grammar.specs.Tree.{in_new_unchecked, in_slice, Call, Ending, no_return, return_slot, move_slot, Shim, Item}
use Rattle.grammar.specs.Tree.{declares, defines, shim}
use Rattle.grammar.specs.Tokens.{each_tokens, list_tokens, optional_tokens, const_tokens, suffix_tokens, type_tokens}
use Rattle.grammar.specs.Tokens.{result_tokens, parameter_tokens, head_tokens, signature_tokens, declaration_tokens}
use Rattle.grammar.specs.Tokens.{measure_tokens, layout_tokens, operand_tokens, local_tokens, form_tokens, close_tokens}
use Rattle.grammar.specs.Tokens.{call_tokens, error_test_tokens, ending_tokens, comment_tokens, shim_tokens, item_tokens}
use Rattle.grammar.specs.Rules.{max_levels, max_declared_levels, max_arguments, is_symbol, levels, parts_ok, base_ok, type_ok}
use Rattle.grammar.specs.Rules.{result_ok, few_arguments, is_root_main, declared_ok, is_self, is_slot, declaration_ok, head_ok}
use Rattle.grammar.specs.Rules.{argument_ok, local_ok, operand_ok, is_receiver, is_slot_address, form_ok, call_ok, comments_ok, shim_ok}
use Rattle.grammar.specs.Rules.{item_ok}
use Rattle.grammar.proofs.Parser.{begins, fork, flag_p, word_p, comment_p, path_p, many_p, list_p, type_p}
use Rattle.grammar.proofs.Parser.{types_p, is_comment, is_local, on_result, result_p, parameter_p, operand_p}
use Rattle.grammar.proofs.Parser.{local_p, form_p, close_p, call_p, error_test_p, ending_p, tail_p, parameters_p, named_p, item_p}
use Rattle.grammar.proofs.TypeBack.{type_size, type_ends, type_back, base_back, type_first, no_close, no_void, opened}
use Rattle.grammar.proofs.TypeBack.{suffixes_back, scope_free}
use Rattle.grammar.proofs.ListBack.{list_size, many_back, list_back}
use Rattle.grammar.proofs.RuleFacts.{name_no_slot, symbol_no_return, front_snoc, held_no_slot}

-- return types

abbrev pub result_size : Result → ℕ
result_size void = 0
result_size ptr_len = 0
result_size fat = 0
result_size int = 0
result_size (value x) = type_size x

abbrev pub result_readable : Result → Bool
result_readable void = true
result_readable ptr_len = true
result_readable fat = true
result_readable int = true
result_readable (value x) = parts_ok x

pub result_readable_lem : (main : Bool) (t : Result) → result_ok main t ≡ true → result_readable t ≡ true
unfolding result_ok
result_readable_lem main void o = refl
result_readable_lem main ptr_len o = refl
result_readable_lem main fat o = refl
result_readable_lem main int o = refl
result_readable_lem main (value x) o = (both (leb (levels x) max_levels) (parts_ok x) o).1

-- what holds of tokens that begin as a return type can holds of each
module _ (P : List Token → Type 0) (path : (r : List Token) → P (scope ∷ r))
    (words : (r : List Token) → P (quoted "bool" r) × P (quoted "char" r) × P (quoted "float" r) × P (quoted "double" r))
    (plain : (r : List Token) → P (quoted "void" r) × P (quoted "int" r)) where
  pub result_first : (t : Result) → result_readable t ≡ true → (r : List Token) → P (result_tokens t r)
  result_first void o r = (plain r).0
  result_first ptr_len o r = path _
  result_first fat o r = path _
  result_first int o r = (plain r).1
  result_first (value x) o r = type_first P path words x o r

no_int : (x : CxxType) → parts_ok x ≡ true → (r : List Token) → begins "int" (type_tokens x r) ≡ false
unfolding same
no_int = type_first (λ r. begins "int" r ≡ false) (λ r. refl) (λ r. (refl, refl, refl, refl))

module _ {A : Type 0} where
  pub result_back : (t : Result) (n : ℕ) → result_size t ≤ n → result_readable t ≡ true → (r : List Token) →
      type_ends r ≡ true → (k : Result → List Token → Option A) → result_p n (result_tokens t r) k ≡ k t r
  unfolding same result_p parts_ok
  result_back void n l o r h k = refl
  result_back ptr_len n l o r h k =
      opened (λ r k. type_p n r k) (λ r k. types_p n r k) (bytes "rust") (bytes "repr" ∷ bytes "PtrLen" ∷ []) r
      (λ b r. on_result b r k) (scope_free [] r h)
  result_back fat n l o r h k =
      opened (λ r k. type_p n r k) (λ r k. types_p n r k) (bytes "rust") (bytes "repr" ∷ bytes "Fat" ∷ []) r
      (λ b r. on_result b r k) (scope_free [] r h)
  result_back int n l o r h k = refl
  result_back (value (suffixed b ss)) n l o r h k =
      rw (no_void (suffixed b ss) o r, fork, no_int (suffixed b ss) o r, fork)
      (base_back b n (omega arith) o (each_tokens suffix_tokens ss r) (scope_free ss r h) (λ b r. on_result b r k)
      ∙ suffixes_back ss r (λ ss r. k (value (suffixed b ss)) r) h)

-- parameters

abbrev pub parameter_size : Parameter → ℕ
parameter_size (named x s) = type_size x
parameter_size (slot x) = type_size x

abbrev pub parameter_readable : Parameter → Bool
parameter_readable (named x s) = not (same s (bytes "return$")) && parts_ok x
parameter_readable (slot x) = parts_ok x

named_readable : (limit : ℕ) (x : CxxType) (s : Name) → (type_ok limit x && is_name s) ≡ true →
    parameter_readable (named x s) ≡ true
named_readable limit x s o =
    let q = both (type_ok limit x) (is_name s) o in
    rw (name_no_slot s q.1) (both (leb (levels x) limit) (parts_ok x) q.0).1

declared_readable : (x : Parameter) → declared_ok x ≡ true → parameter_readable x ≡ true
unfolding declared_ok
declared_readable (named x s) o = named_readable max_declared_levels x s o
declared_readable (slot x) o = (both (leb (levels x) max_declared_levels) (parts_ok x) o).1

argument_readable : (x : Parameter) → argument_ok x ≡ true → parameter_readable x ≡ true
unfolding argument_ok
argument_readable (named x s) o = named_readable max_levels x s o
argument_readable (slot x) o = absurd (false≢true o)

parameter_open : (x : Parameter) → parameter_readable x ≡ true → (r : List Token) → begins ")" (parameter_tokens x r) ≡ false
parameter_open (named x s) o r = no_close x (both (not (same s (bytes "return$"))) (parts_ok x) o).1 (word s ∷ r)
parameter_open (slot x) o r = no_close x o (quoted "return$" r)

module _ {A : Type 0} where
  parameter_back : (x : Parameter) (n : ℕ) → parameter_size x ≤ n → parameter_readable x ≡ true → (r : List Token)
      (k : Parameter → List Token → Option A) →
      (parameter_p n (parameter_tokens x (quoted ")" r)) k ≡ k x (quoted ")" r))
      × (parameter_p n (parameter_tokens x (quoted "," r)) k ≡ k x (quoted "," r))
  unfolding same parameter_p
  parameter_back (named x s) n l o r k =
      let q = both (not (same s (bytes "return$"))) (parts_ok x) o in
      let d = not-true (same s (bytes "return$")) q.0 in
      (type_back x n l q.1 (word s ∷ quoted ")" r) refl _ ∙ rw (d, word_p), type_back x n l q.1 (word s ∷ quoted "," r) refl _ ∙ rw (d, word_p))
  parameter_back (slot x) n l o r k =
      (type_back x n l o (quoted "return$ )" r) refl _, type_back x n l o (quoted "return$ ," r) refl _)

  pub parameters_back : (xs : List Parameter) (n : ℕ) → list_size parameter_size xs ≤ n → every parameter_readable xs ≡ true →
      (r : List Token) (k : List Parameter → List Token → Option A) →
      list_p n parameter_p (list_tokens parameter_tokens xs (quoted ")" r)) k ≡ k xs (quoted ")" r)
  parameters_back = list_back parameter_tokens parameter_size parameter_readable parameter_p parameter_open parameter_back

-- operands and locals

operand_open : (x : Operand) → operand_ok x ≡ true → (r : List Token) → begins ")" (operand_tokens x r) ≡ false
unfolding same
operand_open receiver o r = refl
operand_open (direct x) o r = refl
operand_open (into_raw x) o r = refl
operand_open (release x) o r = refl
operand_open (address x) o r = refl
operand_open (held_address x) o r = refl
operand_open slot_address o r = refl

abbrev pub local_size : Local → ℕ
local_size (held x s) = type_size x
local_size (room x) = type_size x

local_goes : (x : Local) → local_ok x ≡ true → (r : List Token) → is_local (local_tokens x r) ≡ true
unfolding same
local_goes (held x s) o r = refl
local_goes (room x) o r = refl

module _ {A : Type 0} where
  operand_back : (x : Operand) (n : ℕ) → 0 ≤ n → operand_ok x ≡ true → (r : List Token)
      (k : Operand → List Token → Option A) →
      (operand_p n (operand_tokens x (quoted ")" r)) k ≡ k x (quoted ")" r))
      × (operand_p n (operand_tokens x (quoted "," r)) k ≡ k x (quoted "," r))
  unfolding same operand_p operand_ok
  operand_back receiver n l o r k = (refl, refl)
  operand_back (direct x) n l o r k = (refl, refl)
  operand_back (into_raw x) n l o r k = (refl, refl)
  operand_back (release x) n l o r k = (refl, refl)
  operand_back (address x) n l o r k = (refl, refl)
  operand_back (held_address x) n l o r k =
      (rw (held_no_slot x o, front_snoc x 36), rw (held_no_slot x o, front_snoc x 36))
  operand_back slot_address n l o r k = (refl, refl)

  operands_back : (xs : List Operand) (n : ℕ) → list_size (λ x. 0) xs ≤ n → every operand_ok xs ≡ true → (r : List Token)
      (k : List Operand → List Token → Option A) →
      list_p n operand_p (list_tokens operand_tokens xs (quoted ")" r)) k ≡ k xs (quoted ")" r)
  operands_back = list_back operand_tokens (λ x. 0) operand_ok operand_p operand_open operand_back

  local_back : (x : Local) (n : ℕ) → local_size x ≤ n → local_ok x ≡ true → (r : List Token)
      (k : Local → List Token → Option A) → local_p n (local_tokens x r) k ≡ k x r
  unfolding same local_p local_ok
  local_back (held x s) n l o r k =
      type_back x n l (both (leb (levels x) max_levels) (parts_ok x) (both (type_ok max_levels x) (is_name s) o).0).1
      (quoted ">" (word (s ++ bytes "$") ∷ quoted "( :: std :: move (" (word s ∷ quoted ") ) ;" r))) refl _
      ∙ ap (λ (b : Bool). cond b (k (held x s) r) none) (same_refl (s ++ bytes "$"))
  local_back (room x) n l o r k =
      type_back x n l (both (leb (levels x) max_levels) (parts_ok x) o).1 (quoted "> return$ ;" r) refl _

  locals_back : (xs : List Local) (n : ℕ) → list_size local_size xs ≤ n → every local_ok xs ≡ true → (r : List Token) →
      is_local r ≡ false → (k : List Local → List Token → Option A) →
      many_p n is_local local_p (each_tokens local_tokens xs r) k ≡ k xs r
  locals_back = many_back local_tokens local_size local_ok local_p is_local local_goes local_back

-- the call, the error test and the return

abbrev pub form_size : CallForm → ℕ
form_size bare = 0
form_size error = 0
form_size returned = 0
form_size dereferenced = 0
form_size (in_from_raw x) = type_size x
form_size (in_unique_ptr x) = type_size x
form_size (in_new_unchecked x) = type_size x
form_size (in_slice x) = type_size x

no_local : (form : CallForm) (s : Name) (r : List Token) → is_local (form_tokens form (word s ∷ r)) ≡ false
unfolding same
no_local bare s r = refl
no_local error s r = refl
no_local returned s r = refl
no_local dereferenced s r = refl
no_local (in_from_raw x) s r = refl
no_local (in_unique_ptr x) s r = refl
no_local (in_new_unchecked x) s r = refl
no_local (in_slice x) s r = refl

abbrev pub call_size : Call → ℕ
call_size c = form_size c.form + list_size (λ x. 0) c.operands

module _ {A : Type 0} where
  form_back : (form : CallForm) (n : ℕ) → form_size form ≤ n → form_ok form ≡ true → (s : Name) →
      same s (bytes "return") ≡ false → (r : List Token) (k : CallForm → List Token → Option A) →
      form_p n (form_tokens form (word s ∷ r)) k ≡ k form (word s ∷ r)
  unfolding same form_p form_ok parts_ok base_ok
  form_back bare n l o s q r k = rw (q, fork)
  form_back error n l o s q r k = refl
  form_back returned n l o s q r k = refl
  form_back dereferenced n l o s q r k = refl
  form_back (in_from_raw x) n l o s q r k =
      type_back x n l (both (leb (levels (suffixed (template box x) [])) max_levels) (parts_ok x) o).1
      (quoted "> :: from_raw (" (word s ∷ r)) refl _
  form_back (in_unique_ptr x) n l o s q r k =
      type_back x n l (both (leb (levels (suffixed (template unique_ptr x) [])) max_levels) (parts_ok x) o).1
      (quoted "> (" (word s ∷ r)) refl _
  form_back (in_new_unchecked x) n l o s q r k =
      type_back x n l (both (leb (levels x) max_levels) (parts_ok x) o).1 (quoted "> :: new_unchecked (" (word s ∷ r)) refl _
  form_back (in_slice x) n l o s q r k =
      type_back x n l (both (leb (levels x) max_levels) (parts_ok x) o).1 (quoted "> :: slice (" (word s ∷ r)) refl _

  close_back : (form : CallForm) (r : List Token) (k : List Token → Option A) → close_p form (close_tokens form r) k ≡ k r
  unfolding same close_p
  close_back bare r k = refl
  close_back error r k = refl
  close_back returned r k = refl
  close_back dereferenced r k = refl
  close_back (in_from_raw x) r k = refl
  close_back (in_unique_ptr x) r k = refl
  close_back (in_new_unchecked x) r k = refl
  close_back (in_slice x) r k = refl

  call_back : (c : Call) (n : ℕ) → call_size c ≤ n → call_ok c ≡ true → (r : List Token)
      (k : Call → List Token → Option A) → call_p n (call_tokens c r) k ≡ k c r
  unfolding same call_p call_ok
  call_back c n l o r k =
      let a = both (form_ok c.form)
      (is_symbol c.symbol && (every operand_ok c.operands && few_arguments is_receiver is_slot_address c.operands)) o in
      let b = both (is_symbol c.symbol)
      (every operand_ok c.operands && few_arguments is_receiver is_slot_address c.operands) a.1 in
      let d = both (every operand_ok c.operands) (few_arguments is_receiver is_slot_address c.operands) b.1 in
      form_back c.form n (omega arith) a.0 c.symbol (symbol_no_return c.symbol b.0) _ _
      ∙ operands_back c.operands n (omega arith) d.0 _ _
      ∙ close_back c.form _ _

  error_test_back : (b : Bool) (f : Ending) (r : List Token) (k : Bool → List Token → Option A) →
      error_test_p (error_test_tokens b (ending_tokens f (quoted "}" r))) k ≡ k b (ending_tokens f (quoted "}" r))
  unfolding same error_test_p
  error_test_back true f r k = refl
  error_test_back false no_return r k = refl
  error_test_back false return_slot r k = refl
  error_test_back false move_slot r k = refl

  ending_back : (f : Ending) (r : List Token) (k : Ending → List Token → Option A) →
      ending_p (ending_tokens f (quoted "}" r)) k ≡ k f (quoted "}" r)
  unfolding same ending_p
  ending_back no_return r k = refl
  ending_back return_slot r k = refl
  ending_back move_slot r k = refl

-- items

abbrev pub item_size : Item → ℕ
item_size (declares d) = suc (result_size d.result + list_size parameter_size d.parameters)
item_size (defines d) = 1
item_size (shim s) =
    list_size (λ x. 0) s.comments + (result_size s.result + (list_size parameter_size s.parameters
    + (list_size local_size s.locals + call_size s.call)))

no_comment : (t : Result) → result_readable t ≡ true → (r : List Token) → is_comment (result_tokens t r) ≡ false
no_comment =
    result_first (λ r. is_comment r ≡ false) (λ r. refl) (λ r. (refl, refl, refl, refl)) (λ r. (refl, refl))

head_ends : (h : Head) (r : List Token) → type_ends (head_tokens h (quoted "(" r)) ≡ true
unfolding same
head_ends (free f) r = refl
head_ends (method t f) r = refl

module _ {A : Type 0} where
  comments_back : (xs : List (List ℕ)) (n : ℕ) → list_size (λ x. 0) xs ≤ n → (r : List Token) → is_comment r ≡ false →
      (k : List (List ℕ) → List Token → Option A) →
      many_p n is_comment (λ n. comment_p) (each_tokens comment_tokens xs r) k ≡ k xs r
  unfolding every
  comments_back xs n l r h k =
      many_back comment_tokens (λ x. 0) (λ x. true) (λ n. comment_p) is_comment (λ x o r. refl) (λ x n l o r k. refl) xs n l
      (all_true xs) r h k
    where
      all_true : (xs : List (List ℕ)) → every (λ x. true) xs ≡ true
      all_true [] = refl
      all_true (x ∷ xs) = all_true xs

  head_back : (cs : List (List ℕ)) (t : Result) (h : Head) (n : ℕ) (r : List Token) (k : Item → List Token → Option A) →
      word_p (head_tokens h (quoted "(" r)) (λ a r. path_p r (λ p r. named_p n cs t a p r k))
      ≡ parameters_p n cs t h (quoted "(" r) k
  head_back cs t (free f) n r k = refl
  head_back cs t (method a f) n r k = refl

  -- const and noexcept, each there or not
  flags_back : (c e : Bool) (r : List Token) → begins "const" r ≡ false → begins "noexcept" r ≡ false →
      (k : Bool → Bool → List Token → Option A) →
      flag_p "const" (const_tokens c (optional_tokens e (quoted "noexcept" []) r)) (λ c r. flag_p "noexcept" r (k c)) ≡ k c e r
  unfolding same
  flags_back true true r p q k = refl
  flags_back true false r p q k = rw (q, fork)
  flags_back false true r p q k = refl
  flags_back false false r p q k = rw (p, fork, q, fork)

  -- comments, a head and what follows it
  signature_back : (cs : List (List ℕ)) (t : Result) (h : Head) (ps : List Parameter) (c e : Bool) (n : ℕ) →
      list_size (λ x. 0) cs ≤ n → result_size t ≤ n → list_size parameter_size ps ≤ n →
      result_readable t ≡ true → every parameter_readable ps ≡ true →
      (r : List Token) → begins "const" r ≡ false → begins "noexcept" r ≡ false → (k : Item → List Token → Option A) →
      item_p n (each_tokens comment_tokens cs (signature_tokens t h ps c e r)) k ≡ tail_p n cs t h ps c e r k
  unfolding same item_p parameters_p
  signature_back cs t h ps c e n l₁ l₂ l₃ o q r f g k =
      comments_back cs n l₁ _ (no_comment t o _) _
      ∙ result_back t n l₂ o _ (head_ends h _) _
      ∙ head_back cs t h n _ k
      ∙ parameters_back ps n l₃ q _ _
      ∙ flags_back c e r f g (λ c e r. tail_p n cs t h ps c e r k)

  declaration_back : (d : Declaration) (n depth : ℕ) → item_size (declares d) ≤ n → declaration_ok depth d ≡ true →
      (r : List Token) (k : Item → List Token → Option A) → item_p n (declaration_tokens d r) k ≡ k (declares d) r
  unfolding same tail_p declaration_ok
  declaration_back d n depth l o r k =
      let a = both (is_symbol d.symbol) (result_ok (is_root_main depth (free d.symbol)) d.result &&
      (every declared_ok d.parameters && few_arguments is_self is_slot d.parameters)) o in
      let b = both (result_ok (is_root_main depth (free d.symbol)) d.result)
      (every declared_ok d.parameters && few_arguments is_self is_slot d.parameters) a.1 in
      let c = both (every declared_ok d.parameters) (few_arguments is_self is_slot d.parameters) b.1 in
      signature_back [] d.result (free d.symbol) d.parameters false d.noexcept n (omega arith) (omega arith)
      (omega arith) (result_readable_lem (is_root_main depth (free d.symbol)) d.result b.0)
      (every_weaken declared_ok parameter_readable declared_readable d.parameters c.0) (quoted ";" r) refl refl k

  shim_back : (s : Shim) (n depth : ℕ) → item_size (shim s) ≤ n → shim_ok depth s ≡ true → (r : List Token)
      (k : Item → List Token → Option A) → item_p n (shim_tokens s r) k ≡ k (shim s) r
  unfolding same tail_p shim_ok
  shim_back s n depth l o r k =
      let rest₁ : Bool = every local_ok s.locals && call_ok s.call in
      let rest₂ : Bool = leb (length s.parameters) max_arguments && rest₁ in
      let rest₃ : Bool = every argument_ok s.parameters && rest₂ in
      let rest₄ : Bool = head_ok s.head && rest₃ in
      let a = both (comments_ok s.comments) (result_ok (is_root_main depth s.head) s.result && rest₄) o in
      let b = both (result_ok (is_root_main depth s.head) s.result) rest₄ a.1 in
      let c = both (head_ok s.head) rest₃ b.1 in
      let d = both (every argument_ok s.parameters) rest₂ c.1 in
      let e = both (leb (length s.parameters) max_arguments) rest₁ d.1 in
      let f = both (every local_ok s.locals) (call_ok s.call) e.1 in
      signature_back s.comments s.result s.head s.parameters s.is_const s.noexcept n (omega arith)
      (omega arith) (omega arith) (result_readable_lem (is_root_main depth s.head) s.result b.0)
      (every_weaken argument_ok parameter_readable argument_readable s.parameters d.0) _ refl refl k
      ∙ locals_back s.locals n (omega arith) f.0 _ (no_local s.call.form s.call.symbol _) _
      ∙ call_back s.call n (omega arith) f.1 _ _
      ∙ error_test_back s.error_test s.ending r _
      ∙ ending_back s.ending r _

  measure_back : (m : Measure) (x y : Name) (n : ℕ) (r : List Token) (k : Item → List Token → Option A) →
      path_p (quoted ":: layout ::" (measure_tokens m (quoted "( ) noexcept { return" (word y ∷ quoted "( ) ; }" r))))
      (λ p r. named_p n [] (value (suffixed (atom usize) [])) x p r k)
      ≡ k (defines (record { owner = x; measure = m; symbol = y })) r
  unfolding same
  measure_back size x y n r k = refl
  measure_back align x y n r k = refl

  layout_back : (d : LayoutDefinition) (n : ℕ) → 1 ≤ n → (r : List Token) (k : Item → List Token → Option A) →
      item_p n (layout_tokens d r) k ≡ k (defines d) r
  unfolding same item_p parts_ok base_ok
  layout_back d n l r k =
      comments_back [] n l _ refl _
      ∙ result_back (value (suffixed (atom usize) [])) n l refl _ refl _
      ∙ measure_back d.measure d.owner d.symbol n r k

  pub item_back : (i : Item) (n depth : ℕ) (in_extern_c : Bool) → item_size i ≤ n → item_ok depth in_extern_c i ≡ true →
      (r : List Token) (k : Item → List Token → Option A) → item_p n (item_tokens i r) k ≡ k i r
  unfolding item_ok
  item_back (declares d) n depth c l o r k = declaration_back d n depth l (both c (declaration_ok depth d) o).1 r k
  item_back (defines d) n depth c l o r k = layout_back d n l r k
  item_back (shim s) n depth c l o r k = shim_back s n depth l (both (not c) (shim_ok depth s) o).1 r k

-- what holds of tokens that begin with ::, a comment or a word of a return type holds of each item's tokens
module _ (P : List Token → Type 0) (path : (r : List Token) → P (scope ∷ r))
    (words : (r : List Token) → P (quoted "bool" r) × P (quoted "char" r) × P (quoted "float" r) × P (quoted "double" r))
    (plain : (r : List Token) → P (quoted "void" r) × P (quoted "int" r))
    (remark : (s : List ℕ) (r : List Token) → P (comment s ∷ r)) where
  head_first : (cs : List (List ℕ)) (t : Result) → result_readable t ≡ true → (r : List Token) →
      P (each_tokens comment_tokens cs (result_tokens t r))
  head_first [] t o r = result_first P path words plain t o r
  head_first (s ∷ cs) t o r = remark s _

  pub item_first : (i : Item) (depth : ℕ) (in_extern_c : Bool) → item_ok depth in_extern_c i ≡ true → (r : List Token) →
      P (item_tokens i r)
  unfolding item_ok declaration_ok shim_ok
  item_first (declares d) depth c o r =
      let a = both (is_symbol d.symbol) _ (both c (declaration_ok depth d) o).1 in
      let b = both (result_ok (is_root_main depth (free d.symbol)) d.result) _ a.1 in
      head_first [] d.result (result_readable_lem (is_root_main depth (free d.symbol)) d.result b.0) _
  item_first (defines d) depth c o r = path _
  item_first (shim s) depth c o r =
      let a = both (comments_ok s.comments) _ (both (not c) (shim_ok depth s) o).1 in
      let b = both (result_ok (is_root_main depth s.head) s.result) _ a.1 in
      head_first s.comments s.result (result_readable_lem (is_root_main depth s.head) s.result b.0) _
