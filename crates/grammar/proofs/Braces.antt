-- Texts in which no `{` stands directly before `}`: those whose namespaces and extern "C" blocks all have content.
use Rattle.std.proofs.Common.{◌≡◌, ℕ, Bool, true, false, not, ◌&&◌, List, [], ◌∷◌, refl, ◌∙◌}
use mathlib.Core.Bool.{false≢true}
use Rattle.lexical.specs.Bytes.{same}
use Rattle.lexical.proofs.BoolLaws.{both}
use Rattle.grammar.specs.Token.{Token, word, mark, comment, quoted}
use Rattle.grammar.specs.Types.{Name, Atom, bool, char, u8, u16, u32, u64, usize, i8, i16, i32, i64, isize}
use Rattle.grammar.specs.Types.{f32, f64, cxx_string, rust_string, Template, box, vec, unique_ptr, shared_ptr}
use Rattle.grammar.specs.Types.{weak_ptr, vector, Suffix, reference, pointer, CxxType, suffixed, Base, atom, str}
use Rattle.grammar.specs.Types.{full, template, slice, array, void_fn, fn, CxxTypes, nil, cons}
use Rattle.grammar.specs.Tree.{Result, void, ptr_len, fat, int, value, Parameter, named, slot}
use Rattle.grammar.specs.Tree.{Measure, size, align, Head, free, method, Local, held, room}
use Rattle.grammar.specs.Tree.{Operand, receiver, direct, into_raw, release, address, held_address, slot_address}
use Rattle.grammar.specs.Tree.{CallForm, bare, error, returned, dereferenced, in_from_raw, in_unique_ptr}
use Rattle.grammar.specs.Tree.{in_new_unchecked, in_slice, Call, Ending, no_return, return_slot, move_slot, Item}
use Rattle.grammar.specs.Tree.{declares, defines, shim, Block, namespace, extern_c, Body, body_end, item, block}
use Rattle.grammar.specs.Tree.{Line, struct_line, enum_line, using_line, Forward, forward_end, line, bare_namespace}
use Rattle.grammar.specs.Tree.{Text, text}
use Rattle.grammar.specs.Tokens.{each_tokens, comma_tokens, list_tokens, optional_tokens, path_tokens, atom_tokens}
use Rattle.grammar.specs.Tokens.{template_tokens, const_tokens, suffix_tokens, type_tokens, base_tokens, types_tokens}
use Rattle.grammar.specs.Tokens.{more_types_tokens, result_tokens, parameter_tokens, head_tokens, signature_tokens}
use Rattle.grammar.specs.Tokens.{measure_tokens, operand_tokens, local_tokens}
use Rattle.grammar.specs.Tokens.{form_tokens, close_tokens, call_tokens, error_test_tokens, ending_tokens, comment_tokens}
use Rattle.grammar.specs.Tokens.{item_tokens, block_tokens, BodyClosings, body_tokens, line_tokens}
use Rattle.grammar.specs.Tokens.{forward_tokens, Closings, text_tokens}
use Rattle.grammar.specs.Rules.{item_ok, body_ok, forward_ok, text_ok}
use Rattle.grammar.proofs.SameTokens.{same_token}
use Rattle.grammar.proofs.Parser.{begins}
use Rattle.grammar.proofs.ItemBack.{item_first}
use Rattle.grammar.proofs.TextBack.{block_rules, has_lines, forward_filled}

-- no { has } right behind it
abbrev pub no_empty_braces : List Token → Bool
no_empty_braces [] = true
no_empty_braces (t ∷ r) = not (same_token t (mark 123) && begins "}" r) && no_empty_braces r

-- x has no empty braces, and ends in no {
abbrev pub Braceless : {X : Type 0} → (X → List Token → List Token) → X → Type 0
Braceless tokens x = (r : List Token) → no_empty_braces (tokens x r) ≡ no_empty_braces r

module _ {X : Type 0} (tokens : X → List Token → List Token) (step : (x : X) → Braceless tokens x) where
  each_braceless : (xs : List X) → Braceless (each_tokens tokens) xs
  each_braceless [] r = refl
  each_braceless (x ∷ xs) r = step x (each_tokens tokens xs r) ∙ each_braceless xs r

  comma_braceless : (xs : List X) → Braceless (comma_tokens tokens) xs
  unfolding same
  comma_braceless [] r = refl
  comma_braceless (x ∷ xs) r = step x (comma_tokens tokens xs r) ∙ comma_braceless xs r

  list_braceless : (xs : List X) → Braceless (list_tokens tokens) xs
  list_braceless [] r = refl
  list_braceless (x ∷ xs) r = step x (comma_tokens tokens xs r) ∙ comma_braceless xs r

-- types

pub path_braceless : (p : List Name) → Braceless path_tokens p
unfolding same
path_braceless [] r = refl
path_braceless (s ∷ p) r = path_braceless p r

pub atom_braceless : (a : Atom) → Braceless atom_tokens a
unfolding same
atom_braceless bool r = refl
atom_braceless char r = refl
atom_braceless u8 r = refl
atom_braceless u16 r = refl
atom_braceless u32 r = refl
atom_braceless u64 r = refl
atom_braceless usize r = refl
atom_braceless i8 r = refl
atom_braceless i16 r = refl
atom_braceless i32 r = refl
atom_braceless i64 r = refl
atom_braceless isize r = refl
atom_braceless f32 r = refl
atom_braceless f64 r = refl
atom_braceless cxx_string r = refl
atom_braceless rust_string r = refl

template_braceless : (t : Template) → Braceless template_tokens t
unfolding same
template_braceless box r = refl
template_braceless vec r = refl
template_braceless unique_ptr r = refl
template_braceless shared_ptr r = refl
template_braceless weak_ptr r = refl
template_braceless vector r = refl

const_braceless : (c : Bool) → Braceless const_tokens c
unfolding same
const_braceless true r = refl
const_braceless false r = refl

suffix_braceless : (s : Suffix) → Braceless suffix_tokens s
unfolding same
suffix_braceless (reference c) r = const_braceless c (quoted "&" r)
suffix_braceless (pointer c) r = const_braceless c (quoted "*" r)

mutual
  unfolding same

  type_braceless : (x : CxxType) → Braceless type_tokens x
  type_braceless (suffixed b ss) r = base_braceless b (each_tokens suffix_tokens ss r) ∙ each_braceless suffix_tokens suffix_braceless ss r

  base_braceless : (b : Base) → Braceless base_tokens b
  base_braceless (atom a) r = atom_braceless a r
  base_braceless str r = refl
  base_braceless (full p) r = path_braceless p r
  base_braceless (template t x) r = template_braceless t (type_tokens x (quoted ">" r)) ∙ type_braceless x (quoted ">" r)
  base_braceless (slice x c) r = type_braceless x (const_tokens c (quoted ">" r)) ∙ const_braceless c (quoted ">" r)
  base_braceless (array x n) r = type_braceless x _
  base_braceless (void_fn xs) r = types_braceless xs (quoted ") >" r)
  base_braceless (fn x xs) r = type_braceless x (quoted "(" (types_tokens xs (quoted ") >" r))) ∙ types_braceless xs (quoted ") >" r)

  types_braceless : (xs : CxxTypes) → Braceless types_tokens xs
  types_braceless nil r = refl
  types_braceless (cons x xs) r = type_braceless x (more_types_tokens xs r) ∙ more_types_braceless xs r

  more_types_braceless : (xs : CxxTypes) → Braceless more_types_tokens xs
  more_types_braceless nil r = refl
  more_types_braceless (cons x xs) r = type_braceless x (more_types_tokens xs r) ∙ more_types_braceless xs r

-- heads

result_braceless : (t : Result) → Braceless result_tokens t
unfolding same
result_braceless void r = refl
result_braceless ptr_len r = refl
result_braceless fat r = refl
result_braceless int r = refl
result_braceless (value x) r = type_braceless x r

parameter_braceless : (x : Parameter) → Braceless parameter_tokens x
unfolding same
parameter_braceless (named x s) r = type_braceless x (word s ∷ r)
parameter_braceless (slot x) r = type_braceless x (quoted "return$" r)

head_braceless : (h : Head) → Braceless head_tokens h
unfolding same
head_braceless (free f) r = refl
head_braceless (method t f) r = refl

noexcept_braceless : (e : Bool) (r : List Token) → no_empty_braces (optional_tokens e (quoted "noexcept" []) r) ≡ no_empty_braces r
unfolding same
noexcept_braceless true r = refl
noexcept_braceless false r = refl

signature_braceless : (t : Result) (h : Head) (ps : List Parameter) (c e : Bool) (r : List Token) →
    no_empty_braces (signature_tokens t h ps c e r) ≡ no_empty_braces r
unfolding same
signature_braceless t h ps c e r =
    result_braceless t _ ∙ head_braceless h _ ∙ list_braceless parameter_tokens parameter_braceless ps _
    ∙ const_braceless c _ ∙ noexcept_braceless e r

-- shims

operand_braceless : (x : Operand) → Braceless operand_tokens x
unfolding same
operand_braceless receiver r = refl
operand_braceless (direct x) r = refl
operand_braceless (into_raw x) r = refl
operand_braceless (release x) r = refl
operand_braceless (address x) r = refl
operand_braceless (held_address x) r = refl
operand_braceless slot_address r = refl

local_braceless : (x : Local) → Braceless local_tokens x
unfolding same
local_braceless (held x s) r = type_braceless x _
local_braceless (room x) r = type_braceless x _

form_braceless : (form : CallForm) → Braceless form_tokens form
unfolding same
form_braceless bare r = refl
form_braceless error r = refl
form_braceless returned r = refl
form_braceless dereferenced r = refl
form_braceless (in_from_raw x) r = type_braceless x _
form_braceless (in_unique_ptr x) r = type_braceless x _
form_braceless (in_new_unchecked x) r = type_braceless x _
form_braceless (in_slice x) r = type_braceless x _

close_braceless : (form : CallForm) → Braceless close_tokens form
unfolding same
close_braceless bare r = refl
close_braceless error r = refl
close_braceless returned r = refl
close_braceless dereferenced r = refl
close_braceless (in_from_raw x) r = refl
close_braceless (in_unique_ptr x) r = refl
close_braceless (in_new_unchecked x) r = refl
close_braceless (in_slice x) r = refl

call_braceless : (c : Call) → Braceless call_tokens c
unfolding same
call_braceless c r =
    form_braceless c.form _ ∙ list_braceless operand_tokens operand_braceless c.operands _ ∙ close_braceless c.form _

error_test_braceless : (b : Bool) → Braceless error_test_tokens b
unfolding same
error_test_braceless true r = refl
error_test_braceless false r = refl

ending_braceless : (f : Ending) → Braceless ending_tokens f
unfolding same
ending_braceless no_return r = refl
ending_braceless return_slot r = refl
ending_braceless move_slot r = refl

comment_braceless : (s : List ℕ) → Braceless comment_tokens s
unfolding same
comment_braceless s r = refl

-- a shim's body does not begin with }
form_content : (form : CallForm) (s : Name) (r : List Token) → begins "}" (form_tokens form (word s ∷ r)) ≡ false
unfolding same
form_content bare s r = refl
form_content error s r = refl
form_content returned s r = refl
form_content dereferenced s r = refl
form_content (in_from_raw x) s r = refl
form_content (in_unique_ptr x) s r = refl
form_content (in_new_unchecked x) s r = refl
form_content (in_slice x) s r = refl

shim_content : (ls : List Local) (c : Call) (r : List Token) → begins "}" (each_tokens local_tokens ls (call_tokens c r)) ≡ false
unfolding same
shim_content [] c r = form_content c.form c.symbol _
shim_content (held x s ∷ ls) c r = refl
shim_content (room x ∷ ls) c r = refl

item_braceless : (i : Item) → Braceless item_tokens i
unfolding same
item_braceless (declares d) r = signature_braceless d.result (free d.symbol) d.parameters false d.noexcept (quoted ";" r)
item_braceless (defines d) r = measured d.measure _
  where
    measured : (m : Measure) → Braceless measure_tokens m
    measured size r = refl
    measured align r = refl
item_braceless (shim s) r =
    each_braceless comment_tokens comment_braceless s.comments _
    ∙ signature_braceless s.result s.head s.parameters s.is_const s.noexcept _
    ∙ rw (shim_content s.locals s.call (error_test_tokens s.error_test (ending_tokens s.ending (quoted "}" r))))
    (each_braceless local_tokens local_braceless s.locals _ ∙ call_braceless s.call _
    ∙ error_test_braceless s.error_test _ ∙ ending_braceless s.ending _)

pub line_braceless : (l : Line) → Braceless line_tokens l
unfolding same
line_braceless (struct_line x) r = refl
line_braceless (enum_line x a) r = atom_braceless a (quoted ";" r)
line_braceless (using_line x p) r = path_braceless p (quoted ";" r)

-- blocks with content

abbrev pub has_content : Body → Bool
has_content body_end = false
has_content (item i next) = true
has_content (block b inside next) = true

abbrev pub body_filled : Body → Bool
body_filled body_end = true
body_filled (item i next) = body_filled next
body_filled (block b inside next) = has_content inside && (body_filled inside && body_filled next)

abbrev pub text_filled : Text → Bool
text_filled (text forward body) = forward_filled forward && body_filled body

item_content : (i : Item) (depth : ℕ) (c : Bool) → item_ok depth c i ≡ true → (r : List Token) → begins "}" (item_tokens i r) ≡ false
unfolding same
item_content =
    item_first (λ r. begins "}" r ≡ false) (λ r. refl) (λ r. (refl, refl, refl, refl)) (λ r. (refl, refl)) (λ s r. refl)

body_content : (b : Body) (cs : BodyClosings b) (depth : ℕ) (c : Bool) → body_ok depth c b ≡ true → has_content b ≡ true →
    (r : List Token) → begins "}" (body_tokens b cs r) ≡ false
unfolding same body_ok
body_content body_end cs depth c o h r = absurd (false≢true h)
body_content (item i next) cs depth c o h r = item_content i depth c (both (item_ok depth c i) (body_ok depth c next) o).0 _
body_content (block (namespace x) inside next) cs depth c o h r = refl
body_content (block extern_c inside next) cs depth c o h r = refl

forward_content : (f : Forward) → has_lines f ≡ true → (r : List Token) → begins "}" (forward_tokens f r) ≡ false
unfolding same
forward_content forward_end h r = absurd (false≢true h)
forward_content (line (struct_line x) next) h r = refl
forward_content (line (enum_line x a) next) h r = refl
forward_content (line (using_line x p) next) h r = refl
forward_content (bare_namespace x inside next) h r = refl

block_braces : (b : Block) (r : List Token) → begins "}" r ≡ false → no_empty_braces (block_tokens b (quoted "{" r)) ≡ no_empty_braces r
unfolding same
block_braces (namespace x) r e = rw e
block_braces extern_c r e = rw e

body_braces : (b : Body) (cs : BodyClosings b) (depth : ℕ) (c : Bool) → body_ok depth c b ≡ true → body_filled b ≡ true →
    (r : List Token) → no_empty_braces r ≡ true → no_empty_braces (body_tokens b cs r) ≡ true
unfolding same body_ok
body_braces body_end cs depth c o f r h = h
body_braces (item i next) cs depth c o f r h =
    item_braceless i (body_tokens next cs r) ∙
    body_braces next cs depth c (both (item_ok depth c i) (body_ok depth c next) o).1 f r h
body_braces (block b inside next) cs depth c o f r h =
    let q = block_rules b inside next depth c o in
    let p = both (has_content inside) (body_filled inside && body_filled next) f in
    let s = both (body_filled inside) (body_filled next) p.1 in
    let rest : List Token = quoted "}" (comment cs.0.characters ∷ body_tokens next cs.2 r) in
    block_braces b (body_tokens inside cs.1 rest) (body_content inside cs.1 q.0 q.1 q.2 p.0 rest)
    ∙ body_braces inside cs.1 q.0 q.1 q.2 s.0 rest (body_braces next cs.2 depth c q.3 s.1 r h)

forward_braces : (f : Forward) → forward_filled f ≡ true → (r : List Token) → no_empty_braces r ≡ true →
    no_empty_braces (forward_tokens f r) ≡ true
unfolding same
forward_braces forward_end f r h = h
forward_braces (line l next) f r h = line_braceless l (forward_tokens next r) ∙ forward_braces next f r h
forward_braces (bare_namespace x inside next) f r h =
    let p = both (has_lines inside) (forward_filled inside && forward_filled next) f in
    let s = both (forward_filled inside) (forward_filled next) p.1 in
    let rest : List Token = quoted "}" (forward_tokens next r) in
    rw (forward_content inside p.0 rest) (forward_braces inside s.0 rest (forward_braces next s.1 r h))

pub filled_braces : (t : Text) (cs : Closings t) → text_ok t ≡ true → text_filled t ≡ true →
    no_empty_braces (text_tokens t cs) ≡ true
unfolding text_ok
filled_braces (text f b) cs o h =
    let p = both (forward_filled f) (body_filled b) h in
    forward_braces f p.0 (body_tokens b cs [])
    (body_braces b cs 0 false (both (forward_ok 0 f) (body_ok 0 false b) o).1 p.1 [] refl)
