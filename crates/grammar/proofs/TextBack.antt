-- The parser gives back each text from its tokens.
use Rattle.std.proofs.Common.{◌≡◌, ℕ, zero, suc, ◌+◌, ◌≤◌, Bool, true, false, ◌&&◌, ltb, List, [], ◌∷◌, sym, refl, ap, ◌∙◌, arith}
use mathlib.Core.Bool.{false≢true}
use mathlib.Core.Option.{Option, none, some}
use Rattle.lexical.specs.Bytes.{same}
use Rattle.lexical.specs.Names.{is_name}
use Rattle.lexical.proofs.BoolLaws.{both}
use Rattle.grammar.specs.Token.{Token, comment, quoted}
use Rattle.grammar.specs.Tree.{Item, Block, namespace, extern_c, Body, body_end, item, block, Line, struct_line}
use Rattle.grammar.specs.Tree.{enum_line, using_line, Forward, forward_end, line, bare_namespace, Text, text}
use Rattle.grammar.specs.Tokens.{item_tokens, block_tokens, Closing, BodyClosings, body_tokens}
use Rattle.grammar.specs.Tokens.{line_tokens, forward_tokens, Closings, text_tokens}
use Rattle.grammar.specs.Rules.{max_namespaces, item_ok, body_ok, forward_ok, text_ok}
use Rattle.grammar.proofs.Lexer.{lex, lexed}
use Rattle.grammar.proofs.SameTokens.{same_tokens, tokens_refl}
use Rattle.grammar.proofs.Parser.{need}
use Rattle.grammar.proofs.Parser.{next_end, next_item, next, closing_p, body_p, at_head, is_forward}
use Rattle.grammar.proofs.Parser.{line_p, forward_p, text_p}
use Rattle.grammar.proofs.TypeBack.{path_back, atom_back}
use Rattle.grammar.proofs.ItemBack.{item_size, item_back, item_first}

-- bodies

abbrev pub body_size : Body → ℕ
body_size body_end = 1
body_size (item i after) = suc (item_size i + body_size after)
body_size (block b inside after) = suc (body_size inside + body_size after)

item_next : (i : Item) (depth : ℕ) (c : Bool) → item_ok depth c i ≡ true → (r : List Token) → next (item_tokens i r) ≡ next_item
unfolding same
item_next =
    item_first (λ r. next r ≡ next_item) (λ r. refl) (λ r. (refl, refl, refl, refl)) (λ r. (refl, refl)) (λ s r. refl)

abbrev pub block_ok : Block → Bool
block_ok (namespace x) = is_name x
block_ok extern_c = true

-- the rules of a block and of its two bodies
pub block_rules : (b : Block) (inside after : Body) (depth : ℕ) (c : Bool) → body_ok depth c (block b inside after) ≡ true →
    (d : ℕ) × (e : Bool) × (body_ok d e inside ≡ true) × (body_ok depth c after ≡ true) × (block_ok b ≡ true)
unfolding body_ok
block_rules (namespace x) inside after depth c o =
    let p = both (is_name x) (ltb depth max_namespaces && (body_ok (suc depth) c inside && body_ok depth c after)) o in
    let q = both (ltb depth max_namespaces) (body_ok (suc depth) c inside && body_ok depth c after) p.1 in
    let s = both (body_ok (suc depth) c inside) (body_ok depth c after) q.1 in
    (suc depth, c, s.0, s.1, p.0)
block_rules extern_c inside after depth c o =
    let s = both (body_ok depth true inside) (body_ok depth c after) o in (depth, true, s.0, s.1, refl)

repeats_head : (b : Block) (c : Closing b) → same_tokens (lex c.characters) (block_tokens b []) ≡ true
repeats_head b c = rw (lexed c.repeats) (tokens_refl (block_tokens b []))

module _ {A : Type 0} where
  -- the parser reads a block's head and goes on inside
  block_back : (b : Block) (n : ℕ) (r : List Token) (k : Body → List Token → Option A) →
      body_p (suc n) (block_tokens b (quoted "{" r)) k
      ≡ body_p n r (λ inside r. need "}" r (λ r. closing_p b r (λ r.
      body_p n r (λ after r. k (block b inside after) r))))
  unfolding same
  block_back (namespace x) n r k = refl
  block_back extern_c n r k = refl

  closing_back : (b : Block) (c : Closing b) (r : List Token) (k : List Token → Option A) →
      closing_p b (comment c.characters ∷ r) k ≡ k r
  unfolding closing_p
  closing_back b c r k = rw (repeats_head b c)

  body_back : (b : Body) (cs : BodyClosings b) (n depth : ℕ) (c : Bool) → body_size b ≤ n → body_ok depth c b ≡ true →
      (r : List Token) → next r ≡ next_end → (k : Body → List Token → Option A) → body_p n (body_tokens b cs r) k ≡ k b r
  unfolding same body_ok
  body_back body_end cs zero depth c l o r h k = absurd (omega arith)
  body_back body_end cs (suc n) depth c l o r h k = rw h
  body_back (item i after) cs zero depth c l o r h k = absurd (omega arith)
  body_back (item i after) cs (suc n) depth c l o r h k =
      let q = both (item_ok depth c i) (body_ok depth c after) o in
      rw (item_next i depth c q.0 (body_tokens after cs r))
      (item_back i n depth c (omega arith) q.0 (body_tokens after cs r) _ ∙
      body_back after cs n depth c (omega arith) q.1 r h _)
  body_back (block b inside after) cs zero depth c l o r h k = absurd (omega arith)
  body_back (block b inside after) cs (suc n) depth c l o r h k =
      let q = block_rules b inside after depth c o in
      let rest : List Token = comment cs.0.characters ∷ body_tokens after cs.2 r in
      block_back b n _ k
      ∙ body_back inside cs.1 n q.0 q.1 (omega arith) q.2 (quoted "}" rest) refl _
      ∙ closing_back b cs.0 (body_tokens after cs.2 r) _
      ∙ body_back after cs.2 n depth c (omega arith) q.3 r h _

-- no body is taken for a forward part
item_not_forward : (i : Item) (depth : ℕ) (c : Bool) → item_ok depth c i ≡ true → (r : List Token) →
    is_forward at_head (item_tokens i r) ≡ false
unfolding same
item_not_forward =
    item_first (λ r. is_forward at_head r ≡ false) (λ r. refl) (λ r. (refl, refl, refl, refl)) (λ r. (refl, refl)) (λ s r. refl)

body_not_forward : (b : Body) (cs : BodyClosings b) (depth : ℕ) (c : Bool) → body_ok depth c b ≡ true → (r : List Token) →
    is_forward at_head r ≡ false → is_forward at_head (body_tokens b cs r) ≡ false
unfolding same body_ok
body_not_forward body_end cs depth c o r h = h
body_not_forward (item i after) cs depth c o r h =
    item_not_forward i depth c (both (item_ok depth c i) (body_ok depth c after) o).0 (body_tokens after cs r)
body_not_forward (block (namespace x) inside after) cs depth c o r h =
    let q = block_rules (namespace x) inside after depth c o in
    body_not_forward inside cs.1 q.0 q.1 q.2
    (quoted "}" (comment cs.0.characters ∷ body_tokens after cs.2 r)) refl
body_not_forward (block extern_c inside after) cs depth c o r h = refl

-- forward parts

-- each namespace has content

abbrev pub has_lines : Forward → Bool
has_lines forward_end = false
has_lines (line l after) = true
has_lines (bare_namespace x inside after) = true

abbrev pub forward_filled : Forward → Bool
forward_filled forward_end = true
forward_filled (line l after) = forward_filled after
forward_filled (bare_namespace x inside after) = has_lines inside && (forward_filled inside && forward_filled after)

abbrev pub forward_size : Forward → ℕ
forward_size forward_end = 1
forward_size (line l after) = suc (forward_size after)
forward_size (bare_namespace x inside after) = suc (forward_size inside + forward_size after)

line_forward : (l : Line) (r : List Token) → is_forward at_head (line_tokens l r) ≡ true
unfolding same
line_forward (struct_line x) r = refl
line_forward (enum_line x a) r = refl
line_forward (using_line x p) r = refl

-- so a line comes next, perhaps behind the heads of namespaces
has_line : (f : Forward) (r : List Token) → has_lines f ≡ true → forward_filled f ≡ true →
    is_forward at_head (forward_tokens f r) ≡ true
unfolding same
has_line forward_end r h o = absurd (false≢true h)
has_line (line l after) r h o = line_forward l (forward_tokens after r)
has_line (bare_namespace x inside after) r h o =
    let p = both (has_lines inside) (forward_filled inside && forward_filled after) o in
    has_line inside (quoted "}" (forward_tokens after r)) p.0 (both (forward_filled inside) (forward_filled after) p.1).0

module _ {A : Type 0} where
  line_back : (l : Line) (r : List Token) (k : Line → List Token → Option A) → line_p (line_tokens l r) k ≡ k l r
  unfolding same line_p
  line_back (struct_line x) r k = refl
  line_back (enum_line x a) r k = atom_back (λ r k. none) (λ r k. none) a (quoted ";" r) _ refl
  line_back (using_line x p) r k = path_back p (quoted ";" r) _ refl

  line_step : (l : Line) (n : ℕ) (r : List Token) (k : Forward → List Token → Option A) →
      forward_p (suc n) (line_tokens l r) k ≡ line_p (line_tokens l r) (λ l r. forward_p n r (λ after r. k (line l after) r))
  unfolding same
  line_step (struct_line x) n r k = refl
  line_step (enum_line x a) n r k = refl
  line_step (using_line x p) n r k = refl

  forward_back : (f : Forward) (n : ℕ) → forward_size f ≤ n → forward_filled f ≡ true → (r : List Token) → is_forward at_head r ≡ false →
      (k : Forward → List Token → Option A) → forward_p n (forward_tokens f r) k ≡ k f r
  unfolding same
  forward_back forward_end zero l o r h k = absurd (omega arith)
  forward_back forward_end (suc n) l o r h k = rw (h, forward_p)
  forward_back (line x after) zero l o r h k = absurd (omega arith)
  forward_back (line x after) (suc n) l o r h k =
      line_step x n (forward_tokens after r) k ∙ line_back x (forward_tokens after r) _ ∙ forward_back after n (omega arith) o r h _
  forward_back (bare_namespace x inside after) zero l o r h k = absurd (omega arith)
  forward_back (bare_namespace x inside after) (suc n) l o r h k =
      let p = both (has_lines inside) (forward_filled inside && forward_filled after) o in
      let q = both (forward_filled inside) (forward_filled after) p.1 in
      rw (has_line inside (quoted "}" (forward_tokens after r)) p.0 q.0, forward_p)
      (forward_back inside n (omega arith) q.0 (quoted "}" (forward_tokens after r)) refl _
      ∙ forward_back after n (omega arith) q.1 r h _)

-- the whole

abbrev pub text_size : Text → ℕ
text_size (text f b) = forward_size f + body_size b

abbrev pub forward_of : Text → Forward
forward_of (text f b) = f

pub text_back : (t : Text) (cs : Closings t) (n : ℕ) → text_size t ≤ n → text_ok t ≡ true →
    forward_filled (forward_of t) ≡ true → text_p n (text_tokens t cs) ≡ some t
unfolding same text_p text_ok
text_back (text f b) cs n l o h =
    let q : body_ok 0 false b ≡ true = (both (forward_ok 0 f) (body_ok 0 false b) o).1 in
    forward_back f n (omega arith) h (body_tokens b cs []) (body_not_forward b cs 0 false q [] refl) _
    ∙ body_back b cs n 0 false (omega arith) q [] refl _

pub told_by_tokens : (t u : Text) (cs : Closings t) (ds : Closings u) → text_ok t ≡ true → text_ok u ≡ true →
    forward_filled (forward_of t) ≡ true → forward_filled (forward_of u) ≡ true → text_tokens t cs ≡ text_tokens u ds → t ≡ u
told_by_tokens t u cs ds o p h i e =
    let n : ℕ = text_size t + text_size u in
    let f = text_back t cs n (omega arith) o h in
    let g = text_back u ds n (omega arith) p i in
    let q : some t ≡ some u = sym f ∙ ap (text_p n) e ∙ g in
    cc
