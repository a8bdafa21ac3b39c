-- Laws of `Wrote`, for whoever writes.
use mathlib.Core.Path.{◌≡◌, refl, sym, ap, ◌∙◌}
use mathlib.Core.List.{List, [], ◌∷◌, ◌++◌}
use mathlib.Core.Bool.{Bool, true, false}
use Prim.Native.Nat.{ℕ, ◌+◌, ◌≤◌, min}
use native.Mathlib.Omega.{arith}
use lib.ListN.{length, length-append, length-set, length-replicate}
use borrow.Author.Tests.{leb-true, le-leb}
use Rattle.lexical.specs.Decimal.{pick_text}
use Rattle.sink.specs.Sink.{Sink, limit, step, emit, has_room, seen, Wrote}

emit_append : (s : Sink) (a b : List ℕ) → emit (emit s a) b ≡ emit s (a ++ b)
unfolding emit
emit_append s [] b = refl
emit_append s (x ∷ a) b = emit_append (step s x) a b

length_emit : (t : List ℕ) (s : Sink) → length (emit s t).buf ≡ length s.buf
unfolding emit
length_emit [] s = refl
length_emit (b ∷ t) s = length_emit t (step s b) ∙ length-set s.buf s.at b

pub place_emit : (t : List ℕ) (s : Sink) → s.at ≤ limit → (emit s t).at ≡ min limit (s.at + length t)
unfolding emit
place_emit [] s h = omega arith
place_emit (b ∷ t) s h = place_emit t (step s b) (omega arith) ∙ omega arith

-- the place moves by no more than the text's length
emit_near : (t : List ℕ) (s : Sink) → (emit s t).at ≤ s.at + length t
unfolding emit
emit_near [] s = omega arith
emit_near (b ∷ t) s = omega (arith, emit_near t (step s b))

emit_at : (t : List ℕ) (x y : Sink) → x.at ≡ y.at → (emit x t).at ≡ (emit y t).at
unfolding emit
emit_at [] x y e = e
emit_at (b ∷ t) x y e = emit_at t (step x b) (step y b) (rw e)

-- ---- what `Wrote` says, and what says it

seen_length : (b : Bool) (s : Sink) → length (seen b s).buf ≡ length s.buf
seen_length true s = refl
seen_length false s = length-replicate (length s.buf) 0

seen_place : (b : Bool) (s : Sink) → (seen b s).at ≡ s.at
seen_place true s = refl
seen_place false s = refl

module _ {r s : Sink} {a : List ℕ} (p : Wrote r a s) where
  wrote_at : s.at ≡ (emit r a).at
  wrote_at = sym (seen_place (has_room r a) s) ∙ ap (λ (x : Sink). x.at) p.is ∙ seen_place (has_room r a) (emit r a)

  -- the buffer keeps its length
  pub wrote_length : length s.buf ≡ length r.buf
  wrote_length =
      sym (seen_length (has_room r a) s) ∙ ap (λ (x : Sink). length x.buf) p.is
      ∙ seen_length (has_room r a) (emit r a) ∙ length_emit a r

  -- the place behind a text
  pub wrote_place : r.at ≤ limit → s.at ≡ min limit (r.at + length a)
  wrote_place h = wrote_at ∙ place_emit a r h

  -- a text that had room
  pub wrote_whole : r.at + length a ≤ length r.buf → s ≡ emit r a
  wrote_whole h = let e : has_room r a ≡ true = le-leb (r.at + length a) (length r.buf) h in rw e at p.is

pub wrote_by : {r s : Sink} {a : List ℕ} → s.at ≡ (emit r a).at → length s.buf ≡ length r.buf →
    (r.at + length a ≤ length r.buf → s ≡ emit r a) → Wrote r a s
wrote_by {r} {s} {a} p l w = record { is = by_room (has_room r a) refl }
  where
    by_room : (b : Bool) → has_room r a ≡ b → seen b s ≡ seen b (emit r a)
    by_room true e = w (leb-true (r.at + length a) (length r.buf) e)
    by_room false e = rw (p, l, length_emit a r)

-- ---- one text after the other

infixl 20 ◌▷◌
pub ◌▷◌ : {r s t : Sink} {a b : List ℕ} → Wrote r a s → Wrote s b t → Wrote r (a ++ b) t
◌▷◌ {r} {s} {t} {a} {b} p q =
    wrote_by both (wrote_length q ∙ wrote_length p) (λ h.
    let k : length (a ++ b) ≡ length a + length b = length-append a b in
    let e : s ≡ emit r a = wrote_whole p (omega arith) in
    let f : t ≡ emit s b = wrote_whole q (omega (arith, wrote_at p, emit_near a r, wrote_length p)) in
    f ∙ ap (λ (x : Sink). emit x b) e ∙ emit_append r a b)
  where
    both : t.at ≡ (emit r (a ++ b)).at
    both = wrote_at q ∙ emit_at b s (emit r a) (wrote_at p) ∙ ap (λ (x : Sink). x.at) (emit_append r a b)

pub wrote_nil : (s : Sink) → Wrote s [] s
unfolding emit
wrote_nil s = record { is = refl }

-- the text in another form
pub wrote_as : {r s : Sink} {a b : List ℕ} → Wrote r a s → a ≡ b → Wrote r b s
wrote_as p e = rw e at p

-- one of two texts
pub first_text : {b : Bool} {x : List ℕ} (y : List ℕ) {r s : Sink} → b ≡ true → Wrote r x s → Wrote r (pick_text b x y) s
first_text y e p = rw e p

pub second_text : {b : Bool} (x : List ℕ) {y : List ℕ} {r s : Sink} → b ≡ false → Wrote r y s → Wrote r (pick_text b x y) s
second_text x e p = rw e p
