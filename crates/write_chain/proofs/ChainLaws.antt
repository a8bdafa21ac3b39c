-- Types spelled by a loop: the stack of codes, and the loops inwards and outwards.
use Rattle.std.proofs.Common.{◌≡◌, ℕ, zero, suc, ◌+◌, ◌-◌, ◌*◌, ◌/◌, ◌%◌, ◌<◌, ◌≤◌, Bool, true, false, List, [], ◌++◌, length, sym, refl, ap, ◌∙◌, append_assoc, append-nil, arith}
use Rattle.lexical.specs.Bytes.{bytes}
use Rattle.lexical.specs.Decimal.{pick_text}
use Rattle.sink.specs.Sink.{Sink, emit, Wrote}
use Rattle.sink.proofs.SinkLaws.{◌▷◌, wrote_as, wrote_nil, wrote_length}
use Rattle.format.specs.Bits.{bits_at}
use Rattle.format.specs.Sheet.{Item}
use Rattle.format.specs.Decoding.{kind_of, type_at}
use Rattle.bridge.specs.WriteType.{write_type_space}
use Rattle.view.specs.Values.{Yields}
use Rattle.view.specs.Views.{prefix_of}
use Rattle.write_atom.specs.Texts.{is_spaced, space_of_kind}
use Rattle.write_type.specs.TypeAt.{ty_at}
use Rattle.write_chain.specs.Chains.{begin_of, end_of, ends_by, ends_of, write_type_as, Remains, Entering}
use Rattle.write_chain.proofs.InnerLaws.{Reads, space_at, inner_at}

-- ---- the stack

ends_none : (more : ℕ) {stack : ℕ} → stack ≡ 0 → [] ≡ ends_by more stack
unfolding ends_by end_of
ends_none zero e = refl
ends_none (suc more) e = rw e (ends_none more refl)

ends_same : (m n stack : ℕ) → stack ≤ m → stack ≤ n → ends_by m stack ≡ ends_by n stack
unfolding ends_by
ends_same zero n stack h i = ends_none n (omega arith)
ends_same (suc m) zero stack h i = sym (ends_none (suc m) (omega arith))
ends_same (suc m) (suc n) stack h i =
    ap (λ (l : List ℕ). end_of (stack % 16) ++ l) (ends_same m n (stack / 16) (omega arith) (omega arith))

pub ends_next : (stack : ℕ) → 0 < stack → ends_of stack ≡ end_of (stack % 16) ++ ends_of (stack / 16)
unfolding ends_of ends_by
ends_next zero h = absurd (omega arith)
ends_next (suc n) h =
    ap (λ (l : List ℕ). end_of (suc n % 16) ++ l) (ends_same n (suc n / 16) (suc n / 16) (omega arith) (omega arith))

ends_push : (stack code : ℕ) → 0 < code → code < 16 → ends_of (stack * 16 + code) ≡ end_of code ++ ends_of stack
ends_push stack code h l =
    let c : (stack * 16 + code) % 16 ≡ code = omega arith in
    let r : (stack * 16 + code) / 16 ≡ stack = omega arith in
    ends_next (stack * 16 + code) (omega arith) ∙ rw (c, r) refl

space_code : (b : Bool) → pick_text b (bytes " ") [] ≡ ends_of (length (pick_text b (bytes " ") []) * 14)
unfolding ends_of ends_by end_of
space_code true = refl
space_code false = refl

-- ---- what remains

pub remains_all : (r : Sink) {a b : List ℕ} → a ≡ b → Remains r a r b
remains_all r e = record { done = λ w. wrote_as w (sym e) }

module _ {r s : Sink} {a b : List ℕ} (p : Remains r a s b) where
  pub remains_next : {t : Sink} {x c : List ℕ} → Wrote s x t → b ≡ x ++ c → Remains r a t c
  remains_next w e = record { done = λ v. p.done (wrote_as (w ▷ v) (sym e)) }

  pub remains_none : b ≡ [] → Wrote r a s
  remains_none e = p.done (wrote_as (wrote_nil s) (sym e))

  pub remains_length : length s.buf ≡ length r.buf
  remains_length =
      let w : Wrote s b (emit s b) = record { is = refl } in
      sym (wrote_length w) ∙ wrote_length (p.done w)

-- the loop outwards
pub leaving_next : {r s t : Sink} {a : List ℕ} (stack : ℕ) → Remains r a s (ends_of stack) → 0 < stack →
    Wrote s (end_of (stack % 16)) t → Remains r a t (ends_of (stack / 16))
leaving_next stack p h w = remains_next p w (ends_next stack h)

pub leaving_done : {r s : Sink} {a : List ℕ} (stack : ℕ) → Remains r a s (ends_of stack) → stack ≤ 0 → Wrote r a s
unfolding ends_of
leaving_done stack p h = remains_none p (sym (ends_none stack (omega arith)))

-- ---- the loop inwards

turn_parts : (b w c r : List ℕ) → b ++ w ++ c ++ r ≡ b ++ (w ++ (c ++ r))
turn_parts b w c r = append_assoc (b ++ w) c r ∙ append_assoc b w (c ++ r)

module _ (n : ℕ) (s : List ℕ) (items : List Item) where
  pub entering_whole : (levels at : ℕ) (spaced : Bool) (r : Sink) →
      Yields (type_at n levels s at) (ty_at n levels s at) → {k c : ℕ} → k ≡ bits_at s at 4 →
      c ≡ length (pick_text spaced (space_of_kind (kind_of k)) []) →
      Entering n s items (write_type_as spaced items (ty_at n levels s at)) r r at levels (c * 14)
  unfolding write_type_space
  entering_whole levels at true r y {k} e z = record {
    there = y;
    remains = remains_all r
        (rw (z, space_at n s levels at y.is, ← e, ← space_code (is_spaced (kind_of k))) refl);
  }
  entering_whole levels at false r y e z = record {
    there = y;
    remains = remains_all r (rw (z, ← space_code false, append-nil) refl);
  }

  pub entering_turn : {whole : List ℕ} {before after later : Sink} {at levels stack k a next i c : ℕ} →
      Entering n s items whole before after at levels stack → k ≡ bits_at s at 4 → a ≡ prefix_of (kind_of k) → 0 < a →
      Wrote after (begin_of (kind_of k)) later → Reads s at (kind_of k) next i c →
      Entering n s items whole before later next (levels - 1) (stack * 16 + c)
  entering_turn {at = at} {levels = levels} {stack = stack} {k = k} {c = c} p e z l w o =
      let i = inner_at n s levels at p.there e items (rw (← z) l) in
      record {
        there = rw o.place i.there;
        remains = remains_next p.remains w
            (rw (ends_push stack c o.some o.small, o.text, o.kind, o.place, i.text)
            (turn_parts (begin_of (kind_of k)) _ _ (ends_of stack)));
      }
