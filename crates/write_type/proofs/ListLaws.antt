-- Laws of the argument types of a function: the loop that writes them.
use Rattle.std.proofs.Common.{◌≡◌, ℕ, suc, ◌+◌, ◌-◌, ◌<◌, ◌≤◌, false, ltb, List, [], ◌++◌, sym, refl, ap, ◌∙◌, append_assoc, append-nil, arith, lt-ltb}
use Rattle.lexical.specs.Bytes.{bytes}
use Rattle.lexical.specs.Decimal.{pick_text}
use Rattle.sink.specs.Sink.{Sink, Wrote}
use Rattle.sink.proofs.SinkLaws.{◌▷◌, wrote_nil, wrote_as}
use Rattle.format.specs.Decode.{Got, got, Dec, many}
use Rattle.format.specs.Types.{Ty, str, tys}
use Rattle.format.specs.Sheet.{Item}
use Rattle.format.specs.Decoding.{type_at}
use Rattle.bridge.specs.WriteType.{write_type, write_types}
use Rattle.view.specs.Values.{value_or, next_of, Yields}
use Rattle.put_name.proofs.RowLaws.{Row, row, row_end}
use Rattle.write_type.specs.TypeAt.{ty_at}
use Rattle.write_type.proofs.Spelling.{There, Spells}

-- the argument types of a function
abbrev pub write_arguments : List Item → List Ty → List ℕ
write_arguments items ts = write_types items false (tys ts)

module _ (items : List Item) (k levels : ℕ) (s : List ℕ) (n at : ℕ) where
  abbrev d : Dec Ty
  d = type_at k levels

  -- i types are written, and the others stand at the position
  pub record Going (i here : ℕ) (r t : Sink) : Type 0 where
    pub done : List ℕ
    pub rest : List Ty
    pub more : many (n - i) d s here ≡ got rest (next_of (many n d s at))
    pub wrote : Wrote r done t
    pub whole :
        done ++ write_types items (ltb 0 i) (tys rest) ≡ write_arguments items (value_or [] (many n d s at))

  pub going_none : (r : Sink) → There [] (many n d s at) → Going 0 at r r
  going_none r h = record {
    done = [];
    rest = value_or [] (many n d s at);
    more = (let z : n - 0 ≡ n = omega arith in rw z h.is);
    wrote = wrote_nil r;
    whole = refl;
  }

  next_row : {i here : ℕ} {r t : Sink} → i < n → (g : Going i here r t) →
      Row d s (n - (i + 1)) here g.rest (next_of (many n d s at))
  next_row {i} {here} l g =
      let z : n - i ≡ suc (n - (i + 1)) = omega arith in
      row d s (n - (i + 1)) here (ap (λ (j : ℕ). many j d s here) (sym z) ∙ g.more)

  pub going_there : {i here : ℕ} {r t : Sink} → i < n → Going i here r t →
      Yields (type_at k levels s here) (ty_at k levels s here)
  unfolding ty_at
  going_there {here = here} l g =
      let a = next_row l g in
      rw a.first (record { is = refl })

  pub going_turn : {i here m : ℕ} {r t u v : Sink} → i < n → Going i here r t →
      Wrote t (pick_text (ltb 0 i) (bytes ", ") []) u →
      Wrote u (write_type items (ty_at k levels s here)) v × (m ≡ next_of (type_at k levels s here)) →
      Going (i + 1) m r v
  unfolding ty_at write_types
  going_turn {i} {here} {m} l g w x =
      let a = next_row l g in
      let e : m ≡ a.next = x.1 ∙ ap next_of a.first in
      let y = wrote_as x.0 (ap (λ (p : Got Ty). write_type items (value_or str p)) a.first) in
      let h = rw a.whole at g.whole in
      record {
        done = g.done ++ pick_text (ltb 0 i) (bytes ", ") [] ++ write_type items a.head;
        rest = a.tail;
        more = rw e a.others;
        wrote = g.wrote ▷ w ▷ y;
        whole = rw (lt-ltb 0 (i + 1) (omega arith)) (simp append_assoc (simp append_assoc at h));
      }

  pub going_done : {i here : ℕ} {r t : Sink} → n ≤ i → Going i here r t →
      Spells (write_arguments items) [] (many n d s at) r t here
  unfolding write_types
  going_done {i} {here} l g =
      let z : n - i ≡ 0 = omega arith in
      let a = row_end d s here (ap (λ (j : ℕ). many j d s here) (sym z) ∙ g.more) in
      let h = rw a.0 at g.whole in
      record { wrote = wrote_as g.wrote (sym (append-nil g.done) ∙ h); next = a.1 }
