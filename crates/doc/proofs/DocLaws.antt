-- Laws of a comment's lines.
use mathlib.Core.Path.{◌≡◌, refl, sym, ap, ◌∙◌}
use mathlib.Core.List.{List, [], ◌∷◌, ◌++◌, append_assoc, append-nil}
use mathlib.Core.Bool.{Bool, ◌&&◌}
use Prim.Native.Nat.{ℕ, zero, suc, ◌+◌, ◌*◌, ◌<◌, ◌≤◌}
use native.Mathlib.Omega.{arith}
use lib.Dec.{eqb}
use lib.ListN.{length}
use Rattle.lexical.specs.Bytes.{bytes}
use Rattle.lexical.specs.Decimal.{pick_text}
use Rattle.refusal.specs.declared.Refusal.TheVariants.{BadComment}
use Rattle.sink.specs.Sink.{Sink, Wrote}
use Rattle.sink.proofs.SinkLaws.{◌▷◌, wrote_nil, wrote_as}
use Rattle.format.specs.Decode.{got, many}
use Rattle.format.specs.Bits.{bits}
use Rattle.format.specs.Decoding.{line, line_ok}
use Rattle.rules.specs.Rules.{gather}
use Rattle.bridge.specs.Write.{write_doc}
use Rattle.cursor.proofs.CheckLaws.{many_length}
use Rattle.cursor.proofs.FieldLaws.{field_next}
use Rattle.cursor.specs.declared.Found.{Found}
use Rattle.view.specs.Values.{value_or, next_of, Yields}
use Rattle.view.specs.Views.{Finds, comment_lines}
use Rattle.cursor.proofs.YieldLaws.{in_turn, passed, yields, found_value, found_next}
use Rattle.put_name.specs.Chars.{chars_at}
use Rattle.put_name.proofs.CharLaws.{chars_are}
use Rattle.put_name.proofs.RowLaws.{row, row_end}

-- ---- one line

-- the position behind n characters
chars_next : (s : List ℕ) (n at : ℕ) {cs : List ℕ} {m : ℕ} → many n (bits 7) s at ≡ got cs m → m ≡ at + n * 7
chars_next s zero at e = sym (row_end (bits 7) s at e).1 ∙ omega arith
chars_next s (suc n) at {m = m} e =
    let a = row (bits 7) s n at e in
    let x : a.next ≡ at + 7 = field_next 7 s at a.first in
    let y : m ≡ a.next + n * 7 = chars_next s n a.next a.others in
    omega arith

module _ (s : List ℕ) (at : ℕ) {f : Found} (y : Yields (line s at) (value_or [] (line s at))) (h : Finds (bits 7 s at) 7 f) where
  pub line_chars_lem : many f.value (bits 7) s f.next.at ≡ got (value_or [] (line s at)) (next_of (line s at))
  unfolding line
  line_chars_lem =
      in_turn (bits 7 s at) _ y.is (λ n a e₁ h₁.
      in_turn (many n (bits 7) s a) _ h₁ (λ cs b e₂ h₂.
      let g = passed (line_ok cs) (got cs b) BadComment h₂ in
      rw (← found_value h e₁, ← found_next h e₁) (e₂ ∙ g)))

  pub line_yields : Yields (many f.value (bits 7) s f.next.at) (chars_at f.value s f.next.at)
  line_yields = rw (chars_are s f.value f.next.at line_chars_lem) (yields line_chars_lem)

  pub line_is : chars_at f.value s f.next.at ≡ value_or [] (line s at)
  line_is = chars_are s f.value f.next.at line_chars_lem

  pub line_next : f.next.at + f.value * 7 ≡ next_of (line s at)
  line_next = sym (chars_next s f.value f.next.at line_chars_lem)

-- ---- the lines

gather_append : {A B : Type 0} (f : A → List B) (xs ys : List A) → gather f (xs ++ ys) ≡ gather f xs ++ gather f ys
unfolding gather
gather_append f [] ys = refl
gather_append f (x ∷ xs) ys = rw (gather_append f xs ys, append_assoc)

gather_one : {A B : Type 0} (f : A → List B) (x : A) → gather f (x ∷ []) ≡ f x
unfolding gather
gather_one f x = simp append-nil

-- all but the last `left` of the n lines at a position are written by f, and the next stands at `here`
pub record Writing (f : List ℕ → List ℕ) (s : List ℕ) (n at left here : ℕ) (before now : Sink) : Type 0 where
  pub done : List (List ℕ)
  pub rest : List (List ℕ)
  pub end : ℕ
  pub all : many n line s at ≡ got (done ++ rest) end
  pub more : many left line s here ≡ got rest end
  pub wrote : Wrote before (gather f done) now

module _ (f : List ℕ → List ℕ) (s : List ℕ) (n at : ℕ) where
  pub writing_none : (left : ℕ) (r : Sink) → left ≡ n → Yields (many n line s at) (value_or [] (many n line s at)) →
      Writing f s n at left at r r
  unfolding gather
  writing_none left r e y = rw e record {
    done = [];
    rest = value_or [] (many n line s at);
    end = next_of (many n line s at);
    all = y.is;
    more = y.is;
    wrote = wrote_nil r;
  }

  -- the next line can be read
  pub writing_yields : (left : ℕ) {here : ℕ} {r t : Sink} → 0 < left → Writing f s n at left here r t →
      Yields (line s here) (value_or [] (line s here))
  writing_yields zero h w = absurd (omega arith)
  writing_yields (suc left) {here} h w =
      let a = row line s left here w.more in
      rw a.first record { is = refl }

  -- and is written
  pub writing_one : {left rest : ℕ} {here next : ℕ} {r t u : Sink} → left ≡ suc rest → Writing f s n at left here r t →
      Wrote t (f (value_or [] (line s here))) u → next ≡ next_of (line s here) → Writing f s n at rest next r u
  writing_one {left} {rest} {here} {next} h w p e =
      let a = row line s rest here (rw h at w.more) in
      let m : next ≡ a.next = e ∙ ap next_of a.first in
      let x : value_or [] (line s here) ≡ a.head = rw a.first in
      let q = a.whole in
      rw m
      record {
        done = w.done ++ (a.head ∷ []);
        rest = a.tail;
        end = w.end;
        all = rw (append_assoc, ← q) w.all;
        more = a.others;
        wrote = wrote_as (w.wrote ▷ p) (rw (x, gather_append f, gather_one));
      }

  pub writing_done : (left : ℕ) {here : ℕ} {r t : Sink} → left ≤ 0 → Writing f s n at left here r t →
      Wrote r (gather f (value_or [] (many n line s at))) t
  writing_done (suc left) h w = absurd (omega arith)
  writing_done zero {here} h w =
      let e : w.rest ≡ [] = (row_end line s here w.more).0 in
      wrote_as w.wrote (rw (w.all, e, append-nil))

-- ---- the comment

module _ (s : List ℕ) (at : ℕ) {f : Found} (y : Yields (comment_lines s at) (value_or [] (comment_lines s at)))
    (h : Finds (bits 5 s at) 5 f) where
  lines : many f.value line s f.next.at ≡ got (value_or [] (comment_lines s at)) (next_of (comment_lines s at))
  unfolding comment_lines
  lines =
      in_turn (bits 5 s at) _ y.is (λ n a e₁ h₁.
      rw (← found_value h e₁, ← found_next h e₁) h₁)

  pub lines_yield : Yields (many f.value line s f.next.at) (value_or [] (many f.value line s f.next.at))
  lines_yield = rw lines record { is = refl }

  pub lines_are : value_or [] (many f.value line s f.next.at) ≡ value_or [] (comment_lines s at)
  lines_are = rw lines

  pub lines_count : f.value ≡ length (value_or [] (comment_lines s at))
  lines_count = sym (many_length line s f.value f.next.at lines)

  pub doc_written : (doxygen : Bool) {alone : Bool} {r t u : Sink} →
      Wrote r (gather (λ l. pick_text doxygen (bytes "///") (bytes "//") ++ l ++ bytes "\n")
      (value_or [] (many f.value line s f.next.at))) t → alone ≡ doxygen && eqb f.value 1 →
      Wrote t (pick_text alone (bytes "///\n") []) u → Wrote r (write_doc doxygen (value_or [] (comment_lines s at))) u
  unfolding write_doc
  doc_written doxygen p e q = wrote_as (p ▷ q) (rw (lines_are, e, lines_count))
