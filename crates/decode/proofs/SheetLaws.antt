-- Laws of the edition, of the sheet's end, of both tables, and of the answer to a sheet.
use mathlib.Core.Path.{◌≡◌, refl, sym, ◌∙◌}
use mathlib.Core.List.{List}
use mathlib.Core.Bool.{Bool, true, false, ◌&&◌, and-false}
use Prim.Native.Nat.{ℕ, ◌+◌, ◌-◌, ◌*◌, ◌/◌, ◌%◌, ◌≤◌, ◌<◌}
use native.Mathlib.Omega.{arith}
use lib.ListN.{length, take}
use lib.Dec.{eqb, leb}
use borrow.Author.Tests.{eq-eqb, ne_eqb, lt-leb, le-leb}
use Rattle.refusal.specs.declared.Refusal.{Refusal}
use Rattle.refusal.specs.declared.Refusal.TheVariants.{CutSheet, Edition, Tail}
use Rattle.lexical.specs.Bytes.{within}
use Rattle.lexical.specs.Names.{sheet_name, table_of}
use Rattle.lexical.proofs.NameLaws.{sheet_name_base, edition_covers}
use Rattle.format.specs.Limits.{last_edition, most_bytes}
use Rattle.format.specs.Decode.{Got, fault, got, Dec, pick, after, many}
use Rattle.format.specs.Bits.{bits, bit}
use Rattle.format.specs.Sheet.{Name, Sheet}
use Rattle.format.specs.Decoding.{name, item, table_name, name_table, item_table, tail, edition, behind_edition, sheet, decode}
use Rattle.std.specs.Prelude.{Result, Ok, Err, IsErrAnd}
use Rattle.format.specs.declared.Outline.{Outline}
use Rattle.cursor.specs.declared.Cursor.{Cursor}
use Rattle.cursor.specs.Checking.{Limited, Checks, position_of, Fills, Table}
use Rattle.cursor.proofs.FieldLaws.{field_lt, field_next}
use Rattle.cursor.proofs.CheckLaws.{stepped, stopped, refused}
use Rattle.cursor.proofs.TableLaws.{fills_checks, placed_checks, Located, located}
use Rattle.names.proofs.DigestLaws.{digests_filled}
use Rattle.marks.specs.Gathering.{each, Gathers}
use Rattle.marks.specs.Marking.{mark_item}
use Rattle.marks.proofs.GatherLaws.{facts}
use Rattle.names.specs.Naming.{names_at, Named}
use Rattle.names.specs.Digests.{digest_of, digests_at}
use Rattle.names.proofs.NamedLaws.{table_base, table_names, table_digests, table_named}
use Rattle.decode.specs.Tables.{behind_names, behind_bits, AnswersItems, Answers}

-- ---- a refusal that is handed on

module _ {s : List ℕ} {p : Got Sheet} {e : Refusal} where
  pub items_denied : {names : List Name} {r : Result Outline Refusal} {b m₀ m₁ : List ℕ} → IsErrAnd r (λ d. d ≡ e) →
      p ≡ fault e → AnswersItems s names p r b m₀ m₁
  items_denied {r = Ok o} i h = absurd i
  items_denied {r = Err d} i h = record { says = rw i h }

  pub denied : {r : Result Outline Refusal} {b o g m₀ m₁ : List ℕ} → IsErrAnd r (λ d. d ≡ e) → p ≡ fault e →
      Answers s p r b o g m₀ m₁
  denied {r = Ok o} i h = absurd i
  denied {r = Err d} i h = record { says = rw i h }

-- ---- the sheet's length

module _ {n : ℕ} where
  pub too_long : most_bytes < n → leb n most_bytes ≡ false
  too_long h = lt-leb n most_bytes h

  pub not_too_long : n ≤ most_bytes → leb n most_bytes ≡ true
  not_too_long h = le-leb n most_bytes h

module _ (s : List ℕ) where
  pub decode_cut : most_bytes < length s → decode s ≡ fault CutSheet
  unfolding decode
  decode_cut h = rw (too_long h)

  pub decode_within : length s ≤ most_bytes → decode s ≡ sheet s 0
  unfolding decode
  decode_within h = rw (not_too_long h)

-- ---- the edition, and both bits

module _ (e : ℕ) where
  pub edition_none : e ≡ 0 → within 1 last_edition e ≡ false
  edition_none h = rw h

  pub edition_later : last_edition < e → within 1 last_edition e ≡ false
  edition_later h = rw (lt-leb e last_edition h) (and-false (leb 1 e))

  pub edition_known : (e ≡ 0 → ⊥) → e ≤ last_edition → within 1 last_edition e ≡ true
  edition_known h l = rw (le-leb 1 e (omega arith), le-leb e last_edition l)

module _ (s : List ℕ) (at : ℕ) where
  pub sheet_cut : {e : Refusal} → bits 4 s at ≡ fault e → sheet s at ≡ fault e
  unfolding sheet edition
  sheet_cut q = rw q

  module _ {e m : ℕ} (q : bits 4 s at ≡ got e m) where
    pub sheet_without_edition : e ≡ 0 → sheet s at ≡ fault Edition
    unfolding sheet edition
    sheet_without_edition h = rw (q, edition_none e h)

    pub sheet_of_later : last_edition < e → sheet s at ≡ fault Edition
    unfolding sheet edition
    sheet_of_later h = rw (q, edition_later e h)

    pub sheet_of_known : (e ≡ 0 → ⊥) → e ≤ last_edition → sheet s at ≡ behind_edition (table_of e) s m
    unfolding sheet edition
    sheet_of_known h l = rw (q, edition_known e h l)

  module _ (words : List (List ℕ)) where
    pub header_cut : {e : Refusal} → bit s at ≡ fault e → behind_edition words s at ≡ fault e
    unfolding behind_edition
    header_cut q = rw q

    module _ {h : Bool} {m : ℕ} (q : bit s at ≡ got h m) where
      pub doxygen_cut : {e : Refusal} → bit s m ≡ fault e → behind_edition words s at ≡ fault e
      unfolding behind_edition
      doxygen_cut f = rw (q, f)

      pub both_bits : {d : Bool} {k : ℕ} → bit s m ≡ got d k → behind_edition words s at ≡ behind_bits words h d s k
      unfolding behind_edition behind_bits behind_names
      both_bits f = rw (q, f)

-- ---- the end of the sheet

pub not_zero : {z : ℕ} → (z ≡ 0 → ⊥) → eqb z 0 ≡ false
not_zero {z} h = ne_eqb z 0 h

module _ (s : List ℕ) (at : ℕ) {n : ℕ} where
  pub at_end_lem : n ≡ at + (8 - at % 8) % 8 → n / 8 ≡ length s → eqb n (8 * length s) ≡ true
  at_end_lem e h = eq-eqb n (8 * length s) (omega arith)

  pub past_end : n ≡ at + (8 - at % 8) % 8 → (n / 8 ≡ length s → ⊥) → eqb n (8 * length s) ≡ false
  past_end e h = ne_eqb n (8 * length s) (λ z. h (omega arith))

module _ {A : Type 0} (x : A) (s : List ℕ) (at : ℕ) where
  pub tail_cut : {e : Refusal} {r : Result Cursor Refusal} → IsErrAnd r (λ d. d ≡ e) →
      bits ((8 - at % 8) % 8) s at ≡ fault e → Checks (tail x s at) r
  unfolding tail
  tail_cut i q = refused i (rw q)

  module _ {z n : ℕ} (q : bits ((8 - at % 8) % 8) s at ≡ got z n) where
    pub tail_dirty : (z ≡ 0 → ⊥) → Checks (tail x s at) (Err Tail)
    unfolding tail
    tail_dirty h = record { step = rw (q, ne_eqb z 0 h) }

    pub tail_whole : z ≡ 0 → n / 8 ≡ length s → Checks (tail x s at) (Ok (record { at = n }))
    unfolding tail
    tail_whole h k =
        let e = field_next _ _ _ q in
        let l : n ≡ 8 * length s = omega arith in
        record { step = rw (q, eq-eqb z 0 h, eq-eqb n (8 * length s) l) }

    pub tail_more : z ≡ 0 → (n / 8 ≡ length s → ⊥) → Checks (tail x s at) (Err Tail)
    unfolding tail
    tail_more h k =
        let e = field_next _ _ _ q in
        record { step = rw (q, eq-eqb z 0 h, ne_eqb n (8 * length s) (λ l. k (omega arith))) }

-- the tail keeps the value
tail_keeps : {A : Type 0} (x : A) (s : List ℕ) (at : ℕ) {y : A} {m : ℕ} → tail x s at ≡ got y m → tail x s at ≡ got x m
unfolding tail
tail_keeps {A} x s at {y} {m} e = by_field (bits ((8 - at % 8) % 8) s at) e
  where
    by_test : (b : Bool) (n : ℕ) → pick b (got x n) (fault Tail) ≡ got y m → pick b (got x n) (fault Tail) ≡ got x m
    by_test true n e = let z : n ≡ m = cc in rw z
    by_test false n e = absurd (let z : ◌≡◌ {A = ℕ} 0 1 = cc in omega arith)

    by_field : (p : Got ℕ) →
        after p (λ z n. pick (eqb z 0 && eqb n (8 * length s)) (got x n) (fault Tail)) ≡ got y m →
        after p (λ z n. pick (eqb z 0 && eqb n (8 * length s)) (got x n) (fault Tail)) ≡ got x m
    by_field (fault f) e = absurd (let z : ◌≡◌ {A = ℕ} 0 1 = cc in omega arith)
    by_field (got z n) e = by_test (eqb z 0 && eqb n (8 * length s)) n e

-- ---- the item table

module _ (s : List ℕ) (h d : Bool) (names : List Name) (at : ℕ) {b m₀ m₁ : List ℕ} where
  pub items_cut : {e : Refusal} {v : Result Outline Refusal} → IsErrAnd v (λ d. d ≡ e) → bits 8 s at ≡ fault e →
      AnswersItems s names (behind_names h d names s at) v b m₀ m₁
  unfolding behind_names item_table
  items_cut i q = items_denied i (rw q)

  module _ {k m : ℕ} (q : bits 8 s at ≡ got k m) {r : Result Cursor Refusal}
      (f : Fills (many k (position_of (item names k)) s m) r k b ×
      Gathers (each mark_item) (many k (item names k) s m) m₀ r m₁) where
    pub items_fault : {e : Refusal} {v : Result Outline Refusal} → IsErrAnd v (λ d. d ≡ e) → r ≡ Err e →
        AnswersItems s names (behind_names h d names s at) v b m₀ m₁
    unfolding behind_names item_table
    items_fault i t = items_denied i (rw (q, stopped (placed_checks (item names k) k s m (fills_checks f.0)) t))

    module _ {c : Cursor} (t : r ≡ Ok c) {u : Result Cursor Refusal} (g : (x : Sheet) → Checks (tail x s c.at) u) where
      pub tail_fault : {e : Refusal} {v : Result Outline Refusal} → IsErrAnd v (λ d. d ≡ e) → u ≡ Err e →
          AnswersItems s names (behind_names h d names s at) v b m₀ m₁
      unfolding behind_names item_table
      tail_fault i w =
          let l = located (item names k) s k m f.0 t in
          items_denied i (rw (q, l.decoded, stopped (g (record { header = h; doxygen = d; items = l.values })) w))

      pub items_whole : {n : ℕ} {c' : Cursor} → length names ≡ n → u ≡ Ok c' →
          AnswersItems s names (behind_names h d names s at)
          (Ok (record { header = h; doxygen = d; names = n; items = k })) b m₀ m₁
      unfolding behind_names item_table
      items_whole {n} {c'} e w =
          let l = located (item names k) s k m f.0 t in
          let x : Sheet = record { header = h; doxygen = d; items = l.values } in
          record {
            says = record {
              sheet = x;
              end = c'.at;
              decoded = rw (q, l.decoded) (tail_keeps x s c.at (stepped (g x) w).1);
              header = refl;
              doxygen = refl;
              named = sym e;
              few = omega (arith, field_lt 8 s at q);
              table = l.table;
              marked = facts f.1 t l.decoded;
            };
          }

-- ---- both tables

-- a name of the table in a sheet of edition e
abbrev name_in : ℕ → Dec Name
name_in e = table_name (table_of e)

-- is a name by the base rule
base : (e : ℕ) {s : List ℕ} {n : ℕ} {offsets : List ℕ} {values : List Name} →
    Table (name_in e) s n offsets values → Table name s n offsets values
base e t = table_base (sheet_name (table_of e)) (sheet_name_base (table_of e) (edition_covers e)) t

behind_is : (words : List (List ℕ)) (s : List ℕ) (h d : Bool) (at : ℕ) {n m k : ℕ} {ns : List Name} →
    bits 10 s at ≡ got n m → many n (table_name words) s m ≡ got ns k →
    behind_bits words h d s at ≡ behind_names h d ns s k
unfolding behind_bits name_table
behind_is words s h d at q e = rw (q, e)

-- what the names are known to be before the items are read
pub names_ready : (e : ℕ) (s : List ℕ) (at n m : ℕ) {b g : List ℕ} {r : Result Cursor Refusal} {c : Cursor} → bits 10 s at ≡ got n m →
    Fills (many n (position_of (name_in e)) s m) r n b ×
    Fills (many n (digest_of (name_in e)) s m) r n g → r ≡ Ok c → Limited s → n ≤ length b →
    Named s (take n b) × (take n g ≡ digests_at s (take n b))
names_ready e s at n m q f t l room =
    let k = located (name_in e) s n m f.0 t in (
      table_named (base e k.table) room l (omega (arith, field_lt 10 s at q)),
      table_digests (base e k.table) room (digests_filled (name_in e) s n m f.1 t k.decoded),
    )

module _ (e : ℕ) (s : List ℕ) (h d : Bool) (at : ℕ) {b i g m₀ m₁ : List ℕ} where
  pub tables_cut : {x : Refusal} {v : Result Outline Refusal} → IsErrAnd v (λ y. y ≡ x) → bits 10 s at ≡ fault x →
      Answers s (behind_bits (table_of e) h d s at) v b i g m₀ m₁
  unfolding behind_bits name_table
  tables_cut j q = denied j (rw q)

  module _ {n m : ℕ} (q : bits 10 s at ≡ got n m) {r : Result Cursor Refusal}
      (f : Fills (many n (position_of (name_in e)) s m) r n b × Fills (many n (digest_of (name_in e)) s m) r n g) where
    pub tables_fault : {x : Refusal} {v : Result Outline Refusal} → IsErrAnd v (λ y. y ≡ x) → r ≡ Err x →
        Answers s (behind_bits (table_of e) h d s at) v b i g m₀ m₁
    unfolding behind_bits name_table
    tables_fault j t = denied j (rw (q, stopped (placed_checks (name_in e) n s m (fills_checks f.0)) t))

    pub tables_rest : {c : Cursor} {u : Result Outline Refusal} → r ≡ Ok c → n ≤ length b →
        AnswersItems s (names_at s (take n b)) (behind_names h d (names_at s (take n b)) s c.at) u i m₀ m₁ →
        Answers s (behind_bits (table_of e) h d s at) u b i g m₀ m₁
    tables_rest {c} {u} t room a =
        let l = located (name_in e) s n m f.0 t in
        by_answer u l (rw (table_names (base e l.table) room) at a)
      where
        by_answer : (u : Result Outline Refusal) (l : Located (name_in e) s n m b c.at) →
            AnswersItems s l.values (behind_names h d l.values s c.at) u i m₀ m₁ →
            Answers s (behind_bits (table_of e) h d s at) u b i g m₀ m₁
        by_answer (Err x) l a = record { says = behind_is (table_of e) s h d at q l.decoded ∙ a.says }
        by_answer (Ok o) l a =
            let z : n ≡ o.names = sym l.table.count ∙ sym a.says.named in
            record {
              says = record {
                names = l.values;
                few = omega (arith, field_lt 10 s at q);
                table = rw z at (base e l.table);
                digested = rw z at (digests_filled (name_in e) s n m f.1 t l.decoded);
                items = rw (behind_is (table_of e) s h d at q l.decoded) a.says;
              };
            }
