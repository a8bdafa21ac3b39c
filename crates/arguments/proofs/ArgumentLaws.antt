-- Laws of the arguments of a function: the marks of one, and of all in a row with their names.
use mathlib.Core.Path.{◌≡◌, refl, sym, ap, ap₂, ◌∙◌}
use mathlib.Core.List.{List, [], ◌∷◌, ◌++◌, map, map-append, append_assoc, append-nil}
use mathlib.Core.Bool.{Bool, true, false, ◌&&◌, ◌||◌}
use Prim.Native.Nat.{ℕ, ◌+◌, ◌-◌, ◌*◌, ◌<◌, ◌≤◌}
use native.Mathlib.Omega.{arith}
use native.Mathlib.Numerals.{add-one}
use lib.Dec.{eqb}
use lib.ListN.{length, get_or, take, set, length-set}
use lib.Seq.{set-set, get_or-take, length-take-le, take-suc-set}
use borrow.Author.Tests.{lt-ltb, le-ltb}
use Rattle.lexical.specs.Bytes.{bytes, same}
use Rattle.lexical.proofs.ByteLaws.{same_eq}
use Rattle.refusal.specs.declared.Refusal.{Refusal}
use Rattle.format.specs.Bits.{bits_at, width_of, index}
use Rattle.format.specs.Limits.{most_arguments, most_bits}
use Rattle.format.specs.Decode.{Got, fault, got, many}
use Rattle.format.specs.Types.{Ty}
use Rattle.format.specs.Sheet.{Name, Argument}
use Rattle.format.specs.declared.TypeKind.{TypeKind}
use Rattle.format.specs.Decoding.{name_of, type, argument}
use Rattle.rules.specs.Rules.{twice, is_cxx_vector}
use Rattle.rules.proofs.SearchLaws.{apart_keys, filled_turn}
use Rattle.cursor.specs.Checking.{step_in}
use Rattle.cursor.proofs.CodeLaws.{at_in, fault_in, cut_in, loose_in, bits_cut, bits_whole}
use Rattle.cursor.proofs.YieldLaws.{yields, got_value}
use Rattle.names.specs.Naming.{name_at, names_at}
use Rattle.names.specs.Digests.{digest, digests_at}
use Rattle.names.proofs.NameLaws.{names_length, name_there, digest_there}
use Rattle.types.specs.Kinds.{kind_of_type}
use Rattle.types.proofs.KindLaws.{type_there}
use Rattle.marks.specs.Gathering.{each, Gathers}
use Rattle.marks.specs.Marking.{unfit_at, repeated_at, mark_if, is_indirect_now, is_error, unfit_now, error_item, mark_ty}
use Rattle.marks.specs.Marking.{judge_argument, mark_argument, mark_arguments}
use Rattle.marks.proofs.SomeLaws.{or-false}
use Rattle.marks.proofs.GatherLaws.{moved, halted, folded, fold_none, fold_turn, fold_stop, fold_done}
use Rattle.arguments.specs.declared.Passed.{Passed}
use Rattle.arguments.specs.Arguments.{is_vector_kind, judge_error, argument_of, Passes, names_of, Numbered, note, Notes}
use Rattle.arguments.proofs.ErrorLaws.{vector_type}
use Rattle.std.specs.Prelude.{Err}

-- ---- what is marked of an argument

-- a place that is marked twice
mark_or : (a b : Bool) (k : ℕ) (u : List ℕ) → mark_if b k (mark_if a k u) ≡ mark_if (a || b) k u
mark_or true true k u = set-set u k 1 1
mark_or true false k u = refl
mark_or false b k u = refl

module _ (method throws : Bool) (x : Argument) {word : Name} {kind : TypeKind} {vector receiver error : Bool}
    (u : List ℕ) {v w : List ℕ} (n : word ≡ x.name) (k : kind ≡ kind_of_type x.type) (e : vector ≡ is_vector_kind kind)
    (f : v ≡ mark_if vector unfit_at u) (g : receiver ≡ (method && same word (bytes "self")))
    (h : w ≡ mark_if receiver unfit_at v) (d : error ≡ (throws && same word (bytes "error"))) where
  marked : w ≡ mark_if (is_cxx_vector x.type || method && same x.name (bytes "self")) unfit_at u
  marked =
      h ∙ rw (f, e, k, vector_type x.type, g, n)
      (mark_or (is_cxx_vector x.type) (method && same x.name (bytes "self")) unfit_at u)

  is_error_lem : is_error throws x ≡ error
  is_error_lem = rw (← n) (sym d)

  pub judged : error ≡ false → w ≡ judge_argument method throws x u
  unfolding judge_argument unfit_now error_item each
  judged q = marked ∙ rw (is_error_lem ∙ q, or-false (is_cxx_vector x.type || method && same x.name (bytes "self")))

  pub judged_error : {t : Ty} {z : List ℕ} → t ≡ x.type → error ≡ true → z ≡ judge_error t w →
      z ≡ judge_argument method throws x u
  unfolding judge_argument unfit_now error_item judge_error
  judged_error c q l =
      l ∙ rw (
        c,
        is_error_lem ∙ q,
        marked,
        mark_or (is_cxx_vector x.type || method && same x.name (bytes "self"))
            (is_indirect_now x.type) unfit_at u,
      )

-- ---- one that is walked past

-- a value, and the facts with it
gathers_value : {A S : Type 0} {f : A → S → S} {p : Got A} {x : A} {n : ℕ} {u v : S} → p ≡ got x n → n ≤ most_bits → v ≡ f x u →
    Gathers f p u (step_in n) v
gathers_value q k e = rw (q, at_in k, e) record { gathered = refl }

name_found : (s names : List ℕ) (at : ℕ) {w i : ℕ} → w ≡ width_of (length names) → at + w ≤ 8 * length s → i ≡ bits_at s at w →
    i < length names → name_of (names_at s names) s at ≡ got (name_at s (get_or names i 0)) (at + w)
unfolding name_of index
name_found s names at {w} {i} z l e h =
    rw (names_length s names, ← z, bits_whole w s at l e, lt-ltb i (length names) h, name_there s names i h)

argument_found : (names : List ℕ) (items : ℕ) (s : List ℕ) (at : ℕ) {a : Name} {t : Ty} {k m : ℕ} →
    name_of (names_at s names) s at ≡ got a k → type items s k ≡ got t m →
    argument (names_at s names) items s at ≡ got (record { name = a; type = t }) m
unfolding argument
argument_found names items s at e f = rw (e, f)

module _ {method throws : Bool} (s names : List ℕ) (items at : ℕ) {u v : List ℕ} where
  passes_fault : {e : Refusal} {r : Passed} → argument (names_at s names) items s at ≡ fault e →
      step_in r.next ≡ Err e → most_bits < r.next →
      Passes method throws s names (argument (names_at s names) items s at) u r v
  passes_fault q t l = record {
    marks = rw (q, t) record { gathered = refl };
    there = λ h. absurd (omega arith);
    name = λ x m h. absurd (let g = sym q ∙ h in let z : ◌≡◌ {A = ℕ} 0 1 = cc in omega arith);
  }

  module _ {w : ℕ} (z : w ≡ width_of (length names)) where
    pub passes_cut : {i : ℕ} → 8 * length s < at + w →
        Passes method throws s names (argument (names_at s names) items s at) u (record { name = i; next = 262145 }) v
    unfolding argument name_of index
    passes_cut l = passes_fault (rw (names_length s names, ← z, bits_cut w s at l)) cut_in (omega arith)

    module _ {i : ℕ} (l : at + w ≤ 8 * length s) (e : i ≡ bits_at s at w) where
      pub passes_loose : length names ≤ i →
          Passes method throws s names (argument (names_at s names) items s at) u (record { name = i; next = 262148 }) v
      unfolding argument name_of index
      passes_loose h =
          passes_fault (rw (names_length s names, ← z, bits_whole w s at l e, le-ltb i (length names) h)) loose_in (omega arith)

      module _ (h : i < length names) where
        -- its type is refused
        pub passes_stop : {next : ℕ} → Gathers mark_ty (type items s (at + w)) u (step_in next) v → most_bits < next →
            Passes method throws s names (argument (names_at s names) items s at) u (record { name = i; next = next }) v
        unfolding argument
        passes_stop g k = passes_fault (rw (name_found s names at z l e h, halted g (fault_in k))) (fault_in k) k

        -- it was judged behind its type
        pub passes_done : {next : ℕ} {t : List ℕ} → Gathers mark_ty (type items s (at + w)) u (step_in next) t →
            next ≤ most_bits → v ≡ judge_argument method throws (argument_of s names items i (at + w)) t →
            Passes method throws s names (argument (names_at s names) items s at) u (record { name = i; next = next }) v
        unfolding mark_argument
        passes_done g k j =
            let m = moved g (at_in k) in
            let q = argument_found names items s at (name_found s names at z l e h) m.1 in
            let y = type_there items s (at + w) (yields m.1) in
            record {
              marks = gathers_value q k (j ∙ ap₂ (λ (t : Ty) (x : List ℕ). judge_argument method throws
                  (record { name = name_at s (get_or names i 0); type = t }) x) y m.2);
              there = λ o. h;
              name = λ x n p. ap (λ (a : Argument). a.name) (got_value (sym q ∙ p));
            }

-- ---- the tables of indexes and keys

module _ (s names : List ℕ) where
  pub numbered_none : (numbers keys : List ℕ) → Numbered s names (take 0 numbers) (take 0 keys)
  unfolding names_of
  numbered_none numbers keys = record { indexes = record { each = λ i l. absurd (omega arith) }; digests = refl }

  names_turn : (i : ℕ) (numbers : List ℕ) (v : ℕ) → i < length numbers →
      names_of s names (take (i + 1) (set numbers i v)) ≡
      names_of s names (take i numbers) ++ (name_at s (get_or names v 0) ∷ [])
  unfolding names_of
  names_turn i numbers v l =
      rw (add-one i, take-suc-set numbers i v l)
      (map-append (λ (k : ℕ). name_at s (get_or names k 0)) (take i numbers) (v ∷ []))

  pub numbered_turn : (i : ℕ) (numbers keys : List ℕ) {digests : List ℕ} {v : ℕ} → digests ≡ digests_at s names →
      Numbered s names (take i numbers) (take i keys) → i < length numbers → i < length keys → v < length names →
      Numbered s names (take (i + 1) (set numbers i v)) (take (i + 1) (set keys i (get_or digests v 0)))
  numbered_turn i numbers keys {digests} {v} d p l m h = record {
    indexes = record {
      each = λ j q.
          let a : length (take i numbers) ≡ i = length-take-le i numbers (omega arith) in
          let b : length (take (i + 1) (set numbers i v)) ≡ i + 1 =
          length-take-le (i + 1) (set numbers i v) (rw (length-set numbers i v) (omega arith)) in
          let k : j < i + 1 = rw b at q in
          rw (get_or-take (i + 1) (set numbers i v) j 0 k)
          (filled_turn (λ n x. x < length names) numbers i l h
          (λ n o. rw (get_or-take i numbers n 0 o) at (p.indexes.each n (rw a o))) j k);
    };
    digests =
        rw (names_turn i numbers v l, map-append digest (names_of s names (take i numbers)) (name_at s (get_or names v 0) ∷ []))
        (rw (add-one i, take-suc-set keys i (get_or digests v 0) m, p.digests, d, digest_there s names v h) refl);
  }

-- ---- the walk past all

-- the names stand behind one another
each_note : (method throws : Bool) (xs : List Argument) (u : List ℕ) (ns : List Name) →
    each (note method throws) xs (u, ns) ≡ (each (mark_argument method throws) xs u, ns ++ map (λ a. a.name) xs)
unfolding each note
each_note method throws [] u ns = rw append-nil
each_note method throws (x ∷ xs) u ns =
    each_note method throws xs (mark_argument method throws x u) (ns ++ (x.name ∷ [])) ∙ rw append_assoc

module _ (method throws : Bool) (s names : List ℕ) (items n at : ℕ) (u : List ℕ) where
  abbrev all : ℕ → ℕ → List ℕ × List Name → Got (List ℕ × List Name)
  all = folded (note method throws) (argument (names_at s names) items) s

  -- i of the arguments are noted, and the rest begins at a position
  pub record Noting (i next : ℕ) (numbers keys v : List ℕ) : Type 0 where
    pub left : all n at (u, []) ≡ all (n - i) next (v, names_of s names (take i numbers))
    pub numbered : Numbered s names (take i numbers) (take i keys)

  pub noting_none : (numbers keys : List ℕ) → Noting 0 at numbers keys u
  unfolding names_of
  noting_none numbers keys = record {
    left = fold_none (note method throws) (argument (names_at s names) items) s n at (u, []);
    numbered = numbered_none s names numbers keys;
  }

  module _ {i next : ℕ} {numbers keys v : List ℕ} (h : Noting i next numbers keys v) where
    module _ {r : Passed} {w : List ℕ} (l : i < n)
        (p : Passes method throws s names (argument (names_at s names) items s next) v r w) where
      pub noting_turn : {digests : List ℕ} → digests ≡ digests_at s names → i < length numbers → i < length keys →
          r.next ≤ most_bits →
          Noting (i + 1) r.next (set numbers i r.name) (set keys i (get_or digests r.name 0)) w
      unfolding note
      noting_turn d a b k =
          let m = moved p.marks (at_in k) in
          record {
            left = h.left ∙ fold_turn (note method throws) (argument (names_at s names) items) s n i l m.1
                (ap₂ (λ (x : List ℕ) (ns : List Name). (x, ns)) m.2 (names_turn s names i numbers r.name a ∙
                ap (λ (x : Name). names_of s names (take i numbers) ++ (x ∷ [])) (p.name _ _ m.1)));
            numbered = numbered_turn s names i numbers keys d h.numbered a b (p.there k);
          }

      pub noting_stop : {ms ks : List ℕ} → most_bits < r.next →
          Notes method throws s names (many n (argument (names_at s names) items) s at) u r.next ms ks w
      noting_stop k = record {
        noted = rw (fault_in k) record {
          gathered = h.left ∙ fold_stop (note method throws) (argument (names_at s names) items) s n i _ l (halted p.marks (fault_in k));
        };
        numbered = λ o. absurd (omega arith);
      }

    pub noting_done : i ≤ n → n ≤ i → next ≤ most_bits →
        Notes method throws s names (many n (argument (names_at s names) items) s at) u next (take n numbers) (take n keys) v
    noting_done a b k =
        let z : i ≡ n = omega arith in
        record {
          noted = rw (at_in k) record {
            gathered = h.left ∙ (fold_done (note method throws) (argument (names_at s names) items) s n i next _ b ∙
                ap (λ (j : ℕ). got (v, names_of s names (take j numbers)) next) z);
          };
          numbered = λ o. rw (← z) h.numbered;
        }

-- ---- equal names

pub few_keys : (n : ℕ) (keys : List ℕ) → n ≤ most_arguments → n ≤ length keys → length (take n keys) < 4294967296
few_keys n keys l h = let e : length (take n keys) ≡ n = length-take-le n keys h in omega arith

-- names with digests that are all different are all different
pub names_apart : (ns : List Name) {keys : List ℕ} {close : Bool} → keys ≡ map digest ns → close ≡ twice eqb keys →
    close ≡ false → twice same ns ≡ false
names_apart ns e h f =
    apart_keys digest same (λ x y q. ap digest (same_eq x y q)) ns (ap (twice eqb) (sym e) ∙ (sym h ∙ f))

module _ {method throws : Bool} {s names : List ℕ} {p : Got (List Argument)} {u : List ℕ} {r : ℕ} {numbers keys v : List ℕ}
    (h : Notes method throws s names p u r numbers keys v) where
  pub notes_refused : {w : List ℕ} → most_bits < r → Gathers (mark_arguments method throws) p u (step_in r) w
  notes_refused l = rw (fault_in l, halted h.noted (fault_in l)) record { gathered = refl }

  pub notes_marks : {b : Bool} {w : List ℕ} → r ≤ most_bits → b ≡ twice same (names_of s names numbers) →
      w ≡ mark_if b repeated_at v → Gathers (mark_arguments method throws) p u (step_in r) w
  unfolding mark_arguments
  notes_marks {b} {w} l e f =
      let m = moved h.noted (at_in l) in
      let q = m.2 ∙ each_note method throws m.0 u [] in
      let a : v ≡ each (mark_argument method throws) m.0 u = ap (λ (x : List ℕ × List Name). x.0) q in
      let c : names_of s names numbers ≡ map (λ a. a.name) m.0 = ap (λ (x : List ℕ × List Name). x.1) q in
      gathers_value m.1 l (f ∙ (ap (λ (x : Bool). mark_if x repeated_at v) e ∙
      ap₂ (λ (x : List Name) (y : List ℕ). mark_if (twice same x) repeated_at y) c a))

  -- no two keys are equal
  pub notes_apart : {close : Bool} → r ≤ most_bits → close ≡ twice eqb keys → close ≡ false →
      Gathers (mark_arguments method throws) p u (step_in r) v
  notes_apart l e f =
      notes_marks l (sym (names_apart (names_of s names numbers) (h.numbered l).digests e f)) refl
