-- From the passes over a sheet to its text in the buffer. The first pass is on bytes of its own.
use mathlib.Core.Path.{◌≡◌, ◌∙◌}
use mathlib.Core.List.{List, [], ◌++◌, append-nil}
use mathlib.Core.Bool.{true}
use Prim.Native.Nat.{ℕ, ◌≤◌, ◌<◌, ◌^◌, min}
use native.Mathlib.Omega.{arith}
use lib.ListN.{length, take, drop, drop_of_length-le}
use lib.Dec.{leb}
use lib.Seq.{length-take-le}
use borrow.Author.Tests.{le-leb, lt-leb}
use Rattle.refusal.specs.declared.Refusal.TheVariants.{Overrun}
use Rattle.std.specs.Prelude.{Ok, Err}
use Rattle.sink.specs.Sink.{sink, limit, Wrote}
use Rattle.sink.proofs.SinkLaws.{wrote_place}
use Rattle.sink.proofs.ServiceLaws.{written, written_front}
use Rattle.deliver.specs.Delivers.{Delivers}

module _ {bytes short after : List ℕ} {n : ℕ} (buffer : List ℕ) (p : Wrote (sink short 0) bytes (sink after n)) where
  counted : n ≡ min limit (length bytes)
  counted = wrote_place p (omega arith) ∙ omega arith

  pub deliver_long : length buffer < n → Delivers bytes buffer (Err Overrun) buffer
  deliver_long h =
      let t = lt-leb (length bytes) (length buffer) (omega (arith, counted)) in
      record { answers = rw t; leaves = rw t }

  module _ (h : n ≤ length buffer) (small : length buffer < 2 ^ 63) where
    exact : n ≡ length bytes
    exact = omega (arith, counted)

    fits : leb (length bytes) (length buffer) ≡ true
    fits = le-leb (length bytes) (length buffer) (omega (arith, exact))

    -- a short text is copied
    pub deliver_short : {e : List ℕ} {at : ℕ} → n ≤ length short → length short < 2 ^ 63 →
        Wrote (sink buffer 0) (take n after) (sink e at) → Delivers bytes buffer (Ok n) e
    deliver_short {e} k near q =
        let front : take n after ≡ bytes = written_front short p k near in
        let stored : e ≡ bytes ++ drop (length bytes) buffer =
        written buffer (rw front at q) (omega (arith, exact)) small in
        record { answers = rw (fits, exact); leaves = rw (fits, stored) }

    -- e is what a second pass left of as many bytes of the buffer
    pub deliver_fits : {e : List ℕ} {at : ℕ} → Wrote (sink (take n buffer) 0) bytes (sink e at) →
        Delivers bytes buffer (Ok n) (e ++ drop n buffer)
    deliver_fits {e} q =
        let part = take n buffer in
        let long : length part ≡ n = length-take-le n buffer h in
        let stored : e ≡ bytes ++ drop (length bytes) part = written part q (omega (arith, exact, long)) (omega (arith, long)) in
        let none : drop (length bytes) part ≡ [] =
        drop_of_length-le part {i = length bytes} (omega (arith, exact, long)) in
        record { answers = rw (fits, exact); leaves = rw (fits, stored, none, exact, append-nil bytes) }
