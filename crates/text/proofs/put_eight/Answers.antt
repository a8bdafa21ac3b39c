use native.Mathlib.Omega.{arith}
use lib.ListN.{length-set}
use Rattle.text.proofs.CharLaws.{hold_eight}
use Rattle.text.proofs.put_eight.Goals as goal

pub bounds-buf-k-2 : goal.bounds-buf-k-2
bounds-buf-k-2 c = simp length-set (omega arith)

pub bounds-buf-k-3 : goal.bounds-buf-k-3
bounds-buf-k-3 c = simp length-set (omega arith)

pub bounds-buf-k-4 : goal.bounds-buf-k-4
bounds-buf-k-4 c = simp length-set (omega arith)

pub bounds-buf-k-5 : goal.bounds-buf-k-5
bounds-buf-k-5 c = simp length-set (omega arith)

pub bounds-buf-k-6 : goal.bounds-buf-k-6
bounds-buf-k-6 c = simp length-set (omega arith)

pub bounds-buf-k-7 : goal.bounds-buf-k-7
bounds-buf-k-7 c = simp length-set (omega arith)

pub bounds-buf-k-8 : goal.bounds-buf-k-8
bounds-buf-k-8 c = simp length-set (omega arith)

pub returns : goal.returns
returns c =
    hold_eight _ _ _ c.extract_wide-x.ensures c.requires.limited.2 c.requires.holds c.char_in.ensures
    c.char_in-2.ensures c.char_in-3.ensures c.char_in-4.ensures c.char_in-5.ensures c.char_in-6.ensures
    c.char_in-7.ensures c.char_in-8.ensures
