-- Laws of what is pending on the way from the open blocks to others.
use mathlib.Core.Path.{◌≡◌, refl, sym, ap, ◌∙◌}
use mathlib.Core.List.{List, [], ◌∷◌, ◌++◌}
use mathlib.Core.Bool.{true, false, false≢true}
use Rattle.lexical.proofs.BoolLaws.{by_cases, fails_too}
use Rattle.lexical.proofs.ByteLaws.{same_eq, same_refl}
use Rattle.bridge.specs.Block.{Block, user_defined_namespace, extern_c, same_block}
use Rattle.bridge.specs.Out.{Boundary, begin, end, push, is_pending}
use Rattle.pieces.specs.Between.{ending, beginning, between}

-- ---- equal blocks

pub block_eq : (a b : Block) → same_block a b ≡ true → a ≡ b
block_eq (user_defined_namespace m) (user_defined_namespace n) e = ap user_defined_namespace (same_eq m n e)
block_eq (user_defined_namespace m) extern_c e = absurd (false≢true e)
block_eq extern_c (user_defined_namespace n) e = absurd (false≢true e)
block_eq extern_c extern_c e = refl

pub block_refl : (b : Block) → same_block b b ≡ true
block_refl (user_defined_namespace n) = same_refl n
block_refl extern_c = refl

block_differ : (a b : Block) → same_block a b ≡ false → same_block b a ≡ false
block_differ a b e = fails_too (same_block b a) (same_block a b) (λ f. rw (block_eq b a f) (block_refl a)) e

-- ---- pending boundaries

between_none : (P : List Block) → between P [] ≡ ending P
unfolding between beginning ending
between_none [] = refl
between_none (a ∷ P) = refl

pub between_same : (P : List Block) → between P P ≡ []
unfolding between beginning
between_same [] = refl
between_same (a ∷ P) = rw (block_refl a) (between_same P)

-- ---- a begin goes one block in

begin_onto : (Q : List Block) (a b : Block) (pending : List Boundary) →
    push (begin b) (beginning Q (begin a ∷ pending)) ≡ beginning (Q ++ (b ∷ [])) (begin a ∷ pending)
unfolding beginning push
begin_onto [] a b pending = refl
begin_onto (c ∷ Q) a b pending = begin_onto Q c b (begin a ∷ pending)

pub push_begin : (P Q : List Block) (b : Block) → push (begin b) (between P Q) ≡ between P (Q ++ (b ∷ []))
unfolding between beginning ending push
push_begin [] [] b = refl
push_begin [] (c ∷ Q) b = begin_onto Q c b []
push_begin (a ∷ P) [] b =
    by_cases (same_block a b)
    (λ e. rw (block_eq a b e, block_refl b, between_none P))
    (λ e. rw (e, block_differ a b e))
push_begin (a ∷ P) (c ∷ Q) b =
    by_cases (same_block a c) (λ e. rw e (push_begin P Q b)) (λ e. rw e (begin_onto Q c b (end a ∷ ending P)))

-- ---- an end goes one block out

begin_last : (Q : List Block) (b : Block) (pending : List Boundary) →
    beginning (Q ++ (b ∷ [])) pending ≡ begin b ∷ beginning Q pending
unfolding beginning
begin_last [] b pending = refl
begin_last (c ∷ Q) b pending = begin_last Q b (begin c ∷ pending)

end_last : (Q : List Block) (b : Block) (pending : List Boundary) →
    push (end b) (beginning (Q ++ (b ∷ [])) pending) ≡ beginning Q pending
unfolding push
end_last Q b pending = rw (begin_last Q b pending, block_refl b)

end_onto : (P : List Block) (b : Block) → push (end b) (ending P) ≡ end b ∷ ending P
unfolding ending push
end_onto [] b = refl
end_onto (a ∷ P) b = refl

pub push_end : (P Q : List Block) (b : Block) → push (end b) (between P (Q ++ (b ∷ []))) ≡ between P Q
unfolding between beginning ending
push_end [] Q b = end_last Q b []
push_end (a ∷ P) [] b =
    by_cases (same_block a b)
    (λ e. rw (block_eq a b e, block_refl b, between_none P) (end_onto P b))
    (λ e. rw e (end_last [] b (end a ∷ ending P)))
push_end (a ∷ P) (c ∷ Q) b =
    by_cases (same_block a c) (λ e. rw e (push_end P Q b)) (λ e. rw e (end_last (c ∷ Q) b (end a ∷ ending P)))

-- ---- nothing is pending only between the same blocks

begun_pending : (Q : List Block) (boundary : Boundary) (pending : List Boundary) →
    is_pending (beginning Q (boundary ∷ pending)) ≡ true
unfolding beginning
begun_pending [] boundary pending = refl
begun_pending (b ∷ Q) boundary pending = begun_pending Q (begin b) (boundary ∷ pending)

pub none_pending : (P Q : List Block) → is_pending (between P Q) ≡ false → P ≡ Q
unfolding between beginning ending
none_pending [] [] h = refl
none_pending [] (b ∷ Q) h = absurd (false≢true (sym h ∙ begun_pending Q (begin b) []))
none_pending (a ∷ P) [] h = absurd (false≢true (sym h))
none_pending (a ∷ P) (b ∷ Q) h =
    by_cases (same_block a b)
    (λ e. rw (block_eq a b e, none_pending P Q (rw e at h)))
    (λ e. absurd (false≢true (sym (rw e at h) ∙ begun_pending Q (begin b) (end a ∷ ending P))))
