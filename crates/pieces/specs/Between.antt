-- What is pending in out.rs on the way from the blocks that are open to those that are set, however often blocks were
-- set without a write: the ends and begins past the longest beginning that both have.
use Rattle.std.specs.Prelude.{List, [], ◌∷◌, map, Bool, false, cond, ℕ}
use Rattle.format.specs.Sheet.{Name}
use Rattle.bridge.specs.Block.{Block, user_defined_namespace, same_block}
use Rattle.bridge.specs.Out.{Boundary, begin, end, Content}

-- the blocks of a namespace, outermost first
abbrev pub named : List Name → List Block
named ns = map user_defined_namespace ns

-- pending boundaries stand with the last one first

unfoldable pub ending : List Block → List Boundary
ending [] = []
ending (a ∷ P) = end a ∷ ending P

unfoldable pub beginning : List Block → List Boundary → List Boundary
beginning [] pending = pending
beginning (b ∷ Q) pending = beginning Q (begin b ∷ pending)

-- from the blocks P, outermost first, to the blocks Q
unfoldable pub between : List Block → List Block → List Boundary
between [] Q = beginning Q []
between (a ∷ P) [] = ending (a ∷ P)
between (a ∷ P) (b ∷ Q) = cond (same_block a b) (between P Q) (beginning (b ∷ Q) (ending (a ∷ P)))

-- ---- states of out.rs' machine

-- the open blocks as the machine has them, in front of others
unfoldable pub innermost_first : List Block → List Block → List Block
innermost_first [] outer = outer
innermost_first (b ∷ bs) outer = innermost_first bs (b ∷ outer)

abbrev pub unbroken : List ℕ → List Name → List Block → List Boundary → Bool → Content
unbroken t ns opened pending asks =
    record { text = t; namespace = ns; opened = opened; pending = pending; section_pending = asks; panicked = false }

-- the text t is written, the namespace ns is set, the blocks P are open, and Q are set
unfoldable pub standing : List ℕ → List Name → List Block → List Block → Bool → Content
standing t ns P Q asks = unbroken t ns (innermost_first P []) (between P Q) asks
