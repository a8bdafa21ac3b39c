-- Small graphs, worked out.
use mathlib.Core.Path.{◌≡◌, refl}
use mathlib.Core.List.{List, [], ◌∷◌}
use mathlib.Core.Bool.{true, false}
use Prim.Native.Nat.{ℕ}
use lib.ListN.{get_or}
use Rattle.toposort.specs.Graph.{Graph}
use Rattle.toposort.specs.Sort.{visit_all, visit, sort, ringed, order}
use Rattle.toposort.specs.Crate.{crate_fields, crate_visit, crate_structs, crate_sort, crate_error, crate_order}
use Rattle.toposort.specs.Adjacency.{graph_of}

-- what each struct holds, from struct 0 on
abbrev holding : List (List ℕ) → Graph
holding rows i = get_or rows i []

-- struct 0 holds 2 and 1, and both hold 3
diamond : order (holding ((2 ∷ 1 ∷ []) ∷ (3 ∷ []) ∷ (3 ∷ []) ∷ [] ∷ [])) 4 (0 ∷ 1 ∷ 2 ∷ 3 ∷ []) ≡ 3 ∷ 2 ∷ 1 ∷ 0 ∷ []
unfolding order sort visit_all visit
diamond = refl

-- items 0 and 2 are structs, and item 2 holds 0 twice
twice_held : order (holding ([] ∷ [] ∷ (0 ∷ 0 ∷ []) ∷ [])) 3 (2 ∷ 0 ∷ []) ≡ 0 ∷ 2 ∷ []
unfolding order sort visit_all visit
twice_held = refl

ring_of_one : ringed (holding ((0 ∷ []) ∷ [])) 1 (0 ∷ []) ≡ true
unfolding ringed sort visit_all visit
ring_of_one = refl

ring_of_two : ringed (holding ((1 ∷ []) ∷ (0 ∷ []) ∷ [])) 2 (0 ∷ 1 ∷ []) ≡ true
unfolding ringed sort visit_all visit
ring_of_two = refl

no_ring_lem : ringed (holding ((1 ∷ 1 ∷ []) ∷ [] ∷ [])) 2 (0 ∷ 1 ∷ []) ≡ false
unfolding ringed sort visit_all visit
no_ring_lem = refl

-- the crate goes on behind a ring of two, reports it and lists both structs
crate_ring_of_two :
    (crate_error (holding ((1 ∷ []) ∷ (0 ∷ []) ∷ [])) 2 (0 ∷ 1 ∷ []) ≡ true) ×
    (crate_order (holding ((1 ∷ []) ∷ (0 ∷ []) ∷ [])) 2 (0 ∷ 1 ∷ []) ≡ 1 ∷ 0 ∷ [])
unfolding crate_error crate_order crate_sort crate_structs crate_visit crate_fields
crate_ring_of_two = (refl, refl)

-- a table in which item 0 holds 2 and 1, and item 1 holds 2
table : (graph_of (0 ∷ 2 ∷ 3 ∷ 3 ∷ []) (2 ∷ 1 ∷ 2 ∷ []) 0 ≡ 2 ∷ 1 ∷ []) ×
    (graph_of (0 ∷ 2 ∷ 3 ∷ 3 ∷ []) (2 ∷ 1 ∷ 2 ∷ []) 1 ≡ 2 ∷ []) ×
    (graph_of (0 ∷ 2 ∷ 3 ∷ 3 ∷ []) (2 ∷ 1 ∷ 2 ∷ []) 2 ≡ [])
unfolding graph_of
table = (refl, refl, refl)
