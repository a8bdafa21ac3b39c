-- toposort.rs line by line. It reports an error at each ring and goes on behind it.
use Rattle.std.specs.Prelude.{List, [], ◌∷◌, ◌++◌, Bool, true, false, ◌||◌, ℕ, zero, suc, get_or, set, replicate}
use Rattle.toposort.specs.Graph.{Graph}

-- after a visit: `marks`, `sorted`, whether `cx.error` was called so far, and whether the result is Err
pub data Out : Type 0 where
  out : List ℕ → List ℕ → Bool → Bool → Out

abbrev pub on_out : Out → (List ℕ → List ℕ → Bool → Bool → Out) → Out
on_out (out marks sorted reported failed) next = next marks sorted reported failed

-- `match marks.entry(strct)`: Visiting is `Err(())`, Visited is `Ok(())`, and Vacant goes on
abbrev pub crate_mark : ℕ → List ℕ → List ℕ → Bool → Out → Out
crate_mark zero marks sorted reported vacant = vacant
crate_mark (suc zero) marks sorted reported vacant = out marks sorted reported true
crate_mark (suc (suc m)) marks sorted reported vacant = out marks sorted reported false

-- `for field in &strct.fields`: where the visit is Err, `cx.error(…); result = Err(());`
unfoldable pub crate_fields : (ℕ → List ℕ → List ℕ → Bool → Out) → List ℕ → List ℕ → List ℕ → Bool → Bool → Out
crate_fields one [] marks sorted reported failed = out marks sorted reported failed
crate_fields one (j ∷ js) marks sorted reported failed =
    on_out (one j marks sorted reported) (λ m o r f. crate_fields one js m o (f || r) (f || failed))

-- `marks.insert(strct, Mark::Visited); sorted.push(strct); result`
abbrev pub crate_finish : ℕ → Out → Out
crate_finish i (out marks sorted reported failed) = out (set marks i 2) (sorted ++ (i ∷ [])) reported failed

-- `visit`, so many levels deep: as many as there are items are enough
unfoldable pub crate_visit : Graph → ℕ → ℕ → List ℕ → List ℕ → Bool → Out
crate_visit g zero i marks sorted reported =
    crate_mark (get_or marks i 0) marks sorted reported (out marks sorted reported true)
crate_visit g (suc levels) i marks sorted reported =
    crate_mark (get_or marks i 0) marks sorted reported
    (crate_finish i
    (crate_fields (λ j m o r. crate_visit g levels j m o r) (g i) (set marks i 1) sorted reported false))

-- `for api in apis`: `let _ = visit(…)` for each struct
unfoldable pub crate_structs : (ℕ → List ℕ → List ℕ → Bool → Out) → List ℕ → List ℕ → List ℕ → Bool → Out
crate_structs one [] marks sorted reported = out marks sorted reported false
crate_structs one (j ∷ js) marks sorted reported =
    on_out (one j marks sorted reported) (λ m o r f. crate_structs one js m o r)

-- `sort`, over the structs js among n items
unfoldable pub crate_sort : Graph → ℕ → List ℕ → Out
crate_sort g n js = crate_structs (λ j m o r. crate_visit g n j m o r) js (replicate n 0) [] false

abbrev pub reported_of : Out → Bool
reported_of (out marks sorted reported failed) = reported

abbrev pub list_of : Out → List ℕ
list_of (out marks sorted reported failed) = sorted

-- `sort` reports an error
unfoldable pub crate_error : Graph → ℕ → List ℕ → Bool
crate_error g n js = reported_of (crate_sort g n js)

-- the list that `sort` returns
unfoldable pub crate_order : Graph → ℕ → List ℕ → List ℕ
crate_order g n js = list_of (crate_sort g n js)
