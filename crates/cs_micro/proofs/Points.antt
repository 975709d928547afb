-- The sync points of the operations so far.
use Rattle.std.proofs.Common.{◌≡◌, ℕ, ◌+◌, ◌<◌, ◌≤◌, List, [], ◌++◌, length, take, get_or, refl, sym, ap, ◌∙◌, arith}
use Rattle.std.proofs.lemmas.List.{get_or_default}
use Rattle.std.proofs.lemmas.List.Folds.{length-flat_map-take}
use Rattle.std.proofs.lemmas.List.FromFn.{get_or-range_with_len, length-range_with_len}
use Rattle.std.specs.List.{flat_map, range_with_len}
use Rattle.cs_trace.specs.declared.operation.Operation.{Operation}
use Rattle.cs_trace.specs.declared.operation.Operation.TheVariants.{Say}
use Rattle.cs_trace_lines.specs.declared.version.Version.{Version}
use Rattle.cs_micro.specs.declared.sync_point.SyncPoint.{SyncPoint}
use Rattle.cs_micro.specs.MicroOperations.{micro_operations_of}
use Rattle.cs_micro.proofs.Ranges.{flat_map-range_more}
use Rattle.cs_micro.specs.SyncPoints.{points_at, points_after, sync_points_of}

-- those of the first so many operations
unfoldable pub points_below : Version → List Operation → ℕ → List SyncPoint
points_below version ops n = flat_map (points_at version ops) (range_with_len 0 n)

pub points_none : (version : Version) (ops : List Operation) → points_below version ops 0 ≡ []
unfolding points_below
points_none version ops = refl

pub points_more : (version : Version) (ops : List Operation) (i : ℕ) (x : Operation) → i < length ops → x ≡ get_or ops i x
    → points_below version ops (i + 1) ≡ points_below version ops i ++ points_after (length (micro_operations_of version (take i ops))) x
unfolding points_below
points_more version ops i x low is =
    flat_map-range_more (points_at version ops) 0 i i (omega arith)
    ∙ ap (λ o. points_below version ops i ++ points_after (length (micro_operations_of version (take i ops))) o)
    (sym (is ∙ get_or_default ops i x Say low))

pub points_all : (version : Version) (ops : List Operation) (i : ℕ) → i ≡ length ops
    → points_below version ops i ≡ sync_points_of version ops
unfolding points_below sync_points_of
points_all version ops i is = ap (λ n. flat_map (points_at version ops) (range_with_len 0 n)) is

-- those of one operation are among all
pub points_within : (version : Version) (ops : List Operation) (i : ℕ) (x : Operation) → i < length ops → x ≡ get_or ops i x
    → length (points_after (length (micro_operations_of version (take i ops))) x) ≤ length (sync_points_of version ops)
unfolding sync_points_of
points_within version ops i x low is =
    let places = range_with_len 0 (length ops) in
    let at : get_or places i 0 ≡ i = get_or-range_with_len 0 (length ops) i 0 low ∙ omega arith in
    let among = length-flat_map-take (points_at version ops) places i 0 (omega (arith, low, length-range_with_len 0 (length ops))) in
    let same = ap (λ k. length (points_at version ops k)) at in
    let own = ap (λ o. length (points_after (length (micro_operations_of version (take i ops))) o)) (is ∙ get_or_default ops i x Say low) in
    omega (arith, among, same, own)
