-- A run that changes at its place.
use Rattle.std.proofs.Common.{◌≡◌, ◌∙◌, ℕ, zero, suc, false, List, [], ◌∷◌, ◌++◌, Option, None, Some, refl, sym, ap}
use Rattle.std.specs.Prelude.{nat_le, slice_get, slice_set}
use Rattle.std.specs.Option.{option_map, option_map_or}
use Rattle.indexmap.specs.IndexMap.{insert_entry, set_value_at}
use Rattle.indexmap.proofs.MapLemmas.{Missing-position, insert_entry-absent}
use Rattle.cs_names.specs.declared.limits.TheConstants.{RUN_ATTACHES}
use Rattle.cs_registry.specs.Keys.{Key, same_key}
use Rattle.cs_registry.specs.Runs.{Runs, change, place_of, room_ends}
use Rattle.cs_registry.specs.declared.found.Found.{Found}

set_is : {K X : Type 0} (es : List (K × X)) (place : ℕ) (k : K) (x w : X) → slice_get es place ≡ Some (k, x)
    → set_value_at es place w ≡ slice_set es place (k, w)
set_is [] place k x w there = refl
set_is (e ∷ es) zero k x w there =
    let same : e ≡ (k, x) = cc in
    ap (λ (p : _). (p.0, w) ∷ es) same
set_is (e ∷ es) (suc place) k x w there = ap (λ xs. e ∷ xs) (set_is es place k x w there)

-- a map whose value at a place is another has the run of that place changed
pub changed : {H : Type 0} (new : Found H → Found H) (runs : Runs H) (place : ℕ) (key : Key) (run : Found H)
    → slice_get runs place ≡ Some (key, run) → set_value_at runs place (new run) ≡ change new place runs
changed new runs place key run there =
    set_is runs place key run (new run) there ∙ sym
    (ap (λ found. option_map_or (λ entry. slice_set runs place (entry.0, new entry.1)) found runs) there)

-- and is as it was, if the value is the same
pub unchanged : {K X : Type 0} (es : List (K × X)) (place : ℕ) (k : K) (x : X) → slice_get es place ≡ Some (k, x)
    → set_value_at es place x ≡ es
unchanged [] place k x there = refl
unchanged (e ∷ es) zero k x there =
    let same : e ≡ (k, x) = cc in
    ap (λ (y : _). (e.0, y) ∷ es) (sym (ap (λ (p : _). p.1) same))
unchanged (e ∷ es) (suc place) k x there = ap (λ xs. e ∷ xs) (unchanged es place k x there)

-- a run that was found so often has the room that its count leaves
pub room_at : {H : Type 0} (runs : Runs H) (place : ℕ) (key : Key) (run : Found H) → slice_get runs place ≡ Some (key, run)
    → room_ends runs (Some place) ≡ nat_le RUN_ATTACHES run.finds
room_at {H} runs place key run there =
    ap (λ (found : Option (Key × Found H)). option_map_or (nat_le RUN_ATTACHES) (option_map (λ e. e.1.finds) found) false) there

-- a key that has no place isn't in the map, and comes last
pub added : {H : Type 0} (runs : Runs H) (key : Key) (run : Found H) → place_of key runs ≡ None
    → insert_entry same_key runs key run ≡ runs ++ (key, run) ∷ []
added runs key run absent = insert_entry-absent same_key key run runs (Missing-position (same_key key) runs absent).absent
