-- Sets that leave alike in all slots, and the same of directories, leave equal trees.
use Rattle.std.proofs.Common.{◌≡◌, ◌≢◌, ℕ, ◌<◌, ◌≤◌, ◌⊎◌, inl, inr, Bool, List, None, Some}
use Rattle.std.proofs.Common.{length, map, get_or, refl, sym, ap, ◌∙◌, subst, arith, ⊎_elim}
use Rattle.std.proofs.lemmas.Bool.{cases_lt}
use Rattle.std.proofs.lemmas.List.{get_or_past}
use Rattle.std.specs.Prelude.{fold}
use Rattle.std.specs.List.{All}
use Rattle.cs_entries.specs.declared.node.Node.TheVariants.{Directory, File}
use Rattle.cs_micro.specs.declared.micro_op.MicroOp.{MicroOp}
use Rattle.cs_micro.specs.Micros.{Micros, micros_in}
use Rattle.cs_state.specs.Owners.{directory_set}
use Rattle.cs_apm.specs.Contents.{IsSmall}
use Rattle.cs_apm.specs.Atlases.{AreMakings, IsAtlas, atlas_in}
use Rattle.cs_apm.specs.Orders.{needs_of}
use Rattle.cs_sets.specs.Sets.{IsAllowed}
use Rattle.cs_apm.specs.Slots.{IsKnown, Slot, slot_at, slots_after, step_at}
use Rattle.cs_apm.specs.States.{State, crash_state_of, directories_of, owners_of, record_of, start_state, state_of}
use Rattle.cs_apm.proofs.Building.{fits, has_root, inside, known_left}
use Rattle.cs_same_states.specs.Differences.{AreDiffering}
use Rattle.cs_same_states.specs.Pairs.{AreAllowed, IsPair}
use Rattle.cs_same_states.specs.Parts.{IsAlikeBy, KeepsSlot}
use Rattle.cs_same_states.specs.Fixed.{AreFixed}
use Rattle.cs_same_states.specs.Places.{AreListed, HasRank, IsUnlisted}
use Rattle.cs_same_states.specs.Slots.{AreAlike, AreFilesAlike, file_in, first_state, second_state}
use Rattle.cs_apm.specs.Rules.{op_at}
use Rattle.cs_same_states.specs.declared.pairs.Pair.{Pair}
use Rattle.cs_same_states.specs.declared.touched.Touched.{Touched}
use Rattle.cs_same_states.proofs.Below.{AreSameSlots, same_trees_left}
use Rattle.cs_same_states.proofs.Listing.{few_long, listed_left, listed_or_not, unlisted_left}
use Rattle.cs_same_states.proofs.Settling.{directory_same, directory_settled, files_same, owner_settled, visible_settled}

-- allowed sets are of the trace's operations
pub pair_of : (p : Pair) → AreAllowed p → IsPair p
pair_of p h =
    let m = micros_in p.trace.now in
    let a = atlas_in p.tables.now in
    record {
      starts = h.atlas.starts;
      makings = subst (λ os. AreMakings os p.tables.now.makings.items) (sym h.ops) h.atlas.makings;
      owners = h.atlas.owners ∙ ap (owners_of p.trace.now) (sym h.ops);
      directories = h.atlas.directories ∙ ap (directories_of p.trace.now) (sym h.ops);
      small = subst (All IsSmall) (sym h.ops) h.atlas.small;
      first = subst (λ os. All (λ place. place < length os) p.places.now) (sym h.ops) (inside p.trace.now m a h.atlas p.places.now h.first);
      second = subst (λ os. All (λ place. place < length os) p.others.now) (sym h.ops)
          (inside p.trace.now m a h.atlas p.others.now h.second);
    }

file_of : (s : Slot) (n : ℕ) → file_in s ≡ Some n → s ≢ None
file_of None n is none = cc is
file_of (Some node) n is none = cc none

module _ (p : Pair) (pair : IsPair p) (m : Micros) (ops : p.ops.now ≡ m.ops) (is : IsAtlas p.trace.now m (atlas_in p.tables.now))
    (allowed : IsAllowed (needs_of m) (length m.ops) p.places.now) (allowed_too : IsAllowed (needs_of m) (length m.ops) p.others.now)
    (touched : Touched) (are : AreListed p.tables.now.slots.items p.tables.now.steps.items touched) (fixed : List Bool)
    (stays : AreFixed p.tables.now touched.ids.items fixed) where
  abbrev few : List ℕ → List Slot
  few set = fold slots_after touched.slots.items (map (step_at touched.steps.items) set)

  abbrev full : List ℕ → List Slot
  full set = fold slots_after p.tables.now.slots.items (map (step_at p.tables.now.steps.items) set)

  abbrev Same : Slot → Slot → Type 0
  Same slot other = AreSameSlots (record_of (first_state p)) (record_of (second_state p)) slot other

  abbrev Known : Slot → Type 0
  Known = IsKnown (length p.tables.now.directories.items) (length p.tables.now.owners.items)

  module _ (alike : (r : ℕ) → r < length (few p.places.now) → AreAlike p (slot_at (few p.places.now) r) (slot_at (few p.others.now) r))
      (found : List ℕ) (differing : AreDiffering p.places.now p.others.now found)
      (settled : (k : ℕ) → k < length found
      → IsAlikeBy p fixed (few p.places.now) (few p.others.now) (op_at p.ops.now (get_or found k 0))) where
    same_directories : (d : ℕ) → d < length p.tables.now.directories.items
        → record_of (first_state p) (Directory d) ≡ record_of (second_state p) (Directory d)
    same_directories d low =
        directory_same p pair d low (directory_settled p found differing d (λ k inside its. (settled k inside).directory d its))

    same_slot : (s : Slot) → Known s
        → ((n : ℕ) → file_in s ≡ Some n → KeepsSlot fixed (few p.places.now) (few p.others.now) n) → Same s s
    same_slot None known stands = tt
    same_slot (Some (Directory d)) known stands = (refl, same_directories d known)
    same_slot (Some (File kind n)) known stands =
        let here = stands n refl in
        files_same p pair kind n n known known
        (owner_settled p found differing n (λ k low its. (settled k low).file n its here))
        (visible_settled p found differing n (λ k low its. (settled k low).file n its here))

    alike_slots : (s u : Slot) → AreFilesAlike p s u → Same s u
    alike_slots (Some (File kind n)) (Some (File another m)) h = cc h
    alike_slots (Some (File kind n)) (Some (Directory d)) h = absurd h
    alike_slots (Some (File kind n)) None h = absurd h
    alike_slots (Some (Directory d)) u h = absurd h
    alike_slots None u h = absurd h

    known_at : (id : ℕ) → Known (slot_at (full p.places.now) id)
    known_at = known_left p.trace.now m (atlas_in p.tables.now) is p.places.now allowed

    beside : (set : List ℕ) (id r : ℕ) → HasRank touched.ids.items id r → slot_at (full set) id ≡ slot_at (few set) r
    beside set =
        listed_left p.tables.now.slots.items p.tables.now.steps.items touched are (fits p.trace.now m (atlas_in p.tables.now) is) set

    apart : (set : List ℕ) (id : ℕ) → IsUnlisted touched.ids.items id → slot_at (full set) id ≡ slot_at p.tables.now.slots.items id
    apart set =
        unlisted_left p.tables.now.slots.items p.tables.now.steps.items touched are (fits p.trace.now m (atlas_in p.tables.now) is) set

    at_listed : (id r : ℕ) → HasRank touched.ids.items id r → Same (slot_at (full p.places.now) id) (slot_at (full p.others.now) id)
    at_listed id r rank =
        let first : slot_at (full p.places.now) id ≡ slot_at (few p.places.now) r = beside p.places.now id r rank in
        let second : slot_at (full p.others.now) id ≡ slot_at (few p.others.now) r = beside p.others.now id r rank in
        let low : r < length (few p.places.now) =
        (let k = rank.0 in let l =
        few_long p.tables.now.slots.items p.tables.now.steps.items touched are (fits p.trace.now m (atlas_in p.tables.now) is)
        p.places.now in omega (arith, k, l)) in
        ⊎_elim
        (λ (same : slot_at (few p.places.now) r ≡ slot_at (few p.others.now) r).
        subst (Same (slot_at (full p.places.now) id)) (first ∙ same ∙ sym second)
        (same_slot (slot_at (full p.places.now) id) (known_at id)
        (λ n e. inr (r, low, ap file_in (sym first) ∙ e, ap file_in (sym same ∙ sym first) ∙ e))))
        (λ (records : AreFilesAlike p (slot_at (few p.places.now) r) (slot_at (few p.others.now) r)).
        subst (Same (slot_at (full p.places.now) id)) (sym second)
        (subst (λ s. Same s (slot_at (few p.others.now) r)) (sym first)
        (alike_slots (slot_at (few p.places.now) r) (slot_at (few p.others.now) r) records)))
        (alike r low)

    low_file : (id n : ℕ) → file_in (slot_at p.tables.now.slots.items id) ≡ Some n → id < length p.tables.now.slots.items
    low_file id n e = ⊎_elim
        (λ (low : id < length p.tables.now.slots.items). low)
        (λ (high : length p.tables.now.slots.items ≤ id). absurd
        (file_of (slot_at p.tables.now.slots.items id) n e (get_or_past p.tables.now.slots.items id None high)))
        (cases_lt id (length p.tables.now.slots.items))

    known_file : (s : Slot) (n : ℕ) → file_in s ≡ Some n → Known s → n < length p.tables.now.owners.items
    known_file None n e known = absurd (cc e)
    known_file (Some (Directory d)) n e known = absurd (cc e)
    known_file (Some (File kind file)) n e known =
        (let same : file ≡ n = cc e in subst (λ v. v < length p.tables.now.owners.items) same known)

    at_unlisted : (id : ℕ) → IsUnlisted touched.ids.items id → Same (slot_at (full p.places.now) id) (slot_at (full p.others.now) id)
    at_unlisted id none =
        let first : slot_at (full p.places.now) id ≡ slot_at p.tables.now.slots.items id = apart p.places.now id none in
        let second : slot_at (full p.others.now) id ≡ slot_at p.tables.now.slots.items id = apart p.others.now id none in
        subst (Same (slot_at (full p.places.now) id)) (first ∙ sym second)
        (same_slot (slot_at (full p.places.now) id) (known_at id) (λ n e.
        (let here = ap file_in (sym first) ∙ e in
        inl (stays id n (low_file id n here) none here (known_file (slot_at (full p.places.now) id) n e (known_at id))))))

    each : (id : ℕ) → Same (slot_at (full p.places.now) id) (slot_at (full p.others.now) id)
    each id = ⊎_elim
        (λ (w : (r : ℕ) × HasRank touched.ids.items id r). at_listed id w.0 w.1)
        (λ (none : IsUnlisted touched.ids.items id). at_unlisted id none)
        (listed_or_not touched.ids.items id)

    abbrev state_by : List MicroOp → List ℕ → State
    state_by os set = state_of (start_state p.trace.now) os set

    pub alike_trees : crash_state_of p.trace.now m p.places.now ≡ crash_state_of p.trace.now m p.others.now
    alike_trees =
        same_trees_left p.trace.now m (atlas_in p.tables.now) is p.places.now p.others.now allowed allowed_too
        (subst (λ os. record_of (state_by os p.places.now) (Directory 0) ≡ record_of (state_by os p.others.now) (Directory 0)) ops
        (same_directories 0 (has_root p.trace.now m (atlas_in p.tables.now) is)))
        (λ id. subst (λ os. AreSameSlots (record_of (state_by os p.places.now)) (record_of (state_by os p.others.now))
        (slot_at (full p.places.now) id) (slot_at (full p.others.now) id)) ops (each id))
