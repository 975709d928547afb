-- The own entries of a state, collected one after another; for private clauses.
use Rattle.std.specs.Prelude.{ℕ, ◌+◌, List, [], ◌∷◌, ◌++◌, cond}
use Rattle.cs_apm.specs.Slots.{Slot, slot_at}
use Rattle.cs_paths.specs.Marks.{kept_at}
use Rattle.cs_state.specs.declared.numbers.Own.{Own}
use Rattle.cs_state.specs.Shares.{is_entry}

-- the own entry at the touched id, if there is something: `before` kept ids come before it, and n
-- own entries
abbrev pub own_one : ℕ → ℕ → Slot → ℕ → List Own
own_one id before slot n = cond (is_entry slot) (record {
  id = id;
  number = before + n;
  slot = slot;
} ∷ []) []

-- the own entries at these touched ids; n own entries come before them
abbrev pub own_from : List ℕ → List ℕ → List Slot → ℕ → List Own
own_from counts [] slots n = []
own_from counts (t ∷ ts) slots n =
    own_one t (kept_at counts t) (slot_at slots t) n
    ++ own_from counts ts slots (n + cond (is_entry (slot_at slots t)) 1 0)
