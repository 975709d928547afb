-- The rules as tests say what they say as sentences.
use Rattle.std.proofs.Common.{◌≡◌, ℕ, ◌+◌, ◌==◌, ◌&&◌, ◌||◌, Bool, true, List, ap, ◌∙◌, ⊎_elim}
use Rattle.std.proofs.lemmas.Bool.{and_parts, and_from, eq-eqb, eqb-true, or_cases, or_left, or_right}
use Rattle.std.proofs.lemmas.Bool.{lt-ltb, ltb-true}
use Rattle.std.specs.List.{list_any}
use Rattle.std.specs.Prelude.{nat_lt, ◌↔◌}
use Rattle.cs_entries.specs.declared.entry.Entry.{Entry}
use Rattle.cs_entries.specs.Rules.{entries_touched, is_latest, moves_directory, shares_entry}
use Rattle.cs_trace_lines.specs.declared.profile.Profile.{Profile}
use Rattle.cs_trace_lines.specs.declared.version.Version.{Version}
use Rattle.cs_micro.specs.Legal.{entry_op}
use Rattle.cs_micro.specs.declared.micro_op.MicroOp.{MicroOp}
use Rattle.cs_micro.specs.declared.sync_point.SyncPoint.{SyncPoint}
use Rattle.cs_apm.specs.Rules.{are_halves, both_move_directories, both_say, creates_linked}
use Rattle.cs_apm.specs.Rules.{directories_settled, entry_op_at, is_first_half, is_journaled, is_synced}
use Rattle.cs_apm.specs.Rules.{keeps_order, makes_parent, needs, op_at, pair_needs, same_block_or_size}
use Rattle.cs_apm.specs.Rules.{says_before, sets_same_file, settles, shares_name}
use Rattle.cs_apm.specs.Rules.{touches_removed_directory}
use Rattle.cs_apm.specs.Reasons.{Needs, Reason, writes_one_block, resizes_one_file}
use Rattle.cs_apm.specs.Reasons.{touches_one_entry, settles_one_directory, makes_directory}
use Rattle.cs_apm.specs.Reasons.{empties_directory, is_waited_for, tells_after, sets_one_file}
use Rattle.cs_apm.specs.Reasons.{is_kept_in_order, is_acknowledged_first, creates_what_is_linked}
use Rattle.cs_apm.specs.Reasons.{is_journaled as is_journaled_by, moves_directories, is_other_half}
use Rattle.cs_apm.specs.Laws.Lists.{any_found, any_from}
use Rattle.cs_apm.specs.Laws.Pairs.{OneBlock, OneFile, place_says, block_place, size_place}
use Rattle.cs_apm.specs.Laws.Pairs.{settled_says, says_settled}
use Rattle.cs_apm.specs.Laws.Touched.{shares_says, says_shares}
use Rattle.cs_apm.specs.Laws.Pairs.{empties_says, says_empties, say_says, file_says, says_file}
use Rattle.cs_apm.specs.Laws.Pairs.{order_says, says_order, first_line_says, says_first_line}
use Rattle.cs_apm.specs.Laws.Pairs.{linked_says, says_linked, moves_says, says_moves, half_says}
use Rattle.cs_apm.specs.Laws.Syncs.{synced_says, says_synced, latest_says, says_latest}
use Rattle.cs_apm.specs.Laws.Journals.{journaled_says, says_journaled}

module _ (ops : List MicroOp) (syncs : List SyncPoint) (version : Version) (profile : Profile)
    (i j : ℕ) where
  abbrev a : MicroOp
  a = op_at ops i

  abbrev b : MicroOp
  b = op_at ops j

  abbrev Because : Type 0
  Because = Reason ops syncs version profile i j

  pair_says : pair_needs version profile a b ≡ true → Because
  pair_says h = (⊎_elim
      (λ (h : (same_block_or_size a b || shares_name a b || touches_removed_directory a b || both_say a b || sets_same_file a b ||
      keeps_order profile a b || says_before version a || creates_linked a b) ≡ true).
      (⊎_elim (λ (h : (same_block_or_size a b || shares_name a b || touches_removed_directory a b || both_say a b || sets_same_file a b ||
      keeps_order profile a b || says_before version a) ≡ true).
      (⊎_elim (λ (h : (same_block_or_size a b || shares_name a b || touches_removed_directory a b || both_say a b || sets_same_file a b ||
      keeps_order profile a b) ≡ true).
      (⊎_elim (λ (h : (same_block_or_size a b || shares_name a b || touches_removed_directory a b || both_say a b || sets_same_file a b) ≡
      true).
      (⊎_elim (λ (h : (same_block_or_size a b || shares_name a b || touches_removed_directory a b || both_say a b) ≡ true).
      (⊎_elim (λ (h : (same_block_or_size a b || shares_name a b || touches_removed_directory a b) ≡ true).
      (⊎_elim (λ (h : (same_block_or_size a b || shares_name a b) ≡ true).
      (⊎_elim (λ (h : same_block_or_size a b ≡ true). ⊎_elim
      (λ (w : OneBlock a b). writes_one_block w.0 w.1 w.2 w.3)
      (λ (w : OneFile a b). resizes_one_file w.0 w.1 w.2)
      (place_says a b h))
      (λ (h : shares_name a b ≡ true). ⊎_elim
      (λ (e : shares_entry (entry_op a) (entry_op b) ≡ true).
      (let w = shares_says a b e in touches_one_entry w.0 w.1 w.2))
      (λ (e : list_any (settles a) (directories_settled b) ≡ true).
      (let w = settled_says a b e in settles_one_directory w.0 w.1 w.2))
      (or_cases (shares_entry (entry_op a) (entry_op b)) (list_any (settles a) (directories_settled b)) h))
      (or_cases (same_block_or_size a b) (shares_name a b) h)))
      (λ (h : touches_removed_directory a b ≡ true).
      (let w = empties_says a b h in empties_directory w.0 w.1 w.2))
      (or_cases (same_block_or_size a b || shares_name a b) (touches_removed_directory a b) h)))
      (λ (h : both_say a b ≡ true). (let w = say_says a b h in tells_after w.0 w.1))
      (or_cases (same_block_or_size a b || shares_name a b || touches_removed_directory a b) (both_say a b) h)))
      (λ (h : sets_same_file a b ≡ true). (let w = file_says a b h in sets_one_file w.0 w.1 w.2))
      (or_cases (same_block_or_size a b || shares_name a b || touches_removed_directory a b || both_say a b) (sets_same_file a b) h)))
      (λ (h : keeps_order profile a b ≡ true).
      (let w = order_says profile a b h in is_kept_in_order w.0 w.1 w.2))
      (or_cases (same_block_or_size a b || shares_name a b || touches_removed_directory a b || both_say a b || sets_same_file a b)
      (keeps_order profile a b) h)))
      (λ (h : says_before version a ≡ true).
      (let w = first_line_says version a h in is_acknowledged_first w.0 w.1))
      (or_cases (same_block_or_size a b || shares_name a b || touches_removed_directory a b || both_say a b || sets_same_file a b ||
      keeps_order profile a b) (says_before version a) h)))
      (λ (h : creates_linked a b ≡ true).
      (let w = linked_says a b h in creates_what_is_linked w.0 w.1 w.2 w.3 w.4))
      (or_cases (same_block_or_size a b || shares_name a b || touches_removed_directory a b || both_say a b || sets_same_file a b ||
      keeps_order profile a b || says_before version a) (creates_linked a b) h)))
      (λ (h : both_move_directories a b ≡ true).
      (let w = and_parts (moves_directory (entry_op a)) (moves_directory (entry_op b)) h in
      moves_directories (moves_says (entry_op a) w.0) (moves_says (entry_op b) w.1)))
      (or_cases (same_block_or_size a b || shares_name a b || touches_removed_directory a b || both_say a b || sets_same_file a b ||
      keeps_order profile a b || says_before version a || creates_linked a b) (both_move_directories a b) h))

  abbrev any : Bool
  any =
      pair_needs version profile a b
      || makes_parent ops i j
      || is_synced syncs i j a
      || is_journaled profile ops syncs i j
      || are_halves ops i j

  any_says : any ≡ true → Because
  any_says h = (⊎_elim (λ (h : (pair_needs version profile a b || makes_parent ops i j || is_synced syncs i j a || is_journaled profile ops
      syncs i j) ≡ true).
      (⊎_elim (λ (h : (pair_needs version profile a b || makes_parent ops i j || is_synced syncs i j a) ≡ true).
      (⊎_elim (λ (h : (pair_needs version profile a b || makes_parent ops i j) ≡ true).
      (⊎_elim pair_says
      (λ (h : makes_parent ops i j ≡ true).
      (let w = any_found (λ (e : Entry). is_latest (entry_op_at ops) i j e.directory)
      (entries_touched (entry_op b)) h in
      makes_directory w.0 w.1 (latest_says ops syncs i j w.0.directory w.2)))
      (or_cases (pair_needs version profile a b) (makes_parent ops i j) h)))
      (λ (h : is_synced syncs i j a ≡ true). is_waited_for (synced_says ops syncs i j h))
      (or_cases (pair_needs version profile a b || makes_parent ops i j) (is_synced syncs i j a) h)))
      (λ (h : is_journaled profile ops syncs i j ≡ true).
      (let w = journaled_says ops syncs i j profile h in is_journaled_by w.0 w.1 w.2))
      (or_cases (pair_needs version profile a b || makes_parent ops i j || is_synced syncs i j a) (is_journaled profile ops syncs i j) h)))
      (λ (h : are_halves ops i j ≡ true).
      (let parts = and_parts (is_first_half a) (j == i + 1) h in
      let w = half_says a parts.0 in
      is_other_half w.0 w.1 w.2 w.3 w.4 (eqb-true j (i + 1) parts.1)))
      (or_cases (pair_needs version profile a b || makes_parent ops i j || is_synced syncs i j a || is_journaled profile ops syncs i j)
      (are_halves ops i j) h))

  by_pair : pair_needs version profile a b ≡ true → any ≡ true
  by_pair h = (or_left (pair_needs version profile a b || makes_parent ops i j || is_synced syncs i j a || is_journaled profile ops syncs i
      j) (are_halves ops i j)
      (or_left (pair_needs version profile a b || makes_parent ops i j || is_synced syncs i j a) (is_journaled profile ops syncs i j)
      (or_left (pair_needs version profile a b || makes_parent ops i j) (is_synced syncs i j a)
      (or_left (pair_needs version profile a b) (makes_parent ops i j)
      h))))

  says_reason : Because → any ≡ true
  says_reason (writes_one_block file block x y) =
      by_pair (or_left (same_block_or_size a b || shares_name a b || touches_removed_directory a b || both_say a b || sets_same_file a b ||
      keeps_order profile a b || says_before version a || creates_linked a b) (both_move_directories a b)
      (or_left (same_block_or_size a b || shares_name a b || touches_removed_directory a b || both_say a b || sets_same_file a b ||
      keeps_order profile a b || says_before version a) (creates_linked a b)
      (or_left (same_block_or_size a b || shares_name a b || touches_removed_directory a b || both_say a b || sets_same_file a b ||
      keeps_order profile a b) (says_before version a)
      (or_left (same_block_or_size a b || shares_name a b || touches_removed_directory a b || both_say a b || sets_same_file a b)
      (keeps_order profile a b)
      (or_left (same_block_or_size a b || shares_name a b || touches_removed_directory a b || both_say a b) (sets_same_file a b)
      (or_left (same_block_or_size a b || shares_name a b || touches_removed_directory a b) (both_say a b)
      (or_left (same_block_or_size a b || shares_name a b) (touches_removed_directory a b)
      (or_left (same_block_or_size a b) (shares_name a b)
      (block_place a b file block x y)))))))))
  says_reason (resizes_one_file file x y) =
      by_pair (or_left (same_block_or_size a b || shares_name a b || touches_removed_directory a b || both_say a b || sets_same_file a b ||
      keeps_order profile a b || says_before version a || creates_linked a b) (both_move_directories a b)
      (or_left (same_block_or_size a b || shares_name a b || touches_removed_directory a b || both_say a b || sets_same_file a b ||
      keeps_order profile a b || says_before version a) (creates_linked a b)
      (or_left (same_block_or_size a b || shares_name a b || touches_removed_directory a b || both_say a b || sets_same_file a b ||
      keeps_order profile a b) (says_before version a)
      (or_left (same_block_or_size a b || shares_name a b || touches_removed_directory a b || both_say a b || sets_same_file a b)
      (keeps_order profile a b)
      (or_left (same_block_or_size a b || shares_name a b || touches_removed_directory a b || both_say a b) (sets_same_file a b)
      (or_left (same_block_or_size a b || shares_name a b || touches_removed_directory a b) (both_say a b)
      (or_left (same_block_or_size a b || shares_name a b) (touches_removed_directory a b)
      (or_left (same_block_or_size a b) (shares_name a b)
      (size_place a b file x y)))))))))
  says_reason (touches_one_entry e x y) =
      by_pair (or_left (same_block_or_size a b || shares_name a b || touches_removed_directory a b || both_say a b || sets_same_file a b ||
      keeps_order profile a b || says_before version a || creates_linked a b) (both_move_directories a b)
      (or_left (same_block_or_size a b || shares_name a b || touches_removed_directory a b || both_say a b || sets_same_file a b ||
      keeps_order profile a b || says_before version a) (creates_linked a b)
      (or_left (same_block_or_size a b || shares_name a b || touches_removed_directory a b || both_say a b || sets_same_file a b ||
      keeps_order profile a b) (says_before version a)
      (or_left (same_block_or_size a b || shares_name a b || touches_removed_directory a b || both_say a b || sets_same_file a b)
      (keeps_order profile a b)
      (or_left (same_block_or_size a b || shares_name a b || touches_removed_directory a b || both_say a b) (sets_same_file a b)
      (or_left (same_block_or_size a b || shares_name a b || touches_removed_directory a b) (both_say a b)
      (or_left (same_block_or_size a b || shares_name a b) (touches_removed_directory a b)
      (or_right (same_block_or_size a b) (shares_name a b)
      (or_left (shares_entry (entry_op a) (entry_op b)) (list_any (settles a) (directories_settled b)) (says_shares a b e x y))))))))))
  says_reason (settles_one_directory d x y) =
      by_pair (or_left (same_block_or_size a b || shares_name a b || touches_removed_directory a b || both_say a b || sets_same_file a b ||
      keeps_order profile a b || says_before version a || creates_linked a b) (both_move_directories a b)
      (or_left (same_block_or_size a b || shares_name a b || touches_removed_directory a b || both_say a b || sets_same_file a b ||
      keeps_order profile a b || says_before version a) (creates_linked a b)
      (or_left (same_block_or_size a b || shares_name a b || touches_removed_directory a b || both_say a b || sets_same_file a b ||
      keeps_order profile a b) (says_before version a)
      (or_left (same_block_or_size a b || shares_name a b || touches_removed_directory a b || both_say a b || sets_same_file a b)
      (keeps_order profile a b)
      (or_left (same_block_or_size a b || shares_name a b || touches_removed_directory a b || both_say a b) (sets_same_file a b)
      (or_left (same_block_or_size a b || shares_name a b || touches_removed_directory a b) (both_say a b)
      (or_left (same_block_or_size a b || shares_name a b) (touches_removed_directory a b)
      (or_right (same_block_or_size a b) (shares_name a b)
      (or_right (shares_entry (entry_op a) (entry_op b)) (list_any (settles a) (directories_settled b)) (says_settled a b d x y))))))))))
  says_reason (makes_directory e touching latest) =
      (or_left (pair_needs version profile a b || makes_parent ops i j || is_synced syncs i j a || is_journaled profile ops syncs i j)
      (are_halves ops i j)
      (or_left (pair_needs version profile a b || makes_parent ops i j || is_synced syncs i j a) (is_journaled profile ops syncs i j)
      (or_left (pair_needs version profile a b || makes_parent ops i j) (is_synced syncs i j a)
      (or_right (pair_needs version profile a b) (makes_parent ops i j)
      (any_from (λ (f : Entry). is_latest (entry_op_at ops) i j f.directory) (entries_touched (entry_op b)) e touching
      (says_latest ops syncs i j e.directory latest))))))
  says_reason (empties_directory d gone w) =
      by_pair (or_left (same_block_or_size a b || shares_name a b || touches_removed_directory a b || both_say a b || sets_same_file a b ||
      keeps_order profile a b || says_before version a || creates_linked a b) (both_move_directories a b)
      (or_left (same_block_or_size a b || shares_name a b || touches_removed_directory a b || both_say a b || sets_same_file a b ||
      keeps_order profile a b || says_before version a) (creates_linked a b)
      (or_left (same_block_or_size a b || shares_name a b || touches_removed_directory a b || both_say a b || sets_same_file a b ||
      keeps_order profile a b) (says_before version a)
      (or_left (same_block_or_size a b || shares_name a b || touches_removed_directory a b || both_say a b || sets_same_file a b)
      (keeps_order profile a b)
      (or_left (same_block_or_size a b || shares_name a b || touches_removed_directory a b || both_say a b) (sets_same_file a b)
      (or_left (same_block_or_size a b || shares_name a b || touches_removed_directory a b) (both_say a b)
      (or_right (same_block_or_size a b || shares_name a b) (touches_removed_directory a b) (says_empties a b d gone w))))))))
  says_reason (is_waited_for w) =
      (or_left (pair_needs version profile a b || makes_parent ops i j || is_synced syncs i j a || is_journaled profile ops syncs i j)
      (are_halves ops i j)
      (or_left (pair_needs version profile a b || makes_parent ops i j || is_synced syncs i j a) (is_journaled profile ops syncs i j)
      (or_right (pair_needs version profile a b || makes_parent ops i j) (is_synced syncs i j a) (says_synced ops syncs i j w))))
  says_reason (tells_after x y) =
      by_pair (or_left (same_block_or_size a b || shares_name a b || touches_removed_directory a b || both_say a b || sets_same_file a b ||
      keeps_order profile a b || says_before version a || creates_linked a b) (both_move_directories a b)
      (or_left (same_block_or_size a b || shares_name a b || touches_removed_directory a b || both_say a b || sets_same_file a b ||
      keeps_order profile a b || says_before version a) (creates_linked a b)
      (or_left (same_block_or_size a b || shares_name a b || touches_removed_directory a b || both_say a b || sets_same_file a b ||
      keeps_order profile a b) (says_before version a)
      (or_left (same_block_or_size a b || shares_name a b || touches_removed_directory a b || both_say a b || sets_same_file a b)
      (keeps_order profile a b)
      (or_left (same_block_or_size a b || shares_name a b || touches_removed_directory a b || both_say a b) (sets_same_file a b)
      (or_right (same_block_or_size a b || shares_name a b || touches_removed_directory a b) (both_say a b)
      (λ w. both_say (x w) (y w))))))))
  says_reason (sets_one_file file x y) =
      by_pair (or_left (same_block_or_size a b || shares_name a b || touches_removed_directory a b || both_say a b || sets_same_file a b ||
      keeps_order profile a b || says_before version a || creates_linked a b) (both_move_directories a b)
      (or_left (same_block_or_size a b || shares_name a b || touches_removed_directory a b || both_say a b || sets_same_file a b ||
      keeps_order profile a b || says_before version a) (creates_linked a b)
      (or_left (same_block_or_size a b || shares_name a b || touches_removed_directory a b || both_say a b || sets_same_file a b ||
      keeps_order profile a b) (says_before version a)
      (or_left (same_block_or_size a b || shares_name a b || touches_removed_directory a b || both_say a b || sets_same_file a b)
      (keeps_order profile a b)
      (or_right (same_block_or_size a b || shares_name a b || touches_removed_directory a b || both_say a b) (sets_same_file a b)
      (says_file a b file x y))))))
  says_reason (is_kept_in_order keeps x y) =
      by_pair (or_left (same_block_or_size a b || shares_name a b || touches_removed_directory a b || both_say a b || sets_same_file a b ||
      keeps_order profile a b || says_before version a || creates_linked a b) (both_move_directories a b)
      (or_left (same_block_or_size a b || shares_name a b || touches_removed_directory a b || both_say a b || sets_same_file a b ||
      keeps_order profile a b || says_before version a) (creates_linked a b)
      (or_left (same_block_or_size a b || shares_name a b || touches_removed_directory a b || both_say a b || sets_same_file a b ||
      keeps_order profile a b) (says_before version a)
      (or_right (same_block_or_size a b || shares_name a b || touches_removed_directory a b || both_say a b || sets_same_file a b)
      (keeps_order profile a b) (says_order profile a b keeps x y)))))
  says_reason (is_acknowledged_first before x) =
      by_pair (or_left (same_block_or_size a b || shares_name a b || touches_removed_directory a b || both_say a b || sets_same_file a b ||
      keeps_order profile a b || says_before version a || creates_linked a b) (both_move_directories a b)
      (or_left (same_block_or_size a b || shares_name a b || touches_removed_directory a b || both_say a b || sets_same_file a b ||
      keeps_order profile a b || says_before version a) (creates_linked a b)
      (or_right (same_block_or_size a b || shares_name a b || touches_removed_directory a b || both_say a b || sets_same_file a b ||
      keeps_order profile a b) (says_before version a) (says_first_line version a before x))))
  says_reason (creates_what_is_linked file kind other x y) =
      by_pair (or_left (same_block_or_size a b || shares_name a b || touches_removed_directory a b || both_say a b || sets_same_file a b ||
      keeps_order profile a b || says_before version a || creates_linked a b) (both_move_directories a b)
      (or_right (same_block_or_size a b || shares_name a b || touches_removed_directory a b || both_say a b || sets_same_file a b ||
      keeps_order profile a b || says_before version a) (creates_linked a b) (says_linked a b file kind other x y)))
  says_reason (is_journaled_by is x w) =
      (or_left (pair_needs version profile a b || makes_parent ops i j || is_synced syncs i j a || is_journaled profile ops syncs i j)
      (are_halves ops i j)
      (or_right (pair_needs version profile a b || makes_parent ops i j || is_synced syncs i j a) (is_journaled profile ops syncs i j)
      (says_journaled ops syncs i j profile is x w)))
  says_reason (moves_directories x y) =
      by_pair (or_right (same_block_or_size a b || shares_name a b || touches_removed_directory a b || both_say a b || sets_same_file a
      b || keeps_order profile a b || says_before version a || creates_linked a b) (both_move_directories a b)
      (and_from (moves_directory (entry_op a)) (moves_directory (entry_op b)) (says_moves (entry_op a) x) (says_moves (entry_op b) y)))
  says_reason (is_other_half e kind file old is next) =
      (or_right (pair_needs version profile a b || makes_parent ops i j || is_synced syncs i j a || is_journaled profile ops syncs i j)
      (are_halves ops i j) (and_from (is_first_half a) (j == i + 1) (ap is_first_half is) (eq-eqb j (i + 1) next)))

  pub needs_says : needs ops syncs version profile i j ≡ true
      → Needs ops syncs version profile i j
  unfolding needs
  needs_says h =
      let parts = and_parts (nat_lt i j) any h in
      record { before = ltb-true i j parts.0; reason = any_says parts.1 }

  pub says_needs : Needs ops syncs version profile i j
      → needs ops syncs version profile i j ≡ true
  unfolding needs
  says_needs w = and_from (nat_lt i j) any (lt-ltb i j w.before) (says_reason w.reason)

-- the tests are the sentences
pub needs_exactly : (ops : List MicroOp) (syncs : List SyncPoint) (version : Version)
    (profile : Profile) (i j : ℕ)
    → (needs ops syncs version profile i j ≡ true) ↔ Needs ops syncs version profile i j
needs_exactly ops syncs version profile i j = (
  needs_says ops syncs version profile i j,
  says_needs ops syncs version profile i j,
)
