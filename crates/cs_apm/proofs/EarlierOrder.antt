-- In a trace of a version before the fourth, the chains of needs are those of before version 4.
use Rattle.std.proofs.Common.{◌≡◌, ℕ, zero, suc, ◌+◌, ◌<◌, ◌&&◌, ◌||◌, Bool, true, false, List, [], ◌∷◌, ◌⊎◌, inl, inr}
use Rattle.std.proofs.Common.{refl, sym, ap, ◌∙◌, subst, arith, length, map, get_or, ⊎_elim, nat_lt}
use Rattle.std.proofs.lemmas.Bool.{and_from, and_parts, false≢true, lt-ltb, ltb-true, or_cases, or_left, or_right}
use Rattle.std.specs.Prelude.{fold}
use Rattle.cs_entries.specs.declared.entry.Entry.{Entry}
use Rattle.cs_entries.specs.Entries.{Entries}
use Rattle.cs_entries.specs.Entries.{MovesDirectory}
use Rattle.cs_entries.specs.declared.node.Node.TheVariants.{Directory, File}
use Rattle.cs_trace_lines.specs.Lines.{is_early}
use Rattle.cs_trace_lines.specs.Versions.{is_fourth, profile_of}
use Rattle.cs_trace_lines.specs.declared.profile.Profile.{Profile}
use Rattle.cs_trace_lines.specs.declared.version.Version.{Version}
use Rattle.cs_trace.specs.Earlier.Same.{version_before}
use Rattle.cs_micro.specs.declared.micro_op.MicroOp.{MicroOp}
use Rattle.cs_micro.specs.declared.micro_op.MicroOp.TheVariants.{CreateDirEntry, DeleteDirEntry, MoveDirEntry, LinkDirEntry, ChangeFileSize}
use Rattle.cs_micro.specs.declared.micro_op.MicroOp.TheVariants.{WriteBlock, SetAttr, Say}
use Rattle.cs_micro.specs.declared.sync_point.SyncPoint.{SyncPoint}
use Rattle.cs_micro.specs.Earlier.MicroOp.{MicroOp as EarlierMicroOp}
use Rattle.cs_micro.specs.Earlier.Same.{op_before, sync_before}
use Rattle.cs_micro.specs.Legal.{entry_op}
use Rattle.cs_sets.specs.Chains.{Chain, IsBackward, by_chain}
use Rattle.cs_sets.specs.Laws.Chains.{chain_found, found_chain}
use Rattle.cs_apm.specs.Earlier.Rules as before
use Rattle.cs_apm.specs.Laws.Pairs.{block_place, file_says, first_line_says, linked_says, order_says, place_says, say_says, says_file, says_first_line}
use Rattle.cs_apm.specs.Laws.Pairs.{OneBlock, OneFile, says_linked, says_order, size_place}
use Rattle.cs_apm.specs.Laws.Reasons.{needs_exactly}
use Rattle.cs_apm.specs.Laws.Syncs.{says_synced, synced_says}
use Rattle.cs_apm.specs.Reasons.{Reason, writes_one_block, resizes_one_file, touches_one_entry, settles_one_directory, makes_directory}
use Rattle.cs_apm.specs.Reasons.{empties_directory, is_waited_for, tells_after, sets_one_file, is_kept_in_order, is_acknowledged_first}
use Rattle.cs_apm.specs.Reasons.{creates_what_is_linked, is_journaled, moves_directories, is_other_half}
use Rattle.cs_apm.specs.Rules as rules
use Rattle.cs_apm.specs.Rules.{needs, op_at}
use Rattle.cs_apm.proofs.EarlierRules.{IsPlain, at_before, early_first, early_linked, early_order, early_owner, early_place, early_profile, early_say}
use Rattle.cs_apm.proofs.EarlierTimes.{IsHistory}
use Rattle.cs_apm.proofs.EarlierNeeds.{directory_shared, entry_shared, making_was}
use Rattle.cs_apm.proofs.EarlierChains.{IsChained, making_chained, name_chained, one}
use Rattle.cs_apm.proofs.EarlierSyncs.{AreNamedSyncs, emptied_before, emptied_now, synced_same}

-- ---- one of several tests

or_of : Bool → Bool → Bool
or_of a b = a || b

kept : (xs : List Bool) (x : Bool) → x ≡ true → fold ◌||◌ x xs ≡ true
kept [] x is = is
kept (y ∷ ys) x is = kept ys (x || y) (or_left x y is)

found : (xs : List Bool) (x : Bool) (k : ℕ) → get_or xs k false ≡ true → fold ◌||◌ x xs ≡ true
found [] x k is = absurd (false≢true is)
found (y ∷ ys) x zero is = kept ys (x || y) (or_right x y is)
found (y ∷ ys) x (suc k) is = found ys (x || y) k is

which : (xs : List Bool) (x : Bool) → fold ◌||◌ x xs ≡ true → (x ≡ true) ⊎ ((k : ℕ) × (get_or xs k false ≡ true))
which [] x is = inl is
which (y ∷ ys) x is = ⊎_elim
    (λ (first : (x || y) ≡ true). ⊎_elim
    (λ (a : x ≡ true). inl a)
    (λ (b : y ≡ true). inr (0, b))
    (or_cases x y first))
    (λ (w : (k : ℕ) × (get_or ys k false ≡ true)). inr (suc w.0, w.1))
    (which ys (x || y) is)

module _ (ops : List MicroOp) (syncs : List SyncPoint) (version : Version) (home : ℕ → Entry) (number : Entry → ℕ) (E : ℕ → Entries)
    (h : IsHistory ops home number E) (early : is_fourth version ≡ false) (plain_profile : is_early (profile_of version) ≡ true)
    (named_syncs : AreNamedSyncs E (length ops) syncs) where
  abbrev n : ℕ
  n = length ops

  abbrev profile : Profile
  profile = profile_of version

  abbrev now : ℕ → ℕ → Bool
  now = needs ops syncs version profile

  abbrev old_ops : List EarlierMicroOp
  old_ops = map op_before ops

  abbrev pub then_needed : ℕ → ℕ → Bool
  then_needed = before.needs old_ops (map sync_before syncs) (version_before version)

  module _ (i j : ℕ) where
    abbrev a : MicroOp
    a = op_at ops i

    abbrev b : MicroOp
    b = op_at ops j

    -- the rules of then, in their order, over the micro-operations of now
    abbrev tests : List Bool
    tests =
        before.shares_path (op_before a) (op_before b)
        ∷ before.touches_deleted_directory (op_before a) (op_before b)
        ∷ before.both_say (op_before a) (op_before b)
        ∷ before.sets_same_file (op_before a) (op_before b)
        ∷ before.keeps_order profile (op_before a) (op_before b)
        ∷ before.says_before (version_before version) (op_before a)
        ∷ before.creates_linked (op_before a) (op_before b)
        ∷ before.makes_parent old_ops i j
        ∷ before.is_synced (map sync_before syncs) i j (op_before a)
        ∷ []

    abbrev any : Bool
    any = fold ◌||◌ (before.same_block_or_size (op_before a) (op_before b)) tests

    then_is : then_needed i j ≡ (nat_lt i j && any)
    unfolding before.needs
    then_is =
        (λ t. nat_lt i j && (before.pair_needs (version_before version) (at_before ops i t) (at_before ops j t)
        || before.makes_parent old_ops i j || before.is_synced (map sync_before syncs) i j (at_before ops i t)))
        ∙ ap (λ p. nat_lt i j && ((before.same_block_or_size (op_before a) (op_before b)
        || before.shares_path (op_before a) (op_before b) || before.touches_deleted_directory (op_before a) (op_before b)
        || before.both_say (op_before a) (op_before b) || before.sets_same_file (op_before a) (op_before b)
        || before.keeps_order p (op_before a) (op_before b)
        || before.says_before (version_before version) (op_before a) || before.creates_linked (op_before a) (op_before b))
        || before.makes_parent old_ops i j || before.is_synced (map sync_before syncs) i j (op_before a)))
        (early_profile version early)

    -- ---- each need of now is one of then

    module _ (order : i < j) (high : j < n) where
      low : i < n
      low = omega (arith, order, high)

      abbrev block : Bool
      block = before.same_block_or_size (op_before a) (op_before b)

      from_reason : Reason ops syncs version profile i j → any ≡ true
      from_reason (writes_one_block file number_of x y) = kept tests block (early_place a b ∙ block_place a b file number_of x y)
      from_reason (resizes_one_file file x y) = kept tests block (early_place a b ∙ size_place a b file x y)
      from_reason (touches_one_entry e x y) = found tests block 0 (entry_shared ops home number E h i j low high e x y)
      from_reason (settles_one_directory d x y) = found tests block 0 (directory_shared ops home number E h i j low high d x y)
      from_reason (makes_directory e y latest) = found tests block 7 (making_was ops home number E h i j order high e y latest)
      from_reason (empties_directory d removed inside) =
          found tests block 1 (emptied_before ops home number E h i j low high d removed inside)
      from_reason (is_waited_for w) =
          found tests block 8 (synced_same ops home number E h i low j syncs named_syncs ∙ says_synced ops syncs i j w)
      from_reason (tells_after x y) = found tests block 2 (early_say a b ∙ (λ t. rules.both_say (x t) (y t)))
      from_reason (sets_one_file file x y) = found tests block 3 (early_owner a b ∙ says_file a b file x y)
      from_reason (is_kept_in_order keeps x y) = found tests block 4 (early_order profile a b plain_profile
          ∙ says_order profile a b keeps x y)
      from_reason (is_acknowledged_first first is) = found tests block 5 (early_first version a early ∙ says_first_line version a first is)
      from_reason (creates_what_is_linked file kind other x y) =
          found tests block 6 (early_linked a b ∙ says_linked a b file kind other x y)
      from_reason (is_journaled is x w) = absurd (false≢true (sym (ap is_early is) ∙ plain_profile))
      from_reason (moves_directories x y) = absurd (no_move (op_at ops i) (h.plain i low) x)
        where
          no_move : (o : MicroOp) → IsPlain o → MovesDirectory (entry_op o) → ⊥
          no_move (MoveDirEntry c d (Directory x) old) p m = p
          no_move (MoveDirEntry c d (File kind file) old) p m = m
          no_move (CreateDirEntry e node rights bytes) p m = m
          no_move (DeleteDirEntry e node) p m = m
          no_move (LinkDirEntry e kind file old half) p m = m
          no_move (ChangeFileSize file to) p m = m
          no_move (WriteBlock file _ start at bytes) p m = m
          no_move (SetAttr target rights) p m = m
          no_move Say p m = m
      from_reason (is_other_half e kind file old is next) = absurd (subst IsPlain is (h.plain i low))

      -- ---- each need of then is a chain of now

      abbrev Chained : Type 0
      Chained = IsChained ops syncs version profile home number E h i j

      single : Reason ops syncs version profile i j → Chained
      single why = one ops syncs version profile home number E h i j order why

      by_test : (k : ℕ) → get_or tests k false ≡ true → Chained
      by_test zero is = name_chained ops syncs version profile home number E h i j order high is
      by_test (suc zero) is = (let w = emptied_now ops home number E h i j low high is in single
          (empties_directory w.directory w.removed w.inside))
      by_test (suc (suc zero)) is = (let w = say_says a b (sym (early_say a b) ∙ is) in single (tells_after w.0 w.1))
      by_test (suc (suc (suc zero))) is = (let w = file_says a b (sym (early_owner a b) ∙ is) in single (sets_one_file w.0 w.1 w.2))
      by_test (suc (suc (suc (suc zero)))) is = (let w =
          order_says profile a b (sym (early_order profile a b plain_profile) ∙ is) in single (is_kept_in_order w.0 w.1 w.2))
      by_test (suc (suc (suc (suc (suc zero))))) is =
          (let w = first_line_says version a (sym (early_first version a early) ∙ is) in single (is_acknowledged_first w.0 w.1))
      by_test (suc (suc (suc (suc (suc (suc zero)))))) is =
          (let w = linked_says a b (sym (early_linked a b) ∙ is) in single (creates_what_is_linked w.0 w.1 w.2 w.3 w.4))
      by_test (suc (suc (suc (suc (suc (suc (suc zero))))))) is = making_chained ops syncs version profile home number E h i j order high is
      by_test (suc (suc (suc (suc (suc (suc (suc (suc zero)))))))) is =
          single (is_waited_for (synced_says ops syncs i j (sym (synced_same ops home number E h i low j syncs named_syncs) ∙ is)))
      by_test (suc (suc (suc (suc (suc (suc (suc (suc (suc k))))))))) is = absurd (false≢true is)

      from_any : any ≡ true → Chained
      from_any is = ⊎_elim
          (λ (first : block ≡ true). ⊎_elim
          (λ (w : OneBlock a b). single (writes_one_block w.0 w.1 w.2 w.3))
          (λ (w : OneFile a b). single (resizes_one_file w.0 w.1 w.2))
          (place_says a b (sym (early_place a b) ∙ first)))
          (λ (w : (k : ℕ) × (get_or tests k false ≡ true)). by_test w.0 w.1)
          (which tests block is)

  -- ---- chains

  now_back : IsBackward now
  now_back i j is = ((needs_exactly ops syncs version profile i j).0 is).before

  then_back : IsBackward then_needed
  then_back i j is = ltb-true i j (and_parts (nat_lt i j) (any i j) (sym (then_is i j) ∙ is)).0

  was_needed : (i j : ℕ) → j < n → now i j ≡ true → then_needed i j ≡ true
  was_needed i j high is =
      let w = (needs_exactly ops syncs version profile i j).0 is in
      then_is i j ∙ and_from (nat_lt i j) (any i j) (lt-ltb i j w.before) (from_reason i j w.before high w.reason)

  is_chained : (i j : ℕ) → j < n → then_needed i j ≡ true → (m : ℕ) × Chain now m i j
  is_chained i j high is =
      let parts = and_parts (nat_lt i j) (any i j) (sym (then_is i j) ∙ is) in
      from_any i j (ltb-true i j parts.0) high parts.1

  joined : (i m x k : ℕ) → Chain now m i x → (l : ℕ) → Chain now l x k → (r : ℕ) × Chain now r i k
  joined i m x k first zero last = (suc m, (x, (first, last)))
  joined i m x k first (suc l) (y, (more, last)) = (let w = joined i m x y first l more in (suc w.0, (y, (w.1, last))))

  was_chain : (m i k : ℕ) → k < n → Chain now m i k → (r : ℕ) × Chain then_needed r i k
  was_chain zero i k high is = (0, was_needed i k high is)
  was_chain (suc m) i k high (x, (more, is)) =
      (let order = now_back x k is in
      let w = was_chain m i x (omega (arith, order, high)) more in
      (suc w.0, (x, (w.1, was_needed x k high is))))

  is_chain : (m i k : ℕ) → k < n → Chain then_needed m i k → (r : ℕ) × Chain now r i k
  is_chain zero i k high is = is_chained i k high is
  is_chain (suc m) i k high (x, (more, is)) =
      (let order = then_back x k is in
      let w = is_chain m i x (omega (arith, order, high)) more in
      let l = is_chained x k high is in
      joined i w.0 x k w.1 l.0 l.1)

  alike : (p q : Bool) → (p ≡ true → q ≡ true) → (q ≡ true → p ≡ true) → p ≡ q
  alike true q to from = sym (to refl)
  alike false true to from = from refl
  alike false false to from = refl

  pub same_chains : (i k : ℕ) → k < n → by_chain now i k ≡ by_chain then_needed i k
  unfolding by_chain
  same_chains i k high =
      alike (by_chain now i k) (by_chain then_needed i k)
      (λ is. (let w = found_chain now (k + 1) i k is in let v =
      was_chain w.0 i k high w.1 in chain_found then_needed then_back v.0 i k v.1))
      (λ is. (let w = found_chain then_needed (k + 1) i k is in let v = is_chain w.0 i k high w.1 in chain_found now now_back v.0 i k v.1))
