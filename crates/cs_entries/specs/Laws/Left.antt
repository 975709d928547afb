-- What a set that has what its members need leaves: each member is legal in it, so it is a tree.
use Rattle.std.proofs.Common.{◌≡◌, ◌≢◌, ℕ, zero, suc, ◌<◌, ◌≤◌, Bool, true, false, cond, ◌||◌}
use Rattle.std.proofs.Common.{◌⊎◌, inl, inr, Option, None, Some, refl, sym, ap, ◌∙◌, subst, arith, ⊎_elim}
use Rattle.std.proofs.lemmas.Bool.{false≢true, cases_Bool}
use Rattle.cs_entries.specs.Entries.{Entries, Entry, entry_eq, after, state, all}
use Rattle.cs_entries.specs.Entries.{EntryOp, Create, Link, Delete, Move, Other, touches, Removes, MovesDirectory}
use Rattle.cs_entries.specs.Legal.{Way, Any, IsReached, IsEmpty, IsHeld, IsTree, IsNew, IsLegal}
use Rattle.cs_entries.specs.Sets.{HasNeeds, AreNumbered, AreFixed}
use Rattle.cs_entries.specs.Laws.One.{untouched, agree, held_before, moved_between, stays_or_moves, IsMoved}
use Rattle.cs_entries.specs.Laws.One.{same_entry, entry_cases}
use Rattle.cs_entries.specs.Laws.One.{same_number, no_node, no_directory}
use Rattle.cs_entries.specs.Laws.Trees.{way_kept, tree_after}
use Rattle.cs_entries.specs.declared.node.Node.{Node}
use Rattle.cs_entries.specs.declared.node.Node.TheVariants.{Directory, File}
use Rattle.cs_entries.specs.declared.node.FileKind.{FileKind}

module _ (start : Entries) (ops : ℕ → EntryOp) where
  -- after the first k operations, and after those of them that a set has
  abbrev pub whole : ℕ → Entries
  whole k = state all start ops k

  module _ (has : ℕ → Bool) where
    abbrev pub left : ℕ → Entries
    left k = state has start ops k

    pub member_step : (j : ℕ) (q : Entry) → has j ≡ true → left (suc j) q ≡ after (left j) (ops j) q
    member_step j q member = ap (λ t. cond t (after (left j) (ops j) q) (left j q)) member

    pub other_step : (j : ℕ) (q : Entry) → has j ≡ false → left (suc j) q ≡ left j q
    other_step j q other = ap (λ t. cond t (after (left j) (ops j) q) (left j q)) other

    pub idle_step : (j : ℕ) (q : Entry) → touches (ops j) q ≡ false → left (suc j) q ≡ left j q
    idle_step j q free = ⊎_elim
        (λ (member : has j ≡ true). member_step j q member ∙ untouched (left j) (ops j) q free)
        (λ (other : has j ≡ false). other_step j q other)
        (cases_Bool (has j))

    -- a member before j makes the directory
    abbrev pub Made : ℕ → ℕ → Type 0
    Made j d =
        (i : ℕ) × (e : Entry) × (i < j) × (has i ≡ true) × (ops i ≡ Create e (Directory d))

    -- a directory that is held is one of the start or made by a member
    pub origin : (j : ℕ) (q : Entry) (d : ℕ) → left j q ≡ Some (Directory d)
        → IsHeld start d ⊎ (Made j d)
    origin zero q d h = inl (q, h)
    origin (suc j) q d h = ⊎_elim
        (λ (member : has j ≡ true). ⊎_elim
        (λ (before : IsHeld (left j) d). later (origin j before.0 d before.1))
        (λ (made : (e : Entry) × (ops j ≡ Create e (Directory d))). inr (j, made.0, omega arith, member, made.1))
        (held_before (left j) (ops j) q d (sym (member_step j q member) ∙ h)))
        (λ (other : has j ≡ false). later (origin j q d (sym (other_step j q other) ∙ h)))
        (cases_Bool (has j))
      where
        later : IsHeld start d ⊎ (Made j d)
            → IsHeld start d ⊎ (Made (suc j) d)
        later w = ⊎_elim
            (λ (s : IsHeld start d). inl s)
            (λ (m : Made j d).
            (let low = m.2 in inr (m.0, m.1, omega (arith, low), m.3, m.4)))
            w

    module _ (n : ℕ) (numbered : AreNumbered start ops n) where
      -- a directory isn't held before it is made
      pub not_made : (i j : ℕ) (q e : Entry) (d : ℕ) → i ≤ j → j < n → ops j ≡ Create e (Directory d)
          → left i q ≢ Some (Directory d)
      not_made i j q e d le low made held =
          (let new = numbered j d e low made in ⊎_elim
          (λ (s : IsHeld start d). new.1 s.0 s.1)
          (λ (m : Made i d). (let before = m.2 in new.2 m.0 m.1 (omega (arith, before, le)) m.4))
          (origin i q d held))

    module _ (needs : HasNeeds ops has) where
      -- what a member touches is as in the trace
      pub same : (j k : ℕ) (e : Entry) → j ≤ k → has k ≡ true → touches (ops k) e ≡ true
          → left j e ≡ whole j e
      same zero k e le member touching = refl
      same (suc j) k e le member touching = ⊎_elim
          (λ (t : touches (ops j) e ≡ true).
          (let has_j = needs.entry j k e (omega (arith, le)) member t touching in
          member_step j e has_j
          ∙ agree (left j) (whole j) (ops j) (λ q tq. same j j q (omega arith) has_j tq) e t))
          (λ (free : touches (ops j) e ≡ false).
          idle_step j e free ∙ same j k e (omega (arith, le)) member touching
          ∙ sym (untouched (whole j) (ops j) e free))
          (cases_Bool (touches (ops j) e))

      -- and after it too
      pub same_after : (j : ℕ) (e : Entry) → has j ≡ true → touches (ops j) e ≡ true
          → left (suc j) e ≡ whole (suc j) e
      same_after j e member touching =
          member_step j e member
          ∙ agree (left j) (whole j) (ops j) (λ q t. same j j q (omega arith) member t) e touching

      -- what only members touch is as in the trace
      pub all_same : (k : ℕ) (e : Entry)
          → ((i : ℕ) → i < k → touches (ops i) e ≡ true → has i ≡ true) → (j : ℕ) → j ≤ k
          → left j e ≡ whole j e
      all_same k e members zero le = refl
      all_same k e members (suc j) le = ⊎_elim
          (λ (t : touches (ops j) e ≡ true). same_after j e (members j (omega (arith, le)) t) t)
          (λ (free : touches (ops j) e ≡ false).
          idle_step j e free ∙ all_same k e members j (omega (arith, le))
          ∙ sym (untouched (whole j) (ops j) e free))
          (cases_Bool (touches (ops j) e))

entry_either : (e f : Entry) → (e ≡ f) ⊎ (e ≢ f)
entry_either e f = ⊎_elim
    (λ (one : (entry_eq e f ≡ true) × (e ≡ f)). inl one.1)
    (λ (two : (entry_eq e f ≡ false) × (e ≢ f)). inr two.1)
    (entry_cases e f)

module _ (start : Entries) (ops : ℕ → EntryOp) (n : ℕ) (has : ℕ → Bool) (needs : HasNeeds ops has)
    (tree : IsTree start)
    (legal : (k : ℕ) → k < n → IsLegal (whole start ops k) (ops k))
    (numbered : AreNumbered start ops n ⊎ AreFixed start ops n) where
  abbrev E : ℕ → Entries
  E k = whole start ops k

  abbrev F : ℕ → Entries
  F k = left start ops has k

  pub whole_tree : (k : ℕ) → k ≤ n → IsTree (E k)
  whole_tree zero le = tree
  whole_tree (suc k) le =
      tree_after (E k) (ops k) (whole_tree k (omega (arith, le))) (legal k (omega (arith, le)))

  -- if no directory is moved, each is at its own entry
  fixed_place : (fixed : AreFixed start ops n) (j : ℕ) → j ≤ n → (f : Entry) (d : ℕ)
      → F j f ≡ Some (Directory d) → fixed.home d ≡ f
  fixed_place fixed zero le f d h = fixed.first f d h
  fixed_place fixed (suc j) le f d h = ⊎_elim
      (λ (member : has j ≡ true). ⊎_elim
      (λ (stays : F j f ≡ Some (Directory d)). fixed_place fixed j (omega (arith, le)) f d stays)
      (λ (w : (ops j ≡ Create f (Directory d))
      ⊎ ((a : Entry) × IsMoved (ops j) a × (F j a ≡ Some (Directory d)))). ⊎_elim
      (λ (made : ops j ≡ Create f (Directory d)). fixed.made j f d (omega (arith, le)) made)
      (λ (m : (a : Entry) × IsMoved (ops j) a × (F j a ≡ Some (Directory d))). absurd
      (fixed.stay j (omega (arith, le)) (moves_directory j (omega (arith, le)) member m.0 d m.1 m.2)))
      w)
      (stays_or_moves (F j) (ops j) f d (sym (member_step start ops has j f member) ∙ h)))
      (λ (other : has j ≡ false).
      fixed_place fixed j (omega (arith, le)) f d (sym (other_step start ops has j f other) ∙ h))
      (cases_Bool (has j))
    where
      moves_directory : (j : ℕ) → j < n → has j ≡ true → (a : Entry) (d : ℕ) → IsMoved (ops j) a
          → F j a ≡ Some (Directory d) → MovesDirectory (ops j)
      moves_directory j lt member a d m held =
          (let t : touches (ops j) a ≡ true =
          ap (λ o. touches o a) m.is ∙ ap (λ t. t || entry_eq m.to a) (same_entry a) in
          let l = subst (IsLegal (E j)) m.is (legal j lt) in
          subst MovesDirectory (sym m.is)
          (by m.node (sym l.1 ∙ sym (same start ops has needs j j a (omega arith) member t) ∙ held)))
        where
          by : (node : Node) → Some node ≡ Some (Directory d) → MovesDirectory (Move a m.to node m.old)
          by (Directory c) w = tt
          by (File kind file) w = absurd (no_directory kind file d w)

  -- a directory that a member makes isn't held yet
  new_left : (k : ℕ) → k < n → has k ≡ true → (e : Entry) (d : ℕ) → ops k ≡ Create e (Directory d)
      → (f : Entry) → F k f ≢ Some (Directory d)
  new_left k lt member e d made f held = ⊎_elim
      (λ (own : AreNumbered start ops n). not_made start ops has n own k k f e d (omega arith) lt made held)
      (λ (fixed : AreFixed start ops n).
      (let at = sym (fixed_place fixed k (omega (arith, lt)) f d held) ∙ fixed.made k e d lt made in
      let l = subst (IsLegal (E k)) made (legal k lt) in
      let t : touches (ops k) e ≡ true = ap (λ o. touches o e) made ∙ same_entry e in
      no_node (Directory d)
      (sym (same start ops has needs k k e (omega arith) member t ∙ l.0) ∙ ap (F k) (sym at) ∙ held)))
      numbered

  -- ---- before a member
  module _ (k : ℕ) (low : k < n) (member : has k ≡ true) where
    -- the directory of an entry that it touches, where it is held in the trace, is held
    held_left : (g : Entry) → touches (ops k) g ≡ true → (j : ℕ) → j ≤ k
        → IsHeld (E j) g.directory → IsHeld (F j) g.directory
    held_left g touching zero le h = h
    held_left g touching (suc j) le h = ⊎_elim
        (λ (has_j : has j ≡ true). ⊎_elim
        (λ (t : touches (ops j) h.0 ≡ true). (h.0, same_after start ops has needs j h.0 has_j t ∙ h.1))
        (λ (free : touches (ops j) h.0 ≡ false).
        (let was : E j h.0 ≡ Some (Directory g.directory) = sym (untouched (E j) (ops j) h.0 free) ∙ h.1 in
        let w = held_left g touching j (omega (arith, le)) (h.0, was) in
        ⊎_elim
        (λ (t : touches (ops j) w.0 ≡ true). absurd
        (let there : E j w.0 ≡ Some (Directory g.directory) =
        sym (same start ops has needs j j w.0 (omega arith) has_j t) ∙ w.1 in
        let e = (whole_tree j (omega (arith, le, low))).one w.0 h.0 g.directory there was in
        false≢true (sym free ∙ ap (touches (ops j)) (sym e) ∙ t)))
        (λ (still : touches (ops j) w.0 ≡ false). (w.0, idle_step start ops has j w.0 still ∙ w.1))
        (cases_Bool (touches (ops j) w.0))))
        (cases_Bool (touches (ops j) h.0)))
        (λ (other : has j ≡ false). ⊎_elim
        (λ (before : IsHeld (E j) g.directory).
        (let w = held_left g touching j (omega (arith, le)) before in
        (w.0, other_step start ops has j w.0 other ∙ w.1)))
        (λ (made : (e : Entry) × (ops j ≡ Create e (Directory g.directory))). absurd
        (false≢true
        (sym other ∙ needs.maker j k g made.0 (omega (arith, le)) member touching made.1)))
        (held_before (E j) (ops j) h.0 g.directory h.1))
        (cases_Bool (has j))

    -- and so it is reached
    pub reached_left : IsTree (F k) → (passes : Entry → Type 0) (g : Entry) → touches (ops k) g ≡ true
        → IsReached (E k) passes g.directory → IsReached (F k) Any g.directory
    reached_left here passes g touching w = by w.0 w.1
      where
        by : (i : ℕ) → Way (E k) passes i g.directory → IsReached (F k) Any g.directory
        by zero z = (0, z)
        by (suc i) z =
            (let h = held_left g touching k (omega arith) (z.0, z.1) in
            let up = here.reached h.0 (Directory g.directory) h.1 in
            (suc up.0, (h.0, h.1, tt, up.1)))

    -- if a member moves a directory, each directory of the state is at the entry at which the trace
    -- has it then
    placed : MovesDirectory (ops k) → (j : ℕ) → j ≤ k → (f : Entry) (d : ℕ)
        → F j f ≡ Some (Directory d) → IsHeld (E j) d → E j f ≡ Some (Directory d)
    placed moving zero le f d is h = is
    placed moving (suc j) le f d is h = ⊎_elim
        (λ (has_j : has j ≡ true). ⊎_elim
        (λ (t : touches (ops j) f ≡ true). sym (same_after start ops has needs j f has_j t) ∙ is)
        (λ (free : touches (ops j) f ≡ false).
        untouched (E j) (ops j) f free ∙ was (placed moving j (omega (arith, le)) f d) (sym (idle_step start ops has j f free) ∙ is))
        (cases_Bool (touches (ops j) f)))
        (λ (other : has j ≡ false).
        (let there = was (placed moving j (omega (arith, le)) f d) (sym (other_step start ops has j f other) ∙ is) in ⊎_elim
        (λ (free : touches (ops j) f ≡ false). untouched (E j) (ops j) f free ∙ there)
        (λ (t : touches (ops j) f ≡ true). ⊎_elim
        (λ (e : h.0 ≡ f). sym (ap (E (suc j)) e) ∙ h.1)
        (λ (apart : h.0 ≢ f). absurd (⊎_elim
        (λ (free : touches (ops j) h.0 ≡ false).
        apart ((whole_tree j (omega (arith, le, low))).one h.0 f d
        (sym (untouched (E j) (ops j) h.0 free) ∙ h.1) there))
        (λ (th : touches (ops j) h.0 ≡ true).
        (let m = moved_between (E j) (ops j) h.0 f d (legal j (omega (arith, le, low))) th t apart there h.1 in
        false≢true (sym other ∙ needs.moves j k (omega (arith, le)) member m moving)))
        (one_of (touches (ops j) h.0))))
        (entry_either h.0 f))
        (one_of (touches (ops j) f))))
        (cases_Bool (has j))
      where
        one_of : (b : Bool) → (b ≡ false) ⊎ (b ≡ true)
        one_of true = inr refl
        one_of false = inl refl

        was : (F j f ≡ Some (Directory d) → IsHeld (E j) d → E j f ≡ Some (Directory d))
            → F j f ≡ Some (Directory d) → E j f ≡ Some (Directory d)
        was earlier before = ⊎_elim
            (λ (held : IsHeld (E j) d). earlier before held)
            (λ (made : (e : Entry) × (ops j ≡ Create e (Directory d))). absurd (⊎_elim
            (λ (own : AreNumbered start ops n).
            not_made start ops has n own j j f made.0 d (omega arith) (omega (arith, le, low)) made.1 before)
            (λ (fixed : AreFixed start ops n). fixed.stay k low moving)
            numbered))
            (held_before (E j) (ops j) h.0 d h.1)

    -- a way that avoids an entry in the trace does so in what is left
    avoided : MovesDirectory (ops k) → IsTree (F k) → (a : Entry) → (i j d : ℕ)
        → Way (F k) Any i d → Way (E k) (λ f. f ≢ a) j d → Way (F k) (λ f. f ≢ a) i d
    avoided moving here a zero j d w v = w
    avoided moving here a (suc i) zero d w v =
        absurd (here.root w.0 (w.1 ∙ ap (λ c. Some (Directory c)) v))
    avoided moving here a (suc i) (suc j) d w v =
        (let there = placed moving k (omega arith) w.0 d w.1 (v.0, v.1) in
        let e = (whole_tree k (omega (arith, low))).one v.0 w.0 d v.1 there in (
          w.0,
          w.1,
          (λ g. v.2 (e ∙ g)),
          avoided moving here a i j w.0.directory w.3
              (subst (λ f. Way (E k) (λ f. f ≢ a) j f.directory) e v.3),
        ))

    way_of_directories : (m : Entries) (a : Entry) (kind : FileKind) (file : ℕ) → m a ≡ Some (File kind file) → (d : ℕ)
        → IsReached m Any d → IsReached m (λ f. f ≢ a) d
    way_of_directories m a kind file is d w = (
      w.0,
      way_kept m m Any (λ f. f ≢ a)
          (λ f c held passes. (held, (λ e. no_directory kind file c (sym is ∙ ap m (sym e) ∙ held)))) w.0 d w.1,
    )

    empty_left : (d : ℕ) → Removes (ops k) d → IsEmpty (E k) d → IsEmpty (F k) d
    empty_left d removes empty e inside =
        all_same start ops has needs k e
        (λ i lt t. needs.emptied i k e lt member t (subst (Removes (ops k)) (sym inside) removes)) k (omega arith)
        ∙ empty e inside

    -- a member is legal in what the members before it leave
    pub legal_left : IsTree (F k) → IsLegal (F k) (ops k)
    legal_left here = by (ops k) refl (legal k low)
      where
        agrees : (e : Entry) → touches (ops k) e ≡ true → F k e ≡ E k e
        agrees e t = same start ops has needs k k e (omega arith) member t

        by : (o : EntryOp) → ops k ≡ o → IsLegal (E k) o → IsLegal (F k) o
        by (Create e node) is l = (
          agrees e (touching e (same_entry e)) ∙ l.0,
          reached_left here Any e (touching e (same_entry e)) l.1,
          new node is l.2,
        )
          where
            touching : (q : Entry) → touches (Create e node) q ≡ true → touches (ops k) q ≡ true
            touching q t = ap (λ w. touches w q) is ∙ t

            new : (node : Node) → ops k ≡ Create e node → IsNew (E k) node → IsNew (F k) node
            new (Directory d) made was = (was.0, new_left k low member e d made)
            new (File kind file) made was = tt
        by (Link e kind file) is l =
            (let t = ap (λ w. touches w e) is ∙ same_entry e in
            ((λ d held. l.0 d (sym (agrees e t) ∙ held)), reached_left here Any e t l.1))
        by (Delete e node) is l =
            (let t = ap (λ w. touches w e) is ∙ same_entry e in (
              agrees e t ∙ l.0,
              (λ d held. empty_left d (removing node is d held) (l.1 d held)),
            ))
          where
            removing : (node : Node) → ops k ≡ Delete e node → (d : ℕ)
                → Some node ≡ Some (Directory d) → Removes (ops k) d
            removing (Directory c) w d held = subst (λ v. Removes v d) (sym w) (same_number c d held)
            removing (File kind file) w d held = absurd (no_directory kind file d held)
        by (Move a b node old) is l =
            (let ta = ap (λ w. touches w a) is ∙ ap (λ t. t || entry_eq b a) (same_entry a) in
            let tb = ap (λ w. touches w b) is ∙ second (entry_eq a b) (entry_eq b b) (same_entry b) in (
              l.0,
              agrees a ta ∙ l.1,
              agrees b tb ∙ l.2,
              (λ d held. empty_left d (removing old is d held) (l.3 d held)),
              way node is (agrees a ta ∙ l.1) (reached_left here (λ f. f ≢ a) b tb l.4) l.4,
            ))
          where
            second : (s t : Bool) → t ≡ true → (s || t) ≡ true
            second true t h = refl
            second false t h = h

            removing : (old : Option Node) → ops k ≡ Move a b node old → (d : ℕ)
                → old ≡ Some (Directory d) → Removes (ops k) d
            removing None w d held = absurd (no_node (Directory d) held)
            removing (Some (Directory c)) w d held =
                subst (λ v. Removes v d) (sym w) (same_number c d held)
            removing (Some (File kind file)) w d held = absurd (no_directory kind file d held)

            way : (node : Node) → ops k ≡ Move a b node old → F k a ≡ Some node
                → IsReached (F k) Any b.directory → IsReached (E k) (λ f. f ≢ a) b.directory
                → IsReached (F k) (λ f. f ≢ a) b.directory
            way (Directory d) w at there way_there = (
              there.0,
              avoided (subst MovesDirectory (sym w) tt) here a there.0 way_there.0
                  b.directory there.1 way_there.1,
            )
            way (File kind file) w at there way_there =
                way_of_directories (F k) a kind file at b.directory there
        by Other is l = tt

  -- what an allowed set leaves is a tree
  pub tree_left : (k : ℕ) → k ≤ n → IsTree (F k)
  tree_left zero le = tree
  tree_left (suc k) le = ⊎_elim
      (λ (member : has k ≡ true). subst IsTree (sym (ap (λ t. step t) member))
      (tree_after (F k) (ops k) (tree_left k (omega (arith, le)))
      (legal_left k (omega (arith, le)) member (tree_left k (omega (arith, le))))))
      (λ (other : has k ≡ false). subst IsTree (sym (ap (λ t. step t) other))
      (tree_left k (omega (arith, le))))
      (cases_Bool (has k))
    where
      step : Bool → Entries
      step t = λ e. cond t (after (F k) (ops k) e) (F k e)
