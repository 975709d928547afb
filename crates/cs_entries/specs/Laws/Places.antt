-- Where the directories of a set are: at one entry each, by the moves of directories only.
use Rattle.std.proofs.Common.{◌≡◌, ◌≢◌, ℕ, zero, suc, ◌<◌, ◌≤◌, ◌==◌, Bool, true, false, cond}
use Rattle.std.proofs.Common.{◌⊎◌, inl, inr, Option, None, Some, refl, sym, ap, ◌∙◌, subst, arith, ⊎_elim}
use Rattle.std.proofs.lemmas.Bool.{cases_eq, cases_Bool, eq-eqb, ne_eqb}
use Rattle.cs_entries.specs.Entries.{Entries, Entry, entry_eq, put, after}
use Rattle.cs_entries.specs.Entries.{EntryOp, Create, Link, Delete, Move, Other, Removes, MovesDirectory}
use Rattle.cs_entries.specs.Legal.{Way, Any, IsHeld, IsTree, IsLegal}
use Rattle.cs_entries.specs.Sets.{HasNeeds, AreNumbered}
use Rattle.cs_entries.specs.Positions.{placed_by, position, AreHomes}
use Rattle.cs_entries.specs.Laws.One.{entry_cases, put_here, put_other, same_number, no_node, no_directory}
use Rattle.cs_entries.specs.Laws.Left.{left, whole, Made, not_made, member_step, other_step, legal_left}
use Rattle.cs_entries.specs.Laws.Left.{tree_left, origin}
use Rattle.cs_entries.specs.declared.node.Node.{Node}
use Rattle.cs_entries.specs.declared.node.Node.TheVariants.{Directory, File}

-- a directory stays held until it is removed
pub kept_held : (m : Entries) (o : EntryOp) (d : ℕ) → IsLegal m o → IsHeld m d → (Removes o d → ⊥)
    → IsHeld (after m o) d
kept_held m (Create e node) d l h stays = (
  h.0,
  put_other m e h.0 (Some node)
      (λ s. no_node (Directory d) (sym l.0 ∙ ap m s ∙ h.1)) ∙ h.1,
)
kept_held m (Link e kind file) d l h stays =
    (h.0, put_other m e h.0 (Some (File kind file)) (λ s. l.0 d (ap m s ∙ h.1)) ∙ h.1)
kept_held m (Delete e node) d l h stays = ⊎_elim
    (λ (s : (entry_eq e h.0 ≡ true) × (e ≡ h.0)). absurd
    (stays (removed node (sym l.0 ∙ ap m s.1 ∙ h.1))))
    (λ (s : (entry_eq e h.0 ≡ false) × (e ≢ h.0)). (h.0, put_other m e h.0 None s.1 ∙ h.1))
    (entry_cases e h.0)
  where
    removed : (node : Node) → Some node ≡ Some (Directory d) → Removes (Delete e node) d
    removed (Directory c) w = same_number c d w
    removed (File kind file) w = absurd (no_directory kind file d w)
kept_held m (Move a b node old) d l h stays = ⊎_elim
    (λ (s : (entry_eq b h.0 ≡ true) × (b ≡ h.0)). absurd
    (stays (removed old (sym l.2 ∙ ap m s.1 ∙ h.1))))
    (λ (s : (entry_eq b h.0 ≡ false) × (b ≢ h.0)). ⊎_elim
    (λ (t : (entry_eq a h.0 ≡ true) × (a ≡ h.0)). (b, put_here (put m a None) b (m a) ∙ ap m t.1 ∙ h.1))
    (λ (t : (entry_eq a h.0 ≡ false) × (a ≢ h.0)).
    (h.0, put_other (put m a None) b h.0 (m a) s.1 ∙ put_other m a h.0 None t.1 ∙ h.1))
    (entry_cases a h.0))
    (entry_cases b h.0)
  where
    removed : (old : Option Node) → old ≡ Some (Directory d) → Removes (Move a b node old) d
    removed None w = absurd (no_node (Directory d) w)
    removed (Some (Directory c)) w = same_number c d w
    removed (Some (File kind file)) w = absurd (no_directory kind file d w)
kept_held m Other d l h stays = h

-- where a legal operation leaves a directory that was there before
pub moved_place : (m : Entries) (o : EntryOp) (e f : Entry) (d : ℕ) → IsTree m → IsLegal m o
    → ((g : Entry) → o ≢ Create g (Directory d)) → ((g : Entry) → m g ≡ Some (Directory d) → f ≡ g)
    → after m o e ≡ Some (Directory d) → placed_by o d f ≡ e
moved_place m (Create p node) e f d tree l old at is = ⊎_elim
    (λ (s : (entry_eq p e ≡ true) × (p ≡ e)). absurd
    (made node old (sym (put_here m p (Some node)) ∙ ap (put m p (Some node)) s.1 ∙ is)))
    (λ (s : (entry_eq p e ≡ false) × (p ≢ e)). at e (sym (put_other m p e (Some node) s.1) ∙ is))
    (entry_cases p e)
  where
    made : (node : Node) → ((g : Entry) → Create p node ≢ Create g (Directory d))
        → Some node ≡ Some (Directory d) → ⊥
    made (Directory c) other w = other p (ap (λ k. Create p (Directory k)) (same_number c d w))
    made (File kind file) other w = no_directory kind file d w
moved_place m (Link p kind file) e f d tree l old at is = ⊎_elim
    (λ (s : (entry_eq p e ≡ true) × (p ≡ e)). absurd
    (no_directory kind file d (sym (put_here m p (Some (File kind file))) ∙ ap (put m p (Some (File kind file))) s.1 ∙ is)))
    (λ (s : (entry_eq p e ≡ false) × (p ≢ e)). at e (sym (put_other m p e (Some (File kind file)) s.1) ∙ is))
    (entry_cases p e)
moved_place m (Delete p node) e f d tree l old at is = ⊎_elim
    (λ (s : (entry_eq p e ≡ true) × (p ≡ e)). absurd
    (no_node (Directory d) (sym (put_here m p None) ∙ ap (put m p None) s.1 ∙ is)))
    (λ (s : (entry_eq p e ≡ false) × (p ≢ e)). at e (sym (put_other m p e None s.1) ∙ is))
    (entry_cases p e)
moved_place m (Move a b node held) e f d tree l old at is = ⊎_elim
    (λ (s : (entry_eq b e ≡ true) × (b ≡ e)).
    to_b node (sym l.1 ∙ sym (put_here (put m a None) b (m a)) ∙ ap (put (put m a None) b (m a)) s.1 ∙ is)
    ∙ s.1)
    (λ (s : (entry_eq b e ≡ false) × (b ≢ e)). ⊎_elim
    (λ (t : (entry_eq a e ≡ true) × (a ≡ e)). absurd
    (no_node (Directory d)
    (sym (put_other (put m a None) b a (m a) (λ w. l.0 (sym w)) ∙ put_here m a None)
    ∙ ap (put (put m a None) b (m a)) t.1 ∙ is)))
    (λ (t : (entry_eq a e ≡ false) × (a ≢ e)).
    (let was : m e ≡ Some (Directory d) =
    sym (put_other (put m a None) b e (m a) s.1 ∙ put_other m a e None t.1) ∙ is in
    stays node (λ w. t.1 (tree.one a e d (l.1 ∙ w) was)) ∙ at e was))
    (entry_cases a e))
    (entry_cases b e)
  where
    to_b : (node : Node) → Some node ≡ Some (Directory d) → placed_by (Move a b node held) d f ≡ b
    to_b (Directory c) w = ap (λ t. cond t b f) (eq-eqb c d (same_number c d w))
    to_b (File kind file) w = absurd (no_directory kind file d w)

    stays : (node : Node) → Some node ≢ Some (Directory d) → placed_by (Move a b node held) d f ≡ f
    stays (Directory c) w =
        ap (λ t. cond t b f) (ne_eqb c d (λ s. w (ap (λ k. Some (Directory k)) s)))
    stays (File kind file) w = refl
moved_place m Other e f d tree l old at is = at e is

made_number : EntryOp → Option Node
made_number (Create e node) = Some node
made_number _ = None

makes_or_not : (o : EntryOp) (d : ℕ) → ((g : Entry) × (o ≡ Create g (Directory d)))
    ⊎ ((g : Entry) → o ≢ Create g (Directory d))
unfolding made_number
makes_or_not (Create p (Directory c)) d = ⊎_elim
    (λ (e : c ≡ d). inl (p, ap (λ k. Create p (Directory k)) e))
    (λ (e : c ≢ d). inr (λ g h. e (same_number c d (ap made_number h))))
    (cases_eq c d)
makes_or_not (Create p (File kind file)) d = inr (λ g h. no_directory kind file d (ap made_number h))
makes_or_not (Link p kind file) d = inr (λ g h. no_node (Directory d) (ap made_number h))
makes_or_not (Delete p node) d = inr (λ g h. no_node (Directory d) (ap made_number h))
makes_or_not (Move a b node old) d = inr (λ g h. no_node (Directory d) (ap made_number h))
makes_or_not Other d = inr (λ g h. no_node (Directory d) (ap made_number h))

module _ (start : Entries) (ops : ℕ → EntryOp) (n : ℕ) (has : ℕ → Bool) (needs : HasNeeds ops has)
    (tree : IsTree start)
    (legal : (k : ℕ) → k < n → IsLegal (whole start ops k) (ops k))
    (numbered : AreNumbered start ops n) where
  abbrev F : ℕ → Entries
  F k = left start ops has k

  tree_at : (k : ℕ) → k ≤ n → IsTree (F k)
  tree_at k le = tree_left start ops n has needs tree legal (inl numbered) k le

  legal_at : (k : ℕ) → k < n → has k ≡ true → IsLegal (F k) (ops k)
  legal_at k lt member =
      legal_left start ops n has needs tree legal (inl numbered) k lt member (tree_at k (omega (arith, lt)))

  after_member : (k : ℕ) (e : Entry) → has k ≡ true → F (suc k) e ≡ after (F k) (ops k) e
  after_member k e member = member_step start ops has k e member

  -- a directory that is held, and that no member from then on removes, is held
  pub still_held : (i j d : ℕ) → i ≤ j → j ≤ n → IsHeld (F i) d
      → ((k : ℕ) → i ≤ k → k < j → has k ≡ true → Removes (ops k) d → ⊥) → IsHeld (F j) d
  still_held i zero d le low h stays = (let z : i ≡ 0 = omega (arith, le) in subst (λ k. IsHeld (F k) d) z h)
  still_held i (suc j) d le low h stays = ⊎_elim
      (λ (e : i ≡ suc j). subst (λ k. IsHeld (F k) d) e h)
      (λ (e : i ≢ suc j).
      (let before = still_held i j d (omega (arith, le, e)) (omega (arith, low)) h
      (λ k from below member gone. stays k from (omega (arith, below)) member gone) in
      ⊎_elim
      (λ (member : has j ≡ true).
      (let w = kept_held (F j) (ops j) d (legal_at j (omega (arith, low)) member) before
      (λ gone. stays j (omega (arith, le, e)) (omega arith) member gone) in
      (w.0, after_member j w.0 member ∙ w.1)))
      (λ (other : has j ≡ false). (before.0, other_step start ops has j before.0 other ∙ before.1))
      (cases_Bool (has j))))
      (cases_eq i (suc j))

  -- a directory that a member makes and none after it removes has just one entry
  pub one_entry : (i d : ℕ) (e : Entry) → i < n → has i ≡ true → ops i ≡ Create e (Directory d)
      → ((k : ℕ) → i < k → k < n → has k ≡ true → Removes (ops k) d → ⊥) → (f : Entry)
      × (F n f ≡ Some (Directory d)) × ((g : Entry) → F n g ≡ Some (Directory d) → f ≡ g)
  one_entry i d e low member made stays =
      (let first : F (suc i) e ≡ Some (Directory d) =
      after_member i e member ∙ ap (λ o. after (F i) o e) made ∙ put_here (F i) e (Some (Directory d)) in
      let h = still_held (suc i) n d (omega (arith, low)) (omega arith) (e, first)
      (λ k from below mk gone. stays k (omega (arith, from)) below mk gone) in
      (h.0, h.1, (λ g at. (tree_at n (omega arith)).one h.0 g d h.1 at)))

  -- the directory of an entry that is left is the root, one of the start, or made by a member, and
  -- it has an entry
  pub directory_made : (e : Entry) (node : Node) → F n e ≡ Some node
      → (e.directory ≡ 0) ⊎ (IsHeld (F n) e.directory
      × (IsHeld start e.directory ⊎ Made start ops has n e.directory))
  directory_made e node is = by e.directory ((tree_at n (omega arith)).reached e node is)
    where
      by : (d : ℕ) → (k : ℕ) × Way (F n) Any k d
          → (d ≡ 0) ⊎ (IsHeld (F n) d × (IsHeld start d ⊎ Made start ops has n d))
      by d w = up w.0 w.1
        where
          up : (k : ℕ) → Way (F n) Any k d
              → (d ≡ 0) ⊎ (IsHeld (F n) d × (IsHeld start d ⊎ Made start ops has n d))
          up zero z = inl z
          up (suc k) z = inr ((z.0, z.1), origin start ops has n z.0 d z.1)

  module _ (home : ℕ → Entry) (homes : AreHomes start ops n home) where
    -- a directory isn't moved before it is made
    at_home : (k d : ℕ) (e : Entry) → k < n → ops k ≡ Create e (Directory d) → (j : ℕ) → j ≤ k
        → position has ops home j d ≡ home d
    at_home k d e low made zero le = refl
    at_home k d e low made (suc j) le = ⊎_elim
        (λ (member : has j ≡ true).
        ap (λ t. cond t (placed_by (ops j) d (position has ops home j d)) (position has ops home j d)) member
        ∙ stays (ops j) (legal_at j (omega (arith, le, low)) member)
        (λ f held. not_made start ops has n numbered j k f e d (omega (arith, le)) low made held)
        ∙ at_home k d e low made j (omega (arith, le)))
        (λ (other : has j ≡ false).
        ap (λ t. cond t (placed_by (ops j) d (position has ops home j d)) (position has ops home j d)) other
        ∙ at_home k d e low made j (omega (arith, le)))
        (cases_Bool (has j))
      where
        stays : (o : EntryOp) → IsLegal (F j) o → ((f : Entry) → F j f ≢ Some (Directory d))
            → placed_by o d (position has ops home j d) ≡ position has ops home j d
        stays (Create p node) l none = refl
        stays (Link p kind file) l none = refl
        stays (Delete p node) l none = refl
        stays (Move a b (Directory c) old) l none =
            ap (λ t. cond t b (position has ops home j d))
            (ne_eqb c d (λ s. none a (l.1 ∙ ap (λ k. Some (Directory k)) s)))
        stays (Move a b (File kind file) old) l none = refl
        stays Other l none = refl

    -- where a directory is
    pub at_position : (j : ℕ) → j ≤ n → (e : Entry) (d : ℕ) → F j e ≡ Some (Directory d)
        → position has ops home j d ≡ e
    at_position zero le e d is = homes.first e d is
    at_position (suc j) le e d is = ⊎_elim
        (λ (member : has j ≡ true).
        ap (λ t. cond t (placed_by (ops j) d (position has ops home j d)) (position has ops home j d)) member
        ∙ ⊎_elim
        (λ (made : (g : Entry) × (ops j ≡ Create g (Directory d))).
        ap (λ o. placed_by o d (position has ops home j d)) made.1
        ∙ at_home j d made.0 (omega (arith, le)) made.1 j (omega arith)
        ∙ homes.made j made.0 d (omega (arith, le)) made.1
        ∙ (tree_at (suc j) le).one made.0 e d
        (after_member j made.0 member ∙ ap (λ o. after (F j) o made.0) made.1
        ∙ put_here (F j) made.0 (Some (Directory d))) is)
        (λ (old : (g : Entry) → ops j ≢ Create g (Directory d)).
        moved_place (F j) (ops j) e (position has ops home j d) d (tree_at j (omega (arith, le)))
        (legal_at j (omega (arith, le)) member) old
        (λ g held. at_position j (omega (arith, le)) g d held)
        (sym (after_member j e member) ∙ is))
        (makes (ops j)))
        (λ (other : has j ≡ false).
        ap (λ t. cond t (placed_by (ops j) d (position has ops home j d)) (position has ops home j d)) other
        ∙ at_position j (omega (arith, le)) e d (sym (other_step start ops has j e other) ∙ is))
        (cases_Bool (has j))
      where
        makes : (o : EntryOp) → ((g : Entry) × (o ≡ Create g (Directory d)))
            ⊎ ((g : Entry) → o ≢ Create g (Directory d))
        makes o = makes_or_not o d

-- two sets that move the same directories have them at the same places
pub same_position : (has other : ℕ → Bool) (ops : ℕ → EntryOp) (home : ℕ → Entry)
    → ((i : ℕ) → MovesDirectory (ops i) → has i ≡ other i) → (k d : ℕ)
    → position has ops home k d ≡ position other ops home k d
same_position has other ops home same zero d = refl
same_position has other ops home same (suc k) d =
    by (ops k) (same k) (same_position has other ops home same k d)
  where
    idle : (t u : Bool) (e f : Entry) → e ≡ f → cond t e e ≡ cond u f f
    idle true true e f h = h
    idle true false e f h = h
    idle false true e f h = h
    idle false false e f h = h

    by : (o : EntryOp) → (MovesDirectory o → has k ≡ other k)
        → position has ops home k d ≡ position other ops home k d
        → cond (has k) (placed_by o d (position has ops home k d)) (position has ops home k d)
        ≡ cond (other k) (placed_by o d (position other ops home k d)) (position other ops home k d)
    by (Move a b (Directory c) old) h e = λ i. cond (h tt i) (cond (c == d) b (e i)) (e i)
    by (Move a b (File kind file) old) h e = idle (has k) (other k) (position has ops home k d) (position other ops home k d) e
    by (Create p node) h e = idle (has k) (other k) (position has ops home k d) (position other ops home k d) e
    by (Link p kind file) h e = idle (has k) (other k) (position has ops home k d) (position other ops home k d) e
    by (Delete p node) h e = idle (has k) (other k) (position has ops home k d) (position other ops home k d) e
    by Other h e = idle (has k) (other k) (position has ops home k d) (position other ops home k d) e
