-- One operation on entries.
use Rattle.std.proofs.Common.{◌≡◌, ◌≢◌, ℕ, ◌&&◌, ◌||◌, Bool, true, false, cond, List}
use Rattle.std.proofs.Common.{◌⊎◌, inl, inr, Option, None, Some, refl, sym, ap, ◌∙◌, ⊎_elim}
use Rattle.std.proofs.lemmas.Bool.{cases_eq, false≢true, cases_Bool, eq-eqb, ne_eqb, or_cases}
use Rattle.std.specs.Option.{is_some}
use Rattle.std.specs.Cmp.Lexicographic.{same_text, other_text}
use Rattle.cs_names.specs.Texts.{same_bytes}
use Rattle.cs_entries.specs.Entries.{Entries, Entry, entry_eq, put, after}
use Rattle.cs_entries.specs.Entries.{EntryOp, Create, Link, Delete, Move, Other, touches, MovesDirectory}
use Rattle.cs_entries.specs.Legal.{IsHeld, IsLegal}
use Rattle.cs_entries.specs.declared.node.Node.{Node}
use Rattle.cs_entries.specs.declared.node.Node.TheVariants.{Directory, File}
use Rattle.cs_entries.specs.declared.node.FileKind.{FileKind}

pub name_cases : (x y : List ℕ) → ((same_bytes x y ≡ true) × (x ≡ y)) ⊎ ((same_bytes x y ≡ false) × (x ≢ y))
name_cases x y = ⊎_elim
    (λ (h : same_bytes x y ≡ true). inl (h, same_text x y (sym h)))
    (λ (h : same_bytes x y ≡ false). inr (h, other_text x y (sym h)))
    (cases_Bool (same_bytes x y))

pub entry_cases : (e f : Entry) → ((entry_eq e f ≡ true) × (e ≡ f)) ⊎ ((entry_eq e f ≡ false) × (e ≢ f))
entry_cases e f = ⊎_elim
    (λ (d : e.directory ≡ f.directory). ⊎_elim
    (λ (n : (same_bytes e.name f.name ≡ true) × (e.name ≡ f.name)). inl (
      (λ i. eq-eqb e.directory f.directory d i && n.0 i),
      (λ i. record { directory = d i; name = n.1 i }),
    ))
    (λ (n : (same_bytes e.name f.name ≡ false) × (e.name ≢ f.name)). inr (
      (λ i. eq-eqb e.directory f.directory d i && n.0 i),
      (λ same. n.1 (ap (λ g. g.name) same)),
    ))
    (name_cases e.name f.name))
    (λ (d : e.directory ≢ f.directory). inr (
      ap (λ b. b && same_bytes e.name f.name) (ne_eqb e.directory f.directory d),
      (λ same. d (ap (λ g. g.directory) same)),
    ))
    (cases_eq e.directory f.directory)

pub same_entry : (e : Entry) → entry_eq e e ≡ true
same_entry e = ⊎_elim
    (λ (one : (entry_eq e e ≡ true) × (e ≡ e)). one.0)
    (λ (two : (entry_eq e e ≡ false) × (e ≢ e)). absurd (two.1 refl))
    (entry_cases e e)

pub entry_from : (e f : Entry) → entry_eq e f ≡ true → e ≡ f
entry_from e f h = ⊎_elim
    (λ (one : (entry_eq e f ≡ true) × (e ≡ f)). one.1)
    (λ (two : (entry_eq e f ≡ false) × (e ≢ f)). absurd (false≢true (sym two.0 ∙ h)))
    (entry_cases e f)

pub other_entry : (e f : Entry) → e ≢ f → entry_eq e f ≡ false
other_entry e f h = ⊎_elim
    (λ (one : (entry_eq e f ≡ true) × (e ≡ f)). absurd (h one.1))
    (λ (two : (entry_eq e f ≡ false) × (e ≢ f)). two.0)
    (entry_cases e f)

-- ---- what an entry holds

number_in : Option Node → ℕ
number_in (Some (Directory d)) = d
number_in _ = 0

pub same_number : (d c : ℕ) → Some (Directory d) ≡ Some (Directory c) → d ≡ c
unfolding number_in
same_number d c h = ap number_in h

pub no_node : (node : Node) → None ≡ Some node → ⊥
no_node node h = false≢true (ap is_some h)

is_directory : Option Node → Bool
is_directory (Some (Directory d)) = true
is_directory _ = false

pub no_directory : (kind : FileKind) (file d : ℕ) → Some (File kind file) ≡ Some (Directory d) → ⊥
unfolding is_directory
no_directory kind file d h = false≢true (ap is_directory h)

pub put_here : (m : Entries) (e : Entry) (held : Option Node) → put m e held e ≡ held
put_here m e held = ap (λ b. cond b held (m e)) (same_entry e)

pub put_other : (m : Entries) (e q : Entry) (held : Option Node) → e ≢ q → put m e held q ≡ m q
put_other m e q held h = ap (λ b. cond b held (m q)) (other_entry e q h)

-- ---- what an operation leaves

pub untouched : (m : Entries) (o : EntryOp) (q : Entry) → touches o q ≡ false → after m o q ≡ m q
untouched m (Create e node) q h = ap (λ b. cond b (Some node) (m q)) h
untouched m (Link e kind file) q h = ap (λ b. cond b (Some (File kind file)) (m q)) h
untouched m (Delete e node) q h = ap (λ b. cond b None (m q)) h
untouched m (Move a b node old) q h =
    move_apart (entry_eq a q) (entry_eq b q) h
  where
    move_apart : (s t : Bool) → (s || t) ≡ false → cond t (m a) (cond s None (m q)) ≡ m q
    move_apart true t w = absurd (false≢true (sym w))
    move_apart false true w = absurd (false≢true (sym w))
    move_apart false false w = refl
untouched m Other q h = refl

pub agree : (m n : Entries) (o : EntryOp) → ((q : Entry) → touches o q ≡ true → m q ≡ n q) → (q : Entry)
    → touches o q ≡ true → after m o q ≡ after n o q
agree m n (Create e node) same q h = λ i. cond (entry_eq e q) (Some node) (same q h i)
agree m n (Link e kind file) same q h = λ i. cond (entry_eq e q) (Some (File kind file)) (same q h i)
agree m n (Delete e node) same q h = λ i. cond (entry_eq e q) None (same q h i)
agree m n (Move a b node old) same q h =
    λ i. cond (entry_eq b q) (same a (ap (λ t. t || entry_eq b a) (same_entry a)) i)
    (cond (entry_eq a q) None (same q h i))
agree m n Other same q h = same q h

-- a directory that an entry holds after it was held before, or is made by it
pub held_before : (m : Entries) (o : EntryOp) (q : Entry) (d : ℕ) → after m o q ≡ Some (Directory d)
    → IsHeld m d ⊎ ((e : Entry) × (o ≡ Create e (Directory d)))
held_before m (Create e node) q d h = ⊎_elim
    (λ (t : entry_eq e q ≡ true). inr (e, ap (Create e) (same_node (sym (ap (λ b. cond b (Some node) (m q)) t) ∙ h))))
    (λ (f : entry_eq e q ≡ false). inl (q, sym (ap (λ b. cond b (Some node) (m q)) f) ∙ h))
    (cases_Bool (entry_eq e q))
  where
    same_node : Some node ≡ Some (Directory d) → node ≡ Directory d
    same_node w = cc
held_before m (Link e kind file) q d h = ⊎_elim
    (λ (t : entry_eq e q ≡ true). absurd (no_directory kind file d (sym (ap (λ b. cond b (Some (File kind file)) (m q)) t) ∙ h)))
    (λ (f : entry_eq e q ≡ false). inl (q, sym (ap (λ b. cond b (Some (File kind file)) (m q)) f) ∙ h))
    (cases_Bool (entry_eq e q))
held_before m (Delete e node) q d h = ⊎_elim
    (λ (t : entry_eq e q ≡ true). absurd (no_node (Directory d) (sym (ap (λ b. cond b None (m q)) t) ∙ h)))
    (λ (f : entry_eq e q ≡ false). inl (q, sym (ap (λ b. cond b None (m q)) f) ∙ h))
    (cases_Bool (entry_eq e q))
held_before m (Move a b node old) q d h = by (entry_eq a q) (entry_eq b q) h
  where
    by : (s t : Bool) → cond t (m a) (cond s None (m q)) ≡ Some (Directory d)
        → IsHeld m d ⊎ ((e : Entry) × (Move a b node old ≡ Create e (Directory d)))
    by s true w = inl (a, w)
    by true false w = absurd (no_node (Directory d) w)
    by false false w = inl (q, w)
held_before m Other q d h = inl (q, h)

-- what was at one entry that it touches and is at another after it has been moved
pub moved_between : (m : Entries) (o : EntryOp) (e f : Entry) (d : ℕ) → IsLegal m o
    → touches o e ≡ true → touches o f ≡ true → e ≢ f → m f ≡ Some (Directory d)
    → after m o e ≡ Some (Directory d) → MovesDirectory o
moved_between m (Create p node) e f d l te tf apart was is =
    absurd (apart (sym (entry_from p e te) ∙ entry_from p f tf))
moved_between m (Link p kind file) e f d l te tf apart was is =
    absurd (apart (sym (entry_from p e te) ∙ entry_from p f tf))
moved_between m (Delete p node) e f d l te tf apart was is =
    absurd (apart (sym (entry_from p e te) ∙ entry_from p f tf))
moved_between m (Move a b node old) e f d l te tf apart was is = ⊎_elim
    (λ (at_a : entry_eq a f ≡ true). by node (sym l.1 ∙ ap m (entry_from a f at_a) ∙ was))
    (λ (at_b : entry_eq b f ≡ true). ⊎_elim
    (λ (left : entry_eq a e ≡ true). absurd
    (no_node (Directory d)
    (sym (ap (λ t. cond t (m a) (cond (entry_eq a a) None (m a))) (other_entry b a (λ w. l.0 (sym w)))
    ∙ ap (λ t. cond t None (m a)) (same_entry a))
    ∙ ap (after m (Move a b node old)) (entry_from a e left) ∙ is)))
    (λ (right : entry_eq b e ≡ true). absurd (apart (sym (entry_from b e right) ∙ entry_from b f at_b)))
    (or_cases (entry_eq a e) (entry_eq b e) te))
    (or_cases (entry_eq a f) (entry_eq b f) tf)
  where
    by : (node : Node) → Some node ≡ Some (Directory d) → MovesDirectory (Move a b node old)
    by (Directory c) w = tt
    by (File kind file) w = absurd (no_directory kind file d w)
moved_between m Other e f d l te tf apart was is = absurd (false≢true te)

-- it moves what this entry holds
pub record IsMoved (o : EntryOp) (a : Entry) : Type 0 where
  pub to : Entry
  pub node : Node
  pub old : Option Node
  pub is : o ≡ Move a to node old

-- a directory that an entry holds after it was there, or is made there, or is moved
pub stays_or_moves : (m : Entries) (o : EntryOp) (q : Entry) (d : ℕ) → after m o q ≡ Some (Directory d)
    → (m q ≡ Some (Directory d)) ⊎ ((o ≡ Create q (Directory d))
    ⊎ ((a : Entry) × IsMoved o a × (m a ≡ Some (Directory d))))
stays_or_moves m (Create e node) q d h = ⊎_elim
    (λ (t : entry_eq e q ≡ true). inr (inl
    (λ i. Create (entry_from e q t i) (same_node (sym (ap (λ b. cond b (Some node) (m q)) t) ∙ h) i))))
    (λ (f : entry_eq e q ≡ false). inl (sym (ap (λ b. cond b (Some node) (m q)) f) ∙ h))
    (cases_Bool (entry_eq e q))
  where
    same_node : Some node ≡ Some (Directory d) → node ≡ Directory d
    same_node w = cc
stays_or_moves m (Link e kind file) q d h = ⊎_elim
    (λ (t : entry_eq e q ≡ true). absurd (no_directory kind file d (sym (ap (λ b. cond b (Some (File kind file)) (m q)) t) ∙ h)))
    (λ (f : entry_eq e q ≡ false). inl (sym (ap (λ b. cond b (Some (File kind file)) (m q)) f) ∙ h))
    (cases_Bool (entry_eq e q))
stays_or_moves m (Delete e node) q d h = ⊎_elim
    (λ (t : entry_eq e q ≡ true). absurd (no_node (Directory d) (sym (ap (λ b. cond b None (m q)) t) ∙ h)))
    (λ (f : entry_eq e q ≡ false). inl (sym (ap (λ b. cond b None (m q)) f) ∙ h))
    (cases_Bool (entry_eq e q))
stays_or_moves m (Move a b node old) q d h = by (entry_eq a q) (entry_eq b q) h
  where
    by : (s t : Bool) → cond t (m a) (cond s None (m q)) ≡ Some (Directory d)
        → (m q ≡ Some (Directory d)) ⊎ ((Move a b node old ≡ Create q (Directory d))
        ⊎ ((a' : Entry) × IsMoved (Move a b node old) a' × (m a' ≡ Some (Directory d))))
    by s true w = inr (inr (a, record { to = b; node = node; old = old; is = refl }, w))
    by true false w = absurd (no_node (Directory d) w)
    by false false w = inl w
stays_or_moves m Other q d h = inl h
