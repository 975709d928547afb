-- Legal micro-operations by their places, and the numbers of the directories that they make.
use Rattle.std.proofs.Common.{◌≡◌, ◌≢◌, ℕ, zero, suc, ◌+◌, ◌<◌, ◌≤◌, ◌==◌, Bool, true, false}
use Rattle.std.proofs.Common.{List, [], ◌∷◌, ◌++◌, ◌⊎◌, inl, inr, Some, refl, sym, ap}
use Rattle.std.proofs.Common.{◌∙◌, subst, arith, ⊎_elim, length, get_or, length-append}
use Rattle.std.proofs.Math.ListN.{get_or-append}
use Rattle.std.proofs.lemmas.Bool.{eq-eqb, false≢true}
use Rattle.std.proofs.lemmas.Option.{get_or_from_slice_get, slice_get_within}
use Rattle.std.specs.FinMap.{get}
use Rattle.std.specs.Prelude.{if◌then◌else◌}
use Rattle.cs_entries.specs.declared.node.Node.TheVariants.{Directory, File}
use Rattle.cs_entries.specs.DirEntries.{entry_of, root_home}
use Rattle.cs_entries.specs.declared.entry.Entry.{Entry}
use Rattle.cs_entries.specs.Entries.{Create}
use Rattle.cs_entries.specs.Entries.{after, all, entry_eq, state}
use Rattle.cs_entries.specs.Legal.{IsLegal as IsLegalEntryOp}
use Rattle.cs_entries.specs.Sets.{AreFew, AreFixed, AreNumbered}
use Rattle.cs_entries.specs.Tables.{held_in, table_after, table_of}
use Rattle.cs_entries.specs.Laws.One.{entry_cases}
use Rattle.cs_entries.specs.Laws.Records.{table_step}
use Rattle.cs_trace_lines.specs.Versions.{is_fourth}
use Rattle.cs_trace_lines.specs.declared.version.Version.{Version}
use Rattle.cs_trace.specs.Operations.{place_of}
use Rattle.cs_trace.specs.Traces.{AreHomes}
use Rattle.cs_micro.specs.Legal.{AreLegal, Made, homes_after, made_after}
use Rattle.cs_micro.specs.declared.micro_op.MicroOp.{MicroOp}
use Rattle.cs_micro.specs.declared.micro_op.MicroOp.TheVariants.{CreateDirEntry, DeleteDirEntry}
use Rattle.cs_micro.specs.declared.micro_op.MicroOp.TheVariants.{MoveDirEntry, LinkDirEntry}
use Rattle.cs_micro.specs.declared.micro_op.MicroOp.TheVariants.{ChangeFileSize, WriteBlock}
use Rattle.cs_micro.specs.declared.micro_op.MicroOp.TheVariants.{SetAttr, Say}
use Rattle.cs_apm.specs.Rules.{entry_op_at, op_at}
use Rattle.cs_apm.specs.States.{directories_made}
use Rattle.cs_apm.specs.Laws.Makings.{made_at, made_first, legal_at, entries_at, IsMaking}
use Rattle.cs_apm.specs.Laws.Makings.{making_by, move_by}

-- ---- homes

-- the homes stay, and perhaps there is one more
grown_by : (b : Bool) (homes : List Entry) (e : Entry)
    → ((if b then homes ++ e ∷ [] else homes) ≡ homes)
    ⊎ ((f : Entry) × ((if b then homes ++ e ∷ [] else homes) ≡ homes ++ f ∷ []))
grown_by true homes e = inr (e, refl)
grown_by false homes e = inl refl

pub grown : (homes : List Entry) (o : MicroOp)
    → (homes_after homes o ≡ homes) ⊎ ((f : Entry) × (homes_after homes o ≡ homes ++ f ∷ []))
grown homes (CreateDirEntry e (Directory d) rights bytes) =
    grown_by (d == length homes) homes (entry_of e)
grown homes (CreateDirEntry e (File kind file) rights bytes) = inl refl
grown homes (DeleteDirEntry e node) = inl refl
grown homes (MoveDirEntry a b node old) = inl refl
grown homes (LinkDirEntry e kind file old half) = inl refl
grown homes (ChangeFileSize file to) = inl refl
grown homes (WriteBlock file block start at bytes) = inl refl
grown homes (SetAttr target rights) = inl refl
grown homes Say = inl refl

abbrev pub home_in : List Entry → ℕ → Entry
home_in homes d = get_or homes d root_home

-- the homes of before are among those of after
pub record Keeps (old new : List Entry) : Type 0 where
  pub long : length old ≤ length new
  pub same : (d : ℕ) → d < length old → home_in new d ≡ home_in old d

keeps_one : (homes : List Entry) (o : MicroOp) → Keeps homes (homes_after homes o)
keeps_one homes o = ⊎_elim
    (λ (same : homes_after homes o ≡ homes). record {
      long = omega (arith, ap length same);
      same = λ d lt. ap (λ hs. home_in hs d) same;
    })
    (λ (more : (f : Entry) × (homes_after homes o ≡ homes ++ f ∷ [])). record {
      long = omega (arith, ap length more.1, length-append {A = Entry});
      same = λ d lt.
          ap (λ hs. home_in hs d) more.1 ∙ get_or-append homes (more.0 ∷ []) root_home d lt;
    })
    (grown homes o)

module _ (m : Made) (ops : List MicroOp) where
  abbrev pub homes_at : ℕ → List Entry
  homes_at k = (made_at m ops k).homes

  pub keeps : (j k : ℕ) → j ≤ k → Keeps (homes_at j) (homes_at k)
  keeps j zero le =
      let zero_is : j ≡ 0 = omega (arith, le) in
      subst (λ i. Keeps (homes_at i) (homes_at 0)) (sym zero_is) (record {
        long = omega arith;
        same = λ d lt. refl;
      })
  keeps j (suc k) le = ⊎_elim
      (λ (last : j ≡ suc k). subst (λ i. Keeps (homes_at i) (homes_at (suc k))) (sym last) (record {
        long = omega arith;
        same = λ d lt. refl;
      }))
      (λ (before : j ≤ k).
      (let low = keeps j k before in let one = keeps_one (homes_at k) (op_at ops k) in record {
        long = omega (arith, low.long, one.long);
        same = λ d lt. one.same d (omega (arith, low.long, lt)) ∙ low.same d lt;
      }))
      (last_or_before j k le)
    where
      last_or_before : (j k : ℕ) → j ≤ suc k → (j ≡ suc k) ⊎ (j ≤ k)
      last_or_before zero k le = inr (omega arith)
      last_or_before (suc j) zero le = inl (omega (arith, le))
      last_or_before (suc j) (suc k) le = ⊎_elim
          (λ (e : j ≡ suc k). inl (ap suc e))
          (λ (l : j ≤ k). inr (omega (arith, l)))
          (last_or_before j k (omega (arith, le)))

-- as many homes as there were, and at most one more for each directory that is made
counted_by : (b : Bool) (homes : List Entry) (e : Entry)
    → length (if b then homes ++ e ∷ [] else homes) ≤ length homes + 1
counted_by true homes e = omega (arith, length-append {A = Entry})
counted_by false homes e = omega arith

pub counted : (m : Made) (ops : List MicroOp)
    → length (homes_at m ops (length ops)) ≤ length m.homes + length (directories_made ops)
counted m [] = omega arith
counted m (o ∷ ops) =
    let rest = counted (made_after m o) ops in
    let first = ap (λ (w : Made). length w.homes) (made_first m o ops (length ops)) in
    let one = one_more o in
    omega (arith, rest, first, one)
  where
    one_more : (o : MicroOp)
        → length (homes_after m.homes o) + length (directories_made ops)
        ≤ length m.homes + length (directories_made (o ∷ ops))
    one_more (CreateDirEntry e (Directory d) rights bytes) =
        (let c = counted_by (d == length m.homes) m.homes (entry_of e) in omega (arith, c))
    one_more (CreateDirEntry e (File kind file) rights bytes) = omega arith
    one_more (DeleteDirEntry e node) = omega arith
    one_more (MoveDirEntry a b node old) = omega arith
    one_more (LinkDirEntry e kind file old half) = omega arith
    one_more (ChangeFileSize file to) = omega arith
    one_more (WriteBlock file block start at bytes) = omega arith
    one_more (SetAttr target rights) = omega arith
    one_more Say = omega arith

-- ---- places in a list of entries

pub placed : (e : Entry) (homes : List Entry)
    → ((place_of e homes < length homes) × (home_in homes (place_of e homes) ≡ e))
    ⊎ (place_of e homes ≡ length homes)
placed e [] = inr refl
placed e (f ∷ fs) = ⊎_elim
    (λ (one : (entry_eq e f ≡ true) × (e ≡ f)). inl (
      subst (λ k. k < suc (length fs)) (sym (chosen one.0)) (omega arith),
      ap (home_in (f ∷ fs)) (chosen one.0) ∙ sym one.1,
    ))
    (λ (two : (entry_eq e f ≡ false) × (e ≢ f)). ⊎_elim
    (λ (inside : (place_of e fs < length fs) × (home_in fs (place_of e fs) ≡ e)). inl (
      (let l = inside.0 in
          subst (λ k. k < suc (length fs)) (sym (chosen two.0)) (omega (arith, l))),
      ap (home_in (f ∷ fs)) (chosen two.0) ∙ inside.1,
    ))
    (λ (past : place_of e fs ≡ length fs). inr (chosen two.0 ∙ ap suc past))
    (placed e fs))
    (entry_cases e f)
  where
    chosen : {b : Bool} → entry_eq e f ≡ b
        → place_of e (f ∷ fs) ≡ (if b then 0 else suc (place_of e fs))
    chosen h = ap (λ b. if b then 0 else suc (place_of e fs)) h

module _ (version : Version) (m : Made) (ops : List MicroOp) (legal : AreLegal version m ops)
    (homes : AreHomes m.entries m.homes) where
  abbrev n : ℕ
  n = length ops

  abbrev at : ℕ → List Entry
  at k = homes_at m ops k

  -- ---- legal of entries

  held : (k : ℕ) → k ≤ n
      → held_in (table_of all m.entries (entry_op_at ops) k)
      ≡ state all (held_in m.entries) (entry_op_at ops) k
  held zero le = refl
  held (suc k) le = λ i e. step (held k (omega (arith, le))) e i
    where
      legal_here : IsLegalEntryOp (held_in (table_of all m.entries (entry_op_at ops) k))
          (entry_op_at ops k)
      legal_here =
          subst (λ t. IsLegalEntryOp (held_in t) (entry_op_at ops k)) (entries_at m ops k)
          (legal_at version m ops legal k (omega (arith, le))).entry

      step : held_in (table_of all m.entries (entry_op_at ops) k)
          ≡ state all (held_in m.entries) (entry_op_at ops) k
          → (e : Entry)
          → get (table_after (table_of all m.entries (entry_op_at ops) k) (entry_op_at ops k)) e
          ≡ after (state all (held_in m.entries) (entry_op_at ops) k) (entry_op_at ops k) e
      step before e =
          table_step (table_of all m.entries (entry_op_at ops) k) (entry_op_at ops k) legal_here e
          ∙ ap (λ h. after h (entry_op_at ops k) e) before

  pub legal_entries : (k : ℕ) → k < n
      → IsLegalEntryOp (state all (held_in m.entries) (entry_op_at ops) k) (entry_op_at ops k)
  legal_entries k lt =
      subst (λ h. IsLegalEntryOp h (entry_op_at ops k))
      (ap held_in (entries_at m ops k) ∙ held k (omega (arith, lt)))
      (legal_at version m ops legal k lt).entry

  -- ---- numbers

  pub making : (k : ℕ) → k < n → (e : Entry) (d : ℕ) → entry_op_at ops k ≡ Create e (Directory d)
      → IsMaking version (at k) (op_at ops k) e d
  making k lt e d is =
      making_by version (made_at m ops k) (op_at ops k) e d (legal_at version m ops legal k lt) is

  -- the entry is the home of the number of a directory that is made, if the number is the next one
  pub new_home : (k : ℕ) → k < n → (e : Entry) (d : ℕ) → entry_op_at ops k ≡ Create e (Directory d)
      → d ≡ length (at k) → at (suc k) ≡ at k ++ e ∷ []
  new_home k lt e d is next =
      (making k lt e d is).next
      ∙ ap (λ b. if b then at k ++ e ∷ [] else at k) (same_eqb d (length (at k)) next)
    where
      same_eqb : (a b : ℕ) → a ≡ b → (a == b) ≡ true
      same_eqb a b e = eq-eqb a b e

  rooted : 0 < length m.homes
  rooted = slice_get_within m.homes 0 root_home homes.root

  start_low : (e : Entry) (d : ℕ) → held_in m.entries e ≡ Some (Directory d) → d < length m.homes
  start_low e d is = slice_get_within m.homes d e (homes.each e d is)

  pub numbered : is_fourth version ≡ true → AreNumbered (held_in m.entries) (entry_op_at ops) n
  numbered fourth k d e lt is = (
    (λ zero_is. (let low = (keeps m ops 0 k (omega arith)).long in let r = rooted in
        omega (arith, zero_is, number, low, r))),
    (λ f held_is. (let low = (keeps m ops 0 k (omega arith)).long in let s = start_low f d held_is in
        omega (arith, number, low, s))),
    (λ i f before other. (let low = (keeps m ops (suc i) k (omega (arith, before))).long in
        let own : d ≡ length (at i) = next_number i (omega (arith, before, lt)) f other in
        let more = ap length (new_home i (omega (arith, before, lt)) f d other own) in
        omega (arith, number, low, own, more, length-append {A = Entry}))),
  )
    where
      next_number : (i : ℕ) → i < n → (f : Entry) → entry_op_at ops i ≡ Create f (Directory d)
          → d ≡ length (at i)
      next_number i low f other =
          (making i low f d other).number
          ∙ ap (λ b. if b then length (at i) else place_of f (at i)) fourth

      number : d ≡ length (at k)
      number = next_number k lt e is

  pub fixed : is_fourth version ≡ false → AreFixed (held_in m.entries) (entry_op_at ops) n
  fixed early = record {
    stay = λ k lt moves. false≢true
        (sym early ∙ move_by version (made_at m ops k) (op_at ops k)
        (legal_at version m ops legal k lt) moves);
    home = home_in (at n);
    first = λ e d is.
        (keeps m ops 0 n (omega arith)).same d (start_low e d is)
        ∙ get_or_from_slice_get m.homes d e root_home (homes.each e d is);
    made = λ k e d lt is. by k e d lt is (placed e (at k));
  }
    where
      number : (k : ℕ) → k < n → (e : Entry) (d : ℕ)
          → entry_op_at ops k ≡ Create e (Directory d) → d ≡ place_of e (at k)
      number k lt e d is =
          (making k lt e d is).number
          ∙ ap (λ b. if b then length (at k) else place_of e (at k)) early

      by : (k : ℕ) (e : Entry) (d : ℕ) → k < n → entry_op_at ops k ≡ Create e (Directory d)
          → ((place_of e (at k) < length (at k)) × (home_in (at k) (place_of e (at k)) ≡ e))
          ⊎ (place_of e (at k) ≡ length (at k))
          → home_in (at n) d ≡ e
      by k e d lt is (inl inside) =
          (let num = number k lt e d is in
          let low : d < length (at k) = subst (λ p. p < length (at k)) (sym num) inside.0 in
          (keeps m ops k n (omega (arith, lt))).same d low ∙ ap (home_in (at k)) num ∙ inside.1)
      by k e d lt is (inr past) =
          (let num : d ≡ length (at k) = number k lt e d is ∙ past in
          let new = new_home k lt e d is num in
          let long = ap length new in
          let low : d < length (at (suc k)) =
          omega (arith, num, long, length-append {A = Entry}) in
          (keeps m ops (suc k) n (omega (arith, lt))).same d low
          ∙ ap (λ hs. home_in hs d) new ∙ ap (home_in (at k ++ e ∷ [])) num
          ∙ get_or-last (at k) e)
        where
          get_or-last : (xs : List Entry) (e : Entry) → home_in (xs ++ e ∷ []) (length xs) ≡ e
          get_or-last [] e = refl
          get_or-last (x ∷ xs) e = get_or-last xs e

  pub few : AreFew (held_in m.entries) (entry_op_at ops) n
      (length m.homes + length (directories_made ops))
  few = record {
    first = λ e d is. (let s = start_low e d is in omega (arith, s));
    made = λ k e d lt is.
        (let most = counted m ops in let low = below k e d lt is in
        let long = (keeps m ops (suc k) n (omega (arith, lt))).long in
        omega (arith, most, low, long));
  }
    where
      below_by : (k : ℕ) (e : Entry) (d : ℕ) → k < n
          → entry_op_at ops k ≡ Create e (Directory d) → (b : Bool) → is_fourth version ≡ b
          → d < length (at (suc k))
      below_by k e d lt is true fourth =
          (let num : d ≡ length (at k) = (making k lt e d is).number
          ∙ ap (λ b. if b then length (at k) else place_of e (at k)) fourth in
          let long = ap length (new_home k lt e d is num) in
          omega (arith, num, long, length-append {A = Entry}))
      below_by k e d lt is false early = ⊎_elim
          (λ (inside : (place_of e (at k) < length (at k))
          × (home_in (at k) (place_of e (at k)) ≡ e)).
          (let long = (keeps m ops k (suc k) (omega arith)).long in let l = inside.0 in
          let num = number in omega (arith, num, long, l)))
          (λ (past : place_of e (at k) ≡ length (at k)).
          (let num : d ≡ length (at k) = number ∙ past in
          let long = ap length (new_home k lt e d is num) in
          omega (arith, num, long, length-append {A = Entry})))
          (placed e (at k))
        where
          number : d ≡ place_of e (at k)
          number =
              (making k lt e d is).number
              ∙ ap (λ b. if b then length (at k) else place_of e (at k)) early

      below : (k : ℕ) (e : Entry) (d : ℕ) → k < n
          → entry_op_at ops k ≡ Create e (Directory d) → d < length (at (suc k))
      below k e d lt is = below_by k e d lt is (is_fourth version) refl
