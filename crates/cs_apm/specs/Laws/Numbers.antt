-- The numbers of directories before the fourth version.
use Rattle.std.proofs.Common.{◌≡◌, ◌≢◌, ℕ, zero, suc, ◌+◌, ◌<◌, ◌≤◌, Bool, true, false}
use Rattle.std.proofs.Common.{List, [], ◌∷◌, ◌++◌, ◌⊎◌, Option, None, Some, refl, sym, ap}
use Rattle.std.proofs.Common.{◌∙◌, subst, arith, ⊎_elim, length, length-append}
use Rattle.std.proofs.lemmas.Bool.{cases_eq}
use Rattle.std.proofs.lemmas.Option.{get_or_from_slice_get, slice_get_within}
use Rattle.std.specs.Prelude.{if◌then◌else◌}
use Rattle.cs_entries.specs.declared.node.Node.{Node}
use Rattle.cs_entries.specs.declared.node.Node.TheVariants.{Directory, File}
use Rattle.cs_entries.specs.DirEntries.{root_home}
use Rattle.cs_entries.specs.declared.entry.Entry.{Entry}
use Rattle.cs_entries.specs.Entries.{Create}
use Rattle.cs_entries.specs.Entries.{entry_eq}
use Rattle.cs_entries.specs.Legal.{IsLegal as IsLegalEntryOp}
use Rattle.cs_entries.specs.Tables.{held_in}
use Rattle.cs_entries.specs.Laws.One.{same_entry, same_number}
use Rattle.cs_entries.specs.Legal.{IsHeld}
use Rattle.cs_trace_lines.specs.Versions.{is_fourth}
use Rattle.cs_trace_lines.specs.declared.version.Version.{Version}
use Rattle.cs_trace.specs.Operations.{place_of}
use Rattle.cs_trace.specs.Traces.{AreHomes}
use Rattle.cs_micro.specs.Legal.{AreLegal, Made, homes_after}
use Rattle.cs_micro.specs.declared.micro_op.MicroOp.{MicroOp}
use Rattle.cs_apm.specs.Rules.{entry_op_at, op_at}
use Rattle.cs_apm.specs.Laws.Makings.{made_at, legal_at}
use Rattle.cs_apm.specs.Laws.Homes.{grown, home_in, homes_at, keeps, placed, making, new_home}

-- ---- the numbers of directories before the fourth version

-- an entry that is among some stays at its place, whatever comes after
place_kept : (e f : Entry) (hs : List Entry) → place_of e hs < length hs
    → place_of e (hs ++ f ∷ []) ≡ place_of e hs
place_kept e f [] low = absurd (omega (arith, low))
place_kept e f (x ∷ hs) low = by (entry_eq e x) low (place_kept e f hs)
  where
    by : (b : Bool) → (if b then 0 else suc (place_of e hs)) < suc (length hs)
        → (place_of e hs < length hs → place_of e (hs ++ f ∷ []) ≡ place_of e hs)
        → (if b then 0 else suc (place_of e (hs ++ f ∷ [])))
        ≡ (if b then 0 else suc (place_of e hs))
    by true h rest = refl
    by false h rest = ap suc (rest (omega (arith, h)))

-- and one that isn't comes to stand at the end
place_last : (e : Entry) (hs : List Entry) → place_of e hs ≡ length hs
    → place_of e (hs ++ e ∷ []) ≡ length hs
place_last e [] none = ap (λ b. if b then 0 else 1) (same_entry e)
place_last e (x ∷ hs) none = by (entry_eq e x) none (place_last e hs)
  where
    by : (b : Bool) → (if b then 0 else suc (place_of e hs)) ≡ suc (length hs)
        → (place_of e hs ≡ length hs → place_of e (hs ++ e ∷ []) ≡ length hs)
        → (if b then 0 else suc (place_of e (hs ++ e ∷ []))) ≡ suc (length hs)
    by true h rest = absurd (omega (arith, h))
    by false h rest = ap suc (rest (omega (arith, h)))

-- it isn't behind a place where it is
place_low : (e : Entry) (hs : List Entry) (c : ℕ) → c < length hs → home_in hs c ≡ e
    → place_of e hs ≤ c
place_low e [] c low is = absurd (omega (arith, low))
place_low e (x ∷ hs) zero low is =
    subst (λ b. (if b then 0 else suc (place_of e hs)) ≤ 0)
    (sym (ap (entry_eq e) is ∙ same_entry e)) (omega arith)
place_low e (x ∷ hs) (suc c) low is =
    by (entry_eq e x) (place_low e hs c (omega (arith, low)) is)
  where
    by : (b : Bool) → place_of e hs ≤ c → (if b then 0 else suc (place_of e hs)) ≤ suc c
    by true rest = omega arith
    by false rest = omega (arith, rest)

place_stays : (e : Entry) (hs : List Entry) (o : MicroOp) → place_of e hs < length hs
    → place_of e (homes_after hs o) ≡ place_of e hs
place_stays e hs o low = ⊎_elim
    (λ (same : homes_after hs o ≡ hs). ap (place_of e) same)
    (λ (more : (f : Entry) × (homes_after hs o ≡ hs ++ f ∷ [])).
    ap (place_of e) more.1 ∙ place_kept e more.0 hs low)
    (grown hs o)

module _ (version : Version) (m : Made) (ops : List MicroOp) (legal : AreLegal version m ops)
    (homes : AreHomes m.entries m.homes) where
  abbrev count : ℕ
  count = length ops

  abbrev after_all : List Entry
  after_all = homes_at m ops count

  stays_placed : (e : Entry) (j k : ℕ) → j ≤ k
      → place_of e (homes_at m ops j) < length (homes_at m ops j)
      → place_of e (homes_at m ops k) ≡ place_of e (homes_at m ops j)
  stays_placed e j zero le low =
      (let z : 0 ≡ j = omega (arith, le) in ap (λ i. place_of e (homes_at m ops i)) z)
  stays_placed e j (suc k) le low = ⊎_elim
      (λ (last : suc k ≡ j). ap (λ i. place_of e (homes_at m ops i)) last)
      (λ (other : suc k ≢ j).
      (let before = stays_placed e j k (omega (arith, le, other)) low in
      let long = (keeps m ops j k (omega (arith, le, other))).long in
      place_stays e (homes_at m ops k) (op_at ops k)
      (subst (λ p. p < length (homes_at m ops k)) (sym before) (omega (arith, low, long)))
      ∙ before))
      (cases_eq (suc k) j)

  number_by : Option Node → Entry → ℕ
  number_by (Some (Directory d)) e = d
  number_by (Some (File kind file)) e = place_of e after_all
  number_by None e = place_of e after_all

  -- the number of the directory that an entry has, or would have
  pub number_of : Entry → ℕ
  number_of e = number_by (held_in m.entries e) e

  pub number_at_start : (e : Entry) (d : ℕ) → held_in m.entries e ≡ Some (Directory d)
      → number_of e ≡ d
  unfolding number_of number_by
  number_at_start e d is = ap (λ o. number_by o e) is

  pub number_made : is_fourth version ≡ false
      → ((d : ℕ) → 0 < d → d < length m.homes → IsHeld (held_in m.entries) d)
      → (k : ℕ) (e : Entry) (d : ℕ) → k < count → entry_op_at ops k ≡ Create e (Directory d)
      → number_of e ≡ d
  unfolding number_of number_by
  number_made early used k e d lt is = by (held_in m.entries e) refl
    where
      number : d ≡ place_of e (homes_at m ops k)
      number =
          (making version m ops legal homes k lt e d is).number
          ∙ ap (λ b. if b then length (homes_at m ops k) else place_of e (homes_at m ops k)) early

      -- after it is made
      placed_after : (place_of e (homes_at m ops (suc k)) ≡ d)
          × (d < length (homes_at m ops (suc k)))
      placed_after = ⊎_elim
          (λ (inside : (place_of e (homes_at m ops k) < length (homes_at m ops k))
          × (home_in (homes_at m ops k) (place_of e (homes_at m ops k)) ≡ e)). (
            place_stays e (homes_at m ops k) (op_at ops k) inside.0 ∙ sym number,
            (let long = (keeps m ops k (suc k) (omega arith)).long in let l = inside.0 in
                omega (arith, number, long, l)),
          ))
          (λ (past : place_of e (homes_at m ops k) ≡ length (homes_at m ops k)).
          (let next = number ∙ past in
          let new = new_home version m ops legal homes k lt e d is next in
          let long = ap length new in (
            ap (place_of e) new ∙ place_last e (homes_at m ops k) past ∙ sym next,
            omega (arith, next, long, length-append {A = Entry}),
          )))
          (placed e (homes_at m ops k))

      at_end : place_of e after_all ≡ d
      at_end =
          (let low = placed_after.1 in
          stays_placed e (suc k) count (omega (arith, lt))
          (subst (λ p. p < length (homes_at m ops (suc k))) (sym placed_after.0) low)
          ∙ placed_after.0)

      by : (o : Option Node) → held_in m.entries e ≡ o → number_by o e ≡ d
      by None held = at_end
      by (Some (File kind file)) held = at_end
      by (Some (Directory c)) held =
          (let there = homes.each e c held in
          let c_low = slice_get_within m.homes c e there in
          let c_is : home_in m.homes c ≡ e = get_or_from_slice_get m.homes c e root_home there in
          let low = place_low e m.homes c c_low c_is in
          let first = place_of e m.homes in
          let first_low : first < length m.homes = omega (arith, low, c_low) in
          let d_is : d ≡ first = number ∙ stays_placed e 0 k (omega arith) first_low in
          ⊎_elim
          (λ (inside : (place_of e m.homes < length m.homes)
          × (home_in m.homes (place_of e m.homes) ≡ e)). ⊎_elim
          (λ (none : first ≡ 0). absurd
          (let l = subst (IsLegalEntryOp (held_in (made_at m ops k).entries)) is
          (legal_at version m ops legal k lt).entry in l.2.0 (d_is ∙ none)))
          (λ (some : first ≢ 0).
          (let f = used first (omega (arith, some)) first_low in
          let f_is : f.0 ≡ e =
          sym (get_or_from_slice_get m.homes first f.0 root_home (homes.each f.0 first f.1))
          ∙ inside.1 in
          same_number c first (sym held ∙ ap (held_in m.entries) (sym f_is) ∙ f.1) ∙ sym d_is))
          (cases_eq first 0))
          (λ (past : place_of e m.homes ≡ length m.homes). absurd (omega (arith, past, first_low)))
          (placed e m.homes))
