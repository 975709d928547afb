-- The runs of the first of two groups, in a registry and in another one that has only them.
use Rattle.std.proofs.Common.{◌≡◌, ◌≢◌, ◌∙◌, ℕ, zero, suc, ◌+◌, ◌<◌, ◌≤◌, ◌==◌, Bool, true, false, not, cond, [], ◌∷◌, ◌++◌, length}
use Rattle.std.proofs.Common.{length-append, Option, None, Some, refl, sym, ap, arith, inl, inr}
use Rattle.std.specs.Prelude.{slice_get, slice_set}
use Rattle.std.specs.Option.{option_map, option_map_or, option_or}
use Rattle.std.proofs.lemmas.Bool.{eqb-true, eqb-false, eq-eqb, ne_eqb}
use Rattle.std.proofs.lemmas.Option.{slice_get_within}
use Rattle.cs_journal.specs.Runs.{RunOf}
use Rattle.cs_registry.specs.declared.found.Found.{Found}
use Rattle.cs_registry.specs.Keys.{Key, same_key}
use Rattle.cs_registry.specs.Registries.{Registry}
use Rattle.cs_registry.specs.Runs.{Runs, change, key_at, place_of}
use Rattle.cs_world.proofs.Keyed as keyed
use Rattle.cs_world.proofs.Placing.{get_end, get_kept, get_pushed, get_set_same}
use Rattle.cs_world.proofs.Reached.{change_other, length_change}

abbrev pub Kept : Type 0
Kept = Key × Found RunOf

-- ---- lists of runs

module _ (runs : Runs RunOf) (n : ℕ) (new : Found RunOf → Found RunOf) where
  change_here : (e : Kept) → slice_get runs n ≡ Some e → slice_get (change new n runs) n ≡ Some (e.0, new e.1)
  change_here e is = rw is (get_set_same runs n (e.0, new e.1) e is)

  key_by : (p : ℕ) (b : Bool) → (p == n) ≡ b → (o : Option Kept) → slice_get runs n ≡ o → key_at (change new n runs) p ≡ key_at runs p
  key_by p false e o is = ap (option_map (λ (x : Kept). x.0)) (change_other new runs n p (eqb-false p n e))
  key_by p true e None is =
      ap (λ (xs : Runs RunOf). key_at xs p)
      (ap (λ (o : Option Kept). option_map_or (λ (run : Kept). slice_set runs n (run.0, new run.1)) o runs) is)
  key_by p true e (Some x) is =
      let same : p ≡ n = eqb-true p n e in
      ap (key_at (change new n runs)) same ∙ ap (option_map (λ (y : Kept). y.0)) (change_here x is) ∙ sym
      (ap (option_map (λ (y : Kept). y.0)) is) ∙ sym (ap (key_at runs) same)

  key_change : (p : ℕ) → key_at (change new n runs) p ≡ key_at runs p
  key_change p = key_by p (p == n) refl (slice_get runs n) refl

-- a test of the key at a place, if a run is there
abbrev pub tests : (Key → Bool) → Runs RunOf → ℕ → Bool
tests g runs p = option_map_or g (key_at runs p) false

module _ (g : Key → Bool) (runs : Runs RunOf) where
  pub tests_change : (n : ℕ) (new : Found RunOf → Found RunOf) (p : ℕ) → tests g runs p ≡ true → tests g (change new n runs) p ≡ true
  tests_change n new p is = ap (λ (o : Option Key). option_map_or g o false) (key_change runs n new p) ∙ is

  push_by : (x : Kept) (p : ℕ) (o : Option Kept) → slice_get runs p ≡ o → option_map_or g (option_map (λ (y : Kept). y.0) o) false ≡ true
      → tests g (runs ++ x ∷ []) p ≡ true
  push_by x p None there is = absurd (cc)
  push_by x p (Some e) there is =
      ap (λ (o : Option Kept). option_map_or g (option_map (λ (y : Kept). y.0) o) false) (get_kept runs (x ∷ []) p e there) ∙ is

  pub tests_push : (x : Kept) (p : ℕ) → tests g runs p ≡ true → tests g (runs ++ x ∷ []) p ≡ true
  tests_push x p is = push_by x p (slice_get runs p) refl is

  pub tests_at : (p : ℕ) (e : Kept) → slice_get runs p ≡ Some e → tests g runs p ≡ g e.0
  tests_at p e there = ap (λ (o : Option Kept). option_map_or g (option_map (λ (y : Kept). y.0) o) false) there

  some_by : (p : ℕ) (o : Option Kept) → slice_get runs p ≡ o → option_map_or g (option_map (λ (y : Kept). y.0) o) false ≡ true → (e : Kept)
      × (slice_get runs p ≡ Some e)
  some_by p None there is = absurd (cc)
  some_by p (Some e) there is = (e, there)

  pub some_at : (p : ℕ) → tests g runs p ≡ true → (e : Kept) × (slice_get runs p ≡ Some e)
  some_at p is = some_by p (slice_get runs p) refl is

-- a run is at the place
abbrev pub there : Registry RunOf → ℕ → Bool
there r p = tests (λ key. true) r.runs p

module _ (ours : Key → Bool) where
  -- and it is one of the other group's
  abbrev pub their : Registry RunOf → ℕ → Bool
  their r p = tests (λ key. not (ours key)) r.runs p

  -- the second registry has only the runs of the first group, each of which is in the first one too, at the place that f gives
  pub record AgreeRuns (f : ℕ → ℕ) (w v : Registry RunOf) : Type 0 where
    pub scene : w.scene ≡ v.scene
    pub users : w.users ≡ v.users
    pub published : w.published ≡ v.published
    pub runs : (p : ℕ) (e : Kept) → slice_get v.runs p ≡ Some e → slice_get w.runs (f p) ≡ Some e
    pub known : (key : Key) → ours key ≡ true → place_of key w.runs ≡ option_map f (place_of key v.runs)
    pub apart : (p q : ℕ) → p < length v.runs → q < length v.runs → f p ≡ f q → p ≡ q
    pub owned : (p : ℕ) (e : Kept) → slice_get v.runs p ≡ Some e → ours e.0 ≡ true
    pub fewer : length v.runs ≤ length w.runs

  -- ---- a run of the first group changes in both

  module _ (f : ℕ → ℕ) (w v : Registry RunOf) (a : AgreeRuns f w v) (new : Found RunOf → Found RunOf) (p : ℕ) (e : Kept)
      (is : slice_get v.runs p ≡ Some e) where
    abbrev w_with : Registry RunOf
    w_with = record w { runs = change new (f p) w.runs }

    abbrev v_with : Registry RunOf
    v_with = record v { runs = change new p v.runs }

    changed_by : (k : ℕ) (b : Bool) → (k == p) ≡ b → (x : Kept) → slice_get v_with.runs k ≡ Some x → (slice_get w_with.runs (f k) ≡ Some x)
        × (ours x.0 ≡ true)
    changed_by k true same x at =
        let eq : k ≡ p = eqb-true k p same in
        let here : Some (e.0, new e.1) ≡ Some x = sym (change_here v.runs p new e is) ∙ ap (slice_get v_with.runs) (sym eq) ∙ at in
        let its : ◌≡◌ {A = Kept} (e.0, new e.1) x = cc in (
          ap (λ (n : ℕ). slice_get w_with.runs (f n)) eq ∙ change_here w.runs (f p) new e (a.runs p e is) ∙ ap Some its,
          ap ours
              (ap (λ (y : Kept). y.0) (sym its)) ∙ a.owned p e is,
        )
    changed_by k false differ x at =
        let other : k ≢ p = eqb-false k p differ in
        let was : slice_get v.runs k ≡ Some x = sym (change_other new v.runs p k other) ∙ at in
        let far : f k ≢ f p = λ same. other (a.apart k p (slice_get_within v.runs k x was) (slice_get_within v.runs p e is) same) in
        (change_other new w.runs (f p) (f k) far ∙ a.runs k x was, a.owned k x was)

    pub both_change : AgreeRuns f w_with v_with
    both_change = record {
      scene = a.scene;
      users = a.users;
      published = a.published;
      runs = λ k x at. (changed_by k (k == p) refl x at).0;
      known = λ key own. keyed.place_change key new (f p) w.runs ∙ a.known key own ∙ ap (option_map f)
          (sym (keyed.place_change key new p v.runs));
      apart = λ k n low high. a.apart k n (omega (arith, low, length_change new v.runs p))
          (omega (arith, high, length_change new v.runs p));
      owned = λ k x at. (changed_by k (k == p) refl x at).1;
      fewer = omega (arith, a.fewer, length_change new v.runs p, length_change new w.runs (f p));
    }

  -- ---- a run of the first group is made in both

  module _ (f : ℕ → ℕ) (w v : Registry RunOf) (a : AgreeRuns f w v) (key : Key) (one : Found RunOf) (own : ours key ≡ true) where
    abbrev pub f_more : ℕ → ℕ
    f_more p = cond (p == length v.runs) (length w.runs) (f p)

    abbrev w_more : Registry RunOf
    w_more = record w { runs = w.runs ++ (key, one) ∷ [] }

    abbrev v_more : Registry RunOf
    v_more = record v { runs = v.runs ++ (key, one) ∷ [] }

    pub f_old : (p : ℕ) → p < length v.runs → f_more p ≡ f p
    f_old p low =
        let other : (p == length v.runs) ≡ false = ne_eqb p (length v.runs) (λ same. omega (arith, same, low)) in
        rw other refl

    pub f_new : f_more (length v.runs) ≡ length w.runs
    f_new = rw (eq-eqb (length v.runs) (length v.runs) refl) refl

    f_low : (p : ℕ) → p < length v.runs → f p < length w.runs
    f_low p low =
        let its = get_in v.runs p low in
        slice_get_within w.runs (f p) its.0 (a.runs p its.0 its.1)
      where
        get_in : (xs : Runs RunOf) (n : ℕ) → n < length xs → (x : Kept) × (slice_get xs n ≡ Some x)
        get_in [] n inside = absurd (omega arith)
        get_in (x ∷ xs) zero inside = (x, refl)
        get_in (x ∷ xs) (suc n) inside = get_in xs n (omega arith)

    pushed_runs : (p : ℕ) (e : Kept) → slice_get v_more.runs p ≡ Some e → (slice_get w_more.runs (f_more p) ≡ Some e) × (ours e.0 ≡ true)
    pushed_runs p e at = elim (get_pushed v.runs p (key, one) e at) [
      | inl new ↦ (
        ap (λ (n : ℕ). slice_get w_more.runs (f_more n)) new.0 ∙ ap (slice_get w_more.runs) f_new ∙ get_end w.runs (key, one) ∙ ap Some
            (sym new.1),
        ap (λ (x : Kept). ours x.0) new.1 ∙ own,
      )
      | inr old ↦ (
        ap (slice_get w_more.runs) (f_old p (slice_get_within v.runs p e old.1)) ∙ get_kept w.runs ((key, one) ∷ []) (f p) e
            (a.runs p e old.1),
        a.owned p e old.1,
      )
    ]

    pushed_by : (k : Key) (o : Option ℕ) (b : Bool) → place_of k v.runs ≡ o
        → option_or (option_map f o) (cond b (Some (length w.runs)) None)
        ≡ option_map f_more (option_or o (cond b (Some (length v.runs)) None))
    pushed_by k (Some p) b is = ap Some (sym (f_old p (keyed.inside k v.runs p is)))
    pushed_by k None true is = ap Some (sym f_new)
    pushed_by k None false is = refl

    pushed_apart : (p n : ℕ) → p < length v.runs + 1 → n < length v.runs + 1 → (b d : Bool) → (p == length v.runs) ≡ b
        → (n == length v.runs) ≡ d → f_more p ≡ f_more n → p ≡ n
    pushed_apart p n low high true true is js e = eqb-true p (length v.runs) is ∙ sym (eqb-true n (length v.runs) js)
    pushed_apart p n low high true false is js e =
        let last : p ≡ length v.runs = eqb-true p (length v.runs) is in
        let less : n < length v.runs = (let other = eqb-false n (length v.runs) js in omega (arith, other, high)) in
        let same : length w.runs ≡ f n = sym f_new ∙ ap f_more (sym last) ∙ e ∙ f_old n less in
        absurd (omega (arith, same, f_low n less))
    pushed_apart p n low high false true is js e =
        let last : n ≡ length v.runs = eqb-true n (length v.runs) js in
        let less : p < length v.runs = (let other = eqb-false p (length v.runs) is in omega (arith, other, low)) in
        let same : length w.runs ≡ f p = sym f_new ∙ ap f_more (sym last) ∙ sym e ∙ f_old p less in
        absurd (omega (arith, same, f_low p less))
    pushed_apart p n low high false false is js e =
        let less : p < length v.runs = (let other = eqb-false p (length v.runs) is in omega (arith, other, low)) in
        let less_n : n < length v.runs = (let other = eqb-false n (length v.runs) js in omega (arith, other, high)) in
        a.apart p n less less_n (sym (f_old p less) ∙ e ∙ f_old n less_n)

    pub both_more : AgreeRuns f_more w_more v_more
    both_more =
        let count_v : length v_more.runs ≡ length v.runs + 1 = length-append v.runs ((key, one) ∷ []) in
        let count_w : length w_more.runs ≡ length w.runs + 1 = length-append w.runs ((key, one) ∷ []) in
        record {
          scene = a.scene;
          users = a.users;
          published = a.published;
          runs = λ p e at. (pushed_runs p e at).0;
          known = λ k is. keyed.place_push k w.runs key one ∙ ap
              (λ (o : Option ℕ). option_or o (cond (same_key k key) (Some (length w.runs)) None)) (a.known k is)
              ∙ pushed_by k (place_of k v.runs) (same_key k key) refl ∙ ap (option_map f_more) (sym (keyed.place_push k v.runs key one));
          apart = λ p n low high e. pushed_apart p n (omega (arith, low, count_v)) (omega (arith, high, count_v)) (p == length v.runs)
              (n == length v.runs) refl refl e;
          owned = λ p e at. (pushed_runs p e at).1;
          fewer = omega (arith, a.fewer, count_v, count_w);
        }

  -- ---- a run of the second group changes, or is made

  module _ (f : ℕ → ℕ) (w v : Registry RunOf) (a : AgreeRuns f w v) where
    far : (p : ℕ) → their w p ≡ true → (k : ℕ) (e : Kept) → slice_get v.runs k ≡ Some e → f k ≢ p
    far p is k e at same =
        let here : slice_get w.runs p ≡ Some e = ap (slice_get w.runs) (sym same) ∙ a.runs k e at in
        let own : not (ours e.0) ≡ true = sym (tests_at (λ key. not (ours key)) w.runs p e here) ∙ is in
        let yes : ours e.0 ≡ true = a.owned k e at in
        let no_more : not true ≡ true = ap not (sym yes) ∙ own in
        cc

    pub other_change : (new : Found RunOf → Found RunOf) (p : ℕ) → their w p ≡ true → AgreeRuns f (record w {
      runs = change new p w.runs;
    }) v
    other_change new p is = record {
      scene = a.scene;
      users = a.users;
      published = a.published;
      runs = λ k e at. change_other new w.runs p (f k) (far p is k e at) ∙ a.runs k e at;
      known = λ key own. keyed.place_change key new p w.runs ∙ a.known key own;
      apart = a.apart;
      owned = a.owned;
      fewer = omega (arith, a.fewer, length_change new w.runs p);
    }

    not_same : (k key : Key) → ours k ≡ true → ours key ≡ false → (b : Bool) → same_key k key ≡ b → b ≡ false
    not_same k key own other true is = absurd (let same : ours k ≡ ours key = ap ours (keyed.same_is k key is) in cc)
    not_same k key own other false is = refl

    or_none : (o : Option ℕ) → option_or o None ≡ o
    or_none None = refl
    or_none (Some n) = refl

    pub other_more : (key : Key) (one : Found RunOf) → ours key ≡ false → AgreeRuns f (record w { runs = w.runs ++ (key, one) ∷ [] }) v
    other_more key one other = record {
      scene = a.scene;
      users = a.users;
      published = a.published;
      runs = λ k e at. get_kept w.runs ((key, one) ∷ []) (f k) e (a.runs k e at);
      known = λ k own. keyed.place_push k w.runs key one ∙ ap
          (λ (b : Bool). option_or (place_of k w.runs) (cond b (Some (length w.runs)) None))
          (not_same k key own other (same_key k key) refl) ∙ or_none (place_of k w.runs) ∙ a.known k own;
      apart = a.apart;
      owned = a.owned;
      fewer = omega (arith, a.fewer, length-append w.runs ((key, one) ∷ []));
    }
